-- What a reader must believe: Bracket, what it means that one stands and how wide it is; Answer, what a call answers; Carry, what a list of
-- factors makes of it; the definitions that head Ratio (a fraction in code, a bracket of two), Reciprocal and Rounded. Laws: all the rest.
pub mod Bracket
pub mod Ratio
pub mod Answer
pub mod Reciprocal
pub mod Rounded
pub mod Carry
pub mod CarryLaws
pub mod WidthLaws
pub mod Pieces
