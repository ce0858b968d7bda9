-- What a reader must believe: Split, a number as a product and a small rest, and Remainder, what the rest adds to its logarithm and powers.
-- Laws: that the bounds are bounds, how near they are, how large.
pub mod Split
pub mod Remainder
pub mod LogarithmBounds
pub mod ExponentialBounds
pub mod RemainderLaws
pub mod EqualFractions
