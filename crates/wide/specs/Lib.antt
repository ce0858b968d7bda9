-- What a reader must believe: Scaling, what a * n / d rounded down or up is and what the calls answer; Narrow of Rounding, a width.
-- Laws: what rounding keeps of a bound, an order and a width (the rest of Rounding).
pub mod Scaling
pub mod Rounding
