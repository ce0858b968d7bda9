-- What a reader must believe: Fraction, Search, Power, Exponential and Logarithm, the estimates at depth d, with the definitions that head
-- SignedExponent; Standing, when a bound is right.
-- Laws: of these (the modules called Laws), and those that carry a computed bound to every depth.
pub mod Fraction
pub mod Search
pub mod Power
pub mod Exponential
pub mod Logarithm
pub mod Standing
pub mod FractionLaws
pub mod WholePower
pub mod PowerLaws
pub mod Sequences
pub mod ExponentialLaws
pub mod ExponentialProducts
pub mod ExponentialBounds
pub mod SignedExponent
pub mod LogarithmLaws
pub mod Remainder
pub mod EqualFractions
pub mod FirstFound
