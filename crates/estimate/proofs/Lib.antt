-- The laws of specs/ that nothing there cites.
pub mod Exponential
pub mod ExponentialBounds
pub mod ExponentialLaws
pub mod Logarithm
pub mod LogarithmLaws
pub mod Power
pub mod PowerLaws
pub mod Remainder
pub mod SignedExponent
pub mod ExponentialOver
