-- The laws of specs/ that nothing there cites.
pub mod CrashCounts
pub mod ExpectedLaws
pub mod FactorBounds
pub mod Neighbours
pub mod SameTraffic
pub mod TermLaws
