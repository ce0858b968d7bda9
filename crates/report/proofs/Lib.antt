-- The laws of specs/ that nothing there cites.
pub mod Accepted
pub mod DemandLaws
pub mod NeededParts
pub mod OneReport
pub mod Zeros
