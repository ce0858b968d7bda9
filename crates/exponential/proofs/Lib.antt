-- What the proofs share.
pub mod Ends
pub mod ExponentialEnds
pub mod ExponentialLaws
pub mod ExponentialMost
pub mod StoredBracketLaws
pub mod EndsClose
