-- What the proofs share.
pub mod Cases
