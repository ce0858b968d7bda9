-- What the proofs share.
pub mod WriteSteps
pub mod WriteWhole
