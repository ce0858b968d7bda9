-- What the proofs share.
pub mod Entries
pub mod AnswerLaws
pub mod LogarithmLaws
pub mod LogarithmStanding
