-- What the proofs share.
pub mod Entries
pub mod Fitting
pub mod AnswerLaws
pub mod PowerLaws
pub mod PowerMost
pub mod PowerStanding
