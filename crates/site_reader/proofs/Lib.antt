-- What the proofs share.
pub mod AnswerSteps
pub mod LaterSteps
pub mod RecordSteps
