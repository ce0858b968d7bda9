-- What the proofs share, here and in the reader and the writer.
pub mod Made
pub mod ReadSteps
pub mod Bytes
pub mod Curve
pub mod FieldsRead
pub mod Known
pub mod PlaceLaws
pub mod Project
pub mod Promises
pub mod ReadWrite
pub mod RecordCauses
pub mod Tested
pub mod Theorems
pub mod WriteRead
pub mod Written
