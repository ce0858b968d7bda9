-- What the proofs share.
pub mod Lending
pub mod NumberSteps
pub mod LineSteps
pub mod Coding
pub mod FileRoundTrips
pub mod Given
pub mod RoundTrips
pub mod Malformed
