-- What the proofs share.
pub mod AnyOrder
pub mod Exactly
pub mod Promise
pub mod Sound
pub mod Theorems
pub mod Walks
pub mod WholeCourse
