-- What a reader must believe: Exponential, the brackets of e^x and e^(-x) and what the calls answer; Scale, Stored and Taylor, of which they are made;
-- StoredBrackets, those of exponents that are known beforehand. Laws: that they stand at every depth, how wide they are, how large, and that one
-- test of a table carries to its entries.
pub mod Exponential
pub mod Scale
pub mod Stored
pub mod Taylor
pub mod StoredLaws
pub mod TaylorLaws
pub mod ExponentialEnds
pub mod ExponentialMost
pub mod StoredBrackets
pub mod StoredBracketLaws
