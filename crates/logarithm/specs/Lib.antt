-- What a reader must believe: Logarithm, the brackets of logarithms and what the call answers; Stored, of which they are made.
-- Laws: that they stand at every depth, how wide they are, how large; that the answer is by the range.
pub mod Logarithm
pub mod Stored
pub mod EstimatesNear
pub mod LogarithmLaws
