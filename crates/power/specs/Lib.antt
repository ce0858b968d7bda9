-- What a reader must believe: Power, the brackets of powers and what the call answers; Exponents and Stored, of which they are made.
-- Laws: that they stand at every depth, how wide they are, how large; that the answer is by the range. Ends: both ends as one, and the
-- bounds that inner calls require.
pub mod Power
pub mod Exponents
pub mod Stored
pub mod PowerWidth
pub mod Ends
