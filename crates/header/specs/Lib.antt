-- The header of a project file. To be believed: Layout, which value stands in which byte, and Causes, the limits and why a header is
-- refused, both by byte number and in document 01's figures. Header has the definitions that the code is proved equal to: what the bytes
-- say, the tests of the limits and the bytes that are written. Laws tie these to the first two: HeaderLaws, that a number is told exactly
-- where its cause is found, and HeaderBytes, that what is written reads back and the other way.
pub mod Layout
pub mod Header
pub mod Causes
pub mod HeaderLaws
pub mod HeaderBytes
