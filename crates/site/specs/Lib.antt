-- To be believed, since contracts of public calls cite it: Rules, Kinds, Yearly, Answers, Record and Writing, document 01's bits by number (Fields), a
-- site's numbers (`number`, `segment_of` and `crossing_of` of Numbers), and what the public calls promise (Promises, with `RecordCause` of
-- RecordCauses and what stands before it there, `HeadPresent` of Accepted, `map_matched` of Curve, and `RecordLength` of Theorems). Contracts of
-- inner steps cite `bit_count` of Tested, `Parts` of Accepted, `place_after` of LaterLaws, the sizes of Numbers and `longest` of Theorems too.
-- Everything else is a law about these; what more a law speaks of, as `Bytes` of Digits or `WrongLater` of Ranges, is defined before it.
pub mod Rules
pub mod Yearly
pub mod Refusals
pub mod Kinds
pub mod Answers
pub mod Record
pub mod Fields
pub mod Writing
pub mod Digits
pub mod LaterLaws
pub mod Tested
pub mod Accepted
pub mod Ranges
pub mod Numbers
pub mod WriteRead
pub mod ReadWrite
pub mod Bytes
pub mod BytesRead
pub mod BitLaws
pub mod Curve
pub mod PlaceLaws
pub mod FieldsRead
pub mod RecordCauses
pub mod Theorems
pub mod Known
pub mod Promises
