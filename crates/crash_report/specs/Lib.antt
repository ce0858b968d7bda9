-- The program. To be believed: Printed to `StartsWith`, what is printed for a file, and Input, what reading it answers; the rest of
-- Printed are laws of these.
pub mod Printed
pub mod Input
