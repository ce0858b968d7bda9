-- The writer of a whole project file. To be believed: ProjectFile, the file and the answer, Causes, what each answer says, and Promise.
-- The code's steps cite Course too, and no public call does. Laws of these: where each answer is given (Exactly, with Sound), what the
-- code's walks come to (Walks, WholeCourse), wish 1's promises of the file that is written (Theorems), and that sites are
-- written in any order (AnyOrder).
pub mod ProjectFile
pub mod Course
pub mod Causes
pub mod Sound
pub mod Exactly
pub mod Walks
pub mod Promise
pub mod Theorems
