-- A site's line. To be believed: Line, what it is, and Stands, what is claimed of it. Inner steps cite Weighing and Dispersion too, and
-- no public call does. Laws of these: the others.
pub mod Line
pub mod Stands
pub mod Dispersion
pub mod LineLaws
pub mod Weighing
pub mod AnswerLaws
