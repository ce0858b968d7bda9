-- The laws of specs/ that nothing there cites.
pub mod HeaderBytes
pub mod HeaderLaws
