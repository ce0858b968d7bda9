-- The laws of specs/ that nothing there cites.
pub mod CarryLaws
pub mod Pieces
