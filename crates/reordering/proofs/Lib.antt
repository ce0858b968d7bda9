-- The laws of specs/ that nothing there cites.
pub mod ReorderedCalls
pub mod ReorderedLaws
