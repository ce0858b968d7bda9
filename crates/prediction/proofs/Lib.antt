-- The laws of specs/ that nothing there cites.
pub mod Carrying
pub mod PredictedLaws
