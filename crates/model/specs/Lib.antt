-- The road model beside document 01's sections on factors, sites and history, as document 02 amends them. What a reader must believe:
-- Coefficients to StatedWidths. Laws: all the rest, the table of known figures among them; inner steps require `ColumnWithin` and
-- `MeansWithin` of FactorBounds.
pub mod Coefficients
pub mod Widths
pub mod Alignment
pub mod Access
pub mod Crossings
pub mod Parts
pub mod Predicted
pub mod Expected
pub mod StatedWidths
pub mod Editions
pub mod CrashCounts
pub mod CountedWidth
pub mod Grade
pub mod TermLaws
pub mod ExpectedLaws
pub mod SameTraffic
pub mod Truncation
pub mod Neighbours
pub mod KnownFigures
pub mod ManualFigures
pub mod Tempting
pub mod FactorBounds
