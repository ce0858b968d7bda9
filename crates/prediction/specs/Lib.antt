-- What a reader must believe: Factors, the bracket of each factor; Stored, those that are stored; Pair, what a site's factors make.
-- Laws: what each factor keeps (Kept), each edition (Editions), the sizes of a site's terms (Terms), what is shown of a pair
-- (PredictedLaws), that no prediction is 0 (Positive), and what the code takes from them (Carrying). Inner steps cite `TermSizes` of
-- Terms, and `major_place`, `minor_place` and `Summed` of Carrying.
pub mod Stored
pub mod Factors
pub mod Pair
pub mod Kept
pub mod Editions
pub mod Terms
pub mod PredictedLaws
pub mod Positive
pub mod Carrying
