-- ONE REPORT FOR EVERY PROJECT: no report meets the demand of document 01's signal over one year at a calibration of 0.001 and
-- over ten years at 9.999.
use Rattle.std.specs.Prelude.{ℕ, List, [], ◌∷◌}

-- "01 05 03E8 03E8 0001" and "03 0007 2710 03E8 0005", with other years and calibrations
abbrev pub signal_project : (years high low : ℕ) → List ℕ
signal_project years high low = 1 ∷ years ∷ high ∷ low ∷ high ∷ low ∷ 0 ∷ 1 ∷ 3 ∷ 0 ∷ 7 ∷ 39 ∷ 16 ∷ 3 ∷ 232 ∷ 0 ∷ 5 ∷ []
