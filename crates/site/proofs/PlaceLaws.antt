-- Laws of PlaceLaws in specs/.
use Rattle.std.specs.Prelude.{◌≡◌, List, length}
use Rattle.std.proofs.Math.Path.{ap, sym}
use Rattle.std.proofs.Common.{◌∙◌}
use Prim.Native.Nat.{ℕ, zero, suc, ◌+◌, ◌*◌, ◌%◌, ◌≤◌}
use native.Mathlib.Omega.{arith}
use Rattle.std.proofs.Math.ListN.{drop}
use Rattle.std.proofs.Math.Seq.{drop-drop}
use Rattle.std.proofs.lemmas.Bool.{not-false}
use Rattle.site.specs.Record.{word, misses, kind_in, field_map_in, rules_in, later_in, later_minor_in, fields_in}
use Rattle.site.specs.Fields.{standing, later_told, numbers_below, place_of, number_at}
use Rattle.laws.specs.Truth.{or_left}
use Rattle.site.specs.LaterLaws.{gathered_first, gathered_second, gathered_rest}
use Rattle.site.specs.Accepted.{MapPasses}
use Rattle.site.specs.BitLaws.{later_told_lem, minor_told, word_at}
use Rattle.site.specs.Curve.{map_matched}
use Rattle.site.proofs.Curve.{misses_by_bits}
use Rattle.site.specs.PlaceLaws.{BothStand, below_more, below_one, matched_both, two_stand}

pub passes_both : (edition years : ℕ) (s : List ℕ) → MapPasses edition years s → BothStand (field_map_in s)
passes_both edition years s p =
    let m = or_left (misses (rules_in edition s) (field_map_in s)) _ p.miss in
    matched_both (kind_in s) (field_map_in s) (not-false (map_matched (kind_in s) (field_map_in s)) (sym (misses_by_bits edition (kind_in s) (field_map_in s) p.head.known) ∙ m))

-- THE NUMBER OF A BIT among the gathered fields is that of its place
module _ (years : ℕ) (s : List ℕ) (both : BothStand (field_map_in s)) (between : 4 + 2 * later_in years s + 2 * later_minor_in years s ≤ length (drop 3 s)) where
  pub number_of : (b : ℕ) → word_at b (field_map_in s) (fields_in years s) ≡ number_at years b s
  unfolding numbers_below standing
  number_of zero = gathered_first (later_in years s) (later_minor_in years s) (drop 3 s) between
  number_of (suc zero) =
      let n = later_in years s in
      let one = below_one (kind_in s) (later_told years s) (field_map_in s) both in
      let e : 2 * (field_map_in s % 2 + 0) ≡ 2 = omega (arith, both.zeroth) in
      let f : place_of years 1 s + 2 * 0 ≡ 3 + (2 + 2 * n) = omega (arith, one, later_told_lem years s) in
      rw e (gathered_second n (later_minor_in years s) (drop 3 s) between ∙ ap word (drop-drop (2 + 2 * n) 3 s ∙ ap (λ (k : ℕ). drop k s) (sym f)))
  number_of (suc (suc b)) =
      let told = later_told years s in
      let two = two_stand (kind_in s) told (field_map_in s) both b in
      let more = below_more (kind_in s) told (field_map_in s) both b in
      at (2 * standing (suc (suc b)) (field_map_in s)) (omega arith) (omega (arith, more, later_told_lem years s, minor_told years s))
    where
      at : (p : ℕ) → 4 ≤ p → place_of years (suc (suc b)) s + 2 * 0 ≡ 3 + (p + (2 * later_in years s + 2 * later_minor_in years s))
          → word (drop p (fields_in years s)) ≡ number_at years (suc (suc b)) s
      at (suc (suc (suc (suc p)))) h e =
          let f : suc (suc (suc (suc p))) ≡ 4 + p = omega arith in
          let g : 4 + p + (2 * later_in years s + 2 * later_minor_in years s) ≡ suc (suc (suc (suc p))) + (2 * later_in years s + 2 * later_minor_in years s) = omega arith in
          ap word (ap (λ (k : ℕ). drop k (fields_in years s)) f ∙ gathered_rest (later_in years s) (later_minor_in years s) (drop 3 s) between p
          ∙ drop-drop (4 + p + (2 * later_in years s + 2 * later_minor_in years s)) 3 s ∙ ap (λ (k : ℕ). drop k s) (ap (λ (k : ℕ). 3 + k) g ∙ sym e))
      at zero h e = absurd (omega arith)
      at (suc zero) h e = absurd (omega arith)
      at (suc (suc zero)) h e = absurd (omega arith)
      at (suc (suc (suc zero))) h e = absurd (omega arith)
