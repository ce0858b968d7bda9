-- A file with its report is accepted exactly when none of document 01's causes is found in them, and otherwise has one first cause.
use Rattle.std.specs.Prelude.{Result, Ok, Err}
use Rattle.site.specs.Refusals.{number_of}
use Rattle.project.specs.declared.Refused.{Refused}
use Rattle.std.specs.Prelude.{◌≡◌, refl, Bool, true, false, List, ◌↔◌, ◌⊎◌, ℕ, ◌≤◌, length, drop, ltb}
use Rattle.std.proofs.Common.{ap, sym, subst, ◌∙◌, inl, inr, arith, ltb-true, ltb-false}
use Rattle.laws.specs.Truth.{not_both}
use Rattle.site.proofs.Tested.{neither_unknown}
use Rattle.site.specs.RecordCauses.{RecordCause, edition_neither, years_outside, map_past, kind_above, bit_lacked, bit_missing, field_past, field_outside}
use Rattle.site.specs.RecordCauses.{field_spelled}
use Rattle.site.proofs.RecordCauses.{cause_number, cause_not_zero}
use Rattle.header.specs.Header.{edition_in, count_in}
use Rattle.header.specs.Causes.{HeaderCause, header_cut, header_edition, header_limits, HeaderAccepted}
use Rattle.header.proofs.HeaderLaws.{accepted_edition}
use Rattle.project.specs.File.{years_in, scan_file}
use Rattle.project.specs.Causes.{Starts, RecordNumber, RunsPast, header_past, record_past, report_length, NoCause}
use Rattle.project.specs.Causes.{FirstInBytes, in_header, in_record, in_rest, Whole, FirstCause, in_bytes, in_report}
use Rattle.project.specs.Scan.{years_known_lem}
use Rattle.project.proofs.ScanLaws.{same_place, earlier, refused_exactly, accepted_exactly, first_refused, same_refused, bytes_number}

counted : (s : List ℕ) (n : ℕ) → Whole s n → Whole s (count_in s)
counted s n w =
    record { header = w.header; count_is = refl; ends = subst (λ (k : ℕ). Starts s k (length s)) w.count_is w.ends }

module _ (s : List ℕ) (room : ℕ) where
  -- each cause of the order is one of the table's
  header_none : NoCause s room → {number : ℕ} → HeaderCause s number → ⊥
  header_none none (header_cut h) = none.none_past 0 (header_past h)
  header_none none (header_edition l h) = none.edition_right 0 h
  header_none none (header_limits e h) = none.limits_kept 0 h

  record_none : NoCause s room → HeaderAccepted s → (p : ℕ) {number : ℕ} → RecordCause (edition_in s) (years_in s) (drop p s) number → RecordNumber s number p
      → ⊥
  record_none none header p (edition_neither one two) r = not_both _ (accepted_edition s header) (neither_unknown (edition_in s) one two)
  record_none none header p (years_outside x y) r = not_both _ (years_known_lem s header) y
  record_none none header p (map_past x y h) r = none.none_past p (record_past r)
  record_none none header p (kind_above x y h k) r = none.kinds_known p r
  record_none none header p (bit_lacked h b t l) r = none.none_lacked p r
  record_none none header p (bit_missing h l m) r = none.none_missing p r
  record_none none header p (field_past m h) r = none.none_past p (record_past r)
  record_none none header p (field_outside b i k t h o) r = none.ranges_kept p r
  record_none none header p (field_spelled b k t i d) r = none.none_spelled p r

  bytes_none : NoCause s room → {number p : ℕ} → FirstInBytes s number p → ⊥
  bytes_none none (in_header c) = header_none none c
  bytes_none none (in_record {number} {p} header r) = record_none none header p r.cause r
  bytes_none none (in_rest {p} header r) = none.none_after p r

  -- no row of the table holds of a whole file whose report suffices
  module _ (w : Whole s (count_in s)) where
    record_free : (number p : ℕ) → RecordNumber s number p → ⊥
    record_free number p r =
        cause_not_zero r.cause (sym (cause_number (edition_in s) (years_in s) (drop p s) r.cause) ∙ earlier s w.ends r.starts r.counted)

    past_free : {p : ℕ} → RunsPast s p → ⊥
    past_free (header_past h) = let l = w.header.long in omega arith
    past_free (record_past {p} r) = record_free 1 p r

    whole_none : report_length (count_in s) ≤ room → NoCause s room
    whole_none h =
        record {
          none_past = λ p r. past_free r;
          none_after = λ p r. let e = same_place s r.starts w.ends in let m = r.more in omega arith;
          edition_right = λ p r. not_both _ (accepted_edition s w.header) (neither_unknown (edition_in s) r.not_one r.not_two);
          limits_kept = λ p r. r.outside w.header.limits;
          kinds_known = λ p r. record_free 5 p r;
          none_lacked = λ p r. record_free 6 p r;
          none_missing = λ p r. record_free 7 p r;
          ranges_kept = λ p r. record_free 8 p r;
          none_spelled = λ p r. record_free 9 p r;
          report_suffices = λ p r. let m = r.short in omega arith;
        }

  none_by : NoCause s room → (answer : Result ℕ Refused) → scan_file s ≡ answer → Whole s (count_in s)
  none_by none (Ok n) e = counted s n ((accepted_exactly s n).0 e)
  none_by none (Err refused) e = absurd (bytes_none none ((refused_exactly s refused).0 e))

  room_by : NoCause s room → (b : Bool) → ltb room (report_length (count_in s)) ≡ b → report_length (count_in s) ≤ room
  room_by none true t = absurd (none.report_suffices 0 (record { place_is = refl; short = ltb-true room (report_length (count_in s)) t }))
  room_by none false t = ltb-false room (report_length (count_in s)) t

  pub no_cause_exactly : (n : ℕ)
      → ((scan_file s ≡ Ok n) × (report_length n ≤ room)) ↔ (NoCause s room × (n ≡ count_in s))
  no_cause_exactly n = (
    λ h.
        let w = (accepted_exactly s n).0 h.0 in
        let e = w.count_is in
        let r : report_length (count_in s) ≤ room = subst (λ (k : ℕ). report_length k ≤ room) e h.1 in
        (whole_none (counted s n w) r, e),
    λ h.
        let w = none_by h.0 (scan_file s) refl in
        let r = room_by h.0 (ltb room (report_length (count_in s))) refl in
        ((accepted_exactly s (count_in s)).1 w ∙ ap Ok (sym h.1), rw h.1 r),
  )

  -- and every other file and report have one first cause
  pub record FirstFound : Type 0 where
    pub number : ℕ
    pub place : ℕ
    pub found : FirstCause s room number place

  found_in : Whole s (count_in s) → (b : Bool) → ltb room (report_length (count_in s)) ≡ b → FirstFound ⊎ NoCause s room
  found_in w true t =
      inl (record { number = 10; place = 0; found = in_report w (record { place_is = refl; short = ltb-true room (report_length (count_in s)) t }) })
  found_in w false t = inr (whole_none w (ltb-false room (report_length (count_in s)) t))

  found_by : (answer : Result ℕ Refused) → scan_file s ≡ answer → FirstFound ⊎ NoCause s room
  found_by (Ok n) e = found_in (counted s n ((accepted_exactly s n).0 e)) (ltb room (report_length (count_in s))) refl
  found_by (Err refused) e = inl (record { number = number_of refused.refusal; place = refused.place; found = in_bytes ((refused_exactly s refused).0 e) })

  pub first_or_none : FirstFound ⊎ NoCause s room
  first_or_none = found_by (scan_file s) refl

  -- 10 comes last, where the bytes show no cause
  not_both_found : {number p : ℕ} → FirstInBytes s number p → Whole s (count_in s) → ⊥
  not_both_found {number} {p} f w =
      let a = first_refused s f in
      let b = (accepted_exactly s (count_in s)).1 w in
      let z : ◌≡◌ {A = ℕ} 0 1 = cc in
      omega arith

  pub first_only : {m n p q : ℕ} → FirstCause s room m p → FirstCause s room n q → (m ≡ n) × (p ≡ q)
  first_only {m} {n} {p} {q} (in_bytes f) (in_bytes g) =
      let same = same_refused (sym (first_refused s f) ∙ first_refused s g) in
      (sym (bytes_number f) ∙ ap (λ (r : Refused). number_of r.refusal) same ∙ bytes_number g, ap (λ (r : Refused). r.place) same)
  first_only (in_bytes f) (in_report w h) = absurd (not_both_found f w)
  first_only (in_report w h) (in_bytes f) = absurd (not_both_found f w)
  first_only (in_report w h) (in_report v k) = (refl, refl)
