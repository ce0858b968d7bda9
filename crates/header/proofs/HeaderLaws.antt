-- Laws of HeaderLaws in specs/.
use Rattle.std.specs.Prelude.{◌≡◌, Bool, cond, List, ◌↔◌, ℕ, ◌+◌, ◌*◌, ◌≤◌, length, drop, ltb, leb}
use Rattle.std.proofs.Math.Path.{refl}
use Rattle.std.proofs.Common.{sym, ◌∙◌, get_or-drop}
use Rattle.std.proofs.Math.Bool.{true, false, true≢false}
use native.Mathlib.Omega.{arith}
use borrow.Author.Tests.{ltb-true, ltb-false, lt-ltb, le-ltb, leb-true, le-leb}
use Rattle.laws.specs.Truth.{and_left, and_right, passed, never_so}
use Rattle.site.specs.Rules.{inside, edition_known, years_known}
use Rattle.site.specs.Record.{word}
use Rattle.site.proofs.Tested.{unknown_neither, neither_unknown, known_either}
use Rattle.site.specs.Tested.{years_exactly}
use Rattle.header.specs.declared.Header.{Header}
use Rattle.header.specs.Layout.{byte, HeaderByBytes}
use Rattle.header.specs.Header.{header_length, edition_in, header_in, count_in, most_calibration, most_sites}
use Rattle.header.specs.Header.{in_limits, admits, header_number}
use Rattle.header.specs.Causes.{HeaderWithin}
use Rattle.header.specs.Causes.{WithinLimits, HeaderCause, header_cut, header_edition, header_limits, HeaderAccepted}

-- THE TEST of a header's values is their limits
calibration_exactly : (n : ℕ) → (inside 1 most_calibration n ≡ true) ↔ ((1 ≤ n) × (n ≤ 9999))
calibration_exactly n = (
  λ e. (leb-true 1 n (and_left (leb 1 n) _ e), omega (arith, leb-true n most_calibration (and_right (leb 1 n) _ e))),
  λ h. rw (le-leb 1 n h.0, le-leb n most_calibration (omega (arith, h.1))),
)

module _ (header : Header) where
  pub limits_of : in_limits header ≡ true → HeaderWithin header
  unfolding in_limits
  limits_of e =
      let rest = and_right (years_known header.years) _ e in
      let years = (years_exactly header.years).0 (and_left (years_known header.years) _ e) in
      let segments = (calibration_exactly header.segments).0 (and_left (inside 1 most_calibration header.segments) _ rest) in
      let crossings = (calibration_exactly header.crossings).0 (and_right (inside 1 most_calibration header.segments) _ rest) in
      record {
        years_least = years.0;
        years_most = years.1;
        segments_least = segments.0;
        segments_most = segments.1;
        crossings_least = crossings.0;
        crossings_most = crossings.1;
      }

  pub limits_pass : HeaderWithin header → in_limits header ≡ true
  unfolding in_limits
  limits_pass w = rw (
    (years_exactly header.years).1 (w.years_least, w.years_most),
    (calibration_exactly header.segments).1 (w.segments_least, w.segments_most),
    (calibration_exactly header.crossings).1 (w.crossings_least, w.crossings_most),
  )

  -- and of the count with them
  pub record Admitted (sites : ℕ) : Type 0 where
    pub limits : in_limits header ≡ true
    pub within : HeaderWithin header
    pub few : sites ≤ 1200

  module _ (sites : ℕ) where
    pub admitted : admits header sites ≡ true → Admitted sites
    admitted e =
        let limits_in = and_left (in_limits header) (leb sites most_sites) e in
        record {
          limits = limits_in;
          within = limits_of limits_in;
          few = omega (arith, leb-true sites most_sites (and_right (in_limits header) (leb sites most_sites) e));
        }

    pub admits_both : HeaderWithin header × (sites ≤ 1200) → admits header sites ≡ true
    admits_both h = rw (limits_pass h.0, le-leb sites most_sites (omega (arith, h.1)))

module _ (s : List ℕ) where
  -- WHAT IS READ is what the bytes say by number
  word_at : (n : ℕ) → word (drop n s) ≡ 256 * byte s (n + 0) + byte s (n + 1)
  word_at n = omega (arith, get_or-drop n s 0 0, get_or-drop n s 1 0)

  pub header_by_bytes : HeaderByBytes s (header_in s) (count_in s)
  header_by_bytes = record { edition_is = refl; years_are = refl; segments_are = word_at 2; crossings_are = word_at 4; sites_are = word_at 6 }

  -- so the tests of what is read are the limits of the bytes
  limits_by_bytes : admits (header_in s) (count_in s) ≡ true → WithinLimits s
  limits_by_bytes e =
      let a = admitted (header_in s) (count_in s) e in
      let by = header_by_bytes in
      record { values = rw (← by.segments_are, ← by.crossings_are) a.within; few = omega (arith, by.sites_are, a.few) }

  bytes_admitted : WithinLimits s → admits (header_in s) (count_in s) ≡ true
  bytes_admitted w =
      let by = header_by_bytes in
      admits_both (header_in s) (count_in s) (rw (by.segments_are, by.crossings_are) w.values, omega (arith, by.sites_are, w.few))

  -- A NUMBER by the causes
  by_tests : (short known admit : Bool) → ltb (length s) header_length ≡ short → edition_known (edition_in s) ≡ known
      → admits (header_in s) (count_in s) ≡ admit → (header_number s ≡ 0 → ⊥) → HeaderCause s (header_number s)
  unfolding header_number
  by_tests true known admit a b c ne = rw a (header_cut (ltb-true (length s) header_length a))
  by_tests false false admit a b c ne =
      let l = ltb-false (length s) header_length a in
      let neither = unknown_neither (edition_in s) b in
      rw (a, b) (header_edition l (record { place_is = refl; there = omega arith; not_one = neither.0; not_two = neither.1 }))
  by_tests false true false a b c ne =
      let l = ltb-false (length s) header_length a in
      rw (a, b, c) (header_limits ((known_either (edition_in s)).0 b)
      (record { place_is = refl; there = l; outside = λ w. true≢false (sym (bytes_admitted w) ∙ c) }))
  by_tests false true true a b c ne = absurd (ne (rw (a, b, c)))

  pub header_cause : (header_number s ≡ 0 → ⊥) → HeaderCause s (header_number s)
  header_cause = by_tests (ltb (length s) header_length) (edition_known (edition_in s)) (admits (header_in s) (count_in s)) refl refl refl

  pub cause_header : {number : ℕ} → HeaderCause s number → header_number s ≡ number
  unfolding header_number
  cause_header (header_cut h) = rw (lt-ltb (length s) header_length h)
  cause_header (header_edition l h) = rw (le-ltb (length s) header_length l, neither_unknown (edition_in s) h.not_one h.not_two)
  cause_header (header_limits e h) =
      let refused = never_so (admits (header_in s) (count_in s)) (λ t. h.outside (limits_by_bytes t)) in
      rw (le-ltb (length s) header_length h.there, (known_either (edition_in s)).1 e, refused)

  pub header_not_zero : {number : ℕ} → HeaderCause s number → number ≡ 0 → ⊥
  header_not_zero (header_cut h) e = omega arith
  header_not_zero (header_edition l h) e = omega arith
  header_not_zero (header_limits q h) e = omega arith

  -- NO NUMBER where none is found
  pub tests_accept : header_length ≤ length s → edition_known (edition_in s) ≡ true → admits (header_in s) (count_in s) ≡ true → HeaderAccepted s
  tests_accept l known e = record { long = l; edition = (known_either (edition_in s)).0 known; limits = limits_by_bytes e }

  pub header_accepted : header_number s ≡ 0 → HeaderAccepted s
  unfolding header_number
  header_accepted e =
      by (edition_known (edition_in s)) (admits (header_in s) (count_in s)) refl refl (passed (ltb (length s) header_length) 0 _ e)
    where
      by : (a b : Bool) → edition_known (edition_in s) ≡ a → admits (header_in s) (count_in s) ≡ b
          → (ltb (length s) header_length ≡ false) × (◌≡◌ {A = ℕ} (cond a (cond b 0 4) 3) 0) → HeaderAccepted s
      by true true p q h = tests_accept (ltb-false (length s) header_length h.0) p q
      by true false p q h = let z : ⊥ = omega arith in absurd z
      by false b p q h = let z : ⊥ = omega arith in absurd z

  -- what is accepted has passed the tests
  pub accepted_edition : HeaderAccepted s → edition_known (edition_in s) ≡ true
  accepted_edition h = (known_either (edition_in s)).1 h.edition

  pub accepted_admitted : HeaderAccepted s → Admitted (header_in s) (count_in s)
  accepted_admitted h = admitted (header_in s) (count_in s) (bytes_admitted h.limits)

  pub accepted_header : HeaderAccepted s → header_number s ≡ 0
  unfolding header_number
  accepted_header h = rw (le-ltb (length s) header_length h.long, accepted_edition h, bytes_admitted h.limits)
