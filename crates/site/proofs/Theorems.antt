-- Laws of Theorems in specs/.
use Rattle.std.specs.Prelude.{Ok, Err}
use Rattle.site.specs.Refusals.{refusal}
use Rattle.std.specs.Prelude.{None, Some}
use Rattle.std.proofs.Math.Path.{◌≡◌, refl}
use Rattle.std.proofs.Common.{ap, ◌∙◌, append-nil, arith, length-take-le}
use Rattle.std.specs.Prelude.{Bool, List, [], ◌++◌, ◌↔◌, ℕ, ◌<◌, ◌≤◌, take}
use Rattle.std.proofs.Math.Bool.{true, false, cond}
use Rattle.std.proofs.Math.ListN.{length, drop}
use Rattle.std.proofs.Math.Dec.{leb, eqb}
use borrow.Author.Tests.{leb-true, leb-false, le-leb, lt-leb, eqb-true}
use Rattle.site.specs.declared.values.Site.{Site}
use Rattle.site.specs.Rules.{edition_known, years_known}
use Rattle.site.specs.Record.{kind_in, field_map_in, read_site}
use Rattle.site.specs.Writing.{record_of, sound_site, sound, Valid, measure_of, write_refusal, write_answer, write_into}
use Rattle.site.specs.Digits.{Bytes}
use Rattle.laws.specs.Truth.{and_left, and_right, chosen, never_so, not_both}
use Rattle.site.specs.Accepted.{words_least, reading}
use Rattle.site.proofs.WriteRead.{write_read}
use Rattle.site.proofs.ReadWrite.{no_miss, read_valid, read_write}
use Rattle.site.proofs.Bytes.{record_bytes}
use Rattle.site.specs.Bytes.{bytes_append, bytes_nil}
use Rattle.site.specs.Theorems.{RecordLength, length_most}

pub read_length : (edition years : ℕ) (s : List ℕ) (site : Site) (n : ℕ) → read_site edition years s ≡ Ok (site, n) → RecordLength s n
read_length edition years s site n e =
    let r = reading edition years s site n e in
    let a = r.accepts in
    record {
      at_least = omega (arith, r.length_is, words_least edition (kind_in s) (field_map_in s) a.passes.head.known (no_miss edition years s a));
      at_most = omega (arith, r.length_is, length_most edition years s a.passes.head.years_in a.passes.head.known);
      within = omega (arith, r.length_is, a.full);
    }

-- the length of a valid site's record: it reads back
pub record_length : (edition years : ℕ) (site : Site) → Valid edition years site → RecordLength (record_of edition site) (length (record_of edition site))
record_length edition years site v =
    read_length edition years (record_of edition site) site (length (record_of edition site)) (rw append-nil at (write_read edition years site [] v))

-- a length is measured of a valid site alone, and is its record's
pub measured_length : (edition years : ℕ) (site : Site) (n : ℕ) → measure_of edition years site ≡ Some n
    → Valid edition years site × (n ≡ length (record_of edition site))
unfolding measure_of
measured_length edition years site n e =
    let w = chosen (sound edition years site) (Some (length (record_of edition site))) None (Some n) (λ q. let z : ◌≡◌ {A = ℕ} 0 1 = cc in omega arith) e in
    (record { is_sound = w.0 }, cc)

-- the writer refuses with 8 the sites that are not valid, and these are the sites that no record reads as
module _ (edition years : ℕ) (site : Site) where
  no_record : ((s : List ℕ) (n : ℕ) → Bytes s → read_site edition years s ≡ Ok (site, n) → ⊥) → sound edition years site ≡ false
  no_record never =
      never_so (sound edition years site) (λ e.
      let v : Valid edition years site = record { is_sound = e } in
      never (record_of edition site ++ []) (length (record_of edition site))
      (bytes_append (record_of edition site) [] (record_bytes edition years site v) bytes_nil) (write_read edition years site [] v))

  -- a valid site passes the tests of the site, and those of the edition and the years
  all_sound : edition_known edition ≡ true → years_known years ≡ true → sound_site edition years site ≡ true → Valid edition years site
  unfolding sound
  all_sound x y e = record { is_sound = rw (x, y, e) }

  record AllSound : Type 0 where
    edition_in : edition_known edition ≡ true
    years_in : years_known years ≡ true
    site_in : sound_site edition years site ≡ true

  sound_all : Valid edition years site → AllSound
  unfolding sound
  sound_all v =
      let rest = and_right (edition_known edition) _ v.is_sound in
      record {
        edition_in = and_left (edition_known edition) _ v.is_sound;
        years_in = and_left (years_known years) _ rest;
        site_in = and_right (years_known years) _ rest;
      }

  -- HOW THE WRITER'S TESTS COME OUT, by their number, where a buffer has so much room
  data WriteTried (room : ℕ) : ℕ → Type 0 where
    no_edition : edition_known edition ≡ false → WriteTried room 3
    no_years : edition_known edition ≡ true → years_known years ≡ false → WriteTried room 4
    no_site : edition_known edition ≡ true → years_known years ≡ true → sound_site edition years site ≡ false → WriteTried room 8
    no_room : Valid edition years site → room < length (record_of edition site) → WriteTried room 10
    fits : Valid edition years site → length (record_of edition site) ≤ room → WriteTried room 0

  write_tried : (room : ℕ) → WriteTried room (write_refusal edition years site room)
  unfolding write_refusal
  write_tried room =
      by (edition_known edition) (years_known years) (sound_site edition years site) (leb (length (record_of edition site)) room) refl refl refl refl
    where
      by : (x y a b : Bool) → edition_known edition ≡ x → years_known years ≡ y → sound_site edition years site ≡ a
          → leb (length (record_of edition site)) room ≡ b
          → WriteTried room (cond x (cond y (cond a (cond b 0 10) 8) 4) 3)
      by false y a b x p q r = no_edition x
      by true false a b x p q r = no_years x p
      by true true false b x p q r = no_site x p q
      by true true true false x p q r = no_room (all_sound x p q) (leb-false (length (record_of edition site)) room r)
      by true true true true x p q r = fits (all_sound x p q) (leb-true (length (record_of edition site)) room r)

  write_number : {room n : ℕ} → WriteTried room n → write_refusal edition years site room ≡ n
  unfolding write_refusal
  write_number (no_edition x) = rw x
  write_number (no_years x y) = rw (x, y)
  write_number (no_site x y a) = rw (x, y, a)
  write_number {room} (no_room v h) =
      let s = sound_all v in rw (s.edition_in, s.years_in, s.site_in, lt-leb (length (record_of edition site)) room h)
  write_number {room} (fits v h) =
      let s = sound_all v in rw (s.edition_in, s.years_in, s.site_in, le-leb (length (record_of edition site)) room h)

  -- 3 exactly when the edition is outside its limits
  pub three_exactly : (room : ℕ) → (write_refusal edition years site room ≡ 3) ↔ (edition_known edition ≡ false)
  three_exactly room = (by (write_tried room), λ e. write_number (no_edition e))
    where
      by : {n : ℕ} → WriteTried room n → n ≡ 3 → edition_known edition ≡ false
      by (no_edition x) e = x
      by (no_years x y) e = absurd (omega arith)
      by (no_site x y a) e = absurd (omega arith)
      by (no_room v h) e = absurd (omega arith)
      by (fits v h) e = absurd (omega arith)

  -- 4 exactly when it is not, and the years are
  pub four_exactly : (room : ℕ) → (write_refusal edition years site room ≡ 4) ↔ ((edition_known edition ≡ true) × (years_known years ≡ false))
  four_exactly room = (by (write_tried room), λ h. write_number (no_years h.0 h.1))
    where
      by : {n : ℕ} → WriteTried room n → n ≡ 4 → (edition_known edition ≡ true) × (years_known years ≡ false)
      by (no_edition x) e = absurd (omega arith)
      by (no_years x y) e = (x, y)
      by (no_site x y a) e = absurd (omega arith)
      by (no_room v h) e = absurd (omega arith)
      by (fits v h) e = absurd (omega arith)

  -- 8 exactly when neither is, and no record is read as the site
  abbrev NoRecord : Type 0
  NoRecord = (s : List ℕ) (n : ℕ) → Bytes s → read_site edition years s ≡ Ok (site, n) → ⊥

  pub eight_exactly : (room : ℕ) → (write_refusal edition years site room ≡ 8) ↔ ((edition_known edition ≡ true) × (years_known years ≡ true) × NoRecord)
  eight_exactly room = (
    by (write_tried room),
    λ h. write_number (no_site h.0 h.1
        (never_so (sound_site edition years site) (λ q. not_both (sound edition years site) (all_sound h.0 h.1 q).is_sound (no_record h.2)))),
  )
    where
      by : {n : ℕ} → WriteTried room n → n ≡ 8 → (edition_known edition ≡ true) × (years_known years ≡ true) × NoRecord
      by (no_edition x) e = absurd (omega arith)
      by (no_years x y) e = absurd (omega arith)
      by (no_site x y a) e = (x, y, λ s n bytes r. not_both _ (sound_all (read_valid edition years s site n r)).site_in a)
      by (no_room v h) e = absurd (omega arith)
      by (fits v h) e = absurd (omega arith)

  -- 10 exactly when the buffer is shorter than the record of a valid site
  pub ten_exactly : (room : ℕ) → (write_refusal edition years site room ≡ 10) ↔ (Valid edition years site × (room < length (record_of edition site)))
  ten_exactly room = (by (write_tried room), λ h. write_number (no_room h.0 h.1))
    where
      by : {n : ℕ} → WriteTried room n → n ≡ 10 → Valid edition years site × (room < length (record_of edition site))
      by (no_edition x) e = absurd (omega arith)
      by (no_years x y) e = absurd (omega arith)
      by (no_site x y a) e = absurd (omega arith)
      by (no_room v h) e = (v, h)
      by (fits v h) e = absurd (omega arith)

  -- success exactly when a valid site has room: a buffer that just suffices is taken
  pub zero_exactly : (room : ℕ) → (write_refusal edition years site room ≡ 0) ↔ (Valid edition years site × (length (record_of edition site) ≤ room))
  zero_exactly room = (by (write_tried room), λ h. write_number (fits h.0 h.1))
    where
      by : {n : ℕ} → WriteTried room n → n ≡ 0 → Valid edition years site × (length (record_of edition site) ≤ room)
      by (no_edition x) e = absurd (omega arith)
      by (no_years x y) e = absurd (omega arith)
      by (no_site x y a) e = absurd (omega arith)
      by (no_room v h) e = absurd (omega arith)
      by (fits v h) e = (v, h)

  -- a length is answered only without a refusal, and is the record's
  written_is : (room n : ℕ) → write_answer edition years site room ≡ Ok n
      → (write_refusal edition years site room ≡ 0) × (n ≡ length (record_of edition site))
  unfolding write_answer
  written_is room n = by (eqb (write_refusal edition years site room) 0) refl
    where
      by : (b : Bool) → eqb (write_refusal edition years site room) 0 ≡ b
          → cond b (Ok (length (record_of edition site))) (Err (refusal (write_refusal edition years site room))) ≡ Ok n
          → (write_refusal edition years site room ≡ 0) × (n ≡ length (record_of edition site))
      by true t e = (eqb-true (write_refusal edition years site room) 0 t, cc)
      by false t e = let z : ◌≡◌ {A = ℕ} 0 1 = cc in absurd (omega arith)

  -- what the writer answers with success and leaves in the buffer reads back as the same site, whatever follows it there
  pub written_reads_back : (before : List ℕ) (n : ℕ) → write_answer edition years site (length before) ≡ Ok n
      → read_site edition years (write_into edition years site before) ≡ Ok (site, n)
  unfolding write_into
  written_reads_back before n e =
      let w = written_is (length before) n e in
      let v = (zero_exactly (length before)).0 w.0 in
      rw (w.1, v.0.is_sound, le-leb (length (record_of edition site)) (length before) v.1)
      (write_read edition years site (drop (length (record_of edition site)) before) v.0)

  -- a refusal leaves the buffer as it was
  pub refused_leaves : (before : List ℕ) → (write_refusal edition years site (length before) ≡ 0 → ⊥) → write_into edition years site before ≡ before
  unfolding write_into
  refused_leaves before refused = by (sound edition years site) (leb (length (record_of edition site)) (length before)) refl refl
    where
      by : (a b : Bool) → sound edition years site ≡ a → leb (length (record_of edition site)) (length before) ≡ b
          → cond a (cond b (record_of edition site ++ drop (length (record_of edition site)) before) before) before ≡ before
      by true true v l = absurd (refused (write_number (fits (record { is_sound = v }) (leb-true _ _ l))))
      by true false v l = refl
      by false b v l = refl

-- every accepted record is written back as the same bytes: the writer answers its length, and leaves it at the start of the buffer
pub read_writes_back : (edition years : ℕ) (s : List ℕ) (site : Site) (n : ℕ) (before : List ℕ) → Bytes s → read_site edition years s ≡ Ok (site, n)
    → n ≤ length before
    → (write_answer edition years site (length before) ≡ Ok n) × (write_into edition years site before ≡ take n s ++ drop n before)
unfolding write_answer write_into
read_writes_back edition years s site n before bytes e h =
    let record_is = read_write edition years s site n bytes e in
    let long : length (record_of edition site) ≡ n = ap length record_is ∙ length-take-le n s (read_length edition years s site n e).within in
    let room : length (record_of edition site) ≤ length before = omega arith in
    let v = read_valid edition years s site n e in
    let fits = le-leb (length (record_of edition site)) (length before) room in
    (rw ((zero_exactly edition years site (length before)).1 (v, room), long), rw (v.is_sound, fits, long, record_is))
