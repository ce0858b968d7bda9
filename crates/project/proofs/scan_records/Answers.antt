use Rattle.std.proofs.Common.{◌≡◌, sym, ◌∙◌, ℕ, List, suc, ◌+◌, ◌-◌, ◌<◌, ◌≤◌, length, take, drop, length-drop, lt-ltb, le-ltb, arith}
use Rattle.laws.specs.Walk.{part_from}
use Rattle.site.specs.declared.values.Site.{Site}
use Rattle.site.specs.Record.{read_site}
use Rattle.site.specs.Promises.{ReadsSite}
use Rattle.std.specs.Prelude.{Result, Ok, Err}
use Rattle.site.specs.declared.refusal.Refusal.{Refusal}
use Rattle.site.specs.declared.refusal.Refusal.TheVariants as refused
use Rattle.project.specs.declared.Refused.{Refused}
use Rattle.project.specs.File.{refused_at, after_record, scan_records}
use Rattle.project.proofs.File.{place_of_record}
use Rattle.project.proofs.scan_records.Goals as goal

-- ONE RECORD AFTER THE OTHER: what a scan says of the records that are left at a place
start : (s : List ℕ) (edition years sites at : ℕ) → scan_records edition years sites (sites - 0) at s ≡ scan_records edition years sites sites at s
start s edition years sites at = let e : sites - 0 ≡ sites = omega arith in rw e

module _ (s : List ℕ) (edition years sites i at : ℕ) (whole : Result ℕ Refused) (inv : scan_records edition years sites (sites - i) at s ≡ whole) where
  step : i < sites → after_record at (read_site edition years (drop at s)) (λ next. scan_records edition years sites (sites - (i + 1)) next s) ≡ whole
  unfolding scan_records
  step h = let e : sites - i ≡ suc (sites - (i + 1)) = omega arith in rw e at inv

  module _ (answer : Result (Site × ℕ) Refusal) (reads : ReadsSite edition years (take (length s - at) (drop at s)) answer) where
    answer_of : answer ≡ read_site edition years (drop at s)
    answer_of = rw (part_from s at) at reads.answer_is

    record_refused : (refusal : Refusal) → i < sites → answer ≡ Err refusal → refused_at refusal at ≡ whole
    record_refused refusal h e =
        let q : read_site edition years (drop at s) ≡ Err refusal =
        sym answer_of ∙ e in sym (place_of_record at refusal (λ next. whole)) ∙ (rw q at (step h))

    record_read : (value : Site) (n : ℕ) → i < sites → answer ≡ Ok (value, n)
        → scan_records edition years sites (sites - (i + 1)) (at + n) s ≡ whole
    record_read value n h e = let q : read_site edition years (drop at s) ≡ Ok (value, n) = sym answer_of ∙ e in rw q at (step h)

    record_within : (value : Site) (n : ℕ) → at ≤ length s → answer ≡ Ok (value, n) → at + n ≤ length s
    record_within value n h e =
        let w = reads.bounds value n e in
        let l : n ≤ length (drop at s) = rw (part_from s at) at w.within in
        omega (arith, length-drop at s)

  bytes_after : sites ≤ i → at < length s → refused_at refused.BytesAfter at ≡ whole
  unfolding scan_records
  bytes_after h k = let e : sites - i ≡ 0 = omega arith in rw (e, lt-ltb at (length s) k) at inv

  none_after : sites ≤ i → length s ≤ at → Ok sites ≡ whole
  unfolding scan_records
  none_after h k = let e : sites - i ≡ 0 = omega arith in rw (e, le-ltb at (length s) k) at inv

pub loop-init : goal.loop-init
loop-init c = (omega arith, start _ _ _ _ _)

pub returns-in-Err : goal.returns-in-Err
returns-in-Err c = record_refused _ _ _ _ _ _ _ c.loop.invariant.1 _ c.read_site.ensures _ (omega arith) c.in-Err.is

pub overflow_add-at : goal.overflow_add-at
overflow_add-at c =
    let inv = c.loop.invariant in
    let w = record_within _ _ _ _ _ _ _ inv.1 _ c.read_site.ensures _ _ inv.0 c.in-Ok.is in
    omega arith

pub loop-preserved : goal.loop-preserved
loop-preserved c =
    let inv = c.loop.invariant in
    let reads = c.read_site.ensures in
    let is = c.in-Ok.is in
    (record_within _ _ _ _ _ _ _ inv.1 _ reads _ _ inv.0 is, record_read _ _ _ _ _ _ _ inv.1 _ reads _ _ (omega arith) is)

pub returns-then-at-file : goal.returns-then-at-file
returns-then-at-file c = bytes_after _ _ _ _ _ _ _ c.loop.invariant.1 (omega arith) c.if-at-file.true

pub returns : goal.returns
returns c = none_after _ _ _ _ _ _ _ c.loop.invariant.1 (omega arith) c.if-at-file.false
