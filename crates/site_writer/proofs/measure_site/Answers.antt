-- The edition, the years, the kind, a later year or a slot tells what is outside its range, and the slots and the later years the length.
use Rattle.std.specs.Prelude.{◌≡◌, refl, ℕ, None, Result, Ok, Err}
use Rattle.std.specs.Result.{result_ok}
use Rattle.std.proofs.Common.{sym, ◌∙◌, arith}
use Rattle.site.specs.Promises.{measures_site}
use Rattle.site.proofs.Project.{project_known}
use Rattle.site_writer.proofs.WriteWhole.{project_outside, kind_outside, later_outside, found, measured_by}
use Rattle.site_writer.proofs.measure_site.Goals as goal

-- an answer without a value is a refusal
refusal_there : {T E : Type 0} (answer : Result T E) → result_ok answer ≡ None → (e : E) × (answer ≡ Err e)
refusal_there (Ok x) h = let z : ◌≡◌ {A = ℕ} 0 1 = cc in absurd (omega arith)
refusal_there (Err e) h = (e, refl)

pub returns-in_err-ok : goal.returns-in_err-ok
returns-in_err-ok c =
    let there = refusal_there c.check_project.result (sym c.ok.ensures.value ∙ c.in_err-ok.was) in
    rw c.from_residual.ensures (project_outside _ _ _ (sym c.check_project.ensures ∙ there.1))

pub returns-in_default : goal.returns-in_default
returns-in_default c = kind_outside _ _ _ c.in_default.ensures.1

pub returns-then-not-is_later_sound : goal.returns-then-not-is_later_sound
returns-then-not-is_later_sound c = later_outside _ _ _ (sym c.is_later_sound.ensures ∙ c.if-not-is_later_sound.true)

pub returns : goal.returns
returns c =
    let a = c.args in
    let f = found a.edition a.site _ _ _ c.in-Ok.ensures c.slots_of-slots.ensures c.rules_held.ensures in
    let done : c.check_project.result ≡ Ok tt = grind arith in
    let known = project_known _ _ (sym c.check_project.ensures ∙ done) in
    let whole = measured_by f a.years (sym c.is_later_sound.ensures ∙ c.if-not-is_later_sound.false) known.0 known.1 in
    measures_site _ _ _ _ (rw (whole, ← c.later_given-later.ensures.0, ← c.minor_later.ensures.0) c.measure_slots.ensures)
