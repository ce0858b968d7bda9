use Rattle.std.proofs.Common.{arith}
use Rattle.project_writer.specs.Walks.{walked_none}
use Rattle.project_writer.proofs.Walks.{walked_needs, walked_more, walked_all}
use Rattle.unit.proofs.Given.{given_part, given_none}
use Rattle.unit.proofs.writing.walk_numbers.Goals as goal

pub loop-site-init : goal.loop-site-init
loop-site-init c =
    let chunks = c.chunks-site-items.ensures in
    rw (c.into_iter-site-iterator.ensures.into_iter_gives, chunks.rest, chunks.size) (omega arith, tt, omega arith, walked_none c.requires)

pub step-course-requires : goal.step-course-requires
step-course-requires c =
    let inv = c.loop-site.invariant in
    let part = c.in-Some.ensures.steps.1 in
    walked_needs inv.3 (given_part _ _ inv.2 part.0 part.1 part.2 c.site_from.ensures)

pub loop-site-preserved : goal.loop-site-preserved
loop-site-preserved c =
    let inv = c.loop-site.invariant in
    let size = c.in-Some.ensures.steps.0 in
    let part = c.in-Some.ensures.steps.1 in
    (omega arith, tt, omega arith, walked_more inv.3 (given_part _ _ inv.2 part.0 part.1 part.2 c.site_from.ensures) _ _ c.step-course.ensures)

pub returns : goal.returns
returns c =
    let all = walked_all c.loop-site.invariant.3 (given_none _ c.in-None.ensures.steps.1.0) in
    record { value = all.0; buffer_after = all.1 }
