use Rattle.laws.specs.Walk.{next, at_end}
use Rattle.project_writer.specs.Walks.{walked_none}
use Rattle.project_writer.proofs.Walks.{walked_needs, walked_more, walked_all}
use Rattle.project_writer.proofs.walk.Goals as goal

pub loop-site-init : goal.loop-site-init
loop-site-init c = walked_none c.requires

pub step-course-requires : goal.step-course-requires
step-course-requires c = walked_needs c.loop-site.invariant (next _ _ _ c.loop-site-test.true)

pub loop-site-preserved : goal.loop-site-preserved
loop-site-preserved c = walked_more c.loop-site.invariant (next _ _ _ c.loop-site-test.true) _ _ c.step-course.ensures

pub returns : goal.returns
returns c = walked_all c.loop-site.invariant (at_end _ _ c.loop-site-test.false)
