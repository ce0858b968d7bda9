-- The walk over the sites that are left, from the course and the buffer as they are, ends where the whole walk ends.
use Rattle.std.proofs.Common.{drop}
use Rattle.project_writer.specs.Walks.{Walked}
use Rattle.project_writer.proofs.walk.Given as goal

abbrev pub invariant-loop-site : goal.invariant-loop-site
invariant-loop-site l = Walked l.edition l.years l.sites l.initial.course l.initial.buffer (drop l.site-index l.sites) l.course l.buffer
