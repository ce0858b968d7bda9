-- The walk over the sites of the numbers that are left, from the course and the buffer as they are, ends where the whole walk ends.
use Rattle.std.proofs.Common.{◌≡◌}
use Rattle.std.specs.Slice.Iter.{chunks_rest, chunks_size}
use Rattle.project_writer.specs.Walks.{Walked}
use Rattle.unit.specs.SiteNumbers.{site_numbers}
use Rattle.unit.specs.FileNumbers.{sites_given}
use Rattle.unit.proofs.writing.walk_numbers.Given as goal

abbrev pub invariant-loop-site : goal.invariant-loop-site
invariant-loop-site l =
    (goal.iterator-loop-site).can_next l.site-iterator
    × (goal.iterator-loop-site).is_finite l.site-iterator
    × (chunks_size l.site-iterator ≡ site_numbers)
    × Walked l.edition l.years (sites_given l.numbers) l.initial.course l.initial.buffer (sites_given (chunks_rest l.site-iterator)) l.course l.buffer
