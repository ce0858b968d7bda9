-- A measured file that fits the buffer has its header written there.
use native.Mathlib.Omega.{arith}
use mathlib.Core.Path.{refl}
use borrow.Author.Tests.{le-leb, lt-leb}
use Rattle.project_writer.proofs.course.begin_writing.Goals as goal

pub returns-in-Stopped : goal.returns-in-Stopped
returns-in-Stopped c = rw c.in-Stopped.is (refl, refl)

pub returns-in-Placed : goal.returns-in-Placed
returns-in-Placed c = rw c.in-Placed.is (refl, refl)

pub returns-then-buffer-n : goal.returns-then-buffer-n
returns-then-buffer-n c = rw (c.in-Measured.is, lt-leb _ _ c.if-buffer-n.true) (refl, refl)

pub put_header-requires : goal.put_header-requires
put_header-requires c =
    let begins = rw c.in-Measured.is at c.requires in
    (begins.0, begins.1, omega arith)

pub returns-else-buffer-n : goal.returns-else-buffer-n
returns-else-buffer-n c = rw (c.in-Measured.is, le-leb _ _ c.if-buffer-n.false) (refl, c.put_header.ensures)
