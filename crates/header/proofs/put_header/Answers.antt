-- Every value of the header is within its limits, so that it fits its bytes.
use native.Mathlib.Omega.{arith}
use Rattle.header.proofs.HeaderLaws.{admitted}
use Rattle.header.proofs.put_header.Goals as goal

pub overflow_cast-buffer-2 : goal.overflow_cast-buffer-2
overflow_cast-buffer-2 c = omega (arith, (admitted c.args.header c.args.sites c.requires.1).within)

pub overflow_cast-header : goal.overflow_cast-header
overflow_cast-header c = omega (arith, (admitted c.args.header c.args.sites c.requires.1).within)

pub overflow_cast-header-2 : goal.overflow_cast-header-2
overflow_cast-header-2 c = omega (arith, (admitted c.args.header c.args.sites c.requires.1).within)
