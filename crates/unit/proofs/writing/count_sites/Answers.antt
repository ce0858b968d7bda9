use Rattle.std.proofs.Common.{arith}
use Rattle.laws.specs.Quotient.{rounded_up_is}
use Rattle.unit.proofs.writing.count_sites.Goals as goal

pub returns : goal.returns
returns c = rounded_up_is (omega arith) (record { above = omega arith; near = omega arith })
