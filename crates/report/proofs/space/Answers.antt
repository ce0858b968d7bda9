use native.Mathlib.Omega.{arith}
use Rattle.report.specs.ReaderCauses.{room_short, room_enough}
use Rattle.report.proofs.space.Goals as goal

pub returns-then-room-count : goal.returns-then-room-count
returns-then-room-count c = room_short c.args.sites _ _ c.if-room-count.true (omega arith)

pub returns : goal.returns
returns c = room_enough c.args.sites _ _ c.if-room-count.false (omega arith)
