use native.Mathlib.Omega.{arith}
use Rattle.prediction.specs.Carrying.{StartRoom, start_room}
use Rattle.prediction.proofs.segment.segment_start.Goals as goal
use Rattle.prediction.proofs.segment.segment_start.Goals.{Start}

-- the products fit
room : (c : Start) → let a = c.args in StartRoom a.years a.calibration a.v.traffic a.v.length
room c = let p = c.requires in start_room p.0 p.1 p.2.traffic.most p.2.length_most

pub overflow_mul-result : goal.overflow_mul-result
overflow_mul-result c = omega (arith, (room c).first)

pub overflow_mul-result-2 : goal.overflow_mul-result-2
overflow_mul-result-2 c = omega (arith, (room c.before).second)

pub overflow_mul-result-3 : goal.overflow_mul-result-3
overflow_mul-result-3 c = omega (arith, (room c.before.before).third)

pub overflow_mul-result-4 : goal.overflow_mul-result-4
overflow_mul-result-4 c = omega (arith, (room c.before.before).third)
