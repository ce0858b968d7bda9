use Rattle.std.proofs.Common.{arith}
use Rattle.report_text.specs.Text.{line_text}
use Rattle.laws.specs.Stores.{puts_more}
use Rattle.report_text.proofs.put_line.Goals as goal

pub returns : goal.returns
unfolding line_text
returns c =
    let rest = puts_more c.put_ended-third.ensures.0 c.put_ended.ensures.0 in
    (puts_more c.put_ended-first.ensures.0 (puts_more c.put_ended-second.ensures.0 rest), omega arith)
