use Rattle.std.proofs.Common.{arith}
use Rattle.report_text.specs.Text.{refusal_text}
use Rattle.laws.specs.Stores.{puts_more}
use Rattle.report_text.proofs.put_refusal.Goals as goal

pub returns : goal.returns
unfolding refusal_text
returns c =
    let rest = puts_more c.put_bytes-third.ensures c.put_ended.ensures.0 in
    (puts_more c.put_bytes-first.ensures (puts_more c.put_ended-second.ensures.0 rest), omega arith)
