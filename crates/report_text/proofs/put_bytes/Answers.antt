use Rattle.std.proofs.Common.{◌+◌, ◌-◌, ◌≡◌, arith, length, append_assoc, drop-drop, refl}
use Rattle.std.proofs.lemmas.List.Edits.{sets-eq}
use Rattle.report_text.proofs.put_bytes.Goals as goal

pub returns : goal.returns
returns c =
    let room : c.args.at + length c.args.bytes.now - c.args.at ≡ length c.args.bytes.now = omega arith in
    record {
      place_is = omega arith;
      stored = rw (c.copy_from_slice.ensures.after, room, drop-drop, sets-eq c.args.bytes.now c.args.out.now c.args.at c.requires, append_assoc) refl;
    }
