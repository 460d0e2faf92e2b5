use Rattle.std.proofs.Common.{◌+◌, ◌-◌, drop, arith}
use Rattle.std.proofs.lemmas.List.{take-take}
use Rattle.answer_lines.proofs.TextsBehind.{add_as}
use Rattle.answer_lines.proofs.after.add_text.Goals as goal

pub returns : goal.returns
returns c =
    let from = c.args.from in
    add_as (take-take (96 - from) (from + 32 - from) (drop from c.args.room.now) (omega arith)) c.add_part-2.ensures
