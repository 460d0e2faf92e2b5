use Rattle.std.proofs.Common.{◌+◌, ◌-◌, ◌++◌, length, take, drop, arith, sym, subst}
use Rattle.answer_lines.specs.After.{IsAdded}
use Rattle.answer_lines.proofs.TextsBehind.{part_added}
use Rattle.answer_lines.proofs.after.add_part.Goals as goal

pub returns : goal.returns
returns c =
    let word = c.args.word.now in
    let buf = c.args.buf.now in
    let at = c.args.at in
    let len = c.args.len in
    let k = at + length word - at in
    subst (λ w. IsAdded (take len word) buf at (take at buf ++ (w ++ drop k (drop at buf))) (at + len)) (sym c.copy_from_slice.ensures.after)
    (part_added word buf at len k c.requires.part c.requires.room (omega arith))
