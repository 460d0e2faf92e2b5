-- What stood behind the place stands at the front.
use Rattle.std.proofs.Common.{◌≡◌, ◌+◌, ◌-◌, length, take, drop, ap, ◌∙◌, arith, length-drop, take_all}
use lib.Seq.{paste}
use Rattle.std.proofs.lemmas.List.Edits.{take-paste}
use Rattle.trace_reader.proofs.trace.let_go_before.Goals as goal

pub returns : goal.returns
returns g c =
    let all = c.args.items.now.items in
    let at = c.args.at in
    let left = c.len-len.result - at in
    let same : left ≡ 0 + left = omega arith in
    let rest : length (drop at all) ≡ left = omega (arith, length-drop at all, c.len-len.ensures, c.args.items.now.ok.0) in
    c.truncate.ensures.items ∙ ap (take left) c.copy_within.ensures.items
    ∙ ap (λ k. take k (paste all 0 (drop at all) left)) same ∙ take-paste all 0 (drop at all) left (omega arith) (omega (arith, rest))
    ∙ take_all left (drop at all) (omega (arith, rest))
