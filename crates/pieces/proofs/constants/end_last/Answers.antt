use Rattle.std.proofs.Common.{rules, ◌≡◌, ◌+◌, ◌-◌, length, set, ap, ◌∙◌, arith}
use Rattle.std.specs.VecDeque.{deque_len}
use Rattle.pieces.proofs.Lasts.{last_read, last_written}
use Rattle.pieces.proofs.constants.end_last.Goals as goal

pub returns : goal.returns
returns g c front last e =
    let xs = c.args.steps.now.items in
    let long : deque_len c.args.steps.now ≡ length xs = search rules in
    let count : (c.len-last.result - 1) + 1 ≡ length xs = let some = c.requires in let number = c.len-last.ensures in omega (arith, some, number, long) in
    let same = last_read xs front last c.index_mut.result.now (c.len-last.result - 1) e count c.index_mut.ensures.value in
    ap (λ l. set xs (c.len-last.result - 1) (record l { until = c.args.until.now })) same
    ∙ last_written xs front last (record last { until = c.args.until.now }) (c.len-last.result - 1) e count
