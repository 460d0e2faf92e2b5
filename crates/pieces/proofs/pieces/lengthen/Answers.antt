use Rattle.std.proofs.Common.{◌≡◌, ◌+◌, ◌-◌, length, set, ap, ◌∙◌, arith}
use Rattle.pieces.proofs.BuildingLemmas.{longer}
use Rattle.pieces.proofs.Lasts.{last_read, last_written}
use Rattle.pieces.proofs.pieces.lengthen.Goals as goal

pub returns-clause-longer : goal.returns-clause-longer
returns-clause-longer g c front last e =
    let count : (c.len-last.result - 1) + 1 ≡ length c.args.items.now.items = let some = c.requires in let number = c.len-last.ensures in omega arith in
    let same = last_read c.args.items.now.items front last c.index_mut.result.now (c.len-last.result - 1) e count c.index_mut.ensures.value in
    ap (λ l. set c.args.items.now.items (c.len-last.result - 1) (longer l c.args.until.now)) same
    ∙ last_written c.args.items.now.items front last (longer last c.args.until.now) (c.len-last.result - 1) e count
