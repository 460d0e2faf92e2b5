use Rattle.std.proofs.lemmas.Bool.{MatchBool-at_true}
use Rattle.report.specs.Report.{Join}
use Rattle.report.proofs.ItemTexts.{touch_room}
use Rattle.report.proofs.items.joined.Goals as goal

pub invariant_of-on : goal.invariant_of-on
invariant_of-on c =
    let J : Type 0 = Join c.args.line.now c.args.next.now in
    let j : J = MatchBool-at_true J (¬ J) c.if-not-joins.false c.joins.ensures in
    record { not_empty = touch_room c.args.line.now.on c.args.next.now.on j.2 }
