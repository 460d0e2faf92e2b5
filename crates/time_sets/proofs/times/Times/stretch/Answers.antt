use Rattle.time_sets.proofs.PartLemmas.{part_at}
use Rattle.time_sets.proofs.times.Times.stretch.Goals as goal

pub returns : goal.returns
returns c = part_at c.args.on.now c.args.self.now c.args.next c.border.result.now c.turn_or_end.result.now c.requires.domain c.requires.own
    c.requires.within c.border.ensures c.turn_or_end.ensures
