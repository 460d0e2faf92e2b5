use Rattle.std.proofs.Common.{◌≡◌, ◌∙◌, ◌+◌, ap, to_z, of_z, arith}
use Rattle.std.specs.Int.{w64}
use Rattle.rational.specs.Time.{whole}
use Rattle.stl_syntax.specs.Truth.{compares}
use Rattle.atom_lines.proofs.WayLemmas.{read_next, way_is}
use Rattle.atom_lines.proofs.way.way_from.Goals as goal

pub returns-clause-way : goal.returns-clause-way
returns-clause-way c =
    let s = c.stay_from-stay.ensures in
    let k = c.atom-atom.result.now in
    let at = c.stay_from-stay.result.at in
    let gap = c.stay_from-stay.result.step.gap in
    let next = c.stay_from-stay.result.step.next in
    let read = read_next k c.args.trace.now at gap next c.atom-atom.ensures.sound.limit s.step in
    way_is c.args.bound.now c.args.node k c.atom-atom.ensures.at c.args.trace.now c.args.r at (at + 1) gap next
    (to_z w64 (of_z w64 next)) c.passage_over.result c.holds-holds.result (record {
      count = omega arith;
      begins = s.begins;
      order = s.order;
      limit = c.atom-atom.ensures.sound.limit;
      step = s.step;
      as_read = read;
      passes = c.passage_over.ensures;
      at_end = c.holds-holds.ensures ∙ c.truth_at.ensures ∙ ap (λ m. compares k.rel (whole m)) read;
      stays = λ a tr for has. s.stays c.args.bound.now c.args.node a tr c.atom-atom.ensures.at for has;
    })

pub returns-clause-last : goal.returns-clause-last
returns-clause-last c = let h = c.stay_from-stay.ensures.within in omega (arith, h)
