use Rattle.std.proofs.Common.{rules, drop, subst}
use Rattle.std.specs.VecDeque.{deque_len}
use Rattle.rational.specs.Places.{Before}
use Rattle.frac128.specs.Cuts.{place}
use Rattle.pieces.proofs.StepsToTell.{first_apart}
use Rattle.pieces.proofs.window.is_under.Goals as goal

pub covers-requires-clause-small : goal.covers-requires-clause-small
covers-requires-clause-small g c =
    let (chain, from, known) = c.requires.met in
    known.met.can.small

pub covers-requires-clause-near : goal.covers-requires-clause-near
covers-requires-clause-near g c =
    let (chain, from, known) = c.requires.met in
    known.met.can.near c.args.piece.now.shape known.piece.has

pub covers-requires-clause-within : goal.covers-requires-clause-within
covers-requires-clause-within g c = c.requires.reached.within

pub returns-clause-on : goal.returns-clause-on
returns-clause-on g c is =
    subst (λ s. Before s (place c.args.next.now)) c.requires.at (c.precedes.ensures.0 c.if-not-precedes.false)

pub returns-clause-under : goal.returns-clause-under
returns-clause-under g c is =
    let xs = c.args.window.now.steps.items in
    record {
      first = c.in-Some.first.now;
      rest = drop 1 xs;
      are = first_apart xs (deque_len c.args.window.now.steps) c.in-Some.first.now (search rules) (search rules) (search rules);
      alone = c.covers.ensures.alone is;
      later = c.covers.ensures.later is;
      above = c.covers.ensures.above is;
    }
