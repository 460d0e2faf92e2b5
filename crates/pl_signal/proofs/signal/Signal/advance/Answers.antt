use Rattle.std.proofs.Common.{inr, ◌+◌, ◌<◌, length, refl, sym, ◌∙◌, arith}
use Rattle.std.proofs.lemmas.Bool.{false≢true}
use Rattle.rational.specs.Time.{◌<ʳ◌}
use Rattle.rational.proofs.Order.{same_sym}
use Rattle.frac128.specs.Value.{value}
use Rattle.pl_signal.specs.Knots.{time}
use Rattle.pl_signal.proofs.Values.{shape_at, shape_after, worth_at, worth_between}
use Rattle.pl_signal.proofs.Places.{before_unless, place_next, place_stays}
use Rattle.pl_signal.proofs.signal.Signal.advance.Goals as goal

pub returns-then-reaches-clause-place : goal.returns-then-reaches-clause-place
returns-then-reaches-clause-place g c = place_next g.P.Shape c.args.self.now c.args.place c.knot-next.result
    (value c.args.to.now) c.len.ensures.signal c.requires.more c.knot-next.ensures
    ((c.requires.reaches c.knot-next.result c.knot-next.ensures).0 c.if-reaches.true)

pub returns-then-reaches-clause-shape : goal.returns-then-reaches-clause-shape
returns-then-reaches-clause-shape g c = shape_at g.P.Shape c.args.self.now (c.args.place + 1) c.knot-next.result c.knot-next.ensures

pub returns-then-reaches-clause-worth : goal.returns-then-reaches-clause-worth
returns-then-reaches-clause-worth g c =
    worth_at g.P.Shape c.args.self.now (c.args.place + 1) c.knot-next.result (value c.args.to.now) c.knot-next.ensures
    (same_sym ((c.requires.reaches c.knot-next.result c.knot-next.ensures).0 c.if-reaches.true))

pub returns : goal.returns
returns g c =
    let before : value c.args.to.now <ʳ time c.knot-next.result =
    before_unless (c.requires.next c.knot-next.result c.knot-next.ensures)
    (λ e. false≢true (sym c.if-reaches.false ∙ (c.requires.reaches c.knot-next.result c.knot-next.ensures).1 e)) in
    let inside : c.args.place < length c.args.self.now = let more = c.requires.more in omega arith in
    let stays = place_stays g.P.Shape c.args.self.now c.args.place c.knot-next.result
    (value c.args.to.now) inside c.requires.begun c.knot-next.ensures before in
    record {
      place = stays;
      shape = shape_after g.P.Shape c.args.self.now c.args.place c.knot.result c.knot.ensures;
      worth = worth_between g.P.Shape c.args.self.now c.args.place c.knot.result c.knot-next.result (value c.args.to.now) c.knot.ensures c.knot-next.ensures
          (c.requires.begun c.knot.result c.knot.ensures) before;
      moved = inr (refl, stays.later);
    }
