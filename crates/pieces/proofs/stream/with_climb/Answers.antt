use Rattle.std.proofs.Common.{◌≡◌, inl, inr, sym, ◌∙◌, subst, IsTrue}
use Rattle.std.specs.Prelude.{◌-ℤ◌}
use Rattle.std.proofs.lemmas.Bool.{false≢true}
use Rattle.rational.specs.Extended.{value_at}
use Rattle.frac128.specs.Value.{value}
use Rattle.frac128.specs.Cuts.{place}
use Rattle.pieces.specs.Streaming.{before_time}
use Rattle.pieces.proofs.Ends.{earlier_upto}
use Rattle.pieces.proofs.Hands.{before_here, climbed_best, climbed_past}
use Rattle.pieces.proofs.PieceEnds.{piece_first, piece_last}
use Rattle.pieces.proofs.Shifts.{high_from, high_to, room}
use Rattle.pieces.proofs.stream.with_climb.Goals as goal

pub left-gone-requires : goal.left-gone-requires
left-gone-requires g c =
    let (s, b, known) = c.requires.climbs in
    record {
      from = piece_first known.can known.is;
      to = piece_last known.can known.is;
      small = known.can.small;
      to_within = known.within;
    }

pub at_high-requires : goal.at_high-requires
at_high-requires g c =
    let (s, b, known) = c.requires.climbs in
    record {
      small = known.can.small;
      room = room (g.P.Shape.base c.args.piece.now.shape) c.args.way.now.over.high (known.can.near c.args.piece.now.shape known.is.has)
          (high_from c.args.way.now.over known.can.small) (high_to c.args.way.now.over known.can.small);
    }

pub better_at-requires : goal.better_at-requires
better_at-requires g c =
    let (s, b, known) = c.requires.climbs in
    known.time

pub returns-then-not-precedes-clause-value : goal.returns-then-not-precedes-clause-value
returns-then-not-precedes-clause-value g c s b known best =
    let to = value c.args.to.now in
    climbed_past g.P.Shape (assumption g.met.P.Shape) s c.args.way.now known.can.rising c.args.piece.now b to known
    (value_at (g.P.Shape.function c.args.best) to)
    (c.left-gone.ensures.after to (before_here to (place c.left-gone.result) (λ x. false≢true (sym c.if-not-precedes.true ∙ c.precedes.ensures.1 x))) known.inside) best

pub returns-clause-value : goal.returns-clause-value
returns-clause-value g c s b known best =
    let to = value c.args.to.now in
    climbed_best g.P.Shape (assumption g.met.P.Shape) s c.args.way.now known.can.rising c.args.piece.now b to known
    (value_at (g.P.Shape.function c.args.best) to) (value_at (g.P.Shape.function c.better_at.result) to) c.at_high.result
    (c.left-gone.ensures.upto to (earlier_upto (before_time to) (place c.left-gone.result) (c.precedes.ensures.0 c.if-not-precedes.false))).0
    c.at_high.ensures.value c.better_at.ensures.value best

pub returns-clause-base : goal.returns-clause-base
returns-clause-base g c = elim c.better_at.ensures.one [
  | inl e ↦ inl e
  | inr e ↦ inr (subst (λ r. IsTrue (g.P.Shape.moves r) → IsTrue (g.P.Shape.moves c.args.piece.now.shape)
      × (g.P.Shape.base r ≡ g.P.Shape.base c.args.piece.now.shape -ℤ c.args.way.now.over.high)) (sym e) c.at_high.ensures.base)
]
