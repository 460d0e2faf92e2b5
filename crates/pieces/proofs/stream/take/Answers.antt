use Rattle.std.proofs.Common.{inl, inr}
use Rattle.rational.proofs.Order.{le_trans}
use Rattle.rational.proofs.PlaceLemmas.{le_of_at_most, le_of_before}
use Rattle.frac128.specs.Cuts.{place}
use Rattle.pieces.specs.Chains.{end}
use Rattle.pieces.proofs.Bests.{nw_same}
use Rattle.pieces.proofs.Hands.{taken_climbs, taken_counts}
use Rattle.pieces.proofs.PieceEnds.{piece_first, piece_last}
use Rattle.pieces.proofs.Trends.{no_better_of, no_worse_of, steady_of}
use Rattle.pieces.proofs.stream.take.Goals as goal

pub left-until-requires-clause-from : goal.left-until-requires-clause-from
left-until-requires-clause-from g c =
    let (s, known) = c.requires.met in
    piece_first known.can known.piece

pub left-until-requires-clause-to : goal.left-until-requires-clause-to
left-until-requires-clause-to g c =
    let (s, known) = c.requires.met in
    piece_last known.can known.piece

pub left-gone-requires-clause-from : goal.left-gone-requires-clause-from
left-gone-requires-clause-from g c =
    let (s, known) = c.requires.met in
    le_trans known.can.first (le_of_at_most s.from (place c.args.from.now) known.piece.begins)

pub left-gone-requires-clause-to : goal.left-gone-requires-clause-to
left-gone-requires-clause-to g c =
    let (s, known) = c.requires.met in
    le_trans (le_of_before (place c.args.from.now) (end c.args.piece.now) known.piece.order) (piece_last known.can known.piece)

pub steady-requires-clause-met : goal.steady-requires-clause-met
steady-requires-clause-met g c =
    let (s, known) = c.requires.met in
    (s, place c.args.from.now, known)

pub steady-requires-clause-trend : goal.steady-requires-clause-trend
steady-requires-clause-trend g c = steady_of c.args.way.now.side (g.P.Shape.function c.args.piece.now.shape) c.in-Equal.ensures

pub falling-requires-clause-trend : goal.falling-requires-clause-trend
falling-requires-clause-trend g c = no_better_of c.args.way.now.side (g.P.Shape.function c.args.piece.now.shape) c.in-Less.ensures

pub returns-then-is_one-clause-taken : goal.returns-then-is_one-clause-taken
returns-then-is_one-clause-taken g c s known = record {
  hand = taken_climbs (assumption g.met.P.Shape) known (inr (c.is_one.ensures.is c.if-is_one.true));
  plays = known.plays;
}

pub returns-in-Greater-clause-taken : goal.returns-in-Greater-clause-taken
returns-in-Greater-clause-taken g c s known = record {
  hand = taken_climbs (assumption g.met.P.Shape) known
      (inl (no_worse_of c.args.way.now.side (g.P.Shape.function c.args.piece.now.shape) c.in-Greater.ensures));
  plays = known.plays;
}

pub returns-in_ok-steady-in-Equal-clause-taken : goal.returns-in_ok-steady-in-Equal-clause-taken
returns-in_ok-steady-in-Equal-clause-taken g c s known =
    let met = c.in_ok-steady-in-Equal.ensures.met s (place c.args.from.now) known in
    record {
      hand = taken_counts known (λ t u order. nw_same c.args.way.now.side (steady_of c.args.way.now.side
          (g.P.Shape.function c.args.piece.now.shape) c.in-Equal.ensures t u)) met c.in_ok-steady-in-Equal.ensures.past;
      plays = met.plays;
    }

pub returns-in_ok-falling-in-Less-clause-taken : goal.returns-in_ok-falling-in-Less-clause-taken
returns-in_ok-falling-in-Less-clause-taken g c s known =
    let met = c.in_ok-falling-in-Less.ensures.met s known in
    record {
      hand = taken_counts known (no_better_of c.args.way.now.side (g.P.Shape.function c.args.piece.now.shape) c.in-Less.ensures)
          met c.in_ok-falling-in-Less.ensures.past;
      plays = met.plays;
    }
