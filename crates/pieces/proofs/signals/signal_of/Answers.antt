use Rattle.std.proofs.Common.{◌≡◌, ◌+◌, ◌^◌, suc, length, sym, ◌∙◌, ap, subst, arith}
use Rattle.rational.specs.Rational.{IsWithin}
use Rattle.rational.specs.Time.{◌≈◌, ◌<ʳ◌}
use Rattle.rational.specs.Places.{Before}
use Rattle.rational.proofs.Order.{same_refl, same_sym}
use Rattle.rational.proofs.Mixed.{within_same, within_between}
use Rattle.rational.proofs.PlaceLemmas.{le_of_before, le_of_at_most}
use Rattle.frac128.specs.Value.{value}
use Rattle.frac128.specs.Cuts.{place}
use Rattle.pl_signal.specs.Knots as knots
use Rattle.pl_signal.specs.Moves as moves
use Rattle.pl_signal.proofs.Telling as so_far
use Rattle.pieces.specs.Chains.{IsWorth, end, stop}
use Rattle.pieces.proofs.Ends.{at_most_of_before, at_most_trans}
use Rattle.pieces.proofs.ChainsTell.{worth_is_function}
use Rattle.pieces.proofs.ReadUpTo.{begin_at, begin_most, next_begin, last_begin, rises_at, end_most, shape_at}
use Rattle.pieces.proofs.KnotLemmas.{signal_first, signal_first_shapes, added_begins, added_ends, added_tells, added_shapes, gap_worth}
use Rattle.pieces.proofs.signals.signal_of.Goals as goal

pub loop-i-init : goal.loop-i-init
loop-i-init g c =
    let is = ap (λ s. s.at) c.from-at.ensures in
    let made = c.in_ok-built.ensures in
    record {
      tells = signal_first g.P.Shape c.args.chain.now c.piece.result.now c.from-at.result.time c.in_ok-built.built c.len-count.ensures.normal
          c.piece.ensures c.requires.begins is made;
      begins = ap (λ ks. knots.start ks) made ∙ is;
      at = c.from-at.ensures;
      here = subst (λ ks. value c.from-at.result.time ≈ knots.stop ks) (sym made) (same_refl (value c.from-at.result.time));
      within = subst (λ ks. IsWithin (2 ^ 34) (knots.stop ks)) (sym made) (subst (λ t. IsWithin (2 ^ 34) t) (sym is) c.requires.from_within);
      shapes = signal_first_shapes g.P.Shape c.args.chain.now c.piece.result.now c.from-at.result.time c.in_ok-built.built c.piece.ensures made;
    }

pub loop-i-preserved : goal.loop-i-preserved
loop-i-preserved g c =
    let p = c.piece-in-loop-i.result.now in
    let e = c.piece-in-loop-i.ensures in
    let added = c.in_ok-add_piece.ensures p e in
    let rises = rises_at c.args.chain.now.from c.args.chain.now.pieces c.loop-i.i p c.len-count.ensures.normal.rising e in
    let le = le_of_before (place c.loop-i.at) (end p) (subst (λ s. Before s (end p)) (sym c.loop-i.invariant.at) rises) in
    let ends = added_ends g.P.Shape c.args.chain.now (value c.loop-i.at.time) p c.loop-i.built c.add_piece.new.built added c.loop-i.invariant.here le in
    let next : suc c.loop-i.i ≡ c.loop-i.i + 1 = omega arith in
    record {
      tells = added_tells g.P.Shape c.args.chain.now (value c.loop-i.at.time) p c.loop-i.built c.add_piece.new.built c.len-count.ensures.normal
          c.loop-i.invariant.tells c.loop-i.invariant.here
          (λ t a u. gap_worth g.P.Shape c.args.chain.now c.loop-i.i p t e (subst (λ s. s.at <ʳ t) c.loop-i.invariant.at a) u) added;
      begins = added_begins g.P.Shape c.args.chain.now (value c.loop-i.at.time) p c.loop-i.built c.add_piece.new.built added ∙ c.loop-i.invariant.begins;
      at = sym (subst (λ n. begin_at c.args.chain.now.from c.args.chain.now.pieces n ≡ end p) next
          (next_begin c.args.chain.now.from c.args.chain.now.pieces c.loop-i.i p e));
      here = same_sym ends;
      within = within_same (2 ^ 34) (same_sym ends) (within_between (2 ^ 34) c.requires.from_within c.requires.to_within
          (le_of_at_most c.args.chain.now.from (end p)
          (at_most_trans c.args.chain.now.from (begin_at c.args.chain.now.from c.args.chain.now.pieces c.loop-i.i) (end p)
          (begin_most c.args.chain.now.from c.args.chain.now.pieces c.loop-i.i c.len-count.ensures.normal.rising)
          (at_most_of_before (begin_at c.args.chain.now.from c.args.chain.now.pieces c.loop-i.i) (end p) rises)))
          (le_of_at_most (end p) (stop c.args.chain.now)
          (end_most c.args.chain.now.from c.args.chain.now.pieces c.loop-i.i p c.len-count.ensures.normal.rising e)));
      shapes = added_shapes g.P.Shape c.args.chain.now (value c.loop-i.at.time) p c.loop-i.built c.add_piece.new.built
          (shape_at c.args.chain.now.pieces c.loop-i.i p e) c.loop-i.invariant.shapes added;
    }

pub returns-clause-worth : goal.returns-clause-worth
returns-clause-worth g c =
    let all : c.loop-i.i ≡ length c.args.chain.now.pieces = let done = c.loop-i-test.false in let most = c.loop-i.auto.i-end in
    let count = c.len-count.ensures.value in omega arith in
    let at = c.loop-i.invariant.at ∙ ap (λ n. begin_at c.args.chain.now.from c.args.chain.now.pieces n) all
    ∙ last_begin c.args.chain.now.from c.args.chain.now.pieces in
    subst (moves.Tells g.P.Shape (IsWorth g.P.Shape c.args.chain.now) c.args.chain.now.from.at (stop c.args.chain.now).at) (sym c.finish.ensures.value)
    (so_far.told g.P.Shape (IsWorth g.P.Shape c.args.chain.now) c.args.chain.now.from.at (stop c.args.chain.now).at c.loop-i.built
    (worth_is_function g.P.Shape c.args.chain.now c.len-count.ensures.normal) c.loop-i.invariant.tells
    (subst (λ s. s ≈ c.args.chain.now.from.at) (sym c.loop-i.invariant.begins) (same_refl c.args.chain.now.from.at))
    (subst (λ s. knots.stop c.loop-i.built ≈ s.at) at (same_sym c.loop-i.invariant.here)))

pub returns-clause-shapes : goal.returns-clause-shapes
returns-clause-shapes g c = λ p h. c.loop-i.invariant.shapes p (subst (λ ks. knots.HasShape ks p) c.finish.ensures.value h)
