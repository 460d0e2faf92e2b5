use Rattle.std.proofs.Common.{inl, inr, refl, sym, subst, ◌∙◌}
use Rattle.std.proofs.lemmas.Bool.{false≢true}
use Rattle.std.proofs.lemmas.Result.{on_ok_weaker}
use Rattle.rational.specs.Places.{Before}
use Rattle.rational.proofs.PlaceLemmas.{at_most_of_not_before}
use Rattle.frac128.specs.Cuts.{place}
use Rattle.pieces.specs.Chains.{stop}
use Rattle.pieces.proofs.LevelsLemmas.{best_told, moved_of_best}
use Rattle.pieces.proofs.levels.put_best.Goals as goal

pub returns-then-not-precedes-clause-on : goal.returns-then-not-precedes-clause-on
returns-then-not-precedes-clause-on g c = inl (
  at_most_of_not_before (place c.args.until.now) (stop c.args.out.now) (λ b. false≢true (sym c.if-not-precedes.true ∙ c.precedes.ensures.1
      (subst (λ x. Before x (place c.args.until.now)) (sym c.until.ensures.value) b))),
  refl,
)

pub returns-clause-on : goal.returns-clause-on
returns-clause-on g c = on_ok_weaker c.put.result (λ goes. inr (
  subst (λ x. Before x (place c.args.until.now)) c.until.ensures.value (c.precedes.ensures.0 c.if-not-precedes.false),
  record {
    best = c.best_of-best.result;
    goes = goes;
    moved = moved_of_best g.P.Shape c.args.s.now c.args.way.now c.ask.result c.best_of-best.result c.best_of-best.ensures;
    is = λ t a u. best_told g.P.Shape (assumption g.met.P.Shape) c.args.s.now c.args.way.now c.requires.can.rising (stop c.args.out.now) c.args.seen.now
        c.requires.counts (place c.args.until.now) c.requires.comes c.requires.goes t a u c.requires.some c.requires.levels c.args.range.now.items
        c.requires.turned c.ask.result c.best_of-best.result c.best_of-best.ensures c.ask.ensures.none.0 c.ask.ensures.place;
  },
)) c.put.ensures.ok
