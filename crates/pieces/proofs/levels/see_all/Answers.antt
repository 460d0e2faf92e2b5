use Rattle.std.proofs.Common.{ap, arith, sym, subst, ◌∙◌}
use Rattle.std.proofs.lemmas.Result.{on_ok_weaker}
use Rattle.rational.specs.Places.{AtMost, Same}
use Rattle.frac128.specs.Cuts.{place}
use Rattle.pieces.specs.Chains.{HasShape, stop}
use Rattle.pieces.specs.Levels.{AreTurned, Counts}
use Rattle.pieces.specs.Windows.{BestOver}
use Rattle.pieces.proofs.ChainLemmas.{to_stop}
use Rattle.pieces.proofs.Ends.{at_most_itself, at_most_trans, same_place}
use Rattle.pieces.proofs.LevelsLemmas.{further, place_within}
use Rattle.pieces.proofs.OverWindow.{best_is_function}
use Rattle.pieces.proofs.ChainsTell.{tells_none, told}
use Rattle.rational.proofs.PlaceLemmas.{same_of_at_most}
use Rattle.pieces.proofs.levels.see_all.Goals as goal

pub loop-seen-init : goal.loop-seen-init
loop-seen-init g c =
    let s = c.args.s.now in
    let e = c.requires.none in
    record {
      tells = tells_none g.P.Shape (BestOver g.P.Shape s c.args.way.now.over c.args.way.now.side) s.from c.args.out.now e;
      bases = λ p h. absurd (subst (λ x. HasShape x p) e h);
      begins = ap (λ x. x.from) e;
      above = subst (λ x. AtMost s.from (stop x)) (sym e) (at_most_itself s.from);
      below = subst (λ x. AtMost (stop x) (stop s)) (sym e) (to_stop s.from s.pieces c.requires.can.rising);
      counts = subst (λ x. Counts g.P.Shape s c.args.way.now (stop x) c.begin-seen.result) (sym e) c.begin-seen.ensures;
      turned = c.requires.turned;
      low = let l = c.requires.low in omega (arith, l);
      high = let h = c.requires.high in omega (arith, h);
    }

pub put_best-requires-clause-within : goal.put_best-requires-clause-within
put_best-requires-clause-within g c = place_within g.P.Shape (assumption g.met.P.Shape) c.args.s.now c.args.way.now c.requires.can.rising
    c.requires.can.limited (stop c.loop-seen.out) c.loop-seen.invariant.above c.loop-seen.invariant.below

pub put_best-requires-2-clause-within : goal.put_best-requires-2-clause-within
put_best-requires-2-clause-within g c = place_within g.P.Shape (assumption g.met.P.Shape) c.args.s.now c.args.way.now c.requires.can.rising
    c.requires.can.limited (stop c.loop-seen.out) c.loop-seen.invariant.above c.loop-seen.invariant.below

pub loop-seen-preserved : goal.loop-seen-preserved
loop-seen-preserved g c =
    let s = c.args.s.now in
    let way = c.args.way.now in
    let old = c.loop-seen.out in
    let new = c.put_best.new.out in
    let next = place c.of-next.result.until in
    let on = further g.P.Shape (assumption g.met.P.Shape) s way c.requires.can.rising old new c.of-next.result.until c.in_ok-put_best.ensures.on in
    let moves = c.pass-seen.ensures.on in
    record {
      tells = on.tells c.loop-seen.invariant.tells;
      bases = on.bases c.loop-seen.invariant.bases;
      begins = on.begins ∙ c.loop-seen.invariant.begins;
      above = at_most_trans s.from (stop old) (stop new) c.loop-seen.invariant.above on.later;
      below = on.below (subst (λ x. AtMost next x) c.requires.ends (at_most_trans next (place c.loop-seen.seen.comes) (place way.to)
          c.of-next.ensures.before_left c.loop-seen.invariant.counts.comes_upto)) c.loop-seen.invariant.below;
      counts = c.pass-seen.ensures.counts (stop old) (stop new) c.loop-seen.invariant.counts on.later on.upto;
      turned = subst (λ items. AreTurned g.P.Shape way.side s.pieces items) (sym c.in_ok-put_best.ensures.items) c.loop-seen.invariant.turned;
      low = let l = c.in_ok-put_best.ensures.low in let m = moves.low in omega (arith, l, m);
      high = let h = c.in_ok-put_best.ensures.high in let m = moves.high in omega (arith, h, m);
    }

pub returns-clause-told : goal.returns-clause-told
returns-clause-told g c =
    let s = c.args.s.now in
    let way = c.args.way.now in
    on_ok_weaker c.put_best-2.result (λ here.
    let on = further g.P.Shape (assumption g.met.P.Shape) s way c.requires.can.rising c.loop-seen.out c.put_best-2.new.out way.to here in
    told g.P.Shape (BestOver g.P.Shape s way.over way.side) s.from (stop s) c.put_best-2.new.out
    (best_is_function g.P.Shape (assumption g.met.P.Shape) s way c.requires.can.rising) (on.tells c.loop-seen.invariant.tells)
    (subst (λ x. Same x s.from) (sym (on.begins ∙ c.loop-seen.invariant.begins)) (same_place s.from))
    (same_of_at_most (stop c.put_best-2.new.out) (stop s)
    (on.below (subst (λ x. AtMost x (stop s)) (sym c.requires.ends) (at_most_itself (stop s))) c.loop-seen.invariant.below)
    (subst (λ x. AtMost x (stop c.put_best-2.new.out)) c.requires.ends on.upto))) c.put_best-2.ensures.on

pub returns-clause-bases : goal.returns-clause-bases
returns-clause-bases g c = on_ok_weaker c.put_best-2.result (λ here.
    (further g.P.Shape (assumption g.met.P.Shape) c.args.s.now c.args.way.now c.requires.can.rising c.loop-seen.out c.put_best-2.new.out
    c.args.way.now.to here).bases
    c.loop-seen.invariant.bases) c.put_best-2.ensures.on
