use Rattle.std.proofs.Common.{inl, inr, refl, sym, subst}
use Rattle.std.proofs.lemmas.Result.{on_ok_weaker}
use Rattle.rational.specs.Places.{After, AtMost}
use Rattle.rational.proofs.Order.{le_trans}
use Rattle.rational.proofs.PlaceLemmas.{le_of_at_most}
use Rattle.frac128.specs.Cuts.{place}
use Rattle.pieces.specs.Chains.{stop}
use Rattle.pieces.proofs.ConstantsReached.{reached_past, tells_reached}
use Rattle.pieces.proofs.Ends.{at_most_of_same}
use Rattle.pieces.proofs.FollowedWindows.{on_ok_three}
use Rattle.pieces.proofs.constants.reach_past.Goals as goal

pub reached-requires : goal.reached-requires
reached-requires g c =
    let (s, known) = c.requires.all in
    record {
      from = le_trans known.has.can.first (le_of_at_most s.from (place c.args.met.now) known.begins);
      to = le_trans (le_of_at_most (place c.args.met.now) (stop s) known.ends) known.has.can.last;
      small = known.has.can.small;
      to_within = known.has.within;
    }

pub tell_best-requires-clause-tells : goal.tell_best-requires-clause-tells
tell_best-requires-clause-tells g c =
    let (s, known) = c.requires.all in
    let way = c.args.way.now in
    let met = place c.args.met.now in
    let next = place c.in-Some.next in (
      s,
      met,
      tells_reached g.P.Shape (assumption g.met.P.Shape) s way met next c.args.window.now known c.in-Some.ensures.some
          (subst (λ x. AtMost x next) c.until.ensures.value (c.in-Some.ensures.on (subst (λ x. AtMost x (place way.to)) (sym c.until.ensures.value)
          (λ t u. known.has.to t (known.has.all.upto t u))))),
    )

pub returns-in_default-clause-all : goal.returns-in_default-clause-all
returns-in_default-clause-all g c s known = record {
  has = known.has;
  reached = known.reached;
  entered = λ t a u. c.in_default.ensures.none refl t (subst (λ x. After x t) (sym c.until.ensures.value) a);
}

pub returns-in_default-clause-left : goal.returns-in_default-clause-left
returns-in_default-clause-left g c = record { n = 0; is = refl; left = λ t a. a }

pub returns-in_default-clause-upto : goal.returns-in_default-clause-upto
returns-in_default-clause-upto g c = inl refl

pub returns-clause-all : goal.returns-clause-all
returns-clause-all g c s known =
    let way = c.args.way.now in
    let met = place c.args.met.now in
    let next = place c.in-Some.next in
    let order = subst (λ x. AtMost x next) c.until.ensures.value (c.in-Some.ensures.on (subst (λ x. AtMost x (place way.to)) (sym c.until.ensures.value)
    (λ t u. known.has.to t (known.has.all.upto t u)))) in
    on_ok_three c.tell_best.result (λ told first ends. reached_past g.P.Shape (assumption g.met.P.Shape) s way met next c.args.window.now known
    c.in-Some.ensures.some c.tell_best.new.window told first ends)
    (c.tell_best.ensures.told s met (tells_reached g.P.Shape (assumption g.met.P.Shape) s way met next c.args.window.now known c.in-Some.ensures.some order))
    c.tell_best.ensures.first c.tell_best.ensures.ends

pub returns-clause-upto : goal.returns-clause-upto
returns-clause-upto g c = on_ok_weaker c.tell_best.result (λ ends. inr (λ t u. c.in-Some.ensures.some.before t
    (at_most_of_same (stop c.tell_best.new.window.out) (place c.in-Some.next) ends t u))) c.tell_best.ensures.ends
