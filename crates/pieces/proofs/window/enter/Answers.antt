use Rattle.std.proofs.Common.{inl, inr, refl, sym, subst, ◌∙◌}
use Rattle.rational.specs.Places.{After, AtMost}
use Rattle.rational.proofs.Order.{le_trans}
use Rattle.rational.proofs.PlaceLemmas.{after_same, le_of_at_most}
use Rattle.frac128.specs.Value.{value}
use Rattle.frac128.specs.Cuts.{place}
use Rattle.value_laws.specs.Members.{ShapeLaws}
use Rattle.pieces.specs.Chains.{stop}
use Rattle.pieces.proofs.Ends.{at_most_itself, at_most_of_same, at_most_trans}
use Rattle.pieces.proofs.PieceEnds.{reach_below, reach_within, reached_narrow, told_within}
use Rattle.pieces.proofs.BestEnd.{none_last, none_level, none_rises, on_ok_two}
use Rattle.pieces.proofs.WindowGoesOn.{best_with_none, keeps_told, tells_more}
use Rattle.std.proofs.lemmas.Bool.{false≢true}
use Rattle.std.proofs.lemmas.Option.{IfSome_then}
use Rattle.std.proofs.lemmas.Result.{on_err_weaker, on_ok_weaker}
use Rattle.pieces.proofs.InPlayCauses.{plays_told, told_cause_none}
use Rattle.pieces.proofs.Refusals.{narrow_told, none_of_refused}
use Rattle.pieces.specs.Sliding.{IsToldFault}
use Rattle.pieces.proofs.window.enter.Goals as goal

pub reached-requires-clause-from : goal.reached-requires-clause-from
reached-requires-clause-from g c =
    let (chain, known, ahead) = c.requires.met in
    le_trans known.can.first (le_of_at_most chain.from (place c.args.met.now) known.begins)

pub reached-requires-clause-to : goal.reached-requires-clause-to
reached-requires-clause-to g c =
    let (chain, known, ahead) = c.requires.met in
    le_trans (le_of_at_most (place c.args.met.now) (stop chain) known.ends) known.can.last

pub tell-requires-clause-alone : goal.tell-requires-clause-alone
tell-requires-clause-alone g c = λ h. none_last g.P.Shape (assumption g.met.P.Shape) c.args.way.now.side c.of_none.result c.of_none.ensures.value

pub tell-requires-clause-rises : goal.tell-requires-clause-rises
tell-requires-clause-rises g c = none_rises g.P.Shape (assumption g.met.P.Shape) c.args.way.now.side c.of_none.result c.of_none.ensures.value
    (stop c.args.window.now.out).at (value c.in-Some.next.time)

pub tell-requires-clause-level : goal.tell-requires-clause-level
tell-requires-clause-level g c =
    none_level g.P.Shape (assumption g.met.P.Shape) c.args.way.now.side c.of_none.result c.of_none.ensures.value

pub tell-requires-clause-order : goal.tell-requires-clause-order
tell-requires-clause-order g c =
    let (chain, known, ahead) = c.requires.met in
    subst (λ s. AtMost s (place c.in-Some.next)) c.until.ensures.value
    (c.in-Some.ensures.on (subst (λ s. AtMost s (place c.args.way.now.to)) (sym c.until.ensures.value)
    (λ t u. known.to t (known.stands.upto t u))))

pub tell-requires-clause-from_within : goal.tell-requires-clause-from_within
tell-requires-clause-from_within g c =
    let (chain, known, ahead) = c.requires.met in
    told_within known.can known.stands

pub tell-requires-clause-steps : goal.tell-requires-clause-steps
tell-requires-clause-steps g c =
    let (chain, known, ahead) = c.requires.met in
    known.stands.steps

pub reached-requires-clause-small : goal.reached-requires-clause-small
reached-requires-clause-small g c =
    let (chain, known, ahead) = c.requires.met in
    known.can.small

pub reached-requires-clause-to_within : goal.reached-requires-clause-to_within
reached-requires-clause-to_within g c =
    let (chain, known, ahead) = c.requires.met in
    known.within

pub returns-clause-met : goal.returns-clause-met
returns-clause-met g c chain known ahead =
    let laws : ShapeLaws g.P.Shape = assumption g.met.P.Shape in
    let way = c.args.way.now in
    let met = place c.args.met.now in
    let next = place c.in-Some.next in
    let old = c.args.window.now in
    let new = c.tell.new.self in
    let st = known.stands in
    on_ok_two c.tell.result (λ told ends.
    let upto_next : AtMost (stop new.out) next = at_most_of_same (stop new.out) next ends in
    let upto_end : AtMost (stop new.out) (stop chain) = at_most_trans (stop new.out) next (stop chain) upto_next
    (reach_within g.P.Shape chain way met next c.in-Some.ensures.some ahead) in
    record {
      can = known.can;
      to = known.to;
      within = known.within;
      begins = known.begins;
      ends = known.ends;
      stands = keeps_told g.P.Shape laws chain way known.can.rising met met met c.of_none.result old new st told met upto_end
          (tells_more g.P.Shape laws chain way known.can.rising met met met c.of_none.result old new st told met
          (λ t a u. c.in-Some.ensures.some.before t (upto_next t u))
          (λ t v a u b. best_with_none g.P.Shape laws chain way known.can.rising met met met c.of_none.result old st (at_most_itself met)
          c.of_none.ensures.value t v (c.in-Some.ensures.some.upto t (upto_next t u)) b))
          (inr (λ t u. c.in-Some.ensures.some.before t (upto_next t u)));
      plays = plays_told g.P.Shape chain way.over (place way.to) way.side old new known.plays c.of_none.result
          (λ m. absurd (false≢true (sym c.of_none.ensures.still ∙ m))) told;
    }) c.tell.ensures.told c.tell.ensures.ends

pub returns-clause-entered : goal.returns-clause-entered
returns-clause-entered g c chain = on_ok_weaker c.tell.result (λ ends t a u. c.in-Some.ensures.some.after t
    (after_same (stop c.tell.new.self.out) (place c.in-Some.next) t ends a) u) c.tell.ensures.ends

pub returns-clause-from : goal.returns-clause-from
returns-clause-from g c = on_ok_weaker c.tell.result (λ told. told.begins) c.tell.ensures.told

pub returns-clause-upto : goal.returns-clause-upto
returns-clause-upto g c = on_ok_weaker c.tell.result (λ ends. inr (λ t u. c.in-Some.ensures.some.before t
    (at_most_of_same (stop c.tell.new.self.out) (place c.in-Some.next) ends t u))) c.tell.ensures.ends

pub returns-clause-wide : goal.returns-clause-wide
returns-clause-wide g c chain limit known below =
    let way = c.args.way.now in
    let next = place c.in-Some.next in
    let out = stop c.args.window.now.out in
    on_err_weaker c.tell.result (λ some. IfSome_then c.tell.new.fault some (told_cause_none g.P.Shape chain way.over (place way.to)
    (assumption g.met.P.Shape) way.side
    c.of_none.result next limit c.args.window.now c.of_none.ensures.value known.plays (le_of_at_most chain.from out known.stands.on)
    (reach_below g.P.Shape chain way (place c.args.met.now) next c.in-Some.ensures.some limit below) below.0)) c.tell.ensures.wide

pub returns-clause-narrow : goal.returns-clause-narrow
returns-clause-narrow g c narrow =
    let way = c.args.way.now in
    let next = place c.in-Some.next in
    let old = c.args.window.now in
    on_err_weaker c.tell.result (λ some. none_of_refused c.tell.new.fault (IsToldFault g.P.Shape way.side c.of_none.result next old) some
    (narrow_told g.P.Shape way.side c.of_none.result next old
    (reached_narrow way (place c.args.met.now) next (stop old.out).at c.in-Some.ensures.some narrow))) c.tell.ensures.wide

pub returns-in_default-clause-entered : goal.returns-in_default-clause-entered
returns-in_default-clause-entered g c chain t a u = c.in_default.ensures.none refl t (subst (λ s. After s t) (sym c.until.ensures.value) a)

pub returns-in_default-clause-met : goal.returns-in_default-clause-met
returns-in_default-clause-met g c chain known ahead = known

pub returns-in_default-clause-upto : goal.returns-in_default-clause-upto
returns-in_default-clause-upto g c = inl refl
