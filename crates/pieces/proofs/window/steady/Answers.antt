use Rattle.std.proofs.Common.{◌^◌, inl, inr, refl, sym, ◌∙◌, subst}
use Rattle.std.proofs.lemmas.Bool.{false≢true}
use Rattle.std.proofs.lemmas.Result.{on_ok_weaker}
use Rattle.rational.specs.Rational.{IsWithin}
use Rattle.rational.specs.Time.{Rational, add, whole}
use Rattle.rational.specs.Extended.{value_at}
use Rattle.rational.specs.Places.{After, Before}
use Rattle.rational.proofs.AffineLemmas.{bounded_same}
use Rattle.rational.proofs.PlaceLemmas.{sides, between, upto_of_before, before_trans, after_at_most, after_same, at_most_of_not_before}
use Rattle.rational.proofs.Sames.{symᵉ, transᵉ}
use Rattle.frac128.specs.Cuts.{place}
use Rattle.value_laws.specs.Members.{ShapeLaws}
use Rattle.pieces.specs.Chains.{end, stop}
use Rattle.pieces.specs.Steps.{AreSteps, FallOff, HasCounted, StepsGive, steps_end}
use Rattle.pieces.specs.Sliding.{last_end}
use Rattle.pieces.specs.Windows.{low_place}
use Rattle.pieces.proofs.Bests.{best_value}
use Rattle.pieces.proofs.Ends.{at_most_of_before}
use Rattle.pieces.proofs.PieceEnds.{met_piece, told_within}
use Rattle.pieces.proofs.StepsToTell.{counted_falls}
use Rattle.pieces.proofs.StepLemmas.{give_some, to_end}
use Rattle.pieces.proofs.SeenBest.{steady_met}
use Rattle.pieces.proofs.WindowGoesOn.{falls_off, stands_counted, stands_left}
use Rattle.pieces.proofs.CountsInPlay.{steady_plays}
use Rattle.pieces.proofs.InPlayCauses.{plays_counted}
use Rattle.pieces.proofs.Shifts.{high_from, high_to, room}
use Rattle.pieces.proofs.window.steady.Goals as goal

pub count-requires-clause-from_within : goal.count-requires-clause-from_within
count-requires-clause-from_within g c =
    let (chain, from, known) = c.requires.met in
    subst (λ s. IsWithin (2 ^ 34) s.at) (sym c.until_in_place-at.ensures) (told_within known.can known.stands)

pub count-requires-clause-steps : goal.count-requires-clause-steps
count-requires-clause-steps g c =
    let (chain, from, known) = c.requires.met in
    subst (λ b. AreSteps g.P.Shape c.args.way.now.side b c.args.window.now.steps.items) (sym c.until_in_place-at.ensures) known.stands.steps

pub at_high-level-requires-clause-small : goal.at_high-level-requires-clause-small
at_high-level-requires-clause-small g c =
    let (chain, from, known) = c.requires.met in
    known.can.small

pub count-requires-clause-falls : goal.count-requires-clause-falls
count-requires-clause-falls g c =
    let (chain, from, known) = c.requires.met in
    subst (λ s. FallOff g.P.Shape c.args.way.now.side s c.args.window.now.steps.items) (sym c.until_in_place-at.ensures)
    (falls_off g.P.Shape (assumption g.met.P.Shape) chain c.args.way.now known.can.rising from from
    from c.args.window.now known.stands known.entered)

pub count-requires-clause-level : goal.count-requires-clause-level
count-requires-clause-level g c =
    let (chain, from, known) = c.requires.met in
    let f = g.P.Shape.function c.args.piece.now.shape in
    let m = between from (end c.args.piece.now) known.piece.order in
    record {
      steady = λ t u a b d e. transᵉ (c.at_high-level.ensures.value t) (transᵉ (c.requires.trend (add t (whole c.args.way.now.over.high))
          (add u (whole c.args.way.now.over.high))) (symᵉ (c.at_high-level.ensures.value u)));
      level = λ steady t. bounded_same (2 ^ 31) (value_at (g.P.Shape.function c.at_high-level.result) t) (value_at f m.0)
          (transᵉ (c.at_high-level.ensures.value t) (c.requires.trend (add t (whole c.args.way.now.over.high)) m.0))
          (known.can.limited.values m.0 (value_at f m.0) (known.piece.worth m.0 m.1 m.2));
    }

pub count-requires-clause-last : goal.count-requires-clause-last
count-requires-clause-last g c =
    let (chain, from, known) = c.requires.met in
    let at = place c.until_in_place-at.result.now in
    let xs = c.args.window.now.steps.items in
    let low = λ (t : Rational). low_place c.args.way.now.over.low c.args.way.now.over.low_in t in
    λ t u. elim (sides at t) [
      | inl k ↦ upto_of_before at (place c.args.until.now) t (c.precedes.ensures.0 c.if-precedes.true) k
      | inr k ↦ elim (sides (place c.args.until.now) t) [
        | inl h ↦ h
        | inr h ↦ (let x = give_some g.P.Shape c.args.way.now.side at xs t k u in
            let s = known.stands.sees t x.0 (subst (λ b. StepsGive g.P.Shape c.args.way.now.side b xs t x.0)
            c.until_in_place-at.ensures x.1) in
            absurd (c.requires.left.after t h s.1
            (before_trans (low t) from (end c.args.piece.now) s.0 known.piece.order)))
      ]
    ]

pub returns-then-precedes-clause-met : goal.returns-then-precedes-clause-met
returns-then-precedes-clause-met g c chain from known =
    let laws : ShapeLaws g.P.Shape = assumption g.met.P.Shape in
    let way = c.args.way.now in
    let piece = c.args.piece.now in
    let old = c.args.window.now in
    let until = place c.args.until.now in
    on_ok_weaker c.count.result (λ here.
    let counted : HasCounted g.P.Shape way.side (stop old.out) old.steps.items c.at_high-level.result until c.count.new.steps.items =
    subst (λ b. HasCounted g.P.Shape way.side b old.steps.items c.at_high-level.result until c.count.new.steps.items) c.until_in_place-at.ensures here in
    met_piece known (stands_counted g.P.Shape laws chain way known.can.rising known.some from from (end piece) piece known.piece old
    (record { out = old.out; steps = c.count.new.steps }) known.stands (at_most_of_before from (end piece) known.piece.order) refl
    c.at_high-level.result until counted
    (λ t a u. let seen = c.requires.left.upto t u in
    best_value (transᵉ (c.requires.trend t (add t (whole way.over.high))) (symᵉ (c.at_high-level.ensures.value t)))
    (steady_met g.P.Shape laws chain way known.can.rising known.some from piece known.piece t c.requires.trend
    (known.entered t a seen.1) seen.0 t))
    c.requires.left.upto c.requires.left.after)
    (plays_counted g.P.Shape chain way.over (place way.to) way.side old (record { out = old.out; steps = c.count.new.steps })
    known.plays refl c.at_high-level.result until
    (λ m. let b = c.at_high-level.ensures.base m in (piece.shape, known.piece.has, b.0, inl b.1))
    (steady_plays g.P.Shape chain way.over known.can.rising known.can.small known.some from piece known.piece
    (stop old.out) until known.breaks c.requires.trend (λ t a u. known.entered t a (c.requires.left.upto t u).1) (λ t a u. (c.requires.left.upto t u).0)
    (g.P.Shape.function c.at_high-level.result) c.at_high-level.ensures.value) counted)) c.count.ensures

pub returns-then-precedes-clause-past : goal.returns-then-precedes-clause-past
returns-then-precedes-clause-past g c = on_ok_weaker c.count.result (λ counted t a u. c.requires.left.after t
    (after_same (steps_end (place c.until_in_place-at.result.now) c.count.new.steps.items) (place c.args.until.now) t counted.ends
    (subst (λ b. After (steps_end b c.count.new.steps.items) t) (sym c.until_in_place-at.ensures) a)) u) c.count.ensures

pub returns-clause-met : goal.returns-clause-met
returns-clause-met g c chain from known =
    let at = stop c.args.window.now.out in
    let e = place c.args.until.now in
    met_piece known (stands_left g.P.Shape (assumption g.met.P.Shape) chain c.args.way.now known.can.rising known.some from
    from (end c.args.piece.now) c.args.piece.now known.piece c.args.window.now c.args.window.now known.stands
    (at_most_of_before from (end c.args.piece.now) known.piece.order) refl refl e
    (λ t a. after_at_most e at t (at_most_of_not_before e at (λ b. false≢true (sym c.if-precedes.false ∙ c.precedes.ensures.1
    (subst (λ x. Before x e) (sym c.until_in_place-at.ensures) b)))) a)
    c.requires.left.after
    (at_most_of_before from (end c.args.piece.now) known.piece.order)) known.plays

pub returns-clause-past : goal.returns-clause-past
returns-clause-past g c t a u =
    let (chain, from, known) = c.requires.met in
    let at = stop c.args.window.now.out in
    let e = place c.args.until.now in
    c.requires.left.after t (after_at_most e at t (at_most_of_not_before e at (λ b. false≢true (sym c.if-precedes.false ∙ c.precedes.ensures.1
    (subst (λ x. Before x e) (sym c.until_in_place-at.ensures) b))))
    (after_at_most at (last_end c.args.window.now) t (to_end g.P.Shape c.args.way.now.side at c.args.window.now.steps.items known.stands.steps) a)) u

pub returns-then-precedes-clause-falls : goal.returns-then-precedes-clause-falls
returns-then-precedes-clause-falls g c =
    let (chain, from, known) = c.requires.met in
    let side = c.args.way.now.side in
    let old = c.args.window.now in
    let until = place c.args.until.now in
    let at = c.until_in_place-at.ensures in
    on_ok_weaker c.count.result (λ counted. subst (λ b. FallOff g.P.Shape side b c.count.new.steps.items) at
    (counted_falls g.P.Shape side (place c.until_in_place-at.result.now) old.steps.items c.count.new.steps.items c.at_high-level.result until
    (subst (λ b. AreSteps g.P.Shape side b old.steps.items) (sym at) known.stands.steps)
    (subst (λ s. FallOff g.P.Shape side s old.steps.items) (sym at) (falls_off g.P.Shape (assumption g.met.P.Shape) chain c.args.way.now
    known.can.rising from from from old known.stands known.entered))
    (λ t u a b d e. transᵉ (c.at_high-level.ensures.value t) (transᵉ (c.requires.trend (add t (whole c.args.way.now.over.high))
    (add u (whole c.args.way.now.over.high))) (symᵉ (c.at_high-level.ensures.value u)))) counted)) c.count.ensures

pub returns-clause-falls : goal.returns-clause-falls
returns-clause-falls g c =
    let (chain, from, known) = c.requires.met in
    falls_off g.P.Shape (assumption g.met.P.Shape) chain c.args.way.now known.can.rising from from from c.args.window.now known.stands known.entered

pub at_high-level-requires-clause-room : goal.at_high-level-requires-clause-room
at_high-level-requires-clause-room g c =
    let (chain, from, known) = c.requires.met in
    room (g.P.Shape.base c.args.piece.now.shape) c.args.way.now.over.high (known.can.near c.args.piece.now.shape known.piece.has)
    (high_from c.args.way.now.over known.can.small) (high_to c.args.way.now.over known.can.small)
