use Rattle.std.proofs.Common.{◌⊎◌, ◌^◌, inl, inr, pos, refl, sym, ◌∙◌, subst}
use Rattle.std.proofs.lemmas.Bool.{false≢true}
use Rattle.std.proofs.lemmas.Result.{on_ok_weaker}
use Rattle.rational.specs.Rational.{IsWithin}
use Rattle.rational.specs.Time.{Rational, ◌≤ʳ◌, whole, ◌<ʳ◌}
use Rattle.rational.specs.Extended.{value_at}
use Rattle.rational.specs.Places.{After, Upto, AtMost, Before}
use Rattle.rational.proofs.Order.{le_trans, lt_trans}
use Rattle.rational.proofs.PlaceLemmas.{sides, after_at_most, after_same, at_most_of_not_before, before_at_most, le_of_at_most}
use Rattle.rational.proofs.PlaceLemmas.{le_of_before, upto_of_before}
use Rattle.rational.proofs.Sames.{symᵉ, transᵉ}
use Rattle.frac128.specs.Cuts.{place}
use Rattle.value_laws.specs.Members.{ShapeLaws}
use Rattle.pieces.specs.Chains.{stop}
use Rattle.pieces.specs.Steps.{AreSteps, FallOff, HasCounted, StepsGive, steps_end}
use Rattle.pieces.specs.Sliding.{last_end}
use Rattle.pieces.specs.Windows.{high_place, low_place}
use Rattle.pieces.proofs.Bests.{best_value}
use Rattle.pieces.proofs.Ends.{after_le, upto_le}
use Rattle.pieces.proofs.StepLemmas.{give_some, hide_upto, to_end}
use Rattle.pieces.proofs.PieceEnds.{held_after, held_before, held_begins, held_bounded, held_ends, held_falls, held_fault, held_plays, held_within}
use Rattle.pieces.proofs.PieceEnds.{told_first, told_last, told_within}
use Rattle.pieces.proofs.BestEnd.{best_there, one_end}
use Rattle.pieces.proofs.WindowGoesOn.{stands_counted, stands_hidden, stands_left}
use Rattle.std.proofs.lemmas.Option.{IfSome_then}
use Rattle.rational.proofs.Lists.{on_err_anyway}
use Rattle.pieces.specs.Meeting.{IsHeldFault}
use Rattle.pieces.proofs.CountsInPlay.{moved_over, none_refused}
use Rattle.pieces.proofs.TakenInPlay.{held_in_play}
use Rattle.pieces.proofs.InPlayCauses.{plays_counted}
use Rattle.pieces.proofs.window.hold.Goals as goal

pub returns-then-not-precedes-clause-stands : goal.returns-then-not-precedes-clause-stands
returns-then-not-precedes-clause-stands g c chain from known =
    let at = stop c.args.window.now.out in
    let e = place c.args.until.now in
    let laws : ShapeLaws g.P.Shape = assumption g.met.P.Shape in
    stands_left g.P.Shape laws chain c.args.way.now known.can.rising known.some from
    (place c.args.best.now) (place c.args.best.now) c.args.piece.now known.piece c.args.window.now c.args.window.now known.keeps
    (held_ends laws known) refl refl e
    (λ t a. after_at_most e at t (at_most_of_not_before e at (λ b. false≢true (sym c.if-not-precedes.true ∙ c.precedes.ensures.1
    (subst (λ x. Before x e) (sym c.until_in_place-at.ensures) b)))) a)
    c.requires.left.after (held_begins laws known)

pub returns-then-not-precedes-clause-past : goal.returns-then-not-precedes-clause-past
returns-then-not-precedes-clause-past g c chain from known t a u =
    let at = stop c.args.window.now.out in
    let e = place c.args.until.now in
    c.requires.left.after t (after_at_most e at t (at_most_of_not_before e at (λ b. false≢true (sym c.if-not-precedes.true
    ∙ c.precedes.ensures.1 (subst (λ x. Before x e) (sym c.until_in_place-at.ensures) b))))
    (after_at_most at (last_end c.args.window.now) t (to_end g.P.Shape c.args.way.now.side at c.args.window.now.steps.items known.keeps.steps) a))
    u

pub is_hidden-requires : goal.is_hidden-requires
is_hidden-requires g c =
    let (chain, from, known) = c.requires.met in
    let laws : ShapeLaws g.P.Shape = assumption g.met.P.Shape in
    record {
      steps = subst (λ b. AreSteps g.P.Shape c.args.way.now.side b c.args.window.now.steps.items) (sym c.until_in_place-at.ensures) known.keeps.steps;
      small = known.can.small;
      near = known.can.near c.args.piece.now.shape known.piece.has;
      within = held_within laws known;
    }

pub returns-then-is_hidden-clause-stands : goal.returns-then-is_hidden-clause-stands
returns-then-is_hidden-clause-stands g c chain from known =
    let laws : ShapeLaws g.P.Shape = assumption g.met.P.Shape in
    let way = c.args.way.now in
    let best = place c.args.best.now in
    let piece = c.args.piece.now in
    stands_hidden g.P.Shape laws chain way known.can.rising known.some from best best piece known.piece c.args.window.now c.args.window.now
    known.keeps (held_ends laws known) refl refl (value_at (g.P.Shape.function piece.shape) best.at) (place c.args.until.now) (held_falls laws known)
    (c.is_hidden.ensures c.if-is_hidden.true)
    (λ t a u l h. best_there g.P.Shape laws chain way known.can.rising from piece known.piece best known.is_best known.some t
    (known.entered t a u) l)
    c.requires.left.after (held_begins laws known)

pub returns-then-is_hidden-clause-past : goal.returns-then-is_hidden-clause-past
returns-then-is_hidden-clause-past g c chain from known t a u =
    let e = place c.args.until.now in
    c.requires.left.after t (after_at_most e (last_end c.args.window.now) t (hide_upto g.P.Shape c.args.way.now.side (stop c.args.window.now.out)
    c.args.window.now.steps.items (value_at (g.P.Shape.function c.args.piece.now.shape) (place c.args.best.now).at) e
    (c.is_hidden.ensures c.if-is_hidden.true)) a) u

pub constant-requires-clause-from : goal.constant-requires-clause-from
constant-requires-clause-from g c =
    let (chain, from, known) = c.requires.met in
    subst (λ s. whole (pos 0) ≤ʳ s.at) (sym c.until_in_place-at.ensures) (told_first known.can known.keeps)

pub constant-requires-clause-to : goal.constant-requires-clause-to
constant-requires-clause-to g c =
    let (chain, from, known) = c.requires.met in
    subst (λ s. s.at ≤ʳ whole (pos (2 ^ 32))) (sym c.until_in_place-at.ensures) (told_last known.can known.keeps)

pub constant-requires-clause-small : goal.constant-requires-clause-small
constant-requires-clause-small g c =
    let (chain, from, known) = c.requires.met in
    known.can.small

pub constant-requires-clause-near : goal.constant-requires-clause-near
constant-requires-clause-near g c =
    let (chain, from, known) = c.requires.met in
    known.can.near c.args.piece.now.shape known.piece.has

pub constant-requires-clause-within : goal.constant-requires-clause-within
constant-requires-clause-within g c =
    let (chain, from, known) = c.requires.met in
    let laws : ShapeLaws g.P.Shape = assumption g.met.P.Shape in
    held_within laws known

pub constant-requires-clause-bounded : goal.constant-requires-clause-bounded
constant-requires-clause-bounded g c =
    let (chain, from, known) = c.requires.met in
    let laws : ShapeLaws g.P.Shape = assumption g.met.P.Shape in
    held_bounded laws known

pub constant-requires-clause-order : goal.constant-requires-clause-order
constant-requires-clause-order g c = le_of_before (place c.until_in_place-at.result.now) (place c.args.until.now) (c.precedes.ensures.0 c.if-not-precedes.false)

pub constant-requires-clause-one : goal.constant-requires-clause-one
constant-requires-clause-one g c same =
    let (chain, from, known) = c.requires.met in
    let laws : ShapeLaws g.P.Shape = assumption g.met.P.Shape in
    let at = c.until_in_place-at.ensures in
    one_end c.args.way.now.over known.can.small (place c.until_in_place-at.result.now) (place c.args.until.now) (place c.args.best.now) chain.from
    (place c.args.way.now.to) c.requires.left.upto c.requires.left.after
    (λ t a u. known.entered t (subst (λ s. After s t) at a) u)
    (subst (λ s. AtMost s chain.from ⊎ ((t : Rational) → Upto s t → ¬ Before (place c.args.best.now)
    (high_place c.args.way.now.over.high c.args.way.now.over.high_in t))) (sym at) known.keeps.reached)
    (held_after laws known) (λ t u. known.to t (held_before laws known t u))
    (c.precedes.ensures.0 c.if-not-precedes.false) same

pub count-requires-clause-from_within : goal.count-requires-clause-from_within
count-requires-clause-from_within g c =
    let (chain, from, known) = c.requires.met in
    subst (λ s. IsWithin (2 ^ 34) s.at) (sym c.until_in_place-at.ensures) (told_within known.can known.keeps)

pub count-requires-clause-steps : goal.count-requires-clause-steps
count-requires-clause-steps g c =
    let (chain, from, known) = c.requires.met in
    subst (λ b. AreSteps g.P.Shape c.args.way.now.side b c.args.window.now.steps.items) (sym c.until_in_place-at.ensures) known.keeps.steps

pub count-requires-clause-falls : goal.count-requires-clause-falls
count-requires-clause-falls g c =
    let (chain, from, known) = c.requires.met in
    let laws : ShapeLaws g.P.Shape = assumption g.met.P.Shape in
    subst (λ s. FallOff g.P.Shape c.args.way.now.side s c.args.window.now.steps.items) (sym c.until_in_place-at.ensures) (held_falls laws known)

pub count-requires-clause-level : goal.count-requires-clause-level
count-requires-clause-level g c = record {
  steady = λ t u a b d e. transᵉ (c.in_ok-value.ensures.value t a b) (symᵉ (c.in_ok-value.ensures.value u d e));
  level = c.in_ok-value.ensures.level;
}

pub count-requires-clause-last : goal.count-requires-clause-last
count-requires-clause-last g c =
    let (chain, from, known) = c.requires.met in
    let laws : ShapeLaws g.P.Shape = assumption g.met.P.Shape in
    let at = place c.until_in_place-at.result.now in
    let xs = c.args.window.now.steps.items in
    let low = λ (t : Rational). low_place c.args.way.now.over.low c.args.way.now.over.low_in t in
    λ t u. elim (sides at t) [
      | inl k ↦ upto_of_before at (place c.args.until.now) t (c.precedes.ensures.0 c.if-not-precedes.false) k
      | inr k ↦ elim (sides (place c.args.until.now) t) [
        | inl h ↦ h
        | inr h ↦ (let x = give_some g.P.Shape c.args.way.now.side at xs t k u in
            let s = known.keeps.sees t x.0 (subst (λ b. StepsGive g.P.Shape c.args.way.now.side b xs t x.0)
            c.until_in_place-at.ensures x.1) in
            absurd (c.requires.left.after t h s.1
            (before_at_most (low t) from (place c.args.best.now) s.0 (held_begins laws known))))
      ]
    ]

pub returns-clause-stands : goal.returns-clause-stands
returns-clause-stands g c chain from known =
    let laws : ShapeLaws g.P.Shape = assumption g.met.P.Shape in
    let way = c.args.way.now in
    let best = place c.args.best.now in
    let piece = c.args.piece.now in
    let at = c.until_in_place-at.ensures in
    on_ok_weaker c.count.result (λ counted. stands_counted g.P.Shape laws chain way known.can.rising known.some from best best piece
    known.piece c.args.window.now (record { out = c.args.window.now.out; steps = c.count.new.steps }) known.keeps (held_ends laws known) refl
    c.in_ok-value.value (place c.args.until.now)
    (subst (λ b. HasCounted g.P.Shape way.side b c.args.window.now.steps.items c.in_ok-value.value (place c.args.until.now)
    c.count.new.steps.items) at counted)
    (λ t a u. let seen = c.requires.left.upto t u in
    best_value (symᵉ (c.in_ok-value.ensures.value t (after_le (place c.until_in_place-at.result.now) t (subst (λ b. After b t) (sym at) a))
    (upto_le (place c.args.until.now) t u)))
    (best_there g.P.Shape laws chain way known.can.rising from piece known.piece best known.is_best known.some t
    (known.entered t a seen.1) seen.0))
    c.requires.left.upto
    c.requires.left.after) c.count.ensures

pub returns-clause-past : goal.returns-clause-past
returns-clause-past g c chain from known = on_ok_weaker c.count.result (λ counted t a u. c.requires.left.after t
    (after_same (steps_end (place c.until_in_place-at.result.now) c.count.new.steps.items) (place c.args.until.now) t counted.ends
    (subst (λ b. After (steps_end b c.count.new.steps.items) t) (sym c.until_in_place-at.ensures) a))
    u) c.count.ensures

pub returns-in_err-value-clause-wide : goal.returns-in_err-value-clause-wide
returns-in_err-value-clause-wide g c chain from known =
    let laws : ShapeLaws g.P.Shape = assumption g.met.P.Shape in
    on_err_anyway c.from_residual.result (IfSome_then c.constant.new.fault c.in_err-value.ensures.wide
    (λ pair x. held_fault laws known (place c.args.until.now) c.requires.left c.args.best.now.time refl
    (subst (λ b. b.at <ʳ (place c.args.until.now).at) c.until_in_place-at.ensures x.0) pair x.1))

pub returns-clause-plays : goal.returns-clause-plays
returns-clause-plays g c chain from known =
    let laws : ShapeLaws g.P.Shape = assumption g.met.P.Shape in
    let way = c.args.way.now in
    let old = c.args.window.now in
    let until = place c.args.until.now in
    let here = c.until_in_place-at.ensures in
    on_ok_weaker c.count.result (λ counted. plays_counted g.P.Shape chain way.over (place way.to) way.side old
    (record { out = old.out; steps = c.count.new.steps })
    known.plays refl c.in_ok-value.value until
    (moved_over g.P.Shape chain way.over (place way.to) c.args.piece.now.shape c.in_ok-value.value (place c.args.best.now).at
    (place c.until_in_place-at.result.now).at
    known.piece.has c.in_ok-value.ensures.base (le_of_at_most chain.from (place c.args.best.now) (held_after laws known))
    (subst (λ b. b.at ≤ʳ (place way.to).at) (sym here) (le_trans (le_of_at_most (stop old.out) (stop chain) known.keeps.upto)
    (le_of_at_most (stop chain) (place way.to) known.to))))
    (λ tau a b. held_in_play g.P.Shape chain way.over (place c.args.best.now).at tau (g.P.Shape.function c.in_ok-value.value)
    (held_plays laws known until c.requires.left tau (g.P.Shape.function c.in_ok-value.value) a b
    (λ t. symᵉ (c.in_ok-value.ensures.fixed (subst (λ b. b.at <ʳ until.at) (sym here) (lt_trans a b)) t))))
    (subst (λ b. HasCounted g.P.Shape way.side b old.steps.items c.in_ok-value.value until c.count.new.steps.items) here counted)) c.count.ensures

pub returns-clause-wide : goal.returns-clause-wide
returns-clause-wide g c chain from known = on_err_anyway c.count.result
    (none_refused c.constant.new.fault (IsHeldFault g.P.Shape chain c.args.way.now (place c.args.best.now).at) c.in_ok-value.ensures.still)
