use Rattle.std.proofs.Common.{◌^◌, refl, sym, subst, inr}
use Rattle.std.proofs.lemmas.Result.{on_ok_weaker}
use Rattle.rational.specs.Time.{add, whole}
use Rattle.rational.specs.Extended.{value_at}
use Rattle.rational.specs.Places.{After, AtMost}
use Rattle.rational.proofs.PlaceLemmas.{after_at_most, between, le_of_at_most}
use Rattle.pieces.proofs.StepLemmas.{to_end}
use Rattle.rational.proofs.Shift.{le_shift}
use Rattle.frac128.specs.Cuts.{place}
use Rattle.value_laws.specs.Members.{ShapeLaws}
use Rattle.pieces.specs.Chains.{end, stop}
use Rattle.pieces.specs.Steps.{AreSteps, HasSlid, steps_end}
use Rattle.pieces.proofs.Bests.{nw_back, nw_same, nw_trans}
use Rattle.pieces.proofs.PieceEnds.{holds_first, met_piece}
use Rattle.pieces.proofs.BestEnd.{moved_level}
use Rattle.pieces.proofs.WindowGoesOn.{stands_slid}
use Rattle.rational.proofs.Lists.{on_err_anyway}
use Rattle.pieces.specs.Meeting.{IsHeldFault}
use Rattle.pieces.specs.Sliding.{last_end}
use Rattle.pieces.proofs.CountsInPlay.{fall_plays, low_comes, none_refused}
use Rattle.pieces.proofs.InPlayCauses.{plays_slid}
use Rattle.pieces.proofs.Shifts.{low_from, low_to, room}
use Rattle.pieces.proofs.window.falling.Goals as goal

pub hold-requires-clause-met : goal.hold-requires-clause-met
hold-requires-clause-met g c =
    let (chain, known) = c.requires.met in
    (chain, place c.args.from.now, holds_first c.requires.trend known)

pub returns-in_err-hold-clause-wide : goal.returns-in_err-hold-clause-wide
returns-in_err-hold-clause-wide g c chain known =
    on_err_anyway c.from_residual.result (c.in_err-hold.ensures.wide chain (place c.args.from.now) (holds_first c.requires.trend known))

pub at_low-slope-requires-clause-small : goal.at_low-slope-requires-clause-small
at_low-slope-requires-clause-small g c =
    let (chain, known) = c.requires.met in
    known.can.small

pub slide-requires-clause-steps : goal.slide-requires-clause-steps
slide-requires-clause-steps g c =
    let (chain, known) = c.requires.met in
    subst (λ s. AreSteps g.P.Shape c.args.way.now.side s c.hold.new.window.steps.items) (sym c.until_in_place-at.ensures)
    (c.in_ok-hold.ensures.stands chain (place c.args.from.now) (holds_first c.requires.trend known)).steps

pub slide-requires-clause-falls : goal.slide-requires-clause-falls
slide-requires-clause-falls g c t u a k m =
    let side = c.args.way.now.side in
    let low = whole c.args.way.now.over.low in
    nw_trans (nw_same side (c.at_low-slope.ensures.value t)) (nw_trans (c.requires.trend (add t low) (add u low) (le_shift c.args.way.now.over.low k))
    (nw_back side (c.at_low-slope.ensures.value u)))

pub slide-requires-clause-level : goal.slide-requires-clause-level
slide-requires-clause-level g c =
    let (chain, known) = c.requires.met in
    let f = g.P.Shape.function c.args.piece.now.shape in
    let m = between (place c.args.from.now) (end c.args.piece.now) known.piece.order in
    moved_level (2 ^ 31) f (g.P.Shape.function c.at_low-slope.result) c.args.way.now.over.low m.0 c.at_low-slope.ensures.value
    (known.can.limited.values m.0 (value_at f m.0) (known.piece.worth m.0 m.1 m.2))

pub returns-clause-met : goal.returns-clause-met
returns-clause-met g c chain known =
    let laws : ShapeLaws g.P.Shape = assumption g.met.P.Shape in
    let way = c.args.way.now in
    let from = place c.args.from.now in
    let piece = c.args.piece.now in
    let old = c.hold.new.window in
    let until = place c.args.until.now in
    let held = holds_first c.requires.trend known in
    let past = c.in_ok-hold.ensures.past chain from held in
    let lasts : AtMost until (place way.to) = λ t u. (c.requires.left.upto t u).1 in
    on_ok_weaker c.slide.result (λ here.
    let slid : HasSlid g.P.Shape way.side (stop old.out) old.steps.items c.at_low-slope.result until c.slide.new.steps.items =
    subst (λ b. HasSlid g.P.Shape way.side b old.steps.items c.at_low-slope.result until c.slide.new.steps.items) c.until_in_place-at.ensures here in
    met_piece known (stands_slid g.P.Shape laws chain way known.can.rising known.some from piece known.piece old
    (record { out = old.out; steps = c.slide.new.steps }) (c.in_ok-hold.ensures.stands chain from held) refl
    (λ t a u. known.entered t (subst (λ o. After (stop o) t) c.hold.ensures.out (after_at_most (stop old.out) (last_end old) t
    (to_end g.P.Shape way.side (stop old.out) old.steps.items (c.in_ok-hold.ensures.stands chain from held).steps) a)) u) past c.at_low-slope.result until
    c.requires.trend
    c.at_low-slope.ensures.value slid c.requires.left.upto c.requires.left.after)
    (plays_slid g.P.Shape chain way.over (place way.to) way.side old (record { out = old.out; steps = c.slide.new.steps })
    (c.in_ok-hold.ensures.plays chain from held) refl c.at_low-slope.result until
    (λ order m. let b = c.at_low-slope.ensures.base m in (
      piece.shape,
      known.piece.has,
      b.0,
      inr (
        b.1,
        low_comes g.P.Shape chain way.over (place way.to) from
            (last_end old) until (le_of_at_most chain.from from known.piece.begins) order lasts past,
      ),
    ))
    (fall_plays g.P.Shape chain way.over known.can.rising known.can.small known.some from piece known.piece (last_end old) until
    (λ t a u. past t a (lasts t u)) (λ t a u. (c.requires.left.upto t u).0)
    (g.P.Shape.function c.at_low-slope.result) c.at_low-slope.ensures.value) slid)) c.slide.ensures

pub returns-clause-wide : goal.returns-clause-wide
returns-clause-wide g c chain known = on_err_anyway c.slide.result
    (none_refused c.hold.new.fault (IsHeldFault g.P.Shape chain c.args.way.now (place c.args.from.now).at) c.in_ok-hold.ensures.still)

pub returns-clause-past : goal.returns-clause-past
returns-clause-past g c = on_ok_weaker c.slide.result (λ slid t a u. c.requires.left.after t
    (slid.past t (subst (λ b. After (steps_end b c.slide.new.steps.items) t) (sym c.until_in_place-at.ensures) a)).0 u) c.slide.ensures

pub at_low-slope-requires-clause-room : goal.at_low-slope-requires-clause-room
at_low-slope-requires-clause-room g c =
    let (chain, known) = c.requires.met in
    room (g.P.Shape.base c.args.piece.now.shape) c.args.way.now.over.low (known.can.near c.args.piece.now.shape known.piece.has)
    (low_from c.args.way.now.over known.can.small) (low_to c.args.way.now.over known.can.small)
