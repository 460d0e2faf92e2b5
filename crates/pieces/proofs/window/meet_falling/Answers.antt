use Rattle.std.proofs.Common.{◌^◌, ◌∙◌, refl, sym, ap, subst}
use Rattle.std.proofs.lemmas.Option.{IfSome_then}
use Rattle.std.proofs.lemmas.Result.{on_ok_weaker}
use Rattle.rational.specs.Time.{add, whole}
use Rattle.rational.specs.Extended.{value_at}
use Rattle.rational.proofs.Lists.{on_err_anyway}
use Rattle.rational.proofs.PlaceLemmas.{between}
use Rattle.rational.proofs.Shift.{le_shift}
use Rattle.frac128.specs.Cuts.{place}
use Rattle.value_laws.specs.Members.{ShapeLaws}
use Rattle.pieces.specs.declared.sliding.Sliding.{Sliding}
use Rattle.pieces.specs.Chains.{end, stop}
use Rattle.pieces.specs.Causes.{IsCauseBelow}
use Rattle.pieces.specs.Steps.{AreSteps, HasSlid}
use Rattle.pieces.proofs.Bests.{nw_back, nw_same, nw_trans}
use Rattle.pieces.proofs.CountsInPlay.{none_refused}
use Rattle.pieces.proofs.PieceEnds.{ahead_here, below_here, meets_entered, met_next, reaches_past, stop_below, within_here}
use Rattle.pieces.proofs.StepsToTell.{falls_lagging, plays_lagging, stands_lagging}
use Rattle.pieces.proofs.BestEnd.{moved_level, on_ok_two}
use Rattle.pieces.proofs.WindowGoesOn.{falls_off}
use Rattle.pieces.proofs.Refusals.{held_below}
use Rattle.pieces.proofs.Shifts.{low_from, low_to, room}
use Rattle.pieces.proofs.window.meet_falling.Goals as goal

pub is_hidden-requires : goal.is_hidden-requires
is_hidden-requires g c =
    let (chain, known) = c.requires.met in
    record {
      steps = subst (λ b. AreSteps g.P.Shape c.args.way.now.side b c.args.window.now.steps.items) (sym c.until_in_place-at.ensures) known.met.stands.steps;
      small = known.met.can.small;
      near = known.met.can.near c.args.piece.now.shape known.piece.has;
      within = within_here known;
    }

pub at_low-slope-requires-clause-small : goal.at_low-slope-requires-clause-small
at_low-slope-requires-clause-small g c =
    let (chain, known) = c.requires.met in
    known.met.can.small

pub at_low-slope-requires-clause-room : goal.at_low-slope-requires-clause-room
at_low-slope-requires-clause-room g c =
    let (chain, known) = c.requires.met in
    room (g.P.Shape.base c.args.piece.now.shape) c.args.way.now.over.low (known.met.can.near c.args.piece.now.shape known.piece.has)
    (low_from c.args.way.now.over known.met.can.small) (low_to c.args.way.now.over known.met.can.small)

pub slide-requires-clause-steps : goal.slide-requires-clause-steps
slide-requires-clause-steps g c =
    let (chain, known) = c.requires.met in
    subst (λ s. AreSteps g.P.Shape c.args.way.now.side s c.args.window.now.steps.items) (sym c.until_in_place-at.ensures) known.met.stands.steps

pub slide-requires-clause-falls : goal.slide-requires-clause-falls
slide-requires-clause-falls g c t u a k m =
    let side = c.args.way.now.side in
    let low = whole c.args.way.now.over.low in
    nw_trans (nw_same side (c.at_low-slope.ensures.value t)) (nw_trans (c.requires.trend (add t low) (add u low) (le_shift c.args.way.now.over.low k))
    (nw_back side (c.at_low-slope.ensures.value u)))

pub slide-requires-clause-level : goal.slide-requires-clause-level
slide-requires-clause-level g c =
    let (chain, known) = c.requires.met in
    let f = g.P.Shape.function c.args.piece.now.shape in
    let m = between (place c.args.from.now) (end c.args.piece.now) known.piece.order in
    moved_level (2 ^ 31) f (g.P.Shape.function c.at_low-slope.result) c.args.way.now.over.low m.0 c.at_low-slope.ensures.value
    (known.met.can.limited.values m.0 (value_at f m.0) (known.piece.worth m.0 m.1 m.2))

pub returns-then-is_hidden-clause-met : goal.returns-then-is_hidden-clause-met
returns-then-is_hidden-clause-met g c chain known =
    let laws : ShapeLaws g.P.Shape = assumption g.met.P.Shape in
    let way = c.args.way.now in
    let from = place c.args.from.now in
    let old = c.args.window.now in
    let new : Sliding g.row.P.Denot = record { out = old.out; steps = c.slide.new.steps } in
    on_ok_weaker c.slide.result (λ here.
    let slid : HasSlid g.P.Shape way.side (stop old.out) old.steps.items c.at_low-slope.result (place c.args.until.now) c.slide.new.steps.items =
    subst (λ b. HasSlid g.P.Shape way.side b old.steps.items c.at_low-slope.result (place c.args.until.now) c.slide.new.steps.items)
    c.until_in_place-at.ensures here in
    met_next known (stands_lagging g.P.Shape laws chain way from c.args.piece.now old new known c.requires.trend (place c.args.gone.now)
    (place c.args.until.now) c.requires.gone c.requires.left (c.is_hidden.ensures c.if-is_hidden.true) c.at_low-slope.result
    c.at_low-slope.ensures.value c.at_low-slope.ensures.base refl slid)
    (plays_lagging g.P.Shape laws chain way from c.args.piece.now old new known c.requires.trend (place c.args.gone.now)
    (place c.args.until.now) c.requires.gone c.requires.left (c.is_hidden.ensures c.if-is_hidden.true) c.at_low-slope.result
    c.at_low-slope.ensures.value c.at_low-slope.ensures.base refl slid)) c.slide.ensures

pub returns-then-is_hidden-clause-falls : goal.returns-then-is_hidden-clause-falls
returns-then-is_hidden-clause-falls g c =
    let (chain, known) = c.requires.met in
    let way = c.args.way.now in
    let old = c.args.window.now in
    let new : Sliding g.row.P.Denot = record { out = old.out; steps = c.slide.new.steps } in
    on_ok_weaker c.slide.result (λ here. falls_lagging g.P.Shape (assumption g.met.P.Shape) chain way (place c.args.from.now) c.args.piece.now old
    new known c.requires.trend (place c.args.gone.now)
    (place c.args.until.now) c.requires.gone c.requires.left (c.is_hidden.ensures c.if-is_hidden.true) c.at_low-slope.result
    c.at_low-slope.ensures.value c.at_low-slope.ensures.base refl
    (subst (λ b. HasSlid g.P.Shape way.side b old.steps.items c.at_low-slope.result (place c.args.until.now) c.slide.new.steps.items)
    c.until_in_place-at.ensures here)) c.slide.ensures

pub returns-then-is_hidden-clause-wide : goal.returns-then-is_hidden-clause-wide
returns-then-is_hidden-clause-wide g c chain known = on_err_anyway c.slide.result
    (none_refused c.args.fault.now (IsCauseBelow g.P.Shape chain c.args.way.now.over (stop chain).at) c.requires.none)

pub enter-requires-clause-met : goal.enter-requires-clause-met
enter-requires-clause-met g c =
    let (chain, known) = c.requires.met in
    (chain, known.met, ahead_here known)

pub falling-requires-clause-met : goal.falling-requires-clause-met
falling-requires-clause-met g c =
    let (chain, known) = c.requires.met in
    (chain, meets_entered known (c.in_ok-enter.ensures.met chain known.met (ahead_here known)) (c.in_ok-enter.ensures.entered chain))

pub enter-requires-2-clause-met : goal.enter-requires-2-clause-met
enter-requires-2-clause-met g c =
    let (chain, known) = c.requires.met in (
      chain,
      c.in_ok-falling.ensures.met chain
          (meets_entered known (c.in_ok-enter.ensures.met chain known.met (ahead_here known)) (c.in_ok-enter.ensures.entered chain)),
      reaches_past g.P.Shape chain c.args.way.now (end c.args.piece.now) known.ahead,
    )

pub returns-in_err-enter-clause-wide : goal.returns-in_err-enter-clause-wide
returns-in_err-enter-clause-wide g c chain known =
    on_err_anyway c.from_residual.result (c.in_err-enter.ensures.wide chain (stop chain).at known.met (below_here known))

pub returns-in_err-falling-clause-wide : goal.returns-in_err-falling-clause-wide
returns-in_err-falling-clause-wide g c chain known =
    on_err_anyway c.from_residual-in_err-falling.result (IfSome_then c.falling.new.fault (c.in_err-falling.ensures.wide chain
    (meets_entered known (c.in_ok-enter.ensures.met chain known.met (ahead_here known)) (c.in_ok-enter.ensures.entered chain)))
    (held_below g.P.Shape chain c.args.way.now (place c.args.from.now).at (stop chain).at (below_here known)))

pub returns-clause-met : goal.returns-clause-met
returns-clause-met g c chain known = c.enter-2.ensures.met chain (c.in_ok-falling.ensures.met chain
    (meets_entered known (c.in_ok-enter.ensures.met chain known.met (ahead_here known)) (c.in_ok-enter.ensures.entered chain)))
    (reaches_past g.P.Shape chain c.args.way.now (end c.args.piece.now) known.ahead)

pub returns-clause-falls : goal.returns-clause-falls
returns-clause-falls g c =
    let (chain, known) = c.requires.met in
    let last = end c.args.piece.now in
    on_ok_two c.enter-2.result (λ met entered. falls_off g.P.Shape (assumption g.met.P.Shape) chain c.args.way.now known.met.can.rising last last last
    c.enter-2.new.window met.stands entered) (c.enter-2.ensures.met chain (c.in_ok-falling.ensures.met chain
    (meets_entered known (c.in_ok-enter.ensures.met chain known.met (ahead_here known)) (c.in_ok-enter.ensures.entered chain)))
    (reaches_past g.P.Shape chain c.args.way.now last known.ahead)) (c.enter-2.ensures.entered chain)

pub returns-clause-from : goal.returns-clause-from
returns-clause-from g c =
    on_ok_weaker c.enter-2.result (λ e. e ∙ (ap (λ o. o.from) c.falling.ensures.out ∙ c.in_ok-enter.ensures.from)) c.enter-2.ensures.from

pub returns-clause-wide : goal.returns-clause-wide
returns-clause-wide g c chain known = c.enter-2.ensures.wide chain (stop chain).at (c.in_ok-falling.ensures.met chain
    (meets_entered known (c.in_ok-enter.ensures.met chain known.met (ahead_here known)) (c.in_ok-enter.ensures.entered chain)))
    (stop_below g.P.Shape chain c.args.way.now (end c.args.piece.now) known.ahead)
