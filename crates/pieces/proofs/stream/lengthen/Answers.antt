use Rattle.std.proofs.Common.{◌^◌, refl, sym, subst}
use Rattle.std.proofs.lemmas.Result.{on_ok_weaker}
use Rattle.rational.specs.Time.{add, whole}
use Rattle.rational.specs.Extended.{value_at}
use Rattle.rational.proofs.PlaceLemmas.{between}
use Rattle.rational.proofs.Shift.{le_shift}
use Rattle.frac128.specs.Cuts.{place}
use Rattle.value_laws.specs.Members.{ShapeLaws}
use Rattle.pieces.specs.Chains.{end}
use Rattle.pieces.specs.Hands.{GoesFurther, IsTaken}
use Rattle.pieces.specs.Steps.{AreSteps, HasSlid}
use Rattle.pieces.proofs.Bests.{nw_back, nw_same, nw_trans}
use Rattle.pieces.proofs.Hands.{counts_of, further_base, further_climbs, further_counts}
use Rattle.pieces.proofs.PieceEnds.{piece_first, piece_last}
use Rattle.pieces.proofs.BestEnd.{moved_level}
use Rattle.pieces.proofs.Shifts.{low_from, low_to, room}
use Rattle.pieces.proofs.stream.lengthen.Goals as goal

pub returns-in-Greater-clause-taken : goal.returns-in-Greater-clause-taken
returns-in-Greater-clause-taken g c s known =
    let way = c.args.way.now in
    let piece = c.args.piece.now in
    let window = c.args.window.now in
    subst (λ t. IsTaken g.P.Shape s way piece t window) (sym c.in-Greater.is)
    (further_climbs (assumption g.met.P.Shape) (subst (λ t. GoesFurther g.P.Shape s way c.args.met.now piece t window) c.in-Greater.is known))

pub left-until-requires : goal.left-until-requires
left-until-requires g c =
    let (s, known) = c.requires.further in
    record {
      from = piece_first known.on.can known.more;
      to = piece_last known.on.can known.more;
      small = known.on.can.small;
      to_within = known.on.within;
    }

pub at_low-slope-requires : goal.at_low-slope-requires
at_low-slope-requires g c =
    let (s, known) = c.requires.further in
    record {
      small = known.on.can.small;
      room = room (g.P.Shape.base c.args.piece.now.shape) c.args.way.now.over.low (known.on.can.near c.args.piece.now.shape known.more.has)
          (low_from c.args.way.now.over known.on.can.small) (low_to c.args.way.now.over known.on.can.small);
    }

pub slide-requires-clause-steps : goal.slide-requires-clause-steps
slide-requires-clause-steps g c =
    let (s, known) = c.requires.further in
    let counts = counts_of c.args.trend c.in_default.not-Greater known.hand in
    subst (λ b. AreSteps g.P.Shape c.args.way.now.side b c.args.window.now.steps.items) (sym c.until_in_place-at.ensures) counts.stands.steps

pub slide-requires-clause-falls : goal.slide-requires-clause-falls
slide-requires-clause-falls g c t u a k m =
    let (s, known) = c.requires.further in
    let counts = counts_of c.args.trend c.in_default.not-Greater known.hand in
    let side = c.args.way.now.side in
    let low = whole c.args.way.now.over.low in
    nw_trans (nw_same side (c.at_low-slope.ensures.value t)) (nw_trans (counts.falls (add t low) (add u low) (le_shift c.args.way.now.over.low k))
    (nw_back side (c.at_low-slope.ensures.value u)))

pub slide-requires-clause-level : goal.slide-requires-clause-level
slide-requires-clause-level g c =
    let (s, known) = c.requires.further in
    let f = g.P.Shape.function c.args.piece.now.shape in
    let m = between (place c.args.met.now) (end c.args.piece.now) known.more.order in
    moved_level (2 ^ 31) f (g.P.Shape.function c.at_low-slope.result) c.args.way.now.over.low m.0 c.at_low-slope.ensures.value
    (known.on.can.limited.values m.0 (value_at f m.0) (known.more.worth m.0 m.1 m.2))

pub returns-in_default-clause-taken : goal.returns-in_default-clause-taken
returns-in_default-clause-taken g c s known =
    let laws : ShapeLaws g.P.Shape = assumption g.met.P.Shape in
    let way = c.args.way.now in
    let old = c.args.window.now in
    let until = place c.left-until.result in
    let slope = c.at_low-slope.result in
    on_ok_weaker c.slide.result (λ here.
    further_counts laws c.args.trend c.in_default.not-Greater known (record { out = old.out; steps = c.slide.new.steps }) refl slope until
    c.left-until.ensures c.at_low-slope.ensures.value
    (further_base laws c.args.trend c.in_default.not-Greater known slope until c.left-until.ensures c.at_low-slope.ensures.base)
    (subst (λ b. HasSlid g.P.Shape way.side b old.steps.items slope until c.slide.new.steps.items) c.until_in_place-at.ensures here)) c.slide.ensures
