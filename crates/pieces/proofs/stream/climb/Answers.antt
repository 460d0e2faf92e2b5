use Rattle.std.proofs.Common.{◌^◌, inl}
use Rattle.std.proofs.lemmas.Bool.{false≢true}
use Rattle.std.proofs.lemmas.Option.{IfSome_then}
use Rattle.std.proofs.lemmas.Result.{on_err_weaker, on_ok_weaker}
use Rattle.rational.specs.Time.{add, whole}
use Rattle.rational.proofs.Lists.{on_err_anyway}
use Rattle.rational.specs.Extended.{value_at}
use Rattle.rational.proofs.PlaceLemmas.{between, le_of_at_most}
use Rattle.rational.proofs.Shift.{le_shift}
use Rattle.frac128.specs.Cuts.{place}
use Rattle.pieces.specs.Chains.{end, stop}
use Rattle.pieces.specs.Causes.{IsCauseBelow}
use Rattle.pieces.specs.Sliding.{IsToldFault}
use Rattle.pieces.proofs.Bests.{nw_back, nw_same, nw_trans}
use Rattle.pieces.proofs.CountsInPlay.{none_refused, rise_plays}
use Rattle.pieces.proofs.Hands.{has_climbed}
use Rattle.pieces.proofs.PieceEnds.{told_within}
use Rattle.pieces.proofs.BestEnd.{moved_level, on_ok_two}
use Rattle.pieces.proofs.Ones.{no_steps, no_worse_climbed}
use Rattle.pieces.proofs.InPlayCauses.{told_cause}
use Rattle.pieces.proofs.Refusals.{narrow_told, none_of_refused}
use Rattle.pieces.proofs.Shifts.{high_from, high_to, room}
use Rattle.pieces.proofs.stream.climb.Goals as goal

pub at_high-gap-requires : goal.at_high-gap-requires
at_high-gap-requires g c =
    let (s, known) = c.requires.climbs in
    record {
      small = known.on.can.small;
      room = room (g.P.Shape.base c.args.piece.now.shape) c.args.way.now.over.high (known.on.can.near c.args.piece.now.shape known.hand.hand.is.has)
          (high_from c.args.way.now.over known.on.can.small) (high_to c.args.way.now.over known.on.can.small);
    }

pub tell-requires : goal.tell-requires
tell-requires g c =
    let (s, known) = c.requires.climbs in
    let side = c.args.way.now.side in
    let high = whole c.args.way.now.over.high in
    let f = g.P.Shape.function c.args.piece.now.shape in
    let m = between known.hand.begin (end c.args.piece.now) known.hand.hand.is.order in
    record {
      alone = λ h. absurd (false≢true h);
      steps = known.hand.keeps.steps;
      rises = λ t u a k l. nw_trans (nw_same side (c.at_high-gap.ensures.value u)) (nw_trans (no_worse_climbed c.args.way.now.over side f
          known.hand.rises (c.is_one.ensures.not c.if-is_one.false) (add t high) (add u high) (le_shift c.args.way.now.over.high k))
          (nw_back side (c.at_high-gap.ensures.value t)));
      level = moved_level (2 ^ 31) f (g.P.Shape.function c.at_high-gap.result) c.args.way.now.over.high m.0 c.at_high-gap.ensures.value
          (known.on.can.limited.values m.0 (value_at f m.0) (known.hand.hand.is.worth m.0 m.1 m.2));
      from_within = told_within known.on.can known.hand.keeps;
      to_within = c.requires.within;
      order = known.order;
      none = c.requires.none;
    }

-- where the window sees one time after another
pub put-requires : goal.put-requires
put-requires g c =
    let (s, known) = c.requires.climbs in
    let h = known.hand in
    record {
      steps = no_steps g.P.Shape s c.args.way.now (c.is_one.ensures.is c.if-is_one.true) h.begin (end c.args.piece.now) h.begin c.args.window.now
          h.keeps h.entered;
      within = told_within known.on.can h.keeps;
      order = known.order;
    }

pub returns-then-is_one-clause-told : goal.returns-then-is_one-clause-told
returns-then-is_one-clause-told g c s known = on_ok_two c.put.result (λ told ends.
    has_climbed (assumption g.met.P.Shape) c.at_high-gap.result told ends c.args.piece.now known c.at_high-gap.ensures.value
    (λ m. let b = c.at_high-gap.ensures.base m in (c.args.piece.now.shape, known.hand.hand.is.has, b.0, inl b.1)))
    (c.put.ensures.told c.args.way.now.side) c.put.ensures.ends

pub returns-then-is_one-clause-from : goal.returns-then-is_one-clause-from
returns-then-is_one-clause-from g c = on_ok_weaker c.put.result (λ told. told.begins) (c.put.ensures.told c.args.way.now.side)

pub returns-then-is_one-clause-wide : goal.returns-then-is_one-clause-wide
returns-then-is_one-clause-wide g c s limit known most inside =
    on_err_anyway c.put.result (none_refused c.args.fault.now (IsCauseBelow g.P.Shape s c.args.way.now.over limit) c.requires.none)

pub returns-clause-told : goal.returns-clause-told
returns-clause-told g c s known = on_ok_two c.tell.result (λ told ends.
    has_climbed (assumption g.met.P.Shape) c.at_high-gap.result told ends c.args.piece.now known c.at_high-gap.ensures.value
    (λ m. let b = c.at_high-gap.ensures.base m in (c.args.piece.now.shape, known.hand.hand.is.has, b.0, inl b.1))) c.tell.ensures.told c.tell.ensures.ends

pub returns-clause-from : goal.returns-clause-from
returns-clause-from g c = on_ok_weaker c.tell.result (λ told. told.begins) c.tell.ensures.told

pub returns-clause-wide : goal.returns-clause-wide
returns-clause-wide g c s limit known most inside =
    let way = c.args.way.now in
    let upto = place c.args.upto.now in
    let out = stop c.args.window.now.out in
    let h = known.hand in
    on_err_weaker c.tell.result (λ some. IfSome_then c.tell.new.fault some (told_cause g.P.Shape s way.over (place way.to) way.side c.at_high-gap.result upto
    limit c.args.window.now known.on.plays (le_of_at_most s.from out h.keeps.on) most inside
    (rise_plays g.P.Shape s way.over known.on.can.rising known.on.can.small known.some h.begin c.args.piece.now h.hand.is out upto
    (λ t a u. h.entered t a (known.on.to t (known.inside t u))) (λ t a u. known.all t u)
    (g.P.Shape.function c.at_high-gap.result) c.at_high-gap.ensures.value))) c.tell.ensures.wide

pub returns-clause-narrow : goal.returns-clause-narrow
returns-clause-narrow g c narrow =
    let way = c.args.way.now in
    let until = place c.args.upto.now in
    let old = c.args.window.now in
    on_err_weaker c.tell.result (λ some. none_of_refused c.tell.new.fault (IsToldFault g.P.Shape way.side c.at_high-gap.result until old) some
    (narrow_told g.P.Shape way.side c.at_high-gap.result until old narrow)) c.tell.ensures.wide
