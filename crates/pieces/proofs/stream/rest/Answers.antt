use Rattle.std.proofs.Common.{◌∙◌, sym}
use Rattle.std.proofs.lemmas.Bool.{false≢true}
use Rattle.std.proofs.lemmas.Option.{IfSome_then}
use Rattle.std.proofs.lemmas.Result.{on_err_weaker, on_ok_weaker}
use Rattle.rational.proofs.PlaceLemmas.{le_of_at_most}
use Rattle.frac128.specs.Value.{value}
use Rattle.frac128.specs.Cuts.{place}
use Rattle.value_laws.specs.Members.{ShapeLaws}
use Rattle.pieces.specs.Chains.{stop}
use Rattle.pieces.specs.Sliding.{IsToldFault}
use Rattle.pieces.proofs.Hands.{has_rested}
use Rattle.pieces.proofs.PieceEnds.{told_within}
use Rattle.pieces.proofs.BestEnd.{none_last, none_level, none_rises, on_ok_two}
use Rattle.pieces.proofs.InPlayCauses.{told_cause_none}
use Rattle.pieces.proofs.Refusals.{narrow_told, none_of_refused}
use Rattle.pieces.proofs.stream.rest.Goals as goal

pub tell-requires : goal.tell-requires
tell-requires g c =
    let (s, met, reach, known) = c.requires.rests in
    let laws : ShapeLaws g.P.Shape = assumption g.met.P.Shape in
    let side = c.args.way.now.side in
    record {
      alone = λ h. none_last g.P.Shape laws side c.of_none.result c.of_none.ensures.value;
      steps = known.keeps.steps;
      rises = none_rises g.P.Shape laws side c.of_none.result c.of_none.ensures.value (stop c.args.window.now.out).at (value c.args.upto.now.time);
      level = none_level g.P.Shape laws side c.of_none.result c.of_none.ensures.value;
      from_within = told_within known.on.can known.keeps;
      to_within = c.requires.within;
      order = known.order;
      none = c.requires.none;
    }

pub returns-clause-told : goal.returns-clause-told
returns-clause-told g c s met reach known = on_ok_two c.tell.result (λ told ends.
    has_rested (assumption g.met.P.Shape) c.of_none.result told ends met reach known c.of_none.ensures.value
    (λ m. absurd (false≢true (sym c.of_none.ensures.still ∙ m)))) c.tell.ensures.told c.tell.ensures.ends

pub returns-clause-from : goal.returns-clause-from
returns-clause-from g c = on_ok_weaker c.tell.result (λ told. told.begins) c.tell.ensures.told

pub returns-clause-left : goal.returns-clause-left
returns-clause-left g c = on_ok_weaker c.tell.result (λ told. told.left) c.tell.ensures.told

pub returns-clause-wide : goal.returns-clause-wide
returns-clause-wide g c s met reach limit known most inside =
    let way = c.args.way.now in
    let out = stop c.args.window.now.out in
    on_err_weaker c.tell.result (λ some. IfSome_then c.tell.new.fault some (told_cause_none g.P.Shape s way.over (place way.to)
    (assumption g.met.P.Shape) way.side c.of_none.result (place c.args.upto.now) limit c.args.window.now c.of_none.ensures.value known.on.plays
    (le_of_at_most s.from out known.keeps.on) most inside)) c.tell.ensures.wide

pub returns-clause-narrow : goal.returns-clause-narrow
returns-clause-narrow g c narrow =
    let way = c.args.way.now in
    let until = place c.args.upto.now in
    let old = c.args.window.now in
    on_err_weaker c.tell.result (λ some. none_of_refused c.tell.new.fault (IsToldFault g.P.Shape way.side c.of_none.result until old) some
    (narrow_told g.P.Shape way.side c.of_none.result until old narrow)) c.tell.ensures.wide
