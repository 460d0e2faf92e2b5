use Rattle.std.proofs.Common.{refl, subst, sym}
use Rattle.rational.specs.Places.{After}
use Rattle.frac128.specs.Cuts.{place}
use Rattle.value_laws.specs.Members.{ShapeLaws}
use Rattle.pieces.proofs.PieceEnds.{holds_reached, piece_first, piece_last, told_within}
use Rattle.pieces.proofs.StepsToTell.{holds_under}
use Rattle.pieces.proofs.BestEnd.{none_last}
use Rattle.pieces.proofs.window.tell_under.Goals as goal

pub reached-requires-clause-from : goal.reached-requires-clause-from
reached-requires-clause-from g c =
    let (chain, from, known) = c.requires.met in
    piece_first known.met.can known.piece

pub reached-requires-clause-to : goal.reached-requires-clause-to
reached-requires-clause-to g c =
    let (chain, from, known) = c.requires.met in
    piece_last known.met.can known.piece

pub reached-requires-clause-small : goal.reached-requires-clause-small
reached-requires-clause-small g c =
    let (chain, from, known) = c.requires.met in
    known.met.can.small

pub reached-requires-clause-to_within : goal.reached-requires-clause-to_within
reached-requires-clause-to_within g c =
    let (chain, from, known) = c.requires.met in
    known.met.within

pub returns-in_default-clause-holds : goal.returns-in_default-clause-holds
returns-in_default-clause-holds g c chain from known is = holds_reached known (assumption g.met.P.Shape) c.requires.trend
    (λ t a u. c.in_default.ensures.none refl t (subst (λ s. After s t) (sym c.until_in_place-at.ensures) a))

pub tell_first-requires-clause-first : goal.tell_first-requires-clause-first
tell_first-requires-clause-first g c =
    let under = c.is_under.ensures.under c.if-is_under.true in
    (under.first, under.rest, under.are, under.alone, under.later)

pub tell_first-requires-clause-within : goal.tell_first-requires-clause-within
tell_first-requires-clause-within g c =
    let (chain, from, known) = c.requires.met in
    told_within known.met.can known.met.stands

pub tell_first-requires-clause-steps : goal.tell_first-requires-clause-steps
tell_first-requires-clause-steps g c =
    let (chain, from, known) = c.requires.met in
    known.met.stands.steps

pub returns-then-is_under-clause-holds : goal.returns-then-is_under-clause-holds
returns-then-is_under-clause-holds g c chain from known is =
    let laws : ShapeLaws g.P.Shape = assumption g.met.P.Shape in
    holds_under g.P.Shape laws chain c.args.way.now from c.args.piece.now c.args.window.now c.tell_first.new.self known c.requires.trend
    (place c.in-Some.next) c.in-Some.ensures.some (c.is_under.ensures.under c.if-is_under.true) c.of_none.result c.of_none.ensures.still
    c.of_none.ensures.value (c.in_ok-tell_first.ensures.told c.of_none.result
    (none_last g.P.Shape laws c.args.way.now.side c.of_none.result c.of_none.ensures.value)) c.in_ok-tell_first.ensures.ends

pub returns-then-is_under-clause-from : goal.returns-then-is_under-clause-from
returns-then-is_under-clause-from g c = (c.in_ok-tell_first.ensures.told c.of_none.result
    (none_last g.P.Shape (assumption g.met.P.Shape) c.args.way.now.side c.of_none.result c.of_none.ensures.value)).begins
