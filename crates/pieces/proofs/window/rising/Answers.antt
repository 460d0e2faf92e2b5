use Rattle.std.proofs.Common.{◌^◌, inl, inr, refl, sym, ap, ◌∙◌, subst}
use Rattle.std.proofs.lemmas.Option.{IfSome_then}
use Rattle.std.proofs.lemmas.Result.{on_err_weaker, on_ok_weaker}
use Rattle.rational.specs.Time.{add, whole}
use Rattle.rational.specs.Extended.{value_at}
use Rattle.rational.specs.Places.{After, AtMost, Upto}
use Rattle.rational.proofs.Lists.{on_err_anyway}
use Rattle.rational.proofs.PlaceLemmas.{after_same, between, le_of_at_most}
use Rattle.rational.proofs.Shift.{le_shift}
use Rattle.frac128.specs.Cuts.{place}
use Rattle.value_laws.specs.Members.{ShapeLaws}
use Rattle.pieces.specs.Chains.{end, stop}
use Rattle.pieces.proofs.Bests.{nw_back, nw_same, nw_trans}
use Rattle.pieces.proofs.CountsInPlay.{rise_plays}
use Rattle.pieces.proofs.Ends.{at_most_of_same}
use Rattle.pieces.proofs.PieceEnds.{holds_moved, holds_past, met_climbed, piece_first, piece_last, reach_below, reached_narrow, told_within}
use Rattle.pieces.proofs.Refusals.{held_below, narrow_told}
use Rattle.pieces.proofs.BestEnd.{moved_level, on_ok_two}
use Rattle.pieces.proofs.InPlayCauses.{told_cause}
use Rattle.pieces.proofs.Shifts.{high_from, high_to, room}
use Rattle.pieces.proofs.window.rising.Goals as goal

pub reached-requires-clause-from : goal.reached-requires-clause-from
reached-requires-clause-from g c =
    let (chain, from, known) = c.requires.met in
    piece_first known.can known.piece

pub reached-requires-clause-to : goal.reached-requires-clause-to
reached-requires-clause-to g c =
    let (chain, from, known) = c.requires.met in
    piece_last known.can known.piece

pub reached-requires-clause-small : goal.reached-requires-clause-small
reached-requires-clause-small g c =
    let (chain, from, known) = c.requires.met in
    known.can.small

pub reached-requires-clause-to_within : goal.reached-requires-clause-to_within
reached-requires-clause-to_within g c =
    let (chain, from, known) = c.requires.met in
    known.within

pub at_high-gap-requires-clause-small : goal.at_high-gap-requires-clause-small
at_high-gap-requires-clause-small g c =
    let (chain, from, known) = c.requires.met in
    known.can.small

pub tell-requires-clause-rises : goal.tell-requires-clause-rises
tell-requires-clause-rises g c t u a k m =
    let side = c.args.way.now.side in
    let high = whole c.args.way.now.over.high in
    nw_trans (nw_same side (c.at_high-gap.ensures.value u)) (nw_trans (c.requires.trend (add t high) (add u high) (le_shift c.args.way.now.over.high k))
    (nw_back side (c.at_high-gap.ensures.value t)))

pub tell-requires-clause-level : goal.tell-requires-clause-level
tell-requires-clause-level g c =
    let (chain, from, known) = c.requires.met in
    let f = g.P.Shape.function c.args.piece.now.shape in
    let m = between from (end c.args.piece.now) known.piece.order in
    moved_level (2 ^ 31) f (g.P.Shape.function c.at_high-gap.result) c.args.way.now.over.high m.0 c.at_high-gap.ensures.value
    (known.can.limited.values m.0 (value_at f m.0) (known.piece.worth m.0 m.1 m.2))

pub tell-requires-clause-order : goal.tell-requires-clause-order
tell-requires-clause-order g c =
    let (chain, from, known) = c.requires.met in
    subst (λ s. AtMost s (place c.in-Some.next)) c.until.ensures.value
    (c.in-Some.ensures.on (subst (λ s. AtMost s (place c.args.way.now.to)) (sym c.until.ensures.value)
    (λ t u. known.to t (known.keeps.upto t u))))

pub tell-requires-clause-from_within : goal.tell-requires-clause-from_within
tell-requires-clause-from_within g c =
    let (chain, from, known) = c.requires.met in
    told_within known.can known.keeps

pub tell-requires-clause-steps : goal.tell-requires-clause-steps
tell-requires-clause-steps g c =
    let (chain, from, known) = c.requires.met in
    known.keeps.steps

pub hold-requires-2-clause-met : goal.hold-requires-2-clause-met
hold-requires-2-clause-met g c =
    let (chain, from, known) = c.requires.met in
    let laws : ShapeLaws g.P.Shape = assumption g.met.P.Shape in (
      chain,
      from,
      holds_moved laws c.requires.trend known c.at_high-gap.result c.tell.new.self (place c.in-Some.next) c.at_high-gap.ensures.value
          (λ m. let b = c.at_high-gap.ensures.base m in (c.args.piece.now.shape, known.piece.has, b.0, inl b.1)) c.in-Some.ensures.some c.in_ok-tell.ensures.told
          c.in_ok-tell.ensures.ends,
    )

pub returns-clause-met : goal.returns-clause-met
returns-clause-met g c chain from known =
    let laws : ShapeLaws g.P.Shape = assumption g.met.P.Shape in
    let held = holds_moved laws c.requires.trend known c.at_high-gap.result c.tell.new.self (place c.in-Some.next) c.at_high-gap.ensures.value
    (λ m. let b = c.at_high-gap.ensures.base m in (c.args.piece.now.shape, known.piece.has, b.0, inl b.1)) c.in-Some.ensures.some c.in_ok-tell.ensures.told
    c.in_ok-tell.ensures.ends in
    on_ok_two c.hold-2.result (λ stands plays. met_climbed known stands plays) (c.hold-2.ensures.stands chain from held) (c.hold-2.ensures.plays chain from held)

pub returns-clause-wide : goal.returns-clause-wide
returns-clause-wide g c chain from limit known below =
    let laws : ShapeLaws g.P.Shape = assumption g.met.P.Shape in
    let way = c.args.way.now in
    let last = (end c.args.piece.now).at in
    on_err_weaker c.hold-2.result (λ some. IfSome_then c.hold-2.new.fault some (held_below g.P.Shape chain way last limit below))
    (c.hold-2.ensures.wide chain from (holds_moved laws c.requires.trend known c.at_high-gap.result c.tell.new.self (place c.in-Some.next)
    c.at_high-gap.ensures.value
    (λ m. let b = c.at_high-gap.ensures.base m in (c.args.piece.now.shape, known.piece.has, b.0, inl b.1)) c.in-Some.ensures.some c.in_ok-tell.ensures.told
    c.in_ok-tell.ensures.ends))

pub returns-clause-held : goal.returns-clause-held
returns-clause-held g c chain from known narrow =
    let laws : ShapeLaws g.P.Shape = assumption g.met.P.Shape in
    c.hold-2.ensures.wide chain from (holds_moved laws c.requires.trend known c.at_high-gap.result c.tell.new.self (place c.in-Some.next)
    c.at_high-gap.ensures.value
    (λ m. let b = c.at_high-gap.ensures.base m in (c.args.piece.now.shape, known.piece.has, b.0, inl b.1)) c.in-Some.ensures.some c.in_ok-tell.ensures.told
    c.in_ok-tell.ensures.ends)

pub returns-clause-entered : goal.returns-clause-entered
returns-clause-entered g c chain = on_ok_weaker c.hold-2.result (λ still t a u. c.in-Some.ensures.some.after t
    (after_same (stop c.tell.new.self.out) (place c.in-Some.next) t c.in_ok-tell.ensures.ends
    (subst (λ o. After (stop o) t) c.hold-2.ensures.out a)) u) c.hold-2.ensures.still

pub returns-clause-from : goal.returns-clause-from
returns-clause-from g c = on_ok_weaker c.hold-2.result
    (λ still. ap (λ o. o.from) c.hold-2.ensures.out ∙ c.in_ok-tell.ensures.told.begins) c.hold-2.ensures.still

pub returns-clause-upto : goal.returns-clause-upto
returns-clause-upto g c = on_ok_weaker c.hold-2.result (λ still. inr (λ t u. c.in-Some.ensures.some.before t
    (at_most_of_same (stop c.tell.new.self.out) (place c.in-Some.next) c.in_ok-tell.ensures.ends t
    (subst (λ o. Upto (stop o) t) c.hold-2.ensures.out u)))) c.hold-2.ensures.still

pub returns-in_err-tell-clause-wide : goal.returns-in_err-tell-clause-wide
returns-in_err-tell-clause-wide g c chain from limit known below =
    let way = c.args.way.now in
    let next = place c.in-Some.next in
    let out = stop c.args.window.now.out in
    on_err_anyway c.from_residual.result (IfSome_then c.tell.new.fault c.in_err-tell.ensures.wide
    (told_cause g.P.Shape chain way.over (place way.to) way.side c.at_high-gap.result next limit c.args.window.now known.plays
    (le_of_at_most chain.from out known.keeps.on)
    (reach_below g.P.Shape chain way (end c.args.piece.now) next c.in-Some.ensures.some limit below) below.0
    (rise_plays g.P.Shape chain way.over known.can.rising known.can.small known.some from c.args.piece.now
    known.piece out next (λ t a u. known.entered t a (c.in-Some.ensures.some.upto t u))
    (λ t a u. c.in-Some.ensures.some.before t u)
    (g.P.Shape.function c.at_high-gap.result) c.at_high-gap.ensures.value)))

pub returns-in_err-tell-clause-held : goal.returns-in_err-tell-clause-held
returns-in_err-tell-clause-held g c chain from known narrow =
    let way = c.args.way.now in
    let next = place c.in-Some.next in
    let old = c.args.window.now in
    on_err_anyway c.from_residual.result (IfSome_then c.tell.new.fault c.in_err-tell.ensures.wide
    (λ pair x. absurd (narrow_told g.P.Shape way.side c.at_high-gap.result next old
    (reached_narrow way (end c.args.piece.now) next (stop old.out).at c.in-Some.ensures.some narrow) pair x)))

pub hold-requires-clause-met : goal.hold-requires-clause-met
hold-requires-clause-met g c =
    let (chain, from, known) = c.requires.met in
    let laws : ShapeLaws g.P.Shape = assumption g.met.P.Shape in
    (chain, from, holds_past laws c.requires.trend known (λ t a u. c.in_default.ensures.none refl t (subst (λ s. After s t) (sym c.until.ensures.value) a)))

pub returns-in_default-clause-met : goal.returns-in_default-clause-met
returns-in_default-clause-met g c chain from known =
    let laws : ShapeLaws g.P.Shape = assumption g.met.P.Shape in
    let held = holds_past laws c.requires.trend known (λ t a u. c.in_default.ensures.none refl t (subst (λ s. After s t) (sym c.until.ensures.value) a)) in
    on_ok_two c.hold.result (λ stands plays. met_climbed known stands plays) (c.hold.ensures.stands chain from held) (c.hold.ensures.plays chain from held)

pub returns-in_default-clause-wide : goal.returns-in_default-clause-wide
returns-in_default-clause-wide g c chain from limit known below =
    let laws : ShapeLaws g.P.Shape = assumption g.met.P.Shape in
    let last = (end c.args.piece.now).at in
    on_err_weaker c.hold.result (λ some. IfSome_then c.hold.new.fault some (held_below g.P.Shape chain c.args.way.now last limit below))
    (c.hold.ensures.wide chain from (holds_past laws c.requires.trend known
    (λ t a u. c.in_default.ensures.none refl t (subst (λ s. After s t) (sym c.until.ensures.value) a))))

pub returns-in_default-clause-held : goal.returns-in_default-clause-held
returns-in_default-clause-held g c chain from known narrow =
    let laws : ShapeLaws g.P.Shape = assumption g.met.P.Shape in
    c.hold.ensures.wide chain from (holds_past laws c.requires.trend known
    (λ t a u. c.in_default.ensures.none refl t (subst (λ s. After s t) (sym c.until.ensures.value) a)))

pub returns-in_default-clause-entered : goal.returns-in_default-clause-entered
returns-in_default-clause-entered g c chain = on_ok_weaker c.hold.result (λ still t a u. c.in_default.ensures.none refl t
    (subst (λ s. After s t) (sym c.until.ensures.value) (subst (λ o. After (stop o) t) c.hold.ensures.out a))) c.hold.ensures.still

pub returns-in_default-clause-from : goal.returns-in_default-clause-from
returns-in_default-clause-from g c = on_ok_weaker c.hold.result (λ still. ap (λ o. o.from) c.hold.ensures.out) c.hold.ensures.still

pub returns-in_default-clause-upto : goal.returns-in_default-clause-upto
returns-in_default-clause-upto g c = on_ok_weaker c.hold.result (λ still. inl (ap (λ o. stop o) c.hold.ensures.out)) c.hold.ensures.still

pub at_high-gap-requires-clause-room : goal.at_high-gap-requires-clause-room
at_high-gap-requires-clause-room g c =
    let (chain, from, known) = c.requires.met in
    room (g.P.Shape.base c.args.piece.now.shape) c.args.way.now.over.high (known.can.near c.args.piece.now.shape known.piece.has)
    (high_from c.args.way.now.over known.can.small) (high_to c.args.way.now.over known.can.small)
