use Rattle.std.proofs.Common.{inl, inr, refl, sym, subst}
use Rattle.std.proofs.lemmas.Result.{on_ok_weaker}
use Rattle.rational.specs.Places.{After, AtMost}
use Rattle.rational.proofs.PlaceLemmas.{after_same}
use Rattle.frac128.specs.Cuts.{place}
use Rattle.value_laws.specs.Members.{ShapeLaws}
use Rattle.pieces.specs.Chains.{end, stop}
use Rattle.pieces.proofs.Ends.{at_most_of_same}
use Rattle.pieces.proofs.PieceEnds.{met_climbed, met_one, piece_first, piece_last, told_within}
use Rattle.pieces.proofs.BestEnd.{on_ok_two}
use Rattle.pieces.proofs.Ones.{no_steps, stands_one}
use Rattle.pieces.proofs.Shifts.{high_from, high_to, room}
use Rattle.pieces.proofs.stream.leave.Goals as goal

pub reached-requires : goal.reached-requires
reached-requires g c =
    let (chain, from, known) = c.requires.rises in
    record {
      from = piece_first known.can known.piece;
      to = piece_last known.can known.piece;
      small = known.can.small;
      to_within = known.within;
    }

pub at_high-gap-requires : goal.at_high-gap-requires
at_high-gap-requires g c =
    let (chain, from, known) = c.requires.rises in
    record {
      small = known.can.small;
      room = room (g.P.Shape.base c.args.piece.now.shape) c.args.way.now.over.high (known.can.near c.args.piece.now.shape known.piece.has)
          (high_from c.args.way.now.over known.can.small) (high_to c.args.way.now.over known.can.small);
    }

pub put-requires : goal.put-requires
put-requires g c =
    let (chain, from, known) = c.requires.rises in
    record {
      steps = no_steps g.P.Shape chain c.args.way.now c.requires.one from (end c.args.piece.now) from c.args.window.now known.keeps known.entered;
      within = told_within known.can known.keeps;
      order = subst (λ s. AtMost s (place c.in-Some.next)) c.until.ensures.value
          (c.in-Some.ensures.on (subst (λ s. AtMost s (place c.args.way.now.to)) (sym c.until.ensures.value) (λ t u. known.to t (known.keeps.upto t u))));
    }

-- it reaches past the end already
pub returns-in_default-clause-entered : goal.returns-in_default-clause-entered
returns-in_default-clause-entered g c chain t a u = c.in_default.ensures.none refl t (subst (λ s. After s t) (sym c.until.ensures.value) a)

pub returns-in_default-clause-met : goal.returns-in_default-clause-met
returns-in_default-clause-met g c chain from known =
    let way = c.args.way.now in
    let s = c.args.window.now in
    let p = c.args.piece.now in
    let one = c.requires.one in
    met_climbed known (stands_one g.P.Shape chain way one from p s known.keeps
    (no_steps g.P.Shape chain way one from (end p) from s known.keeps known.entered)
    (λ t a u. c.in_default.ensures.none refl t (subst (λ o. After o t) (sym c.until.ensures.value) a))) known.plays

pub returns-in_default-clause-upto : goal.returns-in_default-clause-upto
returns-in_default-clause-upto g c = inl refl

-- or once it has told up to there
pub returns-clause-met : goal.returns-clause-met
returns-clause-met g c chain from known =
    let laws : ShapeLaws g.P.Shape = assumption g.met.P.Shape in
    let p = c.args.piece.now in
    on_ok_two c.put.result (λ told ends. met_one laws c.requires.one known c.at_high-gap.result c.put.new.self (place c.in-Some.next)
    c.at_high-gap.ensures.value (λ m. let b = c.at_high-gap.ensures.base m in (p.shape, known.piece.has, b.0, inl b.1))
    c.in-Some.ensures.some told ends) (c.put.ensures.told c.args.way.now.side) c.put.ensures.ends

pub returns-clause-entered : goal.returns-clause-entered
returns-clause-entered g c chain = on_ok_weaker c.put.result (λ ends t a u. c.in-Some.ensures.some.after t
    (after_same (stop c.put.new.self.out) (place c.in-Some.next) t ends a) u) c.put.ensures.ends

pub returns-clause-from : goal.returns-clause-from
returns-clause-from g c = on_ok_weaker c.put.result (λ told. told.begins) (c.put.ensures.told c.args.way.now.side)

pub returns-clause-upto : goal.returns-clause-upto
returns-clause-upto g c = on_ok_weaker c.put.result (λ ends. inr (λ t u. c.in-Some.ensures.some.before t
    (at_most_of_same (stop c.put.new.self.out) (place c.in-Some.next) ends t u))) c.put.ensures.ends
