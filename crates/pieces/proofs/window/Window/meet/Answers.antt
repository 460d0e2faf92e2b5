use Rattle.std.proofs.Common.{◌∙◌}
use Rattle.std.proofs.lemmas.Option.{IfSome_then}
use Rattle.rational.proofs.Lists.{on_err_anyway}
use Rattle.value_laws.specs.Members.{ShapeLaws}
use Rattle.pieces.proofs.PieceEnds.{piece_first, piece_last}
use Rattle.pieces.proofs.OverWindow.{empty_or_some, passes_next, met_blind, sees_nothing}
use Rattle.pieces.specs.Chains.{stop}
use Rattle.pieces.proofs.Refusals.{cause_over}
use Rattle.pieces.proofs.window.Window.meet.Goals as goal

pub left-until-requires-clause-from : goal.left-until-requires-clause-from
left-until-requires-clause-from g c =
    let (s, st, next) = c.requires.next in
    piece_first st.met.can next.piece

pub left-until-requires-clause-to : goal.left-until-requires-clause-to
left-until-requires-clause-to g c =
    let (s, st, next) = c.requires.next in
    piece_last st.met.can next.piece

pub left-until-requires-clause-small : goal.left-until-requires-clause-small
left-until-requires-clause-small g c =
    let (s, st, next) = c.requires.next in
    st.met.can.small

pub left-until-requires-clause-to_within : goal.left-until-requires-clause-to_within
left-until-requires-clause-to_within g c =
    let (s, st, next) = c.requires.next in
    st.met.within

pub pass-requires-clause-met : goal.pass-requires-clause-met
pass-requires-clause-met g c =
    let (s, st, next) = c.requires.next in
    (s, passes_next (c.is_empty.ensures.not c.if-is_empty.false) st next)

pub pass-requires-clause-gone : goal.pass-requires-clause-gone
pass-requires-clause-gone g c =
    let (s, st, next) = c.requires.next in
    (st.ready (c.is_empty.ensures.not c.if-is_empty.false)).left

pub returns-then-is_empty-clause-stands : goal.returns-then-is_empty-clause-stands
returns-then-is_empty-clause-stands g c s st next =
    let laws : ShapeLaws g.P.Shape = assumption g.met.P.Shape in
    let empty = c.is_empty.ensures.empty c.if-is_empty.true in
    record {
      from = st.from;
      met = met_blind laws (sees_nothing c.args.self.now.way.over empty) next st.met;
      ready = λ some. absurd (empty_or_some c.args.self.now.way.over empty some);
    }

pub returns-clause-stands : goal.returns-clause-stands
returns-clause-stands g c s st next =
    let known = passes_next (c.is_empty.ensures.not c.if-is_empty.false) st next in
    record {
      from = c.in_ok-pass.ensures.from ∙ st.from;
      met = c.in_ok-pass.ensures.met s known;
      ready = λ some. record { left = c.left-until.ensures; falls = c.in_ok-pass.ensures.falls };
    }

pub returns-in_err-pass-clause-wide : goal.returns-in_err-pass-clause-wide
returns-in_err-pass-clause-wide g c s st next =
    let over = c.args.self.now.way.over in
    on_err_anyway c.from_residual.result (IfSome_then c.pass.new.fault
    (c.in_err-pass.ensures.wide s (passes_next (c.is_empty.ensures.not c.if-is_empty.false) st next)) (cause_over g.P.Shape s over (stop s).at))

pub is_empty-requires : goal.is_empty-requires
is_empty-requires g c =
    let (s, st, next) = c.requires.next in
    st.met.can.small.order
