use Rattle.std.proofs.Common.{◌^◌, pos, sym, ap, ◌∙◌, subst}
use Rattle.rational.specs.Time.{◌≤ʳ◌, whole}
use Rattle.rational.proofs.Order.{le_trans}
use Rattle.rational.proofs.PlaceLemmas.{le_of_at_most}
use Rattle.frac128.specs.Cuts.{place}
use Rattle.value_laws.specs.Members.{ShapeLaws}
use Rattle.pieces.specs.Chains.{stop}
use Rattle.pieces.proofs.ChainLemmas.{to_stop}
use Rattle.pieces.proofs.StepsToTell.{none_falls}
use Rattle.pieces.proofs.OverWindow.{empty_or_some, met_none}
use Rattle.pieces.proofs.window.Window.begin.Goals as goal

pub left-requires-clause-from : goal.left-requires-clause-from
left-requires-clause-from g c =
    let (s, can) = c.requires.can in
    subst (λ x. whole (pos 0) ≤ʳ x.at) (sym can.begins) can.can.first

pub left-requires-clause-to : goal.left-requires-clause-to
left-requires-clause-to g c =
    let (s, can) = c.requires.can in
    subst (λ x. x.at ≤ʳ whole (pos (2 ^ 32))) (sym can.begins)
    (le_trans (le_of_at_most s.from (stop s) (to_stop s.from s.pieces can.can.rising)) can.can.last)

pub left-requires-clause-small : goal.left-requires-clause-small
left-requires-clause-small g c =
    let (s, can) = c.requires.can in
    can.can.small

pub left-requires-clause-to_within : goal.left-requires-clause-to_within
left-requires-clause-to_within g c =
    let (s, can) = c.requires.can in
    can.within

pub returns-then-is_empty-clause-stands : goal.returns-then-is_empty-clause-stands
returns-then-is_empty-clause-stands g c s can =
    let laws : ShapeLaws g.P.Shape = assumption g.met.P.Shape in
    record {
      from = ap (λ o. o.from) c.in_ok-out.ensures ∙ can.begins;
      met = met_none laws (place c.args.from.now) _ can c.in_ok-out.ensures c.new.ensures.items;
      ready = λ some. absurd (empty_or_some c.args.over (c.is_empty.ensures.empty c.if-is_empty.true) some);
    }

pub returns-clause-stands : goal.returns-clause-stands
returns-clause-stands g c s can =
    let laws : ShapeLaws g.P.Shape = assumption g.met.P.Shape in
    record {
      from = ap (λ o. o.from) c.in_ok-out.ensures ∙ can.begins;
      met = met_none laws (place c.args.from.now) _ can c.in_ok-out.ensures c.new.ensures.items;
      ready = λ some. record { left = c.left.ensures; falls = none_falls g.P.Shape c.args.side _ _ c.new.ensures.items };
    }

pub is_empty-requires : goal.is_empty-requires
is_empty-requires g c =
    let (s, can) = c.requires.can in
    can.can.small.order
