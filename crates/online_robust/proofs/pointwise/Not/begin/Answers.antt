use Rattle.std.proofs.Common.{sym, subst, ◌∙◌, ◌^◌}
use Rattle.rational.specs.Affine.{HasBoundedLevel}
use Rattle.rational.proofs.Order.{le_refl}
use Rattle.frac128.specs.Value.{value}
use Rattle.value_laws.specs.Margins.{margin_function}
use Rattle.value_laws.specs.declared.margin.Margin.{Margin}
use Rattle.online_robust.specs.Lines.{end_of, margin_of}
use Rattle.online_robust.proofs.ChosenMargins.{level_there}
use Rattle.online_robust.proofs.LinesGone.{took}
use Rattle.online_robust.proofs.NotLemmas.{IsMinus, first_negated, first_reached, first_there, stood_to}
use Rattle.online_robust.proofs.pointwise.Not.begin.Goals as goal

pub returns-in-Some-clause-negated : goal.returns-in-Some-clause-negated
returns-in-Some-clause-negated c x can = stood_to x c.args.self.now c.args.edges.now c.in-Some.reached can c.in-Some.is

pub neg-requires : goal.neg-requires
neg-requires c =
    subst (λ (m : Margin). HasBoundedLevel (2 ^ 31) (margin_function m)) (sym c.margin.ensures)
    (level_there (margin_of c.in-Some-take.point)
    (first_there c.requires.0 c.args.self.now c.args.edges.now c.in-Some-take.point c.requires.1 c.in_default.is
    (sym c.take.ensures.first ∙ c.in-Some-take.is)))

pub returns-clause-reached : goal.returns-clause-reached
returns-clause-reached c x can =
    first_reached x c.args.self.now c.args.edges.now c.in-Some-take.point can c.in_default.is (sym c.take.ensures.first ∙ c.in-Some-take.is) c.end.result
    c.neg.result c.end.ensures
    (let m : IsMinus c.margin.result c.neg.result = record { value = c.neg.ensures.value; base = c.neg.ensures.base } in
    subst (λ (p : Margin). IsMinus p c.neg.result) c.margin.ensures m)

pub returns-clause-negated : goal.returns-clause-negated
returns-clause-negated c x can =
    first_negated x c.args.self.now c.args.edges.now c.in-Some-take.point can c.in_default.is (sym c.take.ensures.first ∙ c.in-Some-take.is) c.take.new.self
    c.take.ensures.taken
    (took (value (end_of c.in-Some-take.point)) c.args.self.now.of c.args.edges.now c.take.new.self c.in-Some-take.point can.of_in c.take.ensures.taken
    c.take.ensures.start (sym c.take.ensures.first ∙ c.in-Some-take.is) (le_refl (value (end_of c.in-Some-take.point)))).edges c.end.result c.end.ensures
