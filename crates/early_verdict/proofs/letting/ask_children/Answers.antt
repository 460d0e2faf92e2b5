use Rattle.std.proofs.Common.{◌≡◌, ◌<◌, length, sym, subst, refl, ◌∙◌, ℕ}
use Rattle.std.specs.Prelude.{IfSome}
use Rattle.stl_syntax.specs.Formula.{HasChildrenBelow}
use Rattle.stl_syntax.specs.Views.{IsNearView, first_of, second_of, view_of}
use Rattle.stl_syntax.specs.declared.node.Node.{Node}
use Rattle.stl_syntax.specs.declared.operator.View.{View}
use Rattle.frac128.specs.Value.{value}
use Rattle.early_verdict.specs.Letting.{AreAskedAs}
use Rattle.early_verdict.proofs.LettingLemmas.{asked_as}
use Rattle.early_verdict.proofs.TopsLemmas.{operands_below}
use Rattle.early_verdict.proofs.letting.ask_children.Goals as goal

-- the operands of a view stand below n
abbrev AreBelow : ℕ → View → Type 0
AreBelow n v = IfSome (first_of v) (λ p. p < n) × IfSome (second_of v) (λ q. q < n)

-- they stand among the sets that are shown
below : (n : ℕ) (v : View) (node : Node) → v ≡ view_of node → HasChildrenBelow n node → AreBelow n v
below n v node e h = subst (AreBelow n) (sym e) (operands_below n node h)

pub returns-in-Const : goal.returns-in-Const
returns-in-Const c =
    asked_as (value c.args.cut.now.time) c.args.shown.now c.args.shown.now c.requires.apart c.requires.inside c.requires.tidy c.args.node.now
    (subst (λ v. AreAskedAs v (value c.args.cut.now.time) c.args.shown.now c.args.shown.now) (sym c.in-Const.is ∙ c.view.ensures.view) refl)

pub returns-in-Atom : goal.returns-in-Atom
returns-in-Atom c =
    asked_as (value c.args.cut.now.time) c.args.shown.now c.args.shown.now c.requires.apart c.requires.inside c.requires.tidy c.args.node.now
    (subst (λ v. AreAskedAs v (value c.args.cut.now.time) c.args.shown.now c.args.shown.now) (sym c.in-Atom.is ∙ c.view.ensures.view) refl)

pub returns-in-Not : goal.returns-in-Not
returns-in-Not c =
    asked_as (value c.args.cut.now.time) c.args.shown.now c.ask_from.new.shown c.requires.apart c.requires.inside c.requires.tidy c.args.node.now
    (subst (λ v. AreAskedAs v (value c.args.cut.now.time) c.args.shown.now c.ask_from.new.shown) (sym c.in-Not.is ∙ c.view.ensures.view) c.ask_from.ensures)

pub returns-in-Over : goal.returns-in-Over
returns-in-Over c =
    asked_as (value c.args.cut.now.time) c.args.shown.now c.ask_over.new.shown c.requires.apart c.requires.inside c.requires.tidy c.args.node.now
    (subst (λ v. AreAskedAs v (value c.args.cut.now.time) c.args.shown.now c.ask_over.new.shown) (sym c.in-Over.is ∙ c.view.ensures.view) c.ask_over.ensures)

pub returns-in-Two : goal.returns-in-Two
returns-in-Two c =
    asked_as (value c.args.cut.now.time) c.args.shown.now c.ask_both.new.shown c.requires.apart c.requires.inside c.requires.tidy c.args.node.now
    (subst (λ v. AreAskedAs v (value c.args.cut.now.time) c.args.shown.now c.ask_both.new.shown) (sym c.in-Two.is ∙ c.view.ensures.view) c.ask_both.ensures)

pub ask_from-requires : goal.ask_from-requires
ask_from-requires c =
    let k = below (length c.args.shown.now) c.view.result c.args.node.now c.view.ensures.view c.requires.children in
    record { within = (subst (AreBelow (length c.args.shown.now)) c.in-Not.is k).0; tidy = c.requires.tidy; inside = c.requires.inside }

pub ask_over-requires : goal.ask_over-requires
ask_over-requires c =
    let k = below (length c.args.shown.now) c.view.result c.args.node.now c.view.ensures.view c.requires.children in
    record {
      window = subst IsNearView c.in-Over.is c.view.ensures.near;
      within = (subst (AreBelow (length c.args.shown.now)) c.in-Over.is k).0;
      tidy = c.requires.tidy;
      inside = c.requires.inside;
      near = c.requires.near;
    }

pub ask_both-requires : goal.ask_both-requires
ask_both-requires c =
    let k = below (length c.args.shown.now) c.view.result c.args.node.now c.view.ensures.view c.requires.children in
    let two = subst (AreBelow (length c.args.shown.now)) c.in-Two.is k in
    record { left = two.0; right = two.1; tidy = c.requires.tidy; inside = c.requires.inside }

pub returns-in-Reach : goal.returns-in-Reach
returns-in-Reach c =
    asked_as (value c.args.cut.now.time) c.args.shown.now c.ask_reach.new.shown c.requires.apart c.requires.inside c.requires.tidy c.args.node.now
    (subst (λ v. AreAskedAs v (value c.args.cut.now.time) c.args.shown.now c.ask_reach.new.shown) (sym c.in-Reach.is ∙ c.view.ensures.view)
    c.ask_reach.ensures)

pub ask_reach-requires : goal.ask_reach-requires
ask_reach-requires c =
    let k = below (length c.args.shown.now) c.view.result c.args.node.now c.view.ensures.view c.requires.children in
    let two = subst (AreBelow (length c.args.shown.now)) c.in-Reach.is k in
    record { left = two.0; right = two.1; tidy = c.requires.tidy; inside = c.requires.inside }
