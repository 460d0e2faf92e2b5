use Rattle.std.proofs.Common.{◌++◌, ◌∷◌, [], refl, sym, subst, ◌∙◌, ap}
use Rattle.std.specs.Prelude.{None}
use Rattle.pieces.specs.Constants.{AreAsked, HasSettled}
use Rattle.pieces.proofs.ConstantLemmas.{asked_more, constant_more}
use Rattle.pieces.proofs.constants.push_counted.Given.{Over}
use Rattle.pieces.proofs.constants.push_counted.Goals.{In-Ok}
use Rattle.pieces.proofs.constants.push_counted.Goals as goal

-- all with the new one were asked
asked : (g : Over) (c : In-Ok g) → AreAsked g.P.Shape c.args.side c.push_back.new.self.items c.push.new.self
asked g c =
    let ls = c.args.window.now.steps.items in
    subst (λ xs. AreAsked g.P.Shape c.args.side xs c.push.new.self) (sym c.in-Ok.ensures.items)
    (asked_more g.P.Shape c.args.side ls (record { until = c.args.until.now; shape = c.args.constant.now; other = None }) c.args.range.now c.push.new.self
    c.turned.result c.requires.asked c.turned.ensures.turned (c.in_ok-push.ensures.items ∙ ap (λ x. c.args.range.now.items ++ x ∷ []) c.of.ensures)
    c.push.ensures.low c.push.ensures.high)

pub settle-requires-clause-asked : goal.settle-requires-clause-asked
settle-requires-clause-asked g c = (c.args.side, asked g (goal.at.settle-requires-clause-asked g c).In-Ok)

pub settle-requires-clause-constant : goal.settle-requires-clause-constant
settle-requires-clause-constant g c = constant_more g.P.Shape c.args.window.now.steps.items c.push_back.new.self.items
    (record { until = c.args.until.now; shape = c.args.constant.now; other = None }) c.in-Ok.ensures.items c.requires.constant refl c.requires.steady

pub returns-clause-settled : goal.returns-clause-settled
returns-clause-settled g c = subst (λ xs. HasSettled g.P.Shape c.args.side 0 xs c.settle.new.steps.items) c.in-Ok.ensures.items
    (c.settle.ensures.settled c.args.side (asked g (goal.at.returns-clause-settled g c).In-Ok))

pub returns-clause-asked : goal.returns-clause-asked
returns-clause-asked g c = c.settle.ensures.asked c.args.side (asked g (goal.at.returns-clause-asked g c).In-Ok)
