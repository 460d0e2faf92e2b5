use Rattle.std.proofs.Common.{◌≡◌, Some, subst}
use Rattle.rational.specs.Extended.{value_at}
use Rattle.frac128.specs.Value.{value}
use Rattle.frac128.specs.Cuts.{place}
use Rattle.pieces.specs.Best.{IsNoWorse}
use Rattle.pieces.proofs.Bests.{favour_less, favour_second}
use Rattle.pieces.proofs.StepLemmas.{hidden_of, stays_by_other, stays_by_shape, goes_on_with}
use Rattle.pieces.proofs.steps.beside.Given.{Over}
use Rattle.pieces.proofs.steps.beside.Goals.{in-Some+in_default-favour, in_default, After-favour-2}
use Rattle.pieces.proofs.steps.beside.Goals as goal

-- the constant is no worse than the step's other shape, if there is one
others : (g : Over) (c : After-favour-2 g) (q : g.row.P.Denot) → c.args.step.now.other ≡ Some q
    → IsNoWorse c.args.side (value_at (g.P.Shape.function c.args.constant.now) (value c.args.begin.now.time))
    (value_at (g.P.Shape.function q) (value c.args.begin.now.time))
others g c q e = elim c.match-step.branch [
  | in-Some+in_default-favour w ↦ (let same : w.in-Some.other ≡ q = let h = w.in-Some.is in cc in
      subst (λ r. IsNoWorse c.args.side (value_at (g.P.Shape.function c.args.constant.now) (value c.args.begin.now.time))
      (value_at (g.P.Shape.function r) (value c.args.begin.now.time))) same
      (favour_second c.args.side w.favour.result (value_at (g.P.Shape.function w.in-Some.other) (value c.args.begin.now.time))
      (value_at (g.P.Shape.function c.args.constant.now) (value c.args.begin.now.time)) w.favour.ensures w.in_default-favour.not-Less))
  | in_default w ↦ absurd (w.in_default.not-Some q e)
]

pub returns-in-Less : goal.returns-in-Less
returns-in-Less g c =
    stays_by_other g.P.Shape c.args.side (place c.args.begin.now) c.args.step.now c.args.constant.now c.requires.is c.requires.level c.in-Some.other
    c.in-Some.is (favour_less c.args.side (value_at (g.P.Shape.function c.in-Some.other) (value c.args.begin.now.time))
    (value_at (g.P.Shape.function c.args.constant.now) (value c.args.begin.now.time)) c.in-Less.ensures)

pub returns-in_default-favour-2 : goal.returns-in_default-favour-2
returns-in_default-favour-2 g c =
    hidden_of g.P.Shape c.args.side (place c.args.begin.now) c.args.step.now c.args.constant.now c.requires.is c.requires.level
    (favour_second c.args.side c.favour-2.result (value_at (g.P.Shape.function c.args.step.now.shape) (value c.args.begin.now.time))
    (value_at (g.P.Shape.function c.args.constant.now) (value c.args.begin.now.time)) c.favour-2.ensures c.in_default-favour-2.not-Less)
    (others g (goal.at.returns-in_default-favour-2 g c).After-favour-2)

pub returns-in-Equal : goal.returns-in-Equal
returns-in-Equal g c =
    stays_by_shape g.P.Shape c.args.side (place c.args.begin.now) c.args.step.now c.args.constant.now c.requires.is c.requires.level c.in-Equal.ensures
    (favour_less c.args.side (value_at (g.P.Shape.function c.args.step.now.shape) (value c.args.begin.now.time))
    (value_at (g.P.Shape.function c.args.constant.now) (value c.args.begin.now.time)) c.in-Less-favour.ensures)

pub returns-in_default-rises : goal.returns-in_default-rises
returns-in_default-rises g c =
    goes_on_with g.P.Shape c.args.side (place c.args.begin.now) c.args.step.now c.args.constant.now c.requires.is c.requires.level
    (favour_less c.args.side (value_at (g.P.Shape.function c.args.step.now.shape) (value c.args.begin.now.time))
    (value_at (g.P.Shape.function c.args.constant.now) (value c.args.begin.now.time)) c.in-Less-favour.ensures)
    (others g (goal.at.returns-in_default-rises g c).After-favour-2)
