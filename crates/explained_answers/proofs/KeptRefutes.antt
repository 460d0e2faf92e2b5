-- What is kept of a violation refutes the formula.
use Rattle.std.proofs.Common.{ℕ, ◌<◌, length}
use Rattle.stl_syntax.specs.Formula.{Formula, root}
use Rattle.stl_syntax.specs.PostOrder.{IsPostOrder}
use Rattle.stl_syntax.specs.Trace.{Trace, start}
use Rattle.stl_syntax.specs.Kleene.{MustNot}
use Rattle.implicants.specs.Explaining.{IsExplained}
use Rattle.implicants.specs.declared.explaining.Explained.{Explained}
use Rattle.implicants.specs.declared.explaining.Explained.TheVariants.{Holds, Violated}
use Rattle.implicants.proofs.OneExplanation.{one_is_enough, kept_refutes}
use Rattle.whole_answers.specs.Judging.{KeptRefute}
use Rattle.stl_syntax.specs.Scaling.{nodes_for}

-- what is kept of a violation refutes the formula, since the answer does
pub kept_refute : (f : Formula) (tr : Trace) (steps : ℕ) (e : Explained) → IsPostOrder (nodes_for f tr)
    → 0 < length (nodes_for f tr) → IsExplained (nodes_for f tr) tr steps e → KeptRefute f tr
kept_refute f tr steps Holds post some is items fails kept = absurd (fails is.0)
kept_refute f tr steps (Violated found) post some is items fails kept =
    let enough : MustNot (root (nodes_for f tr)) items tr (start tr) = one_is_enough (nodes_for f tr) tr found items is.kept kept is.enough in
    record { certain = enough; elsewhere = λ tr' agree. kept_refutes (nodes_for f tr) tr tr' items post some kept enough agree }
