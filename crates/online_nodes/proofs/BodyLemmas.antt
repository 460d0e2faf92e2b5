-- What the body of any node leaves of a step that is due.
use Rattle.std.proofs.Common.{◌≡◌, refl}
use Rattle.online_nodes.specs.Answering.{HasBody}
use Rattle.online_nodes.specs.Held.{Held}
use Rattle.online_nodes.specs.Stepping.{Situation, HasWorkedOut, IsBegun, IsDue}
use Rattle.online_nodes.specs.declared.answering.Outcome.{Outcome}
use Rattle.online_nodes.specs.declared.kind.Kind.{Kind}
use Rattle.online_nodes.specs.declared.kind.Kind.TheVariants.{Const as Constant, Not as Negation, Join as Connective, Over}
use Rattle.online_nodes.specs.declared.kind.Kind.TheVariants.{Until as UntilOf, Since as SinceOf}
use Rattle.online_nodes.specs.declared.operator.Operator.{Operator}
use Rattle.online_nodes.proofs.SinceWorked.{has_since, since_worked}
use Rattle.online_nodes.proofs.SweptLemmas.{has_window, sweep_worked}
use Rattle.online_nodes.proofs.UntilWorked.{has_until, until_worked}
use Rattle.online_nodes.proofs.WorkedLemmas.{join_worked, constant_worked, negation_worked}

-- what the body did is what the step asks of it: the stretch is told to its end, and what is kept in mind of the inputs is so
pub body_worked : {x : Situation} {op : Operator} {old new : Held} {work : Outcome} (d : IsDue x op old) (g : IsBegun x op work) (done : Outcome)
    → HasBody op.kind old new work.out work.marks done → HasWorkedOut x op old new done
body_worked {x} {op} {old} {new} {work} d g done h = by_kind op.kind refl h
  where
    by_kind : (k : Kind) → op.kind ≡ k → HasBody k old new work.out work.marks done → HasWorkedOut x op old new done
    by_kind (Constant b) e h = constant_worked d g e done h
    by_kind (Negation p) e (h, same) = negation_worked d g e done h
    by_kind (Connective join inputs) e (h, same) = join_worked d g e done h
    by_kind (Over w) e h = sweep_worked d g e (has_window d e) done h
    by_kind (UntilOf u) e (h, same) = until_worked d g e (has_until d e) done h
    by_kind (SinceOf s) e h = since_worked d g e (has_since d e) done h
