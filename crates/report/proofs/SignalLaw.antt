-- Verdicts that describe a signal describe the formula that the signal tells.
use Rattle.std.proofs.Common.{Bool, true, false, List, [], ◌∷◌, MatchBool}
use Rattle.rational.specs.Time.{Rational, closed}
use Rattle.rational.proofs.Order.{same_trans}
use Rattle.rational.proofs.AffineLemmas.{same_reflᵉ}
use Rattle.value_laws.specs.Members.{ShapeOf}
use Rattle.pl_signal.specs.declared.knot.Knot.{Knot}
use Rattle.pl_signal.specs.Knots as knots
use Rattle.pl_signal.specs.Moves.{Tells}
use Rattle.stl_syntax.specs.Formula.{Subformula}
use Rattle.stl_syntax.specs.Truth.{Truth}
use Rattle.stl_syntax.specs.SupInf.{SupInf, HasValues, truth_setting, one, minus_one}
use Rattle.stl_syntax.specs.Trace.{Trace, start, stop}
use Rattle.stl_syntax.specs.Verdicts.{IsTold, GoesOn, Describes}
use Rattle.stl_syntax.specs.declared.items.Verdict.{Verdict}
use Rattle.stl_syntax.proofs.LawProofs.{truth_by_values}
use Rattle.report.specs.SignalVerdicts.{sign_of, IsToldBy, GoesOnBy, DescribesFunction}

module _ {P : Type 0} (shape : ShapeOf P) (p : Subformula) (tr : Trace) (signal : List (Knot P))
    (ok : HasValues p (truth_setting tr)) (tells : Tells shape (SupInf p (truth_setting tr)) (start tr) (stop tr) signal) where
  -- what the signal is worth is the truth
  pub truth_at : (holds : Bool) (t : Rational) → knots.IsWorth shape signal t (sign_of holds) → MatchBool holds (Truth p tr t) (¬ Truth p tr t)
  truth_at true t h = let w = (tells.worth t one).0 h in (truth_by_values p tr ok t one w.0 w.1).holds.0 (same_reflᵉ one)
  truth_at false t h = let w = (tells.worth t minus_one).0 h in (truth_by_values p tr ok t minus_one w.0 w.1).fails.0 (same_reflᵉ minus_one)

  is_told : (v : Verdict) → IsToldBy (knots.IsWorth shape signal) v → IsTold p tr v
  is_told v h = record { not_empty = h.not_empty; truth = λ t inside. truth_at v.holds t (h.truth t inside) }

  goes_on : (v : Verdict) (verdicts : List Verdict) → GoesOnBy (knots.IsWorth shape signal) (closed (knots.start signal) (knots.stop signal)) v verdicts
      → GoesOn p tr (closed (start tr) (stop tr)) v verdicts
  goes_on v [] h = record { time = same_trans h.time tells.ends; inside = h.inside }
  goes_on v (w ∷ verdicts) h = (h.0, h.1, is_told w h.2, goes_on w verdicts h.3)

  -- verdicts that describe a signal describe what it tells
  pub signal_describes : (verdicts : List Verdict) → DescribesFunction (knots.IsWorth shape signal) verdicts (closed (knots.start signal) (knots.stop signal))
      → Describes verdicts p tr (closed (start tr) (stop tr))
  signal_describes [] h = h
  signal_describes (v ∷ verdicts) h = (record { time = same_trans h.0.time tells.begins; inside = h.0.inside }, is_told v h.1, goes_on v verdicts h.2)
