-- The robustness is a function of time.
use Rattle.rational.proofs.TimeFunctions.{IsFunction}
use Rattle.stl_syntax.specs.Trace.{Trace}
use Rattle.stl_syntax.specs.Formula.{Subformula}
use Rattle.stl_syntax.specs.SupInf.{Robustness, margin_setting}
use Rattle.stl_syntax.proofs.SupInfLemmas.{SupInf-unique, margins_give_one, value_alike}
use Rattle.stl_syntax.proofs.TimeLaw.{SupInf-same}

-- the robustness has one value at each time, by whichever pairs both are written
pub robust_is_function : (p : Subformula) (tr : Trace) → IsFunction (Robustness p tr)
robust_is_function p tr = record {
  alike = λ t u v w e f h. value_alike p tr u v w f (SupInf-same p (margin_setting tr) v e h);
  one = λ t v w a b. record {
    at_most = SupInf-unique p (margin_setting tr) t v w (margins_give_one tr) a b;
    at_least = SupInf-unique p (margin_setting tr) t w v (margins_give_one tr) b a;
  };
}
