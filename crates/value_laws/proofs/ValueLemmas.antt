-- Truths and three-valued truths are told apart by their numbers.
use Rattle.std.proofs.Common.{◌≡◌, refl, Bool, true, false}
use Rattle.std.specs.Prelude.{IsTrue}
use Rattle.std.specs.Bool.{beq}
use Rattle.value_laws.specs.Values.{truth_value}

-- truths of one number are one truth
pub truth_apart : (a b : Bool) → truth_value a ≡ truth_value b → IsTrue (beq a b)
truth_apart true true e = refl
truth_apart true false e = cc
truth_apart false true e = cc
truth_apart false false e = refl

-- and one truth has one number
pub truth_alike : (a b : Bool) → IsTrue (beq a b) → truth_value a ≡ truth_value b
truth_alike true true e = refl
truth_alike true false e = cc
truth_alike false true e = cc
truth_alike false false e = refl
