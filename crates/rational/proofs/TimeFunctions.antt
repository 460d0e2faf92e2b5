-- Functions of time with one value at each time; until to the end and since from the start are such.
use Rattle.rational.specs.Rational.{Rational, ◌≈◌}
use Rattle.rational.specs.Extended.{Extended, ◌≈ᵉ◌}
use Rattle.rational.specs.Windows.{Function, SinceFromStart, UntilToEnd}
use Rattle.rational.proofs.Order.{same_sym}
use Rattle.rational.proofs.ExtendedLemmas.{Sup-unique}
use Rattle.rational.proofs.Sups.{sup_value_same}
use Rattle.rational.proofs.WindowLemmas.{sup_alike, to_same, down_to_same, from_same, up_to_same}

-- a function of time with one value at each time, by whichever pairs time and value are written
pub record IsFunction (F : Function) : Type 0 where
  -- another way to write time and value changes nothing
  pub alike : (t u : Rational) (v w : Extended) → t ≈ u → v ≈ᵉ w → F t v → F u w
  -- two values at one time are the same
  pub one : (t : Rational) (v w : Extended) → F t v → F t w → v ≈ᵉ w

-- a since is a function of time
pub since_is_function : (lowest highest : Extended) (from : Rational) (P Q : Function) → IsFunction (SinceFromStart lowest highest from P Q)
since_is_function lowest highest from P Q = record {
  alike = λ t u v w e f h. sup_value_same v w f (sup_alike lowest v
      (λ x m. (m.0, to_same (same_sym e) m.1, down_to_same highest P Q m.0 x e m.2))
      (λ x m. (m.0, to_same e m.1, down_to_same highest P Q m.0 x (same_sym e) m.2)) h);
  one = λ t v w h k. record { at_most = Sup-unique lowest v w h k; at_least = Sup-unique lowest w v k h };
}

-- an until is a function of time
pub until_is_function : (lowest highest : Extended) (to : Rational) (P Q : Function) → IsFunction (UntilToEnd lowest highest to P Q)
until_is_function lowest highest to P Q = record {
  alike = λ t u v w e f h. sup_value_same v w f (sup_alike lowest v
      (λ x m. (m.0, from_same (same_sym e) m.1, up_to_same highest P Q m.0 x e m.2))
      (λ x m. (m.0, from_same e m.1, up_to_same highest P Q m.0 x (same_sym e) m.2)) h);
  one = λ t v w h k. record { at_most = Sup-unique lowest v w h k; at_least = Sup-unique lowest w v k h };
}
