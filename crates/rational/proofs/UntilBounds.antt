-- The values of a since of bounded functions are bounded.
use Rattle.std.proofs.Common.{ℕ}
use Rattle.rational.specs.Rational.{Rational}
use Rattle.rational.specs.Time.{Within}
use Rattle.rational.specs.Extended.{Extended}
use Rattle.rational.specs.Affine.{IsBounded}
use Rattle.rational.specs.Windows.{Function, IsDownTo, SinceFromStart}
use Rattle.rational.proofs.Bounds.{HasBounded, sup_bounded, least_bounded, inf_bounded}

-- the values of a since of bounded functions are bounded
pub since_bounded : {P Q : Function} (n : ℕ) (lowest highest : Extended) (from : Rational) → IsBounded n lowest → IsBounded n highest → HasBounded n P
    → HasBounded n Q → HasBounded n (SinceFromStart lowest highest from P Q)
since_bounded {P} {Q} n lowest highest from low high p q t v h = sup_bounded n (λ v. (u : Rational) × Within from t u × IsDownTo highest P Q t u v) lowest v low
    (λ w (u, m, (x, y, f, i, l)). least_bounded n x y w l (q u x f)
    (inf_bounded n highest (λ v. (z : Rational) × Within u t z × P z v) y i high (λ y (z, k, g). p z y g))) h
