-- Signals and functions of time that run back: since is until with time running back.
use Rattle.std.proofs.Common.{pos, arith}
use Rattle.rational.specs.Rational.{Rational, negate, subtract, whole, ◌≈◌}
use Rattle.rational.specs.Time.{Within}
use Rattle.rational.specs.Line.{turn}
use Rattle.rational.specs.Extended.{Extended, ◌≈ᵉ◌, Affine, always_low, affine, always_high, value_at}
use Rattle.rational.specs.Windows.{Function, IsInfOver, IsUpTo, IsDownTo, UntilToEnd, SinceFromStart}
use Rattle.rational.proofs.Order.{le_of_same, ge_of_same, le_trans, same_refl, same_sym}
use Rattle.rational.proofs.Field.{le_negate, same_negate}
use Rattle.rational.proofs.Sup.{at_turn}
use Rattle.rational.proofs.AffineLemmas.{same_transᵉ, value_same, finite_same}
use Rattle.rational.proofs.WindowLemmas.{sup_alike, inf_alike}

-- G is F with time running back
pub record RunsBack (F G : Function) : Type 0 where
  -- the one function's values are the other's at minus the time
  pub out : (t : Rational) (v : Extended) → G t v → F (negate t) v
  -- and the other way round
  pub back : (t : Rational) (v : Extended) → F t v → G (negate t) v

-- running back is of both
pub other_way : {F G : Function} → RunsBack F G → RunsBack G F
other_way r = record { out = r.back; back = r.out }

-- minus a time, as a signal is mirrored about 0
pub about_zero : (t : Rational) → subtract (whole (pos 0)) t ≈ negate t
about_zero t = omega arith

-- between two times that run back
pub within_back : (a b c d z : Rational) → a ≈ negate d → b ≈ negate c → Within c d z → Within a b (negate z)
within_back a b c d z e f w = record { above = le_trans (le_of_same e) (le_negate w.below); below = le_trans (le_negate w.above) (ge_of_same f) }

swap_back : {a d : Rational} → a ≈ negate d → d ≈ negate a
swap_back e = same_sym (same_negate e)

module _ (lowest highest : Extended) (P P' Q Q' : Function) (p_back : RunsBack P P') (q_back : RunsBack Q Q') where
  inf_back : (a b c d : Rational) (y : Extended) → a ≈ negate d → b ≈ negate c → IsInfOver highest (Within c d) P' y → IsInfOver highest (Within a b) P y
  inf_back a b c d y e f h = inf_alike highest y
      (λ v m. (negate m.0, within_back a b c d m.0 e f m.1, p_back.out m.0 v m.2))
      (λ v m. (negate m.0, within_back c d a b m.0 (swap_back f) (swap_back e) m.1, p_back.back m.0 v m.2)) h

  inf_forth : (a b c d : Rational) (y : Extended) → a ≈ negate d → b ≈ negate c → IsInfOver highest (Within c d) P y → IsInfOver highest (Within a b) P' y
  inf_forth a b c d y e f h = inf_alike highest y
      (λ v m. (negate m.0, within_back a b c d m.0 e f m.1, p_back.back m.0 v m.2))
      (λ v m. (negate m.0, within_back c d a b m.0 (swap_back f) (swap_back e) m.1, p_back.out m.0 v m.2)) h

  -- what is reached ahead, and what is reached behind
  up_of_down : (s u : Rational) (v : Extended) → IsDownTo highest P' Q' s u v → IsUpTo highest P Q (negate s) (negate u) v
  up_of_down s u v (x, y, q, i, l) = (x, y, q_back.out u x q, inf_back (negate s) (negate u) u s y (same_refl (negate s)) (same_refl (negate u)) i, l)

  down_of_up : (s u : Rational) (v : Extended) → IsUpTo highest P Q s u v → IsDownTo highest P' Q' (negate s) (negate u) v
  down_of_up s u v (x, y, q, i, l) = (x, y, q_back.back u x q, inf_forth (negate u) (negate s) s u y (same_refl (negate u)) (same_refl (negate s)) i, l)

  -- the until is the since with time running back
  pub until_runs_back : (to from' : Rational) → to ≈ negate from' → RunsBack (UntilToEnd lowest highest to P Q) (SinceFromStart lowest highest from' P' Q')
  until_runs_back to from' e = record {
    out = λ s v h. sup_alike lowest v
        (λ w m. (negate m.0, within_back (negate s) to from' s m.0 (same_refl (negate s)) e m.1, up_of_down s m.0 w m.2))
        (λ w m. (negate m.0, within_back from' s (negate s) to m.0 (swap_back e) (same_refl s) m.1, down_of_up (negate s) m.0 w m.2)) h;
    back = λ s v h. sup_alike lowest v
        (λ w m. (negate m.0, within_back from' (negate s) s to m.0 (swap_back e) (same_refl (negate s)) m.1, down_of_up s m.0 w m.2))
        (λ w m. (negate m.0, within_back s to from' (negate s) m.0 (same_refl s) e m.1, up_of_down (negate s) m.0 w m.2)) h;
  }

-- an affine function with time running back
pub turned_affine : (f : Affine) → (g : Affine) × ((t : Rational) → value_at g t ≈ᵉ value_at f (negate t))
turned_affine always_low = (always_low, λ t. record { at_most = tt; at_least = tt })
turned_affine (affine f) = (affine (turn f), λ t. finite_same (at_turn f t))
turned_affine always_high = (always_high, λ t. record { at_most = tt; at_least = tt })

-- a mirrored function runs back
pub turned_of : (f g : Affine) → ((t : Rational) → value_at g t ≈ᵉ value_at f (subtract (whole (pos 0)) t)) → (t : Rational)
    → value_at g t ≈ᵉ value_at f (negate t)
turned_of f g h t = same_transᵉ (value_at g t) (value_at f (subtract (whole (pos 0)) t)) (value_at f (negate t)) (h t) (value_same f (about_zero t))
