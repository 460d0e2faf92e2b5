-- A fault told of signals that run back is one of the until.
use Rattle.std.proofs.Common.{◌≤◌, ◌^◌, ℤ, pos, ◌-ℤ◌, arith, sym, subst}
use Rattle.std.proofs.lemmas.Int.{ints}
use Rattle.std.specs.Int.RustNames.{unsigned_abs}
use Rattle.rational.specs.Rational.{Rational, negate, subtract, whole, IsWithin, ◌≈◌}
use Rattle.rational.specs.Time.{Within}
use Rattle.rational.specs.InPlay.{since_start, until_end}
use Rattle.rational.specs.Windows.{Function}
use Rattle.rational.proofs.Order.{le_of_same, ge_of_same, le_trans, same_trans}
use Rattle.rational.proofs.Field.{le_negate}
use Rattle.rational.proofs.PlayBack.{AreBack, crossing_cause, value_cause}
use Rattle.rational.proofs.RunningBack.{about_zero, turned_of}
use Rattle.frac128.specs.Value.{value}
use Rattle.value_laws.specs.Members.{ShapeOf, ShapeLaws}
use Rattle.pl_signal.specs.declared.faults.WidePair.{WidePair}
use Rattle.pl_signal.specs.declared.faults.WidePair.TheVariants.{Cross, Value}
use Rattle.pl_signal.specs.declared.faults.OpFault.{OpFault}
use Rattle.pl_signal.specs.declared.faults.OpFault.TheVariants as F
use Rattle.pl_signal.specs.Faults.{CanMirror, IsMirroredPair, IsPairwise, OfPair}
use Rattle.pl_signal.specs.Wide.{HasCause, IsWideCause}
use Rattle.courses.specs.Pairs.{IsPairWithin, PairWithin}

module _ {P P' Q Q' R R' : Function} {from to from' to' : Rational} (back : AreBack P P' Q Q' R R' from to from' to') where
  pair_back : {A : Type 0} (shape : ShapeOf A) (old new : WidePair A) → IsMirroredPair shape (pos 0) old new
      → IsWideCause shape (since_start P' Q' R') from' to' old → IsWideCause shape (until_end P Q R) from to new
  pair_back shape (Cross p q a b den) new (p', q', a', b', same, f, g, e, e') h =
      subst (IsWideCause shape (until_end P Q R) from to) (sym same)
      (crossing_cause back (shape.function p') (shape.function q') (value a') (value b')
      (turned_of (shape.function p) (shape.function p') f) (turned_of (shape.function q) (shape.function q') g)
      (same_trans e (about_zero (value b))) (same_trans e' (about_zero (value a))) h)
  pair_back shape (Value p at den) new (p', at', same, f, e) h =
      subst (IsWideCause shape (until_end P Q R) from to) (sym same)
      (value_cause back (shape.function p') (shape.function p) (value at') (value at) den
      (turned_of (shape.function p) (shape.function p') f) (same_trans e (about_zero (value at))) h)

  -- a cause
  pub cause_back : {A : Type 0} (shape : ShapeOf A) (old new : OpFault A) → IsPairwise (IsMirroredPair shape (pos 0)) old new
      → HasCause shape (since_start P' Q' R') from' to' old → HasCause shape (until_end P Q R) from to new
  cause_back shape F.Memory new t h = subst (HasCause shape (until_end P Q R) from to) (sym t) tt
  cause_back shape (F.Wide old) new (pair, same, t) h = subst (HasCause shape (until_end P Q R) from to) (sym same) (pair_back shape old pair t h)

-- and the times of a pair
pub pair_turned : {A : Type 0} (shape : ShapeOf A) (old new : OpFault A) (from to from' to' : Rational) → from ≈ negate to' → to ≈ negate from'
    → IsPairwise (IsMirroredPair shape (pos 0)) old new → IsPairWithin from' to' old → IsPairWithin from to new
pair_turned shape F.Memory new from to from' to' e f t h = subst (IsPairWithin from to) (sym t) tt
pair_turned {A} shape (F.Wide old) new from to from' to' e f (pair, same, t) h = subst (IsPairWithin from to) (sym same) (by_pair old t h)
  where
    time_back : (u u' : Rational) → u ≈ subtract (whole (pos 0)) u' → Within from' to' u' → Within from to u
    time_back u u' is w = let s = same_trans is (about_zero u') in record {
      above = le_trans (le_of_same e) (le_trans (le_negate w.below) (ge_of_same s));
      below = le_trans (le_of_same s) (le_trans (le_negate w.above) (ge_of_same f));
    }

    by_pair : (old : WidePair A) → IsMirroredPair shape (pos 0) old pair → PairWithin from' to' old → PairWithin from to pair
    by_pair (Cross p q a b den) (p', q', a', b', is, x, y, s, s') h =
        subst (PairWithin from to) (sym is) (time_back (value a') (value b) s h.1, time_back (value b') (value a) s' h.0)
    by_pair (Value p at den) (p', at', is, x, s) h = subst (PairWithin from to) (sym is) (time_back (value at') (value at) s h)

-- a fault with times in a domain within 2^34 may be mirrored about 0
pub can_mirror : {A : Type 0} {shape : ShapeOf A} {from to : Rational} (laws : ShapeLaws shape) (e : OpFault A) → IsWithin (2 ^ 34) from → IsWithin (2 ^ 34) to
    → IsPairWithin from to e → OfPair (CanMirror shape (pos 0)) e
can_mirror {A} {shape} {from} {to} laws e low high h = by_fault e h
  where
    near : (t : Rational) → Within from to t → IsWithin (2 ^ 34) t
    near t w = (le_trans low.0 w.above, le_trans w.below high.1)

    size : (b : ℤ) → unsigned_abs b ≤ 2 ^ 34 → unsigned_abs (pos 0 -ℤ b) ≤ 2 ^ 34
    size b h = omega (arith, ints, h)

    by_fault : (e : OpFault A) → IsPairWithin from to e → OfPair (CanMirror shape (pos 0)) e
    by_fault F.Memory h = tt
    by_fault (F.Wide (Cross p q a b den)) h =
        (size (shape.base p) (laws.base_within p), size (shape.base q) (laws.base_within q), near (value a) h.0, near (value b) h.1)
    by_fault (F.Wide (Value p at den)) h = (size (shape.base p) (laws.base_within p), near (value at) h)
