-- The value of a since at the start, and at a time from its limit there.
use Rattle.std.proofs.Common.{◌⊎◌, inl, inr, true, false}
use Rattle.rational.specs.Time.{Rational, ◌≤ʳ◌, ◌<ʳ◌, ◌≈◌, Interval, IsIn}
use Rattle.rational.specs.Extended.{Extended, ◌≤ᵉ◌, ◌<ᵉ◌, IsLeast, IsGreatest}
use Rattle.rational.specs.Windows.{Function, IsInfOver}
use Rattle.rational.proofs.Order.{le_or_lt, le_refl, le_of_lt, same_of_le, same_sym}
use Rattle.rational.proofs.ExtendedLemmas.{le_transᵉ, lt_of_lt_of_leᵉ, least_of}
use Rattle.rational.proofs.UntilComposition.{below_least, at_most_inf}
use Rattle.rational.proofs.SinceForward.{upto, Reach, Since}

-- the function has one value at each time, whatever the pair
pub record HasOneValue (F : Function) : Type 0 where
  -- values at one time are at most each other
  pub one : (t u : Rational) (v w : Extended) → t ≈ u → F t v → F u w → v ≤ᵉ w

module _ (lowest highest : Extended) (P Q : Function) (p_one : HasOneValue P) (q_one : HasOneValue Q) where
  both : (v a b r : Extended) → IsLeast a b r → v ≤ᵉ a → v ≤ᵉ b → v ≤ᵉ r
  both v a b r least h k = by_one least.one_of
    where
      by_one : (a ≤ᵉ r) ⊎ (b ≤ᵉ r) → v ≤ᵉ r
      by_one (inl e) = le_transᵉ v a r h e
      by_one (inr e) = le_transᵉ v b r k e

  at_once : (t : Rational) (p : Extended) → P t p → p ≤ᵉ highest → IsInfOver highest (IsIn (upto true t t)) P p
  at_once t p h most = record {
    at_most = most;
    bound = λ v m. p_one.one t m.0 p v (same_of_le m.1.above m.1.below) h m.2;
    reached = λ w l k. (p, (t, record { above = le_refl t; below = le_refl t }, h), l);
  }

  -- at the start it is the least of both
  pub at_start : (from : Rational) (p q r : Extended) → P from p → Q from q → p ≤ᵉ highest → IsLeast q p r → lowest ≤ᵉ r
      → Since lowest highest P Q true from from r
  at_start from p q r h k most least low = record {
    at_least = low;
    bound = λ v (u, m, (x, y, f, j, l)). both v q p r least
        (le_transᵉ v x q l.left (q_one.one u from x q (same_of_le m.below m.above) f k))
        (le_transᵉ v y p l.right (j.bound p (from, record { above = m.below; below = le_refl from }, h)));
    reached = λ w n o. (r, (from, record { above = le_refl from; below = le_refl from }, (q, p, k, at_once from p h most, least)), o);
  }

  module _ (infs : (on : Interval) → (y : Extended) × IsInfOver highest (IsIn on) P y) (from t : Rational) (order : from ≤ʳ t) where
    split : (u v : Rational) → IsIn (upto true u t) v → (t ≤ʳ v) ⊎ (v <ʳ t) → (v ≈ t) ⊎ IsIn (upto false u t) v
    split u v h (inl k) = inl (same_of_le h.below k)
    split u v h (inr k) = inr (record { above = h.above; below = k })

    -- at a time it is made of the values there and of its limit
    pub at_point : (limit p q k r : Extended) → Since lowest highest P Q false from t limit → P t p → Q t q → p ≤ᵉ highest → IsGreatest q limit k
        → IsLeast p k r → lowest ≤ᵉ p
        → Since lowest highest P Q true from t r
    at_point limit p q k r since h f most greatest least low = record {
      at_least = both lowest p k r least low (le_transᵉ lowest limit k since.at_least greatest.right);
      bound = λ v (u, m, (x, y, g, j, l)). both v p k r least
          (le_transᵉ v y p l.right (j.bound p (t, record { above = m.below; below = le_refl t }, h)))
          (at_most_k u x y v g j l (split from u m (le_or_lt t u)));
      reached = λ w n o. by_end w n (lt_of_lt_of_leᵉ w r p o least.left) (lt_of_lt_of_leᵉ w r k o least.right) greatest.one_of;
    }
      where
        at_most_k : (u : Rational) (x y v : Extended) → Q u x → IsInfOver highest (IsIn (upto true u t)) P y → IsLeast x y v → (u ≈ t)
            ⊎ IsIn (upto false from t) u → v ≤ᵉ k
        at_most_k u x y v g j l (inl e) = le_transᵉ v q k (le_transᵉ v x q l.left (q_one.one u t x q e g f)) greatest.left
        at_most_k u x y v g j l (inr m) =
            let i = infs (upto false u t) in
            let b = least_of x i.0 in
            let more : y ≤ᵉ i.0 = at_most_inf highest i.0 y i.1 j.at_most
            (λ z n. j.bound z (n.0, record { above = n.1.above; below = le_of_lt n.1.below }, n.2)) in
            le_transᵉ v limit k (le_transᵉ v b.0 limit (both v x i.0 b.0 b.1 l.left (le_transᵉ v y i.0 l.right more))
            (since.bound b.0 (u, m, (x, i.0, g, i.1, b.1)))) greatest.right

        before : (w : Extended) → w <ᵉ p → (v : Extended) × ((u : Rational) × IsIn (upto false from t) u × Reach lowest highest P Q false t u v)
            × (w <ᵉ v) → (v : Extended) × ((u : Rational) × IsIn (upto true from t) u × Reach lowest highest P Q true t u v) × (w <ᵉ v)
        before w a (v, (u, m, (x, y, g, j, l)), o) =
            let i = infs (upto true u t) in
            let b = least_of y p in
            let c = least_of x i.0 in
            let all : b.0 ≤ᵉ i.0 = at_most_inf highest i.0 b.0 i.1 (le_transᵉ b.0 y highest b.1.left j.at_most)
            (λ z n. by_part u y b.0 b.1 j z n.0 n.2 (split u n.0 n.1 (le_or_lt t n.0))) in
            let far : w <ᵉ i.0 = lt_of_lt_of_leᵉ w b.0 i.0 (below_least y p b.0 w b.1 (lt_of_lt_of_leᵉ w v y o l.right) a) all in (
              c.0,
              (u, record { above = m.above; below = le_of_lt m.below }, (x, i.0, g, i.1, c.1)),
              below_least x i.0 c.0 w c.1
                  (lt_of_lt_of_leᵉ w v x o l.left) far,
            )
          where
            by_part : (u : Rational) (y b : Extended) → IsLeast y p b → IsInfOver highest (IsIn (upto false u t)) P y → (z : Extended) (s : Rational)
                → P s z → (s ≈ t) ⊎ IsIn (upto false u t) s → b ≤ᵉ z
            by_part u y b least j z s n (inl e) = le_transᵉ b p z least.right (p_one.one t s p z (same_sym e) h n)
            by_part u y b least j z s n (inr m) = le_transᵉ b y z least.left (j.bound z (s, m, n))

        by_end : (w : Extended) → lowest ≤ᵉ w → w <ᵉ p → w <ᵉ k → (k ≤ᵉ q) ⊎ (k ≤ᵉ limit) → (v : Extended)
            × ((u : Rational) × IsIn (upto true from t) u × Reach lowest highest P Q true t u v) × (w <ᵉ v)
        by_end w n a b (inl e) =
            let l = least_of q p in
            (l.0, (t, record { above = order; below = le_refl t }, (q, p, f, at_once t p h most, l.1)), below_least q p l.0 w l.1 (lt_of_lt_of_leᵉ w k q b e) a)
        by_end w n a b (inr e) = before w a (since.reached w n (lt_of_lt_of_leᵉ w k limit b e))
