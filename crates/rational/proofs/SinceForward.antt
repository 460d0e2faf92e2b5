-- How the value of a since from the start goes on from a time.
use Rattle.std.proofs.Common.{◌⊎◌, inl, inr, Bool, true, false}
use Rattle.rational.specs.Time.{Rational, ◌≤ʳ◌, ◌<ʳ◌, Precedes, Interval, IsIn}
use Rattle.rational.specs.Extended.{Extended, ◌≤ᵉ◌, ◌<ᵉ◌, IsLeast, IsGreatest, IsSup}
use Rattle.rational.specs.Windows.{Function, IsSupOver, IsInfOver}
use Rattle.rational.proofs.Order.{le_or_lt, le_trans, le_of_lt, lt_of_le_of_lt}
use Rattle.rational.proofs.TimeLemmas.{precedes_of_lt}
use Rattle.rational.proofs.ExtendedLemmas.{le_transᵉ, lt_of_lt_of_leᵉ, least_of}
use Rattle.rational.proofs.Sups.{sup_of_union, sup_same}
use Rattle.rational.proofs.UntilComposition.{below_least, at_most_inf}

-- from u up to t, and t with it or not
abbrev pub upto : Bool → Rational → Rational → Interval
upto inside u t = record { from = u; from_in = true; to = t; to_in = inside }

-- after u up to t, and t with it or not
abbrev pub after : Bool → Rational → Rational → Interval
after inside u t = record { from = u; from_in = false; to = t; to_in = inside }

module _ (lowest highest : Extended) (P Q : Function) where
  -- v is the least of Q at u and the Inf of P from u up to t
  abbrev pub Reach : Bool → Rational → Rational → Extended → Type 0
  Reach inside t u v = (x y : Extended) × Q u x × IsInfOver highest (IsIn (upto inside u t)) P y × IsLeast x y v

  -- r is the value at t of P since Q from the start, or its limit there where t is left out
  abbrev pub Since : Bool → Rational → Rational → Extended → Type 0
  Since inside from t r = IsSupOver lowest (IsIn (upto inside from t)) (Reach inside t) r

  module _ (infs : (on : Interval) → (y : Extended) × IsInfOver highest (IsIn on) P y) (inside : Bool) (from t0 t : Rational) (order : from ≤ʳ t0)
      (later : t0 <ʳ t) where
    before_end : (u : Rational) → u ≤ʳ t0 → Precedes inside u t
    before_end u h = precedes_of_lt inside u t (lt_of_le_of_lt h later)

    -- up to t are the times up to t0 and those after it
    parts : (u v : Rational) → IsIn (upto inside u t) v → (v ≤ʳ t0) ⊎ (t0 <ʳ v) → IsIn (upto true u t0) v ⊎ IsIn (after inside t0 t) v
    parts u v h (inl k) = inl (record { above = h.above; below = k })
    parts u v h (inr k) = inr (record { above = k; below = h.below })

    module _ (s i k : Extended) (since : Since true from t0 s) (inf : IsInfOver highest (IsIn (after inside t0 t)) P i) (above : lowest ≤ᵉ i)
        (least : IsLeast s i k) where
      -- what was reached before goes on as far as P stays
      earlier_bound : (v : Extended) → ((u : Rational) × IsIn (upto true from t0) u × Reach inside t u v) → v ≤ᵉ k
      earlier_bound v (u, h, (x, y, q, j, l)) =
          let f = infs (upto true u t0) in
          let g = least_of x f.0 in
          let narrow : y ≤ᵉ f.0 = at_most_inf highest f.0 y f.1 j.at_most
          (λ p m. j.bound p (m.0, record { above = m.1.above; below = before_end m.0 m.1.below }, m.2)) in
          let wide : y ≤ᵉ i = at_most_inf highest i y inf j.at_most
          (λ p m. j.bound p (m.0, record { above = le_trans h.below (le_of_lt m.1.above); below = m.1.below }, m.2)) in
          let old : v ≤ᵉ s = le_transᵉ v g.0 s (by_one x f.0 g.0 g.1.one_of l.left (le_transᵉ v y f.0 l.right narrow))
          (since.bound g.0 (u, h, (x, f.0, q, f.1, g.1))) in
          by_least old (le_transᵉ v y i l.right wide) least.one_of
        where
          by_one : (a b e : Extended) → (a ≤ᵉ e) ⊎ (b ≤ᵉ e) → v ≤ᵉ a → v ≤ᵉ b → v ≤ᵉ e
          by_one a b e (inl m) n o = le_transᵉ v a e n m
          by_one a b e (inr m) n o = le_transᵉ v b e o m

          by_least : v ≤ᵉ s → v ≤ᵉ i → (s ≤ᵉ k) ⊎ (i ≤ᵉ k) → v ≤ᵉ k
          by_least m n (inl o) = le_transᵉ v s k m o
          by_least m n (inr o) = le_transᵉ v i k n o

      earlier_reached : (w : Extended) → lowest ≤ᵉ w → w <ᵉ k → (v : Extended) × ((u : Rational) × IsIn (upto true from t0) u × Reach inside t u v) × (w <ᵉ v)
      earlier_reached w l h =
          let below_s : w <ᵉ s = lt_of_lt_of_leᵉ w k s h least.left in
          let below_i : w <ᵉ i = lt_of_lt_of_leᵉ w k i h least.right in
          member below_i (since.reached w l below_s)
        where
          member : w <ᵉ i → (v : Extended) × ((u : Rational) × IsIn (upto true from t0) u × Reach true t0 u v) × (w <ᵉ v) → (v : Extended)
              × ((u : Rational) × IsIn (upto true from t0) u × Reach inside t u v) × (w <ᵉ v)
          member near (v, (u, m, (x, y, q, j, n)), a) =
              let e = infs (upto inside u t) in
              let b = least_of y i in
              let c = least_of x e.0 in
              let all : b.0 ≤ᵉ e.0 = at_most_inf highest e.0 b.0 e.1 (le_transᵉ b.0 y highest b.1.left j.at_most)
              (λ p f. by_part y b.0 b.1 j p f.0 f.2 (parts u f.0 f.1 (le_or_lt f.0 t0))) in
              let far : w <ᵉ e.0 = lt_of_lt_of_leᵉ w b.0 e.0 (below_least y i b.0 w b.1 (lt_of_lt_of_leᵉ w v y a n.right) near) all in
              (c.0, (u, m, (x, e.0, q, e.1, c.1)), below_least x e.0 c.0 w c.1 (lt_of_lt_of_leᵉ w v x a n.left) far)
            where
              by_part : (y b : Extended) → IsLeast y i b → IsInfOver highest (IsIn (upto true u t0)) P y → (p : Extended) (z : Rational) → P z p
                  → IsIn (upto true u t0) z ⊎ IsIn (after inside t0 t) z → b ≤ᵉ p
              by_part y b least j p z h (inl m) = le_transᵉ b y p least.left (j.bound p (z, m, h))
              by_part y b least j p z h (inr m) = le_transᵉ b i p least.right (inf.bound p (z, m, h))

      earlier_sup : IsSup lowest (λ v. (u : Rational) × IsIn (upto true from t0) u × Reach inside t u v) k
      earlier_sup = record { at_least = by_least least.one_of; bound = earlier_bound; reached = earlier_reached }
        where
          by_least : (s ≤ᵉ k) ⊎ (i ≤ᵉ k) → lowest ≤ᵉ k
          by_least (inl o) = le_transᵉ lowest s k since.at_least o
          by_least (inr o) = le_transᵉ lowest i k above o

      -- the value at t, or the limit there, from the value at t0
      pub goes_on : (g r : Extended) → IsSupOver lowest (IsIn (after inside t0 t)) (Reach inside t) g → IsGreatest k g r → Since inside from t r
      goes_on g r new greatest = sup_same forth back (sup_of_union k g r earlier_sup new greatest)
        where
          forth : (v : Extended)
              → ((u : Rational) × IsIn (upto true from t0) u × Reach inside t u v) ⊎ ((u : Rational) × IsIn (after inside t0 t) u × Reach inside t u v)
              → (u : Rational) × IsIn (upto inside from t) u × Reach inside t u v
          forth v (inl (u, m, h)) = (u, record { above = m.above; below = before_end u m.below }, h)
          forth v (inr (u, m, h)) = (u, record { above = le_trans order (le_of_lt m.above); below = m.below }, h)

          by_part : (v : Extended) (u : Rational) → Reach inside t u v → IsIn (upto true from t0) u ⊎ IsIn (after inside t0 t) u
              → ((u : Rational) × IsIn (upto true from t0) u × Reach inside t u v) ⊎ ((u : Rational) × IsIn (after inside t0 t) u × Reach inside t u v)
          by_part v u h (inl m) = inl (u, m, h)
          by_part v u h (inr m) = inr (u, m, h)

          back : (v : Extended) → ((u : Rational) × IsIn (upto inside from t) u × Reach inside t u v)
              → ((u : Rational) × IsIn (upto true from t0) u × Reach inside t u v) ⊎ ((u : Rational) × IsIn (after inside t0 t) u × Reach inside t u v)
          back v (u, m, h) = by_part v u h (parts from u m (le_or_lt u t0))
