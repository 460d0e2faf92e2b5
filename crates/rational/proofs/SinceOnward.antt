-- A since that goes on over a gap on which both of its sides are affine and in one order.
use Rattle.std.proofs.Common.{◌⊎◌, inl, inr, Bool, true}
use Rattle.rational.specs.Time.{Rational, Within, Interval, IsIn, ◌≤ʳ◌, ◌<ʳ◌}
use Rattle.rational.specs.Line.{Line, at}
use Rattle.rational.specs.Extended.{Extended, ◌≤ᵉ◌, IsLeast, Affine, always_low, affine, always_high, value_at}
use Rattle.rational.specs.Windows.{Function, IsInfOver, IsDownTo, SinceFromStart}
use Rattle.rational.proofs.Order.{le_or_lt, le_of_lt, le_of_same, same_of_le}
use Rattle.rational.proofs.Lines.{slope_of, lt_at, lt_at_falls, at_level, same_at}
use Rattle.rational.proofs.ExtendedLemmas.{le_transᵉ, le_reflᵉ}
use Rattle.rational.proofs.WindowLemmas.{sup_alike, inf_over_alike}
use Rattle.rational.proofs.ExtendedLemmas.{greatest_of, least_of}
use Rattle.rational.specs.Onward.{Climbs, Sinks, InOrder, IsOnward}
use Rattle.rational.proofs.AffineMeetings.{between}
use Rattle.rational.proofs.SinceForward.{upto, after, Reach, Since, goes_on}
use Rattle.rational.proofs.SinceOnGaps.{IsOn, gap_climbing, gap_sinking, sup_of_left, sup_of_right, sup_of_sinking}

-- an affine or constantly infinite function climbs or sinks
climbs_of_lines : (f : Line) → ((t u : Rational) → t ≤ʳ u → at f t ≤ʳ at f u) ⊎ ((t u : Rational) → t ≤ʳ u → at f u ≤ʳ at f t)
climbs_of_lines f = elim (slope_of f) as (λ v. ((t u : Rational) → t ≤ʳ u → at f t ≤ʳ at f u) ⊎ ((t u : Rational) → t ≤ʳ u → at f u ≤ʳ at f t)) [
  | inl p ↦ inl (λ t u h. elim (le_or_lt u t) as (λ v. at f t ≤ʳ at f u) [ inl k ↦ le_of_same (same_at f (same_of_le h k)) | inr k ↦ le_of_lt (lt_at f p k) ])
  | inr v ↦ elim v as (λ v. ((t u : Rational) → t ≤ʳ u → at f t ≤ʳ at f u) ⊎ ((t u : Rational) → t ≤ʳ u → at f u ≤ʳ at f t)) [
    | inl p ↦ inl (λ t u h. le_of_same (at_level t u f p))
    | inr p ↦ inr (λ t u h. elim (le_or_lt u t) as
        (λ v. at f u ≤ʳ at f t) [ inl k ↦ le_of_same (same_at f (same_of_le k h)) | inr k ↦ le_of_lt (lt_at_falls f p k) ])
  ]
]

-- a function does not fall, or does not rise
pub climbs_or_sinks : (f : Affine) → Climbs f ⊎ Sinks f
climbs_or_sinks always_low = inl (λ t u h. tt)
climbs_or_sinks (affine f) = climbs_of_lines f
climbs_or_sinks always_high = inl (λ t u h. tt)

-- what is at most both is at most the least of them
both : (v a b r : Extended) → IsLeast a b r → v ≤ᵉ a → v ≤ᵉ b → v ≤ᵉ r
both v a b r least h k = elim least.one_of [ inl e ↦ le_transᵉ v a r h e | inr e ↦ le_transᵉ v b r k e ]

module _ (lowest highest : Extended) (P Q : Function) (infs : (on : Interval) → (y : Extended) × IsInfOver highest (IsIn on) P y) (inside : Bool)
    (from t0 t : Rational) (order : from ≤ʳ t0) (later : t0 <ʳ t) (f h : Affine)
    (p_on : IsOn (after inside t0 t) P f) (q_on : IsOn (after inside t0 t) Q h) (least : (u : Rational) → lowest ≤ᵉ value_at f u)
    (low_right : (u : Rational) → lowest ≤ᵉ value_at h u) (most : (u : Rational) → value_at f u ≤ᵉ highest)
    (r v : Extended) (since : Since lowest highest P Q true from t0 r) (on : IsOnward r f h t0 t v) where
  low_v : Climbs f → on.low ≤ᵉ v
  low_v climbs = both on.low (value_at f t) on.high v on.is_value
      (le_transᵉ on.low (value_at f t0) (value_at f t) on.is_low.right (climbs t0 t (le_of_lt later)))
      (le_transᵉ on.low on.top on.high on.is_top.left on.is_high.left)

  climbing : Climbs f → InOrder f h t0 t → Since lowest highest P Q inside from t v
  climbing climbs (inl below) = goes_on lowest highest P Q infs inside from t0 t order later r (value_at f t0) on.low since
      (gap_climbing highest P f inside t0 t later p_on most climbs) (least t0) on.is_low (value_at f t) v
      (sup_of_left lowest highest P Q f h inside t0 t later p_on q_on most climbs (λ u a b. between f h t0 u t a b below.left below.right) (least t))
      (record {
        left = low_v climbs;
        right = both (value_at f t) (value_at f t) on.high v on.is_value (le_reflᵉ (value_at f t))
            (le_transᵉ (value_at f t) (value_at h t) on.high below.right on.is_high.right);
        one_of = inr on.is_value.left;
      })
  climbing climbs (inr below) =
      let g = greatest_of (value_at h t0) (value_at h t) in
      goes_on lowest highest P Q infs inside from t0 t order later r (value_at f t0) on.low since
      (gap_climbing highest P f inside t0 t later p_on most climbs) (least t0) on.is_low g.0 v
      (sup_of_right lowest highest P Q f h inside t0 t later p_on q_on most climbs (λ u a b. between h f t0 u t a b below.left below.right) g.0 g.1
      (le_transᵉ lowest (value_at h t0) g.0 (low_right t0) g.1.left))
      (record {
        left = low_v climbs;
        right = elim g.1.one_of [
          | inl e ↦ le_transᵉ g.0 (value_at h t0) v e (both (value_at h t0) (value_at f t) on.high v on.is_value
              (le_transᵉ (value_at h t0) (value_at f t0) (value_at f t) below.left (climbs t0 t (le_of_lt later)))
              (le_transᵉ (value_at h t0) on.top on.high on.is_top.right on.is_high.left))
          | inr e ↦ le_transᵉ g.0 (value_at h t) v e (both (value_at h t) (value_at f t) on.high v on.is_value below.right on.is_high.right)
        ];
        one_of = elim on.is_high.one_of [
          | inl e ↦ elim on.is_top.one_of [
            | inl d ↦ inl (le_transᵉ v on.high on.low on.is_value.right (le_transᵉ on.high on.top on.low e d))
            | inr d ↦ inr (le_transᵉ v on.high g.0 on.is_value.right (le_transᵉ on.high on.top g.0 e (le_transᵉ on.top (value_at h t0) g.0 d g.1.left)))
          ]
          | inr e ↦ inr (le_transᵉ v on.high g.0 on.is_value.right (le_transᵉ on.high (value_at h t) g.0 e g.1.right))
        ];
      })

  sinking : Sinks f → Since lowest highest P Q inside from t v
  sinking sinks =
      let k = least_of r (value_at f t) in
      let g = greatest_of (value_at h t0) (value_at h t) in
      let m = least_of g.0 (value_at f t) in
      let high_g : g.0 ≤ᵉ on.high = elim g.1.one_of [
        | inl e ↦ le_transᵉ g.0 (value_at h t0) on.high e (le_transᵉ (value_at h t0) on.top on.high on.is_top.right on.is_high.left)
        | inr e ↦ le_transᵉ g.0 (value_at h t) on.high e on.is_high.right
      ] in
      let low_g : lowest ≤ᵉ g.0 = le_transᵉ lowest (value_at h t0) g.0 (low_right t0) g.1.left in
      goes_on lowest highest P Q infs inside from t0 t order later r (value_at f t) k.0 since
      (gap_sinking highest P f inside t0 t later p_on most sinks) (least t) k.1 m.0 v
      (sup_of_sinking lowest highest P Q f h inside t0 t later p_on q_on most sinks g.0 m.0 g.1 m.1 (both lowest g.0 (value_at f t) m.0 m.1 low_g (least t)))
      (record {
        left = both k.0 (value_at f t) on.high v on.is_value k.1.right
            (le_transᵉ k.0 on.low on.high
            (both k.0 r (value_at f t0) on.low on.is_low k.1.left (le_transᵉ k.0 (value_at f t) (value_at f t0) k.1.right (sinks t0 t (le_of_lt later))))
            (le_transᵉ on.low on.top on.high on.is_top.left on.is_high.left));
        right = both m.0 (value_at f t) on.high v on.is_value m.1.right (le_transᵉ m.0 g.0 on.high m.1.left high_g);
        one_of = elim on.is_high.one_of [
          | inl e ↦ elim on.is_top.one_of [
            | inl d ↦ inl (both v r (value_at f t) k.0 k.1
                (le_transᵉ v on.high r on.is_value.right (le_transᵉ on.high on.top r e (le_transᵉ on.top on.low r d on.is_low.left))) on.is_value.left)
            | inr d ↦ inr (both v g.0 (value_at f t) m.0 m.1
                (le_transᵉ v on.high g.0 on.is_value.right (le_transᵉ on.high on.top g.0 e (le_transᵉ on.top (value_at h t0) g.0 d g.1.left))) on.is_value.left)
          ]
          | inr e ↦ inr (both v g.0 (value_at f t) m.0 m.1
              (le_transᵉ v on.high g.0 on.is_value.right (le_transᵉ on.high (value_at h t) g.0 e g.1.right)) on.is_value.left)
        ];
      })

  -- the value on the gap, or the limit at its end
  pub goes_onward : InOrder f h t0 t → Since lowest highest P Q inside from t v
  goes_onward ordered = elim (climbs_or_sinks f) [ inl k ↦ climbing k ordered | inr k ↦ sinking k ]

-- the times from u up to t, and t with it
pub within_in : (u t v : Rational) → Within u t v → IsIn (upto true u t) v
within_in u t v w = record { above = w.above; below = w.below }

-- and the other way round
pub in_within : (u t v : Rational) → IsIn (upto true u t) v → Within u t v
in_within u t v w = record { above = w.above; below = w.below }

module _ (lowest highest : Extended) (P Q : Function) (from t : Rational) (r : Extended) where
  reach_of : (u v : Rational) → (w : Extended) → IsDownTo highest P Q t u w → Reach lowest highest P Q true t u w
  reach_of u v w (x, y, q, i, l) = (x, y, q, inf_over_alike (Within u t) (IsIn (upto true u t)) P highest y (within_in u t) (in_within u t) i, l)

  down_of : (u v : Rational) → (w : Extended) → Reach lowest highest P Q true t u w → IsDownTo highest P Q t u w
  down_of u v w (x, y, q, i, l) = (x, y, q, inf_over_alike (IsIn (upto true u t)) (Within u t) P highest y (in_within u t) (within_in u t) i, l)

  -- the since from the start, as it is said of signals
  pub since_of : SinceFromStart lowest highest from P Q t r → Since lowest highest P Q true from t r
  since_of h = sup_alike lowest r (λ v m. (m.0, within_in from t m.0 m.1, reach_of m.0 m.0 v m.2))
      (λ v m. (m.0, in_within from t m.0 m.1, down_of m.0 m.0 v m.2)) h

  -- and the other way round
  pub of_since : Since lowest highest P Q true from t r → SinceFromStart lowest highest from P Q t r
  of_since h = sup_alike lowest r (λ v m. (m.0, in_within from t m.0 m.1, down_of m.0 m.0 v m.2))
      (λ v m. (m.0, within_in from t m.0 m.1, reach_of m.0 m.0 v m.2)) h
