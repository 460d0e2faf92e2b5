-- The since up to a place, and how it goes on from there.
use Rattle.std.proofs.Common.{inl, inr, Bool, true, false, sym, subst}
use Rattle.std.proofs.lemmas.Bool.{false≢true}
use Rattle.rational.specs.Time.{Rational, Interval, IsIn, ◌≤ʳ◌, ◌<ʳ◌, ◌≈◌}
use Rattle.rational.specs.Extended.{Extended, ◌≤ᵉ◌, ◌≈ᵉ◌, IsLeast, IsGreatest, Affine, value_at}
use Rattle.rational.specs.Places.{Place, After, Upto, Before}
use Rattle.rational.specs.Windows.{Function, IsInfOver}
use Rattle.rational.specs.Onward.{InOrder, IsOnward}
use Rattle.rational.proofs.Order.{le_refl, le_of_lt}
use Rattle.rational.proofs.ExtendedLemmas.{le_reflᵉ, le_transᵉ, greatest_of, least_of}
use Rattle.rational.proofs.AffineLemmas.{same_reflᵉ, value_same}
use Rattle.rational.proofs.PlaceLemmas.{not_both}
use Rattle.rational.proofs.Sups.{sup_of_none}
use Rattle.rational.proofs.TimeFunctions.{IsFunction, since_is_function}
use Rattle.rational.proofs.SinceForward.{after, Since}
use Rattle.rational.proofs.SinceOnGaps.{IsOn}
use Rattle.rational.proofs.SinceAtPoints.{HasOneValue, at_point}
use Rattle.rational.proofs.SinceOnward.{goes_onward, since_of, of_since}
use Rattle.pieces.proofs.Ends.{earlier_upto}

-- r is the since from the start up to a place
abbrev pub SinceTo : Extended → Extended → Function → Function → Rational → Place → Extended → Type 0
SinceTo lowest highest P Q from c r = Since lowest highest P Q c.after from c.at r

-- where neither side has a value before, it is the lowest value
pub since_begins : (lowest highest : Extended) (P Q : Function) (c : Place) → ((u : Rational) (v : Extended) → Q u v → After c u)
    → SinceTo lowest highest P Q c.at c lowest
since_begins lowest highest P Q c behind = sup_of_none lowest (λ v (u, i, (x, y, q, j, l)). not_both c u i.below (behind u x q))

-- what is at most both is at most the least of them
pub at_most_least : (v a b r : Extended) → IsLeast a b r → v ≤ᵉ a → v ≤ᵉ b → v ≤ᵉ r
at_most_least v a b r least h k = elim least.one_of [ inl e ↦ le_transᵉ v a r h e | inr e ↦ le_transᵉ v b r k e ]

-- a since that is r up to a time is m at it, with f0 and h0 there
module _ (r f0 h0 k m low top : Extended) (most : IsGreatest h0 r k) (is_m : IsLeast f0 k m) (is_low : IsLeast r f0 low) (is_top : IsGreatest low h0 top) where
  value_top : m ≤ᵉ top
  value_top = elim most.one_of [
    | inl e ↦ le_transᵉ m h0 top (le_transᵉ m k h0 is_m.right e) is_top.right
    | inr e ↦ le_transᵉ m low top (at_most_least m r f0 low is_low (le_transᵉ m k r is_m.right e) is_m.left) is_top.left
  ]

  low_value : low ≤ᵉ m
  low_value = at_most_least low f0 k m is_m is_low.right (le_transᵉ low r k is_low.left most.right)

  top_most : top ≤ᵉ k
  top_most = elim is_top.one_of [
    | inl e ↦ le_transᵉ top low k e (le_transᵉ low r k is_low.left most.right)
    | inr e ↦ le_transᵉ top h0 k e most.left
  ]

  still_top : IsGreatest m h0 top
  still_top = record { left = value_top; right = is_top.right; one_of = elim is_top.one_of [ inl e ↦ inl (le_transᵉ top low m e low_value) | inr e ↦ inr e ] }

module _ (r k m : Extended) (f h : Affine) (t0 t : Rational) (most : IsGreatest (value_at h t0) r k) (is_m : IsLeast (value_at f t0) k m) where
  -- from its value at the time it goes on as from what it was up to it
  onward_value : (v : Extended) → IsOnward r f h t0 t v → IsOnward m f h t0 t v
  onward_value v on = record {
    low = m;
    top = on.top;
    high = on.high;
    is_low = record { left = le_reflᵉ m; right = is_m.left; one_of = inl (le_reflᵉ m) };
    is_top = still_top r (value_at f t0) (value_at h t0) k m on.low on.top most is_m on.is_low on.is_top;
    is_high = on.is_high;
    is_value = on.is_value;
  }

  module _ (same : t0 ≈ t) where
    high_most : (top high : Extended) → top ≤ᵉ k → IsGreatest top (value_at h t) high → high ≤ᵉ k
    high_most top high le is = elim is.one_of [
      | inl e ↦ le_transᵉ high top k e le
      | inr e ↦ le_transᵉ high (value_at h t) k e (le_transᵉ (value_at h t) (value_at h t0) k (value_same h same).at_least most.left)
    ]

    -- at the time itself it has this value
    pub value_here : (v : Extended) → IsOnward r f h t0 t v → m ≈ᵉ v
    value_here v on =
        let top = value_top r (value_at f t0) (value_at h t0) k m on.low on.top most is_m on.is_low on.is_top in
        let le = top_most r (value_at f t0) (value_at h t0) k m on.low on.top most is_m on.is_low on.is_top in record {
          at_most = elim on.is_value.one_of [
            | inl e ↦ le_transᵉ m (value_at f t0) v is_m.left (le_transᵉ (value_at f t0) (value_at f t) v (value_same f same).at_most e)
            | inr e ↦ le_transᵉ m on.top v top (le_transᵉ on.top on.high v on.is_high.left e)
          ];
          at_least = at_most_least v (value_at f t0) k m is_m
              (le_transᵉ v (value_at f t) (value_at f t0) on.is_value.left (value_same f same).at_least)
              (le_transᵉ v on.high k on.is_value.right (high_most on.top on.high le on.is_high));
        }

    -- and what has this value goes on so
    pub here_onward : (v : Extended) → m ≈ᵉ v → IsOnward r f h t0 t v
    here_onward v e =
        let low = least_of r (value_at f t0) in
        let top = greatest_of low.0 (value_at h t0) in
        let high = greatest_of top.0 (value_at h t) in
        let up = value_top r (value_at f t0) (value_at h t0) k m low.0 top.0 most is_m low.1 top.1 in
        let le = top_most r (value_at f t0) (value_at h t0) k m low.0 top.0 most is_m low.1 top.1 in record {
          low = low.0;
          top = top.0;
          high = high.0;
          is_low = low.1;
          is_top = top.1;
          is_high = high.1;
          is_value = record {
            left = le_transᵉ v m (value_at f t) e.at_least (le_transᵉ m (value_at f t0) (value_at f t) is_m.left (value_same f same).at_most);
            right = le_transᵉ v m high.0 e.at_least (le_transᵉ m top.0 high.0 up high.1.left);
            one_of = elim is_m.one_of [
              | inl x ↦ inl (le_transᵉ (value_at f t) (value_at f t0) v (value_same f same).at_least (le_transᵉ (value_at f t0) m v x e.at_most))
              | inr x ↦ inr (le_transᵉ high.0 k v (high_most top.0 high.0 le high.1) (le_transᵉ k m v x e.at_most))
            ];
          };
        }

module _ (lowest highest : Extended) (P Q : Function) (is_p : IsFunction P) (is_q : IsFunction Q)
    (infs : (on : Interval) → (y : Extended) × IsInfOver highest (IsIn on) P y) (from : Rational) (f h : Affine)
    (f_low : (u : Rational) → lowest ≤ᵉ value_at f u) (h_low : (u : Rational) → lowest ≤ᵉ value_at h u)
    (f_high : (u : Rational) → value_at f u ≤ᵉ highest) where
  one_of : (F : Function) → IsFunction F → HasOneValue F
  one_of F is = record { one = λ t u v w e a b. (is.one u v w (is.alike t u v v e (same_reflᵉ v) a) b).at_most }

  -- the part from a place on is one behind the place's time
  part : (F : Function) (g : Affine) → IsFunction F → (b : Bool) (t0 : Rational) (d : Place)
      → ((u : Rational) → t0 <ʳ u → Upto d u → F u (value_at g u)) → IsOn (after d.after t0 d.at) F g
  part F g is b t0 d on = record {
    out = λ u v i w. is.one u v (value_at g u) w (on u i.above i.below);
    back = λ u i. on u i.above i.below;
  }

  -- where both sides go by f and h from a place on, in one order, the since goes on so
  pub goes_from : (b : Bool) (t0 : Rational) (d : Place) (r v : Extended) → from ≤ʳ t0 → Before (record { at = t0; after = b }) d
      → ((u : Rational) → After (record { at = t0; after = b }) u → Upto d u → P u (value_at f u))
      → ((u : Rational) → After (record { at = t0; after = b }) u → Upto d u → Q u (value_at h u))
      → InOrder f h t0 d.at → Since lowest highest P Q b from t0 r → IsOnward r f h t0 d.at v → SinceTo lowest highest P Q from d v
  goes_from true t0 d r v order (inl l) p q o s on =
      goes_onward lowest highest P Q infs d.after from t0 d.at order l f h (part P f is_p true t0 d p) (part Q h is_q true t0 d q)
      f_low h_low f_high r v s on o
  goes_from true t0 d r v order (inr (s, e, g)) p q o since on = absurd (false≢true (sym e))
  goes_from false t0 d r v order before p q o s on = by_order before
    where
      k : (x : Extended) × IsGreatest (value_at h t0) r x
      k = greatest_of (value_at h t0) r

      m : (x : Extended) × IsLeast (value_at f t0) k.0 x
      m = least_of (value_at f t0) k.0

      here : Upto d t0
      here = earlier_upto (record { at = t0; after = false }) d before

      now : Since lowest highest P Q true from t0 m.0
      now = at_point lowest highest P Q (one_of P is_p) (one_of Q is_q) infs from t0 order r (value_at f t0) (value_at h t0) k.0 m.0 s
          (p t0 (le_refl t0) here) (q t0 (le_refl t0) here) (f_high t0) k.1 m.1 (f_low t0)

      by_order : Before (record { at = t0; after = false }) d → SinceTo lowest highest P Q from d v
      by_order (inl l) =
          goes_onward lowest highest P Q infs d.after from t0 d.at order l f h (part P f is_p false t0 d (λ u a i. p u (le_of_lt a) i))
          (part Q h is_q false t0 d (λ u a i. q u (le_of_lt a) i)) f_low h_low f_high m.0 v now
          (onward_value r k.0 m.0 f h t0 d.at k.1 m.1 v on) o
      by_order (inr (e, x, g)) = subst (λ b. Since lowest highest P Q b from d.at v) (sym g)
          (since_of lowest highest P Q from d.at v
          ((since_is_function lowest highest from P Q).alike t0 d.at m.0 v e (value_here r k.0 m.0 f h t0 d.at k.1 m.1 e v on)
          (of_since lowest highest P Q from t0 m.0 now)))
