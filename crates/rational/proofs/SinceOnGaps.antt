-- The value of a since on a gap on which both sides are affine.
use Rattle.std.proofs.Common.{◌⊎◌, inl, inr, Bool, true, false}
use Rattle.rational.specs.Time.{Rational, ◌<ʳ◌, Interval, IsIn}
use Rattle.rational.specs.Extended.{Extended, ◌≤ᵉ◌, ◌<ᵉ◌, IsLeast, IsGreatest, Affine, value_at, Passes}
use Rattle.rational.specs.Windows.{Function, IsSupOver, IsInfOver}
use Rattle.rational.proofs.Order.{le_refl, le_of_lt, lt_of_lt_of_le}
use Rattle.rational.proofs.TimeLemmas.{precedes_le, precedes_of_lt}
use Rattle.rational.proofs.ExtendedLemmas.{le_transᵉ, lt_of_lt_of_leᵉ, least_of, Inf-unique}
use Rattle.rational.proofs.AffineLemmas.{near_start, near_stop, above_start, above_stop, at_most_an_end}
use Rattle.rational.specs.Onward.{Climbs, Sinks}
use Rattle.rational.proofs.UntilComposition.{below_least}
use Rattle.rational.proofs.SinceForward.{upto, after, Reach}

-- on the interval the function is that of the line
pub record IsOn (on : Interval) (F : Function) (f : Affine) : Type 0 where
  -- the function's values are the line's
  pub out : (u : Rational) (v : Extended) → IsIn on u → F u v → Passes f u v
  -- and the line's values are the function's
  pub back : (u : Rational) → IsIn on u → F u (value_at f u)

module _ (highest : Extended) (P : Function) (f : Affine) (inside : Bool) (t0 t : Rational) (later : t0 <ʳ t)
    (on : IsOn (after inside t0 t) P f) (most : (u : Rational) → value_at f u ≤ᵉ highest) where
  -- the part from u on lies in the gap
  widened : (u v : Rational) → t0 <ʳ u → IsIn (upto inside u t) v → IsIn (after inside t0 t) v
  widened u v h k = record { above = lt_of_lt_of_le h k.above; below = k.below }

  -- while P climbs, its Inf from u on is its value at u
  inf_climbing : Climbs f → (u : Rational) → IsIn (after inside t0 t) u → IsInfOver highest (IsIn (upto inside u t)) P (value_at f u)
  inf_climbing climbs u h = record {
    at_most = most u;
    bound = λ v m. let p = on.out m.0 v (widened u m.0 h.above m.1) m.2 in le_transᵉ (value_at f u) (value_at f m.0) v (climbs u m.0 m.1.above) p.at_least;
    reached = λ w l k. (value_at f u, (u, record { above = le_refl u; below = h.below }, on.back u h), l);
  }

  -- while P sinks, its Inf from u on is its value at the end, reached or not
  inf_sinking : Sinks f → (u : Rational) → IsIn (after inside t0 t) u → IsInfOver highest (IsIn (upto inside u t)) P (value_at f t)
  inf_sinking sinks u h = record {
    at_most = most t;
    bound = λ v m. let p = on.out m.0 v (widened u m.0 h.above m.1) m.2 in
        le_transᵉ (value_at f t) (value_at f m.0) v (sinks m.0 t (precedes_le inside m.0 t m.1.below)) p.at_least;
    reached = λ w l k. reached inside h on w l;
  }
    where
      reached : (b : Bool) → IsIn (after b t0 t) u → IsOn (after b t0 t) P f → (w : Extended) → value_at f t <ᵉ w → (v : Extended)
          × ((z : Rational) × IsIn (upto b u t) z × P z v) × (v <ᵉ w)
      reached true h on w l = (value_at f t, (t, record { above = h.below; below = le_refl t }, on.back t (record { above = later; below = le_refl t })), l)
      reached false h on w l =
          let z = above_stop f u t w h.below l in (
            value_at f z.0,
            (
              z.0,
              record { above = le_of_lt z.1; below = z.2 },
              on.back z.0
                  (record { above = lt_of_lt_of_le h.above (le_of_lt z.1); below = z.2 }),
            ),
            z.3,
          )

  -- its Inf over the whole gap
  pub gap_climbing : Climbs f → IsInfOver highest (IsIn (after inside t0 t)) P (value_at f t0)
  gap_climbing climbs = record {
    at_most = most t0;
    bound = λ v m. le_transᵉ (value_at f t0) (value_at f m.0) v (climbs t0 m.0 (le_of_lt m.1.above)) (on.out m.0 v m.1 m.2).at_least;
    reached = λ w l k. let z = above_start f t0 t w later l in
        let m : IsIn (after inside t0 t) z.0 = record { above = z.1; below = precedes_of_lt inside z.0 t z.2 } in
        (value_at f z.0, (z.0, m, on.back z.0 m), z.3);
  }

  -- so where it falls
  pub gap_sinking : Sinks f → IsInfOver highest (IsIn (after inside t0 t)) P (value_at f t)
  gap_sinking sinks = record {
    at_most = most t;
    bound = λ v m. le_transᵉ (value_at f t) (value_at f m.0) v (sinks m.0 t (precedes_le inside m.0 t m.1.below)) (on.out m.0 v m.1 m.2).at_least;
    reached = λ w l k. let z = above_stop f t0 t w later l in
        let m : IsIn (after inside t0 t) z.0 = record { above = z.1; below = precedes_of_lt inside z.0 t z.2 } in
        (value_at f z.0, (z.0, m, on.back z.0 m), z.3);
  }

module _ (lowest highest : Extended) (P Q : Function) (f h : Affine) (inside : Bool) (t0 t : Rational) (later : t0 <ʳ t)
    (p_on : IsOn (after inside t0 t) P f) (q_on : IsOn (after inside t0 t) Q h) (most : (u : Rational) → value_at f u ≤ᵉ highest) where
  abbrev Member : Extended → Type 0
  Member w = (v : Extended) × ((u : Rational) × IsIn (after inside t0 t) u × Reach lowest highest P Q inside t u v) × (w <ᵉ v)

  -- at a time of the gap, the value that is reached from there where the Inf of P from there is y
  member : (w y : Extended) (u : Rational) → (m : IsIn (after inside t0 t) u) → IsInfOver highest (IsIn (upto inside u t)) P y → w <ᵉ value_at h u
      → w <ᵉ y → Member w
  member w y u m j a b = let l = least_of (value_at h u) y in
      (l.0, (u, m, (value_at h u, y, q_on.back u m, j, l.1)), below_least (value_at h u) y l.0 w l.1 a b)

  inner : (z : Rational) → t0 <ʳ z → z <ʳ t → IsIn (after inside t0 t) z
  inner z a b = record { above = a; below = precedes_of_lt inside z t b }

  -- Q on the gap is at most the greater of its values at the ends
  q_below : (u : Rational) (x g : Extended) → IsIn (after inside t0 t) u → Q u x → IsGreatest (value_at h t0) (value_at h t) g → x ≤ᵉ g
  q_below u x g m q greatest = le_transᵉ x (value_at h u) g (q_on.out u x m q).at_most
      (elim (at_most_an_end h t0 t u (le_of_lt m.above) (precedes_le inside u t m.below)) [
        | inl e ↦ le_transᵉ (value_at h u) (value_at h t0) g e greatest.left
        | inr e ↦ le_transᵉ (value_at h u) (value_at h t) g e greatest.right
      ])

  -- P climbs: what is reached from u is the least of both at u. Where P is below Q all over the gap, the Sup is P's at its end
  pub sup_of_left : Climbs f → ((u : Rational) → t0 <ʳ u → u <ʳ t → value_at f u ≤ᵉ value_at h u) → lowest ≤ᵉ value_at f t
      → IsSupOver lowest (IsIn (after inside t0 t)) (Reach lowest highest P Q inside t) (value_at f t)
  sup_of_left climbs under low = record {
    at_least = low;
    bound = λ v (u, m, (x, y, q, j, l)). le_transᵉ v y (value_at f t) l.right
        (le_transᵉ y (value_at f u) (value_at f t) (j.bound (value_at f u) (u, record { above = le_refl u; below = m.below }, p_on.back u m))
        (climbs u t (precedes_le inside u t m.below)));
    reached = λ w k o. let z = near_stop f t0 t w later o in
        member w (value_at f z.0) z.0 (inner z.0 z.1 z.2) (inf_climbing highest P f inside t0 t later p_on most climbs z.0 (inner z.0 z.1 z.2))
        (lt_of_lt_of_leᵉ w (value_at f z.0) (value_at h z.0) z.3 (under z.0 z.1 z.2)) z.3;
  }

  -- where Q is below P all over the gap, the Sup is the greater of Q's values at the ends
  pub sup_of_right : Climbs f → ((u : Rational) → t0 <ʳ u → u <ʳ t → value_at h u ≤ᵉ value_at f u) → (g : Extended)
      → IsGreatest (value_at h t0) (value_at h t) g → lowest ≤ᵉ g
      → IsSupOver lowest (IsIn (after inside t0 t)) (Reach lowest highest P Q inside t) g
  sup_of_right climbs under g greatest low = record {
    at_least = low;
    bound = λ v (u, m, (x, y, q, j, l)). le_transᵉ v x g l.left (q_below u x g m q greatest);
    reached = λ w k o. by_end w o greatest.one_of;
  }
    where
      found : (w : Extended) → ((z : Rational) × (t0 <ʳ z) × (z <ʳ t) × (w <ᵉ value_at h z)) → Member w
      found w z = member w (value_at f z.0) z.0 (inner z.0 z.1 z.2) (inf_climbing highest P f inside t0 t later p_on most climbs z.0 (inner z.0 z.1 z.2))
          z.3 (lt_of_lt_of_leᵉ w (value_at h z.0) (value_at f z.0) z.3 (under z.0 z.1 z.2))

      by_end : (w : Extended) → w <ᵉ g → (g ≤ᵉ value_at h t0) ⊎ (g ≤ᵉ value_at h t) → Member w
      by_end w o (inl e) = found w (near_start h t0 t w later (lt_of_lt_of_leᵉ w g (value_at h t0) o e))
      by_end w o (inr e) = found w (near_stop h t0 t w later (lt_of_lt_of_leᵉ w g (value_at h t) o e))

  -- P sinks: what is reached from u is the least of Q at u and of P at the end
  pub sup_of_sinking : Sinks f → (k g : Extended) → IsGreatest (value_at h t0) (value_at h t) k → IsLeast k (value_at f t) g → lowest ≤ᵉ g
      → IsSupOver lowest (IsIn (after inside t0 t)) (Reach lowest highest P Q inside t) g
  sup_of_sinking sinks k g greatest least low = record {
    at_least = low;
    bound = λ v (u, m, (x, y, q, j, l)). below_both v (le_transᵉ v x k l.left (q_below u x k m q greatest))
        (le_transᵉ v y (value_at f t) l.right (end_below u y m j)) least.one_of;
    reached = λ w n o. by_end w (lt_of_lt_of_leᵉ w g k o least.left) (lt_of_lt_of_leᵉ w g (value_at f t) o least.right) greatest.one_of;
  }
    where
      below_both : (v : Extended) → v ≤ᵉ k → v ≤ᵉ value_at f t → (k ≤ᵉ g) ⊎ (value_at f t ≤ᵉ g) → v ≤ᵉ g
      below_both v a b (inl e) = le_transᵉ v k g a e
      below_both v a b (inr e) = le_transᵉ v (value_at f t) g b e

      -- an Inf of P from u on is at most P's value at the end
      end_below : (u : Rational) (y : Extended) → IsIn (after inside t0 t) u → IsInfOver highest (IsIn (upto inside u t)) P y → y ≤ᵉ value_at f t
      end_below u y m j = Inf-unique highest y (value_at f t) j (inf_sinking highest P f inside t0 t later p_on most sinks u m)

      found : (w : Extended) → w <ᵉ value_at f t → ((z : Rational) × (t0 <ʳ z) × (z <ʳ t) × (w <ᵉ value_at h z)) → Member w
      found w b z = member w (value_at f t) z.0 (inner z.0 z.1 z.2) (inf_sinking highest P f inside t0 t later p_on most sinks z.0 (inner z.0 z.1 z.2)) z.3 b

      by_end : (w : Extended) → w <ᵉ k → w <ᵉ value_at f t → (k ≤ᵉ value_at h t0) ⊎ (k ≤ᵉ value_at h t) → Member w
      by_end w a b (inl e) = found w b (near_start h t0 t w later (lt_of_lt_of_leᵉ w k (value_at h t0) a e))
      by_end w a b (inr e) = found w b (near_stop h t0 t w later (lt_of_lt_of_leᵉ w k (value_at h t) a e))
