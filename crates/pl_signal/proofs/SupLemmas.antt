-- A signal has a Sup and an Inf over every interval.
use Rattle.std.proofs.Common.{◌⊎◌, inl, inr, List, [], ◌∷◌, false}
use Rattle.rational.specs.Time.{Rational, Within, Interval, IsIn, ◌<ʳ◌, ◌≈◌}
use Rattle.rational.specs.Extended.{Extended, ◌≤ᵉ◌, ◌<ᵉ◌, IsLeast, IsGreatest, IsSup, IsInf, Affine, Passes, value_at}
use Rattle.rational.specs.Windows.{Window, IsSupOver, IsInfOver}
use Rattle.rational.proofs.Order.{le_or_lt, le_of_lt, le_of_same, ge_of_same, le_trans, lt_of_lt_of_le}
use Rattle.rational.proofs.Order.{lt_of_le_of_lt, same_of_le, same_refl, same_sym, same_trans}
use Rattle.rational.proofs.ExtendedLemmas.{le_transᵉ, lt_of_lt_of_leᵉ, lt_of_le_of_ltᵉ, greatest_of, least_of}
use Rattle.rational.proofs.AffineLemmas.{value_same, near_start, near_stop, above_start, above_stop, passes, at_most_an_end, at_least_an_end}
use Rattle.rational.proofs.TimeLemmas.{IsIn-same, precedes_le, precedes_of_lt, decided_order, decided_in, IsLater, later_of, IsEarlier, earlier_of}
use Rattle.rational.proofs.Sups.{sup_of_none, inf_of_none, sup_of_union, inf_of_union, sup_same, inf_same}
use Rattle.value_laws.specs.Members.{ShapeOf}
use Rattle.pl_signal.specs.declared.knot.Knot.{Knot}
use Rattle.pl_signal.specs.Knots.{time, IsInGap, IsWorth}

-- the times of an interval on an open gap
record OnGap (on : Interval) (l r u : Rational) : Type 0 where
  -- the time lies in the interval
  pub inside : IsIn on u
  -- after one end
  pub after : l <ʳ u
  -- and before the other
  pub before : u <ʳ r

-- over times that hold an open interval, and none outside its closure
sup_between : (W : Window) (f : Affine) (lowest : Extended) (a b : Rational) → ((t : Rational) → lowest ≤ᵉ value_at f t) → a <ʳ b
    → ((u : Rational) → a <ʳ u → u <ʳ b → W u) → ((u : Rational) → W u → Within a b u) → (r : Extended) × IsSupOver lowest W (Passes f) r
sup_between W f lowest a b least order inner outer =
    let g = greatest_of (value_at f a) (value_at f b) in (
      g.0,
      record {
        at_least = le_transᵉ lowest (value_at f a) g.0 (least a) g.1.left;
        bound = λ v m. bound g.0 g.1 v m;
        reached = λ w h k. reached g.0 g.1.one_of w k;
      },
    )
  where
    bound : (s : Extended) → IsGreatest (value_at f a) (value_at f b) s → (v : Extended) → ((u : Rational) × W u × Passes f u v) → v ≤ᵉ s
    bound s g v (u, m, p) = le_transᵉ v (value_at f u) s p.at_most
        (elim (at_most_an_end f a b u (outer u m).above (outer u m).below)
        [ inl h ↦ le_transᵉ (value_at f u) (value_at f a) s h g.left | inr h ↦ le_transᵉ (value_at f u) (value_at f b) s h g.right ])

    found : (w : Extended) → ((t : Rational) × (a <ʳ t) × (t <ʳ b) × (w <ᵉ value_at f t)) → (v : Extended) × ((u : Rational) × W u × Passes f u v) × (w <ᵉ v)
    found w (t, h, k, l) = (value_at f t, (t, inner t h k, passes f t), l)

    reached : (s : Extended) → (s ≤ᵉ value_at f a) ⊎ (s ≤ᵉ value_at f b) → (w : Extended) → w <ᵉ s → (v : Extended)
        × ((u : Rational) × W u × Passes f u v) × (w <ᵉ v)
    reached s (inl e) w k = found w (near_start f a b w order (lt_of_lt_of_leᵉ w s (value_at f a) k e))
    reached s (inr e) w k = found w (near_stop f a b w order (lt_of_lt_of_leᵉ w s (value_at f b) k e))

inf_between : (W : Window) (f : Affine) (highest : Extended) (a b : Rational) → ((t : Rational) → value_at f t ≤ᵉ highest) → a <ʳ b
    → ((u : Rational) → a <ʳ u → u <ʳ b → W u) → ((u : Rational) → W u → Within a b u) → (r : Extended) × IsInfOver highest W (Passes f) r
inf_between W f highest a b most order inner outer =
    let g = least_of (value_at f a) (value_at f b) in (
      g.0,
      record {
        at_most = le_transᵉ g.0 (value_at f a) highest g.1.left (most a);
        bound = λ v m. bound g.0 g.1 v m;
        reached = λ w h k. reached g.0 g.1.one_of w h;
      },
    )
  where
    bound : (s : Extended) → IsLeast (value_at f a) (value_at f b) s → (v : Extended) → ((u : Rational) × W u × Passes f u v) → s ≤ᵉ v
    bound s g v (u, m, p) = le_transᵉ s (value_at f u) v
        (elim (at_least_an_end f a b u (outer u m).above (outer u m).below)
        [ inl h ↦ le_transᵉ s (value_at f a) (value_at f u) g.left h | inr h ↦ le_transᵉ s (value_at f b) (value_at f u) g.right h ]) p.at_least

    found : (w : Extended) → ((t : Rational) × (a <ʳ t) × (t <ʳ b) × (value_at f t <ᵉ w)) → (v : Extended) × ((u : Rational) × W u × Passes f u v) × (v <ᵉ w)
    found w (t, h, k, l) = (value_at f t, (t, inner t h k, passes f t), l)

    reached : (s : Extended) → (value_at f a ≤ᵉ s) ⊎ (value_at f b ≤ᵉ s) → (w : Extended) → s <ᵉ w → (v : Extended)
        × ((u : Rational) × W u × Passes f u v) × (v <ᵉ w)
    reached s (inl e) w k = found w (above_start f a b w order (lt_of_le_of_ltᵉ (value_at f a) s w e k))
    reached s (inr e) w k = found w (above_stop f a b w order (lt_of_le_of_ltᵉ (value_at f b) s w e k))

-- over times of which one stands for all, if there is any
sup_of_one : (W : Window) (f : Affine) (lowest : Extended) (a : Rational) → ((t : Rational) → lowest ≤ᵉ value_at f t) → W a ⊎ ¬ (W a)
    → ((u : Rational) → W u → u ≈ a)
    → ((u v : Rational) → u ≈ v → W u → W v) → (r : Extended) × IsSupOver lowest W (Passes f) r
sup_of_one W f lowest a least (inl m) only alike = (
  value_at f a,
  record {
    at_least = least a;
    bound = λ v (u, n, p). le_transᵉ v (value_at f u) (value_at f a) p.at_most (value_same f (only u n)).at_most;
    reached = λ w h k. (value_at f a, (a, m, passes f a), k);
  },
)
sup_of_one W f lowest a least (inr n) only alike = (lowest, sup_of_none lowest (λ v (u, m, p). n (alike u a (only u m) m)))

inf_of_one : (W : Window) (f : Affine) (highest : Extended) (a : Rational) → ((t : Rational) → value_at f t ≤ᵉ highest) → W a ⊎ ¬ (W a)
    → ((u : Rational) → W u → u ≈ a)
    → ((u v : Rational) → u ≈ v → W u → W v) → (r : Extended) × IsInfOver highest W (Passes f) r
inf_of_one W f highest a most (inl m) only alike = (
  value_at f a,
  record {
    at_most = most a;
    bound = λ v (u, n, p). le_transᵉ (value_at f a) (value_at f u) v (value_same f (only u n)).at_least p.at_least;
    reached = λ w h k. (value_at f a, (a, m, passes f a), h);
  },
)
inf_of_one W f highest a most (inr n) only alike = (highest, inf_of_none highest (λ v (u, m, p). n (alike u a (only u m) m)))

decided_gap : (on : Interval) (l r u : Rational) → OnGap on l r u ⊎ ¬ (OnGap on l r u)
decided_gap on l r u = all (decided_in on u) (decided_order false l u) (decided_order false u r)
  where
    all : IsIn on u ⊎ ¬ (IsIn on u) → (l <ʳ u) ⊎ ¬ (l <ʳ u) → (u <ʳ r) ⊎ ¬ (u <ʳ r) → OnGap on l r u ⊎ ¬ (OnGap on l r u)
    all (inl i) (inl h) (inl k) = inl (record { inside = i; after = h; before = k })
    all (inl i) (inl h) (inr k) = inr (λ g. k g.before)
    all (inl i) (inr h) k = inr (λ g. h g.after)
    all (inr i) h k = inr (λ g. i g.inside)

on_gap_alike : (on : Interval) (l r u v : Rational) → u ≈ v → OnGap on l r u → OnGap on l r v
on_gap_alike on l r u v e g =
    record { inside = IsIn-same on e g.inside; after = lt_of_lt_of_le g.after (le_of_same e); before = lt_of_le_of_lt (ge_of_same e) g.before }

gap_within : (on : Interval) (l r a b u : Rational) → IsLater on.from l a → IsEarlier on.to r b → OnGap on l r u → Within a b u
gap_within on l r a b u x y g = record {
  above = x.least u (precedes_le on.from_in on.from u g.inside.above) (le_of_lt g.after);
  below = y.most u (precedes_le on.to_in u on.to g.inside.below) (le_of_lt g.before);
}

gap_inner : (on : Interval) (l r a b u : Rational) → IsLater on.from l a → IsEarlier on.to r b → a <ʳ u → u <ʳ b → OnGap on l r u
gap_inner on l r a b u x y h k = record {
  inside = record { above = precedes_of_lt on.from_in on.from u (lt_of_le_of_lt x.left h); below = precedes_of_lt on.to_in u on.to (lt_of_lt_of_le k y.left) };
  after = lt_of_le_of_lt x.right h;
  before = lt_of_lt_of_le k y.right;
}

sup_on_gap : (on : Interval) (l r : Rational) (f : Affine) (lowest : Extended) → ((t : Rational) → lowest ≤ᵉ value_at f t) → (s : Extended)
    × IsSupOver lowest (OnGap on l r) (Passes f) s
sup_on_gap on l r f lowest least = by_order (later_of on.from l) (earlier_of on.to r)
  where
    by_order : (a : Rational) × IsLater on.from l a → (b : Rational) × IsEarlier on.to r b → (s : Extended) × IsSupOver lowest (OnGap on l r) (Passes f) s
    by_order (a, x) (b, y) = elim (le_or_lt b a) as (λ v. (s : Extended) × IsSupOver lowest (OnGap on l r) (Passes f) s) [
      | inl h ↦ sup_of_one (OnGap on l r) f lowest a least (decided_gap on l r a)
          (λ u g. let w = gap_within on l r a b u x y g in same_of_le (le_trans w.below h) w.above) (on_gap_alike on l r)
      | inr h ↦ sup_between (OnGap on l r) f lowest a b least h (λ u p q. gap_inner on l r a b u x y p q) (λ u g. gap_within on l r a b u x y g)
    ]

inf_on_gap : (on : Interval) (l r : Rational) (f : Affine) (highest : Extended) → ((t : Rational) → value_at f t ≤ᵉ highest) → (s : Extended)
    × IsInfOver highest (OnGap on l r) (Passes f) s
inf_on_gap on l r f highest most = by_order (later_of on.from l) (earlier_of on.to r)
  where
    by_order : (a : Rational) × IsLater on.from l a → (b : Rational) × IsEarlier on.to r b → (s : Extended) × IsInfOver highest (OnGap on l r) (Passes f) s
    by_order (a, x) (b, y) = elim (le_or_lt b a) as (λ v. (s : Extended) × IsInfOver highest (OnGap on l r) (Passes f) s) [
      | inl h ↦ inf_of_one (OnGap on l r) f highest a most (decided_gap on l r a)
          (λ u g. let w = gap_within on l r a b u x y g in same_of_le (le_trans w.below h) w.above) (on_gap_alike on l r)
      | inr h ↦ inf_between (OnGap on l r) f highest a b most h (λ u p q. gap_inner on l r a b u x y p q) (λ u g. gap_within on l r a b u x y g)
    ]

-- the times of an interval at one instant
abbrev AtInstant : Interval → Rational → Window
AtInstant on t u = IsIn on u × (u ≈ t)

decided_instant : (on : Interval) (t : Rational) → AtInstant on t t ⊎ ¬ (AtInstant on t t)
decided_instant on t = elim (decided_in on t) [ inl h ↦ inl (h, same_refl t) | inr h ↦ inr (λ m. h m.0) ]

instant_alike : (on : Interval) (t u v : Rational) → u ≈ v → AtInstant on t u → AtInstant on t v
instant_alike on t u v e m = (IsIn-same on e m.0, same_trans (same_sym e) m.1)

module _ {P : Type 0} (shape : ShapeOf P) where
  -- the values of a signal are those at its first knot, those on the gap behind it, and those of the rest
  parts_of : (k : Knot P) (ks : List (Knot P)) (on : Interval) (v : Extended) → ((u : Rational) × IsIn on u × IsWorth shape (k ∷ ks) u v)
      → ((u : Rational) × AtInstant on (time k) u × Passes (shape.function k.point) u v)
      ⊎ (((u : Rational) × IsIn on u × IsInGap shape k ks u v) ⊎ ((u : Rational) × IsIn on u × IsWorth shape ks u v))
  parts_of k ks on v (u, i, inl w) = inl (u, (i, w.when), w.worth)
  parts_of k ks on v (u, i, inr (inl w)) = inr (inl (u, i, w))
  parts_of k ks on v (u, i, inr (inr w)) = inr (inr (u, i, w))

  of_parts : (k : Knot P) (ks : List (Knot P)) (on : Interval) (v : Extended)
      → ((u : Rational) × AtInstant on (time k) u × Passes (shape.function k.point) u v)
      ⊎ (((u : Rational) × IsIn on u × IsInGap shape k ks u v) ⊎ ((u : Rational) × IsIn on u × IsWorth shape ks u v))
      → ((u : Rational) × IsIn on u × IsWorth shape (k ∷ ks) u v)
  of_parts k ks on v (inl (u, i, w)) = (u, i.0, inl (record { when = i.1; worth = w }))
  of_parts k ks on v (inr (inl (u, i, w))) = (u, i, inr (inl w))
  of_parts k ks on v (inr (inr (u, i, w))) = (u, i, inr (inr w))

  sup_in_gap : ((p : P) (t : Rational) → shape.lowest ≤ᵉ value_at (shape.function p) t) → (k : Knot P) (ks : List (Knot P)) (on : Interval)
      → (r : Extended) × IsSup shape.lowest (λ v. (u : Rational) × IsIn on u × IsInGap shape k ks u v) r
  sup_in_gap least k [] on = (shape.lowest, sup_of_none shape.lowest (λ v m. m.2))
  sup_in_gap least k (n ∷ ks) on =
      let s = sup_on_gap on (time k) (time n) (shape.function k.after) shape.lowest (least k.after) in (
        s.0,
        sup_same (λ v (u, g, p). (u, g.inside, record { after = g.after; before = g.before; worth = p }))
            (λ v (u, i, w). (u, record { inside = i; after = w.after; before = w.before }, w.worth)) s.1,
      )

  inf_in_gap : ((p : P) (t : Rational) → value_at (shape.function p) t ≤ᵉ shape.highest) → (k : Knot P) (ks : List (Knot P)) (on : Interval)
      → (r : Extended) × IsInf shape.highest (λ v. (u : Rational) × IsIn on u × IsInGap shape k ks u v) r
  inf_in_gap most k [] on = (shape.highest, inf_of_none shape.highest (λ v m. m.2))
  inf_in_gap most k (n ∷ ks) on =
      let s = inf_on_gap on (time k) (time n) (shape.function k.after) shape.highest (most k.after) in (
        s.0,
        inf_same (λ v (u, g, p). (u, g.inside, record { after = g.after; before = g.before; worth = p }))
            (λ v (u, i, w). (u, record { inside = i; after = w.after; before = w.before }, w.worth)) s.1,
      )

  -- a Sup over every interval
  pub signal_sup : ((p : P) (t : Rational) → shape.lowest ≤ᵉ value_at (shape.function p) t) → (ks : List (Knot P)) (on : Interval)
      → (r : Extended) × IsSupOver shape.lowest (IsIn on) (IsWorth shape ks) r
  signal_sup least [] on = (shape.lowest, sup_of_none shape.lowest (λ v m. m.2))
  signal_sup least (k ∷ ks) on =
      let a = sup_of_one (AtInstant on (time k)) (shape.function k.point) shape.lowest (time k) (least k.point) (decided_instant on (time k))
      (λ u m. m.1) (instant_alike on (time k)) in
      let b = sup_in_gap least k ks on in
      let c = signal_sup least ks on in
      let d = greatest_of b.0 c.0 in
      let e = greatest_of a.0 d.0 in
      (e.0, sup_same (of_parts k ks on) (parts_of k ks on) (sup_of_union a.0 d.0 e.0 a.1 (sup_of_union b.0 c.0 d.0 b.1 c.1 d.1) e.1))

  -- and an Inf
  pub signal_inf : ((p : P) (t : Rational) → value_at (shape.function p) t ≤ᵉ shape.highest) → (ks : List (Knot P)) (on : Interval)
      → (r : Extended) × IsInfOver shape.highest (IsIn on) (IsWorth shape ks) r
  signal_inf most [] on = (shape.highest, inf_of_none shape.highest (λ v m. m.2))
  signal_inf most (k ∷ ks) on =
      let a = inf_of_one (AtInstant on (time k)) (shape.function k.point) shape.highest (time k) (most k.point) (decided_instant on (time k))
      (λ u m. m.1) (instant_alike on (time k)) in
      let b = inf_in_gap most k ks on in
      let c = signal_inf most ks on in
      let d = least_of b.0 c.0 in
      let e = least_of a.0 d.0 in
      (e.0, inf_same (of_parts k ks on) (parts_of k ks on) (inf_of_union a.0 d.0 e.0 a.1 (inf_of_union b.0 c.0 d.0 b.1 c.1 d.1) e.1))
