-- A chain has an Inf over each interval.
use Rattle.std.proofs.Common.{◌⊎◌, inl, inr, List, [], ◌∷◌}
use Rattle.rational.specs.Time.{Rational, Within, Interval, IsIn, ◌≤ʳ◌, ◌<ʳ◌, ◌≈◌}
use Rattle.rational.specs.Extended.{Extended, ◌≤ᵉ◌, ◌<ᵉ◌, IsLeast, Affine, Passes, value_at}
use Rattle.rational.specs.Places.{Place, After, Upto}
use Rattle.rational.specs.Windows.{IsInfOver}
use Rattle.rational.proofs.Order.{le_or_lt, le_trans, lt_of_lt_of_le, lt_of_le_of_lt, same_of_le}
use Rattle.rational.proofs.ExtendedLemmas.{le_transᵉ, lt_of_le_of_ltᵉ, least_of}
use Rattle.rational.proofs.AffineLemmas.{value_same, above_start, above_stop, passes, at_least_an_end}
use Rattle.rational.proofs.TimeLemmas.{IsIn-same, precedes_le, precedes_of_lt, decided_in, IsLater, later_of, IsEarlier, earlier_of}
use Rattle.rational.proofs.PlaceLemmas.{sides, not_both}
use Rattle.rational.proofs.Sups.{inf_of_none, inf_of_union, inf_same}
use Rattle.value_laws.specs.Members.{ShapeOf}
use Rattle.pieces.specs.declared.piece.Piece.{Piece}
use Rattle.pieces.specs.Chains.{end, IsWorthFrom}
use Rattle.pieces.proofs.Ends.{after_le, upto_le, after_of_lt, upto_of_lt, after_time_same, upto_time_same}

-- the times of an interval between two places
abbrev InPart : Interval → Place → Place → Rational → Type 0
InPart on c e u = IsIn on u × After c u × Upto e u

-- the values of a function there
abbrev PartValue : Interval → Place → Place → Affine → Extended → Type 0
PartValue on c e f v = (u : Rational) × InPart on c e u × Passes f u v

decided : (on : Interval) (c e : Place) (u : Rational) → InPart on c e u ⊎ ¬ (InPart on c e u)
decided on c e u = all (decided_in on u) (sides c u) (sides e u)
  where
    all : IsIn on u ⊎ ¬ (IsIn on u) → Upto c u ⊎ After c u → Upto e u ⊎ After e u → InPart on c e u ⊎ ¬ (InPart on c e u)
    all (inr n) x y = inr (λ m. n m.0)
    all (inl i) (inl k) y = inr (λ m. not_both c u k m.1)
    all (inl i) (inr a) (inr k) = inr (λ m. not_both e u m.2 k)
    all (inl i) (inr a) (inl k) = inl (i, a, k)

module _ (on : Interval) (c e : Place) (f : Affine) (highest : Extended) (most : (t : Rational) → value_at f t ≤ᵉ highest) where
  module _ (a b : Rational) (x : IsLater on.from c.at a) (y : IsEarlier on.to e.at b) where
    within : (u : Rational) → InPart on c e u → Within a b u
    within u m = record {
      above = x.least u (precedes_le on.from_in on.from u m.0.above) (after_le c u m.1);
      below = y.most u (precedes_le on.to_in u on.to m.0.below) (upto_le e u m.2);
    }

    inner : (u : Rational) → a <ʳ u → u <ʳ b → InPart on c e u
    inner u h k = (
      record {
        above = precedes_of_lt on.from_in on.from u (lt_of_le_of_lt x.left h);
        below = precedes_of_lt on.to_in u on.to (lt_of_lt_of_le k y.left);
      },
      after_of_lt c u (lt_of_le_of_lt x.right h),
      upto_of_lt e u (lt_of_lt_of_le k y.right),
    )

    found : (w : Extended) → ((t : Rational) × (a <ʳ t) × (t <ʳ b) × (value_at f t <ᵉ w)) → (v : Extended) × PartValue on c e f v × (v <ᵉ w)
    found w (t, h, k, l) = (value_at f t, (t, inner t h k, passes f t), l)

    reached : a <ʳ b → (s w : Extended) → s <ᵉ w → (value_at f a ≤ᵉ s) ⊎ (value_at f b ≤ᵉ s) → (v : Extended) × PartValue on c e f v × (v <ᵉ w)
    reached order s w k (inl h) = found w (above_start f a b w order (lt_of_le_of_ltᵉ (value_at f a) s w h k))
    reached order s w k (inr h) = found w (above_stop f a b w order (lt_of_le_of_ltᵉ (value_at f b) s w h k))

    bound : (s : Extended) → IsLeast (value_at f a) (value_at f b) s → (v : Extended) → PartValue on c e f v → s ≤ᵉ v
    bound s g v (u, m, p) =
        let w = within u m in
        le_transᵉ s (value_at f u) v (elim (at_least_an_end f a b u w.above w.below) [
          | inl h ↦ le_transᵉ s (value_at f a) (value_at f u) g.left h
          | inr h ↦ le_transᵉ s (value_at f b) (value_at f u) g.right h
        ]) p.at_least

    over_gap : a <ʳ b → (r : Extended) × IsInfOver highest (InPart on c e) (Passes f) r
    over_gap order =
        let g = least_of (value_at f a) (value_at f b) in (
          g.0,
          record {
            at_most = le_transᵉ g.0 (value_at f a) highest g.1.left (most a);
            bound = λ v m. bound g.0 g.1 v m;
            reached = λ w h k. reached order g.0 w h g.1.one_of;
          },
        )

    only : b ≤ʳ a → (u : Rational) → InPart on c e u → u ≈ a
    only order u m = let w = within u m in same_of_le (le_trans w.below order) w.above

    at_once : b ≤ʳ a → InPart on c e a ⊎ ¬ (InPart on c e a) → (r : Extended) × IsInfOver highest (InPart on c e) (Passes f) r
    at_once order (inl m) = (
      value_at f a,
      record {
        at_most = most a;
        bound = λ v (u, n, p). le_transᵉ (value_at f a) (value_at f u) v (value_same f (only order u n)).at_least p.at_least;
        reached = λ w h k. (value_at f a, (a, m, passes f a), h);
      },
    )
    at_once order (inr n) = (
      highest,
      inf_of_none highest (λ v (u, m, p). let s = only order u m in
          n (IsIn-same on s m.0, after_time_same c u a s m.1, upto_time_same e u a s m.2)),
    )

    by_order : (r : Extended) × IsInfOver highest (InPart on c e) (Passes f) r
    by_order = elim (le_or_lt b a) as (λ v. (r : Extended) × IsInfOver highest (InPart on c e) (Passes f) r) [
      | inl h ↦ at_once h (decided on c e a)
      | inr h ↦ over_gap h
    ]

  inf_part : (r : Extended) × IsInfOver highest (InPart on c e) (Passes f) r
  inf_part = let x = later_of on.from c.at in let y = earlier_of on.to e.at in by_order x.0 y.0 x.1 y.1

module _ {P : Type 0} (shape : ShapeOf P) where
  of_parts : (c : Place) (p : Piece P) (ps : List (Piece P)) (on : Interval) (v : Extended)
      → PartValue on c (end p) (shape.function p.shape) v ⊎ ((u : Rational) × IsIn on u × IsWorthFrom shape (end p) ps u v)
      → (u : Rational) × IsIn on u × IsWorthFrom shape c (p ∷ ps) u v
  of_parts c p ps on v (inl (u, m, w)) = (u, m.0, inl (m.1, m.2, w))
  of_parts c p ps on v (inr (u, i, w)) = (u, i, inr w)

  parts_of : (c : Place) (p : Piece P) (ps : List (Piece P)) (on : Interval) (v : Extended)
      → ((u : Rational) × IsIn on u × IsWorthFrom shape c (p ∷ ps) u v)
      → PartValue on c (end p) (shape.function p.shape) v ⊎ ((u : Rational) × IsIn on u × IsWorthFrom shape (end p) ps u v)
  parts_of c p ps on v (u, i, inl (a, k, w)) = inl (u, (i, a, k), w)
  parts_of c p ps on v (u, i, inr w) = inr (u, i, w)

  -- the Inf over an interval
  pub chain_inf : ((p : P) (t : Rational) → value_at (shape.function p) t ≤ᵉ shape.highest) → (c : Place) (ps : List (Piece P)) (on : Interval)
      → (r : Extended) × IsInfOver shape.highest (IsIn on) (IsWorthFrom shape c ps) r
  chain_inf most c [] on = (shape.highest, inf_of_none shape.highest (λ v (u, i, w). w))
  chain_inf most c (p ∷ ps) on =
      let a = inf_part on c (end p) (shape.function p.shape) shape.highest (most p.shape) in
      let b = chain_inf most (end p) ps on in
      let d = least_of a.0 b.0 in
      (d.0, inf_same (of_parts c p ps on) (parts_of c p ps on) (inf_of_union a.0 b.0 d.0 a.1 b.1 d.1))
