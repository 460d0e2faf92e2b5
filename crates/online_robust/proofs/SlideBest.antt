-- What a window has told over the chain of its input, with the point at the end, is the best over the input.
use Rattle.std.proofs.Common.{◌≡◌, ◌⊎◌, inl, inr, ℕ, ◌^◌, ◌+◌, Bool, true, false, List, refl, sym, subst, arith, pos}
use Rattle.std.specs.Prelude.{neg_ℤ, ◌≤ℤ◌, ◌-ℤ◌}
use Rattle.std.proofs.lemmas.Int.{ints}
use Rattle.rational.specs.Rational.{whole}
use Rattle.rational.specs.Time.{Rational, shifted, ◌≈◌, ◌≤ʳ◌, ◌<ʳ◌}
use Rattle.rational.specs.Extended.{Extended, minus_infinity, infinity, value_at, ◌≈ᵉ◌}
use Rattle.rational.specs.Affine.{IsBounded}
use Rattle.rational.specs.Windows.{Function}
use Rattle.rational.proofs.AffineLemmas.{bounded_same, value_same}
use Rattle.rational.proofs.Order.{ge_of_same, le_of_lt, le_of_same, le_refl, le_trans, lt_of_le_of_lt, not_lt_of_le, same_sym, same_trans}
use Rattle.rational.proofs.Sames.{symᵉ, transᵉ}
use Rattle.rational.proofs.TimeLemmas.{precedes_after, precedes_before, same_shifted}
use Rattle.rational.proofs.Sups.{inf_value_same, sup_value_same}
use Rattle.rational.proofs.WindowLemmas.{inf_alike, sup_alike}
use Rattle.frac128.specs.Cuts.{place}
use Rattle.value_laws.specs.Kinds.{margin_shape}
use Rattle.value_laws.specs.Margins.{is_ramp, margin_base, margin_function, others_base}
use Rattle.value_laws.specs.declared.margin.Margin.{Margin}
use Rattle.pl_signal.specs.declared.joining.Side.{Side}
use Rattle.pl_signal.specs.declared.joining.Side.TheVariants.{Least, Greatest}
use Rattle.pl_signal.specs.declared.knot.Knot.{Knot}
use Rattle.pieces.specs.Best.{IsBestOver}
use Rattle.pieces.specs.Chains.{Chain, HasShape, Tells}
use Rattle.pieces.specs.Over.{IsMovedTo}
use Rattle.pieces.specs.Streaming.{before_time}
use Rattle.pieces.specs.Windows.{BestOver}
use Rattle.pieces.specs.declared.reach.Way.{Way}
use Rattle.stl_syntax.specs.Trace.{Trace, start, stop as last_of}
use Rattle.online_robust.specs.Slides.{Course, IsBestStretch, IsStretchOf, IsWayOf, IsWhole, WithPoint, input, reach_of}
use Rattle.online_robust.specs.Told.{IsMovedBy}
use Rattle.online_robust.specs.Windows.{Holds, IsOwned, best_over}
use Rattle.online_robust.specs.declared.slide.Window.{Window}
use Rattle.online_robust.proofs.SlideTold.{best_bounded, best_seen}

-- a window at one time by two pairs
holds_same : (from to : Rational) (w : Window) (t u s : Rational) → t ≈ u → Holds from to w t s → Holds from to w u s
holds_same from to w t u s e h = record {
  inside = h.inside;
  begins = precedes_after w.low_in (shifted u w.low) (shifted t w.low) s (ge_of_same (same_shifted w.low e)) h.begins;
  ends = precedes_before w.high_in s (shifted t w.high) (shifted u w.high) h.ends (le_of_same (same_shifted w.high e));
}

-- the best at one time by two pairs
pub best_same : (tr : Trace) (P : Function) (w : Window) (t u : Rational) (v r : Extended) → t ≈ u → v ≈ᵉ r → best_over tr P w t v → best_over tr P w u r
best_same tr P w t u v r e f h = by_side w.side h
  where
    by_side : (side : Side) → IsBestOver side minus_infinity infinity (Holds (start tr) (last_of tr) w t) P v
        → IsBestOver side minus_infinity infinity (Holds (start tr) (last_of tr) w u) P r
    by_side Greatest h = sup_value_same v r f (sup_alike minus_infinity v
        (λ x p. (p.0, holds_same (start tr) (last_of tr) w t u p.0 e p.1, p.2))
        (λ x p. (p.0, holds_same (start tr) (last_of tr) w u t p.0 (same_sym e) p.1, p.2)) h)
    by_side Least h = inf_value_same v r f (inf_alike infinity v
        (λ x p. (p.0, holds_same (start tr) (last_of tr) w t u p.0 e p.1, p.2))
        (λ x p. (p.0, holds_same (start tr) (last_of tr) w u t p.0 (same_sym e) p.1, p.2)) h)

module _ (x : Course) (way : Way) (is_way : IsWayOf x.window way) (s : Chain Margin) (whole_is : IsWhole x way s) where
  -- no low end that lies before any time comes into the domain
  no_low : x.window.low ≡ neg_ℤ (pos 4294967296) → s.from.at ≤ʳ shifted (place way.to).at x.window.low → ⊥
  no_low is h = not_lt_of_le (le_trans whole_is.can.can.first h) (subst (λ k. shifted (place way.to).at k <ʳ whole (pos 0)) (sym is)
      (lt_of_le_of_lt (le_of_same (same_shifted (neg_ℤ (pos 4294967296)) is_way.to.0)) (record { lt = omega (arith, ints) })))

  by_base : (own : ℕ) → IsOwned x.window own → (p q : Margin) → IsMovedBy x.reach q
      → (margin_base p ≡ margin_base q -ℤ x.window.high)
      ⊎ ((margin_base p ≡ margin_base q -ℤ x.window.low) × (s.from.at ≤ʳ shifted (place way.to).at x.window.low)) → IsMovedBy (x.reach + own) p
  by_base own owned p q moved (inl e) =
      let low = moved.0 in let high = moved.1 in let f = owned.high_from in let t = owned.high_to in
      (omega (arith, ints, e, low, f, t), omega (arith, ints, e, high, f, t))
  by_base own owned p q moved (inr (e, inside)) = by_low owned.low
    where
      by_low : ((neg_ℤ (pos own) ≤ℤ x.window.low) × (x.window.low ≤ℤ pos own)) ⊎ (x.window.low ≡ neg_ℤ (pos 4294967296)) → IsMovedBy (x.reach + own) p
      by_low (inl (f, t)) =
          let low = moved.0 in let high = moved.1 in (omega (arith, ints, e, low, f, t), omega (arith, ints, e, high, f, t))
      by_low (inr is) = absurd (no_low is inside)

  -- a shape that the window has moved is moved by no more than its offsets
  pub moved_own : (own : ℕ) → IsOwned x.window own → (p : Margin) → IsMovedTo margin_shape s (reach_of x.window) (place way.to) p
      → IsMovedBy (x.reach + own) p
  moved_own own owned p h = by_ramp (is_ramp p) refl
    where
      by_ramp : (b : Bool) → is_ramp p ≡ b → IsMovedBy (x.reach + own) p
      by_ramp true e = let (q, has, m, base) = h e in by_base own owned p q (whole_is.moved q has) base
      by_ramp false e = let z = others_base p e in (omega (arith, ints, z), omega (arith, ints, z))

  module _ (told : Chain Margin) (from : Rational) (point : Margin) (ks : List (Knot Margin))
      (tells : Tells margin_shape (BestOver margin_shape s (reach_of x.window) x.window.side) told.from (before_time x.to) told)
      (bases : (p : Margin) → HasShape told p → IsMovedTo margin_shape s (reach_of x.window) (place way.to) p)
      (there : BestOver margin_shape s (reach_of x.window) x.window.side x.to (value_at (margin_function point) x.to))
      (base : IsMovedTo margin_shape s (reach_of x.window) (place way.to) point)
      (is : IsStretchOf told x.to point ks) (begins : told.from.at ≈ from) where
    by_part : (t : Rational) (v : Extended) → WithPoint told x.to point t v → best_over x.trace (input x) x.window t v × IsBounded (2 ^ 31) v
    by_part t v (inl h) =
        let k = (tells.worth t v).0 h in
        let by : t ≤ʳ x.to = le_of_lt k.1 in
        (best_seen x way s whole_is t by v k.2, best_bounded x way s whole_is t by v k.2)
    by_part t v (inr (at, h)) =
        let e : v ≈ᵉ value_at (margin_function point) x.to = transᵉ h (value_same (margin_function point) at) in (
          best_same x.trace (input x) x.window x.to t (value_at (margin_function point) x.to) v (same_sym at) (symᵉ e)
              (best_seen x way s whole_is x.to (le_refl x.to) (value_at (margin_function point) x.to) there),
          bounded_same (2 ^ 31) v (value_at (margin_function point) x.to) e
              (best_bounded x way s whole_is x.to (le_refl x.to) (value_at (margin_function point) x.to) there),
        )

    -- it tells the best over the input
    pub best_stretch : IsBestStretch x from ks
    best_stretch = record {
      signal = is.signal;
      worth = λ t v h. by_part t v (is.worth t v h);
      begins = same_trans is.begins begins;
      ends = is.ends;
      moved = λ own owned p has. by_shape own owned p (is.shapes p has);
    }
      where
        by_shape : (own : ℕ) → IsOwned x.window own → (p : Margin) → HasShape told p ⊎ (p ≡ point) → IsMovedBy (x.reach + own) p
        by_shape own owned p (inl h) = moved_own own owned p (bases p h)
        by_shape own owned p (inr e) = moved_own own owned p (subst (λ q. IsMovedTo margin_shape s (reach_of x.window) (place way.to) q) (sym e) base)
