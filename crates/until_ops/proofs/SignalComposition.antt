-- The composition of until and since for signals.
use Rattle.std.proofs.Common.{List, [], ◌∷◌, inl, inr, arith}
use Rattle.rational.specs.Time.{Rational, Within, IsIn, closed}
use Rattle.rational.specs.Extended.{Extended, ◌≤ᵉ◌, value_at}
use Rattle.rational.specs.Windows.{IsInfOver}
use Rattle.rational.proofs.ExtendedLemmas.{le_transᵉ}
use Rattle.rational.proofs.WindowLemmas.{inf_over_alike}
use Rattle.value_laws.specs.Members.{ShapeOf, ShapeLaws}
use Rattle.pl_signal.specs.declared.knot.Knot.{Knot}
use Rattle.pl_signal.specs.Knots.{IsSignal, IsWorth, start, stop, time}
use Rattle.pl_signal.proofs.SupLemmas.{signal_inf}
use Rattle.rational.specs.UntilParts.{HasUntilToEnd, HasSinceFromStart, UntilIsComposed, SinceIsComposed}
use Rattle.rational.proofs.UntilComposition.{HasInfs, until_is_composed, since_is_composed}

module _ {P : Type 0} (shape : ShapeOf P) (laws : ShapeLaws shape) where
  infs : (p : List (Knot P)) (s u : Rational) → (y : Extended) × IsInfOver shape.highest (Within s u) (IsWorth shape p) y
  infs p s u =
      let f = signal_inf shape laws.highest_is_greatest p (closed s u) in (
        f.0,
        inf_over_alike (IsIn (closed s u)) (Within s u) (IsWorth shape p) shape.highest f.0 (λ t h. record { above = h.above; below = h.below })
            (λ t h. record { above = h.above; below = h.below }) f.1,
      )

  -- the lowest value is at most the highest, since a signal has a shape
  order : (p : List (Knot P)) → IsSignal shape p → shape.lowest ≤ᵉ shape.highest
  order [] signal = absurd (omega (arith, signal.some))
  order (k ∷ knots) signal = le_transᵉ shape.lowest (value_at (shape.function k.point) (time k)) shape.highest (laws.lowest_is_least k.point (time k))
      (laws.highest_is_greatest k.point (time k))

  -- a signal is worth at least the lowest value
  pub at_least_lowest : (p : List (Knot P)) (s : Rational) (v : Extended) → IsWorth shape p s v → shape.lowest ≤ᵉ v
  at_least_lowest [] s v h = absurd h
  at_least_lowest (k ∷ knots) s v (inl h) = le_transᵉ shape.lowest (value_at (shape.function k.point) s) v (laws.lowest_is_least k.point s) h.worth.at_least
  at_least_lowest (k ∷ []) s v (inr (inl h)) = absurd h
  at_least_lowest (k ∷ n ∷ knots) s v (inr (inl h)) =
      le_transᵉ shape.lowest (value_at (shape.function k.after) s) v (laws.lowest_is_least k.after s) h.worth.at_least
  at_least_lowest (k ∷ knots) s v (inr (inr h)) = at_least_lowest knots s v h

  -- so a signal has an Inf over each stretch of its domain
  has_infs : (p : List (Knot P)) → IsSignal shape p → HasInfs shape.lowest shape.highest (IsWorth shape p) (start p) (stop p)
  has_infs p signal = record { order = order p signal; low = λ s v w h. at_least_lowest p s v h; infs = λ s u f g k. infs p s u }

  -- a bounded until of signals is composed
  pub until_of_signals : (p q : List (Knot P)) → IsSignal shape p → HasUntilToEnd shape.lowest shape.highest (start p) (stop p) (IsWorth shape p)
      (IsWorth shape q)
      → UntilIsComposed shape.lowest shape.highest (start p) (stop p) (IsWorth shape p) (IsWorth shape q)
  until_of_signals p q signal has = until_is_composed (has_infs p signal) has

  -- so for since
  pub since_of_signals : (p q : List (Knot P)) → IsSignal shape p → HasSinceFromStart shape.lowest shape.highest (start p) (stop p) (IsWorth shape p)
      (IsWorth shape q)
      → SinceIsComposed shape.lowest shape.highest (start p) (stop p) (IsWorth shape p) (IsWorth shape q)
  since_of_signals p q signal has = since_is_composed (has_infs p signal) has
