-- What the trend of a function says of its later values, for a side.
use Rattle.std.proofs.Common.{◌≡◌, ◌⊎◌, inl, inr, refl}
use Rattle.std.specs.declared.cmp.Ordering.{Ordering}
use Rattle.std.specs.declared.cmp.Ordering.TheVariants.{Less, Equal, Greater}
use Rattle.rational.specs.Time.{Rational, ◌≤ʳ◌, ◌<ʳ◌}
use Rattle.rational.specs.Extended.{Affine, value_at, ◌≤ᵉ◌}
use Rattle.rational.specs.Affine.{Grows, IsSteady, Shrinks}
use Rattle.rational.proofs.AffineLemmas.{value_same}
use Rattle.rational.proofs.ExtendedLemmas.{le_of_ltᵉ}
use Rattle.rational.proofs.Order.{le_or_lt, same_of_le}
use Rattle.pl_signal.specs.declared.joining.Side.{Side}
use Rattle.pl_signal.specs.declared.joining.Side.TheVariants.{Least, Greatest}
use Rattle.pieces.specs.Best.{GetsNoBetter, GetsNoWorse, IsTrendFor}
use Rattle.pieces.proofs.Bests.{nw_same}

-- a function without a trend is steady
pub steady_of : (side : Side) (f : Affine) → IsTrendFor side Equal f → IsSteady f
steady_of Greatest f h = h
steady_of Least f h = h

grown : (f : Affine) (t u : Rational) → Grows f → t ≤ʳ u → value_at f t ≤ᵉ value_at f u
grown f t u h order = by_order (le_or_lt u t)
  where
    by_order : (u ≤ʳ t) ⊎ (t <ʳ u) → value_at f t ≤ᵉ value_at f u
    by_order (inl k) = (value_same f (same_of_le order k)).at_most
    by_order (inr k) = le_of_ltᵉ (value_at f t) (value_at f u) (h t u k)

shrunk : (f : Affine) (t u : Rational) → Shrinks f → t ≤ʳ u → value_at f u ≤ᵉ value_at f t
shrunk f t u h order = by_order (le_or_lt u t)
  where
    by_order : (u ≤ʳ t) ⊎ (t <ʳ u) → value_at f u ≤ᵉ value_at f t
    by_order (inl k) = (value_same f (same_of_le order k)).at_least
    by_order (inr k) = le_of_ltᵉ (value_at f u) (value_at f t) (h t u k)

-- one that goes towards better values gets no worse
pub no_worse_of : (side : Side) (f : Affine) → IsTrendFor side Greater f → GetsNoWorse side f
no_worse_of Greatest f h t u order = record { order = grown f t u h order }
no_worse_of Least f h t u order = record { order = shrunk f t u h order }

-- and one that goes away from them no better
pub no_better_of : (side : Side) (f : Affine) → IsTrendFor side Less f → GetsNoBetter side f
no_better_of Greatest f h t u order = record { order = shrunk f t u h order }
no_better_of Least f h t u order = record { order = grown f t u h order }

-- what does not go towards better values gets no better
pub falls_of : (side : Side) (o : Ordering) (f : Affine) → IsTrendFor side o f → ¬ (o ≡ Greater) → GetsNoBetter side f
falls_of side Less f h n = no_better_of side f h
falls_of side Equal f h n = λ t u order. nw_same side (steady_of side f h t u)
falls_of side Greater f h n = absurd (n refl)

-- and what does not go away from them no worse
pub rises_of : (side : Side) (o : Ordering) (f : Affine) → IsTrendFor side o f → ¬ (o ≡ Less) → GetsNoWorse side f
rises_of side Less f h n = absurd (n refl)
rises_of side Equal f h n = λ t u order. nw_same side (steady_of side f h u t)
rises_of side Greater f h n = no_worse_of side f h
