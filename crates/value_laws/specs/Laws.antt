-- The laws of shapes, said of what each shape stands for: an affine or a constantly infinite function of time.
use Rattle.std.specs.Prelude.{◌⊎◌}
use Rattle.rational.specs.Rational.{Rational, ◌<ʳ◌, add}
use Rattle.rational.specs.Extended.{Extended, ◌≤ᵉ◌, ◌<ᵉ◌, ◌≈ᵉ◌, opposite, Affine, value_at}
use Rattle.rational.specs.Affine.{AreSame, IsSteady}

-- a function that is minus f at every time; one that is f at a later time
abbrev pub IsOpposite : Affine → Affine → Type 0
IsOpposite f g = (t : Rational) → value_at g t ≈ᵉ opposite (value_at f t)

-- one that is at each time what f is `by` later
abbrev pub IsShifted : Affine → Rational → Affine → Type 0
IsShifted f by g = (t : Rational) → value_at g t ≈ᵉ value_at f (add t by)

-- negation is exact: done twice it gives the function back, and it turns the order over
abbrev pub NegationIsExact : Type 0
NegationIsExact =
    (f g : Affine) → IsOpposite f g
    → IsOpposite g f × ((h k : Affine) → IsOpposite h k → (t : Rational) → value_at f t ≤ᵉ value_at h t → value_at k t ≤ᵉ value_at g t)

-- moves are exact: a move and the move back give the function back
abbrev pub MovesAreExact : Type 0
MovesAreExact = (f g h : Affine) (by back : Rational) → IsShifted f by g → IsShifted g back h → IsShifted f (add back by) h

-- the order at a time is total
abbrev pub OrderIsTotal : Type 0
OrderIsTotal =
    (f g : Affine) (t : Rational)
    → (value_at f t <ᵉ value_at g t) ⊎ (value_at f t ≈ᵉ value_at g t) ⊎ (value_at g t <ᵉ value_at f t)

-- two functions that meet at two times are one
abbrev pub MeetOnce : Type 0
MeetOnce = (f g : Affine) (t u : Rational) → t <ʳ u → value_at f t ≈ᵉ value_at g t → value_at f u ≈ᵉ value_at g u → AreSame f g

-- on an open interval the value lies between those at the ends
abbrev pub LiesBetween : Type 0
LiesBetween =
    (f : Affine) (l t r : Rational) → l <ʳ t → t <ʳ r
    → ((value_at f l ≤ᵉ value_at f t) × (value_at f t ≤ᵉ value_at f r)) ⊎ ((value_at f r ≤ᵉ value_at f t) × (value_at f t ≤ᵉ value_at f l))

-- and comes as close to them as one likes: below each end's value there is one above any bound, and above it one below
abbrev pub ComesClose : Type 0
ComesClose =
    (f : Affine) (l r : Rational) (w : Extended) → l <ʳ r
    → (w <ᵉ value_at f l → (t : Rational) × (l <ʳ t) × (t <ʳ r) × (w <ᵉ value_at f t))
    × (w <ᵉ value_at f r → (t : Rational) × (l <ʳ t) × (t <ʳ r) × (w <ᵉ value_at f t))
    × (value_at f l <ᵉ w → (t : Rational) × (l <ʳ t) × (t <ʳ r) × (value_at f t <ᵉ w))
    × (value_at f r <ᵉ w → (t : Rational) × (l <ʳ t) × (t <ʳ r) × (value_at f t <ᵉ w))

-- what is fixed at a time is constant
abbrev pub FixedIsConstant : Type 0
FixedIsConstant = (f g : Affine) (t : Rational) → ((u : Rational) → value_at g u ≈ᵉ value_at f t) → IsSteady g
