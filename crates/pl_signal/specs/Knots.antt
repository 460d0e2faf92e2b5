-- A signal as its knots: what it is worth at a time, from where to where it goes, and when a knot could be left out.
use Rattle.std.specs.Prelude.{◌≡◌, ◌<◌, ◌⊎◌, List, [], ◌∷◌, length, pos}
use Rattle.rational.specs.Time.{Rational, ◌<ʳ◌, ◌≈◌, whole}
use Rattle.rational.specs.Extended.{Extended, ◌≈ᵉ◌, value_at, Passes}
use Rattle.rational.specs.Affine.{AreSame}
use Rattle.frac128.specs.Value.{value}
use Rattle.value_laws.specs.Members.{ShapeOf}
use Rattle.pl_signal.specs.declared.knot.Knot.{Knot}

module _ {P : Type 0} where
  -- the time of a knot
  abbrev pub time : Knot P → Rational
  time k = value k.time

  -- the time of the first knot
  abbrev pub start : List (Knot P) → Rational
  start [] = whole (pos 0)
  start (k ∷ knots) = time k

  -- the time of the last knot
  abbrev pub stop : List (Knot P) → Rational
  stop [] = whole (pos 0)
  stop (k ∷ []) = time k
  stop (k ∷ n ∷ knots) = stop (n ∷ knots)

  -- the shape stands in a knot, at its time or after it
  abbrev pub HasShape : List (Knot P) → P → Type 0
  HasShape [] p = ⊥
  HasShape (k ∷ knots) p = (p ≡ k.point) ⊎ (p ≡ k.after) ⊎ HasShape knots p

  -- something holds of each knot and the knots after it
  abbrev pub Each : (Knot P → List (Knot P) → Type 0) → List (Knot P) → Type 0
  Each Q [] = Unit {0}
  Each Q (k ∷ knots) = Q k knots × Each Q knots

  -- the knot comes before the next one
  abbrev pub ComesBefore : Knot P → List (Knot P) → Type 0
  ComesBefore k [] = Unit {0}
  ComesBefore k (n ∷ knots) = time k <ʳ time n

  -- after the last knot nothing comes; its own shape stands there
  abbrev pub EndsAlike : Knot P → List (Knot P) → Type 0
  EndsAlike k [] = k.after ≡ k.point
  EndsAlike k (n ∷ knots) = Unit {0}

module _ {P : Type 0} (shape : ShapeOf P) where
  -- t is the time of the knot, and v the value of its point
  pub record IsAt (k : Knot P) (t : Rational) (v : Extended) : Type 0 where
    pub when : t ≈ value k.time
    pub worth : Passes (shape.function k.point) t v

  -- t lies strictly between the two knots, and v is the value of the shape between them
  pub record IsBetween (k n : Knot P) (t : Rational) (v : Extended) : Type 0 where
    pub after : time k <ʳ t
    pub before : t <ʳ time n
    pub worth : Passes (shape.function k.after) t v

  -- v is the value at t on the open gap after the knot, if a knot follows
  abbrev pub IsInGap : Knot P → List (Knot P) → Rational → Extended → Type 0
  IsInGap k [] t v = ⊥
  IsInGap k (n ∷ knots) t v = IsBetween k n t v

  -- the signal of these knots is worth v at t
  abbrev pub IsWorth : List (Knot P) → Rational → Extended → Type 0
  IsWorth [] t v = ⊥
  IsWorth (k ∷ knots) t v = IsAt k t v ⊎ IsInGap k knots t v ⊎ IsWorth knots t v

  -- the shape before the knot, its point and the shape after it are of one function
  pub record CanBeLeftOut (before k : Knot P) : Type 0 where
    pub here : value_at (shape.function before.after) (time k) ≈ᵉ value_at (shape.function k.point) (time k)
    pub on : AreSame (shape.function before.after) (shape.function k.after)

  -- the next knot, if it is not the last, cannot be left out
  abbrev pub NextIsNeeded : Knot P → List (Knot P) → Type 0
  NextIsNeeded before [] = Unit {0}
  NextIsNeeded before (k ∷ []) = Unit {0}
  NextIsNeeded before (k ∷ n ∷ knots) = ¬ CanBeLeftOut before k

  -- a knot in its place
  pub record IsKnot (k : Knot P) (knots : List (Knot P)) : Type 0 where
    pub rising : ComesBefore k knots
    pub needed : NextIsNeeded k knots
    pub ends : EndsAlike k knots

  -- there is a knot, the times rise strictly, and no knot but the first and the last can be left out
  pub record IsSignal (knots : List (Knot P)) : Type 0 where
    pub some : 0 < length knots
    pub each : Each IsKnot knots
