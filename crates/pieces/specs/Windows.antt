-- A window that moves with the time over a chain of pieces: what is seen from a time, the best of it, and what has been met.
use Rattle.std.specs.Prelude.{◌≡◌, ◌⊎◌, ◌^◌, ℕ, Option, Bool, ℤ, ◌≤ℤ◌, ◌<ℤ◌, ◌-ℤ◌, pos, neg_ℤ, not, IsTrue}
use Rattle.rational.specs.Rational.{IsWithin, add, whole}
use Rattle.rational.specs.Time.{Rational, ◌≤ʳ◌, ◌≈◌}
use Rattle.rational.specs.Extended.{Affine, Extended, value_at}
use Rattle.rational.specs.Places.{Place, After, Upto, Before, AtMost}
use Rattle.rational.specs.Windows.{Function, Ahead, Behind, IsSupOver, IsInfOver}
use Rattle.frac128.specs.Cuts.{place}
use Rattle.value_laws.specs.Members.{ShapeOf}
use Rattle.pl_signal.specs.declared.joining.Side.{Side}
use Rattle.pieces.specs.declared.piece.Piece.{Piece}
use Rattle.pieces.specs.declared.reach.Reach.{Reach}
use Rattle.pieces.specs.declared.reach.Way.{Way}
use Rattle.pieces.specs.declared.sliding.Sliding.{Sliding}
use Rattle.pieces.specs.Best.{IsBestOver, GetsNoBetter, GetsNoWorse}
use Rattle.pieces.specs.Chains.{Chain, end, stop, HasShape, IsLimited, IsNormal, IsWorth, Rise}
use Rattle.pieces.specs.Steps.{AreSteps, StepsGive}
use Rattle.pieces.specs.Sliding.{last_end}

module _ (from to : Rational) (F : Function) where
  -- at each time the Sup over the window from a to b ahead, as far as that lies in the domain
  abbrev pub SupAhead : Extended → ℕ → ℕ → Bool → Bool → Function
  SupAhead lowest a b a_in b_in t r = IsSupOver lowest (Ahead from to a b a_in b_in t) F r

  -- the Inf
  abbrev pub InfAhead : Extended → ℕ → ℕ → Bool → Bool → Function
  InfAhead highest a b a_in b_in t r = IsInfOver highest (Ahead from to a b a_in b_in t) F r

  -- at each time the Sup over the window from b to a behind; with no b it begins where the domain does
  abbrev pub SupBehind : Extended → ℕ → Option ℕ → Bool → Bool → Function
  SupBehind lowest a b a_in b_in t r = IsSupOver lowest (Behind from to a b a_in b_in t) F r

  -- the Inf
  abbrev pub InfBehind : Extended → ℕ → Option ℕ → Bool → Bool → Function
  InfBehind highest a b a_in b_in t r = IsInfOver highest (Behind from to a b a_in b_in t) F r

-- where a window begins that is seen from t, with that end in or out, and where one ends
abbrev pub low_place : ℤ → Bool → Rational → Place
low_place k inside t = record { at = add t (whole k); after = not inside }

abbrev pub high_place : ℤ → Bool → Rational → Place
high_place k inside t = record { at = add t (whole k); after = inside }

-- from t the time u is seen: it lies behind the window's low end, and before its high end
abbrev pub Sees : Reach → Rational → Rational → Type 0
Sees over t u = After (low_place over.low over.low_in t) u × Upto (high_place over.high over.high_in t) u

-- the offsets are no longer than any domain, and in order, both ahead or both behind
pub record IsSmall (over : Reach) : Type 0 where
  pub from : neg_ℤ (pos (2 ^ 32)) ≤ℤ over.low
  pub to : over.high ≤ℤ pos (2 ^ 32)
  pub order : over.low ≤ℤ over.high
  pub aside : (pos 0 ≤ℤ over.low) ⊎ (over.high ≤ℤ pos 0)

-- some time may lie in the window
abbrev pub IsNonEmpty : Reach → Type 0
IsNonEmpty over = (over.low <ℤ over.high) ⊎ ((over.low ≡ over.high) × IsTrue over.low_in × IsTrue over.high_in)

-- the window may climb a function: it gets no worse, or the window sees one time
abbrev pub MayClimb : Reach → Side → Affine → Type 0
MayClimb over side f = GetsNoWorse side f ⊎ (over.low ≡ over.high)

-- up to the place e, and no further, the window on its way begins before the place c, in the domain
pub record IsLeft (way : Way) (c e : Place) : Type 0 where
  pub upto : (t : Rational) → Upto e t → Before (low_place way.over.low way.over.low_in t) c × Upto (place way.to) t
  pub after : (t : Rational) → After e t → Upto (place way.to) t → ¬ Before (low_place way.over.low way.over.low_in t) c
  pub within : IsWithin (2 ^ 34) e.at

-- up to the place e, and no further, it ends no later than the place c, in the domain
pub record IsReached (way : Way) (c e : Place) : Type 0 where
  pub upto : AtMost e (place way.to)
  pub before : (t : Rational) → Upto e t → ¬ Before c (high_place way.over.high way.over.high_in t)
  pub after : (t : Rational) → After e t → Upto (place way.to) t → Before c (high_place way.over.high way.over.high_in t)
  pub within : IsWithin (2 ^ 34) e.at

module _ {P : Type 0} (shape : ShapeOf P) where
  -- each base is a time from -2^32 to 2^33
  abbrev pub AreNear : Chain P → Type 0
  AreNear chain = (p : P) → HasShape chain p → (neg_ℤ (pos (2 ^ 32)) ≤ℤ shape.base p) × (shape.base p ≤ℤ pos (2 ^ 33))

  -- a chain over which a window can move
  pub record CanSlide (chain : Chain P) (over : Reach) : Type 0 where
    pub rising : Rise chain.from chain.pieces
    pub limited : IsLimited shape chain
    pub near : AreNear chain
    pub first : whole (pos 0) ≤ʳ chain.from.at
    pub last : (stop chain).at ≤ʳ whole (pos (2 ^ 32))
    pub small : IsSmall over

  -- where p moves it is q moved by an offset of the window, by the low one only where that leads from the time `here` to the other
  abbrev pub IsAtEnd : Reach → P → Rational → Rational → P → Type 0
  IsAtEnd over q time here p = IsTrue (shape.moves p) → IsTrue (shape.moves q)
      × (((shape.base p ≡ shape.base q -ℤ over.low) × (add here (whole over.low) ≈ time)) ⊎ (shape.base p ≡ shape.base q -ℤ over.high))

  -- the place is where the piece from c begins, and it gets no better, or where it ends, and it gets no worse
  abbrev pub IsBestEnd : Side → Place → Piece P → Place → Type 0
  IsBestEnd side c p best =
      ((best ≡ c) × GetsNoBetter side (shape.function p.shape)) ⊎ ((best ≡ end p) × GetsNoWorse side (shape.function p.shape))

  -- the chain has the values of the piece from the place c until the piece ends
  pub record IsPieceFrom (chain : Chain P) (c : Place) (p : Piece P) : Type 0 where
    pub order : Before c (end p)
    pub begins : AtMost chain.from c
    pub ends : AtMost (end p) (stop chain)
    pub worth : (t : Rational) → After c t → Upto (end p) t → IsWorth shape chain t (value_at (shape.function p.shape) t)
    pub has : HasShape chain p.shape

  -- at each time the best of what is seen
  abbrev pub BestOver : Chain P → Reach → Side → Function
  BestOver chain over side t r = IsBestOver side shape.lowest shape.highest (Sees over t) (IsWorth shape chain) r

  module _ (chain : Chain P) (way : Way) where
    -- at each time the best of what the window on its way sees
    abbrev pub Best : Function
    Best t r = BestOver chain way.over way.side t r

    -- and the best of what is seen before a place
    abbrev pub BestTo : Place → Function
    BestTo met t r = IsBestOver way.side shape.lowest shape.highest (λ u. Sees way.over t u × Upto met u) (IsWorth shape chain) r

    -- what the window has told is the best of what is seen, and its steps give the best of what is seen before the place `met`, up to where
    -- nothing is seen before the place `left`; as far as it has told, its high end has come no further than the place `reach`
    pub record Keeps (met reach left : Place) (s : Sliding P) : Type 0 where
      pub normal : IsNormal shape s.out
      pub on : AtMost chain.from (stop s.out)
      pub upto : AtMost (stop s.out) (stop chain)
      pub told : (t : Rational) (v : Extended) → IsWorth shape s.out t v → Best t v
      pub steps : AreSteps shape way.side (stop s.out) s.steps.items
      pub gives : (t : Rational) (v : Extended) → StepsGive shape way.side (stop s.out) s.steps.items t v → BestTo met t v
      pub sees : (t : Rational) (v : Extended) → StepsGive shape way.side (stop s.out) s.steps.items t v
          → Before (low_place way.over.low way.over.low_in t) left × Upto (place way.to) t
      pub none : (t : Rational) → After (last_end s) t → Upto (place way.to) t → (u : Rational) (v : Extended) → Sees way.over t u → Upto left u
          → ¬ IsWorth shape chain u v
      pub reached : AtMost (stop s.out) chain.from
          ⊎ ((t : Rational) → Upto (stop s.out) t → ¬ Before reach (high_place way.over.high way.over.high_in t))

    -- it has told no further than to where its high end comes to the place before which all is met
    abbrev pub Stands : Place → Place → Sliding P → Type 0
    Stands met left s = Keeps met met left s

    -- from where the window has told on, its high end lies behind the place
    abbrev pub HasEntered : Place → Sliding P → Type 0
    HasEntered met s = (t : Rational) → After (stop s.out) t → Upto (place way.to) t → Before met (high_place way.over.high way.over.high_in t)
