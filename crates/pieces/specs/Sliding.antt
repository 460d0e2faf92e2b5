-- A window on its way: what it has told, and the steps that it will give; how it goes on under a shape that gets no worse.
use Rattle.std.specs.Prelude.{◌≡◌, ◌⊎◌, ◌≤◌, ◌^◌, ℕ, []}
use Rattle.rational.specs.Time.{Rational, ◌≤ʳ◌, HasDenominator}
use Rattle.rational.specs.Extended.{Extended, value_at, Passes}
use Rattle.rational.specs.Affine.{MeetAlone}
use Rattle.rational.specs.Places.{Place, After, Upto, AtMost}
use Rattle.frac128.specs.Value.{value}
use Rattle.frac128.specs.Cuts.{place}
use Rattle.frac128.specs.declared.cut.Cut.{Cut}
use Rattle.value_laws.specs.Members.{ShapeOf}
use Rattle.pl_signal.specs.declared.joining.Side.{Side}
use Rattle.pl_signal.specs.declared.faults.WidePair.{WidePair}
use Rattle.pl_signal.specs.declared.faults.WidePair.TheVariants.{Cross, Value}
use Rattle.pieces.specs.declared.steps.Step.{Step}
use Rattle.pieces.specs.declared.sliding.Sliding.{Sliding}
use Rattle.pieces.specs.Best.{IsBetter}
use Rattle.pieces.specs.Chains.{Chain, stop, HasShape, IsNormal, IsWorth}
use Rattle.pieces.specs.Steps.{AreSteps, CountsInside, Gives, IsOfStep, IsOfSteps, StepsGive, steps_end}

module _ {P : Type 0} where
  -- where the window's steps end
  abbrev pub last_end : Sliding P → Place
  last_end s = steps_end (stop s.out) s.steps.items

module _ {P : Type 0} (shape : ShapeOf P) where
  -- two shapes that count meet alone between the times, at one that needs the denominator
  pub record IsCross (Has : Rational → P → Type 0) (from to : Rational) (p q : P) (a b : Rational) (den : ℕ) : Type 0 where
    pub time : Rational
    pub meet : MeetAlone (shape.function p) (shape.function q) a b time
    pub above : from ≤ʳ a
    pub below : b ≤ʳ to
    pub first : Has time p
    pub second : Has time q
    pub denominator : HasDenominator time den
    pub wide : 2 ^ 60 ≤ den

  -- only such a pair is refused, and no value
  abbrev pub IsCrossFault : (Rational → P → Type 0) → Rational → Rational → WidePair P → Type 0
  IsCrossFault Has from to (Cross p q a b den) = IsCross Has from to p q (value a) (value b) den
  IsCrossFault Has from to (Value p at den) = ⊥

module _ {P : Type 0} (shape : ShapeOf P) (side : Side) where
  -- the new chain is the old one up to where that ends, and from there on the better of what the step gives and of a shape
  pub record IsWritten (old : Chain P) (s : Step P) (gap : P) (until : Cut) (new : Chain P) : Type 0 where
    pub normal : IsNormal shape new
    pub begins : new.from ≡ old.from
    pub ends : stop new ≡ place until
    pub worth : (t : Rational) (v : Extended) → IsWorth shape new t v → IsWorth shape old t v ⊎ (After (stop old) t × Upto (place until) t
        × ((x : Extended) × Gives shape side s t x × IsBetter side x (value_at (shape.function gap) t) v))
    pub shapes : (r : P) → HasShape new r → HasShape old r ⊎ IsOfStep s r ⊎ (r ≡ gap)

  -- v is the better of what the steps give and of a shape, and behind the last step the shape's value
  abbrev pub IsBestWith : Sliding P → P → Rational → Extended → Type 0
  IsBestWith s gap t v =
      ((x : Extended) × StepsGive shape side (stop s.out) s.steps.items t x × IsBetter side x (value_at (shape.function gap) t) v)
      ⊎ (After (last_end s) t × Passes (shape.function gap) t v)

  -- the window has told more: the better of what its steps gave and of the shape; the steps that are left give what they gave
  pub record HasTold (gap : P) (old new : Sliding P) : Type 0 where
    pub normal : IsNormal shape new.out
    pub begins : new.out.from ≡ old.out.from
    pub on : AtMost (stop old.out) (stop new.out)
    pub worth : (t : Rational) (v : Extended) → IsWorth shape new.out t v
        → IsWorth shape old.out t v ⊎ (After (stop old.out) t × Upto (stop new.out) t × IsBestWith old gap t v)
    pub steps : AreSteps shape side (stop new.out) new.steps.items
    pub gives : (t : Rational) (v : Extended) → StepsGive shape side (stop new.out) new.steps.items t v
        → StepsGive shape side (stop old.out) old.steps.items t v
    pub left : (t : Rational) → After (last_end new) t → After (last_end old) t
    pub last : (last_end new ≡ last_end old) ⊎ (new.steps.items ≡ [])
    pub shapes : (p : P) → HasShape new.out p → HasShape old.out p ⊎ IsOfSteps old.steps.items p ⊎ (p ≡ gap)
    pub fewer : (p : P) → IsOfSteps new.steps.items p → IsOfSteps old.steps.items p
    pub counts : (tau : Rational) (p : P) → CountsInside (stop new.out) new.steps.items tau p → CountsInside (stop old.out) old.steps.items tau p

  -- what is refused on the way is a crossing of two shapes that count
  abbrev pub IsToldFault : P → Place → Sliding P → WidePair P → Type 0
  IsToldFault gap until old pair =
      IsCrossFault shape (λ tau p. CountsInside (stop old.out) old.steps.items tau p ⊎ (p ≡ gap)) (stop old.out).at until.at pair
