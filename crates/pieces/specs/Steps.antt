-- Steps down one after another, each up to a place: what they give at a time, and what becomes of them when a constant counts with them.
use Rattle.std.specs.Prelude.{◌≡◌, ◌⊎◌, ◌^◌, List, [], ◌∷◌, ◌++◌, Option, Some, None}
use Rattle.rational.specs.Rational.{IsWithin}
use Rattle.rational.specs.Time.{Rational, ◌≤ʳ◌, ◌<ʳ◌}
use Rattle.rational.specs.Extended.{Extended, value_at, Passes}
use Rattle.rational.specs.Affine.{HasBoundedLevel}
use Rattle.rational.specs.Places.{Place, After, Upto, Before, AtMost, Same}
use Rattle.frac128.specs.Value.{value}
use Rattle.frac128.specs.Cuts.{place}
use Rattle.value_laws.specs.Members.{ShapeOf}
use Rattle.pl_signal.specs.declared.joining.Side.{Side}
use Rattle.pieces.specs.declared.steps.Step.{Step}
use Rattle.pieces.specs.declared.steps.Lasting.{Lasting}
use Rattle.pieces.specs.declared.steps.Lasting.TheVariants.{Hidden, Whole, Part}
use Rattle.pieces.specs.Best.{IsBetter, IsNoWorse, FallsFrom, LevelFrom}

module _ {P : Type 0} where
  -- where a step ends
  abbrev pub step_end : Step P → Place
  step_end s = place s.until

  -- where the last of the steps ends that begin at b: at b itself, if there is none
  abbrev pub steps_end : Place → List (Step P) → Place
  steps_end b [] = b
  steps_end b (s ∷ ss) = steps_end (step_end s) ss

  -- the step with a constant for its other shape
  abbrev pub with_constant : Step P → P → Step P
  with_constant s p = record { until = s.until; shape = s.shape; other = Some p }

  -- the shape is one of the step's two
  abbrev pub IsOfStep : Step P → P → Type 0
  IsOfStep s p = (p ≡ s.shape) ⊎ (s.other ≡ Some p)

  -- the shape is one of those of the steps
  abbrev pub IsOfSteps : List (Step P) → P → Type 0
  IsOfSteps [] p = ⊥
  IsOfSteps (s ∷ ss) p = IsOfStep s p ⊎ IsOfSteps ss p

  -- tau lies inside a step of which p is a shape
  abbrev pub CountsInside : Place → List (Step P) → Rational → P → Type 0
  CountsInside b [] tau p = ⊥
  CountsInside b (s ∷ ss) tau p = ((b.at <ʳ tau) × (tau <ʳ (step_end s).at) × IsOfStep s p) ⊎ CountsInside (step_end s) ss tau p

module _ {P : Type 0} (shape : ShapeOf P) (side : Side) where
  -- v is the value of the shape at t, or the better one of it and of the constant
  abbrev pub IsWorthWith : P → Option P → Rational → Extended → Type 0
  IsWorthWith p None t v = Passes (shape.function p) t v
  IsWorthWith p (Some q) t v = IsBetter side (value_at (shape.function p) t) (value_at (shape.function q) t) v

  -- what a step gives at t
  abbrev pub Gives : Step P → Rational → Extended → Type 0
  Gives s t v = IsWorthWith s.shape s.other t v

  -- what the steps that begin at b give at t
  abbrev pub StepsGive : Place → List (Step P) → Rational → Extended → Type 0
  StepsGive b [] t v = ⊥
  StepsGive b (s ∷ ss) t v = (After b t × Upto (step_end s) t × Gives s t v) ⊎ StepsGive (step_end s) ss t v

  -- no shape has a worse value at any time
  abbrev pub IsLastChoice : P → Type 0
  IsLastChoice p = (q : P) (t : Rational) → IsNoWorse side (value_at (shape.function q) t) (value_at (shape.function p) t)

  -- the shape is constant from the one place to the other
  pub record IsLevel (b e : Place) (p : P) : Type 0 where
    pub steady : LevelFrom b.at e.at (shape.function p)
    pub level : HasBoundedLevel (2 ^ 31) (shape.function p)

  abbrev pub IsOther : Place → Place → Option P → Type 0
  IsOther b e None = Unit {0}
  IsOther b e (Some p) = IsLevel b e p

  -- a step that begins at b: its shape gets no better, and the other one is constant
  pub record IsStep (b : Place) (s : Step P) : Type 0 where
    pub later : Before b (step_end s)
    pub within : IsWithin (2 ^ 34) (value s.until.time)
    pub falls : FallsFrom side b.at (step_end s).at (shape.function s.shape)
    pub level : HasBoundedLevel (2 ^ 31) (shape.function s.shape)
    pub other : IsOther b (step_end s) s.other

  abbrev pub AreSteps : Place → List (Step P) → Type 0
  AreSteps b [] = Unit {0}
  AreSteps b (s ∷ ss) = IsStep b s × AreSteps (step_end s) ss

  -- what the steps give later is no better
  abbrev pub FallOff : Place → List (Step P) → Type 0
  FallOff b ss = (t u : Rational) (v w : Extended) → t ≤ʳ u → StepsGive b ss t v → StepsGive b ss u w → IsNoWorse side v w

  -- the constant is no worse than the step at any time
  abbrev pub IsHidden : Place → Step P → P → Type 0
  IsHidden b s p = (t : Rational) (v : Extended) → After b t → Upto (step_end s) t → Gives s t v → IsNoWorse side (value_at (shape.function p) t) v

  -- the last of the steps goes on to the place, and is no worse than the value at any time, or its shape is not where it ends
  pub record HideTo (ss : List (Step P)) (v : Extended) (e : Place) : Type 0 where
    pub front : List (Step P)
    pub last : Step P
    pub are : ss ≡ front ++ last ∷ []
    pub upto : AtMost e (step_end last)
    pub above : ((t : Rational) (x : Extended) → Gives last t x → IsNoWorse side x v)
        ⊎ IsNoWorse side (value_at (shape.function last.shape) (step_end last).at) v

  -- the step that is left where the constant counts with one that is better somewhere
  pub record Outlasts (b : Place) (s : Step P) (p : P) (left : Step P) : Type 0 where
    pub until : left.until ≡ s.until
    pub is : IsStep b left
    pub gives : (t : Rational) (v : Extended) → After b t → Upto (step_end s) t → Gives left t v
        → (x : Extended) × Gives s t x × IsBetter side x (value_at (shape.function p) t) v
    pub above : (t : Rational) × (x : Extended) × After b t × Upto (step_end s) t × Gives s t x × IsNoWorse side x (value_at (shape.function p) t)
    pub shapes : (q : P) → IsOfStep left q → IsOfStep s q ⊎ (q ≡ p)

  -- what becomes of a step beside the constant
  abbrev pub Lasts : Place → Step P → P → Lasting → Type 0
  Lasts b s p Hidden = IsHidden b s p
  Lasts b s p Whole = Outlasts b s p s
  Lasts b s p Part = Outlasts b s p (with_constant s p)

  -- the new steps give the better of what the old ones give and of the constant, as far as that is not better to the end
  pub record IsCapped (b : Place) (old : List (Step P)) (p : P) (new : List (Step P)) : Type 0 where
    pub steps : AreSteps b new
    pub upto : AtMost (steps_end b new) (steps_end b old)
    pub gives : (t : Rational) (v : Extended) → StepsGive b new t v
        → (x : Extended) × StepsGive b old t x × IsBetter side x (value_at (shape.function p) t) v
    pub hidden : (t : Rational) (x : Extended) → After (steps_end b new) t → StepsGive b old t x → IsNoWorse side (value_at (shape.function p) t) x
    pub shapes : (tau : Rational) (q : P) → CountsInside b new tau q
        → CountsInside b old tau q ⊎ ((q ≡ p) × (b.at <ʳ tau) × (tau <ʳ (steps_end b old).at))
    pub of : (q : P) → IsOfSteps new q → IsOfSteps old q ⊎ (q ≡ p)

  -- the new steps give the better of what the old ones give and of the constant, which counts up to the place e
  pub record HasCounted (b : Place) (old : List (Step P)) (p : P) (e : Place) (new : List (Step P)) : Type 0 where
    pub steps : AreSteps b new
    pub ends : Same (steps_end b new) e
    pub gives : (t : Rational) (v : Extended) → StepsGive b new t v
        → ((x : Extended) × StepsGive b old t x × IsBetter side x (value_at (shape.function p) t) v)
        ⊎ (After (steps_end b old) t × Upto e t × Passes (shape.function p) t v)
    pub shapes : (tau : Rational) (q : P) → CountsInside b new tau q → CountsInside b old tau q ⊎ ((q ≡ p) × (b.at <ʳ tau) × (tau <ʳ e.at))
    pub of : (q : P) → IsOfSteps new q → IsOfSteps old q ⊎ (q ≡ p)

  -- the new steps give what the old ones give, and behind them the shape, up to the place e
  pub record HasSlid (b : Place) (old : List (Step P)) (p : P) (e : Place) (new : List (Step P)) : Type 0 where
    pub steps : AreSteps b new
    pub gives : (t : Rational) (v : Extended) → StepsGive b new t v
        → StepsGive b old t v ⊎ (After (steps_end b old) t × Upto e t × Passes (shape.function p) t v)
    pub past : (t : Rational) → After (steps_end b new) t → After e t × After (steps_end b old) t
    pub shapes : (tau : Rational) (q : P) → CountsInside b new tau q → CountsInside b old tau q ⊎ ((q ≡ p) × ((steps_end b old).at <ʳ tau) × (tau <ʳ e.at))
    pub of : (q : P) → IsOfSteps new q → IsOfSteps old q ⊎ ((q ≡ p) × Before (steps_end b old) e)
