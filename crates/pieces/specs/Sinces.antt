-- Since from the start and until to the end of two chains, what their results are made of, and how a since goes on over a part of both.
use Rattle.std.specs.Prelude.{◌≡◌, ◌⊎◌, ◌^◌, true, false, IsTrue}
use Rattle.rational.specs.Rational.{Rational, IsWithin}
use Rattle.rational.specs.Extended.{Extended, value_at}
use Rattle.rational.specs.Affine.{IsBounded, MeetAlone}
use Rattle.rational.specs.Onward.{InOrder}
use Rattle.rational.specs.InPlay.{Step, since_start, until_end}
use Rattle.rational.specs.Places.{After, Upto, Same}
use Rattle.rational.specs.Windows.{Function, SinceFromStart, UntilToEnd}
use Rattle.frac128.specs.Value.{value}
use Rattle.frac128.specs.Cuts.{place}
use Rattle.frac128.specs.declared.cut.Cut.{Cut}
use Rattle.frac128.specs.declared.frac.Frac.{Frac}
use Rattle.value_laws.specs.Members.{ShapeOf}
use Rattle.pl_signal.specs.Joining.{IsGapFault}
use Rattle.pl_signal.specs.declared.faults.OpFault.{OpFault}
use Rattle.courses.specs.declared.course.Gap.{Gap}
use Rattle.courses.specs.Courses.{IsCourseFault, IsOnwardIn, IsPlayed}
use Rattle.pieces.specs.Chains.{Chain, HasShape, IsNormal, IsWorth, stop}

-- each moving shape of the new chain has the base of a moving shape of one of the two
abbrev pub BasesOfTwo : {P : Type 0} → ShapeOf P → Chain P → Chain P → Chain P → Type 0
BasesOfTwo {P} shape a b new =
    (p : P) → HasShape new p → IsTrue (shape.moves p) → (q : P) × (HasShape a q ⊎ HasShape b q) × IsTrue (shape.moves q) × (shape.base p ≡ shape.base q)

module _ {P : Type 0} (shape : ShapeOf P) (a b : Chain P) where
  -- a since b, where b counts from the start on
  abbrev pub SinceOf : Function
  SinceOf = SinceFromStart shape.lowest shape.highest a.from.at (IsWorth shape a) (IsWorth shape b)

  -- a until b, where b counts up to the end
  abbrev pub UntilOf : Function
  UntilOf = UntilToEnd shape.lowest shape.highest (stop a).at (IsWorth shape a) (IsWorth shape b)

  -- the step that makes the one
  abbrev pub SinceStep : Step
  SinceStep = since_start (IsWorth shape a) (IsWorth shape b) SinceOf

  -- and the step that makes the other
  abbrev pub UntilStep : Step
  UntilStep = until_end (IsWorth shape a) (IsWorth shape b) UntilOf

-- two chains from just before one time up to just after one
pub record AreOver {P : Type 0} (shape : ShapeOf P) (a b : Chain P) : Type 0 where
  pub left : IsNormal shape a
  pub right : IsNormal shape b
  pub begins : Same a.from b.from
  pub ends : Same (stop a) (stop b)
  pub first : a.from.after ≡ false
  pub last : (stop a).after ≡ true

-- the part up to a time, and the part from there on, before which the since has the value of `middle`
abbrev pub up_to : {P : Type 0} → Gap P → Frac → Gap P
up_to gap time = record gap { to = time }

abbrev pub from_on : {P : Type 0} → Gap P → Frac → P → Gap P
from_on gap time middle = record gap { before = middle; from = time }

module _ {P : Type 0} (shape : ShapeOf P) where
  -- the times are within 2^34, and what the shapes have as the part begins, and as it ends, is infinite or within 2^31
  pub record IsFit (gap : Gap P) : Type 0 where
    pub from_within : IsWithin (2 ^ 34) (value gap.from)
    pub to_within : IsWithin (2 ^ 34) (value gap.to)
    pub before_small : IsBounded (2 ^ 31) (value_at (shape.function gap.before) (value gap.from))
    pub left_small : IsBounded (2 ^ 31) (value_at (shape.function gap.left) (value gap.from))
    pub right_small : IsBounded (2 ^ 31) (value_at (shape.function gap.right) (value gap.from))
    pub left_last : IsBounded (2 ^ 31) (value_at (shape.function gap.left) (value gap.to))
    pub right_last : IsBounded (2 ^ 31) (value_at (shape.function gap.right) (value gap.to))

  -- x is what the since is made of on a part, or what came before
  abbrev pub IsUsed : Gap P → P → Type 0
  IsUsed gap x = IsPlayed shape gap x ⊎ (x ≡ gap.before)

  -- the new chain is the old one up to where that ends, and from there on up to the place the since that goes on over a part of both sides
  -- in one order; `last` has its value at the place
  pub record GoesOver (gap : Gap P) (until : Cut) (old new : Chain P) (last : P) : Type 0 where
    pub in_order : InOrder (shape.function gap.left) (shape.function gap.right) (value gap.from) (value gap.to)
    pub normal : IsNormal shape new
    pub begins : new.from ≡ old.from
    pub ends : stop new ≡ place until
    pub worth : (t : Rational) (v : Extended) → IsWorth shape new t v
        → IsWorth shape old t v ⊎ (After (stop old) t × Upto (place until) t × IsOnwardIn shape gap t v)
    pub shapes : (r : P) → HasShape new r → HasShape old r ⊎ IsUsed gap r
    pub here : IsOnwardIn shape gap (value gap.to) (value_at (shape.function last) (value gap.to))
    pub last_of : IsUsed gap last

  -- want of memory, a value with which the since goes on as the part begins, or a crossing of two shapes that it is made of
  abbrev pub IsPartFault : Gap P → OpFault P → Type 0
  IsPartFault gap fault =
      IsCourseFault shape gap fault
      ⊎ ((x y : P) × IsPlayed shape gap x × IsPlayed shape gap y × (at : Frac) × (value at ≡ value gap.from) × IsGapFault shape x y at gap.to fault)

  -- a stop between, at the time at which both sides cross: where the chain stands there, and a shape with what the since is just before it
  pub record IsTurning (gap : Gap P) (old half : Chain P) (time : Frac) (middle : P) : Type 0 where
    pub meets : MeetAlone (shape.function gap.left) (shape.function gap.right) (value gap.from) (value gap.to) (value time)
    pub first : GoesOver (up_to gap time) (record { time = time; side = 0 }) old half middle

  -- the chain goes on over the part, in one stretch or in two, up to where both sides cross and from there on
  abbrev pub Passes : Gap P → Cut → Chain P → Chain P → P → Type 0
  Passes gap until old new last =
      GoesOver gap until old new last
      ⊎ ((time : Frac) × (middle : P) × (half : Chain P) × IsTurning gap old half time middle × GoesOver (from_on gap time middle) until half new last)

  -- what may be refused on the way
  abbrev pub IsPassFault : Gap P → Chain P → OpFault P → Type 0
  IsPassFault gap old fault =
      IsGapFault shape gap.left gap.right gap.from gap.to fault
      ⊎ (InOrder (shape.function gap.left) (shape.function gap.right) (value gap.from) (value gap.to) × IsPartFault gap fault)
      ⊎ ((time : Frac) × MeetAlone (shape.function gap.left) (shape.function gap.right) (value gap.from) (value gap.to) (value time)
      × IsPartFault (up_to gap time) fault)
      ⊎ ((time : Frac) × (middle : P) × (half : Chain P) × IsTurning gap old half time middle × IsPartFault (from_on gap time middle) fault)
