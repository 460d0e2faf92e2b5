-- What a since is on a gap on which both sides are affine and in one order: the least or the greatest of two shapes.
use Rattle.std.specs.Prelude.{◌≡◌, ◌⊎◌, ◌≤◌, ◌^◌, Bool, true, false, IsTrue, MatchBool}
use Rattle.std.specs.declared.cmp.Ordering.{Ordering}
use Rattle.std.specs.declared.cmp.Ordering.TheVariants.{Less, Equal, Greater}
use Rattle.rational.specs.Rational.{Rational, ◌<ʳ◌, ◌≤ʳ◌, IsWithin}
use Rattle.rational.specs.Time.{HasDenominator}
use Rattle.rational.specs.Extended.{Extended, finite, ◌≈ᵉ◌, IsLeast, IsGreatest, Affine, value_at}
use Rattle.rational.specs.Affine.{IsBounded, MeetAlone}
use Rattle.rational.specs.Onward.{InOrder, IsOnward}
use Rattle.frac128.specs.Value.{value}
use Rattle.frac128.specs.declared.frac.Frac.{Frac}
use Rattle.value_laws.specs.Members.{ShapeOf}
use Rattle.pl_signal.specs.declared.faults.WidePair.TheVariants.{Cross, Value}
use Rattle.pl_signal.specs.declared.faults.OpFault.{OpFault}
use Rattle.pl_signal.specs.declared.faults.OpFault.TheVariants as F
use Rattle.courses.specs.declared.course.Course.{Course}
use Rattle.courses.specs.declared.course.Gap.{Gap}
use Rattle.courses.specs.declared.course.Meet.{Meet}
use Rattle.pl_signal.specs.declared.joining.Side.{Side}
use Rattle.pl_signal.specs.Joining.{IsChosen}

-- v is the value at a time of a since that has the least or the greatest of x and y for its limit there, with p and q at that time
pub record IsPointOf (side : Side) (x y p q v : Extended) : Type 0 where
  pub limit : Extended
  pub most : Extended
  pub is_limit : IsChosen side x y limit
  pub is_most : IsGreatest q limit most
  pub is_value : IsLeast p most v

-- two that begin in the one order are in the other at the end
abbrev pub change_places : Ordering → Ordering → Bool
change_places Less Less = false
change_places Less Equal = false
change_places Less Greater = true
change_places Equal end = false
change_places Greater Less = true
change_places Greater Equal = false
change_places Greater Greater = false

-- the first of two is at most the second from the start on, as long as they keep their order
abbrev pub goes_under : Ordering → Ordering → Bool
goes_under Less end = true
goes_under Equal Less = true
goes_under Equal Equal = true
goes_under Equal Greater = false
goes_under Greater end = false

-- the left side is no higher as the gap begins than what was before, where their order is the one, or than the right side, where it is the other
abbrev pub IsReached : Ordering → Ordering → Type 0
IsReached before start = ¬ (before ≡ Less) ⊎ (start ≡ Equal)

-- the next time at which the two come out of order, or where nothing does so before it, the next time
pub record IsMeet (f h : Affine) (from next : Frac) (turn : Meet) : Type 0 where
  pub after : value from <ʳ value turn.time
  pub not_later : value turn.time ≤ʳ value next
  pub in_order : InOrder f h (value from) (value turn.time)
  pub kind : MatchBool turn.met (MeetAlone f h (value from) (value next) (value turn.time)) (turn.time ≡ next)

module _ {P : Type 0} (shape : ShapeOf P) where
  -- x is at every time what o is at the time `at`
  abbrev pub IsFixed : P → Rational → P → Type 0
  IsFixed o at x = (u : Rational) → value_at (shape.function x) u ≈ᵉ value_at (shape.function o) at

  -- want of memory, or the value of x at the time, which needs the denominator
  abbrev pub IsValueFault : P → Frac → OpFault P → Type 0
  IsValueFault x from F.Memory = Unit {0}
  IsValueFault x from (F.Wide (Cross a b c d den)) = ⊥
  IsValueFault x from (F.Wide (Value o at den)) =
      (o ≡ x) × (at ≡ from) × ((v : Rational) × (value_at (shape.function x) (value from) ≈ᵉ finite v) × HasDenominator v den × (2 ^ 60 ≤ den))

  -- one of the three shapes that tell of a gap
  abbrev pub IsOfGap : Gap P → P → Type 0
  IsOfGap gap o = (o ≡ gap.before) ⊎ (o ≡ gap.left) ⊎ (o ≡ gap.right)

  -- times and values are within the limits, and both sides in one order
  pub record IsGap (gap : Gap P) : Type 0 where
    pub later : value gap.from <ʳ value gap.to
    pub from_within : IsWithin (2 ^ 34) (value gap.from)
    pub to_within : IsWithin (2 ^ 34) (value gap.to)
    pub before_small : IsBounded (2 ^ 31) (value_at (shape.function gap.before) (value gap.from))
    pub left_small : IsBounded (2 ^ 31) (value_at (shape.function gap.left) (value gap.from))
    pub right_small : IsBounded (2 ^ 31) (value_at (shape.function gap.right) (value gap.from))
    pub in_order : InOrder (shape.function gap.left) (shape.function gap.right) (value gap.from) (value gap.to)

  -- low is the least of what was before and of the left side as the gap begins
  pub record IsLow (gap : Gap P) (low : P) : Type 0 where
    pub low_of : IsOfGap gap low
    pub is_low : IsLeast (value_at (shape.function gap.before) (value gap.from)) (value_at (shape.function gap.left) (value gap.from))
        (value_at (shape.function low) (value gap.from))

  -- low is the least of what was before and of the left side as the gap begins, and top the greatest of that and of the right side
  pub record IsStart (gap : Gap P) (low top : P) : Type 0 where
    pub low_of : IsOfGap gap low
    pub top_of : IsOfGap gap top
    pub is_low : IsLeast (value_at (shape.function gap.before) (value gap.from)) (value_at (shape.function gap.left) (value gap.from))
        (value_at (shape.function low) (value gap.from))
    pub is_top : IsGreatest (value_at (shape.function low) (value gap.from)) (value_at (shape.function gap.right) (value gap.from))
        (value_at (shape.function top) (value gap.from))

  -- v is the value at t of the since that goes on over the gap
  abbrev pub IsOnwardIn : Gap P → Rational → Extended → Type 0
  IsOnwardIn gap t v =
      IsOnward (value_at (shape.function gap.before) (value gap.from)) (shape.function gap.left) (shape.function gap.right) (value gap.from) t v

  -- one of the three shapes, which has as the gap begins the value with which the since goes on
  abbrev pub IsBegun : Gap P → P → Type 0
  IsBegun gap o = IsOfGap gap o × IsOnwardIn gap (value gap.from) (value_at (shape.function o) (value gap.from))

  -- want of memory, or the value that such a shape has as the gap begins
  abbrev pub IsCourseFault : Gap P → OpFault P → Type 0
  IsCourseFault gap fault = (o : P) × IsBegun gap o × IsValueFault o gap.from fault

  -- one of both sides, or a constant with the value that such a shape has as the gap begins
  abbrev pub IsPlayed : Gap P → P → Type 0
  IsPlayed gap x = (x ≡ gap.left) ⊎ (x ≡ gap.right) ⊎ ((o : P) × IsBegun gap o × IsFixed o (value gap.from) x × (shape.moves x ≡ false))

  -- as the gap begins, at each time of it, and as it ends, the since is the least or the greatest of the two
  pub record IsCourse (gap : Gap P) (course : Course P) : Type 0 where
    pub one : IsTrue course.alone → course.second ≡ course.first
    pub first : IsPlayed gap course.first
    pub second : IsPlayed gap course.second
    pub onward : (t : Rational) (v : Extended) → value gap.from ≤ʳ t → t ≤ʳ value gap.to
        → IsChosen course.side (value_at (shape.function course.first) t) (value_at (shape.function course.second) t) v → IsOnwardIn gap t v
