-- What is in play in a since from the start, and the causes for which it may be refused.
use Rattle.std.proofs.Common.{◌≡◌, ◌⊎◌, inl, inr, sym, subst}
use Rattle.rational.specs.Rational.{Rational, middle, ◌<ʳ◌, ◌≤ʳ◌}
use Rattle.rational.specs.Time.{Within}
use Rattle.rational.specs.Line.{constant}
use Rattle.rational.specs.Extended.{Extended, finite, ◌≈ᵉ◌, Affine, affine, value_at}
use Rattle.rational.specs.InPlay.{IsLineOn, IsBreakpoint, IsCrossing, IsConstant, IsPrevious, IsInPlay, IsWideCrossing, IsWideValue, since_start}
use Rattle.rational.specs.Windows.{Function}
use Rattle.rational.specs.Onward.{InOrder}
use Rattle.rational.proofs.Order.{le_trans, le_of_lt, lt_of_lt_of_le, lt_of_le_of_lt, lt_trans, left_of_middle, right_of_middle, same_refl}
use Rattle.rational.proofs.Lines.{at_constant}
use Rattle.rational.proofs.AffineLemmas.{same_reflᵉ, finite_same}
use Rattle.rational.proofs.Sames.{symᵉ}
use Rattle.rational.proofs.TimeFunctions.{IsFunction}
use Rattle.rational.proofs.Events.{not_crossed}
use Rattle.frac128.specs.Value.{value}
use Rattle.frac128.specs.declared.frac.Frac.{Frac}
use Rattle.value_laws.specs.Members.{ShapeOf}
use Rattle.pl_signal.specs.declared.faults.WidePair.TheVariants.{Cross, Value}
use Rattle.pl_signal.specs.declared.faults.OpFault.{OpFault}
use Rattle.pl_signal.specs.declared.faults.OpFault.TheVariants as F
use Rattle.pl_signal.specs.Wide.{HasCause}
use Rattle.pl_signal.specs.Joining.{IsGapFault}
use Rattle.courses.specs.declared.course.Gap.{Gap}
use Rattle.courses.specs.Courses.{IsOfGap, IsCourseFault, IsValueFault, IsFixed}
use Rattle.courses.specs.Pairs.{IsPairWithin}

module _ {A : Type 0} (shape : ShapeOf A) (P Q : Function) (from to : Rational) where
  -- a gap between events, on which both functions go by their shapes
  pub record Lies (gap : Gap A) : Type 0 where
    -- the gap has times
    pub later : value gap.from <ʳ value gap.to
    -- it begins in the domain
    pub inside : Within from to (value gap.from)
    -- and ends in it
    pub below : value gap.to ≤ʳ to
    -- the left side is a line on it
    pub left_on : IsLineOn P (value gap.from) (value gap.to) (shape.function gap.left)
    -- and so is the right side
    pub right_on : IsLineOn Q (value gap.from) (value gap.to) (shape.function gap.right)
    -- where it begins a breakpoint of a side lies, or the two cross
    pub event : IsBreakpoint P from to (value gap.from) ⊎ IsBreakpoint Q from to (value gap.from)
        ⊎ IsCrossing (shape.function gap.left) (shape.function gap.right) (value gap.from)

-- x is in play at each time of the gap
abbrev pub PlaysOn : {A : Type 0} → ShapeOf A → Function → Function → Function → Rational → Rational → Gap A → A → Type 0
PlaysOn shape P Q R from to gap x = (tau : Rational) → value gap.from <ʳ tau → tau <ʳ value gap.to
    → IsInPlay (since_start P Q R) from to tau (shape.function x)

module _ {A : Type 0} {shape : ShapeOf A} {P Q : Function} {from to : Rational} {gap : Gap A} (on : Lies shape P Q from to gap) where
  -- whatever came before
  pub other_before : (x : A) → Lies shape P Q from to (record gap { before = x })
  other_before x = record { later = on.later; inside = on.inside; below = on.below; left_on = on.left_on; right_on = on.right_on; event = on.event }

  -- the times of a crossing on the gap lie in the domain
  pub cross_within : (x y : A) (at : Frac) → value at ≡ value gap.from → (e : OpFault A) → IsGapFault shape x y at gap.to e
      → IsPairWithin from to e
  cross_within x y at here F.Memory h = tt
  cross_within x y at here (F.Wide (Cross a b c d den)) (e, f, i, j, m) = (
    subst (λ c. Within from to (value c)) (sym i) (subst (λ t. Within from to t) (sym here) on.inside),
    subst (λ d. Within from to (value d)) (sym j) (record { above = le_trans on.inside.above (le_of_lt on.later); below = on.below }),
  )
  cross_within x y at here (F.Wide (Value a b den)) h = absurd h

  -- so for a constant
  pub value_within : (e : OpFault A) → IsCourseFault shape gap e → IsPairWithin from to e
  value_within F.Memory h = tt
  value_within (F.Wide (Cross a b c d den)) (o, is, h) = absurd h
  value_within (F.Wide (Value a b den)) (o, is, (e, f, h)) = subst (λ t. Within from to (value t)) (sym f) on.inside

module _ {A : Type 0} {shape : ShapeOf A} {P Q : Function} {from to : Rational} {gap : Gap A} (on : Lies shape P Q from to gap) (R : Function) where
  -- the parts of both sides are in play on the gap
  pub left_plays : PlaysOn shape P Q R from to gap gap.left
  left_plays tau a b = inl (record { a = value gap.from; b = value gap.to; above = a; below = b; on = on.left_on })

  -- so for the right side
  pub right_plays : PlaysOn shape P Q R from to gap gap.right
  right_plays tau a b = inr (inl (record { a = value gap.from; b = value gap.to; above = a; below = b; on = on.right_on }))

  -- a crossing on the gap of two shapes that are in play there is a cause
  pub cross_cause : (x y : A) → PlaysOn shape P Q R from to gap x → PlaysOn shape P Q R from to gap y → (at : Frac) → value at ≡ value gap.from
      → (e : OpFault A) → IsGapFault shape x y at gap.to e → HasCause shape (since_start P Q R) from to e
  cross_cause x y plays plays' at here F.Memory h = tt
  cross_cause x y plays plays' at here (F.Wide (Cross a b c d den)) (e, f, i, j, m) =
      let Wide = λ (a b : A) (c d : Frac). IsWideCrossing (IsInPlay (since_start P Q R) from to) from to
      (shape.function a) (shape.function b) (value c) (value d) den in
      subst (λ a. Wide a b c d) (sym e) (subst (λ b. Wide x b c d) (sym f) (subst (λ c. Wide x y c d) (sym i) (subst (λ d. Wide x y at d) (sym j)
      (let after = subst (λ t. t <ʳ m.0) here m.1.after in record {
        tau = m.0;
        after_start = lt_of_le_of_lt on.inside.above after;
        before_stop = lt_of_lt_of_le m.1.before on.below;
        above = m.1.after;
        below = m.1.before;
        first = plays m.0 after m.1.before;
        second = plays' m.0 after m.1.before;
        meet = m.1.meet;
        alone = m.1.alone;
        denominator = m.2;
        wide = m.3;
      }))))
  cross_cause x y plays plays' at here (F.Wide (Value a b den)) h = absurd h

  -- where the since is worth the shape before as the gap begins
  module _ (since : IsFunction R) (here : R (value gap.from) (value_at (shape.function gap.before) (value gap.from)))
      (in_order : InOrder (shape.function gap.left) (shape.function gap.right) (value gap.from) (value gap.to)) where
    -- the gap begins at the last event before each of its times
    previous : (tau : Rational) → value gap.from <ʳ tau → tau <ʳ value gap.to → IsPrevious P Q from to tau (value gap.from)
    previous tau a b = record {
      inside = on.inside;
      before = a;
      left = shape.function gap.left;
      right = shape.function gap.right;
      left_on = λ t h k. on.left_on t h (lt_trans k b);
      right_on = λ t h k. on.right_on t h (lt_trans k b);
      none_before = λ t h k. not_crossed (shape.function gap.left) (shape.function gap.right) (value gap.from) t (value gap.to) in_order h (lt_trans k b);
      here = on.event;
    }

    -- a constant with a value that one of the three shapes has as the gap begins is in play on it
    constant_plays : (o : A) (line : Affine) (v : Extended) (tau : Rational) → IsOfGap shape gap o → IsConstant line v
        → v ≈ᵉ value_at (shape.function o) (value gap.from) → value gap.from <ʳ tau → tau <ʳ value gap.to
        → IsInPlay (since_start P Q R) from to tau line
    constant_plays o line v tau (inl e) is same a b =
        let begins = subst (λ o. v ≈ᵉ value_at (shape.function o) (value gap.from)) e same in
        let there = since.alike (value gap.from) (value gap.from) (value_at (shape.function gap.before) (value gap.from)) v
        (same_refl (value gap.from)) (symᵉ begins) here in
        inr (inr (value gap.from, previous tau a b, v, is, inr (inr (inl there))))
    constant_plays o line v tau (inr (inl e)) is same a b =
        let begins = subst (λ o. v ≈ᵉ value_at (shape.function o) (value gap.from)) e same in
        inr (inr (
          value gap.from,
          previous tau a b,
          v,
          is,
          inl (inr (record { b = value gap.to; below = on.later; line = shape.function gap.left; on = on.left_on; value = begins })),
        ))
    constant_plays o line v tau (inr (inr e)) is same a b =
        let begins = subst (λ o. v ≈ᵉ value_at (shape.function o) (value gap.from)) e same in
        inr (inr (
          value gap.from,
          previous tau a b,
          v,
          is,
          inr (inl (inr (record { b = value gap.to; below = on.later; line = shape.function gap.right; on = on.right_on; value = begins }))),
        ))

    -- a constant that was fixed is in play on the gap
    pub fixed_plays : (o x : A) → IsOfGap shape gap o → IsFixed shape o (value gap.from) x → PlaysOn shape P Q R from to gap x
    fixed_plays o x is fixed = λ tau a b.
        let v = value_at (shape.function o) (value gap.from) in
        constant_plays o (shape.function x) v tau is (λ t. symᵉ (fixed t)) (same_reflᵉ v) a b

    -- a value of one of the three shapes that is not stored is one in play
    pub value_of_cause : (e : OpFault A) (o : A) → IsOfGap shape gap o → IsValueFault shape o gap.from e → HasCause shape (since_start P Q R) from to e
    value_of_cause F.Memory o is h = tt
    value_of_cause (F.Wide (Cross a b c d den)) o is h = absurd h
    value_of_cause (F.Wide (Value a b den)) o is (e, f, (v, same, denominator, wide)) =
        let Wide = λ (a : A) (b : Frac).
        IsWideValue (IsInPlay (since_start P Q R) from to) from to (shape.function a) (value b) den in
        subst (λ a. Wide a b) (sym e) (subst (λ b. Wide o b) (sym f) (record {
          tau = middle (value gap.from) (value gap.to);
          after_start = lt_of_le_of_lt on.inside.above (left_of_middle on.later);
          before_stop = lt_of_lt_of_le (right_of_middle on.later) on.below;
          value = v;
          is_value = symᵉ same;
          line = affine (constant v);
          constant = level;
          in_play = constant_plays o (affine (constant v)) (finite v) (middle (value gap.from) (value gap.to)) is level (symᵉ same)
              (left_of_middle on.later) (right_of_middle on.later);
          denominator = denominator;
          wide = wide;
        }))
      where
        level : (t : Rational) → finite v ≈ᵉ value_at (affine (constant v)) t
        level t = symᵉ (finite_same (at_constant v t))
