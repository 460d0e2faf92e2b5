-- What a window lets count between two places is in play at each time between, and has a base of the chain's.
use Rattle.std.proofs.Common.{◌≡◌, ◌⊎◌, inl, inr, ℕ, None, Option, sym, subst}
use Rattle.std.specs.Prelude.{◌-ℤ◌, IfSome}
use Rattle.rational.specs.Rational.{add, middle, whole}
use Rattle.rational.specs.Time.{Rational, ◌≤ʳ◌, ◌<ʳ◌, ◌≈◌, shifted}
use Rattle.rational.specs.Extended.{Affine, affine, value_at, ◌≈ᵉ◌}
use Rattle.rational.specs.Affine.{IsSteady}
use Rattle.rational.specs.InPlay.{IsBreakpoint, IsConstant, IsWideValue}
use Rattle.rational.specs.Line.{constant}
use Rattle.rational.specs.Places.{Place, After, Upto, Before}
use Rattle.rational.proofs.Order.{le_of_lt, le_trans, ge_of_same, lt_of_le_of_lt, lt_of_lt_of_le, lt_trans}
use Rattle.rational.proofs.Order.{left_of_middle, right_of_middle, same_sym}
use Rattle.rational.proofs.Lines.{at_constant}
use Rattle.rational.proofs.Shift.{le_shift}
use Rattle.rational.proofs.TimeLemmas.{shifted-add}
use Rattle.rational.proofs.AffineLemmas.{finite_same}
use Rattle.rational.proofs.Sames.{symᵉ, transᵉ}
use Rattle.rational.proofs.PlaceLemmas.{at_most_of_not_before, between, le_of_at_most, le_of_before}
use Rattle.frac128.specs.Value.{value}
use Rattle.frac128.specs.declared.frac.Frac.{Frac}
use Rattle.value_laws.specs.Members.{ShapeOf}
use Rattle.courses.specs.Courses.{IsValueFault}
use Rattle.pl_signal.specs.declared.joining.Side.{Side}
use Rattle.pl_signal.specs.declared.faults.WidePair.TheVariants.{Value}
use Rattle.pl_signal.specs.declared.faults.OpFault.TheVariants as F
use Rattle.pieces.specs.declared.piece.Piece.{Piece}
use Rattle.pieces.specs.declared.reach.Reach.{Reach}
use Rattle.pieces.specs.Chains.{Chain, HasShape, IsWorth, end, stop, Rise}
use Rattle.pieces.specs.Meeting.{HeldBetween}
use Rattle.pieces.specs.Over.{InPlay, IsMovedTo}
use Rattle.pieces.specs.Causes.{IsHeldAt}
use Rattle.pieces.specs.Windows.{IsAtEnd, IsBestEnd, IsNonEmpty, IsPieceFrom, IsSmall, high_place, low_place}
use Rattle.pieces.proofs.Ends.{after_of_lt, upto_le, upto_of_lt}
use Rattle.pieces.proofs.TakenInPlay.{first_held, high_in_play, last_held, low_in_play, past_high, past_low, short_high, short_low, steady_in_play}

module _ {P : Type 0} (shape : ShapeOf P) (chain : Chain P) (over : Reach) (rising : Rise chain.from chain.pieces) (small : IsSmall over)
    (some : IsNonEmpty over) (c : Place) (p : Piece P) (is : IsPieceFrom shape chain c p) (at until : Place) where
  -- a piece under the window's high end is in play while that moves over it
  pub rise_plays : ((t : Rational) → After at t → Upto until t → Before c (high_place over.high over.high_in t))
      → ((t : Rational) → After at t → Upto until t → ¬ Before (end p) (high_place over.high over.high_in t))
      → (line : Affine) → ((t : Rational) → value_at line t ≈ᵉ value_at (shape.function p.shape) (add t (whole over.high)))
      → (tau : Rational) → at.at <ʳ tau → tau <ʳ until.at → InPlay shape chain over tau line
  rise_plays begun short line moved tau a b = high_in_play shape chain over rising small some c p is tau
      (past_high over c at.at tau a (λ t k m. begun t (after_of_lt at t k) (upto_of_lt until t (lt_trans m b))))
      (short_high over (end p) tau until.at b (λ t k m. short t (after_of_lt at t (lt_trans a k)) (upto_of_lt until t m))) line moved

  -- a piece under the window's low end is in play while that moves over it
  pub fall_plays : ((t : Rational) → After at t → Upto until t → ¬ Before (low_place over.low over.low_in t) c)
      → ((t : Rational) → After at t → Upto until t → Before (low_place over.low over.low_in t) (end p))
      → (line : Affine) → ((t : Rational) → value_at line t ≈ᵉ value_at (shape.function p.shape) (add t (whole over.low)))
      → (tau : Rational) → at.at <ʳ tau → tau <ʳ until.at → InPlay shape chain over tau line
  fall_plays begun short line moved tau a b = low_in_play shape chain over rising small some c p is tau
      (past_low over c at.at tau a (λ t k m. begun t (after_of_lt at t k) (upto_of_lt until t (lt_trans m b))))
      (short_low over (end p) tau until.at b (λ t k m. short t (after_of_lt at t (lt_trans a k)) (upto_of_lt until t m))) line moved

  -- a steady piece is in play while something of it is seen
  pub steady_plays : IsBreakpoint (IsWorth shape chain) chain.from.at (stop chain).at c.at → IsSteady (shape.function p.shape)
      → ((t : Rational) → After at t → Upto until t → Before c (high_place over.high over.high_in t))
      → ((t : Rational) → After at t → Upto until t → Before (low_place over.low over.low_in t) (end p))
      → (line : Affine) → ((t : Rational) → value_at line t ≈ᵉ value_at (shape.function p.shape) (add t (whole over.high)))
      → (tau : Rational) → at.at <ʳ tau → tau <ʳ until.at → InPlay shape chain over tau line
  steady_plays breaks steady begun short line moved tau a b = steady_in_play shape chain over rising small some c p is tau breaks steady
      (past_high over c at.at tau a (λ t k m. begun t (after_of_lt at t k) (upto_of_lt until t (lt_trans m b))))
      (short_low over (end p) tau until.at b (λ t k m. short t (after_of_lt at t (lt_trans a k)) (upto_of_lt until t m))) line moved

  -- the constant with the best value of a piece is in play while the place of that value lies inside the window
  pub best_plays : (side : Side) (best : Place) → IsBreakpoint (IsWorth shape chain) chain.from.at (stop chain).at best.at
      → IsBestEnd shape side c p best
      → ((t : Rational) → After at t → Upto until t → Before best (high_place over.high over.high_in t))
      → ((t : Rational) → After at t → Upto until t → Before (low_place over.low over.low_in t) best)
      → HeldBetween shape chain over at.at until.at best.at (value_at (shape.function p.shape) best.at)
  best_plays side best breaks one begun short tau line a b constant = by_end one
    where
      above : best.at <ʳ add tau (whole over.high)
      above = past_high over best at.at tau a (λ t k m. begun t (after_of_lt at t k) (upto_of_lt until t (lt_trans m b)))

      below : add tau (whole over.low) <ʳ best.at
      below = short_low over best tau until.at b (λ t k m. short t (after_of_lt at t (lt_trans a k)) (upto_of_lt until t m))

      by_end : IsBestEnd shape side c p best → IsHeldAt shape chain over best.at tau line
      by_end (inl (e, g)) =
          let l : add tau (whole over.low) <ʳ c.at = subst (λ x. add tau (whole over.low) <ʳ x.at) e below in
          subst (λ x. IsHeldAt shape chain over x.at tau line) (sym e) (first_held shape chain over rising small some c p is tau
          (subst (λ x. IsBreakpoint (IsWorth shape chain) chain.from.at (stop chain).at x.at) e breaks)
          (subst (λ x. x.at <ʳ add tau (whole over.high)) e above) (le_of_lt l) (lt_of_lt_of_le l (le_of_before c (end p) is.order)) line
          (subst (λ x. IsConstant line (value_at (shape.function p.shape) x.at)) e constant))
      by_end (inr (e, g)) =
          let ends : (end p).at <ʳ add tau (whole over.high) = subst (λ x. x.at <ʳ add tau (whole over.high)) e above in
          subst (λ x. IsHeldAt shape chain over x.at tau line) (sym e) (last_held shape chain over rising small some c p is tau
          (subst (λ x. IsBreakpoint (IsWorth shape chain) chain.from.at (stop chain).at x.at) e breaks)
          (lt_of_le_of_lt (le_of_before c (end p) is.order) ends) (subst (λ x. add tau (whole over.low) <ʳ x.at) e below) (le_of_lt ends) line
          (subst (λ x. IsConstant line (value_at (shape.function p.shape) x.at)) e constant))

module _ {P : Type 0} (shape : ShapeOf P) (chain : Chain P) (over : Reach) where
  -- a shape that is moved by the low offset where the window's low end comes to a place of the domain has a base of the chain's
  pub moved_over : (last : Place) (p r : P) (time here : Rational) → HasShape chain p → IsAtEnd shape over p time here r → chain.from.at ≤ʳ time
      → here ≤ʳ last.at → IsMovedTo shape chain over last r
  moved_over last p r time here has moved begins ends m = let (moves, which) = moved m in (p, has, moves, by_end which)
    where
      by_end : ((shape.base r ≡ shape.base p -ℤ over.low) × (add here (whole over.low) ≈ time)) ⊎ (shape.base r ≡ shape.base p -ℤ over.high)
          → (shape.base r ≡ shape.base p -ℤ over.high)
          ⊎ ((shape.base r ≡ shape.base p -ℤ over.low) × (chain.from.at ≤ʳ shifted last.at over.low))
      by_end (inr e) = inl e
      by_end (inl (e, s)) = inr (
        e,
        le_trans begins (le_trans (ge_of_same s) (le_trans (le_shift over.low ends) (ge_of_same (shifted-add last.at over.low)))),
      )

  -- the low end comes into the domain where it comes to a place there
  pub low_comes : (last c b e : Place) → chain.from.at ≤ʳ c.at → Before b e → ((t : Rational) → Upto e t → Upto last t)
      → ((t : Rational) → After b t → Upto last t → ¬ Before (low_place over.low over.low_in t) c)
      → chain.from.at ≤ʳ shifted last.at over.low
  low_comes last c b e begins order inside past =
      let (t, a, u) = between b e order in
      let k = inside t u in
      le_trans begins (le_trans (le_of_at_most c (low_place over.low over.low_in t)
      (at_most_of_not_before c (low_place over.low over.low_in t) (past t a k)))
      (le_trans (le_shift over.low (upto_le last t k)) (ge_of_same (shifted-add last.at over.low))))

  -- a value that is refused while its constant is in play, up to a time of the domain, is a cause by what is in play there
  pub refused_value : (Q : Rational → Affine → Type 0) (p : P) (time : Frac) (a b : Rational) → a <ʳ b → chain.from.at ≤ʳ a → b ≤ʳ (stop chain).at
      → ((tau : Rational) (line : Affine) → a <ʳ tau → tau <ʳ b → IsConstant line (value_at (shape.function p) (value time)) → Q tau line)
      → (q : P) (at : Frac) (den : ℕ) → IsValueFault shape p time (F.Wide (Value q at den))
      → IsWideValue Q chain.from.at (stop chain).at (shape.function q) (value at) den
  refused_value Q p time a b order begins ends plays q at den (same, here, (v, is, denominator, wide)) =
      subst (λ q. IsWideValue Q chain.from.at (stop chain).at (shape.function q) (value at) den) (sym same)
      (subst (λ at. IsWideValue Q chain.from.at (stop chain).at (shape.function p) (value at) den) (sym here) (record {
        tau = middle a b;
        after_start = lt_of_le_of_lt begins (left_of_middle order);
        before_stop = lt_of_lt_of_le (right_of_middle order) ends;
        value = v;
        is_value = symᵉ is;
        line = affine (constant v);
        constant = λ t. finite_same (same_sym (at_constant v t));
        in_play = plays (middle a b) (affine (constant v)) (left_of_middle order) (right_of_middle order)
            (λ t. transᵉ is (finite_same (same_sym (at_constant v t))));
        denominator = denominator;
        wide = wide;
      }))

-- nothing is said of what was not refused
pub none_refused : {A : Type 0} (o : Option A) (Q : A → Type 0) → o ≡ None → IfSome o Q
none_refused o Q e = subst (λ o. IfSome o Q) (sym e) tt
