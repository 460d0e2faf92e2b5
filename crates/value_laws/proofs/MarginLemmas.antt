-- Comparisons, trends and meetings of lines, said of margins as functions of time.
use Rattle.std.proofs.Common.{◌≡◌, ℕ, pos, refl, Bool, true, false, lit<, arith, ap, ◌*◌}
use Rattle.std.specs.Prelude.{◌↔◌, IsTrue, Result, Ok, Err, Option, Some, None, MatchResult, MatchOption, ◌^◌, ◌≤◌}
use Rattle.std.specs.declared.cmp.Ordering.{Ordering}
use Rattle.std.specs.declared.cmp.Ordering.TheVariants.{Less, Equal, Greater}
use Rattle.std.specs.Ordering.{MatchOrdering, ordering_reverse, is_eq}
use Rattle.rational.specs.Rational.{Rational, ◌<ʳ◌, ◌≈◌, IsOrder, IsWithin, whole, negate, subtract}
use Rattle.rational.specs.Time.{HasDenominator}
use Rattle.rational.specs.Line.{Line, at, constant, Rises, Falls, Level, CrossAt}
use Rattle.rational.specs.Extended.{Extended, minus_infinity, finite, infinity, ◌≈ᵉ◌, opposite, Affine, always_low, affine, always_high, value_at}
use Rattle.rational.specs.Affine.{IsOrderᵉ, IsSteady, IsTrend, AreSame, MeetAlone, HasBoundedLevel}
use Rattle.rational.proofs.Order.{same_sym, same_trans, not_lt_of_le, ge_of_same, le_of_same}
use Rattle.rational.proofs.Field.{same_negate}
use Rattle.rational.proofs.Lines.{at_constant, at_level, lt_at, lt_at_falls}
use Rattle.rational.proofs.Mixed.{within_same, neg_parts}
use Rattle.rational.proofs.AffineMeetings.{alone_swap}
use Rattle.rational.proofs.AffineLemmas.{finite_same, same_of_finite, same_reflᵉ, same_symᵉ, same_transᵉ, order_sameᵉ, steady_never_meet_alone}
use Rattle.frac128.specs.Value.{value}
use Rattle.frac128.specs.declared.frac.Frac.{Frac}
use Rattle.frac128.specs.declared.frac.WideFrac.{WideFrac}
use Rattle.frac128.specs.declared.ramp.Ramp.{Ramp}
use Rattle.value_laws.specs.declared.margin.Margin.{Margin}
use Rattle.value_laws.specs.declared.margin.Margin.TheVariants.{Low, High, Fixed, Ramp as Sloping}
use Rattle.value_laws.specs.Margins.{margin_function}

-- numbers and finite values are ordered alike
pub finite_order : (o : Ordering) (a b : Rational) → IsOrder o a b → IsOrderᵉ o (finite a) (finite b)
finite_order Less a b h = h
finite_order Equal a b h = finite_same h
finite_order Greater a b h = h

-- the other way round
pub reversed_order : (o : Ordering) (v w : Extended) → IsOrderᵉ o v w → IsOrderᵉ (ordering_reverse o) w v
reversed_order Less v w h = h
reversed_order Equal v w h = same_symᵉ v w h
reversed_order Greater v w h = h

constant_is : (a t : Rational) → finite (at (constant a) t) ≈ᵉ finite a
constant_is a t = finite_same (at_constant a t)

-- a line's value against a constant, and two constants
pub line_to_constant : (o : Ordering) (f : Line) (c t : Rational) → IsOrder o (at f t) c → IsOrderᵉ o (value_at (affine f) t) (value_at (affine (constant c)) t)
line_to_constant o f c t h =
    order_sameᵉ o (finite (at f t)) (finite (at f t)) (finite c) (finite (at (constant c) t)) (same_reflᵉ (finite (at f t)))
    (same_symᵉ (finite (at (constant c) t)) (finite c) (constant_is c t)) (finite_order o (at f t) c h)

-- so for two constants
pub constant_to_constant : (o : Ordering) (c d t : Rational) → IsOrder o c d → IsOrderᵉ o (value_at (affine (constant c)) t) (value_at (affine (constant d)) t)
constant_to_constant o c d t h =
    order_sameᵉ o (finite c) (finite (at (constant c) t)) (finite d) (finite (at (constant d) t))
    (same_symᵉ (finite (at (constant c) t)) (finite c) (constant_is c t))
    (same_symᵉ (finite (at (constant d) t)) (finite d) (constant_is d t)) (finite_order o c d h)

-- a constant does not move
pub constant_steady : (c : Rational) → IsSteady (affine (constant c))
constant_steady c t u = same_transᵉ (finite (at (constant c) t)) (finite c) (finite (at (constant c) u)) (constant_is c t)
    (same_symᵉ (finite (at (constant c) u)) (finite c) (constant_is c u))

-- how a line goes
pub line_trend : (o : Ordering) (f : Line) → MatchOrdering o (Falls f) (Level f) (Rises f) → IsTrend o (affine f)
line_trend Less f h = λ t u l. lt_at_falls f h l
line_trend Equal f h = λ t u. finite_same (at_level t u f h)
line_trend Greater f h = λ t u l. lt_at f h l

-- lines that cross meet alone, and the other way round
pub meet_of_cross : (f g : Line) (l r t : Rational) → CrossAt f g l r t → MeetAlone (affine f) (affine g) l r t
meet_of_cross f g l r t h = record {
  after = h.after;
  before = h.before;
  meet = finite_same h.meet.equal;
  alone = λ u e. h.meet.alone u (same_of_finite e);
}

-- and lines that meet alone cross
pub cross_of_meet : (f g : Line) (l r t : Rational) → MeetAlone (affine f) (affine g) l r t → CrossAt f g l r t
cross_of_meet f g l r t h = record {
  after = h.after;
  before = h.before;
  meet = record { equal = same_of_finite h.meet; alone = λ u e. h.alone u (finite_same e) };
}

-- what a meeting of two functions between l and r comes to
abbrev pub IsMeeting : Affine → Affine → Rational → Rational → Result (Option Frac) WideFrac → Type 0
IsMeeting f g l r result =
    MatchResult result (λ o. MatchOption o ((t : Rational) → ¬ MeetAlone f g l r t) (λ t. MeetAlone f g l r (value t)))
    (λ e. (t : Rational) × MeetAlone f g l r t × HasDenominator t e.den × (2 ^ 60 ≤ e.den))

abbrev pub IsCrossing : Line → Line → Rational → Rational → Result (Option Frac) WideFrac → Type 0
IsCrossing f g l r result =
    MatchResult result (λ o. MatchOption o ((t : Rational) → ¬ CrossAt f g l r t) (λ t. CrossAt f g l r (value t)))
    (λ e. (t : Rational) × CrossAt f g l r t × HasDenominator t e.den × (2 ^ 60 ≤ e.den))

-- the answer on a crossing is one on a meeting
pub meeting_of_crossing : (f g : Line) (l r : Rational) (x : Result (Option Frac) WideFrac) → IsCrossing f g l r x → IsMeeting (affine f) (affine g) l r x
meeting_of_crossing f g l r (Ok None) h = λ t m. h t (cross_of_meet f g l r t m)
meeting_of_crossing f g l r (Ok (Some t)) h = meet_of_cross f g l r (value t) h
meeting_of_crossing f g l r (Err e) h = (h.0, meet_of_cross f g l r h.0 h.1, h.2, h.3)

-- it is one of either function with the other
pub meeting_swap : (f g : Affine) (l r : Rational) (x : Result (Option Frac) WideFrac) → IsMeeting f g l r x → IsMeeting g f l r x
meeting_swap f g l r (Ok None) h = λ t m. h t (alone_swap m)
meeting_swap f g l r (Ok (Some t)) h = alone_swap h
meeting_swap f g l r (Err e) h = (h.0, alone_swap h.1, h.2, h.3)

steady_low : IsSteady always_low
steady_low t u = same_reflᵉ minus_infinity

steady_high : IsSteady always_high
steady_high t u = same_reflᵉ infinity

-- a constant and what is no ramp do not meet at one time alone
pub constant_never_meets : (c : Frac) (q : Margin) (l r t : Rational) → ((f : Ramp) → q ≡ Sloping f → ⊥)
    → ¬ MeetAlone (margin_function (Fixed c)) (margin_function q) l r t
constant_never_meets c Low l r t n m = m.meet.at_most
constant_never_meets c High l r t n m = m.meet.at_least
constant_never_meets c (Fixed d) l r t n m = steady_never_meet_alone (affine (constant (value c)))
    (affine (constant (value d))) l r t (constant_steady (value c)) (constant_steady (value d)) m
constant_never_meets c (Sloping f) l r t n m = n f refl

-- nor do an infinite margin and any other
pub infinite_never_meets : (p q : Margin) (l r t : Rational) → ((c : Frac) → p ≡ Fixed c → ⊥) → ((f : Ramp) → p ≡ Sloping f → ⊥)
    → ¬ MeetAlone (margin_function p) (margin_function q) l r t
infinite_never_meets Low Low l r t n k m = steady_never_meet_alone always_low always_low l r t steady_low steady_low m
infinite_never_meets Low High l r t n k m = m.meet.at_least
infinite_never_meets Low (Fixed c) l r t n k m = m.meet.at_least
infinite_never_meets Low (Sloping f) l r t n k m = m.meet.at_least
infinite_never_meets High Low l r t n k m = m.meet.at_most
infinite_never_meets High High l r t n k m = steady_never_meet_alone always_high always_high l r t steady_high steady_high m
infinite_never_meets High (Fixed c) l r t n k m = m.meet.at_most
infinite_never_meets High (Sloping f) l r t n k m = m.meet.at_most
infinite_never_meets (Fixed c) q l r t n k m = n c refl
infinite_never_meets (Sloping f) q l r t n k m = k f refl

-- a constant whose level is bounded is bounded
pub bounded_constant : (n : ℕ) (c : Rational) → HasBoundedLevel n (affine (constant c)) → IsWithin n c
bounded_constant n c h = within_same n (at_constant c c) (h (constant_steady c) c)

-- a line that does not climb has the value that it has at one time
pub level_then : (f : Line) (c z : Rational) (o p : Ordering) → MatchOrdering o (Falls f) (Level f) (Rises f) → IsOrder p (at f z) c → is_eq o ≡ true
    → (IsTrue (is_eq p) → (t : Rational) → at f t ≈ c) × (((t : Rational) → at f t ≈ c) → IsTrue (is_eq p))
level_then f c z Less p h k e = absurd (let x : false ≡ true = e in cc)
level_then f c z Greater p h k e = absurd (let x : false ≡ true = e in cc)
level_then f c z Equal Less h k e = (λ b. absurd (let x : false ≡ true = b in cc), λ s. absurd (not_lt_of_le (ge_of_same (s z)) k))
level_then f c z Equal Equal h k e = (λ b t. same_trans (at_level t z f h) k, λ s. refl)
level_then f c z Equal Greater h k e = (λ b. absurd (let x : false ≡ true = b in cc), λ s. absurd (not_lt_of_le (le_of_same (s z)) k))

-- a line that climbs has no one value
pub level_else : (f : Line) (c : Rational) (o : Ordering) → MatchOrdering o (Falls f) (Level f) (Rises f) → is_eq o ≡ false
    → (IsTrue (is_eq o) → (t : Rational) → at f t ≈ c) × (((t : Rational) → at f t ≈ c) → IsTrue (is_eq o))
level_else f c Less h e = (λ b. absurd (let x : false ≡ true = b in cc), λ s. absurd (apart s))
  where
    later : whole (pos 0) <ʳ whole (pos 1)
    later = record { lt = lit< tt }

    apart : ((t : Rational) → at f t ≈ c) → ⊥
    apart s = not_lt_of_le (le_of_same (same_trans (s (whole (pos 0))) (same_sym (s (whole (pos 1)))))) (lt_at_falls f h later)
level_else f c Equal h e = absurd (let x : true ≡ false = e in cc)
level_else f c Greater h e = (λ b. absurd (let x : false ≡ true = b in cc), λ s. absurd (apart s))
  where
    later : whole (pos 0) <ʳ whole (pos 1)
    later = record { lt = lit< tt }

    apart : ((t : Rational) → at f t ≈ c) → ⊥
    apart s = not_lt_of_le (le_of_same (same_trans (s (whole (pos 1))) (same_sym (s (whole (pos 0)))))) (lt_at f h later)

-- minus a number within n is within n
pub within_opposite : (n : ℕ) (c : Rational) → IsWithin n c → IsWithin n (subtract (whole (pos 0)) c)
within_opposite n c h = (
  record { le = omega (arith, ap (λ x. x * c.den) (neg_parts n), h.1.le) },
  record { le = omega (arith, ap (λ x. x * c.den) (neg_parts n), h.0.le) },
)

-- the constant of a mirrored number is the negated constant
pub mirrored_constant : (m c t : Rational) → m ≈ subtract (whole (pos 0)) c → value_at (affine (constant m)) t ≈ᵉ opposite (value_at (affine (constant c)) t)
mirrored_constant m c t h =
    finite_same (same_trans (at_constant m t) (same_trans h (same_trans minus (same_negate (same_sym (at_constant c t))))))
  where
    minus : subtract (whole (pos 0)) c ≈ negate c
    minus = record { same = omega arith }

-- lines and constants that are one function
pub same_lines_values : (b : Bool) (f g : Line) → (IsTrue b ↔ ((t : Rational) → at f t ≈ at g t)) → IsTrue b ↔ AreSame (affine f) (affine g)
same_lines_values b f g e = (λ h t. finite_same (e.0 h t), λ h. e.1 (λ t. same_of_finite (h t)))

-- so for a line and a constant
pub same_line_constant : (b : Bool) (f : Line) (c : Rational) → (IsTrue b ↔ ((t : Rational) → at f t ≈ c)) → IsTrue b ↔ AreSame (affine f) (affine (constant c))
same_line_constant b f c e = (
  λ h t. finite_same (same_trans (e.0 h t) (same_sym (at_constant c t))),
  λ h. e.1 (λ t. same_trans (same_of_finite (h t)) (at_constant c t)),
)

-- a test of sameness is one of either with the other
pub same_swap : (b : Bool) (f g : Affine) → (IsTrue b ↔ AreSame f g) → IsTrue b ↔ AreSame g f
same_swap b f g e = (λ h t. same_symᵉ (value_at f t) (value_at g t) (e.0 h t), λ h. e.1 (λ t. same_symᵉ (value_at g t) (value_at f t) (h t)))

held : (c d : Rational) → AreSame (affine (constant c)) (affine (constant d)) → finite c ≈ᵉ finite d
held c d s = same_transᵉ (finite c) (finite (at (constant c) c)) (finite d) (same_symᵉ (finite (at (constant c) c)) (finite c) (constant_is c c))
    (same_transᵉ (finite (at (constant c) c)) (finite (at (constant d) c)) (finite d) (s c) (constant_is d c))

-- constants are one function where their numbers are equal
pub same_constants : (o : Ordering) (c d : Rational) → IsOrder o c d → IsTrue (is_eq o) ↔ AreSame (affine (constant c)) (affine (constant d))
same_constants Less c d h = (λ b. absurd (let x : false ≡ true = b in cc), λ s. absurd (not_lt_of_le (ge_of_same (same_of_finite (held c d s))) h))
same_constants Equal c d h = (λ b t. finite_same (same_trans (at_constant c t) (same_trans h (same_sym (at_constant d t)))), λ s. refl)
same_constants Greater c d h = (λ b. absurd (let x : false ≡ true = b in cc), λ s. absurd (not_lt_of_le (le_of_same (same_of_finite (held c d s))) h))

-- a line is no constant and no infinite margin, and a constant is no infinite one
pub line_apart : (f : Ramp) (q : Margin) → ((c : Frac) → q ≡ Fixed c → ⊥) → ((g : Ramp) → q ≡ Sloping g → ⊥)
    → ¬ AreSame (margin_function (Sloping f)) (margin_function q)
line_apart f Low n k s = (s (whole (pos 0))).at_most
line_apart f High n k s = (s (whole (pos 0))).at_least
line_apart f (Fixed c) n k s = n c refl
line_apart f (Sloping g) n k s = k g refl

-- so for a constant
pub constant_apart : (c : Frac) (q : Margin) → ((d : Frac) → q ≡ Fixed d → ⊥) → ((g : Ramp) → q ≡ Sloping g → ⊥)
    → ¬ AreSame (margin_function (Fixed c)) (margin_function q)
constant_apart c Low n k s = (s (whole (pos 0))).at_most
constant_apart c High n k s = (s (whole (pos 0))).at_least
constant_apart c (Fixed d) n k s = n d refl
constant_apart c (Sloping g) n k s = k g refl

-- -inf is no other margin
pub low_apart : (q : Margin) → (q ≡ Low → ⊥) → ¬ AreSame (margin_function Low) (margin_function q)
low_apart Low n s = n refl
low_apart _ n s = (s (whole (pos 0))).at_least

-- and inf is no other
pub high_apart : (q : Margin) → (q ≡ High → ⊥) → ¬ AreSame (margin_function High) (margin_function q)
high_apart High n s = n refl
high_apart _ n s = (s (whole (pos 0))).at_most
