-- The affine functions and constants from which the value of one step at a time is taken, and when a step may refuse for a
-- denominator.
use Rattle.std.specs.Prelude.{◌≡◌, ◌⊎◌, ℕ, ◌^◌, ◌≤◌, Option, IfSome, Some, None, Bool, true, pos, neg_ℤ, ℤ}
use Rattle.rational.specs.Windows.{Ahead, Behind, Function, Window}
use Rattle.rational.specs.Time.{Rational, Within, shifted, HasDenominator, ◌<ʳ◌, ◌≈◌}
use Rattle.rational.specs.Extended.{Extended, finite, Affine, value_at, Passes, ◌≈ᵉ◌}

-- the function's value at t is that of the line
abbrev pub Follows : Function → Affine → Rational → Type 0
Follows F line t = (v : Extended) × F t v × Passes line t v

-- the line is the function on the open interval from a to b
abbrev pub IsLineOn : Function → Rational → Rational → Affine → Type 0
IsLineOn F a b line = (t : Rational) → a <ʳ t → t <ʳ b → Follows F line t

-- the line is the function on some open interval about tau
pub record IsPart (F : Function) (tau : Rational) (line : Affine) : Type 0 where
  pub a : Rational
  pub b : Rational
  pub above : a <ʳ tau
  pub below : tau <ʳ b
  pub on : IsLineOn F a b line

-- u is an end of the domain, or the function is not affine through u
pub data IsBreakpoint (F : Function) (from to : Rational) : Rational → Type 0 where
  start : {u : Rational} → u ≈ from → IsBreakpoint F from to u
  stop : {u : Rational} → u ≈ to → IsBreakpoint F from to u
  inner : {u : Rational} → Within from to u → ((line : Affine) → ¬ IsPart F u line) → IsBreakpoint F from to u

-- v is the limit of the function at u from the left
pub record IsLeftLimit (F : Function) (u : Rational) (v : Extended) : Type 0 where
  pub a : Rational
  pub above : a <ʳ u
  pub line : Affine
  pub on : IsLineOn F a u line
  pub value : Passes line u v

-- v is the limit of the function at u from the right
pub record IsRightLimit (F : Function) (u : Rational) (v : Extended) : Type 0 where
  pub b : Rational
  pub below : u <ʳ b
  pub line : Affine
  pub on : IsLineOn F u b line
  pub value : Passes line u v

-- the function that is v at every time
abbrev pub IsConstant : Affine → Extended → Type 0
IsConstant line v = (t : Rational) → Passes line t v

-- at each time the one line has the value that the other has k later
abbrev pub IsMoved : Affine → ℤ → Affine → Type 0
IsMoved old k line = (t : Rational) → Passes line t (value_at old (shifted t k))

-- a step, over its inputs: two inputs and their least or greatest; the Sup or Inf over a window ahead or behind; until to the end
-- and since from the start, with the result
pub data Step : Type 1 where
  of_two : Function → Function → Step
  window_ahead : Function → ℕ → ℕ → Bool → Bool → Step
  window_behind : Function → ℕ → Option ℕ → Bool → Bool → Step
  until_end : Function → Function → Function → Step
  since_start : Function → Function → Function → Step

-- by how much the ends of a window behind lie from tau
abbrev pub IsEndBehind : ℕ → Option ℕ → ℤ → Type 0
IsEndBehind a None k = k ≡ neg_ℤ (pos a)
IsEndBehind a (Some b) k = (k ≡ neg_ℤ (pos a)) ⊎ (k ≡ neg_ℤ (pos b))

-- some time lies in the window
abbrev pub HasTime : Window → Type 0
HasTime W = (u : Rational) × W u

-- the part of P at an end of the window, where that end lies in the domain, moved back to tau
abbrev pub IsEndPart : Function → Rational → Rational → Rational → Affine → (ℤ → Type 0) → Type 0
IsEndPart P from to tau line Ends =
    (k : ℤ) × Ends k × (old : Affine) × Within from to (shifted tau k) × IsPart P (shifted tau k) old × IsMoved old k line

-- the value of P at a breakpoint in the window
abbrev pub IsValueWithin : Function → Rational → Rational → Window → Affine → Type 0
IsValueWithin P from to W line = (u : Rational) × IsBreakpoint P from to u × W u × (v : Extended) × P u v × IsConstant line v

-- a limit of P at a breakpoint of the window with its ends added, from a side on which the window goes on
abbrev pub IsLimitWithin : Function → Rational → Rational → Window → Window → Window → Affine → Type 0
IsLimitWithin P from to Closure GoesLeft GoesRight line =
    (u : Rational) × IsBreakpoint P from to u × Closure u × (v : Extended)
    × (((from <ʳ u) × GoesLeft u × IsLeftLimit P u v) ⊎ ((u <ʳ to) × GoesRight u × IsRightLimit P u v)) × IsConstant line v

-- the lines meet at t, and are not one line
pub record IsCrossing (left right : Affine) (t : Rational) : Type 0 where
  pub meet : value_at left t ≈ᵉ value_at right t
  pub elsewhere : Rational
  pub apart : ¬ (value_at left elsewhere ≈ᵉ value_at right elsewhere)

-- u is the first time after tau that is a breakpoint of an input or a crossing of the inputs' parts
pub record IsNext (P Q : Function) (from to tau u : Rational) : Type 0 where
  pub inside : Within from to u
  pub after : tau <ʳ u
  pub left : Affine
  pub right : Affine
  pub left_on : IsLineOn P tau u left
  pub right_on : IsLineOn Q tau u right
  pub none_before : (t : Rational) → tau <ʳ t → t <ʳ u → ¬ IsCrossing left right t
  pub here : IsBreakpoint P from to u ⊎ IsBreakpoint Q from to u ⊎ IsCrossing left right u

-- u is the last such time before tau
pub record IsPrevious (P Q : Function) (from to tau u : Rational) : Type 0 where
  pub inside : Within from to u
  pub before : u <ʳ tau
  pub left : Affine
  pub right : Affine
  pub left_on : IsLineOn P u tau left
  pub right_on : IsLineOn Q u tau right
  pub none_before : (t : Rational) → u <ʳ t → t <ʳ tau → ¬ IsCrossing left right t
  pub here : IsBreakpoint P from to u ⊎ IsBreakpoint Q from to u ⊎ IsCrossing left right u

-- the line is in play at tau in the step, over the domain
abbrev pub IsInPlay : Step → Rational → Rational → Rational → Affine → Type 0
IsInPlay (of_two P Q) from to tau line = IsPart P tau line ⊎ IsPart Q tau line
IsInPlay (window_ahead P a b a_in b_in) from to tau line =
    HasTime (Ahead from to a b a_in b_in tau)
    × (IsEndPart P from to tau line (λ k. (k ≡ pos a) ⊎ (k ≡ pos b))
    ⊎ IsValueWithin P from to (Ahead from to a b a_in b_in tau) line
    ⊎ IsLimitWithin P from to (Ahead from to a b true true tau) (λ u. shifted tau (pos a) <ʳ u) (λ u. u <ʳ shifted tau (pos b)) line)
IsInPlay (window_behind P a b a_in b_in) from to tau line =
    HasTime (Behind from to a b a_in b_in tau)
    × (IsEndPart P from to tau line (IsEndBehind a b)
    ⊎ IsValueWithin P from to (Behind from to a b a_in b_in tau) line
    ⊎ IsLimitWithin P from to (Behind from to a b true true tau) (λ u. IfSome b (λ b. tau <ʳ shifted u (pos b))) (λ u. shifted u (pos a) <ʳ tau) line)
IsInPlay (until_end P Q R) from to tau line =
    IsPart P tau line ⊎ IsPart Q tau line
    ⊎ ((u : Rational) × IsNext P Q from to tau u × (v : Extended) × IsConstant line v
    × ((P u v ⊎ IsLeftLimit P u v) ⊎ (Q u v ⊎ IsLeftLimit Q u v) ⊎ (R u v ⊎ IsLeftLimit R u v)))
IsInPlay (since_start P Q R) from to tau line =
    IsPart P tau line ⊎ IsPart Q tau line
    ⊎ ((u : Rational) × IsPrevious P Q from to tau u × (v : Extended) × IsConstant line v
    × ((P u v ⊎ IsRightLimit P u v) ⊎ (Q u v ⊎ IsRightLimit Q u v) ⊎ (R u v ⊎ IsRightLimit R u v)))

-- both lines are in play at one time strictly inside the domain and between a and b, and meet there alone, at a time with the
-- denominator den
pub record IsWideCrossing (InPlay : Rational → Affine → Type 0) (from to : Rational) (p q : Affine) (a b : Rational) (den : ℕ) : Type 0 where
  pub tau : Rational
  pub after_start : from <ʳ tau
  pub before_stop : tau <ʳ to
  pub above : a <ʳ tau
  pub below : tau <ʳ b
  pub first : InPlay tau p
  pub second : InPlay tau q
  pub meet : value_at p tau ≈ᵉ value_at q tau
  pub alone : (t : Rational) → value_at p t ≈ᵉ value_at q t → t ≈ tau
  pub denominator : HasDenominator tau den
  pub wide : 2 ^ 60 ≤ den

-- the constant with p's value at time u is in play at some time, and that value has the denominator den
pub record IsWideValue (InPlay : Rational → Affine → Type 0) (from to : Rational) (p : Affine) (u : Rational) (den : ℕ) : Type 0 where
  pub tau : Rational
  pub after_start : from <ʳ tau
  pub before_stop : tau <ʳ to
  pub value : Rational
  pub is_value : Passes p u (finite value)
  pub line : Affine
  pub constant : IsConstant line (finite value)
  pub in_play : InPlay tau line
  pub denominator : HasDenominator value den
  pub wide : 2 ^ 60 ≤ den
