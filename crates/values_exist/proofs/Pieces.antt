-- Functions of time that are one linear sum on each of finitely many stretches; sums and multiples of such functions are such functions, and a
-- test of the sums is one of the function.
use Rattle.std.proofs.Common.{◌≡◌, ◌↔◌, inl, inr, Bool, true, false, List, [], ◌∷◌, pos, negsuc, refl, arith}
use Rattle.std.specs.Prelude.{if◌then◌else◌}
use Rattle.rational.specs.Rational.{Rational, ◌<ʳ◌, ◌≤ʳ◌, ◌≈◌, whole, add, negate, multiply}
use Rattle.rational.specs.Time.{less}
use Rattle.rational.specs.Line.{Line, at}
use Rattle.rational.proofs.Order.{same_refl, same_sym, same_trans, le_or_lt, not_lt_of_le, le_of_same, ge_of_same, lt_of_lt_of_le, lt_of_le_of_lt, le_trans}
use Rattle.rational.proofs.Field.{same_add, same_mul}
use Rattle.rational.proofs.TimeLemmas.{less_out, less_in}
use Rattle.values_exist.proofs.Sums.{Sum, alone, plus, value, nought, nothing_first, swapped, add_sums, add_sums_value, scale, scale_value}
use Rattle.values_exist.proofs.LinearTests.{Test, above, opposite, both, either, Passes}

-- one sum, or one of two functions before a time and another from it on
pub data Pieces : Type 0 where
  piece : Sum → Pieces
  split : Rational → Pieces → Pieces → Pieces

-- the value at t
abbrev pub read : Pieces → Rational → Rational
read (piece f) t = value f (t ∷ [])
read (split k early late) t = if less t k then read early t else read late t

-- the function is so given
abbrev pub IsPiecewise : (Rational → Rational) → Type 0
IsPiecewise f = (pieces : Pieces) × ((t : Rational) → f t ≈ read pieces t)

-- what holds of two choices by one test
chosen : (R : Rational → Rational → Type 0) (b : Bool) (x y x' y' : Rational) → R x x' → R y y' → R (if b then x else y) (if b then x' else y')
chosen R true x y x' y' h k = h
chosen R false x y x' y' h k = k

-- each piece with a sum more
abbrev add_piece : Sum → Pieces → Pieces
add_piece f (piece g) = piece (add_sums f g)
add_piece f (split k early late) = split k (add_piece f early) (add_piece f late)

-- the pieces of a sum of two functions
abbrev add_pieces : Pieces → Pieces → Pieces
add_pieces (piece f) other = add_piece f other
add_pieces (split k early late) other = split k (add_pieces early other) (add_pieces late other)

add_piece_read : (f : Sum) (pieces : Pieces) (t : Rational) → read (add_piece f pieces) t ≈ add (value f (t ∷ [])) (read pieces t)
add_piece_read f (piece g) t = add_sums_value f g (t ∷ [])
add_piece_read f (split k early late) t =
    chosen (λ x y. x ≈ add (value f (t ∷ [])) y) (less t k) (read (add_piece f early) t) (read (add_piece f late) t) (read early t) (read late t)
    (add_piece_read f early t) (add_piece_read f late t)

add_pieces_read : (pieces other : Pieces) (t : Rational) → read (add_pieces pieces other) t ≈ add (read pieces t) (read other t)
add_pieces_read (piece f) other t = add_piece_read f other t
add_pieces_read (split k early late) other t =
    chosen (λ x y. x ≈ add y (read other t)) (less t k) (read (add_pieces early other) t) (read (add_pieces late other) t) (read early t) (read late t)
    (add_pieces_read early other t) (add_pieces_read late other t)

-- each piece times a number
abbrev scaled : Rational → Pieces → Pieces
scaled m (piece f) = piece (scale m f)
scaled m (split k early late) = split k (scaled m early) (scaled m late)

scaled_read : (m : Rational) (pieces : Pieces) (t : Rational) → read (scaled m pieces) t ≈ multiply m (read pieces t)
scaled_read m (piece f) t = scale_value m f (t ∷ [])
scaled_read m (split k early late) t =
    chosen (λ x y. x ≈ multiply m y) (less t k) (read (scaled m early) t) (read (scaled m late) t) (read early t) (read late t)
    (scaled_read m early t) (scaled_read m late t)

-- the sum of two such functions
pub piecewise_sum : (f g : Rational → Rational) → IsPiecewise f → IsPiecewise g → IsPiecewise (λ t. add (f t) (g t))
piecewise_sum f g (p, same) (q, alike) =
    (add_pieces p q, λ t. same_trans (same_add (same t) (alike t)) (same_sym (add_pieces_read p q t)))

-- a multiple of one
pub piecewise_multiple : (m : Rational) (f : Rational → Rational) → IsPiecewise f → IsPiecewise (λ t. multiply m (f t))
piecewise_multiple m f (p, same) = (scaled m p, λ t. same_trans (same_mul (same_refl m) (same t)) (same_sym (scaled_read m p t)))

-- a function with the same values
pub piecewise_same : (f g : Rational → Rational) → ((t : Rational) → g t ≈ f t) → IsPiecewise f → IsPiecewise g
piecewise_same f g alike (p, same) = (p, λ t. same_trans (alike t) (same t))

-- a constant
pub piecewise_constant : (k : Rational) → IsPiecewise (λ t. k)
piecewise_constant k = (piece (alone k), λ t. same_refl k)

-- a line's slope, and its value at 0
abbrev slope : Line → Rational
slope f = record { up = f.rise_up; down = f.rise_down; den = f.run; positive = f.positive }

abbrev base : Line → Rational
base f = record { up = f.base_up; down = f.base_down; den = f.run; positive = f.positive }

line_value : (f : Line) (t : Rational) → at f t ≈ add (multiply (slope f) t) (base f)
line_value f t = omega arith

-- a line
pub piecewise_line : (f : Line) → IsPiecewise (at f)
piecewise_line f = (piece (plus (slope f) (alone (base f))), line_value f)

-- one function before a time and another from it on
pub piecewise_split : (k : Rational) (f g : Rational → Rational) → IsPiecewise f → IsPiecewise g → IsPiecewise (λ t. if less t k then f t else g t)
piecewise_split k f g (p, same) (q, alike) =
    (split k p q, λ t. chosen (λ x y. x ≈ y) (less t k) (f t) (g t) (read p t) (read q t) (same t) (alike t))

-- one of two functions
pub piecewise_choice : (b : Bool) (f g : Rational → Rational) → IsPiecewise f → IsPiecewise g → IsPiecewise (λ t. if b then f t else g t)
piecewise_choice true f g p q = p
piecewise_choice false f g p q = q

-- the first number comes before k
abbrev pub before_number : Rational → Test
before_number k = above (plus (whole (negsuc 0)) (alone k))

-- it comes after k
abbrev pub after_number : Rational → Test
after_number k = above (plus (whole (pos 1)) (alone (negate k)))

-- as the tests say
pub before_number_passes : (k t : Rational) (point : List Rational) → Passes (before_number k) (t ∷ point) ↔ (t <ʳ k)
before_number_passes k t point = (λ h. omega arith, λ h. omega arith)

-- so after it
pub after_number_passes : (k t : Rational) (point : List Rational) → Passes (after_number k) (t ∷ point) ↔ (k <ʳ t)
after_number_passes k t point = (λ h. omega arith, λ h. omega arith)

-- a test of each sum, by the stretches
abbrev pub piece_test : (Sum → Test) → Pieces → Test
piece_test g (piece f) = g f
piece_test g (split k early late) =
    either (both (before_number k) (piece_test g early)) (both (opposite (before_number k)) (piece_test g late))

-- tests the function
pub piece_test_passes : (g : Sum → Test) (t : Rational) (point : List Rational) (R : Rational → Type 0)
    → ((f : Sum) → Passes (g f) (t ∷ point) ↔ R (value f (t ∷ []))) → (pieces : Pieces) → Passes (piece_test g pieces) (t ∷ point) ↔ R (read pieces t)
piece_test_passes g t point R same (piece f) = same f
piece_test_passes g t point R same (split k early late) =
    by_test (less t k) refl (piece_test_passes g t point R same early) (piece_test_passes g t point R same late)
  where
    before : less t k ≡ true → Passes (before_number k) (t ∷ point)
    before e = (before_number_passes k t point).1 (less_out t k e)

    not_before : less t k ≡ false → ¬ Passes (before_number k) (t ∷ point)
    not_before e h = let y : less t k ≡ true = less_in t k ((before_number_passes k t point).0 h) in cc

    by_test : (b : Bool) → less t k ≡ b → Passes (piece_test g early) (t ∷ point) ↔ R (read early t)
        → Passes (piece_test g late) (t ∷ point) ↔ R (read late t)
        → Passes (piece_test g (split k early late)) (t ∷ point) ↔ R (if b then read early t else read late t)
    by_test true e i j =
        (λ h. elim h [ inl m ↦ i.0 m.1 | inr m ↦ absurd (m.0 (before e)) ], λ r. inl (before e, i.1 r))
    by_test false e i j =
        (λ h. elim h [ inl m ↦ absurd (not_before e m.0) | inr m ↦ j.0 m.1 ], λ r. inr (not_before e, j.1 r))

-- a multiple of the second number, and a sum of the first
abbrev beside : Rational → Sum → Sum
beside m (alone k) = plus nought (plus m (alone k))
beside m (plus c f) = plus c (plus m (alone (value f [])))

beside_value : (m : Rational) (f : Sum) (t x : Rational) → value (beside m f) (t ∷ x ∷ []) ≈ add (multiply m x) (value f (t ∷ []))
beside_value m (alone k) t x = nothing_first t (add (multiply m x) k)
beside_value m (plus c f) t x = swapped (multiply c t) (multiply m x) (value f [])

-- a sum of the first number is above 0, and below
abbrev positive_test : Sum → Test
positive_test f = above (beside nought f)

abbrev negative_test : Sum → Test
negative_test f = above (beside nought (scale (whole (negsuc 0)) f))

positive_passes : (f : Sum) (t x : Rational) → Passes (positive_test f) (t ∷ x ∷ []) ↔ (nought <ʳ value f (t ∷ []))
positive_passes f t x = (λ h. lt_of_lt_of_le h (le_of_same (one f)), λ h. lt_of_lt_of_le h (ge_of_same (one f)))
  where
    one : (f : Sum) → value (beside nought f) (t ∷ x ∷ []) ≈ value f (t ∷ [])
    one f = same_trans (beside_value nought f t x) (nothing_first x (value f (t ∷ [])))

negated : (v : Rational) → (nought <ʳ multiply (whole (negsuc 0)) v) ↔ (v <ʳ nought)
negated v = (λ h. omega arith, λ h. omega arith)

negative_passes : (f : Sum) (t x : Rational) → Passes (negative_test f) (t ∷ x ∷ []) ↔ (value f (t ∷ []) <ʳ nought)
negative_passes f t x =
    let p = positive_passes (scale (whole (negsuc 0)) f) t x in
    let n = negated (value f (t ∷ [])) in
    let e = scale_value (whole (negsuc 0)) f (t ∷ []) in
    (λ h. n.0 (lt_of_lt_of_le (p.0 h) (le_of_same e)), λ h. p.1 (lt_of_lt_of_le (n.1 h) (ge_of_same e)))

-- the second number is at most a sum of the first
abbrev at_most_test : Sum → Test
at_most_test f = opposite (above (beside (whole (pos 1)) (scale (whole (negsuc 0)) f)))

at_most_passes : (f : Sum) (t x : Rational) → Passes (at_most_test f) (t ∷ x ∷ []) ↔ (x ≤ʳ value f (t ∷ []))
at_most_passes f t x = (out, λ h k. not_lt_of_le h (apart_out x (value f (t ∷ [])) (lt_of_lt_of_le k (le_of_same one))))
  where
    apart_out : (x v : Rational) → nought <ʳ add (multiply (whole (pos 1)) x) (multiply (whole (negsuc 0)) v) → v <ʳ x
    apart_out x v h = omega arith

    apart_in : (x v : Rational) → v <ʳ x → nought <ʳ add (multiply (whole (pos 1)) x) (multiply (whole (negsuc 0)) v)
    apart_in x v h = omega arith

    one : value (beside (whole (pos 1)) (scale (whole (negsuc 0)) f)) (t ∷ x ∷ [])
        ≈ add (multiply (whole (pos 1)) x) (multiply (whole (negsuc 0)) (value f (t ∷ [])))
    one = same_trans (beside_value (whole (pos 1)) (scale (whole (negsuc 0)) f) t x)
        (same_add (same_refl (multiply (whole (pos 1)) x)) (scale_value (whole (negsuc 0)) f (t ∷ [])))

    out : Passes (at_most_test f) (t ∷ x ∷ []) → x ≤ʳ value f (t ∷ [])
    out n = elim (le_or_lt x (value f (t ∷ []))) [
      | inl h ↦ h
      | inr h ↦ absurd (n (lt_of_lt_of_le (apart_in x (value f (t ∷ [])) h) (ge_of_same one)))
    ]

-- what is said of the value of a piecewise function is a test of the time, as long as it is said of numbers and not of pairs
abbrev pub IsSaid : (Rational → Rational → Type 0) → Type 0
IsSaid R = (f : Rational → Rational) → IsPiecewise f → (φ : Test) × ((t x : Rational) → Passes φ (t ∷ x ∷ []) ↔ R (f t) x)

said : (R : Rational → Rational → Type 0) (g : Sum → Test) → ((f : Sum) (t x : Rational) → Passes (g f) (t ∷ x ∷ []) ↔ R (value f (t ∷ [])) x)
    → ((v w x : Rational) → v ≈ w → R v x → R w x) → IsSaid R
said R g same alike f (p, one) = (
  piece_test g p,
  λ t x.
      let i = piece_test_passes g t (x ∷ []) (λ v. R v x) (λ f. same f t x) p in
      (λ h. alike (read p t) (f t) x (same_sym (one t)) (i.0 h), λ h. i.1 (alike (f t) (read p t) x (one t) h)),
)

-- it is above 0
pub positive_said : IsSaid (λ v x. nought <ʳ v)
positive_said = said (λ v x. nought <ʳ v) positive_test positive_passes (λ v w x e h. lt_of_lt_of_le h (le_of_same e))

-- it is below 0
pub negative_said : IsSaid (λ v x. v <ʳ nought)
negative_said = said (λ v x. v <ʳ nought) negative_test negative_passes (λ v w x e h. lt_of_le_of_lt (ge_of_same e) h)

-- a number is at most it
pub at_most_said : IsSaid (λ v x. x ≤ʳ v)
at_most_said = said (λ v x. x ≤ʳ v) at_most_test at_most_passes (λ v w x e h. le_trans h (le_of_same e))
