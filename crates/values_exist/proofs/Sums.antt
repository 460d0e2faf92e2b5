-- Sums of multiples of a point's numbers and a constant, and what becomes of their values where one number is replaced.
use Rattle.std.proofs.Common.{List, [], ◌∷◌, pos, arith, zero-lt-suc}
use Rattle.rational.specs.Rational.{Rational, ◌≈◌, whole, ratio, add, negate, multiply, middle}
use Rattle.rational.proofs.Order.{same_refl, same_trans}
use Rattle.rational.proofs.Field.{same_add, same_mul}

-- a sum of multiples of the numbers of a point, from the first on, and a constant
pub data Sum : Type 0 where
  alone : Rational → Sum
  plus : Rational → Sum → Sum

-- its value at a point, where a number that is missing counts as 0
abbrev pub value : Sum → List Rational → Rational
value (alone k) point = k
value (plus c f) [] = value f []
value (plus c f) (x ∷ point) = add (multiply c x) (value f point)

-- 0
abbrev pub nought : Rational
nought = whole (pos 0)

-- a constant more
abbrev pub add_constant : Rational → Sum → Sum
add_constant k (alone m) = alone (add k m)
add_constant k (plus c f) = plus c (add_constant k f)

-- the sum of two sums
abbrev pub add_sums : Sum → Sum → Sum
add_sums (alone k) g = add_constant k g
add_sums (plus c f) (alone m) = add_constant m (plus c f)
add_sums (plus c f) (plus d g) = plus (add c d) (add_sums f g)

-- a multiple
abbrev pub scale : Rational → Sum → Sum
scale m (alone k) = alone (multiply m k)
scale m (plus c f) = plus (multiply m c) (scale m f)

-- the sum in which another one stands for the first number of the point
abbrev pub put : Sum → Sum → Sum
put g (alone k) = alone k
put g (plus c f) = add_sums (scale c g) f

-- the sum in which a new number of the point, after its first, counts nothing
abbrev pub widen : Sum → Sum
widen (alone k) = alone k
widen (plus c f) = plus c (plus nought f)

-- the sum with the second number of the point negated
abbrev pub turn : Sum → Sum
turn (alone k) = alone k
turn (plus c (alone k)) = plus c (alone k)
turn (plus c (plus d f)) = plus c (plus (negate d) f)

-- one half
abbrev pub half : Rational
half = ratio (pos 1) 2 (zero-lt-suc 1)

-- the middle of two sums
abbrev pub middle_sum : Sum → Sum → Sum
middle_sum f g = scale half (add_sums f g)

-- two summands change places
pub swapped : (a b c : Rational) → add a (add b c) ≈ add b (add a c)
swapped a b c = omega arith

add_value : (k : Rational) (f : Sum) (point : List Rational) → value (add_constant k f) point ≈ add k (value f point)
add_value k (alone m) point = same_refl (add k m)
add_value k (plus c f) [] = add_value k f []
add_value k (plus c f) (x ∷ point) =
    same_trans (same_add (same_refl (multiply c x)) (add_value k f point)) (swapped (multiply c x) k (value f point))

flipped : (a b : Rational) → add a b ≈ add b a
flipped a b = omega arith

of_two_products : (c d x a b : Rational) → add (multiply (add c d) x) (add a b) ≈ add (add (multiply c x) a) (add (multiply d x) b)
of_two_products c d x a b = omega arith

-- the value of a sum of sums
pub add_sums_value : (f g : Sum) (point : List Rational) → value (add_sums f g) point ≈ add (value f point) (value g point)
add_sums_value (alone k) g point = add_value k g point
add_sums_value (plus c f) (alone m) point = same_trans (add_value m (plus c f) point) (flipped m (value (plus c f) point))
add_sums_value (plus c f) (plus d g) [] = add_sums_value f g []
add_sums_value (plus c f) (plus d g) (x ∷ point) =
    same_trans (same_add (same_refl (multiply (add c d) x)) (add_sums_value f g point)) (of_two_products c d x (value f point) (value g point))

factored : (m c x a : Rational) → add (multiply (multiply m c) x) (multiply m a) ≈ multiply m (add (multiply c x) a)
factored m c x a = omega arith

-- the value of a multiple
pub scale_value : (m : Rational) (f : Sum) (point : List Rational) → value (scale m f) point ≈ multiply m (value f point)
scale_value m (alone k) point = same_refl (multiply m k)
scale_value m (plus c f) [] = scale_value m f []
scale_value m (plus c f) (x ∷ point) =
    same_trans (same_add (same_refl (multiply (multiply m c) x)) (scale_value m f point)) (factored m c x (value f point))

-- the value with another sum in the first number's place
pub put_value : (g f : Sum) (point : List Rational) → value (put g f) point ≈ value f (value g point ∷ point)
put_value g (alone k) point = same_refl k
put_value g (plus c f) point =
    same_trans (add_sums_value (scale c g) f point) (same_add (scale_value c g point) (same_refl (value f point)))

-- a number that counts nothing, first
pub nothing_first : (x b : Rational) → add (multiply nought x) b ≈ b
nothing_first x b = omega arith

nothing_more : (x a b : Rational) → add a (add (multiply nought x) b) ≈ add a b
nothing_more x a b = omega arith

-- the value with a number that counts nothing
pub widen_value : (f : Sum) (x y : Rational) (point : List Rational) → value (widen f) (x ∷ y ∷ point) ≈ value f (x ∷ point)
widen_value (alone k) x y point = same_refl k
widen_value (plus c f) x y point = nothing_more y (multiply c x) (value f point)

turned : (d v a b : Rational) → add a (add (multiply (negate d) v) b) ≈ add a (add (multiply d (negate v)) b)
turned d v a b = omega arith

-- the value with the second number negated
pub turn_value : (f : Sum) (t v : Rational) (point : List Rational) → value (turn f) (t ∷ v ∷ point) ≈ value f (t ∷ negate v ∷ point)
turn_value (alone k) t v point = same_refl k
turn_value (plus c (alone k)) t v point = same_refl (add (multiply c t) k)
turn_value (plus c (plus d f)) t v point = turned d v (multiply c t) (value f point)

halved : (a b : Rational) → multiply half (add a b) ≈ middle a b
halved a b = omega arith

-- the value of the middle
pub middle_value : (f g : Sum) (point : List Rational) → value (middle_sum f g) point ≈ middle (value f point) (value g point)
middle_value f g point =
    same_trans (scale_value half (add_sums f g) point)
    (same_trans (same_mul (same_refl half) (add_sums_value f g point)) (halved (value f point) (value g point)))
