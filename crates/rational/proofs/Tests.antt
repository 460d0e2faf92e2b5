-- What tests tell: truths, and the order of whole numbers.
use Rattle.std.proofs.Common.{◌≡◌, ◌⊎◌, inl, inr, ◌≤◌, ℤ, Bool, true, false, ◌&&◌, cond, arith, refl, sym}
use Rattle.std.specs.Bool.{beq}
use Rattle.std.specs.Prelude.{MatchBool, IsTrue, int_lt, ◌<ℤ◌, ◌≤ℤ◌, if◌then◌else◌}
use Rattle.std.proofs.lemmas.Bool.{false≢true}
use Rattle.std.proofs.lemmas.Int.{ints}

-- two tests of which each follows from the other are one
pub same_tests : (a b : Bool) → (IsTrue a → IsTrue b) → (IsTrue b → IsTrue a) → a ≡ b
same_tests true b f g = sym (f refl)
same_tests false true f g = g refl
same_tests false false f g = refl

-- truths that come out as the same are so
pub same_of_beq : (a b : Bool) → beq a b ≡ true → a ≡ b
same_of_beq true true e = refl
same_of_beq true false e = absurd (false≢true e)
same_of_beq false true e = absurd (false≢true e)
same_of_beq false false e = refl

-- two truths of one fact are one
pub one_truth : (P : Type 0) (a b : Bool) → MatchBool a P (¬ P) → MatchBool b P (¬ P) → a ≡ b
one_truth P true true x y = refl
one_truth P true false x y = absurd (y x)
one_truth P false true x y = absurd (x y)
one_truth P false false x y = refl

-- what follows in each case of a test
pub match_weaker : (b : Bool) (A B C D : Type 0) → (A → C) → (B → D) → MatchBool b A B → MatchBool b C D
match_weaker true A B C D f g h = f h
match_weaker false A B C D f g h = g h

-- what follows from one of two facts
pub either : {A B C D : Type 0} → (A → C) → (B → D) → A ⊎ B → C ⊎ D
either f g (inl a) = inl (f a)
either f g (inr b) = inr (g b)

-- nothing is so and false
pub and_false : (b : Bool) → (b && false) ≡ false
and_false true = refl
and_false false = refl

-- a test counts once at most
pub one_at_most : (b : Bool) → (if b then 1 else 0) ≤ 1
one_at_most true = omega arith
one_at_most false = omega arith

-- the test of two whole numbers tells their order
pub int_order : (a b : ℤ) (t : Bool) → int_lt a b ≡ t → cond t (a <ℤ b) (b ≤ℤ a)
int_order a b true e = omega (arith, ints)
int_order a b false e = omega (arith, ints)

-- a lesser number comes out as less
pub int_below : (a b : ℤ) → a <ℤ b → int_lt a b ≡ true
int_below a b h = by_test (int_lt a b) refl
  where
    by_test : (t : Bool) → int_lt a b ≡ t → int_lt a b ≡ true
    by_test true e = e
    by_test false e = absurd (let l : b ≤ℤ a = int_order a b false e in omega (arith, ints))

-- and one that is no less does not
pub int_not_below : (a b : ℤ) → b ≤ℤ a → int_lt a b ≡ false
int_not_below a b h = by_test (int_lt a b) refl
  where
    by_test : (t : Bool) → int_lt a b ≡ t → int_lt a b ≡ false
    by_test true e = absurd (let l : a <ℤ b = int_order a b true e in omega (arith, ints))
    by_test false e = e
