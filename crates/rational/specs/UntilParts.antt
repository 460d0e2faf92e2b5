-- What bounded until and since are composed of: windows, and until to the end and since from the start.
use Rattle.std.specs.Prelude.{ℕ, ◌≤◌, Option, Some, true, IfSome}
use Rattle.rational.specs.Time.{Rational, Within}
use Rattle.rational.specs.Extended.{Extended, IsLeast}
use Rattle.rational.specs.Windows.{Ahead, Behind, Function, IsSupOver, IsInfOver, IsUntil, IsSince, UntilToEnd, SinceFromStart}

module _ (lowest highest : Extended) (from to : Rational) (P Q : Function) where
  -- the until to the end has a value at each time
  abbrev pub HasUntilToEnd : Type 0
  HasUntilToEnd = (t : Rational) → Within from to t → (v : Extended) × UntilToEnd lowest highest to P Q t v

  -- the since from the start has a value at each time
  abbrev pub HasSinceFromStart : Type 0
  HasSinceFromStart = (t : Rational) → Within from to t → (v : Extended) × SinceFromStart lowest highest from P Q t v

  -- `p until[a,b] q` is `eventually[a,b] q and always[0,a] (p until to the end q)`
  abbrev pub UntilIsComposed : Type 0
  UntilIsComposed =
      (t : Rational) (a b : ℕ) (c d r : Extended) → Within from to t → a ≤ b
      → IsSupOver lowest (Ahead from to a b true true t) Q c
      → IsInfOver highest (Ahead from to 0 a true true t) (UntilToEnd lowest highest to P Q) d
      → IsLeast c d r
      → IsUntil lowest highest (Ahead from to a b true true t) P Q t r

  -- `p since[a,b] q` is `once[a,b] q and historically[0,a] (p since from the start q)`; b may be left out
  abbrev pub SinceIsComposed : Type 0
  SinceIsComposed =
      (t : Rational) (a : ℕ) (b : Option ℕ) (c d r : Extended) → Within from to t → IfSome b (λ b. a ≤ b)
      → IsSupOver lowest (Behind from to a b true true t) Q c
      → IsInfOver highest (Behind from to 0 (Some a) true true t) (SinceFromStart lowest highest from P Q) d
      → IsLeast c d r
      → IsSince lowest highest (Behind from to a b true true t) P Q t r
