-- What rows settle of a node at a time, by the times at which its children are settled: one step of the early reading.
use Rattle.std.specs.Prelude.{◌⊎◌, ℕ, Bool, true, false, Option}
use Rattle.rational.specs.Time.{Rational, Within, ◌≤ʳ◌}
use Rattle.stl_syntax.specs.Trace.{Trace, start, stop}
use Rattle.stl_syntax.specs.Early.{OpenAhead, OpenBehind, IsSure}

-- where each time of a window has to be of a set, all count; once the input has ended, those up to the last row
abbrev pub Counts : Bool → Trace → Rational → Type 0
Counts true tr u = u ≤ʳ stop tr
Counts false tr u = Unit {0}

-- some sure time of the window from t + a to t + b is of X; each that counts is
abbrev pub SomeAhead : Trace → ℕ → ℕ → Bool → Bool → (Rational → Type 0) → Rational → Type 0
SomeAhead tr a b a_in b_in X t = (u : Rational) × OpenAhead (start tr) a b a_in b_in t u × IsSure tr t u × X u

abbrev pub OnlyAhead : Bool → Trace → ℕ → ℕ → Bool → Bool → (Rational → Type 0) → Rational → Type 0
OnlyAhead ended tr a b a_in b_in X t = (u : Rational) → OpenAhead (start tr) a b a_in b_in t u → Counts ended tr u → X u

-- some time of the window from t - b to t - a is of X; each is
abbrev pub SomeBehind : Trace → ℕ → Option ℕ → Bool → Bool → (Rational → Type 0) → Rational → Type 0
SomeBehind tr a b a_in b_in X t = (u : Rational) × OpenBehind (start tr) a b a_in b_in t u × IsSure tr t u × X u

abbrev pub OnlyBehind : Trace → ℕ → Option ℕ → Bool → Bool → (Rational → Type 0) → Rational → Type 0
OnlyBehind tr a b a_in b_in X t = (u : Rational) → OpenBehind (start tr) a b a_in b_in t u → X u

-- some sure time of the window is of Q, and all times up to it are of P
abbrev pub UntilHolds : Trace → ℕ → ℕ → (Rational → Type 0) → (Rational → Type 0) → Rational → Type 0
UntilHolds tr a b P Q t = (u : Rational) × OpenAhead (start tr) a b true true t u × IsSure tr t u × Q u × ((v : Rational) → Within t u v → P v)

-- each time of the window that counts is of M, or some time up to it is of N
abbrev pub UntilFails : Bool → Trace → ℕ → ℕ → (Rational → Type 0) → (Rational → Type 0) → Rational → Type 0
UntilFails ended tr a b N M t =
    (u : Rational) → OpenAhead (start tr) a b true true t u → Counts ended tr u → M u ⊎ ((v : Rational) × Within t u v × N v)

-- the same behind
abbrev pub SinceHolds : Trace → ℕ → Option ℕ → (Rational → Type 0) → (Rational → Type 0) → Rational → Type 0
SinceHolds tr a b P Q t = (u : Rational) × OpenBehind (start tr) a b true true t u × IsSure tr t u × Q u × ((v : Rational) → Within u t v → P v)

abbrev pub SinceFails : Trace → ℕ → Option ℕ → (Rational → Type 0) → (Rational → Type 0) → Rational → Type 0
SinceFails tr a b N M t = (u : Rational) → OpenBehind (start tr) a b true true t u → M u ⊎ ((v : Rational) × Within u t v × N v)
