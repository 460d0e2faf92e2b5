-- Windows of time, and the Sup, the Inf, the until and the since of functions over them.
-- A function of time is a relation: `F t v` where v is its value at t.
use Rattle.std.specs.Prelude.{ℕ, Bool, Option, IfSome}
use Rattle.rational.specs.Time.{Rational, Within, Precedes, later}
use Rattle.rational.specs.Extended.{Extended, IsLeast, IsSup, IsInf}

-- u lies in the window from t + a to t + b, each end in or out, as far as that lies between `from` and `to`
pub record Ahead (from to : Rational) (a b : ℕ) (a_in b_in : Bool) (t u : Rational) : Type 0 where
  pub inside : Within from to u
  pub begins : Precedes a_in (later t a) u
  pub ends : Precedes b_in u (later t b)

-- u lies in the window from t - b to t - a, as far as that lies between `from` and `to`; with no b the window begins at `from`
pub record Behind (from to : Rational) (a : ℕ) (b : Option ℕ) (a_in b_in : Bool) (t u : Rational) : Type 0 where
  pub inside : Within from to u
  pub begins : IfSome b (λ b. Precedes b_in t (later u b))
  pub ends : Precedes a_in (later u a) t

-- a function of time
abbrev pub Function : Type 1
Function = Rational → Extended → Type 0

-- a set of times
abbrev pub Window : Type 1
Window = Rational → Type 0

-- r is the Sup of the function over the window
abbrev pub IsSupOver : Extended → Window → Function → Extended → Type 0
IsSupOver lowest W F r = IsSup lowest (λ v. (u : Rational) × W u × F u v) r

-- r is the Inf of the function over the window
abbrev pub IsInfOver : Extended → Window → Function → Extended → Type 0
IsInfOver highest W F r = IsInf highest (λ v. (u : Rational) × W u × F u v) r

-- v is the least of Q at u and the Inf of P from t to u
abbrev pub IsUpTo : Extended → Function → Function → Rational → Rational → Extended → Type 0
IsUpTo highest P Q t u v = (x y : Extended) × Q u x × IsInfOver highest (Within t u) P y × IsLeast x y v

-- v is the least of Q at u and the Inf of P from u to t
abbrev pub IsDownTo : Extended → Function → Function → Rational → Rational → Extended → Type 0
IsDownTo highest P Q t u v = (x y : Extended) × Q u x × IsInfOver highest (Within u t) P y × IsLeast x y v

-- r is the value at t of P until Q, where Q counts within the window
abbrev pub IsUntil : Extended → Extended → Window → Function → Function → Rational → Extended → Type 0
IsUntil lowest highest W P Q t r = IsSupOver lowest W (IsUpTo highest P Q t) r

-- r is the value at t of P since Q, where Q counts within the window
abbrev pub IsSince : Extended → Extended → Window → Function → Function → Rational → Extended → Type 0
IsSince lowest highest W P Q t r = IsSupOver lowest W (IsDownTo highest P Q t) r

-- P until Q, where Q counts up to the time `to`
abbrev pub UntilToEnd : Extended → Extended → Rational → Function → Function → Function
UntilToEnd lowest highest to P Q t r = IsUntil lowest highest (Within t to) P Q t r

-- P since Q, where Q counts from the time `from` on
abbrev pub SinceFromStart : Extended → Extended → Rational → Function → Function → Function
SinceFromStart lowest highest from P Q t r = IsSince lowest highest (Within from t) P Q t r
