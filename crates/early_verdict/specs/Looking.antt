-- Windows of operators, and what the sets of windows tell.
use Rattle.std.specs.Prelude.{◌≡◌, ◌↔◌, ℕ, Bool, Option, List, [], IfSome, MatchOption, MatchBool}
use Rattle.rational.specs.Time.{Rational, later, Precedes}
use Rattle.stl_syntax.specs.Trace.{Trace}
use Rattle.rational.specs.Places.{Place}
use Rattle.growing_sets.specs.Windows.{Sees}
use Rattle.growing_sets.specs.Steps.{SeesOnly}
use Rattle.growing_sets.specs.Lasting.{SeesOnlyBy}
use Rattle.early_verdict.specs.Fitting.{Says, IsEmpty}
use Rattle.growing_sets.specs.declared.grown.Grown.{Grown}
use Rattle.growing_sets.specs.declared.stretch.Stretch.{Stretch}
use Rattle.growing_sets.specs.declared.window.Window.{Window}

-- the window from t goes from t + a to t + b
abbrev pub IsAhead : Window → ℕ → ℕ → Bool → Bool → Type 0
IsAhead w a b a_in b_in = (t u : Rational) → Sees w t u ↔ (Precedes a_in (later t a) u × Precedes b_in u (later t b))

-- it goes from t - b, or from the beginning, to t - a
abbrev pub IsBehind : Window → ℕ → Option ℕ → Bool → Bool → Type 0
IsBehind w a b a_in b_in = (t u : Rational) → Sees w t u ↔ (IfSome b (λ b. Precedes b_in t (later u b)) × Precedes a_in (later u a) t)

-- a set told P of the trace before; before any row it had nothing
abbrev pub WasTold : Option Trace → Grown → (Rational → Type 0) → Type 0
WasTold old x P = MatchOption old (IsEmpty x) (λ o. Says x P)

-- before any row a list had nothing
abbrev pub WasList : Option Trace → List Stretch → Type 0
WasList old xs = MatchOption old (xs ≡ []) (λ o. Unit {0})

-- each time of the window is one of the list; once the input has ended, each up to the last row
abbrev pub SeesOnlyTo : Bool → Window → Place → Place → List Stretch → Rational → Type 0
SeesOnlyTo ended w start sure xs t = MatchBool ended (SeesOnlyBy w start sure xs t) (SeesOnly w start xs t)
