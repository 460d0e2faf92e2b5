-- Lines that are read from a time on, and a signal that is made of what was read.
use Rattle.std.specs.Prelude.{◌≡◌, ◌≢◌, ℕ, ◌<◌, ◌^◌, Bool, true, false, List, ◌∷◌, length, Option, Some, None, IfSome, slice_get}
use Rattle.rational.specs.Time.{Rational, ◌≈◌, ◌≤ʳ◌, ◌<ʳ◌}
use Rattle.rational.specs.Extended.{Extended, value_at, opposite}
use Rattle.rational.specs.Affine.{IsBounded}
use Rattle.rational.specs.Windows.{Function}
use Rattle.frac128.specs.Value.{value}
use Rattle.frac128.specs.declared.frac.Frac.{Frac}
use Rattle.value_laws.specs.Kinds.{margin_shape}
use Rattle.value_laws.specs.Margins.{margin_function}
use Rattle.value_laws.specs.declared.margin.Margin.{Margin}
use Rattle.pl_signal.specs.declared.knot.Knot.{Knot}
use Rattle.pl_signal.specs.Knots.{start, stop, HasShape, IsSignal, IsWorth}
use Rattle.pl_signal.specs.Limits.{IsLimited}
use Rattle.pl_signal.specs.Moves.{Tells}
use Rattle.online_robust.specs.Lines.{end_of}
use Rattle.online_robust.specs.Held.{Edge, Held, edge_at, held_of, without}
use Rattle.online_robust.specs.Told.{AreFit, AreJoined, AreTold, IsMovedBy, IsTick}
use Rattle.online_robust.specs.declared.line.MarginLine.{MarginLine}
use Rattle.online_robust.specs.declared.line.MarginLine.TheVariants.{Point}
use Rattle.online_robust.specs.declared.line.Reached.{Reached}

-- the function at the time is what the margin is there, within the limits
pub record IsThere (P : Function) (reach : ℕ) (t : Rational) (v : Margin) : Type 0 where
  pub told : P t (value_at (margin_function v) t)
  pub bounded : IsBounded (2 ^ 31) (value_at (margin_function v) t)
  pub moved : IsMovedBy reach v

-- the lines tell the function up to the time `to`, and those that end by the time `at` are gone
pub record IsAhead (P : Function) (reach : ℕ) (at to : Rational) (lines : List MarginLine) : Type 0 where
  pub told : AreTold P lines
  pub fit : AreFit reach lines
  pub from : Rational
  pub begun : from ≤ʳ at
  pub joined : AreJoined from to lines
  pub later : IfSome (slice_get lines 0) (λ x. at <ʳ value (end_of x))

-- the lines begin with the point at the start
pub record Begins (P : Function) (reach : ℕ) (start to : Rational) (lines : List MarginLine) : Type 0 where
  pub at : Frac
  pub v : Margin
  pub rest : List MarginLine
  pub is : lines ≡ Point at v ∷ rest
  pub when : value at ≈ start
  pub tick : IsTick (value at)
  pub there : IsThere P reach (value at) v
  pub ahead : IsAhead P reach (value at) to rest

-- a node was told up to the time, where it has the value; or nothing was told
abbrev pub HasReached : Function → ℕ → Rational → Option Reached → Type 0
HasReached F reach from None = Unit {0}
HasReached F reach from (Some r) = (value r.at ≈ from) × IsTick (value r.at) × IsThere F reach (value r.at) r.value

-- lines from where a node was told, or from the start
abbrev pub IsReady : Function → ℕ → Rational → Rational → List MarginLine → Option Reached → Type 0
IsReady P reach start to lines None = Begins P reach start to lines
IsReady P reach start to lines (Some r) = IsAhead P reach (value r.at) to lines

-- some lines are gone from the front of the edge, each of which ends by the limit
pub record Loses (limit : Rational) (old new : Edge) : Type 0 where
  pub count : ℕ
  pub is : new ≡ without count old
  pub ended : (k : ℕ) → k < count → IfSome (slice_get (held_of old) k) (λ x. value (end_of x) ≤ʳ limit)

-- the edge lost some lines, and the others stay as they were
pub record LosesAt (limit : Rational) (i : ℕ) (old new : Held) : Type 0 where
  pub here : Loses limit (edge_at old i) (edge_at new i)
  pub others : (j : ℕ) → j ≢ i → edge_at new j ≡ edge_at old j
  pub edges : length new.edges ≡ length old.edges
  pub start : new.start ≡ old.start

-- the same of two edges
pub record LosesAtBoth (limit : Rational) (i k : ℕ) (old new : Held) : Type 0 where
  pub left : Loses limit (edge_at old i) (edge_at new i)
  pub right : Loses limit (edge_at old k) (edge_at new k)
  pub others : (j : ℕ) → j ≢ i → j ≢ k → edge_at new j ≡ edge_at old j
  pub edges : length new.edges ≡ length old.edges
  pub start : new.start ≡ old.start

-- the signal tells the function over the stretch, within the limits
pub record IsStretch (F : Function) (reach : ℕ) (from to : Rational) (knots : List (Knot Margin)) : Type 0 where
  pub tells : Tells margin_shape F from to knots
  pub limited : IsLimited margin_shape knots
  pub moved : (p : Margin) → HasShape knots p → IsMovedBy reach p

-- a signal that is being made tells the function so far, within the limits
pub record IsBuilt (F : Function) (reach : ℕ) (from at : Rational) (knots : List (Knot Margin)) : Type 0 where
  pub signal : IsSignal margin_shape knots
  pub worth : (t : Rational) (v : Extended) → IsWorth margin_shape knots t v → F t v
  pub begins : start knots ≈ from
  pub ends : stop knots ≈ at
  pub bounded : (t : Rational) (v : Extended) → IsWorth margin_shape knots t v → IsBounded (2 ^ 31) v
  pub moved : (p : Margin) → HasShape knots p → IsMovedBy reach p

-- minus the function, or the function itself
abbrev pub turned_by : Bool → Function → Function
turned_by true P = λ t v. P t (opposite v)
turned_by false P = P

-- minus the value, or the value itself
abbrev pub value_turned : Bool → Extended → Extended
value_turned true v = opposite v
value_turned false v = v
