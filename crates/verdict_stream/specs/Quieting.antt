-- Rows that come alone and at which no atom turns: what is known of the rows before them, and the line that such a row answers.
use Rattle.std.specs.Prelude.{◌≡◌, ◌⊎◌, ℕ, ◌+◌, ◌-◌, ◌≤◌, ◌==◌, Bool, IsTrue, List, [], ◌∷◌, ◌++◌, length, Option, Some, None, pos, slice_get}
use Rattle.rational.specs.Rational.{whole}
use Rattle.rational.specs.Places.{begins, ends, Same}
use Rattle.frac128.specs.Spans.{interval}
use Rattle.stl_syntax.specs.Formula.{Subformula, horizon, root}
use Rattle.stl_syntax.specs.Trace.{Trace, first_time, last_time, stop}
use Rattle.stl_syntax.specs.Truth.{Truth}
use Rattle.stl_syntax.specs.Texts.{AreVerdictLines}
use Rattle.stl_syntax.specs.declared.items.Verdict.{Verdict}
use Rattle.stl_syntax.specs.declared.scale.Scale.{Scale}
use Rattle.stl_syntax.specs.declared.node.Node.{Node}
use Rattle.stl_syntax.specs.declared.node.Node.TheVariants.{Since, Once, Historically}
use Rattle.online_nodes.specs.Truths.{Is}
use Rattle.online_net.specs.Nets.{Parts}
use Rattle.online_net.specs.Stretches.{StaysFrom}
use Rattle.bounds.specs.Turns.{far, looks_back}
use Rattle.bounds.specs.Steady.{AtomsStay}
use Rattle.trace_stream.specs.declared.case.Case.{Case}
use Rattle.verdict_stream.specs.Pendings.{just_after}
use Rattle.verdict_stream.specs.declared.quiet.Quiet.{Quiet}

-- how far behind the window of a node lies
abbrev pub own_back : Node → ℕ
own_back (Since p q a b) = far a b
own_back (Once p a b a_in b_in) = far a b
own_back (Historically p a b a_in b_in) = far a b
own_back n = 0

-- each atom has one truth from row `at` of the block to row `to`
abbrev pub AtomsAreSteady : Parts → Trace → ℕ → ℕ → Type 0
AtomsAreSteady net block at to = (j : ℕ) → slice_get net.operators j ≡ Some None → StaysFrom net.bound j block at to

-- no atom of the formula turned after the time `calm`; and this is its truth at the last time that the trace answers
pub record IsSteady (p : Subformula) (tr : Trace) (calm : ℕ) (holds : Bool) : Type 0 where
  pub low : first_time tr.rows ≤ calm
  pub atoms : AtomsStay p tr (whole (pos calm)) (stop tr)
  pub answered : first_time tr.rows + horizon p ≤ last_time 0 tr.rows
  pub truth : Is holds (Truth p tr) (whole (pos (last_time 0 tr.rows - horizon p)))

-- so it is where a truth is known
abbrev pub IsToldOf : Subformula → Trace → ℕ → Option Bool → Type 0
IsToldOf p tr calm None = Unit {0}
IsToldOf p tr calm (Some holds) = IsSteady p tr calm holds

-- what is known of the rows so far is so
pub record Knows (q : Quiet) (c : Case) : Type 0 where
  pub reach : looks_back (root c.formula.nodes) + horizon (root c.formula.nodes) ≤ q.reach
  pub told : IsToldOf (root c.formula.nodes) c.trace q.calm q.told

-- the line of a verdict of this truth after one time, up to another
abbrev pub IsLineAfter : Scale → ℕ → ℕ → Bool → List ℕ → Type 0
IsLineAfter scale first second holds text =
    (v : Verdict) × Same (just_after first) (begins (interval v.on)) × Same (ends (interval v.on)) (just_after second) × (v.holds ≡ holds)
    × AreVerdictLines scale (v ∷ []) text

-- of the third byte before the end, whether it is the letter u, which only the word true has there
pub record IsLastTruth (lines : List ℕ) (holds : Bool) : Type 0 where
  pub some : 3 ≤ length lines
  pub letter : (front : List ℕ) (x y z : ℕ) → lines ≡ front ++ x ∷ y ∷ z ∷ [] → holds ≡ (x == 117)

-- what was learned of a row at this time, which came alone: `even` where no atom turned at it, and the lines of its answer
pub record HasLearned (old new : Quiet) (even : Bool) (time : ℕ) (lines : List ℕ) : Type 0 where
  pub rows : new.rows ≡ old.rows
  pub bytes : new.bytes ≡ old.bytes
  pub reach : new.reach ≡ old.reach
  pub calm : (IsTrue even × (h : Bool) × (old.told ≡ Some h) × (new.calm ≡ old.calm)) ⊎ (new.calm ≡ time)
  pub told : (holds : Bool) → new.told ≡ Some holds → IsLastTruth lines holds
