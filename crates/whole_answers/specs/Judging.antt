-- What the answer of a command that holds the whole trace tells, and why there is none.
use Rattle.std.specs.Prelude.{◌≡◌, ◌⊎◌, ℕ, ◌≤◌, pos, Bool, List}
use Rattle.rational.specs.Time.{Rational, Within, whole as whole_number, negate, ◌≤ʳ◌}
use Rattle.rational.specs.Extended.{Affine, Extended, finite, ◌<ᵉ◌}
use Rattle.stl_syntax.specs.Formula.{Formula, Subformula, root}
use Rattle.stl_syntax.specs.Trace.{Trace, IsLike, start, stop}
use Rattle.stl_syntax.specs.Truth.{Truth}
use Rattle.stl_syntax.specs.Kleene.{MustNot}
use Rattle.stl_syntax.specs.Kept.{Kept, Agree, most_cells, IsTooMany}
use Rattle.stl_syntax.specs.Closeness.{AreClose}
use Rattle.stl_syntax.specs.SupInf.{Setting, Robustness, margin_setting}
use Rattle.stl_syntax.specs.WideCause.{IsCrossingCause, IsValueCause}
use Rattle.stl_syntax.specs.declared.node.Node.{Node}
use Rattle.stl_syntax.specs.declared.items.Item.{Item}
use Rattle.stl_syntax.specs.Scaling.{nodes_for}
use Rattle.report.specs.Report.{Command, check, robust, explain, json, table, Out}
use Rattle.trace_stream.specs.Streams.{HoldsAtStart, TellsTruth, status_of_truth}
use Rattle.whole_answers.specs.declared.no_answer.NoAnswer.{NoAnswer}
use Rattle.whole_answers.specs.declared.no_answer.NoAnswer.TheVariants.{NoMemory, Wide, TooMany}

-- the formula fails at the start, and an explanation would have too many cells
pub record IsUnexplained (f : Formula) (tr : Trace) (count : ℕ) : Type 0 where
  pub fails : ¬ HoldsAtStart f tr
  pub many : IsTooMany (nodes_for f tr) tr most_cells count

-- so for a command that explains
abbrev pub HasTooMany : Command → Formula → Trace → ℕ → Type 0
HasTooMany explain f tr count = IsUnexplained f tr count
HasTooMany json f tr count = IsUnexplained f tr count
HasTooMany c f tr count = ⊥

-- the status of an answer over the whole trace
abbrev pub IsVerdict : Command → Formula → Trace → ℕ → Type 0
IsVerdict check f tr status = TellsTruth f tr status
IsVerdict robust f tr status = status ≡ 0
IsVerdict explain f tr status = TellsTruth f tr status
IsVerdict json f tr status = TellsTruth f tr status
IsVerdict table f tr status = status ≡ 0

-- a robustness tells the truth, in the trace and in each that is like it and whose expressions differ from the trace's by at most a
-- number e: above e the formula holds there, and below -e it fails
abbrev pub TellTruth : Subformula → Trace → Type 0
TellTruth p tr =
    (tr' : Trace) (e : Rational) → whole_number (pos 0) ≤ʳ e → IsLike tr' tr → AreClose e tr tr' p
    → (t : Rational) (r : Extended) → Within (start tr) (stop tr) t → Robustness p tr t r
    → (finite e <ᵉ r → Truth p tr' t) × (r <ᵉ finite (negate e) → ¬ Truth p tr' t)

-- the items refute the formula at the start: they make it certainly false, and it fails in each trace in which they are so
pub record Refute (f : Formula) (tr : Trace) (items : List Item) : Type 0 where
  pub certain : MustNot (root (nodes_for f tr)) items tr (start tr)
  pub elsewhere : (tr' : Trace) → Agree (nodes_for f tr) tr' tr items → ¬ Truth (root (nodes_for f tr)) tr' (start tr')

-- where the formula fails at the start, the items that are kept refute it
abbrev pub KeptRefute : Formula → Trace → Type 0
KeptRefute f tr = (items : List Item) → ¬ HoldsAtStart f tr → Kept (nodes_for f tr) tr items → Refute f tr items

-- what a command's text tells is sure: the robustness that it writes, and the explanation
abbrev pub IsSure : Command → Formula → Trace → Type 0
IsSure check f tr = Unit {0}
IsSure explain f tr = KeptRefute f tr
IsSure json f tr = TellTruth (root (nodes_for f tr)) tr × KeptRefute f tr
IsSure c f tr = TellTruth (root (nodes_for f tr)) tr

-- a pair of functions, or a constant, that is in play at node i needs this denominator
abbrev pub IsNeeded : List Node → Setting → ℕ → ℕ → Type 0
IsNeeded nodes s i den =
    ((p q : Affine) × (a b : Rational) × IsCrossingCause nodes s i p q a b den) ⊎ ((p : Affine) × (u : Rational) × IsValueCause nodes s i p u den)

-- so for a command that writes robustness
abbrev pub HasWide : Command → Formula → Trace → ℕ → ℕ → Type 0
HasWide check f tr i den = ⊥
HasWide explain f tr i den = ⊥
HasWide c f tr i den = IsNeeded (nodes_for f tr) (margin_setting tr) i den

-- the answer of a command: what its status tells, and its whole text
pub record IsAnswerOf (c : Command) (f : Formula) (tr : Trace) (holds : Bool) (text : List ℕ) : Type 0 where
  pub verdict : IsVerdict c f tr (status_of_truth holds)
  pub written : Out c f tr text
  pub few : (count : ℕ) → ¬ HasTooMany c f tr count
  pub sure : IsSure c f tr

-- why a command has no answer for a trace
abbrev pub IsUnanswered : Command → Formula → Trace → NoAnswer → Type 0
IsUnanswered c f tr NoMemory = Unit {0}
IsUnanswered c f tr (Wide i den) = HasWide c f tr i den × ((count : ℕ) → ¬ HasTooMany c f tr count)
IsUnanswered c f tr (TooMany count) = HasTooMany c f tr count
IsUnanswered c f tr reason = ⊥
