-- When the network of a formula's margins stands for the rows of a case, and which fault it tells.
use Rattle.std.specs.Prelude.{◌≡◌, ℕ, Bool, List, ◌++◌, map}
use Rattle.stl_syntax.specs.Formula.{root}
use Rattle.stl_syntax.specs.Trace.{Header}
use Rattle.stl_syntax.specs.declared.node.Node.{Node}
use Rattle.pl_signal.specs.declared.faults.WidePair.{WidePair}
use Rattle.pl_signal.specs.declared.faults.WidePair.TheVariants.{Cross, Value}
use Rattle.online_nodes.specs.MarginEdges.{AreEmittedParts}
use Rattle.online_robust.specs.Lining.{ArePartLines}
use Rattle.online_robust.specs.Nets.{StandsFor}
use Rattle.online_robust.specs.Pasts.{Past, part_of}
use Rattle.online_robust.specs.declared.line.MarginLine.{MarginLine}
use Rattle.online_robust.specs.declared.net.RobustFault.{RobustFault}
use Rattle.online_robust.specs.declared.net.RobustFault.TheVariants as R
use Rattle.answer_lines.specs.Appended.{Grew}
use Rattle.trace_stream.specs.declared.case.Case.{Case}
use Rattle.trace_stream.specs.declared.follow.FollowFault.{FollowFault}
use Rattle.trace_stream.specs.declared.follow.FollowFault.TheVariants.{Memory, Wide}
use Rattle.margin_stream.specs.declared.margins.Margins.{Margins}

-- the rows of a case, and their end where they have ended
abbrev pub past_of : Case → Bool → Past
past_of c ended = record { rows = c.trace.rows; ended = ended }

-- the lines are all that the root gives out for the rows of the case
abbrev pub AreEmitted : Case → Bool → List MarginLine → Type 0
AreEmitted c ended lines = AreEmittedParts (root c.formula.nodes) c.trace.header c.trace.rows ended (map part_of lines)

-- the network stands for the rows of the case, with their end where they have ended; all that its root gives out for them was taken, and
-- this is its text
pub record IsMargined (ended : Bool) (m : Margins) (c : Case) (made : List ℕ) : Type 0 where
  pub formula : m.formula ≡ c.formula
  pub given : List MarginLine
  pub stands : StandsFor c.formula.nodes c.trace.header m.net (past_of c ended) given
  pub emitted : AreEmitted c ended given
  pub lines : ArePartLines c.formula.scale (map part_of given) made

-- rows under a header, and the lines of the root that were taken
pub record Given : Type 0 where
  pub nodes : List Node
  pub header : Header
  pub past : Past
  pub lines : List MarginLine

-- the network stands for the rows, of which these lines were taken
abbrev pub IsStanding : Given → Margins → Type 0
IsStanding g m = StandsFor g.nodes g.header m.net g.past g.lines

-- some lines more were taken, and their text was added
pub record HasTaken (g : Given) (m : Margins) (old new : List ℕ) : Type 0 where
  pub more : List MarginLine
  pub stands : StandsFor g.nodes g.header m.net g.past (g.lines ++ more)
  pub text : Grew (ArePartLines m.formula.scale (map part_of more)) old new

-- all that was left was taken
pub record HasTakenAll (g : Given) (m : Margins) (old new : List ℕ) : Type 0 where
  pub taken : HasTaken g m old new
  pub all : AreEmittedParts (root g.nodes) g.header g.past.rows g.past.ended (map part_of (g.lines ++ taken.more))

-- the denominator that a pair needs
abbrev pub denominator_of : {P : Type 0} → WidePair P → ℕ
denominator_of (Cross p q a b den) = den
denominator_of (Value p at den) = den

-- the fault that stopped a network
abbrev pub IsOfFirst : RobustFault → Type 0
IsOfFirst R.Stopped = ⊥
IsOfFirst R.Closed = ⊥
IsOfFirst fault = Unit {0}

-- as the follower tells it
abbrev pub fault_of : RobustFault → FollowFault
fault_of (R.Wide cause) = Wide cause.node (denominator_of cause.pair)
fault_of fault = Memory
