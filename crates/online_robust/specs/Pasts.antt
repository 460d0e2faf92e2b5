-- What a network of margins stands for: the rows so far and whether the input has ended; what each node gave out for them, and what its
-- reader still needs of it.
use Rattle.std.specs.Prelude.{◌≡◌, ℕ, suc, ◌<◌, Bool, true, false, ℤ, pos, List, [], ◌∷◌, ◌++◌, take, drop, map, Option, Some, None, IfSome, slice_get}
use Rattle.rational.specs.Time.{whole, ◌≤ʳ◌, ◌<ʳ◌}
use Rattle.rational.specs.Extended.{value_at}
use Rattle.frac128.specs.Value.{value}
use Rattle.value_laws.specs.Margins.{margin_function}
use Rattle.stl_syntax.specs.Trace.{Header, Row, Trace, IsTrace, Continues, first_time, last_time}
use Rattle.stl_syntax.specs.Formula.{Subformula, subformula}
use Rattle.stl_syntax.specs.SupInf.{Robustness}
use Rattle.stl_syntax.specs.Limits.{reach}
use Rattle.stl_syntax.specs.declared.atom.Atom.{Atom}
use Rattle.stl_syntax.specs.declared.node.Node.{Node}
use Rattle.stl_syntax.specs.declared.node.Node.TheVariants.{Const, Atom as Leaf}
use Rattle.online_nodes.specs.MarginEdges.{Part, point, gap, shown_number, AreEmittedParts}
use Rattle.online_nodes.specs.StreamedWide.{front_at}
use Rattle.online_robust.specs.Lines.{end_of}
use Rattle.online_robust.specs.Standing.{Stands}
use Rattle.online_robust.specs.Steps.{IsLeaf, IsInput, back_of}
use Rattle.online_robust.specs.declared.line.MarginLine.{MarginLine}
use Rattle.online_robust.specs.declared.line.MarginLine.TheVariants.{Point, Gap}
use Rattle.online_robust.specs.declared.station.Work.{Work}
use Rattle.online_robust.specs.declared.station.Work.TheVariants as W

-- the rows so far, and whether the input has ended
pub record Past : Type 0 where
  pub rows : List Row
  pub ended : Bool

-- with one row more
abbrev pub with_row : Past → Row → Past
with_row past r = record { rows = past.rows ++ r ∷ []; ended = false }

-- with the end
abbrev pub with_end : Past → Past
with_end past = record { rows = past.rows; ended = true }

abbrev pub trace_of : Header → Past → Trace
trace_of header past = record { header = header; rows = past.rows }

-- a part as times and values
abbrev pub part_of : MarginLine → Part
part_of (Point at v) = point (value at) (value_at (margin_function v) (value at))
part_of (Gap from to p) = gap (value from) (value to) (value_at (margin_function p) (value from)) (value_at (margin_function p) (value to))

-- the number of a formula after these rows, and the number as far as it is shown
abbrev pub number_by : Bool → Subformula → List Row → Option ℤ
number_by ended p [] = None
number_by ended p (r ∷ rows) = Some (front_at ended (pos (last_time r.time rows)) p)

abbrev pub shown_by : Bool → Subformula → List Row → Option ℤ
shown_by ended p [] = None
shown_by ended p (r ∷ rows) = shown_number r.time (front_at ended (pos (last_time r.time rows)) p)

-- the number of node i after a past, and the number as far as it is shown
abbrev pub number_of : List Node → Past → ℕ → Option ℤ
number_of nodes past i = number_by past.ended (subformula nodes i) past.rows

abbrev pub shown_of : List Node → Past → ℕ → Option ℤ
shown_of nodes past i = shown_by past.ended (subformula nodes i) past.rows

-- the lines tell the margin of node i in each trace that goes on from the rows, from the first row on up to the node's number
abbrev pub AreToldOver : List Node → Header → Bool → ℕ → List Row → List MarginLine → Type 0
AreToldOver nodes header ended i [] lines = lines ≡ []
AreToldOver nodes header ended i (r ∷ rows) lines =
    (tr : Trace) → IsTrace tr → Continues tr header (r ∷ rows) ended
    → IsInput (Robustness (subformula nodes i) tr) (reach (take (suc i) nodes)) r.time None
    (front_at ended (pos (last_time r.time rows)) (subformula nodes i)) lines

-- the lines are what node i gave out over the past
pub record Gave (nodes : List Node) (header : Header) (past : Past) (i : ℕ) (lines : List MarginLine) : Type 0 where
  pub parts : AreEmittedParts (subformula nodes i) header past.rows past.ended (map part_of lines)
  pub told : AreToldOver nodes header past.ended i past.rows lines

-- what is left of the lines when those that end by a time are dropped from the front; all of them, where there is no such time
abbrev pub IsRest : Option ℤ → List MarginLine → List MarginLine → Type 0
IsRest None lines rest = rest ≡ lines
IsRest (Some limit) lines rest =
    (count : ℕ) × (rest ≡ drop count lines) × ((k : ℕ) → k < count → IfSome (slice_get lines k) (λ x. value (end_of x) ≤ʳ whole limit))
    × IfSome (slice_get rest 0) (λ x. whole limit <ʳ value (end_of x))

-- the edge of node i over the past, whose reader, over its own past, looks `k` ahead: of what the node gave out, what the reader still needs
abbrev pub IsHeld : List Node → Header → Past → ℕ → Past → ℕ → ℤ → List MarginLine → Type 0
IsHeld nodes header past i reader_past reader k held =
    (lines : List MarginLine) × Gave nodes header past i lines × IsRest (back_of (first_time past.rows) (shown_of nodes reader_past reader) k) lines held

-- the node's work, over the past: an operator stands for its node in each trace that goes on from the rows
abbrev pub IsWork : List Node → Header → Past → ℕ → Node → List MarginLine → Work → Type 0
IsWork nodes header past i n seen (W.Const b) = n ≡ Const b
IsWork nodes header past i n seen W.Atom = (a : Atom) × (n ≡ Leaf a)
IsWork nodes header past i n seen (W.Operator op) =
    (¬ IsLeaf n)
    × ((tr : Trace) → IsTrace tr → Continues tr header past.rows past.ended → Stands n nodes i tr (shown_of nodes past i) op seen)
