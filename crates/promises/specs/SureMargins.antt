-- What the lines of a stream of margins are: the robustness in each trace that goes on from the rows, and in the end a cover of the trace.
use Rattle.std.specs.Prelude.{◌≡◌, ℕ, Bool, true, List, [], ◌∷◌, ◌++◌, Some, slice_get}
use Rattle.rational.specs.Time.{Rational, ◌≈◌}
use Rattle.rational.specs.Extended.{Extended, ◌≈ᵉ◌}
use Rattle.stl_syntax.specs.Trace.{Header, Row, Trace, IsTrace, Continues, start, stop}
use Rattle.stl_syntax.specs.Formula.{Formula, Subformula, root}
use Rattle.stl_syntax.specs.Knots.{Knots, IsInside, Reads}
use Rattle.stl_syntax.specs.Verdicts.{IsRobust, IsRobustInside, DescribesMargins}
use Rattle.stl_syntax.specs.declared.scale.Scale.{Scale}
use Rattle.online_nodes.specs.MarginEdges.{Part, point, gap, IsPartLine}
use Rattle.workbench.specs.InputFaults.{stream_limits}
use Rattle.trace_stream.specs.CaseReader.{IsWhole}
use Rattle.promises.specs.SureRows.{AreByRow}
use Rattle.stl_syntax.specs.Scaling.{nodes_for}

-- the lines of the parts in order
abbrev pub ArePartLines : Scale → List Part → List ℕ → Type 0
ArePartLines scale [] text = text ≡ []
ArePartLines scale (x ∷ parts) text = (here later : List ℕ) × IsPartLine scale x here × ArePartLines scale parts later × (text ≡ here ++ later)

-- a point has the robustness at its time; a gap is not empty, and at each time within it the robustness lies between its limits, as on a line
abbrev pub IsTruePart : Subformula → Trace → Part → Type 0
IsTruePart p tr (point t v) = IsRobust p tr (record { time = t; value = v })
IsTruePart p tr (gap a b v w) = IsRobustInside p tr (record { time = a; value = v }) (record { from = v; to = w; next = record { time = b; value = w } })

-- so each of the parts
abbrev pub AreTrueParts : Subformula → Trace → List Part → Type 0
AreTrueParts p tr [] = Unit {0}
AreTrueParts p tr (x ∷ parts) = IsTruePart p tr x × AreTrueParts p tr parts

-- the text is the lines of parts, each of which is the robustness in every trace that goes on from the rows
pub record AreSureMargins (p : Subformula) (header : Header) (rows : List Row) (ended : Bool) (text : List ℕ) : Type 0 where
  pub parts : List Part
  pub lines : ArePartLines header.scale parts text
  pub told : (tr : Trace) → IsTrace tr → Continues tr header rows ended → AreTrueParts p tr parts

-- row by row
abbrev pub AreSureMarginsByRow : Subformula → Header → List Row → List Row → List ℕ → Type 0
AreSureMarginsByRow p header rows more text = AreByRow (AreSureMargins p header) rows more text

-- so with the lines at the end
pub record AreSureMarginsToEnd (p : Subformula) (header : Header) (rows : List Row) (text : List ℕ) : Type 0 where
  pub during : List ℕ
  pub rest : List ℕ
  pub by_row : AreSureMarginsByRow p header [] rows during
  pub at_end : AreSureMargins p header rows true rest
  pub is : text ≡ during ++ rest

-- from a point at the one time gaps and points lead in turn to a point at the other, without gap or overlap
abbrev pub AreInTurn : Rational → Rational → List Part → Type 0
AreInTurn at to [] = at ≈ to
AreInTurn at to (point t v ∷ parts) = ⊥
AreInTurn at to (gap a b v w ∷ []) = ⊥
AreInTurn at to (gap a b v w ∷ (gap c d x y ∷ parts)) = ⊥
AreInTurn at to (gap a b v w ∷ (point t x ∷ parts)) = (a ≈ at) × (b ≈ t) × AreInTurn t to parts

-- the first is a point at the one time, and the last one at the other
abbrev pub CoverParts : Rational → Rational → List Part → Type 0
CoverParts from to [] = ⊥
CoverParts from to (gap a b v w ∷ parts) = ⊥
CoverParts from to (point t v ∷ parts) = (t ≈ from) × AreInTurn t to parts

-- the text is the lines of parts that cover the trace, each of which is the robustness
pub record IsMarginCover (p : Subformula) (tr : Trace) (parts : List Part) (text : List ℕ) : Type 0 where
  pub lines : ArePartLines tr.header.scale parts text
  pub covers : CoverParts (start tr) (stop tr) parts
  pub told : AreTrueParts p tr parts

-- the part, read at t, gives the value
abbrev pub ReadsPart : Part → Rational → Extended → Type 0
ReadsPart (point u v) t r = (t ≈ u) × (r ≈ᵉ v)
ReadsPart (gap a b v w) t r = IsInside (record { time = a; value = v }) (record { from = v; to = w; next = record { time = b; value = w } }) t r

-- what a stream of margins wrote in the end for the bytes of a trace: a cover of the trace that tells at each time what `robust` tells
pub record IsMarginText (f : Formula) (bytes text : List ℕ) : Type 0 where
  pub tr : Trace
  pub trace : IsWhole stream_limits f bytes tr
  pub parts : List Part
  pub covers : IsMarginCover (root (nodes_for f tr)) tr parts text
  pub alike : (knots : Knots) → DescribesMargins knots (root (nodes_for f tr)) tr
      → (i : ℕ) (x : Part) (t : Rational) (r v : Extended) → slice_get parts i ≡ Some x
      → ReadsPart x t r → Reads knots t v → r ≈ᵉ v
