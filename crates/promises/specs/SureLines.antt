-- What the lines of a stream of verdicts are: the truth in each trace that goes on from the rows, and in the end a cover of the trace.
use Rattle.std.specs.Prelude.{◌≡◌, ℕ, Bool, true, List, [], ◌++◌, Some, slice_get}
use Rattle.rational.specs.Time.{Rational, IsIn, closed}
use Rattle.frac128.specs.Spans.{interval}
use Rattle.stl_syntax.specs.Trace.{Header, Row, Trace, IsTrace, Continues, start, stop}
use Rattle.stl_syntax.specs.Formula.{Formula, Subformula, root}
use Rattle.stl_syntax.specs.Verdicts.{Describes}
use Rattle.stl_syntax.specs.Texts.{AreVerdictLines, IsStartLine}
use Rattle.stl_syntax.specs.declared.items.Verdict.{Verdict}
use Rattle.rational.specs.Places.{begins, ends}
use Rattle.online_nodes.specs.Laws.{AreTold, AreTiles}
use Rattle.workbench.specs.InputFaults.{stream_limits}
use Rattle.trace_stream.specs.CaseReader.{IsWhole}
use Rattle.promises.specs.SureRows.{AreByRow}
use Rattle.stl_syntax.specs.Scaling.{nodes_for}

-- the text is the lines of verdicts, each of which is the truth at each time of its span in every trace that goes on from the rows
pub record AreSure (p : Subformula) (header : Header) (rows : List Row) (ended : Bool) (text : List ℕ) : Type 0 where
  pub verdicts : List Verdict
  pub lines : AreVerdictLines header.scale verdicts text
  pub told : (tr : Trace) → IsTrace tr → Continues tr header rows ended → AreTold p tr verdicts

-- row by row
abbrev pub AreSureByRow : Subformula → Header → List Row → List Row → List ℕ → Type 0
AreSureByRow p header rows more text = AreByRow (AreSure p header) rows more text

-- so with the lines at the end, and the line of the truth at the start
pub record AreSureToEnd (p : Subformula) (header : Header) (rows : List Row) (text : List ℕ) : Type 0 where
  pub during : List ℕ
  pub rest : List ℕ
  pub line : List ℕ
  pub by_row : AreSureByRow p header [] rows during
  pub at_end : AreSure p header rows true rest
  pub start_is : IsStartLine p (record { header = header; rows = rows }) line
  pub is : text ≡ during ++ rest ++ line

-- the verdicts lead from the start of the trace to its end without gap or overlap, and each is the truth at each time of its span
pub record Cover (p : Subformula) (tr : Trace) (verdicts : List Verdict) : Type 0 where
  pub tiles : AreTiles (begins (closed (start tr) (stop tr))) verdicts (ends (closed (start tr) (stop tr)))
  pub told : AreTold p tr verdicts

-- the text is the lines of verdicts that cover the trace, and the line of the truth at its start
pub record IsCoverText (p : Subformula) (tr : Trace) (verdicts : List Verdict) (text : List ℕ) : Type 0 where
  pub cover : Cover p tr verdicts
  pub body : List ℕ
  pub line : List ℕ
  pub lines : AreVerdictLines tr.header.scale verdicts body
  pub start_is : IsStartLine p tr line
  pub is : text ≡ body ++ line

-- where spans of two lists meet, they have one truth
abbrev pub TellAlike : List Verdict → List Verdict → Type 0
TellAlike verdicts others =
    (i j : ℕ) (v w : Verdict) (t : Rational) → slice_get verdicts i ≡ Some v → slice_get others j ≡ Some w → IsIn (interval v.on) t → IsIn (interval w.on) t
    → v.holds ≡ w.holds

-- what a stream of verdicts wrote in the end for the bytes of a trace: a cover of the trace that tells at each time what `check` tells
pub record IsWatchText (f : Formula) (bytes text : List ℕ) : Type 0 where
  pub tr : Trace
  pub trace : IsWhole stream_limits f bytes tr
  pub verdicts : List Verdict
  pub covers : IsCoverText (root (nodes_for f tr)) tr verdicts text
  pub alike : (others : List Verdict) → Describes others (root (nodes_for f tr)) tr (closed (start tr) (stop tr)) → TellAlike verdicts others
