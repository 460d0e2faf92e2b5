-- The truth at the start, as the commands tell it: one truth, and `early` tells it no later than `watch`.
use Rattle.std.specs.Prelude.{◌≡◌, ◌≢◌, ℕ, Bool, true, false, List, [], ◌∷◌, ◌++◌, length, codes, MatchBool, pos}
use Rattle.rational.specs.Time.{IsIn, whole}
use Rattle.frac128.specs.Spans.{interval}
use Rattle.stl_syntax.specs.Formula.{Formula, Subformula, root}
use Rattle.stl_syntax.specs.Trace.{Header, Row, Trace, IsTrace, AreRows, row_time, first_time}
use Rattle.stl_syntax.specs.Texts.{IsNumberText, AreVerdictLines, newline, start_line}
use Rattle.stl_syntax.specs.declared.items.Verdict.{Verdict}
use Rattle.trace_stream.specs.Streams.{verdicts, early, StreamText, HoldsAtStart}
use Rattle.stl_syntax.specs.Scaling.{nodes_for}
use Rattle.report.specs.Report.{check, explain, json, Out}
use Rattle.agreeing.specs.Contents.{Content, IsTextOf}

-- the text ends with these bytes; it begins with them
abbrev pub EndsWith : List ℕ → List ℕ → Type 0
EndsWith text line = (head : List ℕ) × (text ≡ head ++ line)

abbrev pub BeginsWith : List ℕ → List ℕ → Type 0
BeginsWith text line = (rest : List ℕ) × (text ≡ line ++ rest)

-- the truth at the start is this, and so tell it `check`, `explain` and `json`, and `watch` and `early` in the end
pub record IsOneStart (f : Formula) (tr : Trace) (holds : Bool) : Type 0 where
  pub truth : MatchBool holds (HoldsAtStart f tr) (¬ HoldsAtStart f tr)
  pub checked : (text : List ℕ) → Out check f tr text → EndsWith text (start_line holds)
  pub explained : (text : List ℕ) → Out explain f tr text → BeginsWith text (start_line holds)
  pub reported : (text : List ℕ) → Out json f tr text → (c : Content) × IsTextOf json f tr.header.scale c text × (c.holds ≡ holds)
  pub watched : (text : List ℕ) → StreamText verdicts (root (nodes_for f tr)) tr.header tr.rows true text → EndsWith text (start_line holds)
  pub decided : (text : List ℕ) → StreamText early (root (nodes_for f tr)) tr.header tr.rows true text → EndsWith text (start_line holds)

abbrev pub OneStart : Type 0
OneStart = (f : Formula) (tr : Trace) → IsTrace tr → (holds : Bool) × IsOneStart f tr holds

-- the first verdict that `watch` wrote has the start in its span, and `early` has told its truth, at one of the rows
pub record IsToldEarly (header : Header) (rows : List Row) (watched told : List ℕ) : Type 0 where
  pub first : Verdict
  pub others : List Verdict
  pub lines : AreVerdictLines header.scale (first ∷ others) watched
  pub at_start : IsIn (interval first.on) (whole (pos (first_time rows)))
  pub before : List Row
  pub row : Row
  pub after : List Row
  pub parts : rows ≡ before ++ row ∷ after
  pub time : List ℕ
  pub time_is : IsNumberText header.scale.time (row_time row) time
  pub is : told ≡ codes "decided at " ++ time ++ newline ++ start_line first.holds

-- once `watch` has written a verdict for the rows so far, `early` has told the start, at one of these rows and as `watch` does
abbrev pub EarlyIsNoLater : Type 0
EarlyIsNoLater =
    (p : Subformula) (header : Header) (rows : List Row) (watched told : List ℕ) → AreRows (length header.columns) rows
    → StreamText verdicts p header rows false watched → watched ≢ [] → StreamText early p header rows false told
    → IsToldEarly header rows watched told
