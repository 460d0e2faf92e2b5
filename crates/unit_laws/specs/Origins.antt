-- The laws of the origin: where all times of a trace are d ticks later, the times of what is told are d ticks later, and nothing else changes.
use Rattle.std.specs.Prelude.{◌≡◌, ◌↔◌, ℕ, ◌+◌, ◌*◌, Bool, MatchBool, List, [], ◌∷◌, ◌++◌, map}
use Rattle.rational.specs.Time.{Rational, ◌≈◌, later, Interval, closed, BeginAlike, EndAlike}
use Rattle.rational.specs.Extended.{Extended, ◌≈ᵉ◌}
use Rattle.frac128.specs.Spans.{interval}
use Rattle.stl_syntax.specs.Trace.{Row, Trace, IsTrace, start, stop}
use Rattle.stl_syntax.specs.Formula.{Formula, Subformula, root}
use Rattle.stl_syntax.specs.Truth.{Truth}
use Rattle.stl_syntax.specs.SupInf.{Robustness}
use Rattle.stl_syntax.specs.Knots.{Knot, Piece, Knots}
use Rattle.stl_syntax.specs.Verdicts.{Describes, DescribesMargins}
use Rattle.stl_syntax.specs.declared.items.Verdict.{Verdict}
use Rattle.stl_syntax.specs.declared.items.Item.{Item}
use Rattle.stl_syntax.specs.Texts.{AreVerdictLines, IsStartLine, AreMarginLines, newline}
use Rattle.serde_json.specs.Data.{Data}
use Rattle.serde_json.specs.Written.{compact_text}
use Rattle.stl_syntax.specs.Scaling.{nodes_for}
use Rattle.report.specs.Json.{IsReportData}
use Rattle.report.specs.Report.{Command, check, robust, explain, json, table, Out, IsExplained, AreItemLines}
use Rattle.report.specs.Table.{IsTableText}

-- the row d ticks later
abbrev pub delayed_row : ℕ → Row → Row
delayed_row d r = record { time = r.time + d; values = r.values }

-- the trace d ticks later
abbrev pub delayed : ℕ → Trace → Trace
delayed d tr = record { header = tr.header; rows = map (delayed_row d) tr.rows }

-- the truth at a time is that of the delayed trace d ticks later
abbrev pub TruthMoves : Type 0
TruthMoves = (p : Subformula) (tr : Trace) (d : ℕ) (t : Rational) → IsTrace tr → Truth p tr t ↔ Truth p (delayed d tr) (later t d)

-- and so is the robustness
abbrev pub RobustnessMoves : Type 0
RobustnessMoves =
    (p : Subformula) (tr : Trace) (d : ℕ) (t : Rational) (v : Extended) → IsTrace tr → Robustness p tr t v ↔ Robustness p (delayed d tr) (later t d) v

-- the interval d ticks later
abbrev pub delayed_interval : ℕ → Interval → Interval
delayed_interval d on = record { from = later on.from d; from_in = on.from_in; to = later on.to d; to_in = on.to_in }

-- w is the verdict v, d ticks later
pub record IsDelayed (d : ℕ) (v w : Verdict) : Type 0 where
  pub begins : BeginAlike (interval w.on) (delayed_interval d (interval v.on))
  pub ends : EndAlike (interval w.on) (delayed_interval d (interval v.on))
  pub holds : w.holds ≡ v.holds

-- the verdicts of the second list are those of the first, d ticks later
abbrev pub AreDelayed : ℕ → List Verdict → List Verdict → Type 0
AreDelayed d [] ws = ws ≡ []
AreDelayed d (v ∷ vs) ws = (w : Verdict) × (later_ones : List Verdict) × (ws ≡ w ∷ later_ones) × IsDelayed d v w × AreDelayed d vs later_ones

-- the verdicts on the whole domain
abbrev pub AreVerdicts : List Verdict → Subformula → Trace → Type 0
AreVerdicts verdicts p tr = Describes verdicts p tr (closed (start tr) (stop tr))

-- the verdicts of the delayed trace are those of the trace, d ticks later
abbrev pub VerdictsMove : Type 0
VerdictsMove =
    (p : Subformula) (tr : Trace) (d : ℕ) → IsTrace tr
    → ((vs : List Verdict) → AreVerdicts vs p tr → (ws : List Verdict) × AreDelayed d vs ws × AreVerdicts ws p (delayed d tr))
    × ((ws : List Verdict) → AreVerdicts ws p (delayed d tr) → (vs : List Verdict) × AreDelayed d vs ws × AreVerdicts vs p tr)

-- a time d ticks earlier
abbrev pub earlier : Rational → ℕ → Rational
earlier t d = record { up = t.up; down = t.down + d * t.den; den = t.den; positive = t.positive }

-- a knot at another time
abbrev pub knot_at : (Rational → Rational) → Knot → Knot
knot_at move k = record { time = move k.time; value = k.value }

-- a piece at other times
abbrev pub piece_at : (Rational → Rational) → Piece → Piece
piece_at move p = record { from = p.from; to = p.to; next = knot_at move p.next }

-- a signal's knots at other times
abbrev pub knots_at : (Rational → Rational) → Knots → Knots
knots_at move knots = record { first = knot_at move knots.first; pieces = map (piece_at move) knots.pieces }

-- the knots of the delayed trace are those of the trace, d ticks later, with the same values
abbrev pub KnotsMove : Type 0
KnotsMove =
    (p : Subformula) (tr : Trace) (d : ℕ) (knots : Knots) → IsTrace tr
    → (DescribesMargins knots p tr → DescribesMargins (knots_at (λ t. later t d) knots) p (delayed d tr))
    × (DescribesMargins knots p (delayed d tr) → DescribesMargins (knots_at (λ t. earlier t d) knots) p tr)

-- g is the item e, d ticks later
pub record IsDelayedItem (d : ℕ) (e g : Item) : Type 0 where
  pub node : g.node ≡ e.node
  pub begins : BeginAlike (interval g.on) (delayed_interval d (interval e.on))
  pub ends : EndAlike (interval g.on) (delayed_interval d (interval e.on))
  pub holds : g.holds ≡ e.holds

-- the items of the second list are those of the first, d ticks later
abbrev pub AreDelayedItems : ℕ → List Item → List Item → Type 0
AreDelayedItems d [] gs = gs ≡ []
AreDelayedItems d (e ∷ es) gs = (g : Item) × (others : List Item) × (gs ≡ g ∷ others) × IsDelayedItem d e g × AreDelayedItems d es others

-- what explains a formula on the delayed trace is what explains it on the trace, d ticks later
abbrev pub ExplanationsMove : Type 0
ExplanationsMove =
    (f : Formula) (tr : Trace) (d : ℕ) → IsTrace tr
    → ((lines : List Item) → IsExplained f tr lines → (moved : List Item) × AreDelayedItems d lines moved × IsExplained f (delayed d tr) moved)
    × ((moved : List Item) → IsExplained f (delayed d tr) moved → (lines : List Item) × AreDelayedItems d lines moved × IsExplained f tr lines)

-- the knot l is k, d ticks later
pub record IsDelayedKnot (d : ℕ) (k l : Knot) : Type 0 where
  pub time : l.time ≈ later k.time d
  pub value : l.value ≈ᵉ k.value

-- the pieces of the second list are those of the first, d ticks later
abbrev pub AreDelayedPieces : ℕ → List Piece → List Piece → Type 0
AreDelayedPieces d [] qs = qs ≡ []
AreDelayedPieces d (x ∷ ps) qs =
    (y : Piece) × (others : List Piece) × (qs ≡ y ∷ others) × (y.from ≈ᵉ x.from) × (y.to ≈ᵉ x.to) × IsDelayedKnot d x.next y.next
    × AreDelayedPieces d ps others

-- the second knots are the first, d ticks later
abbrev pub AreDelayedKnots : ℕ → Knots → Knots → Type 0
AreDelayedKnots d ks ls = IsDelayedKnot d ks.first ls.first × AreDelayedPieces d ks.pieces ls.pieces

-- the text of a command with each time d ticks later
abbrev pub OutLater : ℕ → Command → Formula → Trace → List ℕ → Type 0
OutLater d check f tr text =
    (vs ws : List Verdict) × (body line : List ℕ) × AreVerdicts vs (root (nodes_for f tr)) tr × AreDelayed d vs ws
    × AreVerdictLines tr.header.scale ws body × IsStartLine (root (nodes_for f tr)) tr line × (text ≡ body ++ line)
OutLater d robust f tr text =
    (ks ls : Knots) × DescribesMargins ks (root (nodes_for f tr)) tr × AreDelayedKnots d ks ls × AreMarginLines tr.header.scale ls text
OutLater d explain f tr text =
    (items moved : List Item) × (line body : List ℕ) × IsExplained f tr items × AreDelayedItems d items moved
    × IsStartLine (root (nodes_for f tr)) tr line × AreItemLines tr.header.scale f moved body × (text ≡ line ++ body)
OutLater d json f tr text =
    (vs ws : List Verdict) × (ks ls : Knots) × (items moved : List Item) × (holds : Bool) × (report : Data) × AreVerdicts vs (root (nodes_for f tr)) tr
    × AreDelayed d vs ws × DescribesMargins ks (root (nodes_for f tr)) tr × AreDelayedKnots d ks ls × IsExplained f tr items
    × AreDelayedItems d items moved
    × MatchBool holds (Truth (root (nodes_for f tr)) tr (start tr)) (¬ Truth (root (nodes_for f tr)) tr (start tr))
    × IsReportData tr.header.scale f ws ls moved holds report × (text ≡ compact_text report ++ newline)
OutLater d table f tr text =
    (ks ls : Knots) × DescribesMargins ks (root (nodes_for f tr)) tr × AreDelayedKnots d ks ls × IsTableText tr.header.scale ls text

-- what a command writes of the delayed trace is what it tells of the trace, with each time d ticks later
abbrev pub TextsMove : Type 0
TextsMove =
    (command : Command) (f : Formula) (tr : Trace) (d : ℕ) (text : List ℕ) → IsTrace tr → Out command f (delayed d tr) text → OutLater d command f tr text
