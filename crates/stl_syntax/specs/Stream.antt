-- What a streaming run writes: at each row the verdicts of what that row answers, and at the end those of the rest.
use Rattle.std.specs.Prelude.{◌≡◌, ℕ, Bool, true, false, List, [], ◌∷◌, ◌++◌, length, pos, ℤ, ◌-ℤ◌, int_lt, if◌then◌else◌, MatchBool, Option, Some, None}
use Rattle.rational.specs.Time.{whole, Interval, closed, left_open}
use Rattle.stl_syntax.specs.Trace.{Header, Row, Trace, AreRows, first_time, last_time}
use Rattle.stl_syntax.specs.Formula.{Subformula, horizon}
use Rattle.stl_syntax.specs.Verdicts.{Describes}
use Rattle.stl_syntax.specs.Texts.{AreVerdictLines, IsStartLine}
use Rattle.stl_syntax.specs.declared.items.Verdict.{Verdict}

-- the stretch after what was answered up to `old`, up to `new`
abbrev pub after : ℕ → Option ℤ → ℤ → Interval
after begin None new = closed (whole (pos begin)) (whole new)
after begin (Some old) new = left_open (whole old) (whole new)

-- the last answered time once a row at time s has come; nothing where that lies below the start
abbrev pub answered_by : ℕ → Subformula → ℕ → Option ℤ
answered_by begin p s = if int_lt (pos s -ℤ pos (horizon p)) (pos begin) then None else Some (pos s -ℤ pos (horizon p))

-- the verdict lines of a stretch
abbrev pub IsStretchText : Subformula → Trace → Interval → List ℕ → Type 0
IsStretchText p tr stretch text = (verdicts : List Verdict) × Describes verdicts p tr stretch × AreVerdictLines tr.header.scale verdicts text

-- the text of what a front at `new` answers beyond `old`
abbrev pub IsNewText : Subformula → Trace → Option ℤ → Option ℤ → List ℕ → Type 0
IsNewText p tr old None text = text ≡ []
IsNewText p tr None (Some new) text = IsStretchText p tr (after (first_time tr.rows) None new) text
IsNewText p tr (Some old) (Some new) text =
    MatchBool (int_lt old new) (IsStretchText p tr (after (first_time tr.rows) (Some old) new) text) (text ≡ [])

-- a text for what a front at a number answers beyond an old one, in the trace of the rows so far
abbrev pub NewText : Type 1
NewText = Trace → Option ℤ → Option ℤ → List ℕ → Type 0

-- the texts of the rows in turn; `rows` came before, and `old` is what they answered
abbrev pub IsRowsText : NewText → Subformula → Header → List Row → Option ℤ → List Row → List ℕ → Type 0
IsRowsText New p header rows old [] text = text ≡ []
IsRowsText New p header rows old (r ∷ more) text =
    (here later : List ℕ)
    × New (record { header = header; rows = rows ++ r ∷ [] }) old (answered_by (first_time (rows ++ r ∷ [])) p r.time) here
    × IsRowsText New p header (rows ++ r ∷ []) (answered_by (first_time (rows ++ r ∷ [])) p r.time) more later
    × (text ≡ here ++ later)

-- the text of what is left at the end
abbrev pub IsRestText : NewText → Subformula → Trace → List ℕ → Type 0
IsRestText New p tr text = New tr (answered_by (first_time tr.rows) p (last_time 0 tr.rows)) (Some (pos (last_time 0 tr.rows))) text

-- the text for these rows, with the rest and the start line where the input has ended; then there is a row
abbrev pub IsStreamText : Subformula → Header → List Row → Bool → List ℕ → Type 0
IsStreamText p header rows false text = IsRowsText (IsNewText p) p header [] None rows text
IsStreamText p header rows true text =
    AreRows (length header.columns) rows
    × ((during rest line : List ℕ) × IsRowsText (IsNewText p) p header [] None rows during
    × IsRestText (IsNewText p) p (record { header = header; rows = rows }) rest
    × IsStartLine p (record { header = header; rows = rows }) line × (text ≡ during ++ rest ++ line))
