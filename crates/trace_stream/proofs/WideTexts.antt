-- What was made before a refusal for a denominator is the front of what a stream of margins is owed.
use Rattle.std.proofs.Common.{◌≡◌, ℕ, Bool, true, false, List, [], ◌∷◌, ◌++◌, refl, sym, ap, ◌∙◌, subst, append_assoc, append-nil, Some}
use Rattle.stl_syntax.specs.Formula.{Formula, root}
use Rattle.stl_syntax.specs.Scaling.{scaled}
use Rattle.stl_syntax.specs.Trace.{Header, Row}
use Rattle.online_nodes.specs.MarginStream.{IsMarginStream}
use Rattle.trace_reader.specs.InputFaults.{AreRowsBefore, sound}
use Rattle.trace_reader.specs.TraceText.{TraceOf}
use Rattle.answer_lines.proofs.StreamTexts.{IsLonger}
use Rattle.trace_stream.specs.Streams.{margins, limits_of, StreamOf, OwesRows}
use Rattle.trace_stream.specs.CaseReader.{IsSound}
use Rattle.trace_stream.specs.Wides.{IsWideRows, at_row, at_end, IsWideByRow}
use Rattle.trace_stream.proofs.MarginTexts.{margin_stream_grows}
use Rattle.trace_stream.proofs.RowsBefore.{GoesOnFrom, from_none, from_some, rows_go_on, rows_once}

-- of the rows, and of those that follow them
rows_grow : {f : Formula} {header : Header} {closed : Bool} {rows : List Row} {i den : ℕ} {text : List ℕ}
    → IsWideRows f header closed rows i den text → (beyond : List Row) (whole : Bool) (all : List ℕ)
    → IsMarginStream (root (scaled f header.scale).nodes) header (rows ++ beyond) whole all → IsLonger text all
rows_grow {f} {header} (at_row before r {text = text} needed told) beyond whole all t =
    margin_stream_grows (root (scaled f header.scale).nodes) header before (r ∷ beyond) whole text all told
    (subst (λ rs. IsMarginStream (root (scaled f header.scale).nodes) header rs whole all) (append_assoc before (r ∷ []) beyond) t)
rows_grow {f} {header} (at_end {rows = rows} {text = text} needed told) beyond whole all t =
    margin_stream_grows (root (scaled f header.scale).nodes) header rows beyond whole text all told t

-- without rows nothing was made
no_rows_made : {f : Formula} {header : Header} {closed : Bool} {rows : List Row} {i den : ℕ} {text : List ℕ}
    → IsWideRows f header closed rows i den text → rows ≡ [] → text ≡ []
no_rows_made (at_row before r needed told) e = absurd (some before e)
  where
    some : (before : List Row) → before ++ r ∷ [] ≡ [] → ⊥
    some [] e = cc
    some (q ∷ before) e = cc
no_rows_made {f} {header} (at_end {rows = rows} {text = text} needed told) e =
    subst (λ rs. IsMarginStream (root (scaled f header.scale).nodes) header rs false text → text ≡ []) (sym e) (λ k. k) told

-- these bytes are the first of others, or all of them; they have ended only where all have
pub record AreFirst (seen : List ℕ) (seen_end : Bool) (bytes : List ℕ) (ended : Bool) : Type 0 where
  -- the bytes that follow them
  pub later : List ℕ
  -- all of them
  pub parts : bytes ≡ seen ++ later
  -- none follow their end
  pub at_end : seen_end ≡ true → (ended ≡ true) × (later ≡ [])

-- of the bytes up to the refusal, and of those that follow them
pub wide_text_of_all : {f : Formula} {seen : List ℕ} {seen_end : Bool} {i den : ℕ} {text bytes : List ℕ} {ended : Bool} {all : List ℕ}
    → AreFirst seen seen_end bytes ended → IsWideByRow (limits_of margins) f seen seen_end i den text → OwesRows margins f bytes ended all → IsLonger text all
wide_text_of_all {f} {text = text} {bytes = bytes} {ended = ended} {all = all} first w owed = by_end w.seen_end refl
  where
    whole : bytes ≡ w.seen ++ (w.later ++ first.later)
    whole = first.parts ∙ ap (λ b. b ++ first.later) w.parts ∙ append_assoc w.seen w.later first.later

    going : GoesOnFrom (Some w.header) w.rows owed.header owed.rows → IsLonger text all
    going (from_none none) = (all, ap (λ t. t ++ all) (sym (no_rows_made w.cause none)))
    going (from_some same (beyond, e)) =
        rows_grow w.cause beyond owed.whole all
        (subst (λ rs. StreamOf margins f (Some w.header) rs owed.whole all) e (subst (λ h. StreamOf margins f h owed.rows owed.whole all) same owed.is))

    by_end : (b : Bool) → w.seen_end ≡ b → IsLonger text all
    by_end false e =
        going (rows_go_on (limits_of margins) f w.seen (w.later ++ first.later) ended
        (sound (subst (λ (x : Bool). IsSound (limits_of margins) f w.seen x) e w.sound)
        (subst (λ (x : Bool). TraceOf w.seen x f.scale w.header w.rows) e w.read))
        (subst (λ b. AreRowsBefore (limits_of margins) f b ended owed.header owed.rows owed.whole) whole owed.before))
    by_end true e =
        let mid = w.at_end e in
        let last = first.at_end mid.0 in
        let same : bytes ≡ w.seen = whole ∙ ap (λ b. w.seen ++ (b ++ first.later)) mid.1 ∙ ap (λ b. w.seen ++ b) last.1 ∙ append-nil w.seen in
        let once = rows_once (limits_of margins) f w.seen true
        (sound (subst (λ (x : Bool). IsSound (limits_of margins) f w.seen x) e w.sound)
        (subst (λ (x : Bool). TraceOf w.seen x f.scale w.header w.rows) e w.read))
        (subst (λ (x : Bool). AreRowsBefore (limits_of margins) f w.seen x owed.header owed.rows owed.whole) last.0
        (subst (λ b. AreRowsBefore (limits_of margins) f b ended owed.header owed.rows owed.whole) same owed.before)) in
        going (from_some (sym once.same_header) ([], sym once.same_rows ∙ sym (append-nil w.rows)))
