-- What a stream of margins is refused for on some bytes is a cause over the trace of these bytes and whatever follows them.
use Rattle.std.proofs.Common.{◌≡◌, refl, sym, ap, subst, ◌∙◌, ℕ, Bool, true, false, Some, List, [], ◌∷◌, ◌++◌, append_assoc, append-nil}
use Rattle.std.proofs.lemmas.Bool.{false≢true}
use Rattle.std.proofs.lemmas.Option.{same_Some}
use Rattle.rational.proofs.Lists.{append_some}
use Rattle.stl_syntax.specs.Formula.{Formula}
use Rattle.stl_syntax.specs.Trace.{Header, Row, Trace, Continues}
use Rattle.trace_reader.specs.InputFaults.{AreRowsBefore, sound}
use Rattle.trace_reader.specs.TraceText.{TraceOf}
use Rattle.trace_stream.specs.CaseReader.{IsWhole, IsSound}
use Rattle.trace_stream.specs.Streams.{margins, HasStream, limits_of}
use Rattle.trace_stream.specs.Wides.{IsWideRows, at_row, at_end, IsWideByRow}
use Rattle.trace_stream.proofs.RowsBefore.{GoesOnFrom, from_none, from_some, rows_go_on, rows_once}
use Rattle.agreeing.specs.Wides.{HasCause, InputWidesAreWhole}
use Rattle.agreeing.proofs.WideLaw.{by_cause}

-- a refusal at a row has rows
has_rows : {f : Formula} {header : Header} {closed : Bool} {rows : List Row} {i den : ℕ} {text : List ℕ} → IsWideRows f header closed rows i den text
    → closed ≡ false → rows ≡ [] → ⊥
has_rows (at_row before r cause told) c e = append_some before (r ∷ []) (λ k. cc) e
has_rows (at_end cause told) c e = false≢true (sym c)

module _ (f : Formula) (bytes more : List ℕ) (ended : Bool) (i den : ℕ) (text : List ℕ) (tr : Trace)
    (w : IsWideByRow (limits_of margins) f bytes ended i den text) (last : ended ≡ true → more ≡ [])
    (t : IsWhole (limits_of margins) f (bytes ++ more) tr) where
  parts : bytes ++ more ≡ w.seen ++ (w.later ++ more)
  parts = ap (λ b. b ++ more) w.parts ∙ append_assoc w.seen w.later more

  before : AreRowsBefore (limits_of margins) f (bytes ++ more) true (Some tr.header) tr.rows true
  before = sound t.sound t.trace.text.read

  here : (b : Bool) → w.seen_end ≡ b → AreRowsBefore (limits_of margins) f w.seen b (Some w.header) w.rows b
  here b e = sound (subst (λ (x : Bool). IsSound (limits_of margins) f w.seen x) e w.sound)
      (subst (λ (x : Bool). TraceOf w.seen x f.scale w.header w.rows) e w.read)

  -- the trace goes on from the rows
  goes_on : (b : Bool) → w.seen_end ≡ b → Continues tr w.header w.rows w.closed
  goes_on false e = going (rows_go_on (limits_of margins) f w.seen (w.later ++ more) true (here false e)
      (subst (λ b. AreRowsBefore (limits_of margins) f b true (Some tr.header) tr.rows true) parts before))
    where
      open_yet : w.closed ≡ true → ⊥
      open_yet c = false≢true (sym e ∙ w.closes c)

      not_closed : (c : Bool) → w.closed ≡ c → w.closed ≡ false
      not_closed true c = absurd (open_yet c)
      not_closed false c = c

      going : GoesOnFrom (Some w.header) w.rows (Some tr.header) tr.rows → Continues tr w.header w.rows w.closed
      going (from_none none) = absurd (has_rows w.cause (not_closed w.closed refl) none)
      going (from_some same (beyond, is)) =
          record { same_header = same_Some tr.header w.header same; more = beyond; begins = is; whole_input = λ c. absurd (open_yet c) }
  goes_on true e =
      let mid = w.at_end e in
      let same : bytes ++ more ≡ w.seen =
      parts ∙ ap (λ b. w.seen ++ (b ++ more)) mid.1 ∙ ap (λ b. w.seen ++ b) (last mid.0) ∙ append-nil w.seen in
      let once = rows_once (limits_of margins) f w.seen true (here true e)
      (subst (λ b. AreRowsBefore (limits_of margins) f b true (Some tr.header) tr.rows true) same before) in
      record {
        same_header = same_Some tr.header w.header (sym once.same_header);
        more = [];
        begins = sym once.same_rows ∙ sym (append-nil w.rows);
        whole_input = λ c. refl;
      }

  cause_of : HasStream margins f → HasCause f tr i den
  cause_of has = by_cause has w.cause tr t.trace.text.rising (goes_on w.seen_end refl)

-- a Wide on an input is one of the whole
pub input_wides_are_whole : InputWidesAreWhole
input_wides_are_whole f bytes more ended i den text tr has w last t = cause_of f bytes more ended i den text tr w last t has
