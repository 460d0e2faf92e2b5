-- What a session writes by itself is what a run of `watch` over its bytes writes and tells.
use Rattle.std.proofs.Common.{◌≡◌, inl, inr, ℕ, Bool, true, false, List, [], ◌++◌, refl, sym, ap, ◌∙◌, subst, append-nil, append_assoc, Option, Some, None}
use Rattle.std.proofs.lemmas.Bool.{false≢true}
use Rattle.stl_syntax.specs.Formula.{Formula}
use Rattle.stl_syntax.specs.Trace.{Header, Row}
use Rattle.answer_lines.specs.FaultTexts.{fault_text}
use Rattle.trace_reader.specs.InputFaults.{stream_limits}
use Rattle.trace_stream.specs.Streams.{verdicts, StreamOf, OwesRows}
use Rattle.trace_stream.proofs.OwedRows.{stream_owed_grows}
use Rattle.session_mux.specs.Sessions.{IsRowsStream, IsFaultLine, Alone}
use Rattle.session_mux.proofs.OneText.{stream_of, text_alone_once}
use Rattle.workbench.specs.Requests.{stream}
use Rattle.run_laws.specs.OneAnswer.{IsFront}
use Rattle.run_laws.proofs.Endings.{IsEnding, at_fault, answer, too_wide, too_full}
use Rattle.run_laws.proofs.FaultsOfAll.{rows_owed_of_all, fault_of_all}
use Rattle.run_laws.proofs.OneEnding.{answer_is_owed, answered_sound}

-- the stream of verdicts is one of rows
rows_of : (f : Formula) (header : Option Header) (rows : List Row) (whole : Bool) (text : List ℕ) → StreamOf verdicts f header rows whole text
    → IsRowsStream f header rows whole text
rows_of f None rows whole text is = is
rows_of f (Some header) rows whole text is = is

-- what is owed, with the line of the fault
together : (f : Formula) (bytes text line : List ℕ) (ended : Bool) → OwesRows verdicts f bytes ended text → IsFaultLine f bytes ended line
    → Alone f bytes ended (text ++ line)
together f bytes text line ended o is =
    (o.header, o.rows, o.whole, text, line, o.before, rows_of f o.header o.rows o.whole text o.is, is, refl)

-- what a run of `watch` wrote and told is what a session of its bytes writes by itself
pub watch_alone : {f : Formula} {bytes line text : List ℕ} {status : ℕ} → IsEnding (stream verdicts f) bytes status line text
    → Alone f bytes true (text ++ line)
watch_alone {f} {bytes} (at_fault {line = line} {text = text} h owed) = together f bytes text line true owed (inr h)
watch_alone {f} {bytes} (answer {status = status} {text = text} h) =
    together f bytes text [] true (answer_is_owed (stream verdicts f) bytes text status refl h)
    (inl ((λ x fault. answered_sound (stream verdicts f) bytes text (fault_text x) status h (x, fault, refl)), refl))
watch_alone (too_wide read left ended i den e at h) = absurd h
watch_alone (too_full count h) = absurd h

-- ---- before the end of the input

-- a session's text in its two parts
record AreParts (f : Formula) (bytes : List ℕ) (ended : Bool) (text : List ℕ) : Type 0 where
  written : List ℕ
  told : List ℕ
  owed : OwesRows verdicts f bytes ended written
  line : IsFaultLine f bytes ended told
  is : text ≡ written ++ told

parts_of : (f : Formula) (bytes text : List ℕ) (ended : Bool) → Alone f bytes ended text → AreParts f bytes ended text
parts_of f bytes text ended (header, rows, whole, written, told, before, is, line, e) = record {
  written = written;
  told = told;
  owed = record { header = header; rows = rows; whole = whole; before = before; is = stream_of f header rows whole written is };
  line = line;
  is = e;
}

-- before a fault it goes on
calm_goes_on : (f : Formula) (bytes more said all : List ℕ) (p : AreParts f bytes false said) → AreParts f (bytes ++ more) true all → p.told ≡ []
    → IsFront said all
calm_goes_on f bytes more said all p q none =
    let (rest, e) = stream_owed_grows verdicts f bytes more true p.written q.written p.owed q.owed in
    let mine : said ≡ p.written = p.is ∙ ap (λ l. p.written ++ l) none ∙ append-nil p.written in
    (rest ++ q.told, q.is ∙ ap (λ w. w ++ q.told) e ∙ append_assoc p.written rest q.told ∙ ap (λ w. w ++ (rest ++ q.told)) (sym mine))

-- what a session wrote is the front of what it writes by itself for more bytes and their end; it wrote all where its own had ended
pub alone_goes_on : (f : Formula) (bytes more said all : List ℕ) (ended : Bool) → (ended ≡ true → bytes ++ more ≡ bytes) → Alone f bytes ended said
    → Alone f (bytes ++ more) true all → IsFront said all
alone_goes_on f bytes more said all true at a b =
    ([], text_alone_once f bytes true all said (subst (λ bs. Alone f bs true all) (at refl) b) a ∙ sym (append-nil said))
alone_goes_on f bytes more said all false at a b = by_line (parts_of f bytes said false a)
  where
    by_line : AreParts f bytes false said → IsFront said all
    by_line p = by_told p.line
      where
        by_told : IsFaultLine f bytes false p.told → IsFront said all
        by_told (inl (calm, none)) = calm_goes_on f bytes more said all p (parts_of f (bytes ++ more) all true b) none
        by_told (inr (x, fault, e)) =
            let also = fault_of_all stream_limits f bytes more false x (λ k. absurd (false≢true k)) fault in
            let owed = rows_owed_of_all verdicts f bytes more p.written false (λ k. absurd (false≢true k)) (x, fault) p.owed in
            let mine = together f (bytes ++ more) p.written p.told true owed (inr (x, also, e)) in
            ([], text_alone_once f (bytes ++ more) true all (p.written ++ p.told) b mine ∙ sym p.is ∙ sym (append-nil said))
