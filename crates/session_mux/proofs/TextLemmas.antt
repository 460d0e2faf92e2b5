-- The texts of sessions are made of whole lines, and what a session writes alone goes on as its bytes do.
use Rattle.std.proofs.Common.{◌≡◌, inl, inr, refl, sym, ap, subst, ◌∙◌, ℕ, ℤ, Bool, true, false, List, [], ◌∷◌, ◌++◌, append_assoc}
use Rattle.std.specs.Prelude.{codes, decimal, int_lt, map, MatchBool, Option, Some, None}
use Rattle.std.proofs.lemmas.List.{append-nil, map-append}
use Rattle.stl_syntax.specs.Formula.{Formula, Subformula, root}
use Rattle.stl_syntax.specs.Scaling.{scaled}
use Rattle.stl_syntax.specs.Stream.{IsStretchText, IsNewText, IsRowsText, IsStreamText, answered_by, after}
use Rattle.stl_syntax.specs.Texts.{newline, bool_text, AreVerdictLines}
use Rattle.stl_syntax.specs.Trace.{Header, Row, Trace, first_time, last_time}
use Rattle.stl_syntax.specs.declared.items.Verdict.{Verdict}
use Rattle.stl_syntax.specs.declared.scale.Scale.{Scale}
use Rattle.stl_syntax.specs.declared.scale.UnitFault.{UnitFault}
use Rattle.stl_syntax.specs.declared.scale.UnitFault.TheVariants as unit
use Rattle.trace_reader.specs.Feeds.{HasNoFeed}
use Rattle.trace_reader.specs.TraceText.{Line, lines}
use Rattle.trace_reader.specs.InputFaults.{stream_limits, Fault, of_trace, unknown, unit as of_unit, IsInputFault}
use Rattle.trace_reader.specs.InputFaults.{AreRowsBefore, sound, no_header_yet, faulted, faulted_header}
use Rattle.trace_reader.specs.declared.refusal.Limits.{Limits}
use Rattle.trace_reader.specs.declared.refusal.TraceKind.{TraceKind}
use Rattle.trace_reader.specs.declared.refusal.TraceKind.TheVariants as trace
use Rattle.trace_reader.proofs.LineLemmas.{done, lines-nil, lines-append, lines-line}
use Rattle.answer_lines.specs.FaultTexts.{in_line, in_field, fault_text, kind_text, unit_fault_text}
use Rattle.trace_stream.specs.Streams.{verdicts, StreamOf}
use Rattle.trace_stream.specs.Following.{IsTextOf}
use Rattle.trace_stream.proofs.RowsBefore.{rows_stay, fault_stays}
use Rattle.session_mux.specs.Sessions.{IsRowsStream, Alone}
pub use Rattle.session_mux.specs.Saying.{EndsInFeed}
use Rattle.session_mux.specs.Saying.{texts}
use Rattle.session_mux.specs.Standing.{HasFault}

-- bytes without an LF, and one behind them, are one line
pub one_line : (w : List ℕ) → HasNoFeed w → lines true (w ++ newline) ≡ done w ∷ []
one_line w free = lines-append true w [] ∙ ap (λ ls. lines false (w ++ newline) ++ ls) (lines-nil true)
    ∙ append-nil (lines false (w ++ newline)) ∙ lines-line w free

-- whole lines and then others are whole lines
pub ends_joined : (a b text : List ℕ) → EndsInFeed a → EndsInFeed b → text ≡ a ++ b → EndsInFeed text
ends_joined a b text p (inl e) k = subst (λ t. EndsInFeed t) (sym (k ∙ ap (λ t. a ++ t) e ∙ append-nil a)) p
ends_joined a b text p (inr (x, e)) k = inr (a ++ x, k ∙ ap (λ t. a ++ t) e ∙ sym (append_assoc a x newline))

-- ---- the texts of streams

-- the lines of verdicts end in an LF, or are none
pub verdict_lines_end : (scale : Scale) (given : List Verdict) (text : List ℕ) → AreVerdictLines scale given text → EndsInFeed text
verdict_lines_end scale [] text e = inl e
verdict_lines_end scale (v ∷ given) text (here, later, (on, is, e), more, k) =
    ends_joined here later text (inr (on ++ codes " " ++ bool_text v.holds, e)) (verdict_lines_end scale given later more) k

stretch_ends : (p : Subformula) (tr : Trace) (old : Option ℤ) (new : ℤ) (text : List ℕ)
    → IsStretchText p tr (after (first_time tr.rows) old new) text → EndsInFeed text
stretch_ends p tr old new text (given, is, all) = verdict_lines_end tr.header.scale given text all

-- what a row newly tells ends in an LF, or is nothing
pub new_ends : (p : Subformula) (tr : Trace) (old new : Option ℤ) (text : List ℕ) → IsNewText p tr old new text → EndsInFeed text
new_ends p tr old None text h = inl h
new_ends p tr None (Some new) text h = stretch_ends p tr None new text h
new_ends p tr (Some old) (Some new) text h = by_order (int_lt old new) h
  where
    by_order : (b : Bool) → MatchBool b (IsStretchText p tr (after (first_time tr.rows) (Some old) new) text) (text ≡ []) → EndsInFeed text
    by_order true k = stretch_ends p tr (Some old) new text k
    by_order false k = inl k

-- what all rows tell ends in an LF, or is nothing
pub rows_end : (p : Subformula) (header : Header) (rows : List Row) (old : Option ℤ) (more : List Row) (text : List ℕ)
    → IsRowsText (IsNewText p) p header rows old more text → EndsInFeed text
rows_end p header rows old [] text e = inl e
rows_end p header rows old (r ∷ more) text (here, later, is, on, e) =
    ends_joined here later text
    (new_ends p (record { header = header; rows = rows ++ r ∷ [] }) old (answered_by (first_time (rows ++ r ∷ [])) p r.time) here is)
    (rows_end p header (rows ++ r ∷ []) (answered_by (first_time (rows ++ r ∷ [])) p r.time) more later on) e

stream_ends : (p : Subformula) (header : Header) (rows : List Row) (ended : Bool) (text : List ℕ) → IsStreamText p header rows ended text → EndsInFeed text
stream_ends p header rows false text h = rows_end p header [] None rows text h
stream_ends p header rows true text (are, (during, rest, line, on, left, (holds, truth, is), e)) =
    let tr : Trace = record { header = header; rows = rows } in
    ends_joined (during ++ rest) line text
    (ends_joined during rest (during ++ rest) (rows_end p header [] None rows during on)
    (new_ends p tr (answered_by (first_time rows) p (last_time 0 rows)) (Some _) rest left) refl)
    (inr (codes "start " ++ bool_text holds, is)) e

-- the text of a stream ends in an LF, or is nothing
pub rows_stream_ends : (f : Formula) (header : Option Header) (rows : List Row) (whole : Bool) (text : List ℕ)
    → IsRowsStream f header rows whole text → EndsInFeed text
rows_stream_ends f None rows whole text e = inl e
rows_stream_ends f (Some header) rows whole text h = stream_ends (root (scaled f header.scale).nodes) header rows whole text h

line_ends : (n : ℕ) (message : List ℕ) → EndsInFeed (in_line n message)
line_ends n message = inr (codes "line " ++ decimal n ++ codes ": " ++ message, refl)

field_ends : (n i : ℕ) (message : List ℕ) → EndsInFeed (in_field n i message)
field_ends n i message = line_ends n (codes "field " ++ decimal i ++ codes ": " ++ message)

kind_ends : (n : ℕ) (kind : TraceKind) → EndsInFeed (kind_text n kind)
kind_ends n trace.Empty = line_ends n (codes "no header")
kind_ends n (trace.BadName i) = field_ends n i (codes "bad name")
kind_ends n (trace.SameName i) = field_ends n i (codes "same name")
kind_ends n (trace.TooManyColumns k) = line_ends n (decimal k ++ codes " columns")
kind_ends n (trace.BadMode i) = field_ends n i (codes "bad mode")
kind_ends n trace.LineTooLong = line_ends n (codes "line too long")
kind_ends n (trace.BadNumber i) = field_ends n i (codes "bad number")
kind_ends n (trace.WrongCount k) = line_ends n (decimal k ++ codes " fields")
kind_ends n trace.TimeNotRising = line_ends n (codes "time not rising")
kind_ends n (trace.OutOfRange i) = field_ends n i (codes "out of range")
kind_ends n trace.NoRows = line_ends n (codes "no rows")
kind_ends n trace.TooManyRows = line_ends n (codes "too many rows")
kind_ends n trace.TooManyLines = line_ends n (codes "too many lines")

unit_ends : (n : ℕ) (fault : UnitFault) → EndsInFeed (unit_fault_text n fault)
unit_ends n (unit.Constant i) = line_ends n (codes "node " ++ decimal i ++ codes ": constant out of range")
unit_ends n (unit.Reach sum) = line_ends n (codes "bounds sum to " ++ decimal sum)
unit_ends n unit.Memory = inr (codes "out of memory", refl)

-- the line of a fault ends in an LF
pub fault_ends : (x : Fault) → EndsInFeed (fault_text x)
fault_ends (of_trace r) = kind_ends r.line r.kind
fault_ends (unknown n atom term name) = line_ends n (codes "unknown column " ++ name)
fault_ends (of_unit n fault) = unit_ends n fault

-- what a session writes alone is whole lines
pub alone_ends : (f : Formula) (bytes : List ℕ) (ended : Bool) (text : List ℕ) → Alone f bytes ended text → EndsInFeed text
alone_ends f bytes ended text (header, rows, whole, stream, fault, before, said, inl (none, k), e) =
    ends_joined stream fault text (rows_stream_ends f header rows whole stream said) (inl k) e
alone_ends f bytes ended text (header, rows, whole, stream, fault, before, said, inr (x, is, k), e) =
    ends_joined stream fault text (rows_stream_ends f header rows whole stream said) (subst (λ t. EndsInFeed t) (sym k) (fault_ends x)) e

-- lines after whole lines
pub lines_joined : (a b : List ℕ) → EndsInFeed a → lines true (a ++ b) ≡ lines true a ++ lines true b
lines_joined a b (inl e) = ap (λ t. lines true (t ++ b)) e ∙ sym (ap (λ t. lines true t ++ lines true b) e ∙ ap (λ ls. ls ++ lines true b) (lines-nil true))
lines_joined a b (inr (x, e)) =
    ap (λ t. lines true (t ++ b)) e ∙ ap (λ t. lines true t) (append_assoc x newline b) ∙ lines-append true x b
    ∙ sym (ap (λ t. lines true t ++ lines true b) e ∙ ap (λ ls. ls ++ lines true b)
    (lines-append true x [] ∙ ap (λ ls. lines false (x ++ newline) ++ ls) (lines-nil true) ∙ append-nil (lines false (x ++ newline))))

-- the lines of two texts, of which the first is whole, are those of both
pub texts_joined : (a b : List ℕ) → EndsInFeed a → texts (a ++ b) ≡ texts a ++ texts b
texts_joined a b h = ap (λ ls. map (λ (line : Line). line.bytes) ls) (lines_joined a b h)
    ∙ map-append (λ (line : Line). line.bytes) (lines true a) (lines true b)

-- ---- what a session writes alone

-- the text of a stream is what the session writes
stream_is : (f : Formula) (header : Option Header) (rows : List Row) (whole : Bool) (s : List ℕ)
    → StreamOf verdicts f header rows whole s → IsRowsStream f header rows whole s
stream_is f None rows whole s h = h
stream_is f (Some header) rows whole s h = h

module _ (f : Formula) (bytes : List ℕ) (ended : Bool) (text : List ℕ) (t : IsTextOf verdicts stream_limits f bytes ended text) where
  -- where the bytes have no fault
  pub alone_of : ((x : Fault) → ¬ IsInputFault stream_limits f bytes ended x) → Alone f bytes ended text
  alone_of calm = (t.header, t.rows, t.whole, text, [], t.before, stream_is f t.header t.rows t.whole text t.is, inl (calm, refl), sym (append-nil text))

  -- and where they have one
  pub alone_faulted : (x : Fault) → IsInputFault stream_limits f bytes ended x → Alone f bytes ended (text ++ fault_text x)
  alone_faulted x is = (t.header, t.rows, t.whole, text, fault_text x, t.before, stream_is f t.header t.rows t.whole text t.is, inr (x, is, refl), refl)

going_on : {limits : Limits} {f : Formula} {bytes : List ℕ} {ended : Bool} {header : Option Header} {rows : List Row} {whole : Bool}
    → AreRowsBefore limits f bytes ended header rows whole
    → ended ≡ false → whole ≡ false
going_on (sound calm read) e = e
going_on (no_header_yet calm none) e = e
going_on (faulted x fault read) e = refl
going_on (faulted_header x fault none) e = refl

-- a fault stops the text for good
pub alone_stays : (f : Formula) (bytes more : List ℕ) (ended : Bool) (text : List ℕ) → HasFault f bytes → Alone f bytes false text
    → Alone f (bytes ++ more) ended text
alone_stays f bytes more ended text (x, fault) (header, rows, whole, stream, line, before, said, inl (none, k), e) = absurd (none x fault)
alone_stays f bytes more ended text (x, fault) (header, rows, whole, stream, line, before, said, inr (y, is, k), e) =
    let open_still : whole ≡ false = going_on before refl in (
      header,
      rows,
      false,
      stream,
      line,
      rows_stay stream_limits f bytes more ended (y, is) (subst (λ (w : Bool). AreRowsBefore stream_limits f bytes false header rows w) open_still before),
      subst (λ (w : Bool). IsRowsStream f header rows w stream) open_still said,
      inr (y, fault_stays stream_limits f bytes more ended y is, k),
      e,
    )

-- what ends in whole lines has an end in whole lines
pub ends_tail : (a b : List ℕ) → EndsInFeed (a ++ b) → EndsInFeed b
ends_tail [] b h = h
ends_tail (c ∷ a) b (inl e) = absurd (let z : c ∷ (a ++ b) ≡ [] = e in cc)
ends_tail (c ∷ a) b (inr ([], e)) = inl (none_after a b (tail_of c 10 (a ++ b) [] e))
  where
    tail_of : (c d : ℕ) (cs ds : List ℕ) → c ∷ cs ≡ d ∷ ds → cs ≡ ds
    tail_of c d cs ds e = cc

    none_after : (a b : List ℕ) → a ++ b ≡ [] → b ≡ []
    none_after [] b e = e
    none_after (c ∷ a) b e = absurd (let z : c ∷ (a ++ b) ≡ [] = e in cc)
ends_tail (c ∷ a) b (inr (d ∷ x, e)) = ends_tail a b (inr (x, tail_of c d (a ++ b) (x ++ newline) e))
  where
    tail_of : (c d : ℕ) (cs ds : List ℕ) → c ∷ cs ≡ d ∷ ds → cs ≡ ds
    tail_of c d cs ds e = cc

-- the text of the rows so far is whole lines
pub text_ends : (limits : Limits) (f : Formula) (bytes : List ℕ) (ended : Bool) (text : List ℕ) → IsTextOf verdicts limits f bytes ended text → EndsInFeed text
text_ends limits f bytes ended text t = rows_stream_ends f t.header t.rows t.whole text (stream_is f t.header t.rows t.whole text t.is)
