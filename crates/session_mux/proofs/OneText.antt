-- What a session writes by itself for given bytes is one text, and none for no bytes.
use Rattle.std.proofs.Common.{◌≡◌, ◌≢◌, inl, inr, refl, sym, ap, ◌∙◌, ℕ, Bool, false, List, [], ◌++◌}
use Rattle.std.specs.Prelude.{Option, Some, None}
use Rattle.stl_syntax.specs.Formula.{Formula}
use Rattle.stl_syntax.specs.Trace.{Header, Row}
use Rattle.trace_reader.specs.TraceText.{Line, Heading, lines}
use Rattle.trace_reader.specs.InputFaults.{stream_limits, Fault, IsHeaderAt, here, later, IsInputFault, no_header_yet}
use Rattle.answer_lines.specs.FaultTexts.{fault_text}
use Rattle.trace_stream.specs.Streams.{verdicts, StreamOf}
use Rattle.trace_stream.proofs.OneFault.{one_fault}
use Rattle.trace_stream.proofs.OwedRows.{stream_owed_once}
use Rattle.session_mux.specs.Sessions.{Alone, IsRowsStream, IsFaultLine}
use Rattle.session_mux.specs.SessionsAlone.{OneTextAlone}

-- the stream of rows under a header is that of verdicts
pub stream_of : (f : Formula) (header : Option Header) (rows : List Row) (whole : Bool) (s : List ℕ) → IsRowsStream f header rows whole s
    → StreamOf verdicts f header rows whole s
stream_of f None rows whole s h = h
stream_of f (Some header) rows whole s h = h

-- at most one line tells of a fault
fault_line_once : (f : Formula) (bytes : List ℕ) (ended : Bool) (x y : List ℕ) → IsFaultLine f bytes ended x → IsFaultLine f bytes ended y → x ≡ y
fault_line_once f bytes ended x y (inl a) (inl b) = a.1 ∙ sym b.1
fault_line_once f bytes ended x y (inl a) (inr (z, is, e)) = absurd (a.0 z is)
fault_line_once f bytes ended x y (inr (z, is, e)) (inl b) = absurd (b.0 z is)
fault_line_once f bytes ended x y (inr (z, is, e)) (inr (w, other, k)) = e ∙ ap fault_text (one_fault stream_limits f bytes ended z w is other) ∙ sym k

-- what a session writes alone is one text
pub text_alone_once : OneTextAlone
text_alone_once f bytes ended x y (header, rows, whole, stream, fault, before, said, line, e)
    (header', rows', whole', stream', fault', before', said', line', e') =
    e ∙ ap (λ s. s ++ fault) (stream_owed_once verdicts f bytes ended stream stream'
    (record { header = header; rows = rows; whole = whole; before = before; is = stream_of f header rows whole stream said })
    (record { header = header'; rows = rows'; whole = whole'; before = before'; is = stream_of f header' rows' whole' stream' said' }))
    ∙ ap (λ l. stream' ++ l) (fault_line_once f bytes ended fault fault' line line') ∙ sym e'

-- no byte has come: nothing was written
no_header : (n : ℕ) (h : Heading) → ¬ IsHeaderAt [] n h
no_header n h a = by_line a refl
  where
    by_line : {all : List Line} {n : ℕ} {h : Heading} → IsHeaderAt all n h → all ≢ []
    by_line (here a b c) e = cc
    by_line (later a b c) e = cc

no_fault : (f : Formula) (x : Fault) → ¬ IsInputFault stream_limits f [] false x
unfolding lines
no_fault f x (inl (n, h, a, l, k)) = no_header n h a
no_fault f x (inr (_, (r, (e, (t, z)), y))) = cc

-- for no bytes a session writes nothing
pub nothing_alone : (f : Formula) → Alone f [] false []
unfolding lines
nothing_alone f = (None, [], false, [], [], no_header_yet (no_fault f) no_header, refl, inl (no_fault f, refl), refl)
