-- The first fault of all bytes: the one that the reader ended with, or what a header without rows lacks.
use Rattle.std.proofs.Common.{◌≡◌, true, false, refl, sym, ap, ◌∙◌, subst, Option, Some, None}
use Rattle.std.specs.Prelude.{is_some}
use Rattle.std.proofs.lemmas.Bool.{false≢true}
use Rattle.stl_syntax.specs.Formula.{Formula}
use Rattle.stl_syntax.specs.Trace.{Header}
use Rattle.stl_syntax.specs.declared.scale.Scale.{Scale}
use Rattle.trace_reader.specs.TraceText.{Heading}
use Rattle.trace_reader.specs.Reader.{Reader, header_of, header_read}
use Rattle.trace_reader.specs.declared.refusal.TraceRefusal.{TraceRefusal}
use Rattle.trace_reader.specs.declared.refusal.TraceKind.TheVariants.{NoRows}
use Rattle.trace_stream.specs.Cases.{IsBegun, IsNoBegin}
use Rattle.trace_stream.specs.CaseReader.{HasHeader, IsLastFault, of_header, own}
use Rattle.trace_stream.specs.declared.case.Case.{Case}
use Rattle.trace_stream.specs.declared.fault.TraceFault.TheVariants.{Trace as InTrace}
use Rattle.trace_stream.specs.declared.fault.StreamStop.{StreamStop}
use Rattle.trace_stream.specs.declared.fault.StreamStop.TheVariants.{Fault as Faulty}
use Rattle.trace_stream.proofs.KeptOfBytes.{heading_of}

none_of : {T : Type 0} (o : Option T) → is_some o ≡ false → o ≡ None
none_of None e = refl
none_of (Some c) e = absurd (false≢true (sym e))

header_is : (f : Formula) (r : Reader) (header : Header) → HasHeader f r → header_read r ≡ Some header → (h : Heading)
    → r.heading ≡ Some h → header ≡ header_of f.scale h
header_is f r header has read h some =
    let (g, found, is) = heading_of r.least r.heading header read in
    let same : g ≡ h = (let e = sym found ∙ some in cc) in
    is ∙ ap (λ (s : Scale). header_of s g) has.least ∙ ap (header_of f.scale) same

module _ {T : Type 0} (f : Formula) (reader : Reader) (case : Option T) (r : TraceRefusal) where
  -- another fault
  pub other_fault : (r.kind ≡ NoRows → ⊥) → IsLastFault f reader case r (Faulty (InTrace r))
  other_fault other = own (λ none end. absurd (other end))

  -- a header that had its case
  pub with_case : is_some case ≡ true → IsLastFault f reader case r (Faulty (InTrace r))
  with_case some = own (λ none. absurd (false≢true (subst (λ o. is_some o ≡ true) none some)))

  module _ (header : Header) (has : r.kind ≡ NoRows → HasHeader f reader) (read : header_read reader ≡ Some header) (end : r.kind ≡ NoRows) where
    -- where a header without rows lacks something, that is the fault which is told at the end
    pub lacking_header : is_some case ≡ false → (stop : StreamStop)
        → ((h : Heading) → header ≡ header_of f.scale h → IsNoBegin f r.line h stop) → IsLastFault f reader case r stop
    lacking_header none stop no_begin =
        let k = has end in
        of_header k.heading (none_of case none) end k.read (no_begin k.heading (header_is f reader header k read k.heading k.read))

    -- where a header without rows lacks nothing, it is told at the end that there are no rows
    pub fitting_header : (c : Case) → ((h : Heading) → header ≡ header_of f.scale h → IsBegun f r.line h c) → IsLastFault f reader case r (Faulty (InTrace r))
    fitting_header c begun = own (λ none e h some x lacks. (begun h (header_is f reader header (has end) read h some)).fits x lacks)
