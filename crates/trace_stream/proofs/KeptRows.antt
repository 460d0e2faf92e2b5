-- What a reader has kept of its bytes: they have no fault so far, and the rows are those before the first fault.
use Rattle.std.proofs.Common.{◌≡◌, inr, inl, false, List, ℕ, [], refl, sym, subst, append-nil, Some, None}
use Rattle.std.specs.Prelude.{Option, option_map}
use Rattle.stl_syntax.specs.Formula.{Formula}
use Rattle.stl_syntax.specs.Trace.{Header}
use Rattle.stl_syntax.specs.WellFormed.{IsScale}
use Rattle.stl_syntax.specs.declared.scale.Scale.{Scale}
use Rattle.trace_reader.specs.TraceText.{Line, Heading, lines, AreTraceLines, blank, heading}
use Rattle.trace_reader.specs.TraceRefusals.{IsFirstFault}
use Rattle.trace_reader.specs.Reader.{Reader, StandsFor, HasRead, header_of}
use Rattle.trace_reader.specs.InputFaults.{Fault, IsLack, IsInputFault, AreRowsBefore, no_header_yet, sound}
use Rattle.trace_reader.proofs.LineLemmas.{lines-nil}
use Rattle.trace_stream.specs.CaseReader.{IsSound, IsKept, HasCase}
use Rattle.trace_stream.specs.declared.case.Case.{Case}
use Rattle.trace_stream.proofs.HeaderLines.{no_header}
use Rattle.trace_stream.proofs.KeptOfBytes.{no_lack}

-- bytes that were kept have no fault so far
pub sound_so_far : (f : Formula) (reader : Reader) (case : Option Case) (bytes : List ℕ) (k : IsKept f reader case bytes) → IsSound reader.limits f bytes false
sound_so_far f reader case bytes k x (inl lack) = by_heading reader.heading k.stands.read k.has_case
  where
    by_heading : (o : Option Heading) → HasRead o reader.least bytes k.rows → HasCase f o bytes k.rows case → ⊥
    by_heading None read t = no_header (lines false bytes) read.0 lack.2
    by_heading (Some h) read t = by_case case t
      where
        by_case : (c : Option Case) → HasCase f (Some h) bytes k.rows c → ⊥
        by_case None t = t
        by_case (Some c) t = no_lack t.2 reader.limits false [] x (subst (λ b. IsLack reader.limits f b false x) (sym (append-nil bytes)) lack)
sound_so_far f reader case bytes k x (inr (known, (r, first, e))) =
    k.stands.sound r (subst (λ (s : Scale). IsFirstFault bytes false reader.limits s r) (sym k.least) first)

-- what a reader has kept are the rows before the first fault
pub before_of_kept : (f : Formula) (reader : Reader) (case : Option Case) (bytes : List ℕ) (k : IsKept f reader case bytes)
    → AreRowsBefore reader.limits f bytes false (option_map (header_of f.scale) reader.heading) k.rows false
before_of_kept f reader case bytes k = by_heading reader.heading (subst (λ (s : Scale). HasRead reader.heading s bytes k.rows) k.least k.stands.read)
  where
    clean : (x : Fault) → ¬ IsInputFault reader.limits f bytes false x
    clean = sound_so_far f reader case bytes k

    by_heading : (o : Option Heading) → HasRead o f.scale bytes k.rows
        → AreRowsBefore reader.limits f bytes false (option_map (header_of f.scale) o) k.rows false
    by_heading None read = subst (λ rows. AreRowsBefore reader.limits f bytes false None rows false) (sym read.1)
        (no_header_yet clean (λ n h at. no_header (lines false bytes) read.0 at))
    by_heading (Some h) read = sound clean read

-- before the first read
pub at_first : (f : Formula) (reader : Reader) → reader.least ≡ f.scale → IsScale f.scale → StandsFor reader [] [] → IsKept f reader None []
at_first f reader least ticks s =
    let no_heading : reader.heading ≡ None = none reader.heading refl in
    record {
      rows = [];
      ticks = ticks;
      least = least;
      stands = s;
      has_case = subst (λ o. HasCase f o [] [] None) (sym no_heading) refl;
    }
  where
    none : (o : Option Heading) → reader.heading ≡ o → reader.heading ≡ None
    none None e = e
    none (Some h) e = absurd (empty (lines-nil false) (subst (λ o. HasRead o reader.least [] []) e s.read))
      where
        empty : {ls : List Line} {header : Header} → ls ≡ [] → AreTraceLines reader.least ls header [] → ⊥
        empty e (blank w b m) = let k = e in cc
        empty e (heading g w b k m) = let k = e in cc
