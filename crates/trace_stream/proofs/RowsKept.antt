-- Rows that come straight into what is kept of a case, and what is kept for what the reader stands for.
use Rattle.std.proofs.Common.{◌≡◌, ℕ, true, false, List, [], ◌++◌, refl, sym, ap, ◌∙◌, subst, Option, Some, None, Result, Ok, Err}
use Rattle.std.specs.Prelude.{option_map, MatchOption, MatchResult, OnOk, IfErr}
use Rattle.std.proofs.lemmas.Option.{same_Some}
use Rattle.stl_syntax.specs.Formula.{Formula}
use Rattle.stl_syntax.specs.Trace.{Row}
use Rattle.trace_reader.specs.TraceText.{Heading, TraceOf}
use Rattle.trace_reader.specs.Feeds.{through_feed}
use Rattle.trace_reader.specs.Reader.{Reader, StandsFor, HasRead, header_of}
use Rattle.trace_reader.specs.Taken.{HasTraceSoFar}
use Rattle.trace_reader.specs.declared.refusal.Limits.{Limits}
use Rattle.trace_reader.specs.declared.refusal.TraceRefusal.{TraceRefusal}
use Rattle.trace_stream.specs.CaseReader.{HasCase, IsKept, IsEnded, IsRefused, IsLastFault, of_header, own}
use Rattle.trace_stream.specs.Kept.{with_rows, StandsForCase, IsEndedAs}
use Rattle.trace_stream.specs.declared.case.Case.{Case}
use Rattle.trace_stream.specs.declared.fault.StreamStop.{StreamStop}
use Rattle.trace_stream.specs.declared.fault.StreamStop.TheVariants.{NoMemory}
use Rattle.trace_stream.proofs.KeptOfBytes.{IsNext, header_goes_on, same_header}

-- the trace of the case is that of the rows so far
pub so_far : (f : Formula) (r : Reader) (case : Option Case) (c : Case) (bytes : List ℕ) → case ≡ Some c → IsKept f r case bytes → HasTraceSoFar r c.trace
so_far f r case c bytes is k = by_heading r.heading refl (subst (HasCase f r.heading bytes k.rows) is k.has_case)
  where
    by_heading : (o : Option Heading) → r.heading ≡ o → HasCase f o bytes k.rows (Some c) → HasTraceSoFar r c.trace
    by_heading None e t = absurd (let j = t in cc)
    by_heading (Some h) e t =
        let read : TraceOf bytes false f.scale (header_of f.scale h) k.rows =
        subst (λ l. TraceOf bytes false l (header_of l h) k.rows) k.least (subst (λ o. HasRead o r.least bytes k.rows) e k.stands.read) in
        record {
          bytes = bytes;
          earlier = [];
          stands = subst (StandsFor r bytes) (sym t.1) k.stands;
          header = ap (option_map (header_of r.least)) e ∙ (ap (λ l. Some (header_of l h)) k.least ∙ ap (λ x. Some x) (sym (same_header t.2 false h read)));
        }

-- what is kept with rows more
pub kept_rows : (f : Formula) (old new : Reader) (case : Option Case) (c : Case) (bytes taken : List ℕ) (more : List Row) → case ≡ Some c
    → (k : IsKept f old case bytes) → ((b : List ℕ) (rows : List Row) → StandsFor old b rows → StandsFor new (b ++ taken) (rows ++ more))
    → new.least ≡ old.least → new.heading ≡ old.heading → IsKept f new (Some (with_rows more c)) (bytes ++ taken)
kept_rows f old new case c bytes taken more is k stands least same = record {
  rows = k.rows ++ more;
  ticks = k.ticks;
  least = least ∙ k.least;
  stands = stands bytes k.rows k.stands;
  has_case = subst (λ o. HasCase f o (bytes ++ taken) (k.rows ++ more) (Some (with_rows more c))) (sym same)
      (by_heading old.heading (subst (HasCase f old.heading bytes k.rows) is k.has_case));
}
  where
    by_heading : (o : Option Heading) → HasCase f o bytes k.rows (Some c) → HasCase f o (bytes ++ taken) (k.rows ++ more) (Some (with_rows more c))
    by_heading None t = absurd (let j = t in cc)
    by_heading (Some h) t = (record { formula = t.0.formula; bound = t.0.bound }, ap (λ rs. rs ++ more) t.1, header_goes_on taken t.2)

module _ {K : Type 0} (Stands : K → Case → Type 0) where
  -- the case that it stands for
  pub case_of : (kept : Option K) (case : Option Case) (x : K) → kept ≡ Some x → StandsForCase Stands kept case → (c : Case) × (case ≡ Some c) × Stands x c
  case_of None case x is t = absurd (let j = is in cc)
  case_of (Some y) None x is t = absurd t
  case_of (Some y) (Some c) x is t = (c, refl, subst (λ z. Stands z c) (same_Some y x is) t)

  -- the bytes to read next, by what is kept
  pub next_kept : (kept : Option K) (case : Option Case) (piece line : List ℕ) → StandsForCase Stands kept case
      → MatchOption kept (line ≡ through_feed piece) (λ _. line ≡ piece) → IsNext case piece line
  next_kept None None piece line t m = m
  next_kept None (Some c) piece line t m = absurd t
  next_kept (Some x) None piece line t m = absurd t
  next_kept (Some x) (Some c) piece line t m = m

  none_kept : (kept : Option K) (case : Option Case) → StandsForCase Stands kept case → case ≡ None → kept ≡ None
  none_kept None case t e = refl
  none_kept (Some x) None t e = absurd t
  none_kept (Some x) (Some c) t e = absurd (let j = e in cc)

  none_there : (kept : Option K) (case : Option Case) → StandsForCase Stands kept case → kept ≡ None → case ≡ None
  none_there kept None t e = refl
  none_there None (Some c) t e = absurd t
  none_there (Some x) (Some c) t e = absurd (let j = e in cc)

  -- the first fault of all bytes, by what is kept
  pub last_kept : (f : Formula) (reader : Reader) (kept : Option K) (case : Option Case) (x : TraceRefusal) (stop : StreamStop)
      → StandsForCase Stands kept case → IsLastFault f reader kept x stop → IsLastFault f reader case x stop
  last_kept f reader kept case x stop t (of_header h none end some no_begin) = of_header h (none_there kept case t none) end some no_begin
  last_kept f reader kept case x _ t (own fits) = own (λ none. fits (none_kept kept case t none))

  module _ (limits : Limits) (f : Formula) (bytes : List ℕ) where
    -- what is kept of all bytes
    pub ended_as : (kept : Option K) (case : Option Case) → StandsForCase Stands kept case → MatchOption case ⊥ (IsEnded limits f bytes)
        → MatchOption kept ⊥ (IsEndedAs Stands limits f bytes)
    ended_as None None t m = m
    ended_as None (Some c) t m = absurd t
    ended_as (Some x) None t m = absurd t
    ended_as (Some x) (Some c) t m = record { case = c; for_case = t; ended = m }

    -- what came of keeping a last row
    pub kept_last : (kept : Option K) (case : Option Case) (r : Result (Unit {0}) StreamStop) → OnOk r (StandsForCase Stands kept case)
        → IfErr r (λ e. e ≡ NoMemory) → MatchOption case ⊥ (IsEnded limits f bytes)
        → MatchResult r (λ _. MatchOption kept ⊥ (IsEndedAs Stands limits f bytes)) (IsRefused limits f true bytes)
    kept_last kept case (Ok x) stands none ended = ended_as kept case stands ended
    kept_last kept case (Err e) stands none ended = subst (λ s. IsRefused limits f true bytes s) (sym none) tt
