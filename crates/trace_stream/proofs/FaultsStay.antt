-- What a header lacks in the first bytes it lacks in all bytes that begin with them.
use Rattle.std.proofs.Common.{◌≡◌, ℕ, Bool, true, false, List, [], ◌∷◌, ◌++◌, take, refl, sym, ap, ◌∙◌, subst, inl, inr}
use Rattle.std.proofs.lemmas.Bool.{false≢true}
use Rattle.std.proofs.lemmas.List.{take-append-le}
use Rattle.stl_syntax.specs.Formula.{Formula}
use Rattle.trace_reader.specs.TraceText.{Line, lines, Heading}
use Rattle.trace_reader.specs.TraceRefusals.{FaultFrom}
use Rattle.trace_reader.specs.declared.refusal.Limits.{Limits}
use Rattle.trace_reader.proofs.FirstFaultStays.{first_fault_stays}
use Rattle.trace_reader.proofs.LineLemmas.{rest}
use Rattle.trace_reader.proofs.OpenLines.{parts, lines-now, open_line}
use Rattle.trace_reader.specs.InputFaults.{Fault, of_trace, IsHeaderAt, here, later, IsLack, IsInputFault}
use Rattle.trace_stream.specs.CaseReader.{IsSound}
use Rattle.trace_stream.proofs.HeaderLines.{header_stays, header_within}

-- a header among the lines stands before the unfinished one
pub header_in_front : (front : List Line) (line : List ℕ) {n : ℕ} {h : Heading} → IsHeaderAt (front ++ rest false line) n h → IsHeaderAt front n h
header_in_front [] [] p = p
header_in_front [] (c ∷ cs) (here w b is) = absurd (false≢true w)
header_in_front [] (c ∷ cs) (later w b p) = absurd (false≢true w)
header_in_front (l ∷ front) line (here w b is) = here w b is
header_in_front (l ∷ front) line (later w b p) = later w b (header_in_front front line p)

-- what a header lacks it lacks whatever follows
pub lack_stays : (limits : Limits) (f : Formula) (bytes more : List ℕ) (ended : Bool) (x : Fault) → IsLack limits f bytes false x
    → IsLack limits f (bytes ++ more) ended x
lack_stays limits f bytes more ended x (n, h, at, lacking, clean) =
    let (line, o) = open_line bytes in
    let p = parts o in
    let now = lines-now bytes line p false in
    let front = header_in_front p.front line (subst (λ ls. IsHeaderAt ls n h) now at) in
    let within = (header_within front).1 in
    let same : take n (lines ended (bytes ++ more)) ≡ take n (lines false bytes) =
    ap (take n) (p.joins ended more) ∙ take-append-le n p.front (lines ended (line ++ more)) within
    ∙ sym (ap (take n) now ∙ take-append-le n p.front (rest false line) within) in (
      n,
      h,
      subst (λ ls. IsHeaderAt ls n h) (sym (p.joins ended more)) (header_stays (lines ended (line ++ more)) front),
      lacking,
      λ r fault. clean r (subst (λ ls. FaultFrom limits f.scale false 1 ls r) same fault),
    )

-- bytes that begin with a fault have one
pub unsound : (limits : Limits) (f : Formula) (bytes more : List ℕ) (x : Fault) → IsInputFault limits f bytes false x → ¬ IsSound limits f (bytes ++ more) true
unsound limits f bytes more x (inl lack) sound = sound x (inl (lack_stays limits f bytes more true x lack))
unsound limits f bytes more x (inr (known, (r, first, e))) sound =
    sound (of_trace r) (inr (λ y lack. sound y (inl lack), (r, first_fault_stays bytes limits f.scale r more true first, refl)))
