-- The first fault of bytes that stands in their first lines is one of those alone.
use Rattle.std.proofs.Common.{◌≡◌, inl, inr, ℕ, suc, ◌+◌, ◌≤◌, Bool, true, false, List, [], ◌∷◌, ◌++◌}
use Rattle.std.proofs.Common.{length, take, sym, ap, ◌∙◌, subst, arith, append-nil, Option, Some, None}
use Rattle.std.specs.Prelude.{MatchBool}
use Rattle.std.proofs.lemmas.Bool.{false≢true}
use Rattle.std.proofs.lemmas.List.{take-append-le}
use Rattle.rational.proofs.Tests.{match_weaker}
use Rattle.stl_syntax.specs.Choice.{◌or_else◌}
use Rattle.stl_syntax.specs.Formula.{Formula}
use Rattle.stl_syntax.specs.Trace.{Row}
use Rattle.stl_syntax.specs.declared.scale.Scale.{Scale}
use Rattle.trace_reader.specs.TraceText.{Line, lines, is_blank_line, Heading, scale_of}
use Rattle.trace_reader.specs.TraceRefusals.{FaultFrom, FaultAfter}
use Rattle.trace_reader.specs.InputFaults.{Fault, line_of, IsHeaderAt, IsUnknownIn, IsUnitIn, IsInputFault}
use Rattle.trace_reader.specs.declared.refusal.Limits.{Limits}
use Rattle.trace_reader.specs.declared.refusal.TraceRefusal.{TraceRefusal}
use Rattle.trace_reader.proofs.OpenLines.{Parts, lines-now}
use Rattle.trace_stream.proofs.FaultPlaces.{InRow, InHeading, fault_within}
use Rattle.trace_stream.proofs.FaultsStay.{lack_stays}
use Rattle.trace_stream.proofs.HeaderLines.{header_within}
use Rattle.trace_stream.proofs.RowsBefore.{header_in}

module _ (limits : Limits) (x : TraceRefusal) where
  -- a fault after line n - 1 stands in a line from n on
  from_after : (s : Scale) (h : Heading) (n count : ℕ) (last : Option ℕ) (ls : List Line) → FaultAfter limits s h false n count last ls x → n ≤ x.line
  from_after s h n count last [] f = absurd (false≢true f.1.0.0)
  from_after s h n count last (l ∷ ls) (inl (e, f)) = omega (arith, e)
  from_after s h n count last (l ∷ ls) (inr (calm, (w, m))) =
      by_kind (is_blank_line l) m (from_after s h (suc n) count last ls) (λ t. from_after s h (suc n) (suc count) t ls)
    where
      by_kind : (b : Bool) → MatchBool b (FaultAfter limits s h false (suc n) count last ls x) (InRow limits s h false n count last l ls x)
          → (FaultAfter limits s h false (suc n) count last ls x → suc n ≤ x.line)
          → ((t : Option ℕ) → FaultAfter limits s h false (suc n) (suc count) t ls x → suc n ≤ x.line) → n ≤ x.line
      by_kind true f blank row = omega (arith, blank f)
      by_kind false (inl (e, f)) blank row = omega (arith, e)
      by_kind false (inr (none, (r, is, f))) blank row = omega (arith, row (Some r.time) f)

  from_line : (least : Scale) (n : ℕ) (ls : List Line) → FaultFrom limits least false n ls x → n ≤ x.line
  from_line least n [] f = absurd (false≢true f.1.0)
  from_line least n (l ∷ ls) (inl (e, f)) = omega (arith, e)
  from_line least n (l ∷ ls) (inr (calm, (w, m))) = by_kind (is_blank_line l) m (from_line least (suc n) ls)
    where
      by_kind : (b : Bool) → MatchBool b (FaultFrom limits least false (suc n) ls x) (InHeading limits least false n l ls x)
          → (FaultFrom limits least false (suc n) ls x → suc n ≤ x.line) → n ≤ x.line
      by_kind true f blank = omega (arith, blank f)
      by_kind false (inl (e, f)) blank = omega (arith, e)
      by_kind false (inr (none, (h, is, f))) blank = omega (arith, from_after (scale_of least h) h (suc n) 0 None ls f)

  early_after : (s : Scale) (h : Heading) (n count : ℕ) (last : Option ℕ) (front tail : List Line)
      → FaultAfter limits s h false n count last (front ++ tail) x → suc x.line ≤ n + length front → FaultAfter limits s h false n count last front x
  early_after s h n count last [] tail f low = absurd (omega (arith, low, from_after s h n count last tail f))
  early_after s h n count last (l ∷ front) tail (inl a) low = inl a
  early_after s h n count last (l ∷ front) tail (inr (sound, (w, m))) low =
      let blank =
      λ (f : FaultAfter limits s h false (suc n) count last (front ++ tail) x). early_after s h (suc n) count last front tail f (omega (arith, low)) in
      let more = λ (r : Row) (f : FaultAfter limits s h false (suc n) (suc count) (Some r.time) (front ++ tail) x).
      early_after s h (suc n) (suc count) (Some r.time) front tail f (omega (arith, low)) in
      inr (sound, (w, match_weaker (is_blank_line l) _ _ _ _ blank (λ f. elim f [ inl a ↦ inl a | inr a ↦ inr (a.0, (a.1.0, a.1.1, more a.1.0 a.1.2)) ]) m))

  -- a fault of lines that stands in the first of them is one of those
  early_from : (least : Scale) (n : ℕ) (front tail : List Line) → FaultFrom limits least false n (front ++ tail) x → suc x.line ≤ n + length front
      → FaultFrom limits least false n front x
  early_from least n [] tail f low = absurd (omega (arith, low, from_line least n tail f))
  early_from least n (l ∷ front) tail (inl a) low = inl a
  early_from least n (l ∷ front) tail (inr (sound, (w, m))) low =
      let blank = λ (f : FaultFrom limits least false (suc n) (front ++ tail) x). early_from least (suc n) front tail f (omega (arith, low)) in
      let more = λ (h : Heading) (f : FaultAfter limits (scale_of least h) h false (suc n) 0 None (front ++ tail) x).
      early_after (scale_of least h) h (suc n) 0 None front tail f (omega (arith, low)) in
      inr (sound, (w, match_weaker (is_blank_line l) _ _ _ _ blank (λ f. elim f [ inl a ↦ inl a | inr a ↦ inr (a.0, (a.1.0, a.1.1, more a.1.0 a.1.2)) ]) m))

-- what a header lacks is told in its line
lack_line : (f : Formula) (n : ℕ) (h : Heading) (x : Fault) → (IsUnknownIn f n h or_else IsUnitIn f n h) x → line_of x ≡ n
lack_line f n h x (inl (atom, term, name, is, e)) = ap line_of e
lack_line f n h x (inr (fits, (fault, is, e))) = ap line_of e

-- bytes whose last line has ended, and more bytes
module _ (limits : Limits) (f : Formula) (a b : List ℕ) (p : Parts a []) where
  -- their lines
  pub lines_first : lines false a ≡ p.front
  lines_first = lines-now a [] p false ∙ append-nil p.front

  -- and those of all
  pub lines_all : lines false (a ++ b) ≡ p.front ++ lines false b
  lines_all = p.joins false b

  -- a fault of the first bytes stands in one of their lines
  pub fault_in_front : (x : Fault) → IsInputFault limits f a false x → line_of x ≤ length p.front
  fault_in_front x (inl (n, h, at, lack, clean)) = omega (arith, lack_line f n h x lack, (header_within at).1, ap length lines_first)
  fault_in_front x (inr (none, (r, first, e))) =
      omega (arith, ap line_of e, fault_within limits false r f.scale 1 (lines false a) (omega arith) first, ap length lines_first)

  -- a fault of all bytes that stands in one of these lines is one of the first bytes
  pub fault_early : (x : Fault) → IsInputFault limits f (a ++ b) false x → line_of x ≤ length p.front → IsInputFault limits f a false x
  fault_early x (inl (n, h, at, lack, clean)) low =
      let low' : n ≤ length p.front = omega (arith, low, lack_line f n h x lack) in
      let same : take n (lines false a) ≡ take n (lines false (a ++ b)) =
      ap (take n) lines_first ∙ sym (ap (take n) lines_all ∙ take-append-le n p.front (lines false b) low') in
      inl (
        n,
        h,
        subst (λ ls. IsHeaderAt ls n h) (sym lines_first) (header_in p.front (lines false b) (subst (λ ls. IsHeaderAt ls n h) lines_all at) low'),
        lack,
        λ r fault. clean r (subst (λ ls. FaultFrom limits f.scale false 1 ls r) same fault),
      )
  fault_early x (inr (none, (r, first, e))) low =
      inr (
        λ y lack. none y (lack_stays limits f a b false y lack),
        (
          r,
          subst (λ ls. FaultFrom limits f.scale false 1 ls r) (sym lines_first)
              (early_from limits r f.scale 1 p.front (lines false b) (subst (λ ls. FaultFrom limits f.scale false 1 ls r) lines_all first)
              (omega (arith, low, ap line_of e))),
          e,
        ),
      )
