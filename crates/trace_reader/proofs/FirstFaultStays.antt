-- The first fault of bytes is that of all bytes that begin with them.
use Rattle.std.proofs.Common.{ℕ, inl, inr, suc, ◌≤◌, Bool, false, List, [], ◌∷◌, ◌++◌, length, sym, subst, arith, Option, Some, None}
use Rattle.std.proofs.lemmas.Bool.{false≢true}
use Rattle.rational.proofs.Tests.{match_weaker}
use Rattle.stl_syntax.specs.Trace.{Row}
use Rattle.stl_syntax.specs.declared.scale.Scale.{Scale}
use Rattle.trace_reader.specs.TraceText.{Line, lines, is_blank_line, Heading, scale_of}
use Rattle.trace_reader.specs.TraceRefusals.{LineFault, InLine, FaultFrom, FaultAfter, IsFirstFault}
use Rattle.trace_reader.specs.Feeds.{HasNoFeed}
use Rattle.trace_reader.specs.declared.refusal.Limits.{Limits}
use Rattle.trace_reader.specs.declared.refusal.TraceRefusal.{TraceRefusal}
use Rattle.trace_reader.proofs.LineLemmas.{rest}
use Rattle.trace_reader.proofs.OpenLines.{parts, lines-now, grows, open_line}

module _ (limits : Limits) (ended : Bool) (line more : List ℕ) (free : HasNoFeed line) (x : TraceRefusal) where
  -- a line that goes on keeps the faults that are known before it is whole
  longer : (n : ℕ) (l m : Line) → length l.bytes ≤ length m.bytes → InLine n (LineFault limits n l) x → InLine n (LineFault limits n m) x
  longer n l m k (e, inl a) = (e, inl a)
  longer n l m k (e, inr (few, (a, b))) = (e, inr (few, (omega (arith, k, a), b)))

  after_stays : (s : Scale) (h : Heading) (n count : ℕ) (last : Option ℕ) (front : List Line)
      → FaultAfter limits s h false n count last (front ++ rest false line) x
      → FaultAfter limits s h ended n count last (front ++ lines ended (line ++ more)) x
  after_stays s h n count last [] f = by_line line free f
    where
      by_line : (l : List ℕ) → HasNoFeed l → FaultAfter limits s h false n count last (rest false l) x
          → FaultAfter limits s h ended n count last (lines ended (l ++ more)) x
      by_line [] u g = absurd (false≢true g.1.0.0)
      by_line (c ∷ cs) u (inl a) =
          let (m, ms, e, k) = grows ended (c ∷ cs) more u (omega arith) in
          subst (λ ls. FaultAfter limits s h ended n count last ls x) (sym e) (inl (longer n (record { bytes = c ∷ cs; whole = false }) m k a))
      by_line (c ∷ cs) u (inr (_, (w, g))) = absurd (false≢true w)
  after_stays s h n count last (l ∷ front) (inl a) = inl a
  after_stays s h n count last (l ∷ front) (inr (sound, (w, m))) =
      let blank = after_stays s h (suc n) count last front in
      let later = λ (r : Row). after_stays s h (suc n) (suc count) (Some r.time) front in
      inr (sound, (w, match_weaker (is_blank_line l) _ _ _ _ blank (λ f. elim f [ inl a ↦ inl a | inr a ↦ inr (a.0, (a.1.0, a.1.1, later a.1.0 a.1.2)) ]) m))

  from_stays : (least : Scale) (n : ℕ) (front : List Line) → FaultFrom limits least false n (front ++ rest false line) x
      → FaultFrom limits least ended n (front ++ lines ended (line ++ more)) x
  from_stays least n [] f = by_line line free f
    where
      by_line : (l : List ℕ) → HasNoFeed l → FaultFrom limits least false n (rest false l) x → FaultFrom limits least ended n (lines ended (l ++ more)) x
      by_line [] u g = absurd (false≢true g.1.0)
      by_line (c ∷ cs) u (inl a) =
          let (m, ms, e, k) = grows ended (c ∷ cs) more u (omega arith) in
          subst (λ ls. FaultFrom limits least ended n ls x) (sym e) (inl (longer n (record { bytes = c ∷ cs; whole = false }) m k a))
      by_line (c ∷ cs) u (inr (_, (w, g))) = absurd (false≢true w)
  from_stays least n (l ∷ front) (inl a) = inl a
  from_stays least n (l ∷ front) (inr (sound, (w, m))) =
      let blank = from_stays least (suc n) front in
      let later = λ (h : Heading). after_stays (scale_of least h) h (suc n) 0 None front in
      inr (sound, (w, match_weaker (is_blank_line l) _ _ _ _ blank (λ f. elim f [ inl a ↦ inl a | inr a ↦ inr (a.0, (a.1.0, a.1.1, later a.1.0 a.1.2)) ]) m))

-- the first fault of bytes is that of all bytes that begin with them
pub first_fault_stays : (bytes : List ℕ) (limits : Limits) (least : Scale) (x : TraceRefusal) (more : List ℕ) (ended : Bool)
    → IsFirstFault bytes false limits least x
    → IsFirstFault (bytes ++ more) ended limits least x
first_fault_stays bytes limits least x more ended f =
    let (line, o) = open_line bytes in
    let p = parts o in
    subst (λ ls. FaultFrom limits least ended 1 ls x) (sym (p.joins ended more))
    (from_stays limits ended line more p.free x least 1 p.front (subst (λ ls. FaultFrom limits least false 1 ls x) (lines-now bytes line p false) f))
