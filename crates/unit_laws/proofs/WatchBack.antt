-- What `watch` owes in smaller ticks it owes in the trace's, for a formula and rows within the limits.
use Rattle.std.proofs.Common.{◌≡◌, ℕ, ◌^◌, ◌<◌, Bool, true, false, List, [], ◌∷◌, ◌++◌, length, refl, subst, Some, None, MatchBool}
use Rattle.std.specs.Prelude.{int_lt}
use Rattle.std.proofs.lemmas.List.Elements.{All-head, All-tail, All-cons, All-nil}
use Rattle.rational.specs.Time.{whole, closed, left_open}
use Rattle.rational.proofs.Order.{same_refl}
use Rattle.stl_syntax.specs.Trace.{Header, Row, AreRows, IsInRange, AreInRange, first_time, start}
use Rattle.stl_syntax.specs.Formula.{Subformula}
use Rattle.stl_syntax.specs.Stream.{IsStretchText, IsNewText, IsStreamText}
use Rattle.stl_syntax.specs.Texts.{AreVerdictLines}
use Rattle.stl_syntax.specs.declared.scale.Scale.{Scale}
use Rattle.stl_syntax.specs.declared.items.Verdict.{Verdict}
use Rattle.bounds.proofs.NearTimes.{ahead}
use Rattle.unit_laws.proofs.CalmTruth.{HasCalmAtoms}
use Rattle.unit_laws.proofs.SmallFractions.{has_whole, has_int}
use Rattle.unit_laws.proofs.TurningTimes.{stretch_ends}
use Rattle.unit_laws.proofs.VerdictsBack.{HasEnds, verdicts_back, stretch_back, start_back}
use Rattle.unit_laws.proofs.Fronts.{less_shown}
use Rattle.unit_laws.proofs.FinerStreams.{q, other, rows_by, trace_of, other_of, so_far, match_by, GivesNew, rows_text_back, rest_back}

-- the rows of the front lie within the limits too
front_range : (rows : List Row) (r : Row) (more : List Row) → AreInRange ((rows ++ r ∷ []) ++ more) → AreInRange (rows ++ r ∷ [])
front_range [] r more h = All-cons IsInRange r [] (All-head IsInRange r more h) (All-nil IsInRange)
front_range (x ∷ rows) r more h =
    All-cons IsInRange x (rows ++ r ∷ []) (All-head IsInRange x ((rows ++ r ∷ []) ++ more) h)
    (front_range rows r more (All-tail IsInRange x ((rows ++ r ∷ []) ++ more) h))

module _ (K o M : ℕ) (kp : 0 < K) (mp : 0 < M) (p : Subformula) (header : Header) (scale : Scale)
    (lines : (verdicts : List Verdict) (e : HasEnds K (ahead o) kp verdicts) (text : List ℕ) → AreVerdictLines scale verdicts text
    → AreVerdictLines header.scale (verdicts_back K (ahead o) kp verdicts e) text)
    (atoms : (rows : List Row) → AreRows (length header.columns) rows → AreInRange rows
    → HasCalmAtoms (2 ^ 31) (trace_of K o M kp mp p header scale rows) p) where
  abbrev r : Subformula
  r = q K o M kp mp p header scale

  -- the verdicts of what a front answers by the clock are those of the rows
  verdicts_given : GivesNew K o M kp mp p header scale AreInRange (IsNewText p) (IsNewText r)
  verdicts_given rows old None old' None text ok range f g h = h
  verdicts_given rows old None old' (Some j) text ok range f g h = absurd g
  verdicts_given rows old (Some i) old' None text ok range f g h = absurd g
  verdicts_given rows None (Some i) (Some b) (Some j) text ok range f g h = absurd f
  verdicts_given rows (Some a) (Some i) None (Some j) text ok range f g h = absurd f
  verdicts_given rows None (Some i) None (Some j) text ok range f g (verdicts, told, written) =
      let c = so_far K o M kp mp p header scale rows ok in
      let on = closed (start (trace_of K o M kp mp p header scale rows)) (whole i) in
      let shown = closed (start (other_of K o M kp mp p header scale rows)) (whole j) in
      let first = start (trace_of K o M kp mp p header scale rows) in
      let begin = has_whole first (first_time rows) (same_refl first) in
      let e = stretch_ends K (ahead o) M kp mp c p (atoms rows ok range) on shown begin (has_int i) c.starts g verdicts told in (
        verdicts_back K (ahead o) kp verdicts e,
        stretch_back K (ahead o) M kp mp c p on shown c.starts refl g refl verdicts e told,
        lines verdicts e text written,
      )
  verdicts_given rows (Some a) (Some i) (Some b) (Some j) text ok range f g h =
      let c = so_far K o M kp mp p header scale rows ok in
      let on = left_open (whole a) (whole i) in
      let shown = left_open (whole b) (whole j) in
      subst (λ x. MatchBool x (IsStretchText p (trace_of K o M kp mp p header scale rows) on text) (text ≡ [])) (less_shown K o kp a i b j f g)
      (match_by (IsStretchText r (other_of K o M kp mp p header scale rows) shown text) (IsStretchText p (trace_of K o M kp mp p header scale rows) on text)
      (text ≡ []) (int_lt b j) (λ (verdicts, told, written).
      let e = stretch_ends K (ahead o) M kp mp c p (atoms rows ok range) on shown (has_int a) (has_int i) f g verdicts told in (
        verdicts_back K (ahead o) kp verdicts e,
        stretch_back K (ahead o) M kp mp c p on shown f refl g refl verdicts e told,
        lines verdicts e text written,
      )) h)

  -- the text of a stream of verdicts by the clock is that of the rows
  pub stream_back : (rows : List Row) (ended : Bool) (text : List ℕ) → AreRows (length header.columns) rows → AreInRange rows
      → IsStreamText r (other K o M kp mp p header scale) (rows_by K o M kp mp p header scale rows) ended text → IsStreamText p header rows ended text
  stream_back rows false text ok range h =
      rows_text_back K o M kp mp p header scale AreInRange (IsNewText p) (IsNewText r) front_range verdicts_given [] None None rows text ok range tt h
  stream_back rows true text ok range (_, (during, rest, line, a, b, s, is)) = (
    ok,
    (
      during,
      rest,
      line,
      rows_text_back K o M kp mp p header scale AreInRange (IsNewText p) (IsNewText r) front_range verdicts_given [] None None rows during ok range tt a,
      rest_back K o M kp mp p header scale AreInRange (IsNewText p) (IsNewText r) front_range verdicts_given rows rest ok range b,
      start_back K (ahead o) M kp mp (so_far K o M kp mp p header scale rows ok) p line s,
      is,
    ),
  )
