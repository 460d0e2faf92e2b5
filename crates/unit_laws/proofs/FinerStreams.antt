-- What streams write by another clock: the texts of the rows in turn, and of what is left at the end.
use Rattle.std.proofs.Common.{◌≡◌, ℕ, ◌+◌, ◌*◌, ◌<◌, Bool, true, false, List, [], ◌∷◌, ◌++◌, map}
use Rattle.std.proofs.Common.{length, refl, sym, subst, append_assoc, ℤ, pos, Option, Some, None, MatchBool}
use Rattle.std.specs.Prelude.{int_lt}
use Rattle.std.proofs.lemmas.List.{map-append}
use Rattle.rational.specs.Time.{whole, closed, left_open}
use Rattle.stl_syntax.specs.Trace.{Header, Row, Trace, AreRows, first_time, last_time, start}
use Rattle.stl_syntax.specs.Formula.{Subformula}
use Rattle.stl_syntax.specs.Stream.{NewText, IsStretchText, IsNewText, IsRowsText, IsRestText, IsStreamText, answered_by}
use Rattle.stl_syntax.specs.Texts.{AreVerdictLines}
use Rattle.stl_syntax.specs.declared.scale.Scale.{Scale}
use Rattle.stl_syntax.specs.declared.items.Verdict.{Verdict}
use Rattle.stl_syntax.proofs.RowsLemmas.{rows_in_front}
use Rattle.bounds.proofs.NearTimes.{ahead}
use Rattle.unit_laws.proofs.Recounts.{IsRecount}
use Rattle.unit_laws.proofs.FinerTrees.{finer_tree}
use Rattle.unit_laws.proofs.FinerTraces.{row_by, rows_counted, counted_anew}
use Rattle.unit_laws.proofs.FinerVerdicts.{verdicts_by, stretch_described, start_line_by}
use Rattle.unit_laws.proofs.Fronts.{row_shown, less_shown, AreFronts, answered_fronts}

-- the rows of the front are those of a trace
pub rows_front : (n : ℕ) (rows : List Row) (r : Row) (more : List Row) → AreRows n ((rows ++ r ∷ []) ++ more) → AreRows n (rows ++ r ∷ [])
rows_front n [] r more h = (h.0, tt)
rows_front n (q ∷ rows) r more h = (h.0, rows_in_front n q.time (rows ++ r ∷ []) more h.1)

-- what follows where a test holds
pub match_by : (A B C : Type 0) (b : Bool) → (A → B) → MatchBool b A C → MatchBool b B C
match_by A B C true f h = f h
match_by A B C false f h = h

module _ (K o M : ℕ) (kp : 0 < K) (mp : 0 < M) (p : Subformula) (header : Header) (scale : Scale) where
  -- the formula counted anew
  abbrev pub q : Subformula
  q = finer_tree K M p

  -- rows counted anew
  abbrev pub rows_by : List Row → List Row
  rows_by rows = map (row_by K o M kp mp) rows

  -- a header of the same columns and other scales
  abbrev pub other : Header
  other = record { columns = header.columns; scale = scale }

  -- the trace of these rows
  abbrev pub trace_of : List Row → Trace
  trace_of rows = record { header = header; rows = rows }

  -- the trace of these rows counted anew
  abbrev pub other_of : List Row → Trace
  other_of rows = record { header = other; rows = rows_by rows }

  -- the rows so far, counted anew
  pub so_far : (rows : List Row) → AreRows (length header.columns) rows → IsRecount K (ahead o) M (trace_of rows) (other_of rows)
  so_far rows h = counted_anew K o M kp mp (trace_of rows) (record { rows = h }) scale

  first_by : (rows : List Row) (r : Row) → first_time (rows_by (rows ++ r ∷ [])) ≡ K * first_time (rows ++ r ∷ []) + o
  first_by [] r = refl
  first_by (x ∷ rows) r = refl

  last_by : (t : ℕ) (rows : List Row) → last_time (K * t + o) (rows_by rows) ≡ K * last_time t rows + o
  last_by t [] = refl
  last_by t (r ∷ rows) = last_by r.time rows

  -- what the rows with a last one answer, and what they answer by the clock
  abbrev front_of : List Row → Row → Option ℤ
  front_of rows r = answered_by (first_time (rows ++ r ∷ [])) p r.time

  abbrev shown_front : List Row → Row → Option ℤ
  shown_front rows r = answered_by (first_time (rows_by (rows ++ r ∷ []))) q (K * r.time + o)

  front_by : (rows : List Row) (r : Row) → AreFronts K o kp (front_of rows r) (shown_front rows r)
  front_by rows r =
      subst (λ b. AreFronts K o kp (front_of rows r) (answered_by b q (K * r.time + o))) (sym (first_by rows r))
      (answered_fronts K o kp M p (first_time (rows ++ r ∷ [])) r.time)

  -- the text of what a front answers is one by the clock
  abbrev pub KeepsNew : NewText → NewText → Type 0
  KeepsNew New Other =
      (rows : List Row) (old new old' new' : Option ℤ) (text : List ℕ) → AreRows (length header.columns) rows → AreFronts K o kp old old'
      → AreFronts K o kp new new' → New (trace_of rows) old new text → Other (other_of rows) old' new' text

  module _ (New Other : NewText) (keeps : KeepsNew New Other) where
    -- so is the text of the rows in turn
    pub rows_text_by : (rows : List Row) (old old' : Option ℤ) (more : List Row) (text : List ℕ) → AreRows (length header.columns) (rows ++ more)
        → AreFronts K o kp old old' → IsRowsText New p header rows old more text → IsRowsText Other q other (rows_by rows) old' (rows_by more) text
    rows_text_by rows old old' [] text ok h t = t
    rows_text_by rows old old' (r ∷ more) text ok h (here, later, now, rest, is) =
        let n = length header.columns in
        let one : (rows ++ r ∷ []) ++ more ≡ rows ++ r ∷ more = append_assoc rows (r ∷ []) more in
        let all : AreRows n ((rows ++ r ∷ []) ++ more) = subst (λ (xs : List Row). AreRows n xs) (sym one) ok in
        let pushed : rows_by (rows ++ r ∷ []) ≡ rows_by rows ++ row_by K o M kp mp r ∷ [] = map-append (row_by K o M kp mp) rows (r ∷ []) in
        let front = front_by rows r in
        subst (λ xs. (here later : List ℕ) × Other (record { header = other; rows = xs }) old' (answered_by (first_time xs) q (K * r.time + o)) here
        × IsRowsText Other q other xs (answered_by (first_time xs) q (K * r.time + o)) (rows_by more) later × (text ≡ here ++ later)) pushed (
          here,
          later,
          keeps (rows ++ r ∷ []) old (front_of rows r) old'
              (shown_front rows r) here (rows_front n rows r more all) h front now,
          rows_text_by (rows ++ r ∷ []) (front_of rows r) (shown_front rows r)
              more later all front rest,
          is,
        )

    -- and the text of what is left
    pub rest_by : (rows : List Row) (text : List ℕ) → AreRows (length header.columns) rows → IsRestText New p (trace_of rows) text
        → IsRestText Other q (other_of rows) text
    rest_by [] text ok h = absurd ok
    rest_by (r ∷ rows) text ok h =
        let s = last_time r.time rows in
        subst (λ t. Other (other_of (r ∷ rows)) (answered_by (K * r.time + o) q t) (Some (pos t)) text) (sym (last_by r.time rows))
        (keeps (r ∷ rows) (answered_by r.time p s) (Some (pos s)) (answered_by (K * r.time + o) q (K * s + o)) (Some (pos (K * s + o))) text ok
        (answered_fronts K o kp M p r.time s) (row_shown K o kp s) h)

  -- the text of what a front answers by the clock is one of the rows, where they are in range
  abbrev pub GivesNew : (List Row → Type 0) → NewText → NewText → Type 0
  GivesNew Range New Other =
      (rows : List Row) (old new old' new' : Option ℤ) (text : List ℕ) → AreRows (length header.columns) rows → Range rows
      → AreFronts K o kp old old' → AreFronts K o kp new new' → Other (other_of rows) old' new' text → New (trace_of rows) old new text

  module _ (Range : List Row → Type 0) (New Other : NewText)
      (before : (rows : List Row) (r : Row) (more : List Row) → Range ((rows ++ r ∷ []) ++ more) → Range (rows ++ r ∷ []))
      (gives : GivesNew Range New Other) where
    -- so is the text of the rows in turn
    pub rows_text_back : (rows : List Row) (old old' : Option ℤ) (more : List Row) (text : List ℕ) → AreRows (length header.columns) (rows ++ more)
        → Range (rows ++ more) → AreFronts K o kp old old' → IsRowsText Other q other (rows_by rows) old' (rows_by more) text
        → IsRowsText New p header rows old more text
    rows_text_back rows old old' [] text ok range h t = t
    rows_text_back rows old old' (r ∷ more) text ok range h (here, later, now, rest, is) =
        let n = length header.columns in
        let one : rows ++ r ∷ more ≡ (rows ++ r ∷ []) ++ more = sym (append_assoc rows (r ∷ []) more) in
        let all : AreRows n ((rows ++ r ∷ []) ++ more) = subst (λ (xs : List Row). AreRows n xs) one ok in
        let ranges : Range ((rows ++ r ∷ []) ++ more) = subst Range one range in
        let pushed : rows_by rows ++ row_by K o M kp mp r ∷ [] ≡ rows_by (rows ++ r ∷ []) = sym (map-append (row_by K o M kp mp) rows (r ∷ [])) in
        let front = front_by rows r in (
          here,
          later,
          gives (rows ++ r ∷ []) old (front_of rows r) old'
              (shown_front rows r) here (rows_front n rows r more all) (before rows r more ranges) h front
              (subst (λ xs. Other (record { header = other; rows = xs }) old' (answered_by (first_time xs) q (K * r.time + o)) here) pushed now),
          rows_text_back (rows ++ r ∷ []) (front_of rows r) (shown_front rows r)
              more later all ranges front
              (subst (λ xs. IsRowsText Other q other xs (answered_by (first_time xs) q (K * r.time + o)) (rows_by more) later) pushed rest),
          is,
        )

    -- and the text of what is left
    pub rest_back : (rows : List Row) (text : List ℕ) → AreRows (length header.columns) rows → Range rows → IsRestText Other q (other_of rows) text
        → IsRestText New p (trace_of rows) text
    rest_back [] text ok range h = absurd ok
    rest_back (r ∷ rows) text ok range h =
        let s = last_time r.time rows in
        gives (r ∷ rows) (answered_by r.time p s) (Some (pos s)) (answered_by (K * r.time + o) q (K * s + o)) (Some (pos (K * s + o))) text ok range
        (answered_fronts K o kp M p r.time s) (row_shown K o kp s)
        (subst (λ t. Other (other_of (r ∷ rows)) (answered_by (K * r.time + o) q t) (Some (pos t)) text) (last_by r.time rows) h)

  -- ---- verdicts

  module _ (lines_by : (verdicts : List Verdict) (text : List ℕ) → AreVerdictLines header.scale verdicts text
      → AreVerdictLines scale (verdicts_by K (ahead o) kp verdicts) text) where
    -- the verdicts of what a front answers
    pub verdicts_keep : KeepsNew (IsNewText p) (IsNewText q)
    verdicts_keep rows old None old' None text ok f g h = h
    verdicts_keep rows old None old' (Some j) text ok f g h = absurd g
    verdicts_keep rows old (Some i) old' None text ok f g h = absurd g
    verdicts_keep rows None (Some i) (Some b) (Some j) text ok f g h = absurd f
    verdicts_keep rows (Some a) (Some i) None (Some j) text ok f g h = absurd f
    verdicts_keep rows None (Some i) None (Some j) text ok f g (verdicts, told, lines) = (
      verdicts_by K (ahead o) kp verdicts,
      stretch_described K (ahead o) M kp mp (so_far rows ok) p (closed (start (trace_of rows)) (whole i)) (closed (start (other_of rows)) (whole j))
          (so_far rows ok).starts refl g refl verdicts told,
      lines_by verdicts text lines,
    )
    verdicts_keep rows (Some a) (Some i) (Some b) (Some j) text ok f g h =
        subst (λ x. MatchBool x (IsStretchText q (other_of rows) (left_open (whole b) (whole j)) text) (text ≡ [])) (sym (less_shown K o kp a i b j f g))
        (match_by (IsStretchText p (trace_of rows) (left_open (whole a) (whole i)) text)
        (IsStretchText q (other_of rows) (left_open (whole b) (whole j)) text) (text ≡ []) (int_lt a i) (λ (verdicts, told, lines). (
          verdicts_by K (ahead o) kp verdicts,
          stretch_described K (ahead o) M kp mp (so_far rows ok) p (left_open (whole a) (whole i)) (left_open (whole b) (whole j)) f refl g refl verdicts told,
          lines_by verdicts text lines,
        )) h)

    -- the text of a stream of verdicts
    pub stream_by : (rows : List Row) (ended : Bool) (text : List ℕ) → AreRows (length header.columns) rows → IsStreamText p header rows ended text
        → IsStreamText q other (rows_by rows) ended text
    stream_by rows false text ok h = rows_text_by (IsNewText p) (IsNewText q) verdicts_keep [] None None rows text ok tt h
    stream_by rows true text ok (_, (during, rest, line, a, b, s, is)) = (
      rows_counted K o M kp mp (length header.columns) rows ok,
      (
        during,
        rest,
        line,
        rows_text_by (IsNewText p) (IsNewText q) verdicts_keep [] None None rows during ok tt a,
        rest_by (IsNewText p) (IsNewText q) verdicts_keep rows rest ok b,
        start_line_by K (ahead o) M kp mp (so_far rows ok) p line s,
        is,
      ),
    )
