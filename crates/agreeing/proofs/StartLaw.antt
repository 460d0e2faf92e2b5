-- The commands tell one truth at the start, and `early` tells it no later than `watch`.
use Rattle.std.proofs.Common.{◌≡◌, ◌≢◌, ◌⊎◌, inl, inr, refl, sym, ap, ◌∙◌, subst, ℕ, ◌+◌, ◌≤◌, Bool, true, false, Option, Some, None, List, [], ◌∷◌, ◌++◌}
use Rattle.std.proofs.Common.{codes, ℤ, pos, ◌-ℤ◌, ◌≤ℤ◌, arith, append_assoc}
use Rattle.std.specs.Prelude.{◌↔◌, MatchBool, int_lt, cond, IsTrue}
use Rattle.std.proofs.lemmas.Bool.{false≢true}
use Rattle.std.proofs.lemmas.Int.{ints}
use Rattle.rational.specs.Time.{Rational, Within, IsIn, IsNotEmpty, Precedes, closed, left_open, whole, later, ◌≤ʳ◌, ◌<ʳ◌}
use Rattle.rational.proofs.Order.{le_refl, le_trans, le_of_same, ge_of_same, lt_of_le_of_lt}
use Rattle.rational.proofs.TimeLemmas.{precedes_of_lt}
use Rattle.rational.proofs.Tests.{one_truth, int_order, match_weaker}
use Rattle.frac128.specs.Value.{value}
use Rattle.frac128.specs.Spans.{interval}
use Rattle.stl_syntax.specs.Formula.{Subformula, root, horizon}
use Rattle.stl_syntax.specs.Trace.{Header, Row, Trace, IsTrace, Continues, row_time, start, stop, first_time, last_time}
use Rattle.stl_syntax.specs.Truth.{Truth}
use Rattle.stl_syntax.specs.Early.{Decides, NoneDecides}
use Rattle.stl_syntax.specs.EarlyText.{IsEarlyText, at_row, at_end, not_yet}
use Rattle.stl_syntax.specs.Stream.{answered_by, IsStretchText, IsNewText, IsRowsText}
use Rattle.stl_syntax.specs.Texts.{AreVerdictLines, IsStartLine, newline, start_line}
use Rattle.stl_syntax.specs.Verdicts.{IsTold, Describes}
use Rattle.stl_syntax.specs.declared.items.Verdict.{Verdict}
use Rattle.stl_syntax.proofs.LawProofs.{answers_stay, decisions_stay}
use Rattle.stl_syntax.proofs.RowsLemmas.{first_to_last, last_time-push}
use Rattle.values_exist.proofs.LawProofs.{truth_is_decided, rows_decide}
use Rattle.stl_syntax.specs.Scaling.{nodes_for}
use Rattle.answer_lines.proofs.OneText.{start_once}
use Rattle.answer_lines.proofs.Lines.{lines_join}
use Rattle.trace_stream.specs.Streams.{HoldsAtStart}
use Rattle.agreeing.specs.Starts.{EndsWith, IsOneStart, OneStart, IsToldEarly, EarlyIsNoLater}

-- ---- one start

-- a text that ends with the line of the start ends with the line of its truth
ends : (p : Subformula) (tr : Trace) (holds : Bool) (head line text : List ℕ) → MatchBool holds (Truth p tr (start tr)) (¬ Truth p tr (start tr))
    → IsStartLine p tr line → text ≡ head ++ line → EndsWith text (start_line holds)
ends p tr holds head line text truth is e = (head, e ∙ ap (λ l. head ++ l) (start_once p tr line (start_line holds) is (holds, truth, refl)))

-- rows that go on from the first of them
goes_on : (tr : Trace) (before after : List Row) (r : Row) → tr.rows ≡ before ++ r ∷ after → Continues tr tr.header (before ++ r ∷ []) false
goes_on tr before after r e =
    record { same_header = refl; more = after; begins = e ∙ sym (append_assoc before (r ∷ []) after); whole_input = λ t. absurd (false≢true t) }

-- what rows decide is the truth at the start of each trace that goes on from them
decided_truth : (p : Subformula) (tr : Trace) (before after : List Row) (r : Row) (holds : Bool) → IsTrace tr → tr.rows ≡ before ++ r ∷ after
    → Decides p (record { header = tr.header; rows = before ++ r ∷ [] }) holds → MatchBool holds (Truth p tr (start tr)) (¬ Truth p tr (start tr))
decided_truth p tr [] after r holds ok e d = (decisions_stay p tr.header r [] tr false holds ok (goes_on tr [] after r e) d).0
decided_truth p tr (q ∷ before) after r holds ok e d =
    (decisions_stay p tr.header q (before ++ r ∷ []) tr false holds ok (goes_on tr (q ∷ before) after r e) d).0

-- what `early` wrote in the end ends with the line of the start
early_ends : (p : Subformula) (tr : Trace) (holds : Bool) (text : List ℕ) → IsTrace tr → MatchBool holds (Truth p tr (start tr)) (¬ Truth p tr (start tr))
    → IsEarlyText p tr.header tr.rows true text → EndsWith text (start_line holds)
early_ends p tr holds text ok truth told = elim told [
  | at_row before after r b time e first num is ↦
      ends p tr holds (codes "decided at " ++ time ++ newline) (start_line b) text truth
      (b, decided_truth p tr before after r b ok e first.decides, refl) is
  | at_end line t rows none l is ↦ ends p tr holds (codes "decided at end" ++ newline) line text truth l is
  | not_yet f none is ↦ absurd (false≢true (sym f))
]

-- one truth
pub one_start : OneStart
one_start f tr ok = by_truth (truth_is_decided (root (nodes_for f tr)) tr (start tr) at_start)
  where
    at_start : Within (start tr) (stop tr) (start tr)
    at_start = record { above = le_refl (start tr); below = let h = first_to_last tr ok in record { le = omega arith } }

    told : (holds : Bool) → MatchBool holds (HoldsAtStart f tr) (¬ HoldsAtStart f tr) → IsOneStart f tr holds
    told holds truth = record {
      truth = truth;
      checked = λ text (vs, body, line, d, lines, is_line, is). ends (root (nodes_for f tr)) tr holds body line text truth is_line is;
      explained = λ text (items, line, body, kept, is_line, lines, is). (
        body,
        is ∙ ap (λ l. l ++ body) (start_once (root (nodes_for f tr)) tr line (start_line holds) is_line (holds, truth, refl)),
      );
      reported = λ text (vs, knots, items, b, report, d, margins, kept, there, members, is). (
        record { verdicts = vs; knots = knots; items = items; holds = b },
        (report, members, is),
        one_truth (HoldsAtStart f tr) b holds there truth,
      );
      watched = λ text (rows, (during, rest, line, by_row, last, is_line, is)).
          ends (root (nodes_for f tr)) tr holds (during ++ rest) line text truth is_line is;
      decided = λ text t. early_ends (root (nodes_for f tr)) tr holds text ok truth t;
    }

    by_truth : HoldsAtStart f tr ⊎ (¬ HoldsAtStart f tr) → (holds : Bool) × IsOneStart f tr holds
    by_truth (inl h) = (true, told true h)
    by_truth (inr h) = (false, told false h)

-- ---- `early` and `watch`

-- the text of what a front answers is lines of verdicts
new_lines : (p : Subformula) (tr : Trace) (old new : Option ℤ) (text : List ℕ) → IsNewText p tr old new text
    → (vs : List Verdict) × AreVerdictLines tr.header.scale vs text
new_lines p tr old None text is = ([], is)
new_lines p tr None (Some new) text (vs, d, lines) = (vs, lines)
new_lines p tr (Some old) (Some new) text is = by_test (int_lt old new) is
  where
    by_test : (b : Bool) → MatchBool b (IsStretchText p tr (left_open (whole old) (whole new)) text) (text ≡ [])
        → (vs : List Verdict) × AreVerdictLines tr.header.scale vs text
    by_test true (vs, d, lines) = (vs, lines)
    by_test false none = ([], none)

-- so are those of all rows
row_lines : (p : Subformula) (header : Header) (rows : List Row) (old : Option ℤ) (more : List Row) (text : List ℕ)
    → IsRowsText (IsNewText p) p header rows old more text → (vs : List Verdict) × AreVerdictLines header.scale vs text
row_lines p header rows old [] text is = ([], is)
row_lines p header rows old (r ∷ more) text (here, later, new, rest, is) =
    let (vs, lines) = new_lines p (record { header = header; rows = rows ++ r ∷ [] }) old _ here new in
    let (ws, others) = row_lines p header (rows ++ r ∷ []) _ more later rest in
    (vs ++ ws, subst (λ t. AreVerdictLines header.scale (vs ++ ws) t) (sym is) (lines_join header.scale vs ws here later lines others))

-- the row at which the first verdict was written: it reaches the start and the horizon after it, and that verdict tells the start
record IsWritten (p : Subformula) (header : Header) (rows : List Row) (text : List ℕ) : Type 0 where
  before : List Row
  row : Row
  after : List Row
  parts : rows ≡ before ++ row ∷ after
  reaches : later (whole (pos (first_time (before ++ row ∷ [])))) (horizon p) ≤ʳ whole (pos (last_time 0 (before ++ row ∷ [])))
  first : Verdict
  others : List Verdict
  lines : AreVerdictLines header.scale (first ∷ others) text
  told : IsTold p (record { header = header; rows = before ++ row ∷ [] }) first
  at_start : IsIn (interval first.on) (whole (pos (first_time (before ++ row ∷ []))))

-- a row that answers some time reaches the start and the horizon after it
reaches_of : (first : ℕ) (p : Subformula) (s last : ℕ) (f : ℤ) → last ≡ s → answered_by first p s ≡ Some f
    → later (whole (pos first)) (horizon p) ≤ʳ whole (pos last)
reaches_of first p s last f e a = by_test (int_lt (pos s -ℤ pos (horizon p)) (pos first)) refl a
  where
    by_test : (t : Bool) → int_lt (pos s -ℤ pos (horizon p)) (pos first) ≡ t → cond t None (Some (pos s -ℤ pos (horizon p))) ≡ Some f
        → later (whole (pos first)) (horizon p) ≤ʳ whole (pos last)
    by_test true x y = absurd (let k = y in cc)
    by_test false x y =
        let g : pos first ≤ℤ (pos s -ℤ pos (horizon p)) = int_order (pos s -ℤ pos (horizon p)) (pos first) false x in
        let h : (first + horizon p) ≤ last = omega (arith, ints, e) in
        record { le = omega (arith, h) }

-- the begin of a closed stretch lies in the first verdict that describes it
begins_in : (p : Subformula) (tr : Trace) (from to : Rational) (v : Verdict) (vs : List Verdict) → Describes (v ∷ vs) p tr (closed from to)
    → IsIn (interval v.on) from
begins_in p tr from to v vs (begin, told, rest) = record {
  above = subst (λ (b : Bool). MatchBool b (value v.on.from ≤ʳ from) (value v.on.from <ʳ from)) (sym begin.inside) (le_of_same begin.time);
  below = by_end told.not_empty;
}
  where
    precedes_in : (b : Bool) (t u : Rational) → IsTrue b → t ≤ʳ u → Precedes b t u
    precedes_in true t u h k = k
    precedes_in false t u h k = absurd (false≢true h)

    by_end : IsNotEmpty (interval v.on) → Precedes v.on.to_in from (value v.on.to)
    by_end (inl l) = precedes_of_lt v.on.to_in from (value v.on.to) (lt_of_le_of_lt (ge_of_same begin.time) l)
    by_end (inr (s, i, o)) = precedes_in v.on.to_in from (value v.on.to) o (le_trans (ge_of_same begin.time) (le_of_same s))

written : (p : Subformula) (header : Header) (before more : List Row) (text : List ℕ) → IsRowsText (IsNewText p) p header before None more text → text ≢ []
    → IsWritten p header (before ++ more) text
written p header before [] text is some = absurd (some is)
written p header before (r ∷ more) text (here, others, new, rest, is) some =
    by_front (λ t. written p header (before ++ r ∷ []) more text t some) (answered_by (first_time (before ++ r ∷ [])) p r.time) refl new rest
  where
    so_far : Trace
    so_far = record { header = header; rows = before ++ r ∷ [] }

    by_verdicts : (f : ℤ) (vs ws : List Verdict) → answered_by (first_time (before ++ r ∷ [])) p r.time ≡ Some f
        → Describes vs p so_far (closed (whole (pos (first_time (before ++ r ∷ [])))) (whole f))
        → AreVerdictLines header.scale (vs ++ ws) text → IsWritten p header (before ++ r ∷ more) text
    by_verdicts f [] ws e d lines = absurd d
    by_verdicts f (v ∷ vs) ws e d lines = record {
      before = before;
      row = r;
      after = more;
      parts = refl;
      reaches = reaches_of (first_time (before ++ r ∷ [])) p r.time (last_time 0 (before ++ r ∷ [])) f (last_time-push 0 before r) e;
      first = v;
      others = vs ++ ws;
      lines = lines;
      told = d.1;
      at_start = begins_in p so_far (whole (pos (first_time (before ++ r ∷ [])))) (whole f) v vs d;
    }

    by_front : (IsRowsText (IsNewText p) p header (before ++ r ∷ []) None more text → IsWritten p header ((before ++ r ∷ []) ++ more) text)
        → (o : Option ℤ) → answered_by (first_time (before ++ r ∷ [])) p r.time ≡ o → IsNewText p so_far None o here
        → IsRowsText (IsNewText p) p header (before ++ r ∷ []) o more others → IsWritten p header (before ++ r ∷ more) text
    by_front on None e none rest =
        let same : text ≡ others = is ∙ ap (λ t. t ++ others) none in
        subst (λ rs. IsWritten p header rs text) (append_assoc before (r ∷ []) more)
        (on (subst (λ t. IsRowsText (IsNewText p) p header (before ++ r ∷ []) None more t) (sym same) rest))
    by_front on (Some f) e (vs, d, lines) rest =
        let (ws, more_lines) = row_lines p header (before ++ r ∷ []) (Some f) more others rest in
        by_verdicts f vs ws e d (subst (λ t. AreVerdictLines header.scale (vs ++ ws) t) (sym is) (lines_join header.scale vs ws here others lines more_lines))

-- more rows begin at the same time
first_same : (before after : List Row) (r : Row) → first_time (before ++ r ∷ []) ≡ first_time (before ++ r ∷ after)
first_same [] after r = refl
first_same (q ∷ before) after r = refl

-- what is answered is so in each trace that goes on
stays : (p : Subformula) (tr : Trace) (before after : List Row) (r : Row) → IsTrace tr → tr.rows ≡ before ++ r ∷ after
    → later (whole (pos (first_time (before ++ r ∷ [])))) (horizon p) ≤ʳ whole (pos (last_time 0 (before ++ r ∷ [])))
    → Truth p (record { header = tr.header; rows = before ++ r ∷ [] }) (whole (pos (first_time (before ++ r ∷ []))))
    ↔ Truth p tr (whole (pos (first_time (before ++ r ∷ []))))
stays p tr [] after r ok e reaches = answers_stay p tr.header r [] tr false (row_time r) ok (goes_on tr [] after r e) (le_refl (row_time r), reaches)
stays p tr (q ∷ before) after r ok e reaches =
    answers_stay p tr.header q (before ++ r ∷ []) tr false (row_time q) ok (goes_on tr (q ∷ before) after r e) (le_refl (row_time q), reaches)

-- `early` is no later than `watch`
pub early_is_no_later : EarlyIsNoLater
early_is_no_later p header rows watched told are w some t = by_text (written p header [] rows watched w some) t
  where
    tr : Trace
    tr = record { header = header; rows = rows }

    begins : (before after : List Row) (r : Row) → rows ≡ before ++ r ∷ after → whole (pos (first_time (before ++ r ∷ []))) ≡ start tr
    begins before after r e = ap (λ n. whole (pos n)) (first_same before after r ∙ ap first_time (sym e))

    truth : (at : IsWritten p header rows watched) → MatchBool at.first.holds (Truth p tr (start tr)) (¬ Truth p tr (start tr))
    truth at =
        let begin = begins at.before at.after at.row at.parts in
        let both = stays p tr at.before at.after at.row (record { rows = are }) at.parts at.reaches in
        subst (λ (x : Rational). MatchBool at.first.holds (Truth p tr x) (¬ Truth p tr x)) begin
        (match_weaker at.first.holds _ _ _ _ both.0 (λ fails h. fails (both.1 h))
        (at.told.truth (whole (pos (first_time (at.before ++ at.row ∷ [])))) at.at_start))

    by_text : IsWritten p header rows watched → IsEarlyText p header rows false told → IsToldEarly header rows watched told
    by_text at t = elim t [
      | at_row before after r holds time e first num is ↦ record {
        first = at.first;
        others = at.others;
        lines = at.lines;
        at_start = subst (λ (x : Rational). IsIn (interval at.first.on) x) (begins at.before at.after at.row at.parts) at.at_start;
        before = before;
        row = r;
        after = after;
        parts = e;
        time = time;
        time_is = num;
        is = is ∙ ap (λ b. codes "decided at " ++ time ++ newline ++ start_line b)
            (one_truth (Truth p tr (start tr)) holds at.first.holds
            (decided_truth p tr before after r holds (record { rows = are }) e first.decides) (truth at));
      }
      | at_end line end_is ok none l is ↦ absurd (false≢true end_is)
      | not_yet f none is ↦ absurd (by_sides none (rows_decide p (record { header = header; rows = at.before ++ at.row ∷ [] }) at.reaches))
    ]
      where
        by_sides : NoneDecides p header rows → Decides p (record { header = header; rows = at.before ++ at.row ∷ [] }) true
            ⊎ Decides p (record { header = header; rows = at.before ++ at.row ∷ [] }) false → ⊥
        by_sides none (inl d) = none at.before at.after at.row true at.parts d
        by_sides none (inr d) = none at.before at.after at.row false at.parts d
