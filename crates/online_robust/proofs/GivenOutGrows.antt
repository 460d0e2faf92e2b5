-- What a node gave out grows from one past to the next.
use Rattle.std.proofs.Common.{◌≡◌, ◌⊎◌, inl, inr, ℕ, suc, ◌<◌, ◌≤◌, Bool, true, false, List, [], ◌∷◌, ◌++◌, length}
use Rattle.std.proofs.Common.{refl, sym, ap, subst, ◌∙◌, arith, append_assoc, append-nil, Some, None, ℤ, pos, ◌≤ℤ◌}
use Rattle.std.specs.Prelude.{MatchBool, int_lt, cond, map, take}
use Rattle.std.proofs.lemmas.Int.{ints}
use Rattle.std.proofs.lemmas.Bool.{false≢true}
use Rattle.std.proofs.lemmas.List.{map-append}
use Rattle.rational.specs.Time.{whole}
use Rattle.rational.specs.Windows.{Function}
use Rattle.rational.proofs.Tests.{int_order}
use Rattle.frac128.specs.Value.{value}
use Rattle.stl_syntax.specs.Trace.{Header, Row, Trace, IsTrace, Continues, first_time, last_time}
use Rattle.stl_syntax.specs.Formula.{Subformula, subformula}
use Rattle.stl_syntax.specs.SupInf.{Robustness}
use Rattle.stl_syntax.specs.Limits.{reach}
use Rattle.stl_syntax.specs.declared.node.Node.{Node}
use Rattle.stl_syntax.proofs.RowsLemmas.{last_time-push, row_later}
use Rattle.online_nodes.specs.MarginEdges.{AreNewParts, AreEmittedParts, shown_number}
use Rattle.online_nodes.specs.StreamedWide.{front_at}
use Rattle.online_robust.specs.Told.{AreTold, AreFit, AreJoined}
use Rattle.online_robust.specs.Steps.{AreInputs, AreLeft, IsInput}
use Rattle.online_robust.specs.Moving.{AreMore, IsNext}
use Rattle.online_robust.specs.Pasts.{Past, with_row, with_end, trace_of, part_of, shown_of, Gave, AreToldOver}
use Rattle.online_robust.specs.declared.line.MarginLine.{MarginLine}
use Rattle.online_robust.proofs.GivenOut.{emitted_row, emitted_end}
use Rattle.online_robust.proofs.LinesLeft.{told_append, fit_append, joined_append}

-- ---- the lines of an edge

module _ (F : Function) (most start : ℕ) where
  both_shown : (old new : ℤ) (lines more : List MarginLine) (b : Bool) → int_lt old new ≡ b → old ≤ℤ new → AreInputs F most start None old lines
      → MatchBool b (AreTold F more × AreFit most more × AreJoined (whole old) (whole new) more) (more ≡ [])
      → AreInputs F most start None new (lines ++ more)
  both_shown old new lines more true e le a are = record {
    told = told_append F lines more a.told are.0;
    fit = fit_append most lines more a.fit are.1;
    left = longer a.left;
  }
    where
      longer : AreLeft start None old lines → AreLeft start None new (lines ++ more)
      longer (at, v, rest, is, begins, joined) =
          (at, v, rest ++ more, ap (λ l. l ++ more) is, begins, joined_append (value at) (whole old) (whole new) rest more joined are.2)
  both_shown old new lines more false e le a are =
      let ge = int_order old new false e in
      let same : old ≡ new = omega (arith, ints, le, ge) in
      let all : lines ++ more ≡ lines = ap (λ l. lines ++ l) are ∙ append-nil lines in
      subst (AreInputs F most start None new) (sym all) (subst (λ n. AreInputs F most start None n lines) same a)

  -- a number more
  pub input_grows : (old new : ℤ) (lines more : List MarginLine) → old ≤ℤ new → IsInput F most start None old lines
      → AreMore F most start (shown_number start old) (shown_number start new) more → IsInput F most start None new (lines ++ more)
  input_grows old new lines more le input are = by_tests (int_lt old (pos start)) (int_lt new (pos start)) refl refl input are
    where
      by_tests : (b c : Bool) → int_lt old (pos start) ≡ b → int_lt new (pos start) ≡ c
          → MatchBool b (lines ≡ []) (AreInputs F most start None old lines)
          → AreMore F most start (cond b None (Some old)) (cond c None (Some new)) more
          → MatchBool c (lines ++ more ≡ []) (AreInputs F most start None new (lines ++ more))
      by_tests true true e f none are = ap (λ l. l ++ more) none ∙ are
      by_tests true false e f none are = subst (AreInputs F most start None new) (sym (ap (λ l. l ++ more) none)) are
      by_tests false true e f input are =
          let low = int_order old (pos start) false e in
          let high = int_order new (pos start) true f in
          absurd (omega (arith, ints, le, low, high))
      by_tests false false e f input are = both_shown old new lines more (int_lt old new) refl le input are

  -- the first number
  pub input_begins : (new : ℤ) (lines more : List MarginLine) → lines ≡ [] → AreMore F most start None (shown_number start new) more
      → IsInput F most start None new (lines ++ more)
  input_begins new lines more none are = by_test (int_lt new (pos start)) are
    where
      by_test : (c : Bool) → AreMore F most start None (cond c None (Some new)) more
          → MatchBool c (lines ++ more ≡ []) (AreInputs F most start None new (lines ++ more))
      by_test true are = ap (λ l. l ++ more) none ∙ are
      by_test false are = subst (AreInputs F most start None new) (sym (ap (λ l. l ++ more) none)) are

-- ---- the next past

-- what holds of each past and the next
pub next_cases : (old new : Past) → IsNext old new → (C : Past → Past → Type 0)
    → ((rows : List Row) (r : Row) → C (record { rows = rows; ended = false }) (record { rows = rows ++ r ∷ []; ended = false }))
    → ((rows : List Row) → C (record { rows = rows; ended = false }) (record { rows = rows; ended = true })) → C old new
next_cases old new (opened, next) C row end = by_case next
  where
    was : old ≡ record { rows = old.rows; ended = false }
    was = ap (λ b. record { rows = old.rows; ended = b }) opened

    by_case : ((r : Row) × (new ≡ with_row old r)) ⊎ (new ≡ with_end old) → C old new
    by_case (inl (r, is)) = subst (λ p. C old p) (sym is) (subst (λ p. C p (with_row old r)) (sym was) (row old.rows r))
    by_case (inr is) = subst (λ p. C old p) (sym is) (subst (λ p. C p (with_end old)) (sym was) (end old.rows))

-- a trace that goes on from more rows goes on from the first of them
pub continues_less : (tr : Trace) (header : Header) (rows : List Row) (r : Row) (ended : Bool) → Continues tr header (rows ++ r ∷ []) ended
    → Continues tr header rows false
continues_less tr header rows r ended c = record {
  same_header = c.same_header;
  more = r ∷ c.more;
  begins = c.begins ∙ append_assoc rows (r ∷ []) c.more;
  whole_input = λ h. absurd (false≢true h);
}

-- a trace that goes on from rows and their end goes on from the rows
pub continues_open : (tr : Trace) (header : Header) (rows : List Row) (ended : Bool) → Continues tr header rows ended → Continues tr header rows false
continues_open tr header rows ended c = record { same_header = c.same_header; more = c.more; begins = c.begins; whole_input = λ h. absurd (false≢true h) }

-- a trace goes on from its own rows
pub itself : (tr : Trace) (ended : Bool) → Continues tr tr.header tr.rows ended
itself tr ended = record { same_header = refl; more = []; begins = sym (append-nil tr.rows); whole_input = λ h. refl }

-- so it goes on from the past before the next
abbrev pub GoesOnFrom : Past → Past → Type 0
GoesOnFrom old new = (tr : Trace) (header : Header) → Continues tr header new.rows new.ended → Continues tr header old.rows old.ended

-- what comes next goes on from the past before
pub goes_on_from : (old new : Past) → IsNext old new → GoesOnFrom old new
goes_on_from old new next = next_cases old new next GoesOnFrom
    (λ rows r tr header c. continues_less tr header rows r false c) (λ rows tr header c. continues_open tr header rows true c)

-- the last row lies before the next
pub last_below : (header : Header) (q : Row) (rows : List Row) (r : Row) → IsTrace (record { header = header; rows = q ∷ rows ++ r ∷ [] })
    → last_time q.time rows < r.time
last_below header q rows r is = row_later (length header.columns) q.time rows r [] is.rows.1

-- no number falls
pub front_rises : (p : Subformula) (now later : ℕ) → now ≤ later → front_at false (pos now) p ≤ℤ front_at false (pos later) p
front_rises p now later le = omega (arith, ints, le)

-- with the end a front does not fall
pub front_ends : (p : Subformula) (now : ℕ) → front_at false (pos now) p ≤ℤ front_at true (pos now) p
front_ends p now = omega (arith, ints)

module _ (nodes : List Node) (header : Header) (i : ℕ) (lines more : List MarginLine) where
  -- the lines more are what the next past answers beyond the old one
  pub record AreNext (old new : Past) : Type 0 where
    -- what was given out are the node's new parts
    pub parts : AreNewParts (subformula nodes i) (trace_of header new) (shown_of nodes old i) (shown_of nodes new i) (map part_of more)
    -- and they tell its margin in each trace that goes on
    pub told : (tr : Trace) → IsTrace tr → Continues tr header new.rows new.ended
        → AreMore (Robustness (subformula nodes i) tr) (reach (take (suc i) nodes)) (first_time new.rows) (shown_of nodes old i) (shown_of nodes new i) more

  abbrev Grows : Past → Past → Type 0
  Grows old new = IsTrace (trace_of header new) → Gave nodes header old i lines → AreNext old new → Gave nodes header new i (lines ++ more)

  told_row : (rows : List Row) (r : Row) → IsTrace (record { header = header; rows = rows ++ r ∷ [] })
      → AreToldOver nodes header false i rows lines → AreNext (record { rows = rows; ended = false }) (record { rows = rows ++ r ∷ []; ended = false })
      → AreToldOver nodes header false i (rows ++ r ∷ []) (lines ++ more)
  told_row [] r is told next = λ tr trace c.
      input_begins (Robustness (subformula nodes i) tr) (reach (take (suc i) nodes)) r.time (front_at false (pos r.time) (subformula nodes i)) lines more told
      (next.told tr trace c)
  told_row (q ∷ rows) r is told next = λ tr trace c.
      let rises = last_below header q rows r is in
      let last : last_time q.time (rows ++ r ∷ []) ≡ r.time = last_time-push q.time rows r in
      input_grows (Robustness (subformula nodes i) tr) (reach (take (suc i) nodes)) q.time
      (front_at false (pos (last_time q.time rows)) (subformula nodes i)) (front_at false (pos (last_time q.time (rows ++ r ∷ []))) (subformula nodes i))
      lines more (front_rises (subformula nodes i) (last_time q.time rows) (last_time q.time (rows ++ r ∷ [])) (omega (arith, rises, last)))
      (told tr trace (continues_less tr header (q ∷ rows) r false c)) (next.told tr trace c)

  grows_row : (rows : List Row) (r : Row) → Grows (record { rows = rows; ended = false }) (record { rows = rows ++ r ∷ []; ended = false })
  grows_row rows r is gave next = record {
    parts = subst (λ l. AreEmittedParts (subformula nodes i) header (rows ++ r ∷ []) false l) (sym (map-append part_of lines more))
        (emitted_row (subformula nodes i) header rows r (map part_of lines) (map part_of more) gave.parts next.parts);
    told = told_row rows r is gave.told next;
  }

  grows_end : (rows : List Row) → Grows (record { rows = rows; ended = false }) (record { rows = rows; ended = true })
  grows_end [] is gave next = absurd is.rows
  grows_end (q ∷ rows) is gave next = record {
    parts = subst (λ l. AreEmittedParts (subformula nodes i) header (q ∷ rows) true l) (sym (map-append part_of lines more))
        (emitted_end (subformula nodes i) header q rows (map part_of lines) (map part_of more) is gave.parts next.parts);
    told = λ tr trace c.
        input_grows (Robustness (subformula nodes i) tr) (reach (take (suc i) nodes)) q.time (front_at false (pos (last_time q.time rows)) (subformula nodes i))
        (front_at true (pos (last_time q.time rows)) (subformula nodes i)) lines more (front_ends (subformula nodes i) (last_time q.time rows))
        (gave.told tr trace (continues_open tr header (q ∷ rows) true c)) (next.told tr trace c);
  }

  -- what a node gave out, with what it gives out at the next past
  pub gave_grows : (old new : Past) → IsNext old new → Grows old new
  gave_grows old new next = next_cases old new next Grows grows_row grows_end
