-- What rows say of the numbers of nodes, and of the traces that go on from them.
use Rattle.std.proofs.Common.{◌≡◌, ℕ, ◌≤◌, Bool, true, false, List, [], ◌∷◌, ◌++◌, length, refl, sym}
use Rattle.std.proofs.Common.{ap, subst, ◌∙◌, arith, append-nil, Some, None, ℤ, pos, ◌<ℤ◌, ◌≤ℤ◌}
use Rattle.std.specs.Prelude.{int_lt, cond}
use Rattle.std.proofs.lemmas.Int.{ints}
use Rattle.rational.proofs.Tests.{int_order}
use Rattle.stl_syntax.specs.Trace.{Header, Row, Trace, AreRows, IsTrace, Continues, first_time, last_time}
use Rattle.stl_syntax.specs.Formula.{Subformula, subformula}
use Rattle.stl_syntax.specs.SupInf.{Robustness}
use Rattle.stl_syntax.specs.Limits.{reach}
use Rattle.stl_syntax.specs.declared.node.Node.{Node}
use Rattle.std.proofs.Common.{take, suc}
use Rattle.std.proofs.lemmas.Option.{same_Some}
use Rattle.stl_syntax.proofs.RowsLemmas.{last_time-push, last_grows, last_from}
use Rattle.online_nodes.specs.MarginEdges.{shown_number}
use Rattle.online_nodes.specs.StreamedWide.{front_at}
use Rattle.online_robust.specs.Steps.{IsInput}
use Rattle.online_robust.specs.Moving.{IsNext}
use Rattle.online_robust.specs.Pasts.{Past, trace_of, number_by, shown_by, AreToldOver}
use Rattle.online_robust.specs.declared.line.MarginLine.{MarginLine}
use Rattle.online_robust.proofs.GivenOutGrows.{front_rises, front_ends, last_below, next_cases}

module _ (header : Header) where
  abbrev pub Rows : List Row → Type 0
  Rows rows = IsTrace (record { header = header; rows = rows })

  -- rows give a node its number
  pub number_here : (p : Subformula) (ended : Bool) (rows : List Row) → Rows rows → number_by ended p rows ≡ Some (front_at ended (pos (last_time 0 rows)) p)
  number_here p ended [] is = absurd is.rows
  number_here p ended (r ∷ rows) is = refl

  -- rows give what a node shows
  pub shown_here : (p : Subformula) (ended : Bool) (rows : List Row) → Rows rows
      → shown_by ended p rows ≡ shown_number (first_time rows) (front_at ended (pos (last_time 0 rows)) p)
  shown_here p ended [] is = absurd is.rows
  shown_here p ended (r ∷ rows) is = refl

  -- a node's lines tell its margin in each trace that goes on from the rows
  pub told_here : (nodes : List Node) (ended : Bool) (i : ℕ) (rows : List Row) (lines : List MarginLine) → Rows rows
      → AreToldOver nodes header ended i rows lines
      → (tr : Trace) → IsTrace tr → Continues tr header rows ended
      → IsInput (Robustness (subformula nodes i) tr) (reach (take (suc i) nodes)) (first_time rows) None
      (front_at ended (pos (last_time 0 rows)) (subformula nodes i)) lines
  told_here nodes ended i [] lines is told = absurd is.rows
  told_here nodes ended i (r ∷ rows) lines is told = told

  -- a trace that goes on from the rows has their first time
  pub first_goes_on : (tr : Trace) (ended : Bool) (rows : List Row) → Rows rows → Continues tr header rows ended → first_time tr.rows ≡ first_time rows
  first_goes_on tr ended [] is c = absurd is.rows
  first_goes_on tr ended (r ∷ rows) is c = ap first_time c.begins

  -- a trace that goes on from the rows ends no earlier
  pub last_goes_on : (tr : Trace) (ended : Bool) (rows : List Row) → Rows rows → IsTrace tr → Continues tr header rows ended
      → last_time 0 rows ≤ last_time 0 tr.rows
  last_goes_on tr ended [] is trace c = absurd is.rows
  last_goes_on tr ended (r ∷ rows) is trace c =
      let all : AreRows (length tr.header.columns) (r ∷ rows ++ c.more) = subst (AreRows (length tr.header.columns)) c.begins trace.rows in
      let le = last_grows (length tr.header.columns) r.time rows c.more all.1 in
      let same : last_time 0 tr.rows ≡ last_time r.time (rows ++ c.more) = ap (last_time 0) c.begins in
      omega (arith, le, same)

  -- a trace that goes on from the rows and their end ends with them
  pub last_at_end : (tr : Trace) (rows : List Row) → Continues tr header rows true → last_time 0 rows ≡ last_time 0 tr.rows
  last_at_end tr rows c = sym (ap (last_time 0) (c.begins ∙ ap (λ l. rows ++ l) (c.whole_input refl) ∙ append-nil rows))

  -- the last time is not below the first
  pub last_not_below : (rows : List Row) → Rows rows → first_time rows ≤ last_time 0 rows
  last_not_below [] is = absurd is.rows
  last_not_below (r ∷ rows) is = last_from (length header.columns) r.time rows is.rows.1

-- a number that is shown is the number, and not below the start
pub shown_is : (p : Subformula) (ended : Bool) (rows : List Row) (g : ℤ) → shown_by ended p rows ≡ Some g
    → (number_by ended p rows ≡ Some g) × (pos (first_time rows) ≤ℤ g)
shown_is p ended [] g e = absurd (let f = e in cc)
shown_is p ended (r ∷ rows) g e = by_test (int_lt (front_at ended (pos (last_time r.time rows)) p) (pos r.time)) refl e
  where
    by_test : (t : Bool) → int_lt (front_at ended (pos (last_time r.time rows)) p) (pos r.time) ≡ t
        → cond t None (Some (front_at ended (pos (last_time r.time rows)) p)) ≡ Some g
        → (Some (front_at ended (pos (last_time r.time rows)) p) ≡ Some g) × (pos r.time ≤ℤ g)
    by_test true h e = absurd (let f = e in cc)
    by_test false h e =
        let le = int_order (front_at ended (pos (last_time r.time rows)) p) (pos r.time) false h in
        (e, subst (λ x. pos r.time ≤ℤ x) (same_Some _ _ e) le)

-- a number that is not below the start is shown
pub number_shown : (p : Subformula) (ended : Bool) (rows : List Row) (g : ℤ) → number_by ended p rows ≡ Some g
    → pos (first_time rows) ≤ℤ g → shown_by ended p rows ≡ Some g
number_shown p ended [] g e le = absurd (let f = e in cc)
number_shown p ended (r ∷ rows) g e le = by_test (int_lt (front_at ended (pos (last_time r.time rows)) p) (pos r.time)) refl
  where
    same : front_at ended (pos (last_time r.time rows)) p ≡ g
    same = same_Some _ _ e

    by_test : (t : Bool) → int_lt (front_at ended (pos (last_time r.time rows)) p) (pos r.time) ≡ t
        → cond (int_lt (front_at ended (pos (last_time r.time rows)) p) (pos r.time)) None (Some (front_at ended (pos (last_time r.time rows)) p)) ≡ Some g
    by_test true h =
        let lt = int_order (front_at ended (pos (last_time r.time rows)) p) (pos r.time) true h in
        absurd (omega (arith, ints, lt, same, le))
    by_test false h = rw h e

-- one below it is not
pub number_hidden : (p : Subformula) (ended : Bool) (rows : List Row) (g : ℤ) → number_by ended p rows ≡ Some g
    → g <ℤ pos (first_time rows) → shown_by ended p rows ≡ None
number_hidden p ended [] g e lt = refl
number_hidden p ended (r ∷ rows) g e lt = by_test (int_lt (front_at ended (pos (last_time r.time rows)) p) (pos r.time)) refl
  where
    same : front_at ended (pos (last_time r.time rows)) p ≡ g
    same = same_Some _ _ e

    by_test : (t : Bool) → int_lt (front_at ended (pos (last_time r.time rows)) p) (pos r.time) ≡ t
        → cond (int_lt (front_at ended (pos (last_time r.time rows)) p) (pos r.time)) None (Some (front_at ended (pos (last_time r.time rows)) p)) ≡ None
    by_test true h = rw h refl
    by_test false h =
        let le = int_order (front_at ended (pos (last_time r.time rows)) p) (pos r.time) false h in
        absurd (omega (arith, ints, lt, same, le))

module _ (header : Header) (p : Subformula) where
  -- from a past to the next no number falls, and the first time stays
  abbrev Rises : Past → Past → Type 0
  Rises old new = IsTrace (trace_of header new) → (g : ℤ) → number_by old.ended p old.rows ≡ Some g
      → (g ≤ℤ front_at new.ended (pos (last_time 0 new.rows)) p) × (first_time old.rows ≡ first_time new.rows)

  rises_row : (rows : List Row) (r : Row) → Rises (record { rows = rows; ended = false }) (record { rows = rows ++ r ∷ []; ended = false })
  rises_row [] r is g e = absurd (let f = e in cc)
  rises_row (q ∷ rows) r is g e =
      let lt = last_below header q rows r is in
      let last : last_time q.time (rows ++ r ∷ []) ≡ r.time = last_time-push q.time rows r in (
        subst (λ x. x ≤ℤ front_at false (pos (last_time q.time (rows ++ r ∷ []))) p) (same_Some _ _ e)
            (front_rises p (last_time q.time rows) (last_time q.time (rows ++ r ∷ [])) (omega (arith, lt, last))),
        refl,
      )

  rises_end : (rows : List Row) → Rises (record { rows = rows; ended = false }) (record { rows = rows; ended = true })
  rises_end [] is g e = absurd (let f = e in cc)
  rises_end (q ∷ rows) is g e = (subst (λ x. x ≤ℤ front_at true (pos (last_time q.time rows)) p) (same_Some _ _ e) (front_ends p (last_time q.time rows)), refl)

  -- a number only rises
  pub number_rises : (old new : Past) → IsNext old new → Rises old new
  number_rises old new next = next_cases old new next Rises rises_row rises_end
