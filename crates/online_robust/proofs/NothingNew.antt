-- A node that gives out nothing from one past to the next.
use Rattle.std.proofs.Common.{◌≡◌, ◌≢◌, ◌⊎◌, inl, inr, ℕ, suc, ◌<◌, Bool, true, false, List, [], length, refl, sym}
use Rattle.std.proofs.Common.{ap, subst, ◌∙◌, arith, append-nil, Option, Some, None, ℤ, pos, ◌<ℤ◌, ◌≤ℤ◌, take}
use Rattle.std.specs.Prelude.{int_lt, map, slice_get}
use Rattle.std.proofs.lemmas.Int.{ints}
use Rattle.std.proofs.lemmas.Option.{same_Some}
use Rattle.rational.specs.Windows.{Function}
use Rattle.rational.proofs.Tests.{int_order}
use Rattle.stl_syntax.specs.Trace.{Trace, first_time}
use Rattle.stl_syntax.specs.Formula.{Subformula, subformula}
use Rattle.stl_syntax.specs.SupInf.{Robustness}
use Rattle.stl_syntax.specs.Limits.{reach}
use Rattle.stl_syntax.specs.declared.node.Node.{Node}
use Rattle.online_nodes.specs.MarginEdges.{AreNewParts}
use Rattle.online_nodes.specs.Network.{reach_back}
use Rattle.online_nodes.specs.Needed.{IsReader}
use Rattle.online_robust.specs.Held.{Edge, Held, edge_at, held_at, held_of, number_at, with_edge, with_more, with_number}
use Rattle.online_robust.specs.Standing.{Stands}
use Rattle.online_robust.specs.Steps.{back_of, seen_by}
use Rattle.online_robust.specs.Pasts.{trace_of, part_of, number_of, shown_of, IsRest, IsWork}
use Rattle.online_robust.specs.Moving.{Move, AreMore, CanMove, HasMoved}
use Rattle.online_robust.specs.declared.line.MarginLine.{MarginLine}
use Rattle.online_robust.specs.declared.station.Work.{Work}
use Rattle.online_robust.specs.declared.station.Work.TheVariants as W
use Rattle.online_robust.proofs.GivenOutGrows.{goes_on_from}
use Rattle.online_robust.proofs.OperatorGoesOn.{edge_other, edge_same, int_not_below, length-set-edges}
use Rattle.online_robust.proofs.Readers.{reader_above, seen_same}
use Rattle.online_robust.proofs.RowFacts.{number_here, number_hidden, number_rises, number_shown, shown_is}

-- where a number does not move, nothing is new
no_parts : (p : Subformula) (tr : Trace) (o : Option ℤ) → AreNewParts p tr o o []
no_parts p tr None = refl
no_parts p tr (Some g) = rw (int_not_below g) refl

no_more : (F : Function) (most start : ℕ) (o : Option ℤ) → AreMore F most start o o []
no_more F most start None = refl
no_more F most start (Some g) = rw (int_not_below g) refl

-- the edges after an idle step: the node's number is noted, and all else is as it was
pub record IsIdle (place : ℕ) (number : ℤ) (old new : Held) : Type 0 where
  -- the edge notes its number
  pub here : edge_at new place ≡ with_number (edge_at old place) number
  -- the others stay
  pub others : (j : ℕ) → j ≢ place → edge_at new j ≡ edge_at old j
  -- there are as many
  pub edges : length new.edges ≡ length old.edges
  -- and the start stays
  pub start : new.start ≡ old.start

-- a number that is noted
pub idle_noted : (e : Held) (place : ℕ) (number : ℤ) → place < length e.edges
    → IsIdle place number e (record e { edges = with_edge e place (with_number (edge_at e place) number) })
idle_noted e place number within = record {
  here = edge_same e place (with_number (edge_at e place) number) within;
  others = λ j apart. edge_other e place j (with_number (edge_at e place) number) apart;
  edges = length-set-edges e place (with_number (edge_at e place) number);
  start = refl;
}

-- a number that was there
pub idle_there : (e : Held) (place : ℕ) (number : ℤ) → number_at e place ≡ Some number → IsIdle place number e e
idle_there e place number is = record { here = numbered (edge_at e place) is; others = λ j apart. refl; edges = refl; start = refl }
  where
    numbered : (x : Edge) → x.number ≡ Some number → x ≡ with_number x number
    numbered x e = ap (λ n. record { seen = x.seen; fresh = x.fresh; number = n; joins = x.joins }) e

module _ (m : Move) (w : Work) (e e' : Held) (can : CanMove m w e) (number : ℤ) (is : number_of m.nodes m.new m.place ≡ Some number)
    (same : shown_of m.nodes m.new m.place ≡ shown_of m.nodes m.old m.place) (idle : IsIdle m.place number e e') where
  more_of_none : (x : Edge) → with_number (with_more x []) number ≡ with_number x number
  more_of_none x = ap (λ l. record { seen = x.seen; fresh = l; number = Some number; joins = x.joins }) (append-nil x.fresh)

  work_on : (n : Node) → slice_get m.nodes m.place ≡ Some n → (w : Work) → IsWork m.nodes m.header m.old m.place n (seen_by n e) w
      → IsWork m.nodes m.header m.new m.place n (seen_by n e') w
  work_on n at (W.Const b) h = h
  work_on n at W.Atom h = h
  work_on n at (W.Operator op) h = (
    h.0,
    λ tr trace c.
        subst (λ l. Stands n m.nodes m.place tr (shown_of m.nodes m.new m.place) op l) (sym seen)
        (subst (λ o. Stands n m.nodes m.place tr o op (seen_by n e)) (sym same) (h.1 tr trace (goes_on_from m.old m.new can.next tr m.header c))),
  )
    where
      seen : seen_by n e' ≡ seen_by n e
      seen = seen_same n e e' (λ j side reads.
          let lower : j < m.place = reader_above m.nodes can.nodes.formed m.place n side j at reads in
          ap (λ (x : Edge). x.seen) (idle.others j (omega (arith, lower))))

  -- a node that gives out nothing has moved so
  pub idle_moved : HasMoved m w e e'
  idle_moved = record {
    more = [];
    number = number;
    number_is = is;
    got = idle.here ∙ sym (more_of_none (edge_at e m.place));
    parts = subst (λ o. AreNewParts (subformula m.nodes m.place) (trace_of m.header m.new) (shown_of m.nodes m.old m.place) o (map part_of [])) (sym same)
        (no_parts (subformula m.nodes m.place) (trace_of m.header m.new) (shown_of m.nodes m.old m.place));
    told = λ tr trace c.
        subst (λ o. AreMore (Robustness (subformula m.nodes m.place) tr) (reach (take (suc m.place) m.nodes))
        (first_time m.new.rows) (shown_of m.nodes m.old m.place) o []) (sym same)
        (no_more (Robustness (subformula m.nodes m.place) tr) (reach (take (suc m.place) m.nodes)) (first_time m.new.rows) (shown_of m.nodes m.old m.place));
    work = λ n at.
        work_on n at w (subst (λ k. IsWork m.nodes m.header m.old m.place k (seen_by k e) w) (same_Some _ _ (sym can.at ∙ at)) can.work);
    inputs = λ n j side at reads.
        let found : can.node ≡ n = same_Some _ _ (sym can.at ∙ at) in
        let reads' : IsReader can.node side j = subst (λ k. IsReader k side j) (sym found) reads in
        let lower : j < m.place = reader_above m.nodes can.nodes.formed m.place n side j at reads in
        let kept : edge_at e' j ≡ edge_at e j = idle.others j (omega (arith, lower)) in
        let (lines, gave, rest) = can.inputs j side reads' in (
          (lines, gave, held_same lines n j side found kept rest),
          ap (λ (x : Edge). x.number) kept,
        );
    others = λ j apart unread. idle.others j apart;
    edges = idle.edges;
    start = idle.start;
  }
    where
      held_same : (lines : List MarginLine) (n : Node) (j : ℕ) (side : Bool) → can.node ≡ n → edge_at e' j ≡ edge_at e j
          → IsRest (back_of (first_time m.new.rows) (shown_of m.nodes m.old m.place) (reach_back can.node side)) lines (held_at e j)
          → IsRest (back_of (first_time m.new.rows) (shown_of m.nodes m.new m.place) (reach_back n side)) lines (held_at e' j)
      held_same lines n j side found kept rest =
          subst (λ x. IsRest (back_of (first_time m.new.rows) (shown_of m.nodes m.new m.place) (reach_back n side)) lines (held_of x)) (sym kept)
          (subst (λ o. IsRest (back_of (first_time m.new.rows) o (reach_back n side)) lines (held_at e j)) (sym same)
          (subst (λ k. IsRest (back_of (first_time m.new.rows) (shown_of m.nodes m.old m.place) (reach_back k side)) lines (held_at e j)) found rest))

-- ---- when nothing is new

module _ (m : Move) (w : Work) (e : Held) (can : CanMove m w e) (number : ℤ) (is : number_of m.nodes m.new m.place ≡ Some number) where
  abbrev p : Subformula
  p = subformula m.nodes m.place

  -- the number is the one before
  pub same_number : number_of m.nodes m.old m.place ≡ Some number → shown_of m.nodes m.new m.place ≡ shown_of m.nodes m.old m.place
  same_number was =
      let (le, first) = number_rises m.header p m.old m.new can.next can.trace number was in
      by_order (below_or_not number (pos (first_time m.new.rows))) first
    where
      below_or_not : (a b : ℤ) → (a <ℤ b) ⊎ (b ≤ℤ a)
      below_or_not a b = by_test (int_lt a b) refl
        where
          by_test : (t : Bool) → int_lt a b ≡ t → (a <ℤ b) ⊎ (b ≤ℤ a)
          by_test true e = inl (int_order a b true e)
          by_test false e = inr (int_order a b false e)

      by_order : (number <ℤ pos (first_time m.new.rows)) ⊎ (pos (first_time m.new.rows) ≤ℤ number) → first_time m.old.rows ≡ first_time m.new.rows
          → shown_of m.nodes m.new m.place ≡ shown_of m.nodes m.old m.place
      by_order (inl lt) first =
          number_hidden p m.new.ended m.new.rows number is lt
          ∙ sym (number_hidden p m.old.ended m.old.rows number was (subst (λ s. number <ℤ pos s) (sym first) lt))
      by_order (inr le) first =
          number_shown p m.new.ended m.new.rows number is le
          ∙ sym (number_shown p m.old.ended m.old.rows number was (subst (λ s. pos s ≤ℤ number) (sym first) le))

  -- the number is below the start
  pub both_hidden : number <ℤ pos (first_time m.new.rows) → shown_of m.nodes m.new m.place ≡ shown_of m.nodes m.old m.place
  both_hidden lt = number_hidden p m.new.ended m.new.rows number is lt ∙ sym (by_shown (shown_of m.nodes m.old m.place) refl)
    where
      by_shown : (o : Option ℤ) → shown_of m.nodes m.old m.place ≡ o → shown_of m.nodes m.old m.place ≡ None
      by_shown None h = h
      by_shown (Some g) h =
          let (was, from) = shown_is p m.old.ended m.old.rows g h in
          let (le, first) = number_rises m.header p m.old m.new can.next can.trace g was in
          let top : g ≤ℤ number = subst (λ x. g ≤ℤ x) (same_Some _ _ (sym (number_here m.header p m.new.ended m.new.rows can.trace) ∙ is)) le in
          let low : pos (first_time m.new.rows) ≤ℤ g = subst (λ s. pos s ≤ℤ g) first from in
          absurd (omega (arith, ints, lt, top, low))
