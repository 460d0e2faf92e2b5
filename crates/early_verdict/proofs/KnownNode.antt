-- A net of nodes of which the one at a place is known.
use Rattle.std.proofs.Common.{◌≡◌, ◌≢◌, ◌∙◌, sym, subst, ℕ, ◌<◌, Some, List, length, arith}
use Rattle.std.specs.Prelude.{slice_get}
use Rattle.std.proofs.lemmas.Option.{same_Some, slice_get_within}
use Rattle.rational.specs.Time.{Rational, ◌≤ʳ◌}
use Rattle.frac128.specs.Cuts.{place}
use Rattle.frac128.specs.Value.{value}
use Rattle.stl_syntax.specs.Cells.{IsChild}
use Rattle.stl_syntax.specs.Formula.{HasChildrenBelow}
use Rattle.stl_syntax.specs.Trace.{Trace}
use Rattle.stl_syntax.specs.declared.node.Node.{Node}
use Rattle.stl_syntax.proofs.FormulaLemmas.{below_later}
use Rattle.stl_syntax.proofs.PostOrderLemmas.{placed, child_below}
use Rattle.growing_sets.specs.Spans.{Lies}
use Rattle.growing_sets.specs.declared.stretch.Stretch.{Stretch}
use Rattle.early_verdict.specs.Fitting.{AreSetsTidy}
use Rattle.early_verdict.specs.Standing.{IsOperator, IsOperatorAt, own_list}
use Rattle.early_verdict.specs.Letting.{AreLess, NetHas}
use Rattle.early_verdict.specs.declared.sets.Sets.{Sets}
use Rattle.early_verdict.proofs.FewerTimes.{Beside, le_after}
use Rattle.early_verdict.proofs.NodeSets.{beside_of, few_of, own_of_node, tidy_of}

module _ {nodes : List Node} {tr : Trace} {live shown : List Sets} {i : ℕ} {n : Node} (h : NetHas nodes tr live shown i n) (o : IsOperator n) where
  is_operator : IsOperatorAt nodes i
  is_operator = (n, h.here, o)

  -- its own sets are stored
  pub own_there : i < length live
  own_there = let k = slice_get_within nodes i n h.here in let f = few_of live i is_operator h.stands in omega (arith, k, f)

  -- it goes on from them
  pub own_listed : (s : Sets) → slice_get live i ≡ Some s → slice_get (own_list nodes live shown) i ≡ Some s
  own_listed = own_of_node live i is_operator h.stands

  -- they are tidy
  pub own_tidy : (s : Sets) → slice_get live i ≡ Some s → AreSetsTidy s
  own_tidy = tidy_of live i is_operator h.stands

  -- its children show
  pub child_there : (p : ℕ) → IsChild n p → p < length shown
  child_there p child =
      let below = child_below i p n (placed nodes i n h.formed.post_order h.here) child in
      let k = slice_get_within nodes i n h.here in
      let d = h.stands.have.shown_count in
      omega (arith, below, k, d)

  -- so do all of them
  pub children_there : HasChildrenBelow (length shown) n
  children_there =
      let k = slice_get_within nodes i n h.here in
      let d = h.stands.have.shown_count in
      below_later i (length shown) n (omega (arith, k, d)) (placed nodes i n h.formed.post_order h.here)

  -- where its own change, and its children show fewer times
  pub own_beside : (left : List Sets) {new : List Sets} {s r : Sets} → ((j : ℕ) → j ≢ i → slice_get left j ≡ slice_get live j)
      → length left ≡ length live → AreLess shown new → slice_get live i ≡ Some s → slice_get left i ≡ Some r
      → Beside nodes i (own_list nodes live shown) (own_list nodes left new) shown new s r
  own_beside = beside_of live i is_operator h.stands

-- no time of the sets at a place lies before their bounds
pub begins_from : (live : List Sets) (i : ℕ) {x s : Sets} {own : Stretch} → slice_get live i ≡ Some x → own ≡ x.no.bounds → slice_get live i ≡ Some s
    → (t : Rational) → Lies s.no.bounds t → value own.from.time ≤ʳ t
begins_from live i {x} {s} {own} is e at t l =
    le_after (place own.from) t
    (subst (λ (b : Stretch). Lies b t) (sym e) (subst (λ (z : Sets). Lies z.no.bounds t) (same_Some s x (sym at ∙ is)) l)).0
