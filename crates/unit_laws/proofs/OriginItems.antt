-- What explains a formula on a trace explains it, later, on the delayed trace.
use Rattle.std.proofs.Common.{◌≡◌, ℕ, List, [], ◌∷◌, map, refl, sym, ap, ◌∙◌, subst, inl, inr}
use Rattle.std.specs.Prelude.{◌⊎◌}
use Rattle.rational.proofs.Order.{same_sym}
use Rattle.stl_syntax.specs.Trace.{Trace, start}
use Rattle.stl_syntax.specs.Formula.{root}
use Rattle.stl_syntax.specs.Truth.{Truth}
use Rattle.stl_syntax.specs.Kept.{Kept}
use Rattle.stl_syntax.specs.Scaling.{scaled_node, nodes_for}
use Rattle.stl_syntax.specs.declared.items.Item.{Item}
use Rattle.stl_syntax.specs.declared.node.Node.{Node}
use Rattle.stl_syntax.specs.declared.node.Node.TheVariants.{Atom as Leaf, Until, Eventually, Always, Since, Once, Historically}
use Rattle.stl_syntax.proofs.TruthLemmas.{Truth-same}
use Rattle.report.specs.Report.{IsItemLines}
use Rattle.unit_laws.specs.Origins.{AreDelayedItems, ExplanationsMove}
use Rattle.bounds.proofs.NearTimes.{Move, ahead, behind}
use Rattle.unit_laws.proofs.Clocks.{clock}
use Rattle.unit_laws.proofs.Recounts.{IsRecount}
use Rattle.unit_laws.proofs.FinerTrees.{finer_tree}
use Rattle.unit_laws.proofs.FinerTruth.{truth_by}
use Rattle.unit_laws.proofs.FinerItems.{item_by, kept_by}
use Rattle.unit_laws.proofs.FinerExplain.{item_lines_by}
use Rattle.unit_laws.proofs.OriginRows.{one_time, one_value, bound_one, same_tree, some_one, delayed_counts, trace_counts}
use Rattle.unit_laws.proofs.OriginVerdicts.{frac_delayed, later_back}

same_node : (n : Node) → scaled_node 1 1 n ≡ n
same_node (Leaf a) = ap (λ z. Leaf (record { terms = a.terms; rel = a.rel; limit = z })) (one_value a.limit)
same_node (Until p q a b) = rw (one_time a, one_time b) refl
same_node (Eventually p a b a_in b_in) = rw (one_time a, one_time b) refl
same_node (Always p a b a_in b_in) = rw (one_time a, one_time b) refl
same_node (Since p q a b) = rw (one_time a, bound_one b) refl
same_node (Once p a b a_in b_in) = rw (one_time a, bound_one b) refl
same_node (Historically p a b a_in b_in) = rw (one_time a, bound_one b) refl
same_node _ = refl

same_nodes : (nodes : List Node) → map (scaled_node 1 1) nodes ≡ nodes
same_nodes [] = refl
same_nodes (n ∷ nodes) = ap (λ x. x ∷ map (scaled_node 1 1) nodes) (same_node n) ∙ ap (λ xs. n ∷ xs) (same_nodes nodes)

are_delayed : (d : ℕ) (items : List Item) → AreDelayedItems d items (map (item_by 1 (ahead d) some_one) items)
are_delayed d [] = refl
are_delayed d (e ∷ items) = (
  item_by 1 (ahead d) some_one e,
  map (item_by 1 (ahead d) some_one) items,
  refl,
  record {
    node = refl;
    begins = record { time = frac_delayed d e.on.from; inside = refl };
    ends = record { time = frac_delayed d e.on.to; inside = refl };
    holds = refl;
  },
  are_delayed d items,
)

were_delayed : (d : ℕ) (items : List Item) → AreDelayedItems d (map (item_by 1 (behind d) some_one) items) items
were_delayed d [] = refl
were_delayed d (e ∷ items) = (
  e,
  items,
  refl,
  record {
    node = refl;
    begins = record { time = later_back d e.on.from; inside = refl };
    ends = record { time = later_back d e.on.to; inside = refl };
    holds = refl;
  },
  were_delayed d items,
)

-- no item where the root holds at the start, and else those that are kept, with neighbours joined
abbrev Explains : List Node → Trace → List Item → Type 0
Explains nodes tr lines =
    (Truth (root nodes) tr (start tr) × (lines ≡ []))
    ⊎ ((¬ Truth (root nodes) tr (start tr)) × ((items : List Item) × Kept nodes tr items × IsItemLines items lines))

module _ (o : Move) {tr ur : Trace} (c : IsRecount 1 o 1 tr ur) (nodes : List Node) where
  start_by : Truth (root nodes) tr (start tr) → Truth (root nodes) ur (start ur)
  start_by h =
      subst (λ q. Truth q ur (start ur)) (same_tree (root nodes))
      (Truth-same (finer_tree 1 1 (root nodes)) ur (same_sym c.starts) ((truth_by 1 o 1 some_one some_one c (root nodes) (start tr)).0 h))

  start_back : Truth (root nodes) ur (start ur) → Truth (root nodes) tr (start tr)
  start_back h =
      (truth_by 1 o 1 some_one some_one c (root nodes) (start tr)).1
      (subst (λ q. Truth q ur (clock 1 o (start tr))) (sym (same_tree (root nodes))) (Truth-same (root nodes) ur c.starts h))

  -- what explains the one trace explains the other
  moved : (lines : List Item) → Explains nodes tr lines → Explains nodes ur (map (item_by 1 o some_one) lines)
  moved lines (inl (holds, none)) = inl (start_by holds, ap (map (item_by 1 o some_one)) none)
  moved lines (inr (fails, (items, kept, joined))) =
      inr (
        λ x. fails (start_back x),
        (
          map (item_by 1 o some_one) items,
          subst (λ ns. Kept ns ur (map (item_by 1 o some_one) items)) (same_nodes nodes) (kept_by 1 o 1 some_one some_one c nodes items kept),
          item_lines_by 1 o some_one items lines joined,
        ),
      )

-- explanations move with the trace
pub explanations_move : ExplanationsMove
explanations_move f tr d ok = (
  λ lines h. (map (item_by 1 (ahead d) some_one) lines, are_delayed d lines, moved (ahead d) (delayed_counts d tr ok) (nodes_for f tr) lines h),
  λ lines h. (map (item_by 1 (behind d) some_one) lines, were_delayed d lines, moved (behind d) (trace_counts d tr ok) (nodes_for f tr) lines h),
)
