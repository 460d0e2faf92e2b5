-- The items of an explanation by another clock.
use Rattle.std.proofs.Common.{◌≡◌, ℕ, suc, ◌<◌, List, [], ◌∷◌, ◌++◌, map, reverse, refl, sym, ap, ◌∙◌, subst, inl, inr, MatchBool}
use Rattle.std.specs.Prelude.{◌↔◌}
use Rattle.std.proofs.lemmas.List.{map-append, reverse-append}
use Rattle.rational.specs.Time.{Rational, Interval, IsIn, BeginAlike, EndAlike}
use Rattle.rational.proofs.Order.{same_sym, same_trans, le_of_same, ge_of_same}
use Rattle.rational.proofs.TimeLemmas.{precedes_after, precedes_before, IsIn-same}
use Rattle.frac128.specs.Value.{value}
use Rattle.frac128.specs.Spans.{interval}
use Rattle.frac128.specs.declared.span.Span.{Span}
use Rattle.stl_syntax.specs.Trace.{Trace, start}
use Rattle.stl_syntax.specs.Formula.{Subformula, subformula, root}
use Rattle.stl_syntax.specs.Truth.{Truth}
use Rattle.stl_syntax.specs.Kleene.{IsCovered, MustNot}
use Rattle.stl_syntax.specs.Cells.{cells}
use Rattle.stl_syntax.specs.Kept.{IsSo, ItemsOn, AllCells, KeptFrom, Kept}
use Rattle.stl_syntax.specs.Scaling.{scaled_node}
use Rattle.stl_syntax.specs.declared.items.Item.{Item}
use Rattle.stl_syntax.specs.declared.node.Node.{Node}
use Rattle.stl_syntax.specs.declared.node.Node.TheVariants.{Atom as Leaf}
use Rattle.stl_syntax.proofs.LawProofs.{certainty_is_of_times}
use Rattle.bounds.proofs.NearTimes.{Move}
use Rattle.unit_laws.proofs.Clocks.{clock, unclock, clock_same, clock-unclock, unclock-clock, precedes_clock}
use Rattle.unit_laws.proofs.Recounts.{IsRecount}
use Rattle.unit_laws.proofs.FinerTrees.{finer_tree, subformula_by, root_by}
use Rattle.unit_laws.proofs.FinerVerdicts.{frac_same, span_by, in_by, told_at}
use Rattle.unit_laws.proofs.FinerCertainty.{certain_by}
use Rattle.unit_laws.proofs.FinerCells.{interval_by, cells_by, cuts_by}

-- the list turned, element by element
pub map_reverse : {X Y : Type 0} (f : X → Y) (xs : List X) → map f (reverse xs) ≡ reverse (map f xs)
map_reverse f [] = refl
map_reverse f (x ∷ xs) =
    ap (map f) (reverse-append (x ∷ []) xs) ∙ map-append f (reverse xs) (x ∷ []) ∙ ap (λ ys. ys ++ f x ∷ []) (map_reverse f xs)
    ∙ sym (reverse-append (f x ∷ []) (map f xs))

module _ (K : ℕ) (o : Move) (kp : 0 < K) where
  -- the item by the clock
  abbrev pub item_by : Item → Item
  item_by e = record { node = e.node; on = span_by K o kp e.on; holds = e.holds }

  -- a time of a span is by the clock one of the span by the clock
  pub in_forth : (on : Span) (t : Rational) → IsIn (interval on) t → IsIn (interval (span_by K o kp on)) (clock K o t)
  in_forth on t i = record {
    above = precedes_after on.from_in (value (span_by K o kp on).from) (clock K o (value on.from)) (clock K o t) (le_of_same (frac_same K o kp on.from))
        (precedes_clock K o kp on.from_in (value on.from) t i.above);
    below = precedes_before on.to_in (clock K o t) (clock K o (value on.to)) (value (span_by K o kp on).to)
        (precedes_clock K o kp on.to_in t (value on.to) i.below) (ge_of_same (frac_same K o kp on.to));
  }

  -- the items by the clock cover the times that the clock shows
  pub cover_by : (items : List Item) (i : ℕ) (t : Rational) → IsCovered items i t ↔ IsCovered (map item_by items) i (clock K o t)
  cover_by [] i t = (λ h. h, λ h. h)
  cover_by (e ∷ items) i t =
      let s = cover_by items i t in (
        λ h. elim h [ inl k ↦ inl (k.0, in_forth e.on t k.1) | inr k ↦ inr (s.0 k) ],
        λ h. elim h [
          | inl k ↦ inl (k.0, IsIn-same (interval e.on) (unclock-clock K o kp t) (in_by K o kp e.on (clock K o t) k.1))
          | inr k ↦ inr (s.1 k)
        ],
      )

  -- the intervals by the clock are those of the items by the clock
  begin_by : (on : Span) (other : Interval) → BeginAlike (interval on) other → BeginAlike (interval (span_by K o kp on)) (interval_by K o kp other)
  begin_by on other h = record { time = same_trans (frac_same K o kp on.from) (clock_same K o h.time); inside = h.inside }

  end_by : (on : Span) (other : Interval) → EndAlike (interval on) other → EndAlike (interval (span_by K o kp on)) (interval_by K o kp other)
  end_by on other h = record { time = same_trans (frac_same K o kp on.to) (clock_same K o h.time); inside = h.inside }

module _ (K : ℕ) (o : Move) (M : ℕ) (kp : 0 < K) (mp : 0 < M) {tr ur : Trace} (c : IsRecount K o M tr ur) (nodes : List Node) where
  abbrev fine_nodes : List Node
  fine_nodes = map (scaled_node K M) nodes

  abbrev moved_items : List Item → List Item
  moved_items items = map (item_by K o kp) items

  so_by : (e : Item) → IsSo nodes tr e → IsSo fine_nodes ur (item_by K o kp e)
  so_by e h t i =
      let u = unclock K o kp t in
      subst (λ p. MatchBool e.holds (Truth p ur t) (¬ Truth p ur t)) (sym (subformula_by K M nodes e.node))
      (told_at K o M kp mp c (subformula nodes e.node) e.holds u t (same_sym (clock-unclock K o kp t)) (h u (in_by K o kp e.on t i)))

  items_on_by : (i : ℕ) (spans : List Interval) (items : List Item) → ItemsOn nodes tr i spans items
      → ItemsOn fine_nodes ur i (map (interval_by K o kp) spans) (moved_items items)
  items_on_by i [] [] h = tt
  items_on_by i [] (e ∷ items) h = h
  items_on_by i (on ∷ spans) [] h = h
  items_on_by i (on ∷ spans) (e ∷ items) h =
      (h.0, begin_by K o kp e.on on h.1, end_by K o kp e.on on h.2, so_by e h.3, items_on_by i spans items h.4)

  all_cells_by : (i : ℕ) (rest : List Node) (items : List Item) → AllCells nodes tr i rest items
      → AllCells fine_nodes ur i (map (scaled_node K M) rest) (moved_items items)
  all_cells_by i [] items h = ap moved_items h
  all_cells_by i (Leaf a ∷ rest) items (times, here, later, cuts, on, is, others) = (
    map (clock K o) times,
    moved_items here,
    moved_items later,
    cuts_by K o M kp mp c nodes i times cuts,
    subst (λ spans. ItemsOn fine_nodes ur i spans (moved_items here)) (sym (cells_by K o kp times)) (items_on_by i (cells times) here on),
    ap moved_items is ∙ map-append (item_by K o kp) here later,
    all_cells_by (suc i) rest later others,
  )
  all_cells_by i (n ∷ rest) items h = all_cells_by (suc i) rest items h

  module _ (p : Subformula) where
    abbrev q : Subformula
    q = finer_tree K M p

    not_by : (items : List Item) → MustNot p items tr (start tr) ↔ MustNot q (moved_items items) ur (start ur)
    not_by items =
        let s = (certain_by K o M kp mp c items (moved_items items) (cover_by K o kp items) p (start tr)).must_not in (
          λ h. (certainty_is_of_times q (moved_items items) ur (clock K o (start tr)) (start ur) (same_sym c.starts)).1 (s.0 h),
          λ h. s.1 ((certainty_is_of_times q (moved_items items) ur (start ur) (clock K o (start tr)) c.starts).1 h),
        )

    both : (left after : List Item) → moved_items (reverse left ++ after) ≡ reverse (moved_items left) ++ moved_items after
    both left after =
        map-append (item_by K o kp) (reverse left) after ∙ ap (λ xs. xs ++ moved_items after) (map_reverse (item_by K o kp) left)

    kept_from_by : (left after kept : List Item) → KeptFrom p tr left after kept → KeptFrom q ur (moved_items left) (moved_items after) (moved_items kept)
    kept_from_by [] after kept h = ap moved_items h
    kept_from_by (e ∷ left) after kept (inl h) =
        inl (subst (λ xs. MustNot q xs ur (start ur)) (both left after) ((not_by (reverse left ++ after)).0 h.0), kept_from_by left after kept h.1)
    kept_from_by (e ∷ left) after kept (inr h) =
        inr (
          λ k. h.0 ((not_by (reverse left ++ after)).1 (subst (λ xs. MustNot q xs ur (start ur)) (sym (both left after)) k)),
          kept_from_by left (e ∷ after) kept h.1,
        )

  -- the kept items by the clock are those of the formula in smaller ticks
  pub kept_by : (kept : List Item) → Kept nodes tr kept → Kept fine_nodes ur (moved_items kept)
  kept_by kept h = record {
    all = moved_items h.all;
    cells = all_cells_by 0 nodes h.all h.cells;
    dropped =
        subst (λ p. KeptFrom p ur (reverse (moved_items h.all)) [] (moved_items kept)) (sym (root_by K M nodes))
        (subst (λ xs. KeptFrom (finer_tree K M (root nodes)) ur xs [] (moved_items kept)) (map_reverse (item_by K o kp) h.all)
        (kept_from_by (root nodes) (reverse h.all) [] kept h.dropped));
  }
