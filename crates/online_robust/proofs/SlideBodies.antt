-- From what an operator needs before it goes on to what a window needs, and back from what it leaves.
use Rattle.std.proofs.Common.{◌≡◌, ◌⊎◌, inl, inr, ℕ, ◌^◌, ◌+◌, true, false, List, sym, subst, arith}
use Rattle.std.proofs.Common.{ℤ, pos, ◌+ℤ◌, ◌≤ℤ◌}
use Rattle.std.specs.Prelude.{neg_ℤ}
use Rattle.std.proofs.lemmas.Int.{ints}
use Rattle.std.proofs.lemmas.Option.{get_or_from_slice_get, slice_get_within}
use Rattle.rational.specs.Time.{Rational, shifted, whole, ◌≈◌, ◌≤ʳ◌, ◌<ʳ◌}
use Rattle.rational.specs.Extended.{Affine}
use Rattle.rational.specs.Places.{Place}
use Rattle.rational.proofs.Events.{crossing_by, value_by}
use Rattle.rational.proofs.Order.{ge_of_same, le_of_lt, le_of_same, le_trans, lt_of_lt_of_le, same_refl, same_sym, same_trans}
use Rattle.frac128.specs.Value.{value}
use Rattle.value_laws.specs.Kinds.{margin_shape}
use Rattle.value_laws.specs.Margins.{margin_function}
use Rattle.value_laws.specs.declared.margin.Margin.{Margin}
use Rattle.pl_signal.specs.declared.knot.Knot.{Knot}
use Rattle.pl_signal.specs.declared.faults.WidePair.{WidePair}
use Rattle.pl_signal.specs.declared.faults.WidePair.TheVariants.{Cross, Value}
use Rattle.pl_signal.proofs.Values.{worth_within}
use Rattle.pieces.specs.Windows.{IsSmall}
use Rattle.stl_syntax.specs.Trace.{start, stop}
use Rattle.stl_syntax.specs.Formula.{Subformula, horizon, subformula, tree_of}
use Rattle.stl_syntax.specs.SupInf.{Robustness, margin_setting}
use Rattle.stl_syntax.specs.Limits.{own_reach}
use Rattle.stl_syntax.specs.WellFormed.{HasBounds}
use Rattle.stl_syntax.specs.WideCause.{IsInPlayAt}
use Rattle.stl_syntax.specs.declared.node.Node.TheVariants.{Const}
use Rattle.online_nodes.specs.StreamedWide.{IsSettledConstant, front_at}
use Rattle.online_robust.specs.Held.{Held, held_at}
use Rattle.online_robust.specs.Slides.{Course, IsBestStretch, IsInPlayFor, IsRefused, back_offset, reach_of}
use Rattle.online_robust.specs.Steps.{Belongs, IsInput, IsStreamedCause, IsSwept, Step}
use Rattle.online_robust.specs.Steps.{back_of, begin_of, from_of, reach_before}
use Rattle.online_robust.specs.Told.{IsTick}
use Rattle.online_robust.specs.declared.operator.Operator.TheVariants as Op
use Rattle.online_robust.specs.declared.slide.Slide.{Slide}
use Rattle.online_robust.specs.declared.slide.Window.{Window}
use Rattle.online_robust.proofs.OperatorBodies.{last_to, span_from, swept_of, tick_of, tree}
use Rattle.online_robust.proofs.Builts.{built_done}
use Rattle.online_robust.proofs.NodeLooks.{front_by_stop, told_as_far}
use Rattle.online_robust.proofs.Robustly.{robust_is_function}
use Rattle.online_robust.proofs.SlideNodes.{IsSlideNode, slide_best, slide_node, slide_plays, slide_settled}

module _ (t : Step) (z : Slide) (e : Held) (to : ℕ) (b : Belongs t (Op.Slide z) e to) where
  abbrev w : Window
  w = z.window

  abbrev child : Subformula
  child = subformula t.nodes z.window.of

  abbrev F : ℤ
  F = front_at t.ended (pos t.now) (subformula t.nodes z.window.of)

  bounds : HasBounds b.node
  bounds = subst (λ m. HasBounds m) (get_or_from_slice_get t.nodes t.place b.node (Const false) b.at)
      (b.formed.bounds t.place (Const false) (slice_get_within t.nodes t.place b.node b.at))

  -- the node has such a window
  pub here : IsSlideNode (subformula t.nodes) t.place b.node z.window
  here = slide_node (subformula t.nodes) t.place b.node z.window b.stands.0 bounds (let small = b.small in omega (arith, small))

  own_tree : subformula t.nodes t.place ≡ tree_of (subformula t.nodes) t.place b.node
  own_tree = tree t (Op.Slide z) e to b

  -- its offsets are small
  pub small : IsSmall (reach_of z.window)
  small = record {
    from = by_low here.own.low;
    to = let s = b.small in let h = here.own.high_to in omega (arith, ints, s, h);
    order = here.order;
    aside = here.aside;
  }
    where
      by_low : ((neg_ℤ (pos (own_reach b.node)) ≤ℤ z.window.low) × (z.window.low ≤ℤ pos (own_reach b.node))) ⊎ (z.window.low ≡ neg_ℤ (pos 4294967296))
          → neg_ℤ (pos (2 ^ 32)) ≤ℤ z.window.low
      by_low (inl h) = let s = b.small in let l = h.0 in omega (arith, ints, s, l)
      by_low (inr e) = omega (arith, ints, e)

  -- the course of the window in the turn, to a time that is the number
  abbrev pub course_of : Rational → Place → Course
  course_of end from = record {
    window = z.window;
    formula = subformula t.nodes z.window.of;
    trace = t.trace;
    reach = reach_before t;
    front = whole (front_at t.ended (pos t.now) (subformula t.nodes z.window.of));
    to = end;
    from = from;
  }

  -- the edge holds the input from where it is needed
  pub edge_input : IsInput (Robustness (subformula t.nodes z.window.of) t.trace) (reach_before t) (begin_of t)
      (back_of (begin_of t) t.before (back_offset z.window)) (front_at t.ended (pos t.now) (subformula t.nodes z.window.of)) (held_at e z.window.of)
  edge_input = subst (λ k. IsInput (Robustness child t.trace) (reach_before t) (begin_of t) (back_of (begin_of t) t.before k) F (held_at e z.window.of))
      here.back (b.inputs z.window.of true here.reads)

  -- the start is a tick
  pub first_tick : IsTick (start t.trace)
  first_tick = tick_of t (Op.Slide z) e to b (begin_of t) b.from_start

  -- the time of the turn is a tick
  pub to_tick : IsTick (whole (pos to))
  to_tick = tick_of t (Op.Slide z) e to b to (omega arith)

  -- the time of the turn does not lie behind the end
  pub to_last : whole (pos to) ≤ʳ stop t.trace
  to_last = last_to t (Op.Slide z) e to b

  -- the input's front does not lie behind the end
  pub front_last : whole (front_at t.ended (pos t.now) (subformula t.nodes z.window.of)) ≤ʳ stop t.trace
  front_last = front_by_stop t (Op.Slide z) e to b z.window.of

  -- its input looks as far as the node, less the offset
  far : (pos (horizon (subformula t.nodes z.window.of)) +ℤ z.window.high) ≤ℤ pos (horizon (subformula t.nodes t.place))
  far = subst (λ p. (pos (horizon (subformula t.nodes z.window.of)) +ℤ z.window.high) ≤ℤ pos (horizon p)) (sym own_tree) here.far

  -- the input is told as far as the window looks, or to the end
  pub told_far : (shifted (whole (pos to)) z.window.high ≤ʳ whole (front_at t.ended (pos t.now) (subformula t.nodes z.window.of)))
      ⊎ ((whole (front_at t.ended (pos t.now) (subformula t.nodes z.window.of)) ≈ stop t.trace) × (whole (pos to) ≈ stop t.trace))
  told_far = told_as_far t (Op.Slide z) e to b z.window.of z.window.high far

  -- ---- what the window leaves

  module _ (end : Rational) (from : Place) (same : end ≈ whole (pos to)) where
    abbrev x : Course
    x = course_of end from

    end_tick : end ≤ʳ whole (pos 4294967295)
    end_tick = le_trans (le_of_same same) to_tick.1

    -- what the window tells is the node's margin
    pub slide_told : (ks : List (Knot Margin)) → IsBestStretch (course_of end from) (from_of t) ks → IsSwept t to ks
    slide_told ks is = swept_of t (Op.Slide z) e to b (Robustness (tree_of (subformula t.nodes) t.place b.node) t.trace) end ks same
        (λ u v by h. h)
        (built_done (Robustness (tree_of (subformula t.nodes) t.place b.node) t.trace) (reach_before t + own_reach b.node)
        (robust_is_function (tree_of (subformula t.nodes) t.place b.node) t.trace) (from_of t) end end ks (record {
          signal = is.signal;
          worth = λ u v h. let within = worth_within margin_shape ks u v is.signal h in
              slide_best (subformula t.nodes) t.place b.node z.window t.trace b.stands.0 first_tick.0 u v
              (le_trans (le_trans within.below (le_of_same is.ends)) end_tick) (is.worth u v h).0;
          begins = is.begins;
          ends = is.ends;
          bounded = λ u v h. (is.worth u v h).1;
          moved = is.moved (own_reach b.node) here.own;
        }) (same_refl end) (tick_from) (tick_same same))
      where
        tick_same : end ≈ whole (pos to) → IsTick end
        tick_same s = (le_trans to_tick.0 (ge_of_same s), le_trans (le_of_same s) to_tick.1)

        tick_from : IsTick (from_of t)
        tick_from = let s = span_from t (Op.Slide z) e to b in (le_trans first_tick.0 s.0, le_trans s.1 to_tick.1)

    in_play : (tau : Rational) (line : Affine) → IsInPlayFor (course_of end from) tau line
        → IsInPlayAt (subformula t.nodes t.place) (margin_setting t.trace) tau line × (tau <ʳ whole (front_at t.ended (pos t.now) (subformula t.nodes t.place)))
    in_play tau line (play, lt) = (
      subst (λ p. IsInPlayAt p (margin_setting t.trace) tau line) (sym own_tree)
          (slide_plays (subformula t.nodes) t.place b.node z.window t.trace b.stands.0 first_tick.0 tau line (le_trans (le_of_lt lt) end_tick) play),
      subst (λ k. tau <ʳ whole k) b.number (lt_of_lt_of_le lt (le_of_same same)),
    )

    -- what is refused is refused for the node's stream
    pub slide_cause : (pair : WidePair Margin) → IsRefused (course_of end from) pair → IsStreamedCause t pair
    slide_cause (Cross p q c d den) h =
        crossing_by _ _ (start t.trace) (stop t.trace) (margin_function p) (margin_function q) (value c) (value d) den in_play h
    slide_cause (Value p u den) (inl h) = inl (value_by _ _ (start t.trace) (stop t.trace) (margin_function p) (value u) den in_play h)
    slide_cause (Value p u den) (inr (first, h)) = inr (
      same_trans (same_trans (subst (λ k. whole k ≈ whole (pos to)) b.number (same_refl (whole (pos to)))) (same_sym same)) first,
      value_by _ _ (start t.trace) (stop t.trace) (margin_function p) (value u) den
          (λ tau line m. subst (λ q. IsSettledConstant t.ended (pos t.now) q (margin_setting t.trace) tau line) (sym own_tree)
          (slide_settled (subformula t.nodes) t.place b.node z.window t.trace b.stands.0 t.ended (pos t.now) tau line m)) h,
    )
