-- A window's operator goes on to a number: from what it needs to what its window needs, and from what its window leaves to what it leaves.
use Rattle.std.proofs.Common.{◌≡◌, ◌⊎◌, inl, inr, ℕ, suc, zero, Bool, true, false, List, [], ◌∷◌, drop, refl, sym, subst, ap, ◌∙◌, arith}
use Rattle.std.proofs.Common.{Option, Some, None, ℤ, pos, ◌+ℤ◌, ◌<ℤ◌, ◌≤ℤ◌}
use Rattle.std.specs.Prelude.{IfSome, IsSomeAnd, MatchBool, MatchOption, int_lt, slice_get}
use Rattle.std.proofs.lemmas.Int.{ints}
use Rattle.std.proofs.lemmas.Option.{same_Some}
use Rattle.rational.specs.Rational.{whole}
use Rattle.rational.specs.Time.{Rational, shifted, ◌≈◌, ◌≤ʳ◌, ◌<ʳ◌}
use Rattle.rational.specs.Places.{Place, Same}
use Rattle.rational.proofs.Order.{ge_of_same, le_of_lt, le_of_same, le_refl, le_trans, lt_of_le_of_lt, lt_of_lt_of_le, same_sym, same_trans}
use Rattle.rational.proofs.Shift.{le_whole, lt_whole}
use Rattle.rational.proofs.TimeLemmas.{same_shifted}
use Rattle.frac128.specs.Value.{value}
use Rattle.frac128.specs.Cuts.{place}
use Rattle.value_laws.specs.declared.margin.Margin.{Margin}
use Rattle.pieces.specs.declared.piece.Piece.{Piece}
use Rattle.pieces.specs.declared.stream.Stream.{Stream}
use Rattle.pieces.specs.Chains.{stop, stop_from}
use Rattle.pieces.specs.Streaming.{before_time}
use Rattle.stl_syntax.specs.Trace.{start, stop as last_of}
use Rattle.stl_syntax.specs.Formula.{subformula}
use Rattle.stl_syntax.specs.SupInf.{Robustness}
use Rattle.stl_syntax.specs.declared.node.Node.{Node}
use Rattle.online_nodes.specs.StreamedWide.{front_at}
use Rattle.online_robust.specs.Held.{Held, edge_at, held_at}
use Rattle.online_robust.specs.Lines.{end_of}
use Rattle.online_robust.specs.Slides.{ArePart, CanSlide, GoesOn, HasBegun, HasGoneTo, HasMet, HasRead, HasSlid, IsWayOf}
use Rattle.online_robust.specs.Slides.{back_offset, chain_of, cursor}
use Rattle.online_robust.specs.Standing.{Stands}
use Rattle.online_robust.specs.Steps.{AreInputs, Belongs, HasSwept, IsCut, Step, StandsNow, back_of, begin_of, from_of, reach_before, seen_by}
use Rattle.online_robust.specs.Told.{IsTick}
use Rattle.online_robust.specs.declared.line.MarginLine.{MarginLine}
use Rattle.online_robust.specs.declared.operator.Operator.TheVariants as Op
use Rattle.online_robust.specs.declared.slide.Slide.{Slide}
use Rattle.online_robust.proofs.OperatorBodies.{from_none, from_some, none_let_go}
use Rattle.online_robust.proofs.NodeLooks.{one_swept, shifted_whole}
use Rattle.online_robust.proofs.SlideBodies.{course_of, edge_input, first_tick, here, to_tick}
use Rattle.online_robust.proofs.SlideCuts.{cut_at}
use Rattle.online_robust.proofs.SlideFirst.{on_first}
use Rattle.online_robust.proofs.SlideGone.{read_same}
use Rattle.online_robust.proofs.SlideNodes.{IsSlideNode}
use Rattle.online_robust.proofs.SlideOn.{both, high_later, on_again}

-- nothing is left of nothing
drop_none : (n : ℕ) → drop {A = MarginLine} n [] ≡ []
drop_none zero = refl
drop_none (suc n) = refl

-- the window may go on, over chains that begin at the place
pub record Slides (t : Step) (z : Slide) (e : Held) (to : ℕ) (b : Belongs t (Op.Slide z) e to) (w : Stream Margin) (end : Rational) : Type 0 where
  pub from : Place
  pub can : CanSlide (course_of t z e to b end from) (from_of t) w z.kept e

module _ (t : Step) (z : Slide) (e : Held) (to : ℕ) (b : Belongs t (Op.Slide z) e to) (end : Rational) (same : end ≈ whole (pos to)) where
  end_tick : IsTick end
  end_tick = (le_trans (to_tick t z e to b).0 (ge_of_same same), le_trans (le_of_same same) (to_tick t z e to b).1)

  -- it begins now
  first_slides : (w : Stream Margin) → t.before ≡ None → z.kept ≡ None → seen_by b.node e ≡ [] → HasBegun z.window (begin_of t) w → Slides t z e to b w end
  first_slides w before kept nil begun = record {
    from = place w.met;
    can = subst (λ k. CanSlide (course_of t z e to b end (place w.met)) (from_of t) w k e) (sym kept) (record {
      on = on_first t z e to b w before nil begun end same;
      out = begun.out ∙ ap (λ p. chain_of p []) (sym stop_is);
      told = subst (λ p. Same p (before_time (from_of t))) (sym stop_is)
          (subst (λ u. Same (place w.met) (before_time u)) (sym (from_none t (Op.Slide z) e to b before)) begun.met);
      first = subst (λ u. whole (pos (begin_of t)) ≤ʳ u) (sym (from_none t (Op.Slide z) e to b before)) (le_refl (whole (pos (begin_of t))));
      order = subst (λ u. u ≤ʳ end) (sym (from_none t (Op.Slide z) e to b before))
          (le_trans (le_whole {j = pos (begin_of t)} {k = pos to} (let h = b.from_start in omega (arith, ints, h))) (ge_of_same same));
      to_tick = end_tick;
      from_tick = first_tick t z e to b;
      below = tt;
    });
  }
    where
      stop_is : stop w.sliding.out ≡ place w.met
      stop_is = ap (λ s. stop s) begun.out

  -- it went on to a number before
  again_slides : (w : Stream Margin) (g : ℤ) → t.before ≡ Some g
      → HasSlid (subformula t.nodes z.window.of) t.trace (reach_before t) g z w (seen_by b.node e) → Slides t z e to b w end
  again_slides w g before has = record {
    from = has.from;
    can = record {
      on = on_again t z e to b w g before has end same;
      out = has.gone.out;
      told = subst (λ u. Same (stop w.sliding.out) (before_time u)) (sym from_is) has.gone.told;
      first = subst (λ u. whole (pos (begin_of t)) ≤ʳ u) (sym from_is) (le_whole {j = pos (begin_of t)} {k = g} forth.0);
      order = subst (λ u. u ≤ʳ end) (sym from_is) (le_trans (le_of_lt (lt_whole forth.1)) (ge_of_same same));
      to_tick = end_tick;
      from_tick = first_tick t z e to b;
      below = by_kept z.kept has.gone.kept_is;
    };
  }
    where
      from_is : from_of t ≡ whole g
      from_is = from_some t (Op.Slide z) e to b g before

      forth : (pos (begin_of t) ≤ℤ g) × (g <ℤ pos to)
      forth = subst (λ o. IfSome o (λ g. (pos (begin_of t) ≤ℤ g) × (g <ℤ pos to))) before b.forth

      met_is : place w.met ≡ stop_from has.from has.gone.ps
      met_is = (both t z e to b w g before has).0.met

      by_kept : (k : Option (Piece Margin))
          → IfSome k (λ p. ((stop_from has.from has.gone.ps).at ≤ʳ shifted (whole g) z.window.high)
          × ArePart (Robustness (subformula t.nodes z.window.of) t.trace) (reach_before t) (stop_from has.from has.gone.ps) (p ∷ []))
          → IfSome k (λ p. (place w.met).at <ʳ shifted end z.window.high)
      by_kept None h = tt
      by_kept (Some p) (le, part) = lt_of_le_of_lt (subst (λ (d : Place). d.at ≤ʳ shifted (whole g) z.window.high) (sym met_is) le)
          (lt_of_lt_of_le (high_later t z e to b w g before has) (le_of_same (same_shifted z.window.high (same_sym same))))

  -- what goes over the input may go on
  pub may_slide : (w : Stream Margin) → MatchOption z.stream (HasBegun z.window (begin_of t) w) (λ v. w ≡ v) → Slides t z e to b w end
  may_slide w made = by_stream z.stream b.stands.1 made
    where
      by_before : (v : Stream Margin) → w ≡ v → (o : Option ℤ) → t.before ≡ o
          → IsSomeAnd o (λ g. HasSlid (subformula t.nodes z.window.of) t.trace (reach_before t) g z v (seen_by b.node e)) → Slides t z e to b w end
      by_before v is None none has = absurd has
      by_before v is (Some g) some has = again_slides w g some
          (subst (λ u. HasSlid (subformula t.nodes z.window.of) t.trace (reach_before t) g z u (seen_by b.node e)) (sym is) has)

      by_stream : (o : Option (Stream Margin))
          → MatchOption o ((t.before ≡ None) × (z.kept ≡ None) × (seen_by b.node e ≡ []))
          (λ v. IsSomeAnd t.before (λ g. HasSlid (subformula t.nodes z.window.of) t.trace (reach_before t) g z v (seen_by b.node e)))
          → MatchOption o (HasBegun z.window (begin_of t) w) (λ v. w ≡ v) → Slides t z e to b w end
      by_stream None (before, kept, nil) begun = first_slides w before kept nil begun
      by_stream (Some v) stood is = by_before v is t.before refl stood

  -- ---- what it leaves

  -- what is needed no more is gone from its input's edge
  pub slide_edges : (e' : Held) → HasRead z.window.of e (shifted end (back_offset z.window)) e' → HasSwept t e e' to
  slide_edges e' read = one_swept t (Op.Slide z) e to b z.window.of e' by.0 node.reads node.only
      (subst (λ k. IsCut (back_of (begin_of t) (Some (pos to)) k) (edge_at e z.window.of) (edge_at e' z.window.of)) (sym node.back)
      (cut (int_lt (front_at t.ended (pos t.now) (subformula t.nodes z.window.of)) (pos (begin_of t))) (edge_input t z e to b)))
    where
      node : IsSlideNode (subformula t.nodes) t.place b.node z.window
      node = here t z e to b

      by : HasRead z.window.of e (shifted (whole (pos to)) (back_offset z.window)) e'
      by = read_same (shifted end (back_offset z.window)) (shifted (whole (pos to)) (back_offset z.window)) (same_shifted (back_offset z.window) same) read

      later : (o : Option MarginLine) → IfSome o (λ l. shifted (whole (pos to)) (back_offset z.window) <ʳ value (end_of l))
          → IfSome o (λ l. whole (pos to +ℤ back_offset z.window) <ʳ value (end_of l))
      later None h = tt
      later (Some l) h = lt_of_le_of_lt (ge_of_same (shifted_whole (pos to) (back_offset z.window))) h

      -- an edge that holds nothing
      none_held : held_at e z.window.of ≡ [] → (o : Option ℤ) → IsCut o (edge_at e z.window.of) (edge_at e' z.window.of)
      none_held nil None = by.0.is ∙ ap (λ l. drop by.0.count l) nil ∙ drop_none by.0.count ∙ sym nil
      none_held nil (Some limit) = record {
        count = 0;
        is = new_nil ∙ sym nil;
        ended = λ n below. absurd (omega (arith, below));
        rest = subst (λ l. IfSome (slice_get l 0) (λ y. whole limit <ʳ value (end_of y))) (sym new_nil) tt;
      }
        where
          new_nil : held_at e' z.window.of ≡ []
          new_nil = by.0.is ∙ ap (λ l. drop by.0.count l) nil ∙ drop_none by.0.count

      cut : (c : Bool) → MatchBool c (held_at e z.window.of ≡ [])
          (AreInputs (Robustness (subformula t.nodes z.window.of) t.trace) (reach_before t) (begin_of t)
          (back_of (begin_of t) t.before (back_offset z.window)) (front_at t.ended (pos t.now) (subformula t.nodes z.window.of)) (held_at e z.window.of))
          → IsCut (back_of (begin_of t) (Some (pos to)) (back_offset z.window)) (edge_at e z.window.of) (edge_at e' z.window.of)
      cut true nil = none_held nil (back_of (begin_of t) (Some (pos to)) (back_offset z.window))
      cut false inputs = cut_at (pos to) (back_offset z.window) inputs (none_let_go (begin_of t) to (back_offset z.window) t.before b.forth) by.0
          (λ h. later (slice_get (held_at e' z.window.of) 0) by.1)

  -- the operator stands at the number
  pub slide_stands : (from : Place) (w new : Stream Margin) (kept : Option (Piece Margin)) (e' : Held)
      → CanSlide (course_of t z e to b end from) (from_of t) w z.kept e
      → new.way ≡ w.way → HasGoneTo (course_of t z e to b end from) new kept e'
      → StandsNow t (Op.Slide (record { window = z.window; stream = Some new; kept = kept })) e' to
  slide_stands from w new kept e' can way gone node found = subst
      (λ (n : Node). Stands n t.nodes t.place t.trace (Some (pos to)) (Op.Slide (record { window = z.window; stream = Some new; kept = kept })) (seen_by n e'))
      (same_Some _ _ (sym b.at ∙ found)) (b.stands.0, slid)
    where
      slid : HasSlid (subformula t.nodes z.window.of) t.trace (reach_before t) (pos to) (record { window = z.window; stream = Some new; kept = kept }) new
          (seen_by b.node e')
      slid = record {
        way = subst (IsWayOf z.window) (sym way) can.on.way;
        front = whole (front_at t.ended (pos t.now) (subformula t.nodes z.window.of));
        from = from;
        begins = can.on.is_whole.begins;
        edges = e';
        seen_is = sym ((here t z e to b).seen e');
        gone = record {
          ps = gone.ps;
          part = gone.part;
          kept_is = kept_at kept gone.kept_is;
          out = gone.out;
          told = (same_trans gone.told.0 same, gone.told.1);
          goes_on = on_at gone.goes_on;
        };
      }
        where
          high_same : shifted end z.window.high ≈ shifted (whole (pos to)) z.window.high
          high_same = same_shifted z.window.high same

          back_same : shifted end (back_offset z.window) ≈ shifted (whole (pos to)) (back_offset z.window)
          back_same = same_shifted (back_offset z.window) same

          kept_at : (k : Option (Piece Margin))
              → IfSome k (λ p. ((stop_from from gone.ps).at ≤ʳ shifted end z.window.high)
              × ArePart (Robustness (subformula t.nodes z.window.of) t.trace) (reach_before t) (stop_from from gone.ps) (p ∷ []))
              → IfSome k (λ p. ((stop_from from gone.ps).at ≤ʳ shifted (whole (pos to)) z.window.high)
              × ArePart (Robustness (subformula t.nodes z.window.of) t.trace) (reach_before t) (stop_from from gone.ps) (p ∷ []))
          kept_at None h = tt
          kept_at (Some p) (le, part) = (le_trans le (le_of_same high_same), part)

          goes_at : (c : Place) (seen : List MarginLine) → GoesOn (course_of t z e to b end from) c seen
              → GoesOn (course_of t z e to b (whole (pos to)) from) c seen
          goes_at c seen goes = record {
            on = le_trans (ge_of_same high_same) goes.on;
            by = goes.by;
            read = goes.read;
            none = λ nil. by_none (goes.none nil);
          }
            where
              by_none : ((c ≡ from) × (shifted end (back_offset z.window) <ʳ start t.trace)) ⊎ ((c.after ≡ true) × (c.at ≈ shifted end (back_offset z.window)))
                  → ((c ≡ from) × (shifted (whole (pos to)) (back_offset z.window) <ʳ start t.trace))
                  ⊎ ((c.after ≡ true) × (c.at ≈ shifted (whole (pos to)) (back_offset z.window)))
              by_none (inl (is, early)) = inl (is, lt_of_le_of_lt (ge_of_same back_same) early)
              by_none (inr (after, at)) = inr (after, same_trans at back_same)

          on_at : (end ≈ last_of t.trace)
              ⊎ (HasMet from end gone.ps new × GoesOn (course_of t z e to b end from) (cursor (stop_from from gone.ps) kept) (edge_at e' z.window.of).seen)
              → (whole (pos to) ≈ last_of t.trace)
              ⊎ (HasMet from (whole (pos to)) gone.ps new × GoesOn (course_of t z e to b (whole (pos to)) from) (cursor (stop_from from gone.ps) kept)
              (edge_at e' z.window.of).seen)
          on_at (inl at) = inl (same_trans (same_sym same) at)
          on_at (inr (met, goes)) = inr (
            record { met = met.met; follows = λ more can far. met.follows more can (le_trans (le_of_same same) far) },
            goes_at (cursor (stop_from from gone.ps) kept) (edge_at e' z.window.of).seen goes,
          )
