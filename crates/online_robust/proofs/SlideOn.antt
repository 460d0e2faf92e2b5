-- A window that was told up to a number may go on to a later one.
use Rattle.std.proofs.Common.{◌≡◌, ◌⊎◌, inl, inr, ℕ, Bool, true, false, [], ◌∷◌, refl, sym, subst, ◌∙◌, arith, Option, Some, None, ℤ, pos, ◌+ℤ◌}
use Rattle.std.proofs.Common.{◌<ℤ◌, ◌≤ℤ◌}
use Rattle.std.specs.Prelude.{IfSome, cond, int_lt, neg_ℤ}
use Rattle.std.proofs.lemmas.Int.{ints}
use Rattle.rational.specs.Rational.{whole}
use Rattle.rational.specs.Time.{Rational, shifted, ◌≈◌, ◌≤ʳ◌, ◌<ʳ◌}
use Rattle.rational.specs.Places.{Place, AtMost, Same}
use Rattle.rational.proofs.Order.{ge_of_same, le_of_lt, le_of_same, le_trans, lt_irrefl, lt_of_le_of_lt, lt_of_lt_of_le, not_lt_of_le, same_refl}
use Rattle.rational.proofs.Order.{same_sym, same_trans}
use Rattle.rational.proofs.PlaceLemmas.{le_of_at_most, upto_same}
use Rattle.rational.proofs.Shift.{le_shift_by, le_whole, lt_shift, lt_whole}
use Rattle.rational.proofs.Tests.{int_order}
use Rattle.rational.proofs.TimeLemmas.{same_shifted, shifted-add}
use Rattle.frac128.specs.Cuts.{place}
use Rattle.value_laws.specs.declared.margin.Margin.{Margin}
use Rattle.pieces.specs.declared.piece.Piece.{Piece}
use Rattle.pieces.specs.declared.stream.Stream.{Stream}
use Rattle.pieces.specs.Chains.{stop as chain_stop, stop_from}
use Rattle.pieces.specs.Streaming.{before_time}
use Rattle.pieces.proofs.ChainLemmas.{to_stop}
use Rattle.pieces.proofs.Ends.{at_most_trans}
use Rattle.stl_syntax.specs.Trace.{start, stop}
use Rattle.stl_syntax.specs.Formula.{subformula}
use Rattle.stl_syntax.specs.SupInf.{Robustness}
use Rattle.online_nodes.specs.StreamedWide.{front_at}
use Rattle.online_robust.specs.Held.{Held, edge_at, fresh_at, held_at}
use Rattle.online_robust.specs.Slides.{ArePart, AreToCome, Course, GoesOn, HasMet, HasSlid, IsOnWay, IsToldFor, back_offset, cursor, high_at, input}
use Rattle.online_robust.specs.Told.{IsTick}
use Rattle.online_robust.specs.Steps.{Belongs, IsInput, Step, back_of, begin_of, reach_before, seen_by}
use Rattle.online_robust.specs.declared.operator.Operator.TheVariants as Op
use Rattle.online_robust.specs.declared.slide.Slide.{Slide}
use Rattle.online_robust.specs.declared.slide.Window.{Window}
use Rattle.online_robust.proofs.SlideAgain.{moved_whole}
use Rattle.online_robust.proofs.SlideBodies.{course_of, edge_input, first_tick, front_last, here, small, to_last, to_tick, told_far}
use Rattle.online_robust.proofs.SlideAll.{IsAll, ready_all}
use Rattle.online_robust.proofs.OperatorBodies.{input_within}
use Rattle.online_robust.proofs.NodeLooks.{front_by}
use Rattle.online_robust.proofs.SlideTurns.{come_again}

-- a later time moved by an offset is later
pub lt_moved : (t u : Rational) (k : ℤ) → t <ʳ u → shifted t k <ʳ shifted u k
lt_moved t u k h = lt_of_le_of_lt (le_of_same (shifted-add t k)) (lt_of_lt_of_le (lt_shift k h) (ge_of_same (shifted-add u k)))

-- a time moved by a lesser offset is no later
pub le_offsets : (t : Rational) (j k : ℤ) → j ≤ℤ k → shifted t j ≤ʳ shifted t k
le_offsets t j k h = le_trans (le_of_same (shifted-add t j)) (le_trans (le_shift_by {j = j} {k = k} t h) (ge_of_same (shifted-add t k)))

-- numbers are in order where their times are
pub whole_below : (j k : ℤ) → whole j <ʳ whole k → j <ℤ k
whole_below j k h = by_test (int_lt j k) refl
  where
    by_test : (b : Bool) → int_lt j k ≡ b → j <ℤ k
    by_test true e = int_order j k true e
    by_test false e = absurd (not_lt_of_le (le_whole (int_order j k false e)) h)

-- a window needs its input no more at the latest by its high end
pub back_most : (w : Window) → w.low ≤ℤ w.high → back_offset w ≤ℤ w.high
back_most w order = by_test (int_lt w.low (neg_ℤ (pos 4294967295)))
  where
    by_test : (b : Bool) → cond b w.high w.low ≤ℤ w.high
    by_test true = omega (arith, ints)
    by_test false = order

module _ (t : Step) (z : Slide) (e : Held) (to : ℕ) (b : Belongs t (Op.Slide z) e to) (w : Stream Margin) (g : ℤ) (before : t.before ≡ Some g)
    (has : HasSlid (subformula t.nodes z.window.of) t.trace (reach_before t) g z w (seen_by b.node e)) where
  abbrev F : ℤ
  F = front_at t.ended (pos t.now) (subformula t.nodes z.window.of)

  forth : (pos (begin_of t) ≤ℤ g) × (g <ℤ pos to)
  forth = subst (λ o. IfSome o (λ g. (pos (begin_of t) ≤ℤ g) × (g <ℤ pos to))) before b.forth

  abbrev c : Place
  c = cursor (stop_from has.from has.gone.ps) z.kept

  abbrev old : Course
  old = record {
    window = z.window;
    formula = subformula t.nodes z.window.of;
    trace = t.trace;
    reach = reach_before t;
    front = has.front;
    to = whole g;
    from = has.from;
  }

  seen_same : (edge_at has.edges z.window.of).seen ≡ (edge_at e z.window.of).seen
  seen_same = has.seen_is ∙ (here t z e to b).seen e

  -- it was not the end
  pub both : HasMet has.from (whole g) has.gone.ps w × GoesOn old c (edge_at has.edges z.window.of).seen
  both = by_end has.gone.goes_on
    where
      by_end : (whole g ≈ stop t.trace) ⊎ (HasMet has.from (whole g) has.gone.ps w × GoesOn old c (edge_at has.edges z.window.of).seen)
          → HasMet has.from (whole g) has.gone.ps w × GoesOn old c (edge_at has.edges z.window.of).seen
      by_end (inl at_end) = absurd (lt_irrefl (lt_of_lt_of_le (lt_whole forth.1) (le_trans (to_last t z e to b) (ge_of_same at_end))))
      by_end (inr on) = on

  pub goes : GoesOn old c (edge_at e z.window.of).seen
  goes = subst (λ l. GoesOn old c l) seen_same both.1

  -- the high end stood before where it stands now
  pub high_later : shifted (whole g) z.window.high <ʳ shifted (whole (pos to)) z.window.high
  high_later = lt_moved (whole g) (whole (pos to)) z.window.high (lt_whole forth.1)

  -- where the input goes on does not lie before the start
  from_by : AtMost has.from c
  from_by = by_kept z.kept has.gone.kept_is
    where
      met_by : AtMost has.from (stop_from has.from has.gone.ps)
      met_by = to_stop has.from has.gone.ps has.gone.part.rise

      by_kept : (k : Option (Piece Margin))
          → IfSome k (λ p. ((stop_from has.from has.gone.ps).at ≤ʳ high_at old) × ArePart (input old) old.reach (stop_from has.from has.gone.ps) (p ∷ []))
          → AtMost has.from (cursor (stop_from has.from has.gone.ps) k)
      by_kept None h = met_by
      by_kept (Some p) (le, part) = at_most_trans has.from (stop_from has.from has.gone.ps) (place p.until) met_by
          (to_stop (stop_from has.from has.gone.ps) (p ∷ []) part.rise)

  begun : whole (pos (begin_of t)) ≤ʳ c.at
  begun = le_trans (ge_of_same has.begins.0) (le_of_at_most has.from c from_by)

  -- what is to come of it
  pub come : AreToCome (Robustness (subformula t.nodes z.window.of) t.trace) (reach_before t) (start t.trace) (whole F) c (fresh_at e z.window.of)
  come = come_again (Robustness (subformula t.nodes z.window.of) t.trace) (reach_before t) (begin_of t) F g (back_offset z.window) c
      (edge_at e z.window.of).seen (fresh_at e z.window.of) none goes.read begun front_by
      (subst (λ o. IsInput (Robustness (subformula t.nodes z.window.of) t.trace) (reach_before t) (begin_of t)
      (back_of (begin_of t) o (back_offset z.window)) F (held_at e z.window.of)) before (edge_input t z e to b))
    where
      -- by the offset at which it needs its input no more
      back_is : shifted (whole g) (back_offset z.window) ≈ whole (g +ℤ back_offset z.window)
      back_is = moved_whole (whole g) g (back_offset z.window) (same_refl (whole g))

      none : (edge_at e z.window.of).seen ≡ []
          → (Same c (before_time (whole (pos (begin_of t)))) × ((g +ℤ back_offset z.window) <ℤ pos (begin_of t)))
          ⊎ ((c.after ≡ true) × (c.at ≈ whole (g +ℤ back_offset z.window)))
      none nil = by_case (goes.none nil)
        where
          by_case : ((c ≡ has.from) × (shifted (whole g) (back_offset z.window) <ʳ start t.trace))
              ⊎ ((c.after ≡ true) × (c.at ≈ shifted (whole g) (back_offset z.window)))
              → (Same c (before_time (whole (pos (begin_of t)))) × ((g +ℤ back_offset z.window) <ℤ pos (begin_of t)))
              ⊎ ((c.after ≡ true) × (c.at ≈ whole (g +ℤ back_offset z.window)))
          by_case (inl (is, early)) = inl (
            subst (λ d. Same d (before_time (whole (pos (begin_of t))))) (sym is) has.begins,
            whole_below (g +ℤ back_offset z.window) (pos (begin_of t)) (lt_of_le_of_lt (ge_of_same back_is) early),
          )
          by_case (inr (after, same)) = inr (after, same_trans same back_is)

      -- where its high end stood lies before the front
      by_far : (shifted (whole (pos to)) z.window.high ≤ʳ whole F) ⊎ ((whole F ≈ stop t.trace) × (whole (pos to) ≈ stop t.trace))
          → shifted (whole g) z.window.high ≤ʳ whole F
      by_far (inl far) = le_trans (le_of_lt high_later) far
      by_far (inr (front, at)) = le_trans goes.on (le_trans goes.by (ge_of_same front))

      front_by : whole (g +ℤ back_offset z.window) ≤ʳ whole F
      front_by = le_trans (ge_of_same back_is)
          (le_trans (le_offsets (whole g) (back_offset z.window) z.window.high (back_most z.window (here t z e to b).order)) (by_far (told_far t z e to b)))

  -- ---- the record on the way

  module _ (end : Rational) (same : end ≈ whole (pos to)) where
    abbrev x : Course
    x = course_of t z e to b end has.from

    high_is : shifted (whole (pos to)) z.window.high ≈ high_at x
    high_is = same_shifted z.window.high (same_sym same)

    old_high : high_at old <ʳ high_at x
    old_high = lt_of_lt_of_le high_later (le_of_same high_is)

    later : whole g ≤ʳ end
    later = le_trans (le_of_lt (lt_whole forth.1)) (ge_of_same same)

    kept_now : (k : Option (Piece Margin))
        → IfSome k (λ p. ((stop_from has.from has.gone.ps).at ≤ʳ high_at old) × ArePart (input old) old.reach (stop_from has.from has.gone.ps) (p ∷ []))
        → IfSome k (λ p. ((stop_from has.from has.gone.ps).at ≤ʳ high_at x) × ArePart (input x) x.reach (stop_from has.from has.gone.ps) (p ∷ []))
    kept_now None h = tt
    kept_now (Some p) (le, part) = (le_of_lt (lt_of_le_of_lt le old_high), part)

    kept_parts : (k : Option (Piece Margin))
        → IfSome k (λ p. ((stop_from has.from has.gone.ps).at ≤ʳ high_at old) × ArePart (input old) old.reach (stop_from has.from has.gone.ps) (p ∷ []))
        → IfSome k (λ p. ArePart (input x) x.reach (stop_from has.from has.gone.ps) (p ∷ []))
    kept_parts None h = tt
    kept_parts (Some p) (le, part) = part

    told_for : IsToldFor x
    told_for = by_far (told_far t z e to b)
      where
        by_far : (shifted (whole (pos to)) z.window.high ≤ʳ whole F) ⊎ ((whole F ≈ stop t.trace) × (whole (pos to) ≈ stop t.trace)) → IsToldFor x
        by_far (inl far) = inl (le_trans (ge_of_same high_is) far)
        by_far (inr (front, at)) = inr (front, same_trans same at)

    end_tick : IsTick end
    end_tick = (le_trans (to_tick t z e to b).0 (ge_of_same same), le_trans (le_of_same same) (to_tick t z e to b).1)

    all : IsAll x w.way has.gone.ps z.kept (fresh_at e z.window.of)
    all = ready_all x w.way has.way (small t z e to b) has.begins (first_tick t z e to b) (let s = b.small in omega (arith, s)) end_tick
        (front_last t z e to b) front_tick (le_trans (le_whole {j = pos (begin_of t)} {k = g} forth.0) later) told_for has.gone.ps z.kept
        (fresh_at e z.window.of) has.gone.part (kept_parts z.kept has.gone.kept_is) come
      where
        front_tick : whole F ≤ʳ whole (pos 4294967295)
        front_tick = let h = front_by t (Op.Slide z) e to b z.window.of in let n = b.small_now in
            le_whole {j = F} {k = pos 4294967295} (omega (arith, ints, h, n))

    -- it may go on
    pub on_again : IsOnWay x w z.kept e
    on_again = record {
      way = has.way;
      within = input_within t (Op.Slide z) e to b z.window.of true (here t z e to b).reads;
      ps = has.gone.ps;
      part = has.gone.part;
      met = record { met = both.0.met; follows = λ more can far. both.0.follows more can (le_trans later far) };
      kept_is = kept_now z.kept has.gone.kept_is;
      come = come;
      read = goes.read;
      none = λ nil. by_none (goes.none nil);
      told_for = told_for;
      behind = all.behind;
      is_whole = all.whole_is;
      ends = all.ends;
      told = λ u h. lt_of_lt_of_le (upto_same (stop_of w) (before_time (whole g)) u has.gone.told h) later;
      first = λ at_start. absurd (lt_irrefl (lt_of_le_of_lt (le_whole {j = pos (begin_of t)} {k = g} forth.0)
          (lt_of_lt_of_le (lt_whole forth.1) (le_trans (ge_of_same same) (le_of_same at_start)))));
      started = le_trans (le_whole {j = pos (begin_of t)} {k = g} forth.0) later;
      last = le_trans (le_of_same same) (to_last t z e to b);
      small = small t z e to b;
    }
      where
        stop_of : Stream Margin → Place
        stop_of v = chain_stop v.sliding.out

        by_none : ((c ≡ has.from) × (shifted (whole g) (back_offset z.window) <ʳ start t.trace))
            ⊎ ((c.after ≡ true) × (c.at ≈ shifted (whole g) (back_offset z.window))) → (c ≡ has.from) ⊎ (c.at <ʳ high_at x)
        by_none (inl (is, early)) = inl is
        by_none (inr (after, at)) = inr (lt_of_le_of_lt (le_of_same at)
            (lt_of_le_of_lt (le_offsets (whole g) (back_offset z.window) z.window.high (back_most z.window (here t z e to b).order)) old_high))
