-- A window that has told nothing yet may go on to a number.
use Rattle.std.proofs.Common.{◌≡◌, ◌⊎◌, inl, inr, ℕ, Bool, true, false, [], ◌++◌, refl, sym, subst, ap, ◌∙◌, arith, None, ℤ, pos}
use Rattle.std.specs.Prelude.{MatchBool, int_lt}
use Rattle.std.proofs.lemmas.Int.{ints}
use Rattle.rational.specs.Rational.{whole}
use Rattle.rational.specs.Time.{Rational, shifted, ◌≈◌, ◌≤ʳ◌}
use Rattle.rational.specs.Places.{Upto}
use Rattle.rational.proofs.Order.{ge_of_same, le_of_same, le_trans, lt_of_lt_of_le, same_trans}
use Rattle.rational.proofs.PlaceLemmas.{upto_same}
use Rattle.rational.proofs.Shift.{le_whole, lt_whole}
use Rattle.rational.proofs.Tests.{int_order}
use Rattle.rational.proofs.TimeLemmas.{same_shifted}
use Rattle.frac128.specs.Cuts.{place}
use Rattle.pieces.specs.declared.stream.Stream.{Stream}
use Rattle.pieces.specs.Chains.{stop}
use Rattle.pieces.specs.Streaming.{before_time}
use Rattle.value_laws.specs.declared.margin.Margin.{Margin}
use Rattle.stl_syntax.specs.Trace.{start, stop as last_of}
use Rattle.stl_syntax.specs.Formula.{subformula}
use Rattle.stl_syntax.specs.SupInf.{Robustness}
use Rattle.online_nodes.specs.StreamedWide.{front_at}
use Rattle.online_robust.specs.Held.{Held, edge_at, fresh_at, held_at}
use Rattle.online_robust.specs.Slides.{AreToCome, Course, HasBegun, IsOnWay, IsToldFor, back_offset, chain_of, input, last_place}
use Rattle.online_robust.specs.Steps.{AreInputs, Belongs, IsInput, Step, back_of, begin_of, reach_before, seen_by}
use Rattle.online_robust.specs.Told.{AreFit, AreTold, IsTick}
use Rattle.online_robust.specs.declared.operator.Operator.TheVariants as Op
use Rattle.online_robust.specs.declared.slide.Slide.{Slide}
use Rattle.online_robust.proofs.OperatorBodies.{input_within}
use Rattle.online_robust.proofs.NodeLooks.{front_by}
use Rattle.online_robust.proofs.Robustly.{robust_is_function}
use Rattle.online_robust.proofs.SlideAgain.{at_start}
use Rattle.online_robust.proofs.SlideAll.{IsAll, ready_all}
use Rattle.online_robust.proofs.SlideBodies.{course_of, edge_input, first_tick, front_last, here, small, to_last, to_tick, told_far}
use Rattle.online_robust.proofs.SlideWhole.{parts_none}

module _ (t : Step) (z : Slide) (e : Held) (to : ℕ) (b : Belongs t (Op.Slide z) e to) (w : Stream Margin) (before : t.before ≡ None)
    (nil : seen_by b.node e ≡ []) (begun : HasBegun z.window (begin_of t) w) (end : Rational) (same : end ≈ whole (pos to)) where
  abbrev F : ℤ
  F = front_at t.ended (pos t.now) (subformula t.nodes z.window.of)

  abbrev x : Course
  x = course_of t z e to b end (place w.met)

  none_seen : (edge_at e z.window.of).seen ≡ []
  none_seen = sym ((here t z e to b).seen e) ∙ nil

  all_fresh : held_at e z.window.of ≡ fresh_at e z.window.of
  all_fresh = ap (λ l. l ++ fresh_at e z.window.of) none_seen

  from_input : IsInput (Robustness (subformula t.nodes z.window.of) t.trace) (reach_before t) (begin_of t) None F (fresh_at e z.window.of)
  from_input = subst (λ l. IsInput (Robustness (subformula t.nodes z.window.of) t.trace) (reach_before t) (begin_of t) None F l) all_fresh
      (subst (λ o. IsInput (Robustness (subformula t.nodes z.window.of) t.trace) (reach_before t) (begin_of t)
      (back_of (begin_of t) o (back_offset z.window)) F (held_at e z.window.of)) before (edge_input t z e to b))

  -- all of its input is still to come
  come : AreToCome (Robustness (subformula t.nodes z.window.of) t.trace) (reach_before t) (start t.trace) (whole F) (place w.met) (fresh_at e z.window.of)
  come = by_begun (int_lt F (pos (begin_of t))) refl from_input
    where
      by_begun : (b : Bool) → int_lt F (pos (begin_of t)) ≡ b
          → MatchBool b (fresh_at e z.window.of ≡ [])
          (AreInputs (Robustness (subformula t.nodes z.window.of) t.trace) (reach_before t) (begin_of t) None F (fresh_at e z.window.of))
          → AreToCome (Robustness (subformula t.nodes z.window.of) t.trace) (reach_before t) (start t.trace) (whole F) (place w.met) (fresh_at e z.window.of)
      by_begun true e' none = record {
        told = subst (λ l. AreTold (Robustness (subformula t.nodes z.window.of) t.trace) l) (sym none) tt;
        fit = subst (λ l. AreFit (reach_before t) l) (sym none) tt;
        go_on = inr (none, lt_whole (int_order F (pos (begin_of t)) true e'), begun.met);
      }
      by_begun false e' inputs = record {
        told = inputs.told;
        fit = inputs.fit;
        go_on = inl (at_start (Robustness (subformula t.nodes z.window.of) t.trace) (reach_before t) (begin_of t) F (place w.met)
            (fresh_at e z.window.of) begun.met inputs);
      }

  started : start t.trace ≤ʳ end
  started = le_trans (le_whole {j = pos (begin_of t)} {k = pos to} (let h = b.from_start in omega (arith, ints, h))) (ge_of_same same)

  end_tick : IsTick end
  end_tick = (le_trans (to_tick t z e to b).0 (ge_of_same same), le_trans (le_of_same same) (to_tick t z e to b).1)

  told_for : IsToldFor x
  told_for = by_far (told_far t z e to b)
    where
      by_far : (shifted (whole (pos to)) z.window.high ≤ʳ whole F) ⊎ ((whole F ≈ last_of t.trace) × (whole (pos to) ≈ last_of t.trace)) → IsToldFor x
      by_far (inl far) = inl (le_trans (le_of_same (same_shifted z.window.high same)) far)
      by_far (inr (front, at)) = inr (front, same_trans same at)

  all : IsAll x w.way [] None (fresh_at e z.window.of)
  all = ready_all x w.way begun.way (small t z e to b) begun.met (first_tick t z e to b) (let s = b.small in omega (arith, s)) end_tick
      (front_last t z e to b) front_tick started told_for [] None (fresh_at e z.window.of)
      (parts_none (input x) (robust_is_function x.formula x.trace) x.reach x.from) tt come
    where
      front_tick : whole F ≤ʳ whole (pos 4294967295)
      front_tick = let h = front_by t (Op.Slide z) e to b z.window.of in let n = b.small_now in
          le_whole {j = F} {k = pos 4294967295} (omega (arith, ints, h, n))

  stop_is : stop w.sliding.out ≡ place w.met
  stop_is = ap (λ s. stop s) begun.out

  -- it may go on
  pub on_first : IsOnWay x w None e
  on_first = record {
    way = begun.way;
    within = input_within t (Op.Slide z) e to b z.window.of true (here t z e to b).reads;
    ps = [];
    part = parts_none (input x) (robust_is_function x.formula x.trace) x.reach x.from;
    met = record { met = refl; follows = λ more can far. begun.follows (chain_of (place w.met) more) can refl };
    kept_is = tt;
    come = come;
    read = ap (λ l. last_place (place w.met) l) none_seen;
    none = λ n. inl refl;
    told_for = told_for;
    behind = all.behind;
    is_whole = all.whole_is;
    ends = all.ends;
    told = λ u h. lt_of_lt_of_le (upto_same (place w.met) (before_time (start t.trace)) u begun.met (subst (λ c. Upto c u) stop_is h)) started;
    first = λ at u h. subst (λ c. Upto c u) stop_is h;
    started = started;
    last = le_trans (le_of_same same) (to_last t z e to b);
    small = small t z e to b;
  }
