-- The cells of a formula's atoms by another clock.
use Rattle.std.proofs.Common.{◌≡◌, ℕ, zero, suc, ◌*◌, ◌<◌, List, [], ◌∷◌, map, length, refl, sym, ap, ◌∙◌, subst, arith, inl, inr, ℤ, pos}
use Rattle.std.proofs.Common.{Option, Some, None}
use Rattle.std.specs.Prelude.{◌*ℤ◌, Contains, option_map}
use Rattle.std.proofs.Math.Nat.{mul-lt-mul_of_pos_left}
use Rattle.std.proofs.Math.ListN.{get_or-map}
use Rattle.std.proofs.lemmas.List.{length-map}
use Rattle.std.proofs.lemmas.Option.{slice_get-map}
use Rattle.rational.specs.Time.{Rational, ◌≈◌, ◌<ʳ◌, Within, Interval, closed, gap, shifted, add, whole}
use Rattle.rational.proofs.Order.{same_sym, same_trans, le_trans, le_of_same, ge_of_same, lt_of_lt_of_le}
use Rattle.rational.proofs.TimeLemmas.{same_shifted}
use Rattle.stl_syntax.specs.Trace.{Trace, start, stop}
use Rattle.stl_syntax.specs.Formula.{Subformula, subformula}
use Rattle.stl_syntax.specs.Truth.{Truth}
use Rattle.stl_syntax.specs.Cells.{IsNear, IsChange, IsChild, back, shifts, IsCut, root_start, first, last, change, moved}
use Rattle.stl_syntax.specs.Cells.{AreRisingTimes, AreAllCut, IsAmong, AreCuts, cells}
use Rattle.stl_syntax.specs.Scaling.{scaled_node}
use Rattle.stl_syntax.specs.declared.node.Node.{Node}
use Rattle.stl_syntax.specs.declared.node.Node.TheVariants.{Const, Until, Eventually, Always, Since, Once, Historically}
use Rattle.stl_syntax.proofs.ScalingLemmas.{scaled_at}
use Rattle.stl_syntax.proofs.TruthLemmas.{Truth-same}
use Rattle.bounds.proofs.NearTimes.{Move}
use Rattle.unit_laws.proofs.Multiples.{stretch, shrink, above-times, below-times}
use Rattle.unit_laws.proofs.Clocks.{clock, unclock, clock_lt, clock_same, same_of_clock, clock-unclock, unclock-clock, unclock_lt, unclock_same}
use Rattle.unit_laws.proofs.Recounts.{IsRecount}
use Rattle.unit_laws.proofs.FinerTrees.{finer_tree, minus_times, subformula_by}
use Rattle.unit_laws.proofs.ClockWindows.{AreEnds, inside_by, inside_back}
use Rattle.unit_laws.proofs.FinerTruth.{ends, truth_by}

-- ---- elements of a mapped list

contains_by : {X Y : Type 0} (f : X → Y) (xs : List X) (x : X) → Contains xs x → Contains (map f xs) (f x)
contains_by f xs x (k, l, e) = (k, (let n = length-map xs f in omega (arith, l, n)), get_or-map f xs k x ∙ ap f e)

contains_back : {X Y : Type 0} (f : X → Y) (xs : List X) (y : Y) → Contains (map f xs) y → (x : X) × Contains xs x × (y ≡ f x)
contains_back f [] y (k, l, e) = absurd (omega (arith, l))
contains_back f (x ∷ xs) y (zero, l, e) = (x, (zero, omega arith, refl), sym e)
contains_back f (x ∷ xs) y (suc k, l, e) =
    let (z, (j, m, h), g) = contains_back f xs y (k, omega (arith, l), e) in (z, (suc j, omega (arith, m), h), g)

-- ---- nodes in smaller ticks

child_by : (K M : ℕ) (n : Node) (i : ℕ) → IsChild n i → IsChild (scaled_node K M n) i
child_by K M (Const b) i h = h
child_by K M _ i h = h

child_back : (K M : ℕ) (n : Node) (i : ℕ) → IsChild (scaled_node K M n) i → IsChild n i
child_back K M (Const b) i h = h
child_back K M _ i h = h

zero_times : (K : ℕ) → pos K *ℤ pos 0 ≡ pos 0
zero_times K = ap pos (let e : K * 0 ≡ 0 = omega arith in e)

back_by : (K : ℕ) (b : Option ℕ) → back (option_map (λ b. K * b) b) ≡ map (λ z. pos K *ℤ z) (back b)
back_by K None = refl
back_by K (Some b) = rw (minus_times K b) refl

shifts_by : (K M : ℕ) (n : Node) → shifts (scaled_node K M n) ≡ map (λ z. pos K *ℤ z) (shifts n)
shifts_by K M (Until p q a b) = rw (zero_times K) refl
shifts_by K M (Eventually p a b a_in b_in) = refl
shifts_by K M (Always p a b a_in b_in) = refl
shifts_by K M (Since p q a b) = rw (zero_times K, minus_times K a, back_by K b) refl
shifts_by K M (Once p a b a_in b_in) = rw (minus_times K a, back_by K b) refl
shifts_by K M (Historically p a b a_in b_in) = rw (minus_times K a, back_by K b) refl
shifts_by K M _ = rw (zero_times K) refl

-- ---- near times

module _ (K : ℕ) (o : Move) (kp : 0 < K) where
  add_clock : (u e : Rational) → clock K o (add u (shrink K kp e)) ≈ add (clock K o u) e
  add_clock u e = record { same = omega arith }

  add_unclock : (u e : Rational) → unclock K o kp (add u (stretch K e)) ≈ add (unclock K o kp u) e
  add_unclock u e = record { same = omega arith }

  near_by : (e t u : Rational) → IsNear (shrink K kp e) t u → IsNear e (clock K o t) (clock K o u)
  near_by e t u n = record {
    above = lt_of_lt_of_le (clock_lt K o kp n.above) (le_of_same (add_clock u e));
    below = lt_of_lt_of_le (clock_lt K o kp n.below) (le_of_same (add_clock t e));
  }

  near_back : (e t u : Rational) → IsNear (stretch K e) t u → IsNear e (unclock K o kp t) (unclock K o kp u)
  near_back e t u n = record {
    above = lt_of_lt_of_le (unclock_lt K o kp n.above) (le_of_same (add_unclock u e));
    below = lt_of_lt_of_le (unclock_lt K o kp n.below) (le_of_same (add_unclock t e));
  }

  some_part : (e : Rational) → whole (pos 0) <ʳ e → whole (pos 0) <ʳ shrink K kp e
  some_part e h = record { lt = let l = h.lt in omega (arith, l) }

  some_multiple : (e : Rational) → whole (pos 0) <ʳ e → whole (pos 0) <ʳ stretch K e
  some_multiple e h = record { lt = let m = mul-lt-mul_of_pos_left h.lt kp in omega (arith, m) }

  shifted_clock : (u : Rational) (z : ℤ) → shifted (clock K o u) (pos K *ℤ z) ≈ clock K o (shifted u z)
  shifted_clock u z = record { same = rw (above-times K z, below-times K z) (omega arith) }

  -- the interval by the clock
  abbrev pub interval_by : Interval → Interval
  interval_by on = record { from = clock K o on.from; from_in = on.from_in; to = clock K o on.to; to_in = on.to_in }

  -- the cells between the times by the clock are those between the times, by the clock
  pub cells_by : (times : List Rational) → cells (map (clock K o) times) ≡ map interval_by (cells times)
  cells_by [] = refl
  cells_by (t ∷ []) = refl
  cells_by (t ∷ u ∷ times) =
      ap (λ on. closed (clock K o t) (clock K o t) ∷ gap (clock K o t) (clock K o u) ∷ on) (cells_by (u ∷ times))

  rising_by : (times : List Rational) → AreRisingTimes times → AreRisingTimes (map (clock K o) times)
  rising_by [] h = tt
  rising_by (t ∷ []) h = tt
  rising_by (t ∷ u ∷ times) h = (clock_lt K o kp h.0, rising_by (u ∷ times) h.1)

  among_by : (times : List Rational) (t : Rational) → IsAmong times (unclock K o kp t) → IsAmong (map (clock K o) times) t
  among_by [] t h = h
  among_by (u ∷ times) t (inl e) = inl (same_trans (same_sym (clock-unclock K o kp t)) (clock_same K o e))
  among_by (u ∷ times) t (inr h) = inr (among_by times t h)

  unrising_by : (times : List Rational) → AreRisingTimes times → AreRisingTimes (map (unclock K o kp) times)
  unrising_by [] h = tt
  unrising_by (t ∷ []) h = tt
  unrising_by (t ∷ u ∷ times) h = (unclock_lt K o kp h.0, unrising_by (u ∷ times) h.1)

  unamong_by : (times : List Rational) (t : Rational) → IsAmong times (clock K o t) → IsAmong (map (unclock K o kp) times) t
  unamong_by [] t h = h
  unamong_by (u ∷ times) t (inl e) = inl (same_trans (same_sym (unclock-clock K o kp t)) (unclock_same K o kp e))
  unamong_by (u ∷ times) t (inr h) = inr (unamong_by times t h)

module _ (K : ℕ) (o : Move) (M : ℕ) (kp : 0 < K) (mp : 0 < M) {tr ur : Trace} (c : IsRecount K o M tr ur) where
  the_ends : AreEnds K o (start tr) (stop tr) (start ur) (stop ur)
  the_ends = ends K o M kp mp c

  back_inside : (t : Rational) → Within (start ur) (stop ur) t → Within (start tr) (stop tr) (unclock K o kp t)
  back_inside t w =
      let e = clock-unclock K o kp t in
      inside_back K o kp the_ends (record { above = le_trans w.above (ge_of_same e); below = le_trans (le_of_same e) w.below })

  module _ (p : Subformula) where
    truth_back : (u : Rational) → Truth (finer_tree K M p) ur u → Truth p tr (unclock K o kp u)
    truth_back u h =
        (truth_by K o M kp mp c p (unclock K o kp u)).1 (Truth-same (finer_tree K M p) ur (same_sym (clock-unclock K o kp u)) h)

    truth_forth : (u : Rational) → Truth p tr (unclock K o kp u) → Truth (finer_tree K M p) ur u
    truth_forth u h = Truth-same (finer_tree K M p) ur (clock-unclock K o kp u) ((truth_by K o M kp mp c p (unclock K o kp u)).0 h)

    -- the truth changes where the clock shows a change
    change_by : (t : Rational) → IsChange p tr t → IsChange (finer_tree K M p) ur (clock K o t)
    change_by t h = record {
      inside = inside_by K o kp the_ends h.inside;
      differ = λ e some.
          let (u, v, near_u, near_v, in_u, in_v, holds, fails) = h.differ (shrink K kp e) (some_part K o kp e some) in (
            clock K o u,
            clock K o v,
            near_by K o kp e t u near_u,
            near_by K o kp e t v near_v,
            inside_by K o kp the_ends in_u,
            inside_by K o kp the_ends in_v,
            (truth_by K o M kp mp c p u).0 holds,
            λ k. fails ((truth_by K o M kp mp c p v).1 k),
          );
    }

    change_back : (t : Rational) → IsChange (finer_tree K M p) ur t → IsChange p tr (unclock K o kp t)
    change_back t h = record {
      inside = back_inside t h.inside;
      differ = λ e some.
          let (u, v, near_u, near_v, in_u, in_v, holds, fails) = h.differ (stretch K e) (some_multiple K o kp e some) in (
            unclock K o kp u,
            unclock K o kp v,
            near_back K o kp e t u near_u,
            near_back K o kp e t v near_v,
            back_inside u in_u,
            back_inside v in_v,
            truth_back u holds,
            λ k. fails (truth_forth v k),
          );
    }

  module _ (nodes : List Node) where
    abbrev fine_nodes : List Node
    fine_nodes = map (scaled_node K M) nodes

    many : length fine_nodes ≡ length nodes
    many = length-map nodes (scaled_node K M)

    -- a cut time is one by the clock
    pub cut_by : {i : ℕ} {t : Rational} → IsCut nodes tr i t → IsCut fine_nodes ur i (clock K o t)
    cut_by (root_start e s) = root_start (e ∙ sym many) (same_trans (clock_same K o s) (same_sym c.starts))
    cut_by (first l s) = first (omega (arith, l, many)) (same_trans (clock_same K o s) (same_sym c.starts))
    cut_by (last l s) = last (omega (arith, l, many)) (same_trans (clock_same K o s) (same_sym c.stops))
    cut_by {i = i} {t = t} (change l h) =
        change (omega (arith, l, many)) (subst (λ p. IsChange p ur (clock K o t)) (sym (subformula_by K M nodes i)) (change_by (subformula nodes i) t h))
    cut_by {i = i} (moved {j = j} {u = u} n k at child m cut s w) =
        moved (scaled_node K M n) (pos K *ℤ k) (slice_get-map (scaled_node K M) nodes j ∙ ap (option_map (scaled_node K M)) at) (child_by K M n i child)
        (subst (λ zs. Contains zs (pos K *ℤ k)) (sym (shifts_by K M n)) (contains_by (λ z. pos K *ℤ z) (shifts n) k m)) (cut_by cut)
        (same_trans (clock_same K o s) (same_sym (shifted_clock K o kp u k))) (inside_by K o kp the_ends w)

    at_start : (t : Rational) → t ≈ start ur → unclock K o kp t ≈ start tr
    at_start t s = same_of_clock K o kp (same_trans (clock-unclock K o kp t) (same_trans s c.starts))

    at_stop : (t : Rational) → t ≈ stop ur → unclock K o kp t ≈ stop tr
    at_stop t s = same_of_clock K o kp (same_trans (clock-unclock K o kp t) (same_trans s c.stops))

    -- and the other way round
    pub cut_back : {i : ℕ} {t : Rational} → IsCut fine_nodes ur i t → IsCut nodes tr i (unclock K o kp t)
    cut_back {t = t} (root_start e s) = root_start (e ∙ many) (at_start t s)
    cut_back {t = t} (first l s) = first (omega (arith, l, many)) (at_start t s)
    cut_back {t = t} (last l s) = last (omega (arith, l, many)) (at_stop t s)
    cut_back {i = i} {t = t} (change l h) =
        change (omega (arith, l, many)) (change_back (subformula nodes i) t (subst (λ p. IsChange p ur t) (subformula_by K M nodes i) h))
    cut_back {i = i} {t = t} (moved {j = j} {u = u} n k at child m cut s w) =
        let (old, found, is) = scaled_at K M nodes j n at in
        let (z, has, by) = contains_back (λ z. pos K *ℤ z) (shifts old) k
        (subst (λ zs. Contains zs k) (shifts_by K M old) (subst (λ x. Contains (shifts x) k) is m)) in
        moved old z found (child_back K M old i (subst (λ x. IsChild x i) is child)) has (cut_back cut) (at_shift u k z by s) (back_inside t w)
      where
        at_shift : (u : Rational) (k z : ℤ) → k ≡ pos K *ℤ z → t ≈ shifted u k → unclock K o kp t ≈ shifted (unclock K o kp u) z
        at_shift u k z by s =
            same_of_clock K o kp (same_trans (clock-unclock K o kp t) (same_trans (subst (λ y. t ≈ shifted u y) by s)
            (same_trans (same_shifted (pos K *ℤ z) (same_sym (clock-unclock K o kp u))) (shifted_clock K o kp (unclock K o kp u) z))))

    all_cut_by : (i : ℕ) (times : List Rational) → AreAllCut nodes tr i times → AreAllCut fine_nodes ur i (map (clock K o) times)
    all_cut_by i [] h = tt
    all_cut_by i (t ∷ times) h = (cut_by h.0, all_cut_by i times h.1)

    -- the cut times of a node are by the clock those of the node in smaller ticks
    pub cuts_by : (i : ℕ) (times : List Rational) → AreCuts nodes tr i times → AreCuts fine_nodes ur i (map (clock K o) times)
    cuts_by i times h = record {
      rising = rising_by K o kp times h.rising;
      sound = all_cut_by i times h.sound;
      complete = λ t cut. among_by K o kp times t (h.complete (unclock K o kp t) (cut_back cut));
    }

    all_cut_back : (i : ℕ) (times : List Rational) → AreAllCut fine_nodes ur i times → AreAllCut nodes tr i (map (unclock K o kp) times)
    all_cut_back i [] h = tt
    all_cut_back i (t ∷ times) h = (cut_back h.0, all_cut_back i times h.1)

    -- and the other way round
    pub cuts_back : (i : ℕ) (times : List Rational) → AreCuts fine_nodes ur i times → AreCuts nodes tr i (map (unclock K o kp) times)
    cuts_back i times h = record {
      rising = unrising_by K o kp times h.rising;
      sound = all_cut_back i times h.sound;
      complete = λ t cut. unamong_by K o kp times t (h.complete (clock K o t) (cut_by cut));
    }
