-- The cut times of a node: the times of the knots of its signal, and the cut times that its parent hands down.
use Rattle.std.proofs.Common.{◌≡◌, ℕ, zero, suc, ◌+◌, ◌<◌, ◌≤◌, ◌⊎◌, inl, inr, List, [], ◌∷◌, length, map, Some, None, refl, sym, subst, arith, get_or}
use Rattle.value_laws.specs.Kinds.{truth_shape}
use Rattle.std.specs.Prelude.{slice_get}
use Rattle.std.proofs.lemmas.Option.{slice_get_within, slice_get_cases, slice_get-get_or}
use Rattle.rational.specs.Time.{Rational, ◌≈◌}
use Rattle.rational.proofs.Order.{same_refl, same_sym, same_trans, le_trans, le_of_same, ge_of_same, lt_of_le_of_lt, lt_of_lt_of_le}
use Rattle.rational.proofs.Field.{same_add}
use Rattle.rational.proofs.TimeLemmas.{same_shifted}
use Rattle.pl_signal.specs.declared.knot.Knot.{Knot}
use Rattle.pl_signal.specs.Knots as knots
use Rattle.pl_signal.specs.Knots.{time}
use Rattle.pl_signal.specs.Moves.{Tells}
use Rattle.pl_signal.proofs.Values.{stop_at}
use Rattle.value_laws.specs.declared.truth.Truth.{Truth}
use Rattle.stl_syntax.specs.Trace.{Trace, start, stop}
use Rattle.stl_syntax.specs.Formula.{subformula}
use Rattle.stl_syntax.specs.PostOrder.{IsPostOrder}
use Rattle.stl_syntax.specs.SupInf.{SupInf, HasValues, truth_setting}
use Rattle.stl_syntax.specs.Cells.{IsCut, IsChild, IsNear, AreCuts, AreAllCut, AreRisingTimes, IsAmong, root_start, first, last, change, moved}
use Rattle.stl_syntax.specs.declared.node.Node.{Node}
use Rattle.stl_syntax.proofs.PostOrderLemmas.{placed, child_below}
use Rattle.implicants.specs.Cuts.{times_of, Adds, IsHandedDown}
use Rattle.implicants.proofs.Changes.{knot_is_change, change_is_knot}

-- each of the listed times is, by another pair at most, a cut time of the node
pub among_cut : (nodes : List Node) (tr : Trace) (i : ℕ) (times : List Rational) (t : Rational) → AreAllCut nodes tr i times → IsAmong times t
    → (u : Rational) × (t ≈ u) × IsCut nodes tr i u
among_cut nodes tr i [] t c m = absurd m
among_cut nodes tr i (u ∷ times) t c (inl m) = (u, m, c.0)
among_cut nodes tr i (u ∷ times) t c (inr m) = among_cut nodes tr i times t c.1 m

-- a cut time is one by whichever pair it is written
pub cut_same : (nodes : List Node) (tr : Trace) (i : ℕ) (t u : Rational) → t ≈ u → IsCut nodes tr i u → IsCut nodes tr i t
cut_same nodes tr i t u e (root_start n f) = root_start n (same_trans e f)
cut_same nodes tr i t u e (first n f) = first n (same_trans e f)
cut_same nodes tr i t u e (last n f) = last n (same_trans e f)
cut_same nodes tr i t u e (change n c) = change n (record {
  inside = record { above = le_trans c.inside.above (ge_of_same e); below = le_trans (le_of_same e) c.inside.below };
  differ = λ d h. let k = c.differ d h in (k.0, k.1, near_same k.0 d k.2, near_same k.1 d k.3, k.4, k.5, k.6, k.7);
})
  where
    near_same : (v d : Rational) → IsNear d u v → IsNear d t v
    near_same v d n = record { above = lt_of_le_of_lt (le_of_same e) n.above; below = lt_of_lt_of_le n.below (ge_of_same (same_add e (same_refl d))) }
cut_same nodes tr i t u e (moved n k at child shift cut f w) =
    moved n k at child shift cut (same_trans e f) (record { above = le_trans w.above (ge_of_same e); below = le_trans (le_of_same e) w.below })

all_cut : (nodes : List Node) (tr : Trace) (i : ℕ) (times : List Rational) → ((t : Rational) → IsAmong times t → IsCut nodes tr i t)
    → AreAllCut nodes tr i times
all_cut nodes tr i [] f = tt
all_cut nodes tr i (t ∷ times) f = (f t (inl (same_refl t)), all_cut nodes tr i times (λ u m. f u (inr m)))

-- what is among the times of knots is the time of one
among_knots : (x : List (Knot Truth)) (t : Rational) → IsAmong (times_of (map (λ k. k.time) x)) t
    → (m : ℕ) × (k : Knot Truth) × (slice_get x m ≡ Some k) × (t ≈ time k)
among_knots [] t m = absurd m
among_knots (k ∷ x) t (inl e) = (0, k, refl, e)
among_knots (k ∷ x) t (inr m) = let r = among_knots x t m in (suc r.0, r.1, r.2, r.3)

knot_among : (x : List (Knot Truth)) (t : Rational) (m : ℕ) (k : Knot Truth) → slice_get x m ≡ Some k → t ≈ time k → IsAmong (times_of (map (λ k. k.time) x)) t
knot_among [] t zero k at e = absurd cc
knot_among [] t (suc m) k at e = absurd cc
knot_among (l ∷ x) t zero k at e = let same : l ≡ k = cc in inl (subst (λ n. t ≈ time n) (sym same) e)
knot_among (l ∷ x) t (suc m) k at e = inr (knot_among x t m k at e)

module _ (nodes : List Node) (tr : Trace) (i : ℕ) (x : List (Knot Truth)) (below : suc i < length nodes)
    (values : HasValues (subformula nodes i) (truth_setting tr))
    (tells : Tells truth_shape (SupInf (subformula nodes i) (truth_setting tr)) (start tr) (stop tr) x) where
  -- the time of each knot is a cut time
  pub knot_is_cut : (m : ℕ) (k : Knot Truth) → slice_get x m ≡ Some k → IsCut nodes tr i (time k)
  knot_is_cut zero k at = first below (same_trans (start_is x k at) tells.begins)
    where
      start_is : (ks : List (Knot Truth)) (k : Knot Truth) → slice_get ks 0 ≡ Some k → time k ≈ knots.start ks
      start_is [] k h = absurd cc
      start_is (l ∷ ks) k h = let same : l ≡ k = cc in subst (λ n. time n ≈ time l) same (same_refl (time l))
  knot_is_cut (suc m) k at = by_next (slice_get_cases x (suc (suc m))).1
    where
      before : Knot Truth
      before = get_or x m k

      at_before : slice_get x m ≡ Some (get_or x m k)
      at_before = slice_get-get_or x m k (let l = slice_get_within x (suc m) k at in omega (arith, l))

      by_next : ((n : Knot Truth) × (suc (suc m) < length x) × (slice_get x (suc (suc m)) ≡ Some n) × (get_or x (suc (suc m)) n ≡ n)) ⊎
          ((length x ≤ suc (suc m)) × (slice_get x (suc (suc m)) ≡ None)) → IsCut nodes tr i (time k)
      by_next (inl (n, l, next, e)) =
          change below (knot_is_change (subformula nodes i) tr x values tells m (get_or x m k) k n at_before
          (subst (λ p. slice_get x p ≡ Some k) (let e : suc m ≡ m + 1 = omega arith in e) at)
          (subst (λ p. slice_get x p ≡ Some n) (let e : suc (suc m) ≡ m + 1 + 1 = omega arith in e) next))
      by_next (inr (l, e)) =
          last below (subst (λ s. s ≈ stop tr) (stop_at truth_shape x (suc m) k at
          (subst (λ p. slice_get x p ≡ None) (let e : suc (suc m) ≡ suc m + 1 = omega arith in e) e)) tells.ends)

  -- the times of the knots and those that are handed down are the cut times
  pub cuts_of : (cuts : ℕ → List Rational) (made times : List Rational) → IsPostOrder nodes → ((j : ℕ) → i < j → j < length nodes → AreCuts nodes tr j (cuts j))
      → Adds (IsHandedDown nodes (start tr) (stop tr) cuts i) (times_of (map (λ k. k.time) x)) made
      → AreRisingTimes times → ((t : Rational) → IsAmong made t → IsAmong times t) → ((t : Rational) → IsAmong times t → IsAmong made t)
      → AreCuts nodes tr i times
  cuts_of cuts made times post above adds rising here only = record {
    rising = rising;
    sound = all_cut nodes tr i times (λ t m. by_source t (adds.only t (only t m)));
    complete = complete;
  }
    where
      parent : (j : ℕ) (n : Node) → slice_get nodes j ≡ Some n → IsChild n i → AreCuts nodes tr j (cuts j)
      parent j n at child = above j (child_below j i n (placed nodes j n post at) child) (slice_get_within nodes j n at)

      by_source : (t : Rational) → IsAmong (times_of (map (λ k. k.time) x)) t ⊎ IsHandedDown nodes (start tr) (stop tr) cuts i t → IsCut nodes tr i t
      by_source t (inl m) = let k = among_knots x t m in cut_same nodes tr i t (time k.1) k.3 (knot_is_cut k.0 k.1 k.2)
      by_source t (inr h) =
          let k = h.moved.0 in
          let m = h.moved.2 in
          let c = among_cut nodes tr h.j (cuts h.j) m.u (parent h.j h.n h.at h.child).sound m.cut in
          moved h.n k h.at h.child h.moved.1 c.2 (same_trans m.is (same_shifted k c.1)) m.inside

      of_knot : (t : Rational) (m : ℕ) (k : Knot Truth) → slice_get x m ≡ Some k → t ≈ time k → IsAmong times t
      of_knot t m k at e = here t (adds.stay t (knot_among x t m k at e))

      first_knot : (ks : List (Knot Truth)) → 0 < length ks → (m : ℕ) × (k : Knot Truth) × (slice_get ks m ≡ Some k) × (knots.start ks ≈ time k)
      first_knot [] l = absurd (omega arith)
      first_knot (k ∷ ks) l = (0, k, refl, same_refl (time k))

      last_knot : (ks : List (Knot Truth)) → 0 < length ks → (m : ℕ) × (k : Knot Truth) × (slice_get ks m ≡ Some k) × (knots.stop ks ≈ time k)
      last_knot [] l = absurd (omega arith)
      last_knot (k ∷ []) l = (0, k, refl, same_refl (time k))
      last_knot (k ∷ n ∷ ks) l = let r = last_knot (n ∷ ks) (omega arith) in (suc r.0, r.1, r.2, r.3)

      complete : (t : Rational) → IsCut nodes tr i t → IsAmong times t
      complete t (root_start n e) = absurd (omega (arith, n, below))
      complete t (first n e) = let k = first_knot x tells.signal.some in of_knot t k.0 k.1 k.2 (same_trans e (same_trans (same_sym tells.begins) k.3))
      complete t (last n e) = let k = last_knot x tells.signal.some in of_knot t k.0 k.1 k.2 (same_trans e (same_trans (same_sym tells.ends) k.3))
      complete t (change n e) = let k = change_is_knot (subformula nodes i) tr x values tells t e in of_knot t k.0 k.1 k.2 k.3
      complete t (moved {j} {u} n k at child shift cut e w) =
          here t (adds.put t (record {
            j = j;
            n = n;
            at = at;
            child = child;
            moved =
                (k, shift, record { u = u; cut = (parent j n at child).complete u cut; is = e; inside = w });
          }))

-- the root is cut at the start alone
pub root_cuts : (nodes : List Node) (tr : Trace) (i : ℕ) (t : Rational) → IsPostOrder nodes → suc i ≡ length nodes → t ≈ start tr → AreCuts nodes tr i (t ∷ [])
root_cuts nodes tr i t post root e = record { rising = tt; sound = (root_start root e, tt); complete = complete }
  where
    complete : (u : Rational) → IsCut nodes tr i u → IsAmong (t ∷ []) u
    complete u (root_start n f) = inl (same_trans f (same_sym e))
    complete u (first n f) = absurd (omega (arith, n, root))
    complete u (last n f) = absurd (omega (arith, n, root))
    complete u (change n f) = absurd (omega (arith, n, root))
    complete u (moved {j} n k at child shift cut f w) =
        let less = child_below j i n (placed nodes j n post at) child in
        let within = slice_get_within nodes j n at in
        absurd (omega (arith, less, within, root))

-- so it has no other cut time
pub root_cut_start : (nodes : List Node) (tr : Trace) (i : ℕ) (t : Rational) → IsPostOrder nodes → suc i ≡ length nodes → IsCut nodes tr i t → t ≈ start tr
root_cut_start nodes tr i t post root cut = elim ((root_cuts nodes tr i (start tr) post root (same_refl (start tr))).complete t cut) [
  | inl e ↦ e
  | inr m ↦ absurd m
]
