-- What a window's body leaves of a step that is due.
use Rattle.std.proofs.Common.{◌≡◌, ◌⊎◌, inl, inr, refl, sym, ap, subst, ◌∙◌, ℕ, ◌≤◌, ◌^◌, Bool, true}
use Rattle.std.proofs.Common.{false, not, Option, Some, None, ℤ, pos, neg_ℤ, ◌≤ℤ◌, ◌<ℤ◌, arith, lit<}
use Rattle.std.specs.Int.{w64}
use Rattle.std.specs.Prelude.{◌&&◌, int_lt, MatchBool}
use Rattle.std.proofs.lemmas.Int.{ints}
use Rattle.rational.specs.Rational.{FitsFloor, Rational, ◌≤ʳ◌, ◌<ʳ◌, ◌≈◌, add, whole}
use Rattle.rational.proofs.Field.{le_add}
use Rattle.rational.proofs.Mixed.{fits_of_within}
use Rattle.rational.proofs.Order.{le_trans, le_of_lt, not_lt_of_le, same_refl}
use Rattle.rational.proofs.Shift.{le_shift_by, le_whole, lt_shift_by}
use Rattle.stl_syntax.specs.Trace.{Trace}
use Rattle.stl_syntax.specs.Formula.{Subformula, historically, once, tree_of}
use Rattle.stl_syntax.specs.Truth.{Truth}
use Rattle.stl_syntax.specs.Limits.{own_reach}
use Rattle.stl_syntax.specs.WellFormed.{HasBounds}
use Rattle.stl_syntax.specs.declared.node.Node.{Node}
use Rattle.stl_syntax.specs.declared.node.Node.TheVariants.{Eventually}
use Rattle.stl_syntax.specs.declared.node.Node.TheVariants.{Always, Once, Historically}
use Rattle.rational.specs.Places.{After, Before, Place, Upto}
use Rattle.rational.proofs.Tests.{int_order}
use Rattle.online_nodes.specs.Looking.{place_at}
use Rattle.online_nodes.specs.Operators.{ahead, behind, kind_of}
use Rattle.online_nodes.specs.Truths.{Looks}
use Rattle.online_nodes.specs.Sweeps.{Counted, low_place, high_place}
use Rattle.online_nodes.specs.Answering.{is_empty}
use Rattle.online_nodes.specs.declared.kind.Kind.TheVariants.{Over}
use Rattle.online_nodes.specs.declared.window.Window.{Window}
use Rattle.online_nodes.proofs.AlikeLemmas.{IsLike, historically_like, like_itself, once_like}
use Rattle.online_nodes.proofs.LooksLaw.{always_looks, eventually_looks, historically_looks, once_looks}
use Rattle.online_nodes.proofs.ReaderLemmas.{twice_negated}

-- a move by a bound has a floor that fits
pub fits_moved : {t : Rational} (k : ℤ) → whole (pos 0) ≤ʳ t → t ≤ʳ whole (pos (2 ^ 32)) → neg_ℤ (pos (2 ^ 33)) ≤ℤ k → k ≤ℤ pos (2 ^ 33)
    → FitsFloor w64 (add t (whole k))
fits_moved {t} k from to low high = fits_of_within w64 (2 ^ 34) (lit< tt) (
  le_trans (record { le = omega arith }) (le_add from (le_whole {j = neg_ℤ (pos (2 ^ 33))} {k = k} low)),
  le_trans (le_add to (le_whole {j = k} {k = pos (2 ^ 33)} high)) (record { le = omega arith }),
)

-- a window's bounds, in order and near, and what its node looks for: or a node like it up to a place
pub record HasWindow (n p : Subformula) (tr : Trace) (w : Window) (to : Place) : Type 0 where
  -- the formula that the window tells
  pub like : Subformula
  -- it is the node's, up to the last row
  pub alike : IsLike like n tr to
  -- it looks as the window does
  pub looks : Looks w.seeks (Truth like tr) (Counted w.seeks p tr) (low_place w) (high_place w)
  -- the window's ends are in order
  pub order : w.begin_by ≤ℤ w.end_by
  -- it looks not too far ahead
  pub begin_low : neg_ℤ (pos (2 ^ 33)) ≤ℤ w.begin_by
  -- nor too far behind
  pub end_high : w.end_by ≤ℤ pos (2 ^ 33)

-- a window that is not empty has times
pub some_in_window : (w : Window) → w.begin_by ≤ℤ w.end_by → is_empty w ≡ false → (t : Rational) → Before (low_place w t) (high_place w t)
some_in_window w order full t = by_test (int_lt w.begin_by w.end_by) refl
  where
    both_in : (a b : Bool) → not (a && b) ≡ false → (a ≡ true) × (b ≡ true)
    both_in true true e = (refl, refl)
    both_in true false e = absurd (let x : true ≡ false = e in cc)
    both_in false b e = absurd (let x : true ≡ false = e in cc)

    by_test : (u : Bool) → int_lt w.begin_by w.end_by ≡ u → Before (low_place w t) (high_place w t)
    by_test true e = inl (let l : w.begin_by <ℤ w.end_by = int_order w.begin_by w.end_by true e in
        lt_shift_by t (neg_ℤ w.end_by) (neg_ℤ w.begin_by) (omega (arith, ints)))
    by_test false e =
        let l : w.end_by ≤ℤ w.begin_by = int_order w.begin_by w.end_by false e in
        let s : w.begin_by ≡ w.end_by = omega (arith, ints) in
        let i = both_in w.begin_in w.end_in (sym (ap (λ (u : Bool). not u && not (w.begin_in && w.end_in)) e) ∙ full) in
        inr (
          subst (λ (z : ℤ). add t (whole (neg_ℤ z)) ≈ add t (whole (neg_ℤ w.begin_by))) s (same_refl (add t (whole (neg_ℤ w.begin_by)))),
          ap not i.1,
          i.0,
        )

-- an empty window has no times
pub none_in_window : (w : Window) → w.begin_by ≤ℤ w.end_by → is_empty w ≡ true → (t u : Rational) → After (low_place w t) u
    → Upto (high_place w t) u → ⊥
none_in_window w order empty t u lo hi = by_test (int_lt w.begin_by w.end_by) refl
  where
    not_both_in : (a b : Bool) → not (a && b) ≡ true → (a ≡ false) ⊎ (b ≡ false)
    not_both_in true true e = absurd (let x : false ≡ true = e in cc)
    not_both_in true false e = inr refl
    not_both_in false b e = inl refl

    low : (b : Bool) → MatchBool (not b) (add t (whole (neg_ℤ w.end_by)) <ʳ u) (add t (whole (neg_ℤ w.end_by)) ≤ʳ u)
        → add t (whole (neg_ℤ w.end_by)) ≤ʳ u
    low true h = h
    low false h = le_of_lt h

    high : (b : Bool) → MatchBool b (u ≤ʳ add t (whole (neg_ℤ w.begin_by))) (u <ʳ add t (whole (neg_ℤ w.begin_by)))
        → u ≤ʳ add t (whole (neg_ℤ w.begin_by))
    high true h = h
    high false h = le_of_lt h

    by_test : (v : Bool) → int_lt w.begin_by w.end_by ≡ v → ⊥
    by_test true e = absurd (let x : false ≡ true = sym (ap (λ (v : Bool). not v && not (w.begin_in && w.end_in)) e) ∙ empty in cc)
    by_test false e =
        let l : w.end_by ≤ℤ w.begin_by = int_order w.begin_by w.end_by false e in
        let s : add t (whole (neg_ℤ w.begin_by)) ≤ʳ add t (whole (neg_ℤ w.end_by)) =
        (let m : neg_ℤ w.begin_by ≤ℤ neg_ℤ w.end_by = omega (arith, ints) in le_shift_by t m) in
        elim (not_both_in w.begin_in w.end_in (sym (ap (λ (v : Bool). not v && not (w.begin_in && w.end_in)) e) ∙ empty)) [
          | inl b ↦ not_lt_of_le (le_trans s (low w.end_in lo))
              (subst (λ (b : Bool). MatchBool b (u ≤ʳ add t (whole (neg_ℤ w.begin_by))) (u <ʳ add t (whole (neg_ℤ w.begin_by)))) b hi)
          | inr b ↦ not_lt_of_le (le_trans (high w.begin_in hi) s)
              (subst (λ (b : Bool). MatchBool (not b) (add t (whole (neg_ℤ w.end_by)) <ʳ u) (add t (whole (neg_ℤ w.end_by)) ≤ʳ u)) b lo)
        ]

module _ (at : ℕ → Subformula) (i : ℕ) (tr : Trace) (to : Place) where
  ahead_has : (n : Subformula) (p a b : ℕ) (a_in b_in seeks : Bool) → a ≤ b → b ≤ 4294967295
      → Looks seeks (Truth n tr) (Counted seeks (at p) tr) (place_at (pos a) (not a_in)) (place_at (pos b) b_in)
      → HasWindow n (at p) tr (ahead p a b a_in b_in seeks) to
  ahead_has n p a b a_in b_in seeks h small looks = record {
    like = n;
    alike = like_itself n tr to;
    looks = subst (λ (z : ℤ). Looks seeks (Truth n tr) (Counted seeks (at p) tr) (place_at z (not a_in)) (place_at (neg_ℤ (neg_ℤ (pos b))) b_in))
        (sym (twice_negated a))
        (subst (λ (z : ℤ). Looks seeks (Truth n tr) (Counted seeks (at p) tr) (place_at (pos a) (not a_in)) (place_at z b_in)) (sym (twice_negated b)) looks);
    order = omega (arith, ints);
    begin_low = omega (arith, ints);
    end_high = omega (arith, ints);
  }

  behind_has : (m n : Subformula) (p a b : ℕ) (a_in b_in seeks : Bool) → IsLike m n tr to → a ≤ b → b ≤ 8589934592
      → Looks seeks (Truth m tr) (Counted seeks (at p) tr) (place_at (neg_ℤ (pos b)) (not b_in)) (place_at (neg_ℤ (pos a)) a_in)
      → HasWindow n (at p) tr (behind p a (Some b) a_in b_in seeks) to
  behind_has m n p a b a_in b_in seeks same h small looks = record {
    like = m;
    alike = same;
    looks = looks;
    order = omega (arith, ints);
    begin_low = omega (arith, ints);
    end_high = omega (arith, ints);
  }

  same_window : (n : Subformula) (v w : Window) → Over v ≡ Over w → HasWindow n (at v.of) tr v to → HasWindow n (at w.of) tr w to
  same_window n v w e h = let s : v ≡ w = cc in subst (λ (u : Window). HasWindow n (at u.of) tr u to) s h

  -- a window behind; with no bound it is one with a bound beyond every trace
  module _ (now : ℕ) (small : now ≤ 4294967295) (early : (t : Rational) → Upto to t → t ≤ʳ whole (pos now)) where
    once_has : (p a : ℕ) (b : Option ℕ) (a_in b_in : Bool) → HasBounds (Once p a b a_in b_in) → own_reach (Once p a b a_in b_in) ≤ 4294967295
        → HasWindow (tree_of at i (Once p a b a_in b_in)) (at p) tr (behind p a b a_in b_in true) to
    once_has p a (Some b) a_in b_in h r =
        behind_has (tree_of at i (Once p a (Some b) a_in b_in)) (tree_of at i (Once p a (Some b) a_in b_in)) p a b a_in b_in true
        (like_itself (tree_of at i (Once p a (Some b) a_in b_in)) tr to) h.0 (omega (arith, r)) (once_looks (at p) tr a a_in b_in (Some b))
    once_has p a None a_in b_in h r =
        behind_has (once a (Some 8589934592) a_in b_in (at p)) (tree_of at i (Once p a None a_in b_in)) p a 8589934592 a_in b_in true
        (once_like tr now small to early a a_in b_in (at p)) (omega (arith, r)) (omega arith) (once_looks (at p) tr a a_in b_in (Some 8589934592))

    historically_has : (p a : ℕ) (b : Option ℕ) (a_in b_in : Bool) → HasBounds (Historically p a b a_in b_in)
        → own_reach (Historically p a b a_in b_in) ≤ 4294967295
        → HasWindow (tree_of at i (Historically p a b a_in b_in)) (at p) tr (behind p a b a_in b_in false) to
    historically_has p a (Some b) a_in b_in h r =
        behind_has (tree_of at i (Historically p a (Some b) a_in b_in)) (tree_of at i (Historically p a (Some b) a_in b_in)) p a b a_in b_in false
        (like_itself (tree_of at i (Historically p a (Some b) a_in b_in)) tr to) h.0 (omega (arith, r))
        (historically_looks (at p) tr a a_in b_in (Some b))
    historically_has p a None a_in b_in h r =
        behind_has (historically a (Some 8589934592) a_in b_in (at p)) (tree_of at i (Historically p a None a_in b_in)) p a 8589934592 a_in b_in false
        (historically_like tr now small to early a a_in b_in (at p)) (omega (arith, r)) (omega arith)
        (historically_looks (at p) tr a a_in b_in (Some 8589934592))

    -- a node over a window has such a window
    pub window_node : (n : Node) (w : Window) → kind_of n ≡ Over w → HasBounds n → own_reach n ≤ 4294967295
        → HasWindow (tree_of at i n) (at w.of) tr w to
    window_node (Eventually p a b a_in b_in) w e h r =
        same_window (tree_of at i (Eventually p a b a_in b_in)) (ahead p a b a_in b_in true) w e
        (ahead_has (tree_of at i (Eventually p a b a_in b_in)) p a b a_in b_in true h r (eventually_looks (at p) tr a a_in b_in b))
    window_node (Always p a b a_in b_in) w e h r =
        same_window (tree_of at i (Always p a b a_in b_in)) (ahead p a b a_in b_in false) w e
        (ahead_has (tree_of at i (Always p a b a_in b_in)) p a b a_in b_in false h r (always_looks (at p) tr a a_in b_in b))
    window_node (Once p a b a_in b_in) w e h r =
        same_window (tree_of at i (Once p a b a_in b_in)) (behind p a b a_in b_in true) w e (once_has p a b a_in b_in h r)
    window_node (Historically p a b a_in b_in) w e h r =
        same_window (tree_of at i (Historically p a b a_in b_in)) (behind p a b a_in b_in false) w e (historically_has p a b a_in b_in h r)
    window_node n w e h r = absurd (let x : kind_of n ≡ Over w = e in cc)
