-- What a node means, by its view.
use Rattle.std.proofs.Common.{◌≡◌, ℕ, pos, neg_ℤ, Bool, true, false, ◌⊎◌, inl, inr, Option, None, Some, ◌++◌, refl}
use Rattle.std.specs.Prelude.{◌↔◌, option_to_list}
use Rattle.rational.specs.Time.{Rational, Within, Precedes, later, add, whole, ◌≤ʳ◌}
use Rattle.rational.specs.Windows.{Ahead, Behind}
use Rattle.rational.proofs.Order.{le_trans, le_of_same, ge_of_same, lt_of_lt_of_le, lt_of_le_of_lt}
use Rattle.rational.proofs.Shift.{le_shift, le_shift_cancel, shift_forth, lt_ahead, lt_ahead_back, lt_behind, lt_behind_back}
use Rattle.rational.proofs.TimeLemmas.{later-add, later_from, precedes_after, precedes_before}
use Rattle.stl_syntax.specs.Formula.{Subformula, tree_of}
use Rattle.stl_syntax.specs.PostOrder.{children}
use Rattle.stl_syntax.specs.Trace.{Trace, start, stop}
use Rattle.stl_syntax.specs.Truth.{Truth}
use Rattle.stl_syntax.specs.Views.{Counts, IsOfAtom, TruthBy, ahead, behind, first_of, second_of, view_of}
use Rattle.stl_syntax.specs.declared.node.Node.{Node}
use Rattle.stl_syntax.specs.declared.node.Node.TheVariants.{Const, Atom as Leaf, Not, And, Or, Implies, Until, Eventually, Always, Since, Once, Historically}
use Rattle.stl_syntax.specs.declared.operator.Offsets.{Offsets}

-- a node's children are its first and its second operand
pub children_by : (n : Node) → option_to_list (first_of (view_of n)) ++ option_to_list (second_of (view_of n)) ≡ children n
children_by (Const b) = refl
children_by _ = refl

-- a time moved back is before another exactly where it is before the other moved on
begins_back : (i : Bool) (k : ℕ) (t u : Rational) → Precedes i (add t (whole (neg_ℤ (pos k)))) u ↔ Precedes i t (later u k)
begins_back true k t u = (
  λ h. le_trans (ge_of_same (shift_forth t (pos k))) (le_trans (le_shift (pos k) h) (ge_of_same (later-add u k))),
  λ h. le_shift_cancel (pos k) (le_trans (le_of_same (shift_forth t (pos k))) (le_trans h (le_of_same (later-add u k)))),
)
begins_back false k t u = (
  λ h. lt_of_lt_of_le (lt_ahead t u (pos k) h) (ge_of_same (later-add u k)),
  λ h. lt_ahead_back t u (pos k) (lt_of_lt_of_le h (le_of_same (later-add u k))),
)

ends_back : (i : Bool) (k : ℕ) (t u : Rational) → Precedes i u (add t (whole (neg_ℤ (pos k)))) ↔ Precedes i (later u k) t
ends_back true k t u = (
  λ h. le_trans (le_of_same (later-add u k)) (le_trans (le_shift (pos k) h) (le_of_same (shift_forth t (pos k)))),
  λ h. le_shift_cancel (pos k) (le_trans (ge_of_same (later-add u k)) (le_trans h (ge_of_same (shift_forth t (pos k))))),
)
ends_back false k t u = (
  λ h. lt_of_le_of_lt (le_of_same (later-add u k)) (lt_behind_back u t (pos k) h),
  λ h. lt_behind u t (pos k) (lt_of_le_of_lt (ge_of_same (later-add u k)) h),
)

-- what holds up to a later time holds between the two, whichever is first
lasts : (P : Rational → Type 0) (t u : Rational) → t ≤ʳ u → ((v : Rational) → Within t u v → P v) → (v : Rational) → Within t u v ⊎ Within u t v → P v
lasts P t u order h v (inl k) = h v k
lasts P t u order h v (inr k) = h v (record { above = le_trans order k.above; below = le_trans k.below order })

module _ (tr : Trace) where
  -- what a window ahead and one behind see, by their offsets
  sees_ahead : (a b : ℕ) (a_in b_in : Bool) (t u : Rational) → Counts tr (ahead a b a_in b_in) t u ↔ Ahead (start tr) (stop tr) a b a_in b_in t u
  sees_ahead a b a_in b_in t u = (
    λ h. record {
      inside = h.0;
      begins = precedes_after a_in (later t a) (add t (whole (pos a))) u (le_of_same (later-add t a)) h.1.begins;
      ends = precedes_before b_in u (add t (whole (pos b))) (later t b) h.1.ends (ge_of_same (later-add t b));
    },
    λ h. (
      h.inside,
      record {
        begins = precedes_after a_in (add t (whole (pos a))) (later t a) u (ge_of_same (later-add t a)) h.begins;
        ends = precedes_before b_in u (later t b) (add t (whole (pos b))) h.ends (le_of_same (later-add t b));
      },
    ),
  )

  sees_behind : (a : ℕ) (b : Option ℕ) (a_in b_in : Bool) (t u : Rational)
      → Counts tr (behind a b a_in b_in) t u ↔ Behind (start tr) (stop tr) a b a_in b_in t u
  sees_behind a None a_in b_in t u = (
    λ h. record { inside = h.0; begins = tt; ends = (ends_back a_in a t u).0 h.1.ends },
    λ h. (h.inside, record { begins = tt; ends = (ends_back a_in a t u).1 h.ends }),
  )
  sees_behind a (Some b) a_in b_in t u = (
    λ h. record { inside = h.0; begins = (begins_back b_in b t u).0 h.1.begins; ends = (ends_back a_in a t u).0 h.1.ends },
    λ h. (h.inside, record { begins = (begins_back b_in b t u).1 h.begins; ends = (ends_back a_in a t u).1 h.ends }),
  )

  -- some time, and each time, of two windows that see the same
  module _ (w : Offsets) (Here : Rational → Rational → Type 0) (sees : (t u : Rational) → Counts tr w t u ↔ Here t u) (P : Rational → Type 0) where
    any_by : (t : Rational) → ((u : Rational) × Here t u × P u) ↔ ((u : Rational) × Counts tr w t u × P u)
    any_by t = (λ h. (h.0, (sees t h.0).1 h.1, h.2), λ h. (h.0, (sees t h.0).0 h.1, h.2))

    each_by : (t : Rational) → ((u : Rational) → Here t u → P u) ↔ ((u : Rational) → Counts tr w t u → P u)
    each_by t = (λ h u x. h u ((sees t u).0 x), λ h u x. h u ((sees t u).1 x))

  -- the truth of a node that is no atom, by its view
  pub truth_by : (at : ℕ → Subformula) (i : ℕ) (n : Node) (t : Rational) → (IsOfAtom (view_of n) → ⊥)
      → Truth (tree_of at i n) tr t ↔ TruthBy (λ k u. Truth (at k) tr u) tr (view_of n) t
  truth_by at i (Const b) t inner = (λ h. h, λ h. h)
  truth_by at i (Leaf a) t inner = absurd (inner tt)
  truth_by at i (Not p) t inner = (λ h. h, λ h. h)
  truth_by at i (And p q) t inner = (λ h. h, λ h. h)
  truth_by at i (Or p q) t inner = (λ h. h, λ h. h)
  truth_by at i (Implies p q) t inner = (λ h. h, λ h. h)
  truth_by at i (Eventually p a b a_in b_in) t inner = any_by (ahead a b a_in b_in) _ (sees_ahead a b a_in b_in) (λ u. Truth (at p) tr u) t
  truth_by at i (Always p a b a_in b_in) t inner = each_by (ahead a b a_in b_in) _ (sees_ahead a b a_in b_in) (λ u. Truth (at p) tr u) t
  truth_by at i (Once p a b a_in b_in) t inner = any_by (behind a b a_in b_in) _ (sees_behind a b a_in b_in) (λ u. Truth (at p) tr u) t
  truth_by at i (Historically p a b a_in b_in) t inner = each_by (behind a b a_in b_in) _ (sees_behind a b a_in b_in) (λ u. Truth (at p) tr u) t
  truth_by at i (Until p q a b) t inner = (
    λ h. (h.0, (sees_ahead a b true true t h.0).1 h.1, h.2, lasts (λ v. Truth (at p) tr v) t h.0 (le_trans (later_from t a) h.1.begins) h.3),
    λ h. (h.0, (sees_ahead a b true true t h.0).0 h.1, h.2, λ v k. h.3 v (inl k)),
  )
  truth_by at i (Since p q a b) t inner = (
    λ h. (
      h.0,
      (sees_behind a b true true t h.0).1 h.1,
      h.2,
      λ v k. lasts (λ v. Truth (at p) tr v) h.0 t (le_trans (later_from h.0 a) h.1.ends) h.3 v (elim k [ inl x ↦ inr x | inr x ↦ inl x ]),
    ),
    λ h. (h.0, (sees_behind a b true true t h.0).0 h.1, h.2, λ v k. h.3 v (inr k)),
  )
