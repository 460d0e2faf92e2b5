-- The four windows look through their places, and the connectives join: each by the definition of truth.
use Rattle.std.proofs.Common.{inl, inr, Bool, true, false, not, ℕ, pos, neg_ℤ, Option, Some, None}
use Rattle.std.specs.Prelude.{IfSome}
use Rattle.rational.specs.Rational.{Rational, ◌≤ʳ◌, ◌<ʳ◌, add, whole}
use Rattle.rational.specs.Time.{Within, Precedes, later}
use Rattle.rational.specs.Windows.{Ahead, Behind}
use Rattle.rational.proofs.Order.{le_trans, le_of_same, ge_of_same, lt_of_le_of_lt, lt_of_lt_of_le, le_or_lt, not_lt_of_le}
use Rattle.rational.proofs.TimeLemmas.{later-add, later_from}
use Rattle.stl_syntax.specs.Trace.{Trace, start, stop}
use Rattle.stl_syntax.specs.Formula.{Subformula, negation, conjunction, disjunction, implication, eventually, always, once}
use Rattle.stl_syntax.specs.Formula.{historically, until, since}
use Rattle.stl_syntax.specs.Truth.{Truth}
use Rattle.rational.specs.Places.{After, Upto}
use Rattle.rational.proofs.Shift.{lt_ahead, lt_ahead_back, lt_behind_back, lt_behind}
use Rattle.online_nodes.specs.Truths.{Looks, IsUntilOf, IsSinceOf}
use Rattle.online_nodes.specs.Sweeps.{Counted}
use Rattle.online_nodes.specs.Joins.{IsJoinOf}
use Rattle.online_nodes.specs.Negations.{IsNotOf}
use Rattle.online_nodes.specs.Looking.{place_at, past_begin}
use Rattle.stl_syntax.specs.declared.operator.Join.TheVariants.{And, Or, Implies}

-- a window's ends by places, and by the definition: ahead
module _ (k : ℕ) (t u : Rational) where
  begin_in : (i : Bool) → After (place_at (pos k) (not i) t) u → Precedes i (later t k) u
  begin_in true h = le_trans (le_of_same (later-add t k)) h
  begin_in false h = lt_of_le_of_lt (le_of_same (later-add t k)) h

  in_begin : (i : Bool) → Precedes i (later t k) u → After (place_at (pos k) (not i) t) u
  in_begin true h = le_trans (ge_of_same (later-add t k)) h
  in_begin false h = lt_of_le_of_lt (ge_of_same (later-add t k)) h

  end_in : (i : Bool) → Upto (place_at (pos k) i t) u → Precedes i u (later t k)
  end_in true h = le_trans h (ge_of_same (later-add t k))
  end_in false h = lt_of_lt_of_le h (ge_of_same (later-add t k))

  in_end : (i : Bool) → Precedes i u (later t k) → Upto (place_at (pos k) i t) u
  in_end true h = le_trans h (le_of_same (later-add t k))
  in_end false h = lt_of_lt_of_le h (le_of_same (later-add t k))

-- and behind: what is so of u moved on by k, is so of t moved back by k
module _ (k : ℕ) (t u : Rational) where
  back_le : t ≤ʳ later u k → add t (whole (neg_ℤ (pos k))) ≤ʳ u
  back_le h = elim (le_or_lt (add t (whole (neg_ℤ (pos k)))) u) [
    | inl le ↦ le
    | inr lt ↦ absurd (not_lt_of_le (le_trans h (le_of_same (later-add u k))) (lt_behind_back u t (pos k) lt))
  ]

  forth_le : add t (whole (neg_ℤ (pos k))) ≤ʳ u → t ≤ʳ later u k
  forth_le h = elim (le_or_lt t (later u k)) [
    | inl le ↦ le
    | inr lt ↦ absurd (not_lt_of_le h (lt_behind u t (pos k) (lt_of_le_of_lt (ge_of_same (later-add u k)) lt)))
  ]

  back_lt : t <ʳ later u k → add t (whole (neg_ℤ (pos k))) <ʳ u
  back_lt h = lt_ahead_back t u (pos k) (lt_of_lt_of_le h (le_of_same (later-add u k)))

  forth_lt : add t (whole (neg_ℤ (pos k))) <ʳ u → t <ʳ later u k
  forth_lt h = lt_of_lt_of_le (lt_ahead t u (pos k) h) (ge_of_same (later-add u k))

  over_le : later u k ≤ʳ t → u ≤ʳ add t (whole (neg_ℤ (pos k)))
  over_le h = elim (le_or_lt u (add t (whole (neg_ℤ (pos k))))) [
    | inl le ↦ le
    | inr lt ↦ absurd (not_lt_of_le h (forth_lt lt))
  ]

  under_le : u ≤ʳ add t (whole (neg_ℤ (pos k))) → later u k ≤ʳ t
  under_le h = elim (le_or_lt (later u k) t) [
    | inl le ↦ le
    | inr lt ↦ absurd (not_lt_of_le h (back_lt lt))
  ]

  over_lt : later u k <ʳ t → u <ʳ add t (whole (neg_ℤ (pos k)))
  over_lt h = lt_behind u t (pos k) (lt_of_le_of_lt (ge_of_same (later-add u k)) h)

  under_lt : u <ʳ add t (whole (neg_ℤ (pos k))) → later u k <ʳ t
  under_lt h = lt_of_le_of_lt (le_of_same (later-add u k)) (lt_behind_back u t (pos k) h)

  back_begin : (i : Bool) → After (place_at (neg_ℤ (pos k)) (not i) t) u → Precedes i t (later u k)
  back_begin true h = forth_le h
  back_begin false h = forth_lt h

  begin_back : (i : Bool) → Precedes i t (later u k) → After (place_at (neg_ℤ (pos k)) (not i) t) u
  begin_back true h = back_le h
  begin_back false h = back_lt h

  back_end : (i : Bool) → Upto (place_at (neg_ℤ (pos k)) i t) u → Precedes i (later u k) t
  back_end true h = under_le h
  back_end false h = under_lt h

  end_back : (i : Bool) → Precedes i (later u k) t → Upto (place_at (neg_ℤ (pos k)) i t) u
  end_back true h = over_le h
  end_back false h = over_lt h

module _ (p : Subformula) (tr : Trace) (a : ℕ) (a_in b_in : Bool) where
  module _ (b : ℕ) where
    ahead : (t u : Rational) → After (place_at (pos a) (not a_in) t) u → Upto (place_at (pos b) b_in t) u → Within (start tr) (stop tr) u
        → Ahead (start tr) (stop tr) a b a_in b_in t u
    ahead t u lo hi within = record { inside = within; begins = begin_in a t u a_in lo; ends = end_in b t u b_in hi }

    -- `eventually` looks for a true time between two places
    pub eventually_looks : Looks true (Truth (eventually a b a_in b_in p) tr) (Counted true p tr) (place_at (pos a) (not a_in))
        (place_at (pos b) b_in)
    eventually_looks =
        record {
          found = λ t u lo hi c. (u, ahead t u lo hi c.0, c.1);
          spared = λ t none e. none e.0 (in_begin a t e.0 a_in e.1.begins) (in_end b t e.0 b_in e.1.ends) (e.1.inside, e.2);
        }

    -- `always` looks for a false time between two places
    pub always_looks : Looks false (Truth (always a b a_in b_in p) tr) (Counted false p tr) (place_at (pos a) (not a_in)) (place_at (pos b) b_in)
    always_looks =
        record {
          found = λ t u lo hi c all. c (λ within. all u (ahead t u lo hi within));
          spared = λ t each u w. each u (in_begin a t u a_in w.begins) (in_end b t u b_in w.ends) w.inside;
        }

  module _ (b : Option ℕ) where
    from_begin : (o : Option ℕ) (t u : Rational) → Within (start tr) (stop tr) u → After (past_begin (start tr) o b_in t) u
        → IfSome o (λ b. Precedes b_in t (later u b))
    from_begin None t u within lo = tt
    from_begin (Some b) t u within lo = back_begin b t u b_in lo

    to_begin : (o : Option ℕ) (t u : Rational) → Within (start tr) (stop tr) u → IfSome o (λ b. Precedes b_in t (later u b))
        → After (past_begin (start tr) o b_in t) u
    to_begin None t u within h = within.above
    to_begin (Some b) t u within h = begin_back b t u b_in h

    behind : (t u : Rational) → After (past_begin (start tr) b b_in t) u → Upto (place_at (neg_ℤ (pos a)) a_in t) u → Within (start tr) (stop tr) u
        → Behind (start tr) (stop tr) a b a_in b_in t u
    behind t u lo hi within = record { inside = within; begins = from_begin b t u within lo; ends = back_end a t u a_in hi }

    -- `once` looks back for a true time
    pub once_looks : Looks true (Truth (once a b a_in b_in p) tr) (Counted true p tr) (past_begin (start tr) b b_in) (place_at (neg_ℤ (pos a)) a_in)
    once_looks =
        record {
          found = λ t u lo hi c. (u, behind t u lo hi c.0, c.1);
          spared = λ t none e. none e.0 (to_begin b t e.0 e.1.inside e.1.begins) (end_back a t e.0 a_in e.1.ends) (e.1.inside, e.2);
        }

    -- `historically` looks back for a false time
    pub historically_looks :
        Looks false (Truth (historically a b a_in b_in p) tr) (Counted false p tr) (past_begin (start tr) b b_in) (place_at (neg_ℤ (pos a)) a_in)
    historically_looks =
        record {
          found = λ t u lo hi c all. c (λ within. all u (behind t u lo hi within));
          spared = λ t each u w. each u (to_begin b t u w.inside w.begins) (end_back a t u a_in w.ends) w.inside;
        }

module _ (p q : Subformula) (tr : Trace) (a : ℕ) where
  -- `until` looks for a true right side, while the left one holds
  pub until_looks : (b : ℕ)
      → IsUntilOf (Truth (until a b p q) tr) (Truth p tr) (Counted true q tr) (place_at (pos a) false) (place_at (pos b) true)
  until_looks b =
      record {
        holds = λ t u lo hi c all. (u, ahead q tr a true true b t u lo hi c.0, c.1, (λ v within. all v within.above within.below));
        means = λ t n. (
          n.0,
          in_begin a t n.0 true n.1.begins,
          in_end b t n.0 true n.1.ends,
          (n.1.inside, n.2),
          (λ v above below. n.3 v (record { above = above; below = below })),
        );
        ahead = λ t u lo. le_trans (later_from t a) (begin_in a t u true lo);
      }

  -- `since` looks back for a true right side, while the left one holds
  pub since_looks : (b : Option ℕ)
      → IsSinceOf (Truth (since a b p q) tr) (Truth p tr) (Counted true q tr) (past_begin (start tr) b true) (place_at (neg_ℤ (pos a)) true)
  since_looks b =
      record {
        holds = λ t u lo hi c all. (u, behind q tr a true true b t u lo hi c.0, c.1, (λ v within. all v within.above within.below));
        means = λ t n. (
          n.0,
          to_begin q tr a true true b b t n.0 n.1.inside n.1.begins,
          end_back a t n.0 true n.1.ends,
          (n.1.inside, n.2),
          (λ v above below. n.3 v (record { above = above; below = below })),
        );
        behind = λ t u hi. le_trans (later_from u a) (back_end a t u true hi);
      }

module _ (p q : Subformula) (tr : Trace) where
  -- `and` is true where both are
  pub and_joins : IsJoinOf And (conjunction p q) p q tr
  and_joins t true true x y = (x, y)
  and_joins t true false x y = λ both. y both.1
  and_joins t false true x y = λ both. x both.0
  and_joins t false false x y = λ both. x both.0

  -- `or` is true where one side is
  pub or_joins : IsJoinOf Or (disjunction p q) p q tr
  or_joins t true true x y = inl x
  or_joins t true false x y = inl x
  or_joins t false true x y = inr y
  or_joins t false false x y = λ one. elim one [ inl h ↦ x h | inr h ↦ y h ]

  -- `implies` is true where the left side is false or the right one true
  pub implies_joins : IsJoinOf Implies (implication p q) p q tr
  implies_joins t true true x y = λ h. y
  implies_joins t true false x y = λ h. y (h x)
  implies_joins t false true x y = λ h. y
  implies_joins t false false x y = λ h. absurd (x h)

-- `not` is true where the other is false
pub not_denies : (p : Subformula) (tr : Trace) → IsNotOf (negation p) p tr
not_denies p tr t true x = λ n. n x
not_denies p tr t false x = x
