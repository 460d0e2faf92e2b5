-- What the operators tell of sets that tell formulas.
use Rattle.std.proofs.Common.{◌≡◌, ℕ, Bool, true, false, not, ◌⊎◌, inl, inr, List, refl, sym, subst}
use Rattle.std.specs.Prelude.{◌↔◌, IfSome, IsTrue, Result, Ok, Err, IfOk}
use Rattle.std.proofs.lemmas.Bool.{true≢false}
use Rattle.rational.specs.Time.{Rational, Within}
use Rattle.rational.proofs.Order.{le_trans}
use Rattle.rational.proofs.PlaceLemmas.{after_same, upto_same, same_places}
use Rattle.time_sets.specs.Turns.{place}
use Rattle.time_sets.specs.Sets.{has}
use Rattle.time_sets.specs.Windows.{IsOf, Lies, Sees, Reaches}
use Rattle.time_sets.specs.declared.domain.Domain.{Domain}
use Rattle.time_sets.specs.declared.times.Times.{Times}
use Rattle.time_sets.specs.declared.window.Window.{Window}
use Rattle.stl_syntax.specs.Formula.{subformula, tree_of}
use Rattle.stl_syntax.specs.Trace.{Trace, start, stop}
use Rattle.stl_syntax.specs.Truth.{Truth}
use Rattle.stl_syntax.specs.Views.{Counts, IsOfAtom, Joined, Sees as SeesBy, first_of, second_of, view_of}
use Rattle.stl_syntax.specs.declared.node.Node.{Node}
use Rattle.stl_syntax.specs.declared.operator.Asks.{Asks}
use Rattle.stl_syntax.specs.declared.operator.Asks.TheVariants.{Any, Each}
use Rattle.stl_syntax.specs.declared.operator.Join.{Join}
use Rattle.stl_syntax.specs.declared.operator.Join.TheVariants.{And, Or, Implies}
use Rattle.stl_syntax.specs.declared.operator.Way.{Way}
use Rattle.stl_syntax.specs.declared.operator.Offsets.{Offsets}
use Rattle.stl_syntax.specs.declared.operator.View.{View}
use Rattle.stl_syntax.specs.declared.operator.View.TheVariants as V
use Rattle.stl_syntax.proofs.ViewLaw.{truth_by}
use Rattle.truth_sets.specs.Telling.{IsOver, TellsTruth}
use Rattle.truth_sets.specs.Nodes.{SeesAsked, TellsBy, joins}

-- a truth that is no other one
same_true : {A : Type 0} (a b : Bool) → a ≡ b → (IsTrue b ↔ A) → IsTrue a ↔ A
same_true {A} a b e f = subst (λ c. IsTrue c ↔ A) (sym e) f

not_true : (a : Bool) (A : Type 0) → (IsTrue a ↔ A) → IsTrue (not a) ↔ (¬ A)
not_true true A f = (λ h. absurd (true≢false (sym h)), λ n. absurd (n (f.0 refl)))
not_true false A f = (λ h x. true≢false (sym (f.1 x)), λ n. refl)

joined_true : (join : Join) (a b : Bool) (A B : Type 0) → (IsTrue a ↔ A) → (IsTrue b ↔ B) → IsTrue (joins join a b) ↔ Joined join A B
joined_true And true true A B f g = (λ h. (f.0 refl, g.0 refl), λ h. refl)
joined_true And true false A B f g = (λ h. absurd (true≢false (sym h)), λ h. g.1 h.1)
joined_true And false b A B f g = (λ h. absurd (true≢false (sym h)), λ h. f.1 h.0)
joined_true Or true b A B f g = (λ h. inl (f.0 refl), λ h. refl)
joined_true Or false true A B f g = (λ h. inr (g.0 refl), λ h. refl)
joined_true Or false false A B f g = (λ h. absurd (true≢false (sym h)), λ h. elim h [ inl x ↦ f.1 x | inr x ↦ g.1 x ])
joined_true Implies true true A B f g = (λ h x. g.0 refl, λ h. refl)
joined_true Implies true false A B f g = (λ h. absurd (true≢false (sym h)), λ h. g.1 (h (f.0 refl)))
joined_true Implies false b A B f g = (λ h x. absurd (true≢false (sym (f.1 x))), λ h. refl)

module _ (on : Domain) (tr : Trace) (over : IsOver on tr) where
  -- the times of the domain are those of the trace
  within_of : (t : Rational) → Lies on t → Within (start tr) (stop tr) t
  within_of t l = record {
    above = after_same (place on.from) (record { at = start tr; after = false }) t over.begins l.0;
    below = upto_same (place on.to) (record { at = stop tr; after = true }) t over.ends l.1;
  }

  lies_of : (t : Rational) → Within (start tr) (stop tr) t → Lies on t
  lies_of t w = (
    after_same (record { at = start tr; after = false }) (place on.from) t (same_places over.begins) w.above,
    upto_same (record { at = stop tr; after = true }) (place on.to) t (same_places over.ends) w.below,
  )

  -- what lies between two times of the domain lies in it
  between_lies : (t u v : Rational) → Lies on t → Lies on u → Within t u v ⊎ Within u t v → Lies on v
  between_lies t u v l m (inl k) = lies_of v (record { above = le_trans (within_of t l).above k.above; below = le_trans k.below (within_of u m).below })
  between_lies t u v l m (inr k) = lies_of v (record { above = le_trans (within_of u m).above k.above; below = le_trans k.below (within_of t l).below })

module _ (on : Domain) (p q r : Times) (o : IsOf on r) where
  -- a constant, a negation and a connective
  pub constant_tells : (b : Bool) → ((t : Rational) → has r t ≡ b) → TellsBy on (V.Const b) p q r
  constant_tells b h = λ tr at over told. (o, λ t l. same_true (has r t) b (h t) (λ x. x, λ x. x))

  pub negation_tells : (i : ℕ) → ((t : Rational) → has r t ≡ not (has p t)) → TellsBy on (V.Not i) p q r
  negation_tells i h = λ tr at over told. (o, λ t l. same_true (has r t) (not (has p t)) (h t) (not_true (has p t) (Truth (at i) tr t) (told.first.times t l)))

  pub joined_tells : (join : Join) (i k : ℕ) → ((t : Rational) → has r t ≡ joins join (has p t) (has q t)) → TellsBy on (V.Two join i k) p q r
  joined_tells join i k h = λ tr at over told. (
    o,
    λ t l. same_true (has r t) (joins join (has p t) (has q t)) (h t)
        (joined_true join (has p t) (has q t) (Truth (at i) tr t) (Truth (at k) tr t) (told.first.times t l) (told.second.times t l)),
  )

  module _ (w : Offsets) (x : Window) (same : (t u : Rational) → Sees x t u ↔ SeesBy w t u) where
    -- a window sees what its offsets say
    seen_is : (tr : Trace) → IsOver on tr → (t u : Rational) → (Lies on u × Sees x t u) ↔ Counts tr w t u
    seen_is tr over t u = (λ h. (within_of on tr over u h.0, (same t u).0 h.1), λ h. (lies_of on tr over u h.0, (same t u).1 h.1))

    -- some time of a window, and each
    pub over_tells : (asks : Asks) (i : ℕ) → ((t : Rational) → Lies on t → IsTrue (has r t) ↔ SeesAsked asks on x p t) → TellsBy on (V.Over asks w i) p q r
    over_tells Any i seen = λ tr at over told. (
      o,
      λ t l. (
        λ h. let y = (seen t l).0 h in (y.0, (seen_is tr over t y.0).0 (y.1, y.2), (told.first.times y.0 y.1).0 y.3),
        λ y. let m = (seen_is tr over t y.0).1 y.1 in (seen t l).1 (y.0, m.0, m.1, (told.first.times y.0 m.0).1 y.2),
      ),
    )
    over_tells Each i seen = λ tr at over told. (
      o,
      λ t l. (
        λ h u y. let m = (seen_is tr over t u).1 y in (told.first.times u m.0).0 ((seen t l).0 h u m.0 m.1),
        λ h. (seen t l).1 (λ u m s. (told.first.times u m).1 (h u ((seen_is tr over t u).0 (m, s)))),
      ),
    )

    -- some time of a window, up to which the times of the other operand last
    pub reach_tells : (way : Way) (i k : ℕ) → ((t : Rational) → Lies on t → IsTrue (has r t) ↔ Reaches on x p q t) → TellsBy on (V.Reach way w i k) p q r
    reach_tells way i k seen = λ tr at over told. (
      o,
      λ t l. (
        λ h. let y = (seen t l).0 h in (
          y.0,
          (seen_is tr over t y.0).0 (y.1, y.2),
          (told.second.times y.0 y.1).0 y.3,
          λ v m. (told.first.times v (between_lies on tr over t y.0 v l y.1 m)).0 (y.4 v m),
        ),
        λ y. let s = (seen_is tr over t y.0).1 y.1 in (seen t l).1 (
          y.0,
          s.0,
          s.1,
          (told.second.times y.0 s.0).1 y.2,
          λ v m. (told.first.times v (between_lies on tr over t y.0 v l s.0 m)).1 (y.3 v m),
        ),
      ),
    )

-- so does the node's set, by its view
pub told_by : (on : Domain) (tr : Trace) (nodes : List Node) (i : ℕ) (n : Node) (v : View) (p q r : Times) → v ≡ view_of n → IsOver on tr
    → subformula nodes i ≡ tree_of (subformula nodes) i n → (IsOfAtom v → ⊥) → IfSome (first_of (view_of n)) (λ j. TellsTruth on tr (subformula nodes j) p)
    → IfSome (second_of (view_of n)) (λ j. TellsTruth on tr (subformula nodes j) q) → TellsBy on v p q r → TellsTruth on tr (subformula nodes i) r
told_by on tr nodes i n v p q r e over here inner first second told =
    let other : IsOfAtom (view_of n) → ⊥ = subst (λ w. IsOfAtom w → ⊥) e inner in
    let made = subst (λ w. TellsBy on w p q r) e told tr (subformula nodes) over (record { inner = other; first = first; second = second }) in
    subst (λ f. TellsTruth on tr f r) (sym here) (record {
      of = made.0;
      times = λ t l. let by = truth_by tr (subformula nodes) i n t other in (λ x. by.1 ((made.1 t l).0 x), λ x. (made.1 t l).1 (by.0 x));
    })

-- what follows of a good answer from two clauses
pub if_two : {A E : Type 0} (r : Result A E) {P Q R : A → Type 0} → ((a : A) → P a → Q a → R a) → IfOk r P → IfOk r Q → IfOk r R
if_two (Ok a) f h k = f a h k
if_two (Err e) f h k = tt
