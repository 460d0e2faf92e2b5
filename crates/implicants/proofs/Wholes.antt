-- Chains over the whole trace.
use Rattle.std.proofs.Common.{◌≡◌, ℕ, zero, suc, ◌<◌, ◌≤◌, ◌^◌, ◌⊎◌, inl, inr, Bool, true, false, pos, List, [], ◌∷◌, ◌++◌}
use Rattle.std.proofs.Common.{length, set, Some, refl, sym, ap, subst, arith, rules}
use Rattle.std.specs.Prelude.{slice_get}
use Rattle.std.proofs.lemmas.Option.{same_Some}
use Rattle.rational.specs.Time.{whole, ◌≈◌}
use Rattle.rational.specs.Places.{Same}
use Rattle.rational.proofs.Mixed.{tick_within}
use Rattle.rational.proofs.Order.{same_sym, same_trans}
use Rattle.rational.proofs.PlaceLemmas.{same_trans_places}
use Rattle.value_laws.specs.Kinds.{kleene_shape}
use Rattle.value_laws.specs.declared.kleene.Kleene.{Kleene}
use Rattle.pl_signal.specs.declared.joining.Side.TheVariants.{Least, Greatest}
use Rattle.pl_signal.specs.Joining.{ChosenOf}
use Rattle.pieces.specs.Chains.{Chain, IsNormal, IsWorth, Tells, stop}
use Rattle.pieces.specs.Knots.{after, before}
use Rattle.stl_syntax.specs.Trace.{Trace, first_time, last_time}
use Rattle.offline_eval.specs.Forms.{of_pieces}
use Rattle.offline_eval.specs.Inputs.{IsInput}
use Rattle.offline_eval.specs.Making.{AreSound, IsSound, MayMeet}
use Rattle.implicants.specs.Nearby.{IsBestChain}
use Rattle.implicants.specs.Upward.{AreWhole, IsBestOf, IsWhole}
use Rattle.implicants.specs.declared.nearby.View.{View}
use Rattle.implicants.specs.declared.runs.Run.{Run}
use Rattle.implicants.proofs.Uncertain.{worth_bounded}
use Rattle.implicants.proofs.BestAtoms.{high_least, low_greatest}
use Rattle.implicants.proofs.AddedRuns.{pushed_at}

-- an element of a list in which one was put is that one, or was there before
pub set_there : {A : Type 0} (xs : List A) (k : ℕ) (x : A) (j : ℕ) (y : A) → slice_get (set xs k x) j ≡ Some y
    → ((y ≡ x) × (j ≡ k)) ⊎ (slice_get xs j ≡ Some y)
set_there (z ∷ xs) zero x zero y h = inl (sym (same_Some _ _ h), refl)
set_there (z ∷ xs) (suc k) x (suc j) y h = elim (set_there xs k x j y h) [ inl e ↦ inl (e.0, ap suc e.1) | inr m ↦ inr m ]
set_there _ _ x _ y h = inr h

-- which is at its place
pub set_here : {A : Type 0} (xs : List A) (k : ℕ) (x y : A) → k < length xs → slice_get (set xs k x) k ≡ Some y → y ≡ x
set_here [] k x y l h = absurd (omega (arith, l))
set_here (z ∷ xs) zero x y l h = sym (same_Some _ _ h)
set_here (z ∷ xs) (suc k) x y l h = set_here xs k x y (omega (arith, l)) h

-- a three-valued chain from just before a tick up to just after one may be worked on
pub input_over : (m n : ℕ) (x : Chain Kleene) → m < 2 ^ 32 → n < 2 ^ 32 → Same x.from (before (whole (pos m))) → Same (stop x) (after (whole (pos n)))
    → IsInput (of_pieces kleene_shape) m n x
input_over m n x h k begins ends = record {
  begins = begins.0;
  ends = ends.0;
  bases = λ p h. (record { le = tt }, search rules);
  limited = record {
    limited = record { begins = tick_within m h begins.0; ends = tick_within n k ends.0; values = worth_bounded x.from x.pieces };
    first = begins.1;
    last = ends.1;
  };
}

-- two chains over the whole trace go over one domain
pub whole_meet : (tr : Trace) (x y : Chain Kleene) → IsWhole kleene_shape tr x → IsWhole kleene_shape tr y → MayMeet (of_pieces kleene_shape) x y
whole_meet tr x y a b = record {
  left = a.input.limited;
  right = b.input.limited;
  begins = same_trans a.input.begins (same_sym b.input.begins);
  ends = same_trans a.input.ends (same_sym b.input.ends);
}

-- the best of two is one
pub whole_both : (tr : Trace) (best : Bool) (x y r : Chain Kleene) → first_time tr.rows ≤ last_time 0 tr.rows → last_time 0 tr.rows < 2 ^ 32
    → IsWhole kleene_shape tr x → IsBestOf kleene_shape best x y r → IsWhole kleene_shape tr r
whole_both tr best x y r order late is both = record {
  normal = both.normal;
  input = input_over (first_time tr.rows) (last_time 0 tr.rows) r (omega (arith, order, late)) late
      (same_trans_places both.begins (is.input.begins, is.input.limited.first)) (same_trans_places both.ends (is.input.ends, is.input.limited.last));
}

-- one that is the best but in runs is one
pub whole_view : (tr : Trace) (runs : List Run) (w : View) (x : Chain Kleene) → w.first ≡ first_time tr.rows → w.last ≡ last_time 0 tr.rows
    → IsBestChain kleene_shape runs w x → IsWhole kleene_shape tr x
whole_view tr runs w x e f is = record {
  normal = is.normal;
  input = subst (λ m. IsInput (of_pieces kleene_shape) m (last_time 0 tr.rows) x) e (subst (λ n. IsInput (of_pieces kleene_shape) w.first n x) f is.input);
}

-- where one of them is put in the place of another, all of them are
pub whole_set : (tr : Trace) (xs : List (Chain Kleene)) (k : ℕ) (x : Chain Kleene) → IsWhole kleene_shape tr x → AreWhole kleene_shape tr xs
    → AreWhole kleene_shape tr (set xs k x)
whole_set tr xs k x here all_of j y at = elim (set_there xs k x j y at) [ inl e ↦ subst (IsWhole kleene_shape tr) (sym e.0) here | inr h ↦ all_of j y h ]

-- and behind the others
pub whole_push : (tr : Trace) (xs : List (Chain Kleene)) (x : Chain Kleene) → IsWhole kleene_shape tr x → AreWhole kleene_shape tr xs
    → AreWhole kleene_shape tr (xs ++ x ∷ [])
whole_push tr xs x here all_of j y at = elim (pushed_at xs x j y at) [ inl h ↦ all_of j y h | inr e ↦ subst (IsWhole kleene_shape tr) (sym e) here ]

-- the least of two chains is the best where both are
pub least_best : (x y r : Chain Kleene) → Tells kleene_shape (ChosenOf Least (IsWorth kleene_shape x) (IsWorth kleene_shape y)) x.from (stop x) r
    → IsBestOf kleene_shape true x y r
least_best x y r tells = record {
  normal = tells.normal;
  begins = tells.begins;
  ends = tells.ends;
  worth = λ t v h. (let k = ((tells.worth t v).0 h).2 in (k.0, k.1, k.2, k.3, λ a b. high_least k.0 k.1 v a b k.4));
}

-- and so is the greatest
pub greatest_best : (x y r : Chain Kleene) → Tells kleene_shape (ChosenOf Greatest (IsWorth kleene_shape x) (IsWorth kleene_shape y)) x.from (stop x) r
    → IsBestOf kleene_shape false x y r
greatest_best x y r tells = record {
  normal = tells.normal;
  begins = tells.begins;
  ends = tells.ends;
  worth = λ t v h. (let k = ((tells.worth t v).0 h).2 in (k.0, k.1, k.2, k.3, λ a b. low_greatest k.0 k.1 v a b k.4));
}

-- chains over the whole trace may be put together
pub whole_sound : (tr : Trace) (xs : List (Chain Kleene)) (from to : ℕ) → from ≡ first_time tr.rows → to ≡ last_time 0 tr.rows
    → AreWhole kleene_shape tr xs → AreSound (of_pieces kleene_shape) from to 4294967295 xs
whole_sound tr xs from to e f all_of k x at = record {
  begins = subst (λ n. x.from.at ≈ whole (pos n)) (sym e) (all_of k x at).input.begins;
  ends = subst (λ n. (stop x).at ≈ whole (pos n)) (sym f) (all_of k x at).input.ends;
  limited = (all_of k x at).input.limited;
  bases = λ p h. (record { le = tt }, search rules);
}

-- one that is sound is over the whole trace
pub whole_made : (tr : Trace) (x : Chain Kleene) (from to reach : ℕ) → from ≡ first_time tr.rows → to ≡ last_time 0 tr.rows
    → first_time tr.rows ≤ last_time 0 tr.rows → last_time 0 tr.rows < 2 ^ 32 → IsNormal kleene_shape x → IsSound (of_pieces kleene_shape) from to reach x
    → IsWhole kleene_shape tr x
whole_made tr x from to reach e f order late normal sound = record {
  normal = normal;
  input = input_over (first_time tr.rows) (last_time 0 tr.rows) x (omega (arith, order, late)) late
      (subst (λ n. x.from.at ≈ whole (pos n)) e sound.begins, sound.limited.first) (subst (λ n. (stop x).at ≈ whole (pos n)) f sound.ends, sound.limited.last);
}
