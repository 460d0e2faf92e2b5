-- Between two verdicts the truth turns, so the verdicts of a stretch are few.
use Rattle.std.proofs.Common.{◌≡◌, suc, ◌+◌, Bool, true, false, List, [], ◌∷◌, length, refl, arith, inl, inr, subst, IsTrue, MatchBool}
use Rattle.std.specs.Prelude.{◌≢◌}
use Rattle.rational.specs.Rational.{middle}
use Rattle.rational.specs.Time.{Rational, ◌≤ʳ◌, ◌<ʳ◌, ◌≈◌, Within, Interval, IsIn, IsNotEmpty, Precedes}
use Rattle.rational.proofs.Order.{le_refl, le_of_lt, le_of_same, ge_of_same, le_trans, lt_of_lt_of_le, lt_of_le_of_lt, lt_trans}
use Rattle.rational.proofs.Order.{left_of_middle, right_of_middle}
use Rattle.rational.proofs.TimeLemmas.{precedes_of_lt}
use Rattle.frac128.specs.Value.{value}
use Rattle.frac128.specs.Spans.{interval}
use Rattle.stl_syntax.specs.Trace.{Trace}
use Rattle.stl_syntax.specs.Formula.{Subformula}
use Rattle.stl_syntax.specs.Truth.{Truth}
use Rattle.stl_syntax.specs.Verdicts.{IsTold, GoesOn}
use Rattle.stl_syntax.specs.declared.items.Verdict.{Verdict}
use Rattle.bounds.specs.Turns.{Turns, AreTurns, VerdictsAreFew}
use Rattle.bounds.proofs.NearTimes.{Near, IsNear, itself, later_one, earlier_one}
use Rattle.bounds.proofs.FewTimes.{RisesFrom, rises_before, rises_earlier}
use Rattle.bounds.proofs.FormulaTurns.{few_turns}

precedes_in : (b : Bool) (t u : Rational) → IsTrue b → t ≤ʳ u → Precedes b t u
precedes_in true t u i h = h
precedes_in false t u i h = absurd (cc)

-- a time of the interval near a time
record NearIn (on : Interval) {t : Rational} (n : Near t) : Type 0 where
  time : Rational
  near : IsNear n time
  inside : IsIn on time

near_end : (on : Interval) → IsNotEmpty on → (n : Near on.to) → NearIn on n
near_end on (inl h) n =
    let a = later_one on.to n.from on.from n.before h in
    let l = left_of_middle a.before in
    let r = right_of_middle a.before in
    let u = middle a.time on.to in record {
      time = u;
      near = record { above = lt_of_le_of_lt a.left l; below = lt_trans r n.after };
      inside = record { above = precedes_of_lt on.from_in on.from u (lt_of_le_of_lt a.right l); below = precedes_of_lt on.to_in u on.to r };
    }
near_end on (inr h) n = record {
  time = on.to;
  near = itself n;
  inside = record { above = precedes_in on.from_in on.from on.to h.1 (le_of_same h.0); below = precedes_in on.to_in on.to on.to h.2 (le_refl on.to) };
}

-- and near its begin
near_begin : (on : Interval) → IsNotEmpty on → (n : Near on.from) → NearIn on n
near_begin on (inl h) n =
    let a = earlier_one on.from n.to on.to n.after h in
    let l = left_of_middle a.after in
    let r = right_of_middle a.after in
    let u = middle on.from a.time in record {
      time = u;
      near = record { above = lt_trans n.before l; below = lt_of_lt_of_le r a.left };
      inside = record { above = precedes_of_lt on.from_in on.from u l; below = precedes_of_lt on.to_in u on.to (lt_of_lt_of_le r a.right) };
    }
near_begin on (inr h) n = record {
  time = on.from;
  near = itself n;
  inside = record { above = precedes_in on.from_in on.from on.from h.1 (le_refl on.from); below = precedes_in on.to_in on.from on.to h.2 (le_of_same h.0) };
}

-- two truths that differ are not one
differ : {A B : Type 0} (x y : Bool) → x ≢ y → MatchBool x A (¬ A) → MatchBool y B (¬ B) → (A → B) → (B → A) → ⊥
differ true true other a b f g = other refl
differ true false other a b f g = b (f a)
differ false true other a b f g = a (g b)
differ false false other a b f g = other refl

-- where one interval ends and another begins, and they differ in the truth, it turns
pub turns_between : (p : Subformula) (tr : Trace) (on next : Interval) (x y : Bool) → IsNotEmpty on → IsNotEmpty next → x ≢ y
    → ((u : Rational) → IsIn on u → MatchBool x (Truth p tr u) (¬ Truth p tr u)) → ((u : Rational) → IsIn next u → MatchBool y (Truth p tr u) (¬ Truth p tr u))
    → next.from ≈ on.to → Turns p tr on.to
turns_between p tr on next x y some more apart f g e from to before after alike =
    let n : Near on.to = record { from = from; to = to; before = before; after = after } in
    let m : Near next.from =
    record { from = from; to = to; before = lt_of_lt_of_le before (ge_of_same e); after = lt_of_le_of_lt (le_of_same e) after } in
    let a = near_end on some n in
    let b = near_begin next more m in
    differ x y apart (f a.time a.inside) (g b.time b.inside) (alike a.time b.time a.near.above a.near.below b.near.above b.near.below)
    (alike b.time a.time b.near.above b.near.below a.near.above a.near.below)

-- so it turns between two verdicts
pub turns_at : (p : Subformula) (tr : Trace) (v w : Verdict) → IsTold p tr v → IsTold p tr w → v.holds ≢ w.holds → value w.on.from ≈ value v.on.to
    → Turns p tr (value v.on.to)
turns_at p tr v w told next apart e =
    turns_between p tr (interval v.on) (interval w.on) v.holds w.holds told.not_empty next.not_empty apart told.truth next.truth e

-- the ends of the verdicts but the last, of those whose end is in or of those whose end is out
unfoldable pub with_end : Bool → Bool → Rational → List Rational → List Rational
with_end true true t times = t ∷ times
with_end false false t times = t ∷ times
with_end true false t times = times
with_end false true t times = times

ends_of : Bool → Verdict → List Verdict → List Rational
ends_of side v [] = []
ends_of side v (w ∷ verdicts) = with_end side v.on.to_in (value v.on.to) (ends_of side w verdicts)

-- a nonempty interval's ends
pub from_le_to : (on : Interval) → IsNotEmpty on → on.from ≤ʳ on.to
from_le_to on (inl h) = le_of_lt h
from_le_to on (inr h) = le_of_same h.0

-- an end that is out lies behind the begin
pub from_lt_to : (on : Interval) → IsNotEmpty on → on.to_in ≡ false → on.from <ʳ on.to
from_lt_to on (inl h) e = h
from_lt_to on (inr h) e = absurd (let k = h.2 in cc)

-- the end does not come before the begin, with the begin in or not
pub from_to : (on : Interval) → IsNotEmpty on → Precedes on.from_in on.from on.to
from_to on (inl h) = precedes_of_lt on.from_in on.from on.to h
from_to on (inr h) = precedes_in on.from_in on.from on.to h.1 (le_of_same h.0)

-- what is not true is false
pub other_true : (a : Bool) → a ≢ true → a ≡ false
other_true true h = absurd (h refl)
other_true false h = refl

module _ (p : Subformula) (tr : Trace) (stretch : Interval) where
  -- the verdicts end no later than the stretch
  end_inside : (v : Verdict) (verdicts : List Verdict) → GoesOn p tr stretch v verdicts → value v.on.to ≤ʳ stretch.to
  end_inside v [] h = le_of_same h.time
  end_inside v (w ∷ verdicts) h =
      le_trans (ge_of_same h.0.time) (le_trans (from_le_to (interval w.on) h.2.not_empty) (end_inside w verdicts h.3))

  -- how the ends rise: those that are in from the begin of the first verdict on, and those that are out later than it
  record Rise (v : Verdict) (verdicts : List Verdict) : Type 0 where
    ins : RisesFrom v.on.from_in (value v.on.from) (ends_of true v verdicts)
    outs : RisesFrom false (value v.on.from) (ends_of false v verdicts)

  rise_by : (v w : Verdict) (verdicts : List Verdict) (end_in : Bool) → v.on.to_in ≡ end_in → IsTold p tr v → value w.on.from ≈ value v.on.to
      → w.on.from_in ≢ v.on.to_in → Rise w verdicts → Rise v (w ∷ verdicts)
  unfolding ends_of with_end
  rise_by v w verdicts true is told e other r =
      let out : w.on.from_in ≡ false = other_true w.on.from_in (λ f. other (rw (f, is) refl)) in
      let ins : RisesFrom false (value w.on.from) (ends_of true w verdicts) =
      subst (λ b. RisesFrom b (value w.on.from) (ends_of true w verdicts)) out r.ins in record {
        ins = rw is (from_to (interval v.on) told.not_empty, rises_before false (value v.on.to) (value w.on.from) _ (ge_of_same e) ins);
        outs = rw is (rises_before false (value v.on.from) (value w.on.from) _
            (le_trans (from_le_to (interval v.on) told.not_empty) (ge_of_same e)) r.outs);
      }
  rise_by v w verdicts false is told e other r =
      let lt = from_lt_to (interval v.on) told.not_empty is in record {
        ins = rw is (rises_earlier w.on.from_in v.on.from_in (value v.on.from) (value w.on.from) _ (lt_of_lt_of_le lt (ge_of_same e)) r.ins);
        outs = rw is (lt, rises_before false (value v.on.to) (value w.on.from) _ (ge_of_same e) r.outs);
      }

  rise : (v : Verdict) (verdicts : List Verdict) → IsTold p tr v → GoesOn p tr stretch v verdicts → Rise v verdicts
  unfolding ends_of
  rise v [] told h = record { ins = tt; outs = tt }
  rise v (w ∷ verdicts) told h = rise_by v w verdicts v.on.to_in refl told h.0.time h.0.once (rise w verdicts h.2 h.3)

  keep : (side end_in : Bool) (from t : Rational) (times : List Rational) → Turns p tr t → Within from stretch.to t → AreTurns p tr from stretch.to times
      → AreTurns p tr from stretch.to (with_end side end_in t times)
  unfolding with_end
  keep true true from t times h w k = (h, w, k)
  keep false false from t times h w k = (h, w, k)
  keep true false from t times h w k = k
  keep false true from t times h w k = k

  -- at each of the ends the truth turns
  turn : (side : Bool) (from : Rational) (v : Verdict) (verdicts : List Verdict) → from ≤ʳ value v.on.from → IsTold p tr v
      → GoesOn p tr stretch v verdicts → AreTurns p tr from stretch.to (ends_of side v verdicts)
  unfolding ends_of
  turn side from v [] late told h = tt
  turn side from v (w ∷ verdicts) late told h =
      let on = le_trans late (from_le_to (interval v.on) told.not_empty) in
      keep side v.on.to_in from (value v.on.to) (ends_of side w verdicts) (turns_at p tr v w told h.2 h.1 h.0.time)
      (record { above = on; below = end_inside v (w ∷ verdicts) h })
      (turn side from w verdicts (le_trans on (ge_of_same h.0.time)) h.2 h.3)

each_counts : (end_in : Bool) (t : Rational) (xs ys : List Rational)
    → length (with_end true end_in t xs) + length (with_end false end_in t ys) ≡ suc (length xs + length ys)
unfolding with_end
each_counts true t xs ys = omega arith
each_counts false t xs ys = omega arith

-- each verdict but the last has an end
counted_ends : (v : Verdict) (verdicts : List Verdict) → length verdicts ≡ length (ends_of true v verdicts) + length (ends_of false v verdicts)
unfolding ends_of
counted_ends v [] = refl
counted_ends v (w ∷ verdicts) =
    let e = counted_ends w verdicts in
    let k = each_counts v.on.to_in (value v.on.to) (ends_of true w verdicts) (ends_of false w verdicts) in
    omega (arith, e, k)

-- so they are few
pub verdicts_are_few : VerdictsAreFew
verdicts_are_few p tr stretch [] h = absurd h
verdicts_are_few p tr stretch (v ∷ verdicts) h =
    let r = rise p tr stretch v verdicts h.1 h.2 in
    let late = ge_of_same h.0.time in
    let ins = few_turns p tr stretch.from stretch.to v.on.from_in (value v.on.from) (ends_of true v verdicts) r.ins
    (turn p tr stretch true stretch.from v verdicts late h.1 h.2) in
    let outs = few_turns p tr stretch.from stretch.to false (value v.on.from) (ends_of false v verdicts) r.outs
    (turn p tr stretch false stretch.from v verdicts late h.1 h.2) in
    let e = counted_ends v verdicts in
    omega (arith, ins, outs, e)
