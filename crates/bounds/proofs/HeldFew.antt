-- What meets a stretch of verdicts that tell the truth, and of which two neighbours differ or meet at a front, is few.
use Rattle.std.proofs.Common.{◌≡◌, ℕ, suc, ◌+◌, ◌*◌, ◌≤◌, Bool, true, false, cond, List, [], ◌∷◌, ◌++◌, length, refl, sym, ap, ◌∙◌, subst}
use Rattle.std.proofs.Common.{arith, inl, inr, length-append}
use Rattle.std.specs.Prelude.{◌≢◌, ◌⊎◌}
use Rattle.rational.specs.Time.{Rational, ◌≤ʳ◌, ◌<ʳ◌, ◌≈◌, Within, Interval, Precedes}
use Rattle.rational.proofs.Order.{le_of_same, ge_of_same, le_trans, lt_of_lt_of_le, le_or_lt, not_lt_of_le}
use Rattle.rational.proofs.TimeLemmas.{less_in, less_no, precedes_le, precedes_of_lt}
use Rattle.frac128.specs.Value.{value}
use Rattle.frac128.specs.Spans.{interval}
use Rattle.stl_syntax.specs.Trace.{Trace}
use Rattle.stl_syntax.specs.Formula.{Subformula}
use Rattle.stl_syntax.specs.Cells.{IsAmong}
use Rattle.stl_syntax.specs.Verdicts.{IsTold}
use Rattle.stl_syntax.specs.declared.items.Verdict.{Verdict}
use Rattle.online_nodes.specs.Needed.{AreMeeting}
use Rattle.bounds.specs.Turns.{is_within, turns_for_a_row, rows_about}
use Rattle.bounds.specs.Held.{times_within}
use Rattle.bounds.proofs.FewTimes.{RisesFrom, rises_before, rises_earlier, among_or_not, among_left, among_right, AreAmong, no_more}
use Rattle.bounds.proofs.FormulaTurns.{Few, few_about, not_turning}
use Rattle.bounds.proofs.VerdictTurns.{turns_at, with_end, from_le_to, from_lt_to, from_to, other_true}

-- how two neighbours meet: the truth differs, or the first ends, with that end in, at one of the times
abbrev pub Parts : List Rational → Verdict → Verdict → Type 0
Parts fronts v w = (v.holds ≢ w.holds) ⊎ ((v.on.to_in ≡ true) × IsAmong fronts (value v.on.to))

-- the verdicts after the first tell the truth, and each joins on to the one before
abbrev pub Joins : Subformula → Trace → List Rational → Verdict → List Verdict → Type 0
Joins p tr fronts v [] = Unit {0}
Joins p tr fronts v (w ∷ ws) =
    (value w.on.from ≈ value v.on.to) × (w.on.from_in ≢ v.on.to_in) × Parts fronts v w × IsTold p tr w × Joins p tr fronts w ws

-- a time of the stretch among the times is among those within it
pub among_within : (lo hi : Rational) (times : List Rational) (t : Rational) → lo ≤ʳ t → t ≤ʳ hi → IsAmong times t → IsAmong (times_within lo hi times) t
among_within lo hi [] t h k m = absurd m
among_within lo hi (u ∷ times) t h k (inl e) =
    rw (less_no u lo (le_trans h (le_of_same e)), less_no hi u (le_trans (ge_of_same e) k)) (inl e)
among_within lo hi (u ∷ times) t h k (inr m) = later_one (is_within lo hi u) (among_within lo hi times t h k m)
  where
    later_one : (b : Bool) → IsAmong (times_within lo hi times) t → IsAmong (cond b (u ∷ times_within lo hi times) (times_within lo hi times)) t
    later_one true n = inr n
    later_one false n = n

-- the test says that a time lies within
pub within_of : (lo hi t : Rational) → is_within lo hi t ≡ true → Within lo hi t
within_of lo hi t e = elim (le_or_lt lo t) [
  | inl after ↦ elim (le_or_lt t hi) [
    | inl before ↦ record { above = after; below = before }
    | inr late ↦ absurd (let k : is_within lo hi t ≡ false = rw (less_no t lo after, less_in hi t late) refl in let x : false ≡ true = sym k ∙ e in cc)
  ]
  | inr soon ↦ absurd (let k : is_within lo hi t ≡ false = rw (less_in t lo soon) refl in let x : false ≡ true = sym k ∙ e in cc)
]

-- a list that rises after a time rises from it
pub loose : (inside : Bool) (f : Rational) (times : List Rational) → RisesFrom false f times → RisesFrom inside f times
loose inside f [] r = tt
loose inside f (t ∷ times) r = (precedes_of_lt inside f t r.0, r.1)

-- an end within the stretch goes before the others
abbrev put_end : Bool → Bool → Bool → Rational → List Rational → List Rational
put_end within side end_in t times = cond within (with_end side end_in t times) times

module _ (p : Subformula) (tr : Trace) (fronts : List Rational) (stretch : Interval) where
  abbrev lo : Rational
  lo = stretch.from

  abbrev hi : Rational
  hi = stretch.to

  -- the ends within the stretch of the verdicts but the last, of those whose end is in or of those whose end is out
  abbrev ends_within : Bool → Verdict → List Verdict → List Rational
  ends_within side v [] = []
  ends_within side v (w ∷ ws) = put_end (is_within lo hi (value v.on.to)) side v.on.to_in (value v.on.to) (ends_within side w ws)

  record Rise (v : Verdict) (ws : List Verdict) : Type 0 where
    ins : RisesFrom v.on.from_in (value v.on.from) (ends_within true v ws)
    outs : RisesFrom false (value v.on.from) (ends_within false v ws)

  ins_by : {from to next : Rational} (within end_in from_in other_in : Bool) (times : List Rational) → from ≤ʳ to → (end_in ≡ false → from <ʳ to)
      → Precedes from_in from to → next ≈ to → other_in ≢ end_in → RisesFrom other_in next times
      → RisesFrom from_in from (put_end within true end_in to times)
  unfolding with_end
  ins_by {from} {to} {next} true true from_in other_in times le lt pre e other r =
      (pre, rises_before false to next times (ge_of_same e) (subst (λ b. RisesFrom b next times) (other_true other_in other) r))
  ins_by {from} {to} {next} true false from_in other_in times le lt pre e other r =
      rises_earlier other_in from_in from next times (lt_of_lt_of_le (lt refl) (ge_of_same e)) r
  ins_by {from} {to} {next} false true from_in other_in times le lt pre e other r =
      loose from_in from times
      (rises_before false from next times (le_trans le (ge_of_same e)) (subst (λ b. RisesFrom b next times) (other_true other_in other) r))
  ins_by {from} {to} {next} false false from_in other_in times le lt pre e other r =
      rises_earlier other_in from_in from next times (lt_of_lt_of_le (lt refl) (ge_of_same e)) r

  outs_by : (within end_in : Bool) (from to next : Rational) (times : List Rational) → from ≤ʳ to → (end_in ≡ false → from <ʳ to) → next ≈ to
      → RisesFrom false next times → RisesFrom false from (put_end within false end_in to times)
  unfolding with_end
  outs_by true true from to next times le lt e r = rises_before false from next times (le_trans le (ge_of_same e)) r
  outs_by true false from to next times le lt e r = (lt refl, rises_before false to next times (ge_of_same e) r)
  outs_by false end_in from to next times le lt e r = rises_before false from next times (le_trans le (ge_of_same e)) r

  rise : (v : Verdict) (ws : List Verdict) → IsTold p tr v → Joins p tr fronts v ws → Rise v ws
  rise v [] told h = record { ins = tt; outs = tt }
  rise v (w ∷ ws) told h =
      let r = rise w ws h.3 h.4 in
      let le = from_le_to (interval v.on) told.not_empty in
      let lt = from_lt_to (interval v.on) told.not_empty in record {
        ins = ins_by (is_within lo hi (value v.on.to)) v.on.to_in v.on.from_in w.on.from_in
            (ends_within true w ws) le lt (from_to (interval v.on) told.not_empty) h.0 h.1 r.ins;
        outs = outs_by (is_within lo hi (value v.on.to)) v.on.to_in (value v.on.from) (value v.on.to) (value w.on.from) (ends_within false w ws)
            le lt h.0 r.outs;
      }

  -- no verdict after the stretch meets it
  none_late : (v : Verdict) (ws held : List Verdict) → IsTold p tr v → Joins p tr fronts v ws → hi <ʳ value v.on.from
      → AreMeeting stretch (v ∷ ws) held → held ≡ []
  none_late v ws held told h late (inl m) =
      absurd (not_lt_of_le (le_trans (precedes_le v.on.from_in (value v.on.from) m.0.0 m.0.2.above) (precedes_le stretch.to_in m.0.0 hi m.0.1.below)) late)
  none_late v [] held told h late (inr m) = m.1
  none_late v (w ∷ ws) held told h late (inr m) =
      none_late w ws held h.3 h.4 (lt_of_lt_of_le late (le_trans (from_le_to (interval v.on) told.not_empty) (ge_of_same h.0))) m.1

  grown : (within end_in : Bool) (t : Rational) (xs ys : List Rational)
      → length xs + length ys ≤ length (put_end within true end_in t xs) + length (put_end within false end_in t ys)
  unfolding with_end
  grown true true t xs ys = omega arith
  grown true false t xs ys = omega arith
  grown false end_in t xs ys = omega arith

  one_more : (within end_in : Bool) (t : Rational) (xs ys : List Rational) → within ≡ true
      → suc (length xs + length ys) ≤ length (put_end within true end_in t xs) + length (put_end within false end_in t ys)
  unfolding with_end
  one_more true true t xs ys e = omega arith
  one_more true false t xs ys e = omega arith
  one_more false end_in t xs ys e = absurd (cc)

  within_is : (t : Rational) → lo ≤ʳ t → t ≤ʳ hi → is_within lo hi t ≡ true
  within_is t h k = rw (less_no t lo h, less_no hi t k) refl

  -- those that meet the stretch are no more than the ends within it, and one
  counted : (v : Verdict) (ws held : List Verdict) → IsTold p tr v → Joins p tr fronts v ws → AreMeeting stretch (v ∷ ws) held
      → length held ≤ 1 + (length (ends_within true v ws) + length (ends_within false v ws))
  counted v [] held told h (inl m) = let e = ap length m.1.2 in let f = ap length m.1.1 in omega (arith, e, f)
  counted v [] held told h (inr m) = let e = ap length m.1 in omega (arith, e)
  counted v (w ∷ ws) held told h (inr m) =
      let c = counted w ws held h.3 h.4 m.1 in
      let g = grown (is_within lo hi (value v.on.to)) v.on.to_in (value v.on.to) (ends_within true w ws) (ends_within false w ws) in
      omega (arith, c, g)
  counted v (w ∷ ws) held told h (inl m) =
      let e = ap length m.1.2 in
      let early = le_trans (precedes_le stretch.from_in lo m.0.0 m.0.1.above) (precedes_le v.on.to_in m.0.0 (value v.on.to) m.0.2.below) in
      elim (le_or_lt (value v.on.to) hi) [
        | inl inside ↦
            let c = counted w ws m.1.0 h.3 h.4 m.1.1 in
            let g = one_more (is_within lo hi (value v.on.to)) v.on.to_in (value v.on.to) (ends_within true w ws) (ends_within false w ws)
            (within_is (value v.on.to) early inside) in
            omega (arith, c, g, e)
        | inr late ↦
            let f = ap length (none_late w ws m.1.0 h.3 h.4 (lt_of_lt_of_le late (ge_of_same h.0)) m.1.1) in
            omega (arith, e, f)
      ]

  module _ (count : ℕ) (f : Few p tr lo hi count) where
    -- a border within the stretch is a turn, or a front
    border : (v w : Verdict) → IsTold p tr v → IsTold p tr w → value w.on.from ≈ value v.on.to → Parts fronts v w → Within lo hi (value v.on.to)
        → IsAmong f.times_of (value v.on.to) ⊎ ((v.on.to_in ≡ true) × IsAmong (times_within lo hi fronts) (value v.on.to))
    border v w told next e (inr m) inside = inr (m.0, among_within lo hi fronts (value v.on.to) inside.above inside.below m.1)
    border v w told next e (inl apart) inside = elim (among_or_not f.times_of (value v.on.to)) [
      | inl m ↦ inl m
      | inr other ↦ absurd (not_turning p tr (value v.on.to) (f.calm (value v.on.to) inside other) (turns_at p tr v w told next apart e))
    ]

    ins_put : (within end_in : Bool) (t : Rational) (times : List Rational)
        → (within ≡ true → IsAmong f.times_of t ⊎ ((end_in ≡ true) × IsAmong (times_within lo hi fronts) t))
        → AreAmong times (f.times_of ++ times_within lo hi fronts) → AreAmong (put_end within true end_in t times) (f.times_of ++ times_within lo hi fronts)
    unfolding with_end
    ins_put true true t times b r =
        (elim (b refl) [ inl m ↦ among_left f.times_of (times_within lo hi fronts) t m | inr m ↦ among_right f.times_of (times_within lo hi fronts) t m.1 ], r)
    ins_put true false t times b r = r
    ins_put false end_in t times b r = r

    outs_put : (within end_in : Bool) (t : Rational) (times : List Rational)
        → (within ≡ true → IsAmong f.times_of t ⊎ ((end_in ≡ true) × IsAmong (times_within lo hi fronts) t))
        → AreAmong times f.times_of → AreAmong (put_end within false end_in t times) f.times_of
    unfolding with_end
    outs_put true true t times b r = r
    outs_put true false t times b r = (elim (b refl) [ inl m ↦ m | inr m ↦ absurd (let e : false ≡ true = m.0 in cc) ], r)
    outs_put false end_in t times b r = r

    ins_among : (v : Verdict) (ws : List Verdict) → IsTold p tr v → Joins p tr fronts v ws
        → AreAmong (ends_within true v ws) (f.times_of ++ times_within lo hi fronts)
    ins_among v [] told h = tt
    ins_among v (w ∷ ws) told h =
        ins_put (is_within lo hi (value v.on.to)) v.on.to_in (value v.on.to) (ends_within true w ws)
        (λ e. border v w told h.3 h.0 h.2 (within_of lo hi (value v.on.to) e)) (ins_among w ws h.3 h.4)

    outs_among : (v : Verdict) (ws : List Verdict) → IsTold p tr v → Joins p tr fronts v ws → AreAmong (ends_within false v ws) f.times_of
    outs_among v [] told h = tt
    outs_among v (w ∷ ws) told h =
        outs_put (is_within lo hi (value v.on.to)) v.on.to_in (value v.on.to) (ends_within false w ws)
        (λ e. border v w told h.3 h.0 h.2 (within_of lo hi (value v.on.to) e)) (outs_among w ws h.3 h.4)

    few_by : (v : Verdict) (ws held : List Verdict) → IsTold p tr v → Joins p tr fronts v ws → AreMeeting stretch (v ∷ ws) held
        → length held ≤ 2 * count + length (times_within lo hi fronts) + 1
    few_by v ws held told h m =
        let r = rise v ws told h in
        let c = counted v ws held told h m in
        let a = no_more v.on.from_in (value v.on.from) (ends_within true v ws) (f.times_of ++ times_within lo hi fronts) r.ins (ins_among v ws told h) in
        let b = no_more false (value v.on.from) (ends_within false v ws) f.times_of r.outs (outs_among v ws told h) in
        let e = length-append f.times_of (times_within lo hi fronts) in
        let k = f.few in
        omega (arith, c, a, b, e, k)

  -- few of the verdicts meet a stretch
  pub few_meet : (v : Verdict) (ws held : List Verdict) → IsTold p tr v → Joins p tr fronts v ws → AreMeeting stretch (v ∷ ws) held
      → length held ≤ 2 * (turns_for_a_row p * suc (rows_about p tr stretch.from stretch.to)) + length (times_within stretch.from stretch.to fronts) + 1
  few_meet v ws held told h m =
      few_by (turns_for_a_row p * suc (rows_about p tr stretch.from stretch.to)) (few_about p tr stretch.from stretch.to) v ws held told h m
