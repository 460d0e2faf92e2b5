use Rattle.std.proofs.Common.{◌≡◌, ℕ, ◌+◌, ◌-◌, ◌≤◌, ◌^◌, length, Some, to_z, of_z, w64, lit<, subst, sym, ◌∙◌, ap, arith, neg_ℤ}
use Rattle.std.proofs.lemmas.Int.{to_z-of_z}
use Rattle.std.specs.Prelude.{FitsSigned, pos, ◌-ℤ◌, slice_get}
use Rattle.std.specs.Int.RustNames.{unsigned_abs}
use Rattle.rational.specs.Rational.{add, whole, FitsFloor}
use Rattle.rational.specs.Time.{◌≈◌}
use Rattle.rational.proofs.Order.{same_refl, same_sym}
use Rattle.rational.proofs.Shift.{same_shift}
use Rattle.frac128.specs.Value.{value}
use Rattle.pl_signal.specs.declared.knot.Knot.{Knot}
use Rattle.pl_signal.specs.Knots.{time, start, stop, IsWorth}
use Rattle.pl_signal.specs.Moves.{Tells, BasesFrom}
use Rattle.pl_signal.proofs.Values.{shape_at, shape_after}
use Rattle.pl_signal.proofs.Telling.{told}
use Rattle.rational.proofs.Mixed.{fits_of_within, within_same}
use Rattle.pl_signal.proofs.Moving.{MovesOn, back_fits, minus_is, move_back, shifted_within, shift_first, shift_on, shift_later, shift_back'}
use Rattle.pl_signal.proofs.Moving.{moved_is_function, first_is, last_of, same_knot, only_ends, bases_first, bases_on}
use Rattle.pl_signal.proofs.moves.shifted.Goals as goal

before_one : (j i : ℕ) → j + 1 ≡ i + 1 → j ≡ i
before_one j i e = omega (arith, e)

zero_of : (j : ℕ) → j + 1 ≡ 1 → j ≡ 0
zero_of j e = omega (arith, e)

pub overflow_sub-back : goal.overflow_sub-back
overflow_sub-back g c =
    let e : to_z w64 (of_z w64 c.args.by) ≡ c.args.by = to_z-of_z w64 c.args.by c.ranges.by in
    subst (λ z. FitsSigned w64 (pos 0 -ℤ z)) (sym e)
    (back_fits c.args.by c.requires.from_within (within_same (2 ^ 34) (same_sym c.requires.begins) c.requires.start_within) c.ranges.by)

pub shift-requires : goal.shift-requires
shift-requires g c =
    let e : to_z w64 (of_z w64 c.args.by) ≡ c.args.by = to_z-of_z w64 c.args.by c.ranges.by in
    subst (λ z. unsigned_abs (g.P.Shape.base c.knot.result.point -ℤ z) ≤ 2 ^ 34) (sym e)
    (c.requires.bases c.knot.result.point (shape_at g.P.Shape c.args.s.now 0 c.knot.result c.knot.ensures))

pub shift-after-requires : goal.shift-after-requires
shift-after-requires g c =
    let e : to_z w64 (of_z w64 c.args.by) ≡ c.args.by = to_z-of_z w64 c.args.by c.ranges.by in
    subst (λ z. unsigned_abs (g.P.Shape.base c.knot-before.result.after -ℤ z) ≤ 2 ^ 34) (sym e)
    (c.requires.bases c.knot-before.result.after (shape_after g.P.Shape c.args.s.now (c.loop-i.i - 1) c.knot-before.result c.knot-before.ensures))

pub shift-requires-in-loop-i : goal.shift-requires-in-loop-i
shift-requires-in-loop-i g c =
    let e : to_z w64 (of_z w64 c.args.by) ≡ c.args.by = to_z-of_z w64 c.args.by c.ranges.by in
    let w : to_z w64 (of_z w64 (pos 0 -ℤ (to_z w64 (of_z w64 c.args.by)))) ≡ neg_ℤ (to_z w64 (of_z w64 c.args.by)) =
    to_z-of_z w64 (pos 0 -ℤ (to_z w64 (of_z w64 c.args.by)))
    (subst (λ z. FitsSigned w64 (pos 0 -ℤ z)) (sym e)
    (back_fits c.args.by c.requires.from_within (within_same (2 ^ 34) (same_sym c.requires.begins) c.requires.start_within) c.ranges.by)) ∙
    minus_is (to_z w64 (of_z w64 c.args.by)) in
    subst (λ y. FitsFloor w64 (add (value c.knot-knot.result.time) (whole y))) (sym (w ∙ ap neg_ℤ e))
    (fits_of_within w64 (2 ^ 34) (lit< tt)
    (shifted_within g.P.Shape c.args.s.now c.loop-i.i c.knot-knot.result c.args.by {from = value c.args.from.now} c.len-count.ensures.signal
    c.knot-knot.ensures c.requires.begins c.requires.from_within c.requires.to_within))

pub shift-requires-in-loop-i-2 : goal.shift-requires-in-loop-i-2
shift-requires-in-loop-i-2 g c =
    let e : to_z w64 (of_z w64 c.args.by) ≡ c.args.by = to_z-of_z w64 c.args.by c.ranges.by in
    subst (λ z. unsigned_abs (g.P.Shape.base c.knot-knot.result.point -ℤ z) ≤ 2 ^ 34) (sym e)
    (c.requires.bases c.knot-knot.result.point (shape_at g.P.Shape c.args.s.now c.loop-i.i c.knot-knot.result c.knot-knot.ensures))

pub step-requires-clause-limited : goal.step-requires-clause-limited
step-requires-clause-limited g c =
    let e : to_z w64 (of_z w64 c.args.by) ≡ c.args.by = to_z-of_z w64 c.args.by c.ranges.by in
    let place : c.loop-i.i - 1 + 1 ≡ c.loop-i.i = let low = c.loop-i.auto.i in omega arith in
    let next = subst (λ i. slice_get c.args.s.now i ≡ Some c.knot-knot.result) (sym place) c.knot-knot.ensures in
    let stops = c.loop-i.invariant.ends (c.loop-i.i - 1) c.knot-before.result place c.knot-before.ensures in
    within_same (2 ^ 34) (same_sym (subst (λ z. stop c.loop-i.built ≈ add (time c.knot-before.result) (whole (neg_ℤ z))) e stops))
    (shifted_within g.P.Shape c.args.s.now (c.loop-i.i - 1) c.knot-before.result c.args.by {from = value c.args.from.now} c.len-count.ensures.signal
    c.knot-before.ensures c.requires.begins c.requires.from_within c.requires.to_within)

pub step-requires-clause-later : goal.step-requires-clause-later
step-requires-clause-later g c =
    let e : to_z w64 (of_z w64 c.args.by) ≡ c.args.by = to_z-of_z w64 c.args.by c.ranges.by in
    let w : to_z w64 (of_z w64 (pos 0 -ℤ (to_z w64 (of_z w64 c.args.by)))) ≡ neg_ℤ (to_z w64 (of_z w64 c.args.by)) =
    to_z-of_z w64 (pos 0 -ℤ (to_z w64 (of_z w64 c.args.by)))
    (subst (λ z. FitsSigned w64 (pos 0 -ℤ z)) (sym e)
    (back_fits c.args.by c.requires.from_within (within_same (2 ^ 34) (same_sym c.requires.begins) c.requires.start_within) c.ranges.by)) ∙
    minus_is (to_z w64 (of_z w64 c.args.by)) in
    let place : c.loop-i.i - 1 + 1 ≡ c.loop-i.i = let low = c.loop-i.auto.i in omega arith in
    let next = subst (λ i. slice_get c.args.s.now i ≡ Some c.knot-knot.result) (sym place) c.knot-knot.ensures in
    let stops = c.loop-i.invariant.ends (c.loop-i.i - 1) c.knot-before.result place c.knot-before.ensures in
    let at = subst (λ y. value c.shift-in-loop-i.result ≈ add (time c.knot-knot.result) (whole y)) w c.shift-in-loop-i.ensures.value in
    shift_later g.P.Shape c.args.s.now (neg_ℤ (to_z w64 (of_z w64 c.args.by))) (c.loop-i.i - 1) c.knot-before.result c.knot-knot.result
    c.len-count.ensures.signal c.knot-before.ensures next stops at

pub loop-i-init : goal.loop-i-init
loop-i-init g c =
    let e : to_z w64 (of_z w64 c.args.by) ≡ c.args.by = to_z-of_z w64 c.args.by c.ranges.by in
    let only = only_ends g.P.Shape c.in_ok-built.built c.shift.result c.args.from.now c.in_ok-built.ensures in
    let first = first_is g.P.Shape c.args.s.now c.len-count.ensures.signal.some in
    let start_is = first.2 ∙ ap (λ k. time k) (same_knot g.P.Shape c.args.s.now 0 c.knot.ensures first.1) in
    let begins = subst (λ s. add (value c.args.from.now) (whole (to_z w64 (of_z w64 c.args.by))) ≈ s) start_is
    (subst (λ z. add (value c.args.from.now) (whole z) ≈ start c.args.s.now) (sym e) c.requires.begins) in
    record {
      tells = shift_first g.P.Shape c.args.s.now c.in_ok-built.built (to_z w64 (of_z w64 c.args.by)) 0 c.knot.result c.shift.result c.args.from.now
          c.len-count.ensures.signal c.knot.ensures begins c.shift.ensures.value c.in_ok-built.ensures;
      begins = subst (λ s. s ≈ value c.args.from.now) (sym only.0) (same_refl (value c.args.from.now));
      ends = λ j k n h. subst (λ s. s ≈ add (time k) (whole (neg_ℤ (to_z w64 (of_z w64 c.args.by))))) (sym only.1)
          (subst (λ m. value c.args.from.now ≈ add (time m) (whole (neg_ℤ (to_z w64 (of_z w64 c.args.by)))))
          (same_knot g.P.Shape c.args.s.now 0 (subst (λ j. slice_get c.args.s.now j ≡ Some k) (zero_of j n) h) c.knot.ensures)
          (shift_back' {t = value c.args.from.now} (to_z w64 (of_z w64 c.args.by)) begins));
      bases = subst (BasesFrom g.P.Shape (λ b. b -ℤ (to_z w64 (of_z w64 c.args.by))) c.args.s.now) (sym c.in_ok-built.ensures)
          (bases_first g.P.Shape (λ b. b -ℤ (to_z w64 (of_z w64 c.args.by))) c.args.s.now c.shift.result c.knot.result.point c.args.from.now
          (shape_at g.P.Shape c.args.s.now 0 c.knot.result c.knot.ensures) c.shift.ensures.base);
    }

pub loop-i-preserved : goal.loop-i-preserved
loop-i-preserved g c =
    let e : to_z w64 (of_z w64 c.args.by) ≡ c.args.by = to_z-of_z w64 c.args.by c.ranges.by in
    let w : to_z w64 (of_z w64 (pos 0 -ℤ (to_z w64 (of_z w64 c.args.by)))) ≡ neg_ℤ (to_z w64 (of_z w64 c.args.by)) =
    to_z-of_z w64 (pos 0 -ℤ (to_z w64 (of_z w64 c.args.by)))
    (subst (λ z. FitsSigned w64 (pos 0 -ℤ z)) (sym e)
    (back_fits c.args.by c.requires.from_within (within_same (2 ^ 34) (same_sym c.requires.begins) c.requires.start_within) c.ranges.by)) ∙
    minus_is (to_z w64 (of_z w64 c.args.by)) in
    let place : c.loop-i.i - 1 + 1 ≡ c.loop-i.i = let low = c.loop-i.auto.i in omega arith in
    let next = subst (λ i. slice_get c.args.s.now i ≡ Some c.knot-knot.result) (sym place) c.knot-knot.ensures in
    let stops = c.loop-i.invariant.ends (c.loop-i.i - 1) c.knot-before.result place c.knot-before.ensures in
    let at = subst (λ y. value c.shift-in-loop-i.result ≈ add (time c.knot-knot.result) (whole y)) w c.shift-in-loop-i.ensures.value in
    let on = c.in_ok-step.ensures.ok in
    let step : MovesOn g.P.Shape c.args.s.now (λ t. add t (whole (to_z w64 (of_z w64 c.args.by)))) c.knot-before.result c.knot-knot.result c.loop-i.built
    c.step.new.self = record {
      after = c.shift-after.result;
      at = c.shift-in-loop-i.result;
      point = c.shift-in-loop-i-2.result;
      so_far = c.loop-i.invariant.tells;
      on = on;
      arrives = move_back (to_z w64 (of_z w64 c.args.by)) at;
      afters = c.shift-after.ensures.value;
      points = c.shift-in-loop-i-2.ensures.value;
    } in
    record {
      tells = shift_on g.P.Shape c.args.s.now (to_z w64 (of_z w64 c.args.by)) (c.loop-i.i - 1) c.knot-before.result c.knot-knot.result
          c.len-count.ensures.signal c.knot-before.ensures next step stops;
      begins = subst (λ s. s ≈ value c.args.from.now) (sym on.begins) c.loop-i.invariant.begins;
      ends = λ j k n h. subst (λ s. s ≈ add (time k) (whole (neg_ℤ (to_z w64 (of_z w64 c.args.by))))) (sym on.ends)
          (subst (λ m. value c.shift-in-loop-i.result ≈ add (time m) (whole (neg_ℤ (to_z w64 (of_z w64 c.args.by)))))
          (same_knot g.P.Shape c.args.s.now c.loop-i.i (subst (λ j. slice_get c.args.s.now j ≡ Some k) (before_one j c.loop-i.i n) h) c.knot-knot.ensures) at);
      bases = bases_on g.P.Shape (λ b. b -ℤ (to_z w64 (of_z w64 c.args.by))) c.args.s.now c.knot-before.result.after c.knot-knot.result.point
          c.loop-i.invariant.bases on (shape_after g.P.Shape c.args.s.now (c.loop-i.i - 1) c.knot-before.result c.knot-before.ensures)
          c.shift-after.ensures.base
          (shape_at g.P.Shape c.args.s.now c.loop-i.i c.knot-knot.result c.knot-knot.ensures) c.shift-in-loop-i-2.ensures.base;
    }

pub returns-clause-worth : goal.returns-clause-worth
returns-clause-worth g c =
    let e : to_z w64 (of_z w64 c.args.by) ≡ c.args.by = to_z-of_z w64 c.args.by c.ranges.by in
    let all : c.loop-i.i ≡ length c.args.s.now = let no_more = c.loop-i-test.false in let most = c.loop-i.auto.i-end in let some =
    c.len-count.ensures.some in let value = c.len-count.ensures.value in omega arith in
    let last : (k : Knot _) × (slice_get c.args.s.now (c.loop-i.i - 1) ≡ Some k) × (stop c.args.s.now ≡ time k) =
    last_of g.P.Shape c.args.s.now c.loop-i.i c.len-count.ensures.signal.some all in
    let place : c.loop-i.i - 1 + 1 ≡ c.loop-i.i = let low = c.loop-i.auto.i in omega arith in
    subst (λ z. Tells g.P.Shape (λ t v. IsWorth g.P.Shape c.args.s.now (add t (whole z)) v) (value c.args.from.now)
    (add (stop c.args.s.now) (whole (neg_ℤ z))) c.finish.result) e
    (subst (Tells g.P.Shape (λ t v. IsWorth g.P.Shape c.args.s.now (add t (whole (to_z w64 (of_z w64 c.args.by)))) v) (value c.args.from.now)
    (add (stop c.args.s.now) (whole (neg_ℤ (to_z w64 (of_z w64 c.args.by)))))) (sym c.finish.ensures.value)
    (told g.P.Shape (λ t v. IsWorth g.P.Shape c.args.s.now (add t (whole (to_z w64 (of_z w64 c.args.by)))) v) (value c.args.from.now)
    (add (stop c.args.s.now) (whole (neg_ℤ (to_z w64 (of_z w64 c.args.by))))) c.loop-i.built
    (moved_is_function g.P.Shape c.args.s.now (λ t. add t (whole (to_z w64 (of_z w64 c.args.by))))
    (λ t u e. same_shift (to_z w64 (of_z w64 c.args.by)) e) c.len-count.ensures.signal) c.loop-i.invariant.tells c.loop-i.invariant.begins
    (subst (λ s. stop c.loop-i.built ≈ add s (whole (neg_ℤ (to_z w64 (of_z w64 c.args.by))))) (sym last.2)
    (c.loop-i.invariant.ends (c.loop-i.i - 1) last.0 place last.1))))

pub returns-clause-bases : goal.returns-clause-bases
returns-clause-bases g c =
    let e : to_z w64 (of_z w64 c.args.by) ≡ c.args.by = to_z-of_z w64 c.args.by c.ranges.by in
    subst (λ z. BasesFrom g.P.Shape (λ b. b -ℤ z) c.args.s.now c.finish.result) e
    (subst (BasesFrom g.P.Shape (λ b. b -ℤ (to_z w64 (of_z w64 c.args.by))) c.args.s.now) (sym c.finish.ensures.value) c.loop-i.invariant.bases)
