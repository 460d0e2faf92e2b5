use Rattle.std.proofs.Common.{◌≡◌, ◌+◌, ℕ, ◌-◌, ◌<◌, ◌≤◌, ◌^◌, List, length, get_or, Some, ◌-ℤ◌, sym, subst, arith, of_z, to_z, w64, lit<}
use Rattle.std.proofs.lemmas.Int.{to_z-of_z}
use Rattle.std.specs.Int.RustNames.{unsigned_abs}
use Rattle.std.specs.Prelude.{slice_get}
use Rattle.rational.specs.Rational.{subtract, whole, FitsFloor}
use Rattle.std.proofs.lemmas.Option.{slice_get-get_or}
use Rattle.rational.specs.Time.{◌≈◌}
use Rattle.rational.proofs.Order.{same_sym}
use Rattle.frac128.specs.Value.{value}
use Rattle.pl_signal.specs.Knots.{time, start, stop, IsWorth}
use Rattle.pl_signal.specs.Moves.{Tells, BasesFrom}
use Rattle.rational.proofs.Mixed.{fits_of_within, within_same}
use Rattle.pl_signal.proofs.Moving.{MovesOn, mirror_within, mirror_first, mirror_same, mirror_back, mirror_later, mirror_on}
use Rattle.pl_signal.proofs.Moving.{moved_is_function, first_is, last_is, only_ends, same_knot, bases_first, bases_on}
use Rattle.pl_signal.proofs.Telling.{told}
use Rattle.pl_signal.proofs.Values.{shape_at, shape_after}
use Rattle.pl_signal.proofs.signal.Signal.mirror.Goals as goal

pub mirror-requires : goal.mirror-requires
mirror-requires g c =
    let e : to_z w64 (of_z w64 c.args.about) ≡ c.args.about = to_z-of_z w64 c.args.about c.ranges.about in
    subst (λ z. FitsFloor w64 (subtract (whole z) (value c.knot-last.result.time))) (sym e)
    (fits_of_within w64 (2 ^ 34) (lit< tt)
    (mirror_within g.P.Shape (2 ^ 34) c.args.about c.args.self.now (c.len-i.result - 1) c.knot-last.result c.len-i.ensures.signal c.knot-last.ensures
    c.requires.from_within c.requires.to_within))

pub mirror-requires-2 : goal.mirror-requires-2
mirror-requires-2 g c =
    let e : to_z w64 (of_z w64 c.args.about) ≡ c.args.about = to_z-of_z w64 c.args.about c.ranges.about in
    subst (λ z. unsigned_abs (z -ℤ g.P.Shape.base c.knot-last.result.point) ≤ 2 ^ 34) (sym e)
    (c.requires.bases c.knot-last.result.point (shape_at g.P.Shape c.args.self.now (c.len-i.result - 1) c.knot-last.result c.knot-last.ensures))

pub mirror-after-requires : goal.mirror-after-requires
mirror-after-requires g c =
    let e : to_z w64 (of_z w64 c.args.about) ≡ c.args.about = to_z-of_z w64 c.args.about c.ranges.about in
    subst (λ z. unsigned_abs (z -ℤ g.P.Shape.base c.knot-knot.result.after) ≤ 2 ^ 34) (sym e)
    (c.requires.bases c.knot-knot.result.after (shape_after g.P.Shape c.args.self.now (c.loop-i.i - 1) c.knot-knot.result c.knot-knot.ensures))

pub mirror-requires-in-loop-i : goal.mirror-requires-in-loop-i
mirror-requires-in-loop-i g c =
    let e : to_z w64 (of_z w64 c.args.about) ≡ c.args.about = to_z-of_z w64 c.args.about c.ranges.about in
    subst (λ z. FitsFloor w64 (subtract (whole z) (value c.knot-knot.result.time))) (sym e)
    (fits_of_within w64 (2 ^ 34) (lit< tt)
    (mirror_within g.P.Shape (2 ^ 34) c.args.about c.args.self.now (c.loop-i.i - 1) c.knot-knot.result c.len-i.ensures.signal c.knot-knot.ensures
    c.requires.from_within c.requires.to_within))

pub mirror-requires-in-loop-i-2 : goal.mirror-requires-in-loop-i-2
mirror-requires-in-loop-i-2 g c =
    let e : to_z w64 (of_z w64 c.args.about) ≡ c.args.about = to_z-of_z w64 c.args.about c.ranges.about in
    subst (λ z. unsigned_abs (z -ℤ g.P.Shape.base c.knot-knot.result.point) ≤ 2 ^ 34) (sym e)
    (c.requires.bases c.knot-knot.result.point (shape_at g.P.Shape c.args.self.now (c.loop-i.i - 1) c.knot-knot.result c.knot-knot.ensures))

pub loop-i-init : goal.loop-i-init
loop-i-init g c =
    let z = to_z w64 (of_z w64 c.args.about) in
    let some = c.len-i.ensures.some in
    let last : c.len-i.result - 1 + 1 ≡ length c.args.self.now = omega (arith, some, c.len-i.ensures.value) in
    let only = only_ends g.P.Shape c.in_ok-built.built c.mirror-2.result c.mirror.result c.in_ok-built.ensures in
    record {
      inside = omega (arith, some, c.len-i.ensures.value);
      tells = mirror_first g.P.Shape c.args.self.now c.in_ok-built.built z (c.len-i.result - 1) c.knot-last.result c.mirror-2.result c.mirror.result
          c.len-i.ensures.signal c.knot-last.ensures c.mirror.ensures.value c.mirror-2.ensures.value c.in_ok-built.ensures;
      begins = subst (λ s. s ≈ subtract (whole z) (stop c.args.self.now)) (sym only.0)
          (subst (λ s. value c.mirror.result ≈ subtract (whole z) s)
          (sym (last_is g.P.Shape c.args.self.now (c.len-i.result - 1) c.knot-last.result c.knot-last.ensures last)) c.mirror.ensures.value);
      ends = λ k h. subst (λ s. s ≈ subtract (whole z) (time k)) (sym only.1)
          (subst (λ k. value c.mirror.result ≈ subtract (whole z) (time k))
          (same_knot g.P.Shape c.args.self.now (c.len-i.result - 1) h c.knot-last.ensures) c.mirror.ensures.value);
      bases = subst (BasesFrom g.P.Shape (λ b. z -ℤ b) c.args.self.now) (sym c.in_ok-built.ensures)
          (bases_first g.P.Shape (λ b. z -ℤ b) c.args.self.now c.mirror-2.result c.knot-last.result.point c.mirror.result
          (shape_at g.P.Shape c.args.self.now (c.len-i.result - 1) c.knot-last.result c.knot-last.ensures) c.mirror-2.ensures.base);
    }

next_of : {X : Type 0} (xs : List X) (i : ℕ) (x : X) → 0 < i → i < length xs → slice_get xs (i - 1) ≡ Some x → slice_get xs (i - 1 + 1) ≡ Some (get_or xs i x)
next_of xs i x some inside h = let e : i - 1 + 1 ≡ i = omega (arith, some) in
    subst (λ j. slice_get xs j ≡ Some (get_or xs i x)) (sym e) (slice_get-get_or xs i x inside)

pub step-requires-clause-limited : goal.step-requires-clause-limited
step-requires-clause-limited g c =
    let e : to_z w64 (of_z w64 c.args.about) ≡ c.args.about = to_z-of_z w64 c.args.about c.ranges.about in
    let n = get_or c.args.self.now c.loop-i.i c.knot-knot.result in
    let here = slice_get-get_or c.args.self.now c.loop-i.i c.knot-knot.result c.loop-i.invariant.inside in
    within_same (2 ^ 34) (same_sym (subst (λ z. stop c.loop-i.built ≈ subtract (whole z) (time n)) e (c.loop-i.invariant.ends n here)))
    (mirror_within g.P.Shape (2 ^ 34) c.args.about c.args.self.now c.loop-i.i n c.len-i.ensures.signal here c.requires.from_within c.requires.to_within)

pub step-requires-clause-later : goal.step-requires-clause-later
step-requires-clause-later g c =
    let n = get_or c.args.self.now c.loop-i.i c.knot-knot.result in
    let here = slice_get-get_or c.args.self.now c.loop-i.i c.knot-knot.result c.loop-i.invariant.inside in
    mirror_later g.P.Shape c.args.self.now (to_z w64 (of_z w64 c.args.about)) (c.loop-i.i - 1) c.knot-knot.result n c.len-i.ensures.signal c.knot-knot.ensures
    (next_of c.args.self.now c.loop-i.i c.knot-knot.result c.loop-i-test.true c.loop-i.invariant.inside c.knot-knot.ensures)
    (c.loop-i.invariant.ends n here) c.mirror-in-loop-i.ensures.value

pub loop-i-preserved : goal.loop-i-preserved
loop-i-preserved g c =
    let z = to_z w64 (of_z w64 c.args.about) in
    let n = get_or c.args.self.now c.loop-i.i c.knot-knot.result in
    let here = slice_get-get_or c.args.self.now c.loop-i.i c.knot-knot.result c.loop-i.invariant.inside in
    let on = c.in_ok-step.ensures.ok in
    let step : MovesOn g.P.Shape c.args.self.now (λ t. subtract (whole z) t) c.knot-knot.result c.knot-knot.result c.loop-i.built c.step.new.self = record {
      after = c.mirror-after.result;
      at = c.mirror-in-loop-i.result;
      point = c.mirror-in-loop-i-2.result;
      so_far = c.loop-i.invariant.tells;
      on = on;
      arrives = mirror_back z c.mirror-in-loop-i.ensures.value;
      afters = c.mirror-after.ensures.value;
      points = c.mirror-in-loop-i-2.ensures.value;
    } in
    record {
      inside = let h = c.loop-i.invariant.inside in omega (arith, h);
      tells = mirror_on g.P.Shape c.args.self.now z (c.loop-i.i - 1) c.knot-knot.result n c.len-i.ensures.signal c.knot-knot.ensures
          (next_of c.args.self.now c.loop-i.i c.knot-knot.result c.loop-i-test.true c.loop-i.invariant.inside c.knot-knot.ensures)
          step (c.loop-i.invariant.ends n here);
      begins = subst (λ s. s ≈ subtract (whole z) (stop c.args.self.now)) (sym on.begins) c.loop-i.invariant.begins;
      ends = λ k h. subst (λ s. s ≈ subtract (whole z) (time k)) (sym on.ends)
          (subst (λ k. value c.mirror-in-loop-i.result ≈ subtract (whole z) (time k))
          (same_knot g.P.Shape c.args.self.now (c.loop-i.i - 1) h c.knot-knot.ensures) c.mirror-in-loop-i.ensures.value);
      bases = bases_on g.P.Shape (λ b. z -ℤ b) c.args.self.now c.knot-knot.result.after c.knot-knot.result.point
          c.loop-i.invariant.bases on (shape_after g.P.Shape c.args.self.now (c.loop-i.i - 1) c.knot-knot.result c.knot-knot.ensures)
          c.mirror-after.ensures.base
          (shape_at g.P.Shape c.args.self.now (c.loop-i.i - 1) c.knot-knot.result c.knot-knot.ensures) c.mirror-in-loop-i-2.ensures.base;
    }

pub returns-clause-worth : goal.returns-clause-worth
returns-clause-worth g c =
    let e : to_z w64 (of_z w64 c.args.about) ≡ c.args.about = to_z-of_z w64 c.args.about c.ranges.about in
    let first = first_is g.P.Shape c.args.self.now c.len-i.ensures.signal.some in
    let zero : c.loop-i.i ≡ 0 = let h = c.loop-i-test.false in omega (arith, h) in
    subst (λ z. Tells g.P.Shape (λ t v. IsWorth g.P.Shape c.args.self.now (subtract (whole z) t) v) (subtract (whole z) (stop c.args.self.now))
    (subtract (whole z) (start c.args.self.now)) c.finish.result) e
    (subst (Tells g.P.Shape (λ t v. IsWorth g.P.Shape c.args.self.now (subtract (whole (to_z w64 (of_z w64 c.args.about))) t) v)
    (subtract (whole (to_z w64 (of_z w64 c.args.about))) (stop c.args.self.now))
    (subtract (whole (to_z w64 (of_z w64 c.args.about))) (start c.args.self.now))) (sym c.finish.ensures.value)
    (told g.P.Shape (λ t v. IsWorth g.P.Shape c.args.self.now (subtract (whole (to_z w64 (of_z w64 c.args.about))) t) v)
    (subtract (whole (to_z w64 (of_z w64 c.args.about))) (stop c.args.self.now))
    (subtract (whole (to_z w64 (of_z w64 c.args.about))) (start c.args.self.now)) c.loop-i.built
    (moved_is_function g.P.Shape c.args.self.now (λ t. subtract (whole (to_z w64 (of_z w64 c.args.about))) t)
    (λ t u e. mirror_same (to_z w64 (of_z w64 c.args.about)) e) c.len-i.ensures.signal) c.loop-i.invariant.tells c.loop-i.invariant.begins
    (subst (λ s. stop c.loop-i.built ≈ subtract (whole (to_z w64 (of_z w64 c.args.about))) s) (sym first.2)
    (c.loop-i.invariant.ends first.0 (subst (λ i. slice_get c.args.self.now i ≡ Some first.0) (sym zero) first.1)))))

pub returns-clause-bases : goal.returns-clause-bases
returns-clause-bases g c =
    let e : to_z w64 (of_z w64 c.args.about) ≡ c.args.about = to_z-of_z w64 c.args.about c.ranges.about in
    subst (λ z. BasesFrom g.P.Shape (λ b. z -ℤ b) c.args.self.now c.finish.result) e
    (subst (BasesFrom g.P.Shape (λ b. to_z w64 (of_z w64 c.args.about) -ℤ b) c.args.self.now) (sym c.finish.ensures.value) c.loop-i.invariant.bases)
