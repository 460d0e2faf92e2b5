use Rattle.std.proofs.Common.{arith, ◌≡◌, ◌+◌, ◌≤◌, false, Result, Ok, Err, refl, sym, ◌∙◌, subst}
use Rattle.std.specs.Prelude.{OnOk}
use Rattle.std.specs.Result.{is_err}
use Rattle.std.specs.VecDeque.{deque_len, deque_capacity}
use Rattle.std.proofs.lemmas.Bool.{false≢true}
use Rattle.rational.proofs.Order.{le_refl}
use Rattle.rational.proofs.PlaceLemmas.{le_of_at_most}
use Rattle.frac128.specs.Cuts.{place}
use Rattle.pieces.specs.Steps.{steps_end, AreSteps, FallOff, HasCounted, IsCapped, IsLevel}
use Rattle.pieces.proofs.StepLemmas.{constant_step, counted_on, counted_whole, level_on, to_end}
use Rattle.pieces.proofs.steps.count.Given.{Over}
use Rattle.pieces.proofs.steps.count.Goals.{Start, After-cap}
use Rattle.pieces.proofs.steps.count.Goals as goal

-- a result that is no error is good
ok_of : {T E X : Type 0} (r : Result T E) → OnOk r X → is_err r ≡ false → X
ok_of (Ok x) h e = h
ok_of (Err x) h e = absurd (false≢true (sym e))

-- the constant as far as the steps go
level : (g : Over) (c : Start g)
    → IsLevel g.P.Shape c.args.side (place c.args.from.now) (steps_end (place c.args.from.now) c.args.steps.now.items) c.args.constant.now
level g c = level_on g.P.Shape c.args.side c.args.constant.now (le_refl (place c.args.from.now).at)
    (le_of_at_most (steps_end (place c.args.from.now) c.args.steps.now.items) (place c.args.until.now) c.requires.last) c.requires.level

capped : (g : Over) (c : After-cap g)
    → IsCapped g.P.Shape c.args.side (place c.args.from.now) c.args.steps.now.items c.args.constant.now c.cap.new.steps.items
capped g c = subst (λ xs. IsCapped g.P.Shape c.args.side (place c.args.from.now) xs c.args.constant.now c.cap.new.steps.items) c.reserve.ensures.items
    c.cap.ensures.capped

pub cap-requires : goal.cap-requires
cap-requires g c = record {
  steps = subst (AreSteps g.P.Shape c.args.side (place c.args.from.now)) (sym c.reserve.ensures.items) c.requires.steps;
  from_within = c.requires.from_within;
  falls = subst (λ xs. FallOff g.P.Shape c.args.side (place c.args.from.now) xs) (sym c.reserve.ensures.items) c.requires.falls;
  level = subst (λ xs. IsLevel g.P.Shape c.args.side (place c.args.from.now) (steps_end (place c.args.from.now) xs) c.args.constant.now)
      (sym c.reserve.ensures.items) (level g (goal.at.cap-requires g c).Start);
  room = let h : deque_len c.reserve.new.self + 1 ≤ deque_capacity c.reserve.new.self =
      ok_of c.reserve.result c.reserve.ensures.ok (sym c.if-is_err.ensures.value) in omega (arith, h);
}

pub returns-then-ends_before : goal.returns-then-ends_before
returns-then-ends_before g c =
    let at = goal.at.returns-then-ends_before g c in
    let b = place c.args.from.now in
    let later = c.ends_before.ensures.0 c.if-ends_before.true in
    let cap = capped g at.After-cap in
    subst (λ xs. HasCounted g.P.Shape c.args.side b c.args.steps.now.items c.args.constant.now (place c.args.until.now) xs)
    (sym c.push_back_reserved.ensures.items)
    (counted_on g.P.Shape c.args.side b c.args.steps.now.items c.args.constant.now c.requires.steps c.requires.falls (level g at.Start)
    c.cap.new.steps.items (place c.args.until.now) cap c.requires.last _ refl refl refl
    (constant_step g.P.Shape c.args.side b (steps_end b c.cap.new.steps.items) c.args.until.now c.args.constant.now
    (to_end g.P.Shape c.args.side b c.cap.new.steps.items cap.steps) later c.requires.until_within c.requires.level))

pub returns-else-ends_before : goal.returns-else-ends_before
returns-else-ends_before g c =
    let at = goal.at.returns-else-ends_before g c in
    counted_whole g.P.Shape c.args.side (place c.args.from.now) c.args.steps.now.items c.args.constant.now c.requires.steps c.requires.falls
    (level g at.Start) c.cap.new.steps.items (place c.args.until.now) (capped g at.After-cap) c.requires.last
    (λ b. false≢true (sym c.if-ends_before.false ∙ c.ends_before.ensures.1 b))
