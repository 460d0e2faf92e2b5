use Rattle.std.proofs.Common.{◌≡◌, ◌+◌, ◌<◌, ◌≤◌, ◌⊎◌, inl, inr, ℕ, suc, sym, subst, arith}
use Rattle.implicants.specs.SameCells.{SaysSame}
use Rattle.implicants.proofs.certainty.same_until.Goals as goal

-- below two places more is below the first, or one of the two
two_more : (j e : ℕ) → j < e + 2 → (j < e) ⊎ (j ≡ e) ⊎ (j ≡ e + 1)
two_more j e h = grind (arith, h)

one_place : (j c : ℕ) → c ≤ j → j < c + 1 → j ≡ c
one_place j c h k = omega (arith, h, k)

pub loop-e-init : goal.loop-e-init
loop-e-init c =
    let all = c.args.cells.now.all.items in
    let m = c.requires.more in
    record {
      gaps = 0;
      at = omega arith;
      below = omega (arith, m);
      same = λ j low high. subst (SaysSame all c.args.left c.args.kept.now c.args.value.now) (sym (one_place j c.args.c low high)) c.requires.first;
    }

pub loop-e-preserved : goal.loop-e-preserved
loop-e-preserved c =
    let all = c.args.cells.now.all.items in
    let before = c.loop-e.invariant in
    let at = before.at in
    let test = c.loop-e-test.true in
    let says = c.say_same.ensures c.if-not-say_same.false in
    record {
      gaps = suc before.gaps;
      at = omega (arith, at);
      below = omega (arith, test);
      same = λ j low high. elim (two_more j c.loop-e.e high) [
        | inl h ↦ before.same j low h
        | inr h ↦ elim h [
          | inl e ↦ subst (SaysSame all c.args.left c.args.kept.now c.args.value.now) (sym e) says.0
          | inr e ↦ subst (SaysSame all c.args.left c.args.kept.now c.args.value.now) (sym e) says.1
        ]
      ];
    }

pub overflow_sub-to : goal.overflow_sub-to
overflow_sub-to c = let b = c.loop-e.invariant.below in omega (arith, b)

pub say_same-requires-clause-within : goal.say_same-requires-clause-within
say_same-requires-clause-within c = let test = c.loop-e-test.true in let w = c.requires.within in omega (arith, test, w)

pub returns-then-not-say_same : goal.returns-then-not-say_same
returns-then-not-say_same c = c.loop-e.invariant

pub returns : goal.returns
returns c = c.loop-e.invariant
