use Rattle.std.proofs.Common.{rules, ◌≡◌, ◌+◌, ◌-◌, ◌≤◌, ◌∷◌, ◌++◌, [], suc, arith, length, take, subst, sym, ap, ◌∙◌}
use Rattle.std.specs.Prelude.{Some, slice_get}
use Rattle.std.specs.VecDeque.{deque_len}
use Rattle.std.proofs.lemmas.Option.{slice_get_read, same_Some}
use Rattle.std.proofs.lemmas.List.{nil_from_length}
use Rattle.window_extrema.specs.Range.{IsAtMost}
use Rattle.window_extrema.specs.Stairs.{AreStairs, AreStairsTo, spread}
use Rattle.rational.proofs.ExtendedLemmas.{le_of_ltᵉ}
use Rattle.rational.proofs.Lists.{last_apart}
use Rattle.window_extrema.proofs.StairLemmas.{at_most_where_not_greater, spread_last, with_first, with_last, without_last}
use Rattle.window_extrema.proofs.queue.drop_smaller.Goals as goal

pub overflow_add-passed : goal.overflow_add-passed
overflow_add-passed g c =
    let rest = take (deque_len c.loop-before.queue - 1) c.loop-before.queue.items in
    let e : c.loop-before.queue.items ≡ rest ++ c.in-Some.before ∷ [] =
    last_apart c.loop-before.queue.items (deque_len c.loop-before.queue) c.in-Some.before (search rules) (search rules) (search rules) in
    let over : spread c.loop-before.queue.items ≡ spread rest + suc c.in-Some.before = ap spread e ∙ spread_last rest c.in-Some.before in
    let below : c.loop-before.passed + spread c.loop-before.queue.items ≤ c.args.place = c.loop-before.invariant.0 in
    let fits = c.ranges.place.fits in
    let is : c.in-Some.field-0.now ≡ c.in-Some.before = search rules in
    search rules

pub overflow_add-passed-in_default-cmp : goal.overflow_add-passed-in_default-cmp
overflow_add-passed-in_default-cmp g c =
    let rest = take (deque_len c.loop-before.queue - 1) c.loop-before.queue.items in
    let e : c.loop-before.queue.items ≡ rest ++ c.in-Some.before ∷ [] =
    last_apart c.loop-before.queue.items (deque_len c.loop-before.queue) c.in-Some.before (search rules) (search rules) (search rules) in
    let over : spread c.loop-before.queue.items ≡ spread rest + suc c.in-Some.before = ap spread e ∙ spread_last rest c.in-Some.before in
    let below : c.loop-before.passed + spread c.loop-before.queue.items ≤ c.args.place = c.loop-before.invariant.0 in
    let fits = c.ranges.place.fits in
    let is : c.in-Some.field-0.now ≡ c.in-Some.before = search rules in
    search rules

pub loop-before-preserved : goal.loop-before-preserved
loop-before-preserved g c =
    let rest = take (deque_len c.loop-before.queue - 1) c.loop-before.queue.items in
    let e : c.loop-before.queue.items ≡ rest ++ c.in-Some.before ∷ [] =
    last_apart c.loop-before.queue.items (deque_len c.loop-before.queue) c.in-Some.before (search rules) (search rules) (search rules) in
    let over : spread c.loop-before.queue.items ≡ spread rest + suc c.in-Some.before = ap spread e ∙ spread_last rest c.in-Some.before in
    let below : c.loop-before.passed + spread c.loop-before.queue.items ≤ c.args.place = c.loop-before.invariant.0 in
    let is : c.in-Some.field-0.now ≡ c.in-Some.before = search rules in
    let end : suc (c.args.place - c.loop-before.passed - 1) ≡ c.args.place - c.loop-before.passed = omega (arith, over, below) in
    let u : slice_get c.args.items.now.items (c.args.place - c.loop-before.passed - 1) ≡ Some c.index.result.now =
    slice_get_read c.args.items.now.items (length c.args.items.now.items) (c.args.place - c.loop-before.passed - 1) c.index.result.now
    (search rules) (search rules) (search rules) in
    let v : slice_get c.args.items.now.items c.args.place ≡ Some c.index-item.result.now =
    slice_get_read c.args.items.now.items (length c.args.items.now.items) c.args.place c.index-item.result.now
    (search rules) (search rules) (search rules) in
    let le : IsAtMost g.P.Shape.function c.index.result.now c.index-item.result.now =
    at_most_where_not_greater _ _ _ c.cmp.ensures.order c.in_default-cmp.not-Greater in
    let gone : c.pop_back.new.self.items ≡ rest = c.pop_back.ensures.rest in
    let nearer : c.args.place - c.loop-before.passed - suc c.in-Some.before ≡ c.args.place - (c.loop-before.passed + (c.in-Some.field-0.now + 1)) =
    omega (arith, is) in (
      (let few = ap spread gone in omega (arith, over, below, is, few)),
      λ low h. subst (λ xs. AreStairsTo g.P.Shape.function c.args.items.now.items c.args.place low
          (c.args.place - (c.loop-before.passed + (c.in-Some.field-0.now + 1))) xs) (sym gone)
          (subst (λ n. AreStairsTo g.P.Shape.function c.args.items.now.items c.args.place low n rest) nearer
          (without_last g.P.Shape.function c.args.items.now.items c.args.place low (c.args.place - c.loop-before.passed) c.in-Some.before
          (c.args.place - c.loop-before.passed - 1) rest c.index.result.now end u
          (λ y w. subst (λ y. IsAtMost g.P.Shape.function c.index.result.now y) (same_Some _ _ (sym v ∙ w)) le)
          (subst (λ xs. AreStairsTo g.P.Shape.function c.args.items.now.items c.args.place low (c.args.place - c.loop-before.passed) xs) e
          (c.loop-before.invariant.1 low h)))),
      search rules,
      search rules,
      search rules,
    )

pub returns-in-Greater : goal.returns-in-Greater
returns-in-Greater g c =
    let rest = take (deque_len c.loop-before.queue - 1) c.loop-before.queue.items in
    let e : c.loop-before.queue.items ≡ rest ++ c.in-Some.before ∷ [] =
    last_apart c.loop-before.queue.items (deque_len c.loop-before.queue) c.in-Some.before (search rules) (search rules) (search rules) in
    let over : spread c.loop-before.queue.items ≡ spread rest + suc c.in-Some.before = ap spread e ∙ spread_last rest c.in-Some.before in
    let below : c.loop-before.passed + spread c.loop-before.queue.items ≤ c.args.place = c.loop-before.invariant.0 in
    let end : suc (c.args.place - c.loop-before.passed - 1) ≡ c.args.place - c.loop-before.passed = omega (arith, over, below) in
    let passed : c.args.place - c.loop-before.passed + c.loop-before.passed ≡ c.args.place = omega (arith, below) in
    let u : slice_get c.args.items.now.items (c.args.place - c.loop-before.passed - 1) ≡ Some c.index.result.now =
    slice_get_read c.args.items.now.items (length c.args.items.now.items) (c.args.place - c.loop-before.passed - 1) c.index.result.now
    (search rules) (search rules) (search rules) in
    let v : slice_get c.args.items.now.items c.args.place ≡ Some c.index-item.result.now =
    slice_get_read c.args.items.now.items (length c.args.items.now.items) c.args.place c.index-item.result.now
    (search rules) (search rules) (search rules) in
    let le : IsAtMost g.P.Shape.function c.index-item.result.now c.index.result.now = le_of_ltᵉ _ _ c.in-Greater.ensures.order in
    record {
      stairs = λ low h.
          subst (λ n. AreStairs g.P.Shape.function c.args.items.now.items low n (c.loop-before.queue.items ++ c.loop-before.passed ∷ [])) (omega arith)
          (subst (λ xs. AreStairs g.P.Shape.function c.args.items.now.items low (suc c.args.place) (xs ++ c.loop-before.passed ∷ [])) (sym e)
          (with_last g.P.Shape.function c.args.items.now.items c.args.place low (c.args.place - c.loop-before.passed) c.in-Some.before
          (c.args.place - c.loop-before.passed - 1) c.loop-before.passed rest c.index.result.now end passed u
          (λ y w. subst (λ y. IsAtMost g.P.Shape.function y c.index.result.now) (same_Some _ _ (sym v ∙ w)) le)
          (subst (λ xs. AreStairsTo g.P.Shape.function c.args.items.now.items c.args.place low (c.args.place - c.loop-before.passed) xs) e
          (c.loop-before.invariant.1 low h))));
      room = search rules;
      fewer = search rules;
      cost = search rules;
    }

pub returns-clause-stairs : goal.returns-clause-stairs
returns-clause-stairs g c low h =
    let e : c.loop-before.queue.items ≡ [] = nil_from_length c.loop-before.queue.items (search rules) in
    let passed : c.args.place - c.loop-before.passed + c.loop-before.passed ≡ c.args.place = (let below = c.loop-before.invariant.0 in omega (arith, below)) in
    subst (λ n. AreStairs g.P.Shape.function c.args.items.now.items low n (c.loop-before.queue.items ++ c.loop-before.passed ∷ [])) (omega arith)
    (subst (λ xs. AreStairs g.P.Shape.function c.args.items.now.items low (suc c.args.place) (xs ++ c.loop-before.passed ∷ [])) (sym e)
    (with_first g.P.Shape.function c.args.items.now.items c.args.place low (c.args.place - c.loop-before.passed) c.loop-before.passed passed
    (subst (λ xs. AreStairsTo g.P.Shape.function c.args.items.now.items c.args.place low (c.args.place - c.loop-before.passed) xs) e
    (c.loop-before.invariant.1 low h))))
