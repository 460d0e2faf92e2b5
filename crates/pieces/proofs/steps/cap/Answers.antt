use Rattle.std.proofs.Common.{rules, arith, ◌≡◌, ◌≤◌, ◌+◌, ◌-◌, ◌^◌, ℕ, Option, Some, None, [], ◌∷◌, ◌++◌, take, refl, sym, ◌∙◌, subst}
use Rattle.std.specs.Prelude.{MatchOption}
use Rattle.std.specs.VecDeque.{deque_len}
use Rattle.std.proofs.lemmas.List.{nil_from_length}
use Rattle.rational.specs.Rational.{IsWithin}
use Rattle.rational.proofs.Lists.{last_apart}
use Rattle.rational.proofs.PlaceLemmas.{le_of_at_most}
use Rattle.frac128.specs.Cuts.{place}
use Rattle.pieces.specs.Steps.{steps_end, step_end, IsStep, IsHidden, IsCapped, IsLevel, Outlasts, with_constant}
use Rattle.pieces.proofs.StepLemmas.{Capping, capping_none, capping_on, capped_none, capped_at, last_step, level_on, steps_within}
use Rattle.pieces.proofs.steps.cap.Goals as goal

-- a list from which at most one is taken is no longer
no_more : {T : Type 0} (r : Option T) (n m : ℕ) → MatchOption r ((n ≡ 0) × (m ≡ 0)) (λ _. m + 1 ≡ n) → m ≤ n
no_more None n m h = let (a, b) = h in omega (arith, a, b)
no_more (Some x) n m h = omega (arith, h)

pub loop-last-init : goal.loop-last-init
loop-last-init g c = record {
  capping = capping_none g.P.Shape c.args.side (place c.args.from.now) c.args.steps.now.items c.args.constant.now;
  room = omega arith;
  capacity = refl;
}

pub beside-requires : goal.beside-requires
beside-requires g c =
    let b = place c.args.from.now in
    let xs = c.loop-last.steps.items in
    let last = c.in-Some.last.now in
    let rest = take (deque_len c.loop-last.steps - 1) xs in
    let items : xs ≡ rest ++ last ∷ [] = last_apart xs (deque_len c.loop-last.steps) last (search rules) (search rules) (search rules) in
    let begins = c.begin_of_last-begin.ensures rest last items in
    let (is, on, most, front) = last_step g.P.Shape c.args.side b c.args.steps.now.items c.args.constant.now c.requires.steps c.requires.falls c.requires.level
    xs rest last c.loop-last.invariant.capping items in
    record {
      is = subst (λ s. IsStep g.P.Shape c.args.side s last) (sym begins) is;
      within = subst (λ s. IsWithin (2 ^ 34) s.at) (sym begins) (steps_within g.P.Shape c.args.side b rest front c.requires.from_within);
      level = subst (λ s. IsLevel g.P.Shape c.args.side s (step_end last) c.args.constant.now) (sym begins)
          (level_on g.P.Shape c.args.side c.args.constant.now (le_of_at_most b (steps_end b rest) on)
          (le_of_at_most (step_end last) (steps_end b c.args.steps.now.items) most) c.requires.level);
    }

pub loop-last-preserved : goal.loop-last-preserved
loop-last-preserved g c =
    let b = place c.args.from.now in
    let xs = c.loop-last.steps.items in
    let last = c.in-Some.last.now in
    let rest = take (deque_len c.loop-last.steps - 1) xs in
    let items : xs ≡ rest ++ last ∷ [] = last_apart xs (deque_len c.loop-last.steps) last (search rules) (search rules) (search rules) in
    let begins = c.begin_of_last-begin.ensures rest last items in
    record {
      capping = subst (Capping g.P.Shape c.args.side b c.args.steps.now.items c.args.constant.now) (sym c.pop_back.ensures.rest)
          (capping_on g.P.Shape c.args.side b c.args.steps.now.items c.args.constant.now c.requires.steps c.requires.falls c.requires.level xs rest last
          c.loop-last.invariant.capping items (subst (λ s. IsHidden g.P.Shape c.args.side s last c.args.constant.now) begins
          c.in-Hidden.ensures));
      room = let a = no_more c.pop_back.result (deque_len c.loop-last.steps) (deque_len c.pop_back.new.self) c.pop_back.ensures.cases in
          let d = c.loop-last.invariant.room in omega (arith, a, d);
      capacity = c.pop_back.ensures.capacity ∙ c.loop-last.invariant.capacity;
    }

pub returns-in-Whole-clause-capped : goal.returns-in-Whole-clause-capped
returns-in-Whole-clause-capped g c =
    let b = place c.args.from.now in
    let xs = c.loop-last.steps.items in
    let last = c.in-Some.last.now in
    let rest = take (deque_len c.loop-last.steps - 1) xs in
    let items : xs ≡ rest ++ last ∷ [] = last_apart xs (deque_len c.loop-last.steps) last (search rules) (search rules) (search rules) in
    let begins = c.begin_of_last-begin.ensures rest last items in
    subst (λ ys. IsCapped g.P.Shape c.args.side b c.args.steps.now.items c.args.constant.now ys) (sym items)
    (capped_at g.P.Shape c.args.side b c.args.steps.now.items c.args.constant.now c.requires.steps c.requires.falls c.requires.level xs rest last last
    c.loop-last.invariant.capping items (subst (λ s. Outlasts g.P.Shape c.args.side s last c.args.constant.now last) begins c.in-Whole.ensures))

pub returns-in-Part-clause-capped : goal.returns-in-Part-clause-capped
returns-in-Part-clause-capped g c =
    let b = place c.args.from.now in
    let xs = c.loop-last.steps.items in
    let last = c.in-Some.last.now in
    let left = with_constant last c.args.constant.now in
    let rest = take (deque_len c.loop-last.steps - 1) xs in
    let items : xs ≡ rest ++ last ∷ [] = last_apart xs (deque_len c.loop-last.steps) last (search rules) (search rules) (search rules) in
    let begins = c.begin_of_last-begin.ensures rest last items in
    subst (λ ys. IsCapped g.P.Shape c.args.side b c.args.steps.now.items c.args.constant.now ys) (sym (c.cap_last.ensures.capped rest last items))
    (capped_at g.P.Shape c.args.side b c.args.steps.now.items c.args.constant.now c.requires.steps c.requires.falls c.requires.level xs rest last left
    c.loop-last.invariant.capping items (subst (λ s. Outlasts g.P.Shape c.args.side s last c.args.constant.now left) begins c.in-Part.ensures))

pub returns : goal.returns
returns g c =
    let cur : c.loop-last.steps.items ≡ [] = nil_from_length c.loop-last.steps.items (search rules) in
    record {
      capped = subst (λ xs. IsCapped g.P.Shape c.args.side (place c.args.from.now) c.args.steps.now.items c.args.constant.now xs) (sym cur)
          (capped_none g.P.Shape c.args.side (place c.args.from.now) c.args.steps.now.items c.args.constant.now c.requires.steps c.requires.falls
          c.requires.level (subst (Capping g.P.Shape c.args.side (place c.args.from.now) c.args.steps.now.items c.args.constant.now) cur
          c.loop-last.invariant.capping));
      room = let a = c.loop-last.invariant.room in let b = c.loop-last.invariant.capacity in let d = c.requires.room in omega (arith, a, b, d);
    }
