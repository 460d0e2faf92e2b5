use Rattle.std.proofs.Common.{rules, arith, ◌≡◌, ◌<◌, ◌+◌, ◌-◌, List, [], ◌∷◌, ◌++◌, length, length-append, refl, sym, ap, subst, ◌∙◌}
use Rattle.std.specs.VecDeque.{deque_len}
use Rattle.std.proofs.lemmas.List.{append_assoc}
use Rattle.rational.specs.Places.{Place}
use Rattle.frac128.specs.Cuts.{place}
use Rattle.pieces.specs.declared.steps.Step.{Step}
use Rattle.pieces.specs.Steps.{step_end, steps_end}
use Rattle.pieces.proofs.Lasts.{but_last_read, split_last}
use Rattle.pieces.proofs.StepLemmas.{steps_end_append}
use Rattle.pieces.proofs.steps.begin_of_last.Goals as goal

-- in front of the only step stands none
only : {P : Type 0} (b : Place) (xs front : List (Step P)) (last : Step P) → length xs < 2 → xs ≡ front ++ last ∷ [] → b ≡ steps_end b front
only b xs [] last few e = refl
only b xs (x ∷ front) last few e = let h : length xs ≡ length ((x ∷ front) ++ last ∷ []) = ap (λ ys. length ys) e in
    absurd (omega (arith, h, few, length-append (x ∷ front) (last ∷ [])))

pub returns-then-count-lt2 : goal.returns-then-count-lt2
returns-then-count-lt2 g c front last e =
    let long : deque_len c.args.steps.now ≡ length c.args.steps.now.items = search rules in
    let few : length c.args.steps.now.items < 2 = let n = c.len-count.ensures in let k = c.if-count-lt2.true in omega (arith, n, k, long) in
    only (place c.args.from.now) c.args.steps.now.items front last few e

pub returns : goal.returns
returns g c front last e =
    let xs = c.args.steps.now.items in
    let b = place c.args.from.now in
    let long : deque_len c.args.steps.now ≡ length xs = search rules in
    let all : length xs ≡ length (front ++ last ∷ []) = ap (λ ys. length ys) e in
    let n = c.len-count.ensures in
    let k = c.if-count-lt2.false in
    let some : 0 < length front = omega (arith, n, k, long, all, length-append front (last ∷ [])) in
    let (rest, p, two) = split_last front some in
    let whole : xs ≡ rest ++ p ∷ last ∷ [] = e ∙ ap (λ ys. ys ++ last ∷ []) two ∙ append_assoc rest (p ∷ []) (last ∷ []) in
    let count : (c.len-count.result - 2) + 2 ≡ length xs = omega (arith, n, k, long) in
    let same = but_last_read xs rest p last c.index.result.now (c.len-count.result - 2) whole count c.index.ensures in
    ap (λ s. step_end s) same
    ∙ sym (subst (λ ys. steps_end b ys ≡ step_end p) (sym two) (steps_end_append b rest (p ∷ [])))
