use Rattle.std.proofs.Common.{rules, ◌≡◌, ◌-◌, ◌↔◌, [], ◌∷◌, ◌++◌, take, sym, subst}
use Rattle.std.specs.Prelude.{IsTrue}
use Rattle.std.specs.VecDeque.{deque_len}
use Rattle.rational.specs.Places.{Before}
use Rattle.rational.proofs.Lists.{last_apart}
use Rattle.frac128.specs.Cuts.{place}
use Rattle.pieces.specs.Steps.{steps_end, step_end}
use Rattle.pieces.proofs.StepLemmas.{steps_end_append}
use Rattle.pieces.proofs.steps.ends_before.Goals as goal

pub returns-in-Some : goal.returns-in-Some
returns-in-Some g c =
    let xs = c.args.steps.now.items in
    let n = deque_len c.args.steps.now in
    let e : xs ≡ take (n - 1) xs ++ c.in-Some.last.now ∷ [] = last_apart xs n c.in-Some.last.now (search rules) (search rules) (search rules) in
    let ends : step_end c.in-Some.last.now ≡ steps_end (place c.args.from.now) xs =
    sym (subst (λ ys. steps_end (place c.args.from.now) ys ≡ step_end c.in-Some.last.now) (sym e)
    (steps_end_append (place c.args.from.now) (take (n - 1) xs) (c.in-Some.last.now ∷ []))) in
    subst (λ s. IsTrue c.precedes.result ↔ Before s (place c.args.until.now)) ends c.precedes.ensures
