use Rattle.std.proofs.Common.{rules, arith, ◌≡◌, ◌<◌, ℕ, List, [], ◌∷◌, drop, length, ap, sym, subst}
use Rattle.std.specs.Prelude.{slice_index_or}
use Rattle.std.specs.VecDeque.{deque_len}
use Rattle.rational.specs.Extended.{value_at}
use Rattle.rational.proofs.AffineLemmas.{same_reflᵉ}
use Rattle.frac128.specs.Value.{value}
use Rattle.pieces.specs.Steps.{IsWorthWith}
use Rattle.pieces.proofs.Hands.{first_gives}
use Rattle.pieces.proofs.stream.first_step.Goals as goal

-- the first of the items, and the others
first_apart : {X : Type 0} (xs : List X) (n : ℕ) (x : X) → n ≡ length xs → 0 < n → x ≡ slice_index_or xs 0 x → xs ≡ x ∷ drop 1 xs
first_apart [] n x len some e = absurd (omega (arith, len, some))
first_apart (y ∷ ys) n x len some e = ap (λ z. z ∷ ys) (sym e)

pub returns-in-Some-other-clause-value : goal.returns-in-Some-other-clause-value
returns-in-Some-other-clause-value g c from steps at =
    let xs = c.args.steps.now.items in
    let first = c.in-Some.first.now in
    let to = value c.args.to.now in
    let v = value_at (g.P.Shape.function c.better_at.result) to in
    first_gives g.P.Shape c.args.side from xs (drop 1 xs) first to v
    (first_apart xs (deque_len c.args.steps.now) first (search rules) (search rules) (search rules)) steps at
    (subst (λ o. IsWorthWith g.P.Shape c.args.side first.shape o to v) (sym c.in-Some-other.is) c.better_at.ensures.value)

pub returns-in-None-clause-value : goal.returns-in-None-clause-value
returns-in-None-clause-value g c from steps at =
    let xs = c.args.steps.now.items in
    let first = c.in-Some.first.now in
    let to = value c.args.to.now in
    let v = value_at (g.P.Shape.function first.shape) to in
    first_gives g.P.Shape c.args.side from xs (drop 1 xs) first to v
    (first_apart xs (deque_len c.args.steps.now) first (search rules) (search rules) (search rules)) steps at
    (subst (λ o. IsWorthWith g.P.Shape c.args.side first.shape o to v) (sym c.in-None.is) (same_reflᵉ v))
