-- One number more.
use Rattle.std.proofs.Common.{◌≡◌, ◌≤◌, ◌+◌, List, ℕ, max, get_or, take, drop, ap, ◌∙◌, arith, subst, sym}
use Rattle.std.specs.Prelude.{All}
use Rattle.std.proofs.lemmas.List.{take_more, drop_more, take_all}
use Rattle.std.proofs.lemmas.List.Elements.{All-push}
use Rattle.trace_reader.specs.TraceText.{greatest}
use Rattle.trace_reader.proofs.room.greatest.Goals as goal

weaker : (m n : ℕ) (xs : List ℕ) → m ≤ n → All (λ x. x ≤ m) xs → All (λ x. x ≤ n) xs
weaker m n xs h a = λ k d l. omega (arith, a k d l)

pub loop-n-preserved : goal.loop-n-preserved
loop-n-preserved c =
    let xs = c.args.numbers.now in
    let i = c.loop-n.n-index in
    let n = get_or xs i 0 in
    let old = c.loop-n.invariant in
    let small : n ≤ 6 = c.requires.numbers i 0 c.loop-n-test.true in
    let most : c.max-most.result ≡ max c.loop-n.most n = c.max-most.ensures in (
      old.0 ∙ (ap (greatest c.loop-n.most) (drop_more xs i 0 c.loop-n-test.true) ∙ ap (λ m. greatest m (drop (i + 1) xs)) (sym most)),
      omega (arith, most, small, old.1),
      subst (λ t. All (λ x. x ≤ c.max-most.result) t) (sym (take_more xs i 0 c.loop-n-test.true))
          (All-push (λ x. x ≤ c.max-most.result) (take i xs) n
          (weaker c.loop-n.most c.max-most.result (take i xs) (omega (arith, most)) old.2) (omega (arith, most))),
    )

pub returns-clause-all : goal.returns-clause-all
returns-clause-all c = subst (λ t. All (λ x. x ≤ c.loop-n.most) t) (take_all c.loop-n.n-index c.args.numbers.now c.loop-n-test.false) c.loop-n.invariant.2
