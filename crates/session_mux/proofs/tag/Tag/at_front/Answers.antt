use Rattle.std.proofs.Common.{◌≡◌, ℕ, ◌+◌, ◌≤◌, List, ◌++◌, length, take, codes, arith, sym, ap, ◌∙◌}
use Rattle.std.proofs.lemmas.List.{take-take, take_all, take-append-le}
use Rattle.answer_lines.specs.After.{IsAdded}
use Rattle.session_mux.proofs.tag.Tag.at_front.Goals as goal

-- the tag, and with the space
kept : (tag old mid new : List ℕ) (n m : ℕ) → IsAdded tag old 0 mid n → IsAdded (codes " ") mid n new m → length tag ≤ 16
    → (n ≤ 16) × (take n new ≡ tag) × (take (n + 1) new ≡ take n new ++ codes " ")
kept tag old mid new n m a b few =
    let size : n ≡ length tag = omega (arith, a.size) in
    let next : m ≡ n + 1 = b.size in
    let both : take (n + 1) new ≡ tag ++ codes " " = ap (λ k. take k new) (sym next) ∙ b.added ∙ ap (λ w. w ++ codes " ") a.added in
    let front : take n new ≡ tag =
    sym (take-take n (n + 1) new (omega arith)) ∙ ap (take n) both ∙ take-append-le n tag (codes " ") (omega (arith, size))
    ∙ take_all n tag (omega (arith, size)) in
    (omega (arith, size, few), front, both ∙ ap (λ w. w ++ codes " ") (sym front))

pub invariant_of-result : goal.invariant_of-result
invariant_of-result c =
    let (few, is, next) =
    kept c.args.tag.now _ _ c.add_byte.new.buf c.put_front-len.result _ c.put_front-len.ensures c.add_byte.ensures c.requires.few in (few, next)

pub returns : goal.returns
returns c =
    let (few, is, next) =
    kept c.args.tag.now _ _ c.add_byte.new.buf c.put_front-len.result _ c.put_front-len.ensures c.add_byte.ensures c.requires.few in is
