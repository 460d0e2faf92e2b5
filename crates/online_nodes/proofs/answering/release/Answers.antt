use Rattle.std.proofs.Common.{rules, true, false, sym, ap, subst, ◌≡◌, ◌∙◌, ℤ, neg_ℤ, ◌+ℤ◌, to_z, of_z, to_z-of_z}
use Rattle.std.specs.Int.{w64}
use Rattle.online_nodes.specs.Answering.{back_by, looks_by, HasReleased, IsOperand}
use Rattle.online_nodes.specs.declared.kind.Kind.{Kind}
use Rattle.online_nodes.specs.declared.kind.Kind.TheVariants.{Over, Until, Since}
use Rattle.online_nodes.proofs.AnsweringLemmas.{front_itself, released_one, released_two}
use Rattle.online_nodes.proofs.answering.release.Goals as goal

-- a front moved back, through the machine's numbers
by_machine : (r f k f' k' : ℤ) → r ≡ f' +ℤ neg_ℤ k' → f' ≡ f → k' ≡ k → r ≡ f +ℤ neg_ℤ k
by_machine r f k f' k' e a b = e ∙ ap (λ x. x +ℤ neg_ℤ k') a ∙ ap (λ x. f +ℤ neg_ℤ x) b

pub returns-in-Over : goal.returns-in-Over
returns-in-Over c =
    let able = rw c.in-Over.is at c.requires.able in
    let g = c.drop_by-in-Over.ensures in
    let w = c.in-Over.window in
    let limit : to_z w64 (of_z w64 c.earlier_by.result) ≡ c.args.front +ℤ neg_ℤ (back_by w) =
    (search (rules, to_z-of_z)) ∙ by_machine c.earlier_by.result c.args.front (back_by w) (to_z w64 (of_z w64 c.args.front))
    (to_z w64 (of_z w64 c.back.result))
    c.earlier_by.ensures (search (rules, to_z-of_z)) ((search (rules, to_z-of_z)) ∙ c.back.ensures) in
    subst (λ (k : Kind). HasReleased k c.args.front c.args.edges.now c.drop_by-in-Over.new.self) (sym c.in-Over.is)
    (released_one (Over w) c.args.front w.of (to_z w64 (of_z w64 c.earlier_by.result))
    (λ left k.
    elim left as (λ b. IsOperand (Over w) b k → (w.of ≡ k) × (to_z w64 (of_z w64 c.earlier_by.result) ≡ c.args.front +ℤ looks_by (Over w) b))
    [ true ↦ λ side. (side, limit) | false ↦ λ side. absurd side ])
    (λ k same. same) able.0 g.dropped g.others g.start g.spare)

pub returns-in-Until : goal.returns-in-Until
returns-in-Until c =
    let u = c.in-Until.until in
    let front_is : to_z w64 (of_z w64 c.args.front) ≡ c.args.front +ℤ looks_by (Until u) true =
    (search (rules, to_z-of_z)) ∙ front_itself c.args.front in
    let limit : to_z w64 (of_z w64 c.earlier_by-right_by.result) ≡ c.args.front +ℤ neg_ℤ u.window.end_by =
    (search (rules, to_z-of_z)) ∙ by_machine c.earlier_by-right_by.result c.args.front u.window.end_by (to_z w64 (of_z w64 c.args.front))
    (to_z w64 (of_z w64 u.window.end_by))
    c.earlier_by-right_by.ensures (search (rules, to_z-of_z)) (search (rules, to_z-of_z)) in
    subst (λ (k : Kind). HasReleased k c.args.front c.args.edges.now c.release_two-in-Until.new.edges) (sym c.in-Until.is)
    (released_two (Until u) c.args.front u.window.of u.right (to_z w64 (of_z w64 c.args.front)) (to_z w64 (of_z w64 c.earlier_by-right_by.result))
    (λ k side. (side, front_is)) (λ k side. (side, limit)) (λ k is. is) c.release_two-in-Until.ensures)

pub returns-in-Since : goal.returns-in-Since
returns-in-Since c =
    let s = c.in-Since.since in
    let limit : to_z w64 (of_z w64 c.earlier_by-by.result) ≡ c.args.front +ℤ neg_ℤ (back_by s.window) =
    (search (rules, to_z-of_z)) ∙ by_machine c.earlier_by-by.result c.args.front (back_by s.window) (to_z w64 (of_z w64 c.args.front))
    (to_z w64 (of_z w64 c.back-in-Since.result))
    c.earlier_by-by.ensures (search (rules, to_z-of_z)) ((search (rules, to_z-of_z)) ∙ c.back-in-Since.ensures) in
    subst (λ (k : Kind). HasReleased k c.args.front c.args.edges.now c.release_two-in-Since.new.edges) (sym c.in-Since.is)
    (released_two (Since s) c.args.front s.window.of s.right (to_z w64 (of_z w64 c.earlier_by-by.result)) (to_z w64 (of_z w64 c.earlier_by-by.result))
    (λ k side. (side, limit)) (λ k side. (side, limit)) (λ k is. is) c.release_two-in-Since.ensures)
