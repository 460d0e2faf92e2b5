-- How much a row costs at most, by how many parts a formula has: neither how they nest nor how wide their windows are matters.
use Rattle.std.specs.Prelude.{ℕ, suc, ◌+◌, ◌*◌, ◌<◌, ◌≤◌, List, length}
use Rattle.stl_syntax.specs.Formula.{Subformula, subformula, constant, atom, negation, conjunction, disjunction}
use Rattle.stl_syntax.specs.Formula.{implication, until, eventually, always, since, once, historically}
use Rattle.stl_syntax.specs.PostOrder.{IsPostOrder}
use Rattle.stl_syntax.specs.declared.node.Node.{Node}
use Rattle.bounds.specs.Turns.{turns_for_a_row}
use Rattle.bounds.specs.Rests.{verdicts_for_a_row}

-- how many operators, atoms and constants a formula has
abbrev pub parts_of : Subformula → ℕ
parts_of (constant b) = 1
parts_of (atom i a) = 1
parts_of (negation p) = suc (parts_of p)
parts_of (conjunction p q) = suc (parts_of p + parts_of q)
parts_of (disjunction p q) = suc (parts_of p + parts_of q)
parts_of (implication p q) = suc (parts_of p + parts_of q)
parts_of (until a b p q) = suc (parts_of p + parts_of q)
parts_of (eventually a b a_in b_in p) = suc (parts_of p)
parts_of (always a b a_in b_in p) = suc (parts_of p)
parts_of (since a b p q) = suc (parts_of p + parts_of q)
parts_of (once a b a_in b_in p) = suc (parts_of p)
parts_of (historically a b a_in b_in p) = suc (parts_of p)

-- for a row the truth of a formula turns at most four times for each of its parts, and its edge holds or gets at most nine verdicts for each
abbrev pub RowsCostFew : Type 0
RowsCostFew = (p : Subformula) → (turns_for_a_row p ≤ 4 * parts_of p) × (verdicts_for_a_row p ≤ 9 * parts_of p)

-- the formula at a place has no more parts than there are nodes up to it
abbrev pub PlacesHaveFewParts : Type 0
PlacesHaveFewParts = (nodes : List Node) → IsPostOrder nodes → (i : ℕ) → i < length nodes → parts_of (subformula nodes i) ≤ suc i
