-- The work of the run that a stream drives.
use Rattle.std.proofs.Common.{◌≡◌, ◌⊎◌, inl, inr, refl, sym, ap, ◌∙◌, subst, ℕ, zero, suc, ◌+◌, ◌*◌, ◌-◌, ◌<◌, ◌≤◌, Bool, true, false, cond}
use Rattle.std.proofs.Common.{List, [], ◌∷◌, ◌++◌, length, length-append, arith}
use Rattle.std.proofs.Math.Nat.{mul-le-mul_left}
use Rattle.std.proofs.lemmas.Bool.{cases_order}
use Rattle.stl_syntax.specs.Trace.{Header, Row}
use Rattle.stl_syntax.specs.Formula.{subformula}
use Rattle.stl_syntax.specs.declared.node.Node.{Node}
use Rattle.online_nodes.specs.Network.{Event, row, step, close, take, is_atom, state, Emitted}
use Rattle.online_nodes.specs.Driven.{rows_of, steps_of, takes, IsDriven, nothing, by_rows, by_end}
use Rattle.online_nodes.proofs.EmittedLaw.{taken_within}
use Rattle.bounds.specs.Rests.{verdicts_for_a_row}
use Rattle.bounds.proofs.BooksRight.{books_are_right}
use Rattle.bounds.proofs.GivenFew.{given_are_few}
use Rattle.watch_bounds.specs.Holdings.{total, all_for_a_row}
use Rattle.watch_bounds.specs.Work.{steps_in, WorkIsLinear}
use Rattle.watch_bounds.proofs.HeldOnEdges.{driven_rows}
use Rattle.watch_bounds.proofs.Totals.{total_twice}

steps_append : (a b : List Event) → steps_in (a ++ b) ≡ steps_in a + steps_in b
steps_append [] b = omega arith
steps_append (step i ∷ a) b = let e = steps_append a b in omega (arith, e)
steps_append (row r ∷ a) b = steps_append a b
steps_append (close ∷ a) b = steps_append a b
steps_append (take ∷ a) b = steps_append a b

no_steps_by_rows : (rows : List Row) → steps_in (rows_of rows) ≡ 0
no_steps_by_rows [] = refl
no_steps_by_rows (r ∷ rows) = no_steps_by_rows rows

no_steps_by_takes : (n : ℕ) → steps_in (takes n) ≡ 0
no_steps_by_takes zero = refl
no_steps_by_takes (suc n) = no_steps_by_takes n

-- a step of each node at most
steps_of_all : (i : ℕ) (nodes : List Node) → steps_in (steps_of i nodes) ≤ length nodes
steps_of_all i [] = omega arith
steps_of_all i (n ∷ nodes) = by_test (is_atom n) (steps_of_all (suc i) nodes)
  where
    by_test : (b : Bool) → steps_in (steps_of (suc i) nodes) ≤ length nodes
        → steps_in (cond b (steps_of (suc i) nodes) (step i ∷ steps_of (suc i) nodes)) ≤ length (n ∷ nodes)
    by_test true h = omega (arith, h)
    by_test false h = omega (arith, h)

steps_of_pass : (nodes : List Node) (n : ℕ) → steps_in (steps_of 0 nodes ++ takes n) ≤ length nodes
steps_of_pass nodes n =
    let a = steps_append (steps_of 0 nodes) (takes n) in
    let b = no_steps_by_takes n in
    let c = steps_of_all 0 nodes in
    omega (arith, a, b, c)

-- once more, where the end came
once_more : Bool → ℕ
once_more true = 1
once_more false = 0

one_pass_more : (m n k r s : ℕ) → m ≤ n * k → s ≤ n → suc k ≤ r → m + s ≤ n * r
one_pass_more m n k r s h l e = let q = mul-le-mul_left n e in omega (arith, h, l, q)

-- a pass for each row at most, and one at the end
driven_steps : (nodes : List Node) (header : Header) {rows : List Row} {ended : Bool} {events : List Event} → IsDriven nodes header rows ended events
    → steps_in events ≤ length nodes * (length rows + once_more ended)
unfolding once_more
driven_steps nodes header nothing = omega arith
driven_steps nodes header (by_rows {rows = rows} {events = events} more r n few before emptied) =
    let h = driven_steps nodes header before in
    let a = steps_append (events ++ rows_of more) (row r ∷ (steps_of 0 nodes ++ takes n)) in
    let b = steps_append events (rows_of more) in
    let c = no_steps_by_rows more in
    let d = steps_of_pass nodes n in
    let e = length-append (rows ++ more) (r ∷ []) in
    let f = length-append rows more in
    let k = one_pass_more (steps_in events) (length nodes) (length rows + 0) (length ((rows ++ more) ++ r ∷ []) + 0) (steps_in (steps_of 0 nodes ++ takes n))
    h d (omega (arith, e, f)) in
    omega (arith, a, b, c, k)
driven_steps nodes header (by_end {rows = rows} {events = events} n before some emptied) =
    let h = driven_steps nodes header before in
    let a = steps_append events (close ∷ (steps_of 0 nodes ++ takes n)) in
    let d = steps_of_pass nodes n in
    let k = one_pass_more (steps_in events) (length nodes) (length rows + 0) (length rows + 1) (steps_in (steps_of 0 nodes ++ takes n))
    h d (omega arith) in
    omega (arith, a, k)

at_most_one : (ended : Bool) → once_more ended ≤ 1
unfolding once_more
at_most_one true = omega arith
at_most_one false = omega arith

-- what is put and gone of one edge
of_one : (v N put gone : ℕ) → put ≤ v * suc N + 1 → gone ≤ put → put + gone ≤ 2 * ((v + 1) * suc N)
of_one v N put gone h k = omega (arith, h, k)

all_work : (n steps work c N : ℕ) → steps ≤ n * suc N → work ≤ 2 * (c * suc N) → steps + work ≤ (n + 2 * c) * suc N
all_work n steps work c N h k = omega (arith, h, k)

pub work_is_linear : WorkIsLinear
work_is_linear nodes header order rows ended events run driven put gone books =
    all_work (length nodes) (steps_in events) (total (λ i. put i + gone i) (length nodes)) (all_for_a_row nodes) (length rows) steps
    (total_twice (λ i. put i + gone i) (λ i. verdicts_for_a_row (subformula nodes i) + 1) (suc (length rows)) (length nodes) each)
  where
    steps : steps_in events ≤ length nodes * suc (length rows)
    steps =
        let a = driven_steps nodes header driven in
        let b = at_most_one ended in
        let c = mul-le-mul_left (length nodes) (let x : length rows + once_more ended ≤ suc (length rows) = omega (arith, b) in x) in
        omega (arith, a, c)

    rows_are : length (state nodes events).rows ≡ length rows
    rows_are = ap length (driven_rows nodes header driven)

    each : (i : ℕ) → i < length nodes → put i + gone i ≤ 2 * ((verdicts_for_a_row (subformula nodes i) + 1) * suc (length rows))
    each i within = by_place (cases_order i (length nodes - 1))
      where
        Few : ℕ → ℕ → Type 0
        Few m n = m ≤ verdicts_for_a_row (subformula nodes i) * suc n + 1

        by_place : (i ≡ length nodes - 1) ⊎ ((i < length nodes - 1) ⊎ (length nodes - 1 < i))
            → put i + gone i ≤ 2 * ((verdicts_for_a_row (subformula nodes i) + 1) * suc (length rows))
        by_place (inl e) =
            let few = given_are_few nodes header order events run i within books.given
            (subst (λ j. Emitted nodes header events j books.given) (sym e) books.is_given) in
            let now = subst (λ n. Few (length books.given) n) rows_are few in
            let a : put i ≡ length books.given = ap put e ∙ books.root_put in
            let b = taken_within nodes header books.root_gone books.given books.is_given in
            let c : gone i ≡ gone (length nodes - 1) = ap gone e in
            of_one (verdicts_for_a_row (subformula nodes i)) (length rows) (put i) (gone i) (omega (arith, now, a)) (omega (arith, a, b, c))
        by_place (inr (inl h)) =
            let one = books.edges i (omega (arith, h, within)) in
            let right = books_are_right nodes header order events run i within (put i) (gone i) one.0 one.1 in
            let now = subst (λ n. Few (put i) n) rows_are right.1 in
            let a = right.0 in
            of_one (verdicts_for_a_row (subformula nodes i)) (length rows) (put i) (gone i) now (omega (arith, a))
        by_place (inr (inr h)) = absurd (omega (arith, h, within))
