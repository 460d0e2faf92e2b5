-- How often a formula turns and rests for a row, by its parts, and how many parts the formula at a place has.
use Rattle.std.specs.Prelude.{slice_index_or, false}
use Rattle.std.proofs.Common.{◌≡◌, refl, ap, ◌∙◌, ℕ, zero, suc, ◌+◌, ◌*◌, ◌<◌, ◌≤◌, List, [], ◌∷◌, ◌++◌, length, take, arith}
use Rattle.std.proofs.lemmas.List.{length-take-le, take_more}
use Rattle.stl_syntax.specs.Formula.{Subformula, subformula, tree_of, constant, atom, negation, conjunction, disjunction}
use Rattle.stl_syntax.specs.Formula.{implication, until, eventually, always, since, once, historically}
use Rattle.stl_syntax.specs.PostOrder.{IsPostOrder, children, unused}
use Rattle.stl_syntax.specs.declared.node.Node.{Node}
use Rattle.stl_syntax.specs.declared.node.Node.TheVariants.{Const, Atom as Leaf, Not, And, Or, Implies, Until, Eventually}
use Rattle.stl_syntax.specs.declared.node.Node.TheVariants.{Always, Since, Once, Historically}
use Rattle.stl_syntax.proofs.FormulaLemmas.{subformula-at}
use Rattle.stl_syntax.proofs.PostOrderLemmas.{placed, post_order_take, slice_get_at, unused_push}
use Rattle.bounds.specs.Turns.{begins_for_a_row, turns_for_a_row}
use Rattle.bounds.specs.Rests.{rests_for_a_row}
use Rattle.bounds.specs.Parts.{parts_of, RowsCostFew, PlacesHaveFewParts}

begins_few : (p : Subformula) → begins_for_a_row p ≤ 2 * parts_of p
begins_few (constant b) = omega arith
begins_few (atom i a) = omega arith
begins_few (negation p) = let a = begins_few p in omega (arith, a)
begins_few (conjunction p q) = let a = begins_few p in let b = begins_few q in omega (arith, a, b)
begins_few (disjunction p q) = let a = begins_few p in let b = begins_few q in omega (arith, a, b)
begins_few (implication p q) = let a = begins_few p in let b = begins_few q in omega (arith, a, b)
begins_few (until x y p q) = let a = begins_few p in let b = begins_few q in omega (arith, a, b)
begins_few (eventually x y i j p) = let a = begins_few p in omega (arith, a)
begins_few (always x y i j p) = let a = begins_few p in omega (arith, a)
begins_few (since x y p q) = let a = begins_few p in let b = begins_few q in omega (arith, a, b)
begins_few (once x y i j p) = let a = begins_few p in omega (arith, a)
begins_few (historically x y i j p) = let a = begins_few p in omega (arith, a)

turns_few : (p : Subformula) → turns_for_a_row p ≤ 4 * parts_of p
turns_few (constant b) = omega arith
turns_few (atom i a) = omega arith
turns_few (negation p) = let a = turns_few p in omega (arith, a)
turns_few (conjunction p q) = let a = turns_few p in let b = turns_few q in omega (arith, a, b)
turns_few (disjunction p q) = let a = turns_few p in let b = turns_few q in omega (arith, a, b)
turns_few (implication p q) = let a = turns_few p in let b = turns_few q in omega (arith, a, b)
turns_few (until x y p q) = let a = begins_few (until x y p q) in omega (arith, a)
turns_few (eventually x y i j p) = let a = begins_few (eventually x y i j p) in omega (arith, a)
turns_few (always x y i j p) = let a = begins_few (always x y i j p) in omega (arith, a)
turns_few (since x y p q) = let a = begins_few (since x y p q) in omega (arith, a)
turns_few (once x y i j p) = let a = begins_few (once x y i j p) in omega (arith, a)
turns_few (historically x y i j p) = let a = begins_few (historically x y i j p) in omega (arith, a)

rests_few : (p : Subformula) → rests_for_a_row p ≤ parts_of p
rests_few (constant b) = omega arith
rests_few (atom i a) = omega arith
rests_few (negation p) = let a = rests_few p in omega (arith, a)
rests_few (conjunction p q) = let a = rests_few p in let b = rests_few q in omega (arith, a, b)
rests_few (disjunction p q) = let a = rests_few p in let b = rests_few q in omega (arith, a, b)
rests_few (implication p q) = let a = rests_few p in let b = rests_few q in omega (arith, a, b)
rests_few (until x y p q) = let a = rests_few p in let b = rests_few q in omega (arith, a, b)
rests_few (eventually x y i j p) = let a = rests_few p in omega (arith, a)
rests_few (always x y i j p) = let a = rests_few p in omega (arith, a)
rests_few (since x y p q) = let a = rests_few p in let b = rests_few q in omega (arith, a, b)
rests_few (once x y i j p) = let a = rests_few p in omega (arith, a)
rests_few (historically x y i j p) = let a = rests_few p in omega (arith, a)

pub rows_cost_few : RowsCostFew
rows_cost_few p = let a = turns_few p in let b = rests_few p in (a, omega (arith, a, b))

-- the parts of the formulas at these places
parts_at : (ℕ → Subformula) → List ℕ → ℕ
parts_at at [] = 0
parts_at at (i ∷ places) = parts_of (at i) + parts_at at places

parts_append : (at : ℕ → Subformula) (a b : List ℕ) → parts_at at (a ++ b) ≡ parts_at at a + parts_at at b
unfolding parts_at
parts_append at [] b = omega arith
parts_append at (i ∷ a) b = let e = parts_append at a b in omega (arith, e)

-- a node is one part more than its children
parts_of_node : (at : ℕ → Subformula) (i : ℕ) (n : Node) → parts_of (tree_of at i n) ≡ suc (parts_at at (children n))
unfolding parts_at
parts_of_node at i (Const b) = refl
parts_of_node at i (Leaf a) = refl
parts_of_node at i (Not p) = omega arith
parts_of_node at i (And p q) = omega arith
parts_of_node at i (Or p q) = omega arith
parts_of_node at i (Implies p q) = omega arith
parts_of_node at i (Until p q a b) = omega arith
parts_of_node at i (Eventually p a b x y) = omega arith
parts_of_node at i (Always p a b x y) = omega arith
parts_of_node at i (Since p q a b) = omega arith
parts_of_node at i (Once p a b x y) = omega arith
parts_of_node at i (Historically p a b x y) = omega arith

module _ (nodes : List Node) (order : IsPostOrder nodes) where
  abbrev at : ℕ → Subformula
  at = subformula nodes

  abbrev node_at : ℕ → Node
  node_at i = slice_index_or nodes i (Const false)

  -- after one node more the places that are free are those that it leaves, and its own
  record IsFree (k : ℕ) : Type 0 where
    others : List ℕ
    before : unused (take k nodes) ≡ others ++ children (node_at k)
    after : unused (take (suc k) nodes) ≡ others ++ k ∷ []

  free_of : (k : ℕ) → k < length nodes → IsFree k
  free_of k l =
      let m = order.follows k (node_at k) (slice_get_at nodes k (Const false) l) in
      let len : length (take k nodes) ≡ k = length-take-le k nodes (omega (arith, l)) in
      let up : suc k ≡ k + 1 = omega arith in
      let longer : take (suc k) nodes ≡ take k nodes ++ node_at k ∷ [] = ap (λ i. take i nodes) up ∙ take_more nodes k (Const false) l in record {
        others = m.others;
        before = m.last;
        after = ap unused longer ∙ unused_push (take k nodes) (node_at k) m.others (post_order_take nodes k order) m.last ∙ ap (λ x. m.others ++ x ∷ []) len;
      }

  parts_here : (k : ℕ) → k < length nodes → parts_of (at k) ≡ suc (parts_at at (children (node_at k)))
  parts_here k l =
      let there = slice_get_at nodes k (Const false) l in
      ap parts_of (subformula-at nodes k (node_at k) there (placed nodes k (node_at k) order there)) ∙ parts_of_node at k (node_at k)

  -- what the free places have after one node more
  one_more_part : (k : ℕ) → (l : k < length nodes) → parts_at at (unused (take k nodes)) ≡ k
      → (parts_at at (unused (take (suc k) nodes)) ≡ suc k) × (parts_of (at k) ≤ suc k)
  unfolding parts_at
  one_more_part k l a =
      let f = free_of k l in
      let b = ap (parts_at at) f.before in
      let c = ap (parts_at at) f.after in
      let d = parts_append at f.others (children (node_at k)) in
      let e = parts_append at f.others (k ∷ []) in
      let g = parts_here k l in
      let n : parts_at at (unused (take (suc k) nodes)) ≡ suc k = omega (arith, a, b, c, d, e, g) in
      (n, omega (arith, n, c, e))

  -- the free places of the first k nodes have k parts together
  all_parts : (k : ℕ) → k ≤ length nodes → parts_at at (unused (take k nodes)) ≡ k
  unfolding parts_at unused
  all_parts zero l = refl
  all_parts (suc k) l = (one_more_part k (omega (arith, l)) (all_parts k (omega (arith, l)))).0

pub places_have_few_parts : PlacesHaveFewParts
places_have_few_parts nodes order i l = (one_more_part nodes order i l (all_parts nodes order i (omega (arith, l)))).1
