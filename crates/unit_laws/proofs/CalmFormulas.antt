-- The atoms of a formula within its limits have one truth about a time with no small denominator, in ticks of any scale.
use Rattle.std.proofs.Common.{ℕ, ◌-◌, ◌^◌, false, List, [], ◌∷◌, ◌++◌, All, map, length, subst, sym, inl, inr, ◌*◌, ◌≤◌, arith, pos, nat_abs}
use Rattle.std.proofs.lemmas.Bool.{cases_lt}
use Rattle.std.proofs.lemmas.List.{get_or_past}
use Rattle.std.proofs.lemmas.List.Elements.{All-get_or, All-head, All-tail, All-cons, All-append, All-nil}
use Rattle.rational.specs.Time.{Rational}
use Rattle.stl_syntax.specs.Trace.{Trace, AreInRange, Row, IsInRange, value}
use Rattle.stl_syntax.specs.Formula.{Subformula, constant, tree_of, tree_at, trees_after, subformula, root, atom}
use Rattle.stl_syntax.specs.Scaling.{scaled_node}
use Rattle.stl_syntax.specs.WellFormed.{IsLeafInLimits, IsTermInLimits}
use Rattle.stl_syntax.specs.declared.node.Node.{Node}
use Rattle.stl_syntax.specs.declared.node.Node.TheVariants.{Const, Atom as Leaf, Not, And, Or, Implies, Until, Eventually, Always, Since, Once, Historically}
use Rattle.stl_syntax.specs.declared.atom.Atom.{Atom}
use Rattle.stl_syntax.specs.declared.atom.Term.{Term}
use Rattle.bounds.proofs.NearTimes.{IsRare}
use Rattle.bounds.proofs.CalmWindows.{Calm}
use Rattle.bounds.proofs.AtomTurns.{IsUpTo, slopes, calm_if_rare}
use Rattle.unit_laws.proofs.CalmTruth.{HasCalmAtoms}

-- a value of a row in range, in any column
value_size : (r : Row) → IsInRange r → IsUpTo 16777216 r
value_size r h c = elim (cases_lt c (length r.values)) [
  | inl k ↦ All-get_or (λ v. nat_abs v ≤ 16777216) r.values c (pos 0) k h.values
  | inr k ↦ outside k
]
  where
    outside : length r.values ≤ c → nat_abs (value r c) ≤ 16777216
    outside k = rw (get_or_past r.values c (pos 0) k) (omega arith)

value_sizes : (rows : List Row) → AreInRange rows → All (IsUpTo 16777216) rows
value_sizes [] h = All-nil (IsUpTo 16777216)
value_sizes (r ∷ rows) h =
    All-cons (IsUpTo 16777216) r rows (value_size r (All-head IsInRange r rows h)) (value_sizes rows (All-tail IsInRange r rows h))

slopes_few : (terms : List Term) → All IsTermInLimits terms → slopes (2 * 16777216) terms ≤ 536870912 * length terms
slopes_few [] h = omega arith
slopes_few (x ∷ terms) h =
    let rest = slopes_few terms (All-tail IsTermInLimits x terms h) in
    let few = (All-head IsTermInLimits x terms h).coef in
    omega (arith, rest, few)

-- about a time with no denominator up to 2^31 the atom has one truth
pub calm_atom : (tr : Trace) (i : ℕ) (a : Atom) (t : Rational) → IsRare (2 ^ 31) t → AreInRange tr.rows → length a.terms ≤ 4
    → All IsTermInLimits a.terms → Calm (atom i a) tr t
calm_atom tr i a t rare range few limits =
    let slow = slopes_few a.terms limits in
    calm_if_rare tr i a 16777216 (value_sizes tr.rows range) t (λ v small. rare v (omega (arith, slow, few, small)))

module _ (tr : Trace) (range : AreInRange tr.rows) where
  abbrev IsCalm : Subformula → Type 0
  IsCalm p = HasCalmAtoms (2 ^ 31) tr p

  -- a node's tree, from those of its children
  tree_calm : (A B : ℕ) (at : ℕ → Subformula) → ((j : ℕ) → IsCalm (at j)) → (i : ℕ) (n : Node) → IsLeafInLimits n → IsCalm (tree_of at i (scaled_node A B n))
  tree_calm A B at h i (Const b) l = tt
  tree_calm A B at h i (Leaf a) l = λ t r. calm_atom tr i _ t r range l.few l.terms
  tree_calm A B at h i (Not p) l = h p
  tree_calm A B at h i (And p q) l = (h p, h q)
  tree_calm A B at h i (Or p q) l = (h p, h q)
  tree_calm A B at h i (Implies p q) l = (h p, h q)
  tree_calm A B at h i (Until p q a b) l = (h p, h q)
  tree_calm A B at h i (Eventually p a b a_in b_in) l = h p
  tree_calm A B at h i (Always p a b a_in b_in) l = h p
  tree_calm A B at h i (Since p q a b) l = (h p, h q)
  tree_calm A B at h i (Once p a b a_in b_in) l = h p
  tree_calm A B at h i (Historically p a b a_in b_in) l = h p

  at_calm : (trees : List Subformula) → All IsCalm trees → (j : ℕ) → IsCalm (tree_at trees j)
  at_calm trees h j = elim (cases_lt j (length trees)) [
    | inl k ↦ All-get_or IsCalm trees j (constant false) k h
    | inr k ↦ subst IsCalm (sym (get_or_past trees j (constant false) k)) tt
  ]

  trees_calm : (A B : ℕ) (trees : List Subformula) (nodes : List Node) → All IsCalm trees → All IsLeafInLimits nodes
      → All IsCalm (trees_after trees (map (scaled_node A B) nodes))
  trees_calm A B trees [] h l = h
  trees_calm A B trees (n ∷ nodes) h l =
      let new = tree_of (tree_at trees) (length trees) (scaled_node A B n) in
      let is = tree_calm A B (tree_at trees) (at_calm trees h) (length trees) n (All-head IsLeafInLimits n nodes l) in
      trees_calm A B (trees ++ new ∷ []) nodes (All-append IsCalm trees (new ∷ []) h (All-cons IsCalm new [] is (All-nil IsCalm)))
      (All-tail IsLeafInLimits n nodes l)

  -- so are those of each subformula
  pub subformula_calm : (A B : ℕ) (nodes : List Node) (i : ℕ) → All IsLeafInLimits nodes → IsCalm (subformula (map (scaled_node A B) nodes) i)
  unfolding subformula
  subformula_calm A B nodes i l = at_calm (trees_after [] (map (scaled_node A B) nodes)) (trees_calm A B [] nodes (All-nil IsCalm) l) i

  -- and of the root
  pub root_calm : (A B : ℕ) (nodes : List Node) → All IsLeafInLimits nodes → IsCalm (root (map (scaled_node A B) nodes))
  root_calm A B nodes l = subformula_calm A B nodes (length (map (scaled_node A B) nodes) - 1) l
