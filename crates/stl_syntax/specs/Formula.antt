-- Formulas: the tree that a node of a formula stands for, and its horizon.
use Rattle.std.specs.Prelude.{◌≡◌, ℕ, ◌+◌, ◌-◌, ◌<◌, max, Bool, false, List, [], ◌∷◌, ◌++◌, length, slice_index_or}
use Rattle.std.specs.Prelude.{Option, Some, slice_get}
use Rattle.stl_syntax.specs.declared.atom.Atom.{Atom}
use Rattle.stl_syntax.specs.declared.node.Node.{Node}
use Rattle.stl_syntax.specs.declared.node.Node.TheVariants.{Const, Atom as Leaf, Not, And, Or, Implies, Until, Eventually, Always, Since, Once, Historically}
use Rattle.stl_syntax.specs.declared.scale.Scale.{Scale}

-- the nodes of a formula in post-order, with their numbers in ticks of a scale
pub record Formula : Type 0 where
  pub nodes : List Node
  pub scale : Scale

-- a formula as a tree; a window has its bounds, and of each whether it is in; an atom carries its place in post-order, since two occurrences of one atom differ
pub data Subformula : Type 0 where
  constant : Bool → Subformula
  atom : ℕ → Atom → Subformula
  negation : Subformula → Subformula
  conjunction : Subformula → Subformula → Subformula
  disjunction : Subformula → Subformula → Subformula
  implication : Subformula → Subformula → Subformula
  until : ℕ → ℕ → Subformula → Subformula → Subformula
  eventually : ℕ → ℕ → Bool → Bool → Subformula → Subformula
  always : ℕ → ℕ → Bool → Bool → Subformula → Subformula
  since : ℕ → Option ℕ → Subformula → Subformula → Subformula
  once : ℕ → Option ℕ → Bool → Bool → Subformula → Subformula
  historically : ℕ → Option ℕ → Bool → Bool → Subformula → Subformula

-- the tree of a node at place i, from the trees at its children's places
abbrev pub tree_of : (ℕ → Subformula) → ℕ → Node → Subformula
tree_of at i (Const b) = constant b
tree_of at i (Leaf a) = atom i a
tree_of at i (Not p) = negation (at p)
tree_of at i (And p q) = conjunction (at p) (at q)
tree_of at i (Or p q) = disjunction (at p) (at q)
tree_of at i (Implies p q) = implication (at p) (at q)
tree_of at i (Until p q a b) = until a b (at p) (at q)
tree_of at i (Eventually p a b a_in b_in) = eventually a b a_in b_in (at p)
tree_of at i (Always p a b a_in b_in) = always a b a_in b_in (at p)
tree_of at i (Since p q a b) = since a b (at p) (at q)
tree_of at i (Once p a b a_in b_in) = once a b a_in b_in (at p)
tree_of at i (Historically p a b a_in b_in) = historically a b a_in b_in (at p)

-- the tree at a place
abbrev pub tree_at : List Subformula → ℕ → Subformula
tree_at trees i = slice_index_or trees i (constant false)

-- the trees of the nodes, each built from the trees before it
abbrev pub trees_after : List Subformula → List Node → List Subformula
trees_after trees [] = trees
trees_after trees (n ∷ nodes) = trees_after (trees ++ tree_of (tree_at trees) (length trees) n ∷ []) nodes

-- the subformula at a place in post-order
unfoldable pub subformula : List Node → ℕ → Subformula
subformula nodes i = tree_at (trees_after [] nodes) i

-- the tree of the last node
abbrev pub root : List Node → Subformula
root nodes = subformula nodes (length nodes - 1)

-- how far after t a trace must reach before the truth at t is known
abbrev pub horizon : Subformula → ℕ
horizon (constant b) = 0
horizon (atom i a) = 0
horizon (negation p) = horizon p
horizon (conjunction p q) = max (horizon p) (horizon q)
horizon (disjunction p q) = max (horizon p) (horizon q)
horizon (implication p q) = max (horizon p) (horizon q)
horizon (until a b p q) = b + max (horizon p) (horizon q)
horizon (eventually a b a_in b_in p) = b + horizon p
horizon (always a b a_in b_in p) = b + horizon p
horizon (since a b p q) = max (horizon p) (horizon q - a)
horizon (once a b a_in b_in p) = horizon p - a
horizon (historically a b a_in b_in p) = horizon p - a

-- the children of a node stand before place i
abbrev pub HasChildrenBelow : ℕ → Node → Type 0
HasChildrenBelow i (Const b) = Unit {0}
HasChildrenBelow i (Leaf a) = Unit {0}
HasChildrenBelow i (Not p) = p < i
HasChildrenBelow i (And p q) = (p < i) × (q < i)
HasChildrenBelow i (Or p q) = (p < i) × (q < i)
HasChildrenBelow i (Implies p q) = (p < i) × (q < i)
HasChildrenBelow i (Until p q a b) = (p < i) × (q < i)
HasChildrenBelow i (Eventually p a b a_in b_in) = p < i
HasChildrenBelow i (Always p a b a_in b_in) = p < i
HasChildrenBelow i (Since p q a b) = (p < i) × (q < i)
HasChildrenBelow i (Once p a b a_in b_in) = p < i
HasChildrenBelow i (Historically p a b a_in b_in) = p < i

-- each atom of the tree stands at its place among the nodes
abbrev pub StandsIn : List Node → Subformula → Type 0
StandsIn nodes (constant b) = Unit {0}
StandsIn nodes (atom i a) = subformula nodes i ≡ atom i a
StandsIn nodes (negation p) = StandsIn nodes p
StandsIn nodes (conjunction p q) = StandsIn nodes p × StandsIn nodes q
StandsIn nodes (disjunction p q) = StandsIn nodes p × StandsIn nodes q
StandsIn nodes (implication p q) = StandsIn nodes p × StandsIn nodes q
StandsIn nodes (until a b p q) = StandsIn nodes p × StandsIn nodes q
StandsIn nodes (eventually a b a_in b_in p) = StandsIn nodes p
StandsIn nodes (always a b a_in b_in p) = StandsIn nodes p
StandsIn nodes (since a b p q) = StandsIn nodes p × StandsIn nodes q
StandsIn nodes (once a b a_in b_in p) = StandsIn nodes p
StandsIn nodes (historically a b a_in b_in p) = StandsIn nodes p

-- the node at place i is the first of its kind
pub record IsFirst (P : Node → Type 0) (nodes : List Node) (i : ℕ) : Type 0 where
  pub node : Node
  pub at : slice_get nodes i ≡ Some node
  pub is : P node
  pub none_before : (j : ℕ) (other : Node) → j < i → slice_get nodes j ≡ Some other → ¬ P other
