-- What each formula keeps: its nodes are the post-order of one tree, and its numbers stay within their limits.
use Rattle.std.specs.Prelude.{◌≡◌, ℕ, ◌-◌, ◌<◌, ◌≤◌, nat_abs, Bool, true, List, [], ◌∷◌, length, Option, Some, None, All, IsTrue}
use Rattle.stl_syntax.specs.Formula.{Formula}
use Rattle.stl_syntax.specs.Names.{is_name}
use Rattle.stl_syntax.specs.Limits.{reach}
use Rattle.stl_syntax.specs.PostOrder.{unused, IsPostOrder}
use Rattle.stl_syntax.specs.declared.scale.Scale.{Scale}
use Rattle.stl_syntax.specs.declared.atom.Term.{Term}
use Rattle.stl_syntax.specs.declared.atom.Atom.{Atom}
use Rattle.stl_syntax.specs.declared.node.Node.{Node}
use Rattle.stl_syntax.specs.declared.node.Node.TheVariants.{Atom as Leaf, Until, Eventually, Always, Since, Once, Historically}

-- a coefficient from -16 to 16, and a name that a formula may use
pub record IsTermInLimits (t : Term) : Type 0 where
  pub coef : nat_abs t.coef ≤ 16
  pub name : IsTrue (is_name t.name)

-- one to four terms, and a constant from -1,073,741,824 to 1,073,741,824 ticks
pub record IsAtomInLimits (a : Atom) : Type 0 where
  pub some : 0 < length a.terms
  pub few : length a.terms ≤ 4
  pub terms : All IsTermInLimits a.terms
  pub limit : nat_abs a.limit ≤ 1073741824

-- the upper bound is not below the lower one
abbrev pub IsInOrder : ℕ → Option ℕ → Type 0
IsInOrder a None = Unit {0}
IsInOrder a (Some b) = a ≤ b

-- an upper bound that is infinite is in
abbrev pub IsInWhereInfinite : Option ℕ → Bool → Type 0
IsInWhereInfinite None b_in = b_in ≡ true
IsInWhereInfinite (Some b) b_in = Unit {0}

-- the bounds of a node are in order
abbrev pub HasBounds : Node → Type 0
HasBounds (Until p q a b) = a ≤ b
HasBounds (Eventually p a b a_in b_in) = a ≤ b
HasBounds (Always p a b a_in b_in) = a ≤ b
HasBounds (Since p q a b) = IsInOrder a b
HasBounds (Once p a b a_in b_in) = IsInOrder a b × IsInWhereInfinite b b_in
HasBounds (Historically p a b a_in b_in) = IsInOrder a b × IsInWhereInfinite b b_in
HasBounds n = Unit {0}

-- an atom's numbers and names are within their limits
abbrev pub IsLeafInLimits : Node → Type 0
IsLeafInLimits (Leaf a) = IsAtomInLimits a
IsLeafInLimits n = Unit {0}

-- the nodes of a formula that is being built
pub record AreWellFormed (nodes : List Node) : Type 0 where
  pub few : length nodes ≤ 256
  pub post_order : IsPostOrder nodes
  pub atoms : All IsLeafInLimits nodes
  pub bounds : All HasBounds nodes
  pub reach : reach nodes ≤ 4294967295

-- a tick is 1/10^digits of a unit, with at most 6 digits
pub record IsScale (scale : Scale) : Type 0 where
  pub time : scale.time ≤ 6
  pub value : scale.value ≤ 6

-- exactly one node is no child: the last, which is the root
abbrev pub HasOneRoot : List Node → Type 0
HasOneRoot nodes = unused nodes ≡ (length nodes - 1) ∷ []

-- a formula of 1 to 256 nodes in post-order, each but the root used once, within all limits
pub record IsWellFormed (f : Formula) : Type 0 where
  pub some : 0 < length f.nodes
  pub nodes : AreWellFormed f.nodes
  pub root : HasOneRoot f.nodes
  pub scale : IsScale f.scale
