-- The left operand of until or since.
use Rattle.std.proofs.Common.{◌≡◌, inl, ℕ, Some, None}
use Rattle.stl_syntax.specs.Cells.{IsChild}
use Rattle.stl_syntax.specs.declared.node.Node.{Node}
use Rattle.stl_syntax.specs.declared.node.Node.TheVariants.{Const, Atom as Leaf, Until, Since}
use Rattle.early_verdict.specs.Standing.{left_of}

-- the left operand of until or since is a child
pub left_child : (p : ℕ) (n : Node) → left_of n ≡ Some p → IsChild n p
left_child p (Const b) e = let f : None ≡ Some p = e in cc
left_child p (Leaf a) e = let f : None ≡ Some p = e in cc
left_child p (Until q r a b) e = inl (let f : Some q ≡ Some p = e in cc)
left_child p (Since q r a b) e = inl (let f : Some q ≡ Some p = e in cc)
left_child p _ e = absurd (let f : None ≡ Some p = e in cc)
