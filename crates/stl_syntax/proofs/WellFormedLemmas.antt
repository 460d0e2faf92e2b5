-- Formulas stay well-formed as nodes are added.
use Rattle.std.proofs.Common.{◌≡◌, ◌<◌, ◌≤◌, List, [], ◌∷◌, ◌++◌, length, arith}
use Rattle.std.proofs.lemmas.List.{length_push}
use Rattle.std.proofs.lemmas.List.Elements.{All-push}
use Rattle.stl_syntax.specs.Limits.{reach}
use Rattle.stl_syntax.specs.PostOrder.{unused, MayFollow}
use Rattle.stl_syntax.specs.WellFormed.{AreWellFormed, IsLeafInLimits, HasBounds, HasOneRoot}
use Rattle.stl_syntax.proofs.PostOrderLemmas.{post_order_push}
use Rattle.stl_syntax.specs.declared.node.Node.{Node}

-- one node more
pub well_formed_push : (nodes : List Node) (n : Node) → AreWellFormed nodes → length nodes < 256 → MayFollow nodes n → HasBounds n → IsLeafInLimits n
    → reach (nodes ++ n ∷ []) ≤ 4294967295 → AreWellFormed (nodes ++ n ∷ [])
well_formed_push nodes n h few follows bounds leaf small = record {
  few = omega (arith, length_push nodes n);
  post_order = post_order_push nodes n h.post_order follows;
  atoms = All-push IsLeafInLimits nodes n h.atoms leaf;
  bounds = All-push HasBounds nodes n h.bounds bounds;
  reach = small;
}

-- the root is a node
pub root_some : (nodes : List Node) → HasOneRoot nodes → 0 < length nodes
unfolding unused
root_some [] h = absurd (let x : [] ≡ 0 ∷ [] = h in cc)
root_some (n ∷ nodes) h = omega arith
