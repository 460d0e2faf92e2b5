-- The formula that is judged on a generated trace, by its text and by its nodes.
use Rattle.std.specs.Prelude.{ℕ, true, List, [], ◌∷◌, ◌++◌, pos, codes, Some}
use Rattle.stl_syntax.specs.Formula.{Formula}
use Rattle.stl_syntax.specs.declared.atom.Atom.{Atom}
use Rattle.stl_syntax.specs.declared.rel.Rel.{Rel}
use Rattle.stl_syntax.specs.declared.rel.Rel.TheVariants.{AtLeast, Below}
use Rattle.stl_syntax.specs.declared.node.Node.{Node}
use Rattle.stl_syntax.specs.declared.node.Node.TheVariants.{Atom as Leaf, Not, And, Implies, Eventually, Always, Since}
use Rattle.workload.specs.Generated.{ticks}

-- its text
abbrev pub judged : List ℕ
judged = codes "always[0,8] (x < 0 implies eventually[0,8] s >= 0) and not (s < 0 since[4,12] x >= 500000)"

-- an atom of one column
abbrev pub compared : List ℕ → Rel → ℕ → Atom
compared name rel n = record { terms = record { coef = pos 1; name = name } ∷ []; rel = rel; limit = pos n }

-- the nodes of what is so always, and of what is not to have been so
abbrev pub ahead_nodes : List Node
ahead_nodes = Leaf (compared (codes "x") Below 0) ∷ Leaf (compared (codes "s") AtLeast 0) ∷ Eventually 1 0 8 true true ∷ Implies 0 2 ∷ []

abbrev pub behind_nodes : List Node
behind_nodes = Leaf (compared (codes "s") Below 0) ∷ Leaf (compared (codes "x") AtLeast 500000) ∷ Since 5 6 4 (Some 12) ∷ []

-- the formula
abbrev pub judged_formula : Formula
judged_formula = record { nodes = (ahead_nodes ++ Always 3 0 8 true true ∷ []) ++ (behind_nodes ++ Not 7 ∷ []) ++ And 4 8 ∷ []; scale = ticks }
