-- A formula counted in smaller ticks.
use Rattle.std.specs.Prelude.{ℕ, List, ◌*◌, ◌-◌, ◌^◌, Bool, false, nat_lt, pos, ◌*ℤ◌, nat_abs, map, option_map}
use Rattle.stl_syntax.specs.declared.atom.Atom.{Atom}
use Rattle.stl_syntax.specs.declared.node.Node.{Node}
use Rattle.stl_syntax.specs.declared.node.Node.TheVariants.{Atom as Leaf, Until, Eventually, Always, Since, Once, Historically}
use Rattle.stl_syntax.specs.declared.scale.Scale.{Scale}
use Rattle.stl_syntax.specs.Formula.{Formula}
use Rattle.stl_syntax.specs.Trace.{Trace}

-- the atom with its constant times k
abbrev pub scaled_atom : ℕ → Atom → Atom
scaled_atom k a = record { terms = a.terms; rel = a.rel; limit = pos k *ℤ a.limit }

-- bounds times `time`, constants times `value`
abbrev pub scaled_node : ℕ → ℕ → Node → Node
scaled_node time value (Leaf a) = Leaf (scaled_atom value a)
scaled_node time value (Until p q a b) = Until p q (time * a) (time * b)
scaled_node time value (Eventually p a b a_in b_in) = Eventually p (time * a) (time * b) a_in b_in
scaled_node time value (Always p a b a_in b_in) = Always p (time * a) (time * b) a_in b_in
scaled_node time value (Since p q a b) = Since p q (time * a) (option_map (λ b. time * b) b)
scaled_node time value (Once p a b a_in b_in) = Once p (time * a) (option_map (λ b. time * b) b) a_in b_in
scaled_node time value (Historically p a b a_in b_in) = Historically p (time * a) (option_map (λ b. time * b) b) a_in b_in
scaled_node time value n = n

-- the formula with its numbers in ticks of another scale
abbrev pub scaled : Formula → Scale → Formula
scaled f scale = record {
  nodes = map (scaled_node (10 ^ (scale.time - f.scale.time)) (10 ^ (scale.value - f.scale.value))) f.nodes;
  scale = scale;
}

-- the node's constant times k passes its limit
abbrev pub has_large_constant : ℕ → Node → Bool
has_large_constant k (Leaf a) = nat_lt 1073741824 (nat_abs a.limit * k)
has_large_constant k n = false

-- the formula's nodes in ticks of the trace
abbrev pub nodes_for : Formula → Trace → List Node
nodes_for f tr = (scaled f tr.header.scale).nodes
