-- The nodes that a parser keeps without their scale, as nodes in ticks of one. A helper for the contracts of the code.
use Rattle.std.specs.Prelude.{ℕ, Bool, true, if◌then◌else◌, List, [], ◌∷◌, ℤ, pos, neg_ℤ, Option, Some, None}
use Rattle.stl_syntax.specs.Characters.{ticks}
use Rattle.stl_syntax.specs.declared.scale.Scale.{Scale}
use Rattle.stl_syntax.specs.declared.node.Node.{Node}
use Rattle.stl_syntax.specs.declared.node.Node.TheVariants.{Const, Atom as Leaf, Not}
use Rattle.stl_grammar.specs.Operators.{connective_node, timed_node}
use Rattle.stl_grammar.specs.Sums.{Comparison}
use Rattle.stl_grammar.specs.declared.decimal.Decimal.{Decimal}
use Rattle.stl_grammar.specs.declared.draft.Bound.{Bound}
use Rattle.stl_grammar.specs.declared.draft.Bound.TheVariants.{Whole, From, Within}
use Rattle.stl_grammar.specs.declared.draft.Operator.{Operator}
use Rattle.stl_grammar.specs.declared.draft.Operator.TheVariants.{Not as Negation, Connective as Joins, Timed as Bounded}
use Rattle.stl_grammar.specs.declared.draft.Draft.{Draft}
use Rattle.stl_grammar.specs.declared.draft.Draft.TheVariants.{Const as TheConst, Sum, Node as Made}

-- a number in ticks of so many digits
abbrev pub ticks_of : ℕ → Decimal → ℕ
ticks_of digits d = ticks digits d.value d.decimals

-- and with its sign
abbrev pub limit_of : ℕ → Comparison → ℤ
limit_of digits c = if c.negative then neg_ℤ (pos (ticks_of digits c.limit)) else pos (ticks_of digits c.limit)

-- the ends of a bound; one that was left out is all that is behind
abbrev pub bound_low : ℕ → Bound → ℕ
bound_low digits Whole = 0
bound_low digits (From low low_in) = ticks_of digits low
bound_low digits (Within w) = ticks_of digits w.low

abbrev pub bound_high : ℕ → Bound → Option ℕ
bound_high digits Whole = None
bound_high digits (From low low_in) = None
bound_high digits (Within w) = Some (ticks_of digits w.high)

-- whether they are in
abbrev pub bound_low_in : Bound → Bool
bound_low_in Whole = true
bound_low_in (From low low_in) = low_in
bound_low_in (Within w) = w.low_in

abbrev pub bound_high_in : Bound → Bool
bound_high_in Whole = true
bound_high_in (From low low_in) = true
bound_high_in (Within w) = w.high_in

-- the node of an operator, with its left operand, where it has one, and its last one
abbrev pub operator_node : ℕ → Operator → ℕ → ℕ → Node
operator_node digits Negation left right = Not right
operator_node digits (Joins o) left right = connective_node o left right
operator_node digits (Bounded of b) left right =
    timed_node of (bound_low digits b) (bound_high digits b) (bound_low_in b) (bound_high_in b) left right

-- the node of a draft
abbrev pub node_in : Scale → Draft → Node
node_in s (TheConst b) = Const b
node_in s (Sum c) = Leaf (record { terms = c.terms; rel = c.rel; limit = limit_of s.value c })
node_in s (Made o left right) = operator_node s.time o left right

-- the nodes of drafts
abbrev pub nodes_in : Scale → List Draft → List Node
nodes_in s [] = []
nodes_in s (d ∷ drafts) = node_in s d ∷ nodes_in s drafts
