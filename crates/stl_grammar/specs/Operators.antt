-- The table of the operators of a formula: how they are spelled, how tightly they bind, and the nodes that they make. A helper for
-- proofs and for contracts of the code; what a formula is, specs/Grammar.antt says.
use Rattle.std.specs.Prelude.{ℕ, Bool, true, false, List, codes, Option}
use Rattle.stl_syntax.specs.declared.node.Node.{Node}
use Rattle.stl_syntax.specs.declared.node.Node.TheVariants.{And, Or, Implies, Until, Eventually, Always, Since, Once, Historically}
use Rattle.stl_syntax.specs.Limits.{reach_of_bound}
use Rattle.stl_grammar.specs.Grammar.{Direction, ahead, behind, Ends, closed, free}
pub use Rattle.stl_grammar.specs.declared.operator.Connective.{Connective}
pub use Rattle.stl_grammar.specs.declared.operator.Connective.TheVariants.{And as by_and, Or as by_or, Implies as by_implies}
pub use Rattle.stl_grammar.specs.declared.operator.Timed.{Timed}
pub use Rattle.stl_grammar.specs.declared.operator.Timed.TheVariants.{Until as TUntil, Since as TSince, Eventually as TEventually}
pub use Rattle.stl_grammar.specs.declared.operator.Timed.TheVariants.{Always as TAlways, Once as TOnce, Historically as THistorically}

-- the word of a connective, its node, and how tightly it binds itself, its left side and its right side: `until` and `since` bind with 4
abbrev pub connective_word : Connective → List ℕ
connective_word by_and = codes "and"
connective_word by_or = codes "or"
connective_word by_implies = codes "implies"

abbrev pub connective_node : Connective → ℕ → ℕ → Node
connective_node by_and p q = And p q
connective_node by_or p q = Or p q
connective_node by_implies p q = Implies p q

abbrev pub binds : Connective → ℕ
binds by_and = 3
binds by_or = 2
binds by_implies = 1

abbrev pub left_binds : Connective → ℕ
left_binds by_and = 3
left_binds by_or = 2
left_binds by_implies = 2

abbrev pub right_binds : Connective → ℕ
right_binds by_and = 4
right_binds by_or = 3
right_binds by_implies = 1

-- an operator with a bound stands beside an operand, or before one
abbrev pub is_beside : Timed → Bool
is_beside TUntil = true
is_beside TSince = true
is_beside _ = false

-- where its window lies: behind, its bound may be left out and may have no upper end
abbrev pub direction : Timed → Direction
direction TUntil = ahead
direction TEventually = ahead
direction TAlways = ahead
direction _ = behind

abbrev pub is_behind : Direction → Bool
is_behind ahead = false
is_behind behind = true

abbrev pub looks_back : Timed → Bool
looks_back of = is_behind (direction of)

-- whether the ends of its bound may be out
abbrev pub ends : Timed → Ends
ends TUntil = closed
ends TSince = closed
ends _ = free

abbrev pub are_free : Ends → Bool
are_free closed = false
are_free free = true

abbrev pub may_be_open : Timed → Bool
may_be_open of = are_free (ends of)

-- the word of an operator with a bound, and its node of a bound from a to b, each end in or out, and of its left and its last operand
abbrev pub timed_word : Timed → List ℕ
timed_word TUntil = codes "until"
timed_word TSince = codes "since"
timed_word TEventually = codes "eventually"
timed_word TAlways = codes "always"
timed_word TOnce = codes "once"
timed_word THistorically = codes "historically"

-- one that looks ahead has an upper end
abbrev pub timed_node : Timed → ℕ → Option ℕ → Bool → Bool → ℕ → ℕ → Node
timed_node TUntil a b x y p q = Until p q a (reach_of_bound a b)
timed_node TSince a b x y p q = Since p q a b
timed_node TEventually a b x y p q = Eventually q a (reach_of_bound a b) x y
timed_node TAlways a b x y p q = Always q a (reach_of_bound a b) x y
timed_node TOnce a b x y p q = Once q a b x y
timed_node THistorically a b x y p q = Historically q a b x y

-- the words of the constants
abbrev pub constant_word : Bool → List ℕ
constant_word true = codes "true"
constant_word false = codes "false"
