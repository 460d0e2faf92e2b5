-- A machine that reads tokens from the left, keeps the nodes that they make, in ticks of a scale, and stops where no formula begins so.
-- A helper for proofs about the reader; what a formula is, and what is refused, is said by the grammar and by the refusals.
use Rattle.std.specs.Prelude.{ℕ, zero, suc, ◌-◌, ◌*◌, ◌^◌, ◌==◌, nat_le, nat_lt, not, Bool, true, false, if◌then◌else◌, List, [], ◌∷◌, ◌++◌, length}
use Rattle.std.specs.Prelude.{pos, neg_ℤ, ℤ, codes, bytes_eq, Option, Some, None}
use Rattle.stl_syntax.specs.Characters.{ticks}
use Rattle.stl_syntax.specs.declared.scale.Scale.{Scale}
use Rattle.stl_syntax.specs.declared.atom.Term.{Term}
use Rattle.stl_syntax.specs.declared.rel.Rel.{Rel}
use Rattle.stl_syntax.specs.declared.node.Node.{Node}
use Rattle.stl_syntax.specs.declared.node.Node.TheVariants.{Const, Atom as Leaf, Not}
use Rattle.stl_grammar.specs.Tokens.{Token, word, number, relation, open_paren, close_paren, open_bracket, close_bracket, comma, star, plus, minus}
use Rattle.stl_grammar.specs.Operators.{Connective, by_and, by_or, by_implies, connective_node, binds, left_binds}
use Rattle.stl_grammar.specs.Operators.{Timed, TUntil, TSince, TEventually, TAlways, TOnce, THistorically}
use Rattle.stl_grammar.specs.Operators.{is_beside, looks_back, may_be_open, timed_node}
use Rattle.stl_grammar.specs.FormulaRefusals.{Pending, a_paren, an_operator, an_implies, has_paren}
use Rattle.stl_grammar.specs.declared.fault.What.{What}
use Rattle.stl_grammar.specs.declared.fault.What.TheVariants as what

-- what a word is
pub data Kind : Type 0 where
  a_constant : Bool → Kind
  a_negation : Kind
  a_connective : Connective → Kind
  a_timed : Timed → Kind
  an_inf : Kind
  a_name : Kind

-- the words of the grammar; each other one is a name
unfoldable pub kind : List ℕ → Kind
kind w =
    if bytes_eq w (codes "true") then a_constant true else if bytes_eq w (codes "false") then a_constant false
    else if bytes_eq w (codes "not") then a_negation
    else if bytes_eq w (codes "and") then a_connective by_and else if bytes_eq w (codes "or") then a_connective by_or
    else if bytes_eq w (codes "implies") then a_connective by_implies
    else if bytes_eq w (codes "until") then a_timed TUntil else if bytes_eq w (codes "since") then a_timed TSince
    else if bytes_eq w (codes "eventually") then a_timed TEventually else if bytes_eq w (codes "always") then a_timed TAlways
    else if bytes_eq w (codes "once") then a_timed TOnce else if bytes_eq w (codes "historically") then a_timed THistorically
    else if bytes_eq w (codes "inf") then an_inf else a_name

-- what comes next: an operand; the bound of an operator, or an operand where it may be left out; the lower number, after a bracket by
-- which the end is in or out; a comma, after the number a / 10^j; the upper number, or `inf`; the bracket after them; a term, after its
-- sign; a star, after the coefficient; the name after a star; a sign or a relation; a constant; its number, after a sign; what may
-- follow a whole operand
pub data Place : Type 0 where
  at_operand : Place
  at_bound : Timed → Place
  at_low : Timed → Bool → Place
  at_comma : Timed → Bool → ℕ → ℕ → Place
  at_high : Timed → Bool → ℕ → ℕ → Place
  at_closing : Timed → Bool → ℕ → ℕ → Option (ℕ × ℕ) → Place
  at_term : Bool → Place
  at_star : Bool → ℕ → Place
  at_name : Bool → ℕ → Place
  at_sign : Place
  at_constant : Rel → Place
  at_number : Rel → Bool → Place
  at_end : Place

-- what waits for its last operand: how tightly it binds, and the node that it makes of the place of that operand
pub record Frame : Type 0 where
  pub rank : ℕ
  pub node : ℕ → Node

-- a parenthesis, which makes no node
abbrev pub paren : Frame
paren = record { rank = 0; node = λ last. Const true }

-- what comes next, what waits, the last first, the nodes, the terms of an atom that is not at its end, and how many nodes were begun
pub record State : Type 0 where
  pub place : Place
  pub frames : List Frame
  pub nodes : List Node
  pub terms : List Term
  pub made : ℕ

-- before the first token
abbrev pub start : State
start = record { place = at_operand; frames = []; nodes = []; terms = []; made = 0 }

-- how tightly the last one binds that waits
abbrev pub top_rank : List Frame → ℕ
top_rank [] = 0
top_rank (f ∷ frames) = f.rank

-- what is left where all that binds at least as tightly as r comes to its end
abbrev pub frames_after : ℕ → List Frame → List Frame
frames_after r [] = []
frames_after r (f ∷ frames) = if nat_le r f.rank then frames_after r frames else f ∷ frames

-- and the nodes then
abbrev pub nodes_after : ℕ → List Frame → List Node → List Node
nodes_after r [] nodes = nodes
nodes_after r (f ∷ frames) nodes = if nat_le r f.rank then nodes_after r frames (nodes ++ f.node (length nodes - 1) ∷ []) else nodes

-- all that binds at least as tightly as r comes to its end
abbrev pub folded : ℕ → State → State
folded r st = record { place = st.place; frames = frames_after r st.frames; nodes = nodes_after r st.frames st.nodes; terms = st.terms; made = st.made }

-- at another place
abbrev pub moved : Place → State → State
moved place st = record { place = place; frames = st.frames; nodes = st.nodes; terms = st.terms; made = st.made }

-- at another place, with one node more begun
abbrev pub begun : Place → State → State
begun place st = record { place = place; frames = st.frames; nodes = st.nodes; terms = st.terms; made = suc st.made }

-- before an operand for which something waits
abbrev pub opened : Frame → State → State
opened f st = record { place = at_operand; frames = f ∷ st.frames; nodes = st.nodes; terms = st.terms; made = st.made }

-- after an operand of one node, with which the one-operand operators before it end
abbrev pub completed : Node → State → State
completed n st = folded 5 (record { place = at_end; frames = st.frames; nodes = st.nodes ++ n ∷ []; terms = []; made = st.made })

-- a whole number with its sign
abbrev pub signed : Bool → ℕ → ℤ
signed negative n = if negative then neg_ℤ (pos n) else pos n

-- one term more
abbrev pub with_term : Bool → ℕ → List ℕ → State → State
with_term negative n name st = record {
  place = at_sign;
  frames = st.frames;
  nodes = st.nodes;
  terms = st.terms ++ record { coef = signed negative n; name = name } ∷ [];
  made = st.made;
}

-- whether the end is in, where the token is a bracket that opens the bound of the operator; or one that closes it
abbrev pub opening : Timed → Token → Option Bool
opening of open_bracket = Some true
opening of close_bracket = if may_be_open of then Some false else None
opening of _ = None

abbrev pub closing : Timed → Token → Option Bool
closing of close_bracket = Some true
closing of open_bracket = if may_be_open of then Some false else None
closing of _ = None

-- an operator with its bound from a to b, and its left operand where it has one; one-operand operators bind with 5
abbrev pub timed_frame : Timed → ℕ → Option ℕ → Bool → Bool → ℕ → Frame
timed_frame of a b x y left = record { rank = if is_beside of then 4 else 5; node = λ last. timed_node of a b x y left last }

-- a connective after its left operand
abbrev pub connective_frame : Connective → ℕ → Frame
connective_frame o left = record { rank = binds o; node = λ last. connective_node o left last }

-- `not`
abbrev pub negation : Frame
negation = record { rank = 5; node = λ last. Not last }

-- an operand begins with a word
abbrev pub begin_word : State → List ℕ → Kind → Option State
begin_word st w (a_constant b) = Some (completed (Const b) (begun at_end st))
begin_word st w a_negation = Some (opened negation (begun at_operand st))
begin_word st w (a_timed of) = if is_beside of then None else Some (begun (at_bound of) st)
begin_word st w a_name = Some (with_term false 1 w (begun at_sign st))
begin_word st w _ = None

-- an operand begins
abbrev pub begin_operand : State → Token → Option State
begin_operand st (word w) = begin_word st w (kind w)
begin_operand st (number n k) = Some (begun (at_star false n) st)
begin_operand st open_paren = Some (opened paren st)
begin_operand st plus = Some (begun (at_term false) st)
begin_operand st minus = Some (begun (at_term true) st)
begin_operand st _ = None

-- a bound begins, or where it may be left out, an operand
abbrev pub begin_bound : Timed → State → Token → Option State
begin_bound of st t = by_opening (opening of t)
  where
    by_opening : Option Bool → Option State
    by_opening (Some x) = Some (moved (at_low of x) st)
    by_opening None = if looks_back of then begin_operand (opened (timed_frame of 0 None true true (length st.nodes - 1)) st) t else None

-- `inf` as the upper end
abbrev pub step_inf : Timed → Bool → ℕ → ℕ → State → Kind → Option State
step_inf of x a j st an_inf = if looks_back of then Some (moved (at_closing of x a j None) st) else None
step_inf of x a j st _ = None

-- the upper end in ticks, and whether it is in: an infinite one counts as in
abbrev pub upper_end : ℕ → Option (ℕ × ℕ) → Option ℕ
upper_end digits None = None
upper_end digits (Some p) = Some (ticks digits p.0 p.1)

abbrev pub upper_in : Option (ℕ × ℕ) → Bool → Bool
upper_in None y = true
upper_in (Some p) y = y

-- a bound ends
abbrev pub end_bound : Scale → Timed → Bool → ℕ → ℕ → Option (ℕ × ℕ) → State → Option Bool → Option State
end_bound s of x a j b st None = None
end_bound s of x a j b st (Some y) =
    Some (opened (timed_frame of (ticks s.time a j) (upper_end s.time b) x (upper_in b y) (length st.nodes - 1)) st)

-- a name ends a term
abbrev pub step_name : Bool → ℕ → State → List ℕ → Kind → Option State
step_name negative n st w a_name = Some (with_term negative n w st)
step_name negative n st w _ = None

-- an atom ends with its number
abbrev pub end_atom : Scale → Rel → Bool → State → ℕ → ℕ → State
end_atom s rel negative st n k = completed (Leaf (record { terms = st.terms; rel = rel; limit = signed negative (ticks s.value n k) })) st

-- a connective after a whole operand
abbrev pub joined : Connective → State → State
joined o st = opened (connective_frame o (length (folded (left_binds o) st).nodes - 1)) (begun at_operand (folded (left_binds o) st))

-- a word after a whole operand: of `until` and `since` no second may stand beside it
abbrev pub after_word : State → Kind → Option State
after_word st (a_connective o) = Some (joined o st)
after_word st (a_timed of) = if is_beside of then (if nat_le 4 (top_rank st.frames) then None else Some (begun (at_bound of) st)) else None
after_word st _ = None

-- a parenthesis ends
abbrev pub closed : State → Option State
closed st = by_frames st.frames
  where
    by_frames : List Frame → Option State
    by_frames [] = None
    by_frames (f ∷ frames) = Some (folded 5 (record { place = at_end; frames = frames; nodes = st.nodes; terms = st.terms; made = st.made }))

-- from a place, on a token
abbrev pub step_at : Scale → Place → State → Token → Option State
step_at s at_operand st t = begin_operand st t
step_at s (at_bound of) st t = begin_bound of st t
step_at s (at_low of x) st (number a j) = Some (moved (at_comma of x a j) st)
step_at s (at_low of x) st _ = None
step_at s (at_comma of x a j) st comma = Some (moved (at_high of x a j) st)
step_at s (at_comma of x a j) st _ = None
step_at s (at_high of x a j) st (number b k) = Some (moved (at_closing of x a j (Some (b, k))) st)
step_at s (at_high of x a j) st (word w) = step_inf of x a j st (kind w)
step_at s (at_high of x a j) st _ = None
step_at s (at_closing of x a j b) st t = end_bound s of x a j b st (closing of t)
step_at s (at_term negative) st (number n k) = Some (moved (at_star negative n) st)
step_at s (at_term negative) st (word w) = step_name negative 1 st w (kind w)
step_at s (at_term negative) st _ = None
step_at s (at_star negative n) st star = Some (moved (at_name negative n) st)
step_at s (at_star negative n) st _ = None
step_at s (at_name negative n) st (word w) = step_name negative n st w (kind w)
step_at s (at_name negative n) st _ = None
step_at s at_sign st plus = Some (moved (at_term false) st)
step_at s at_sign st minus = Some (moved (at_term true) st)
step_at s at_sign st (relation r) = Some (moved (at_constant r) st)
step_at s at_sign st _ = None
step_at s (at_constant r) st (number n k) = Some (end_atom s r false st n k)
step_at s (at_constant r) st plus = Some (moved (at_number r false) st)
step_at s (at_constant r) st minus = Some (moved (at_number r true) st)
step_at s (at_constant r) st _ = None
step_at s (at_number r negative) st (number n k) = Some (end_atom s r negative st n k)
step_at s (at_number r negative) st _ = None
step_at s at_end st (word w) = after_word st (kind w)
step_at s at_end st close_paren = closed (folded 1 st)
step_at s at_end st _ = None

-- the state after one token more, if some formula begins so
abbrev pub step : Scale → State → Token → Option State
step s st t = step_at s st.place st t

-- the same after a state, if there is one
abbrev pub step_from : Scale → Option State → Token → Option State
step_from s None t = None
step_from s (Some st) t = step s st t

-- the state after the tokens, the last one first
abbrev pub run : Scale → List Token → Option State
run s [] = Some start
run s (t ∷ before) = step_from s (run s before) t

-- how tightly each binds that waits
abbrev pub ranks : List Frame → List ℕ
ranks [] = []
ranks (f ∷ frames) = f.rank ∷ ranks frames

-- what waits and binds with 0, 1 or 5 is pending: a parenthesis, an `implies`, an operator before its operand
abbrev pub with_rank : ℕ → List Pending → List Pending
with_rank zero pending = a_paren ∷ pending
with_rank (suc zero) pending = an_implies ∷ pending
with_rank (suc (suc r)) pending = if nat_le 5 (suc (suc r)) then an_operator ∷ pending else pending

-- what is pending of what waits
abbrev pub pending_of : List ℕ → List Pending
pending_of [] = []
pending_of (r ∷ ranks) = with_rank r (pending_of ranks)

-- whose bound is read
abbrev pub bound_of : Place → Option Timed
bound_of (at_bound of) = Some of
bound_of (at_low of x) = Some of
bound_of (at_comma of x a j) = Some of
bound_of (at_high of x a j) = Some of
bound_of (at_closing of x a j b) = Some of
bound_of _ = None

-- what is pending while it is: an operator before its operand is, from its word on
abbrev pub pending_in : Option Timed → List ℕ → List Pending
pending_in None ranks = pending_of ranks
pending_in (Some of) ranks = if is_beside of then pending_of ranks else an_operator ∷ pending_of ranks

-- what is expected
abbrev pub expected_at : Place → List ℕ → What
expected_at at_operand ranks = what.Operand
expected_at (at_bound of) ranks = what.Operand
expected_at (at_low of x) ranks = what.Number
expected_at (at_comma of x a j) ranks = what.Comma
expected_at (at_high of x a j) ranks = what.Number
expected_at (at_closing of x a j b) ranks = what.Bracket
expected_at (at_term negative) ranks = what.Term
expected_at (at_star negative n) ranks = what.Star
expected_at (at_name negative n) ranks = what.Name
expected_at at_sign ranks = what.Relation
expected_at (at_constant r) ranks = what.Constant
expected_at (at_number r negative) ranks = what.Constant
expected_at at_end ranks = if has_paren (pending_of ranks) then what.Paren else what.End

-- the tokens are a formula
abbrev pub ends_at : Place → List ℕ → Bool
ends_at at_end ranks = not (has_paren (pending_of ranks))
ends_at _ ranks = false

-- the terms of an atom that may go on by one more
abbrev pub terms_at : Place → ℕ → ℕ
terms_at (at_term negative) n = n
terms_at (at_star negative m) n = n
terms_at (at_name negative m) n = n
terms_at at_sign n = n
terms_at _ n = 0

-- a sign after the fourth term
abbrev pub fifth_at : Place → ℕ → Token → Bool
fifth_at at_sign n plus = n == 4
fifth_at at_sign n minus = n == 4
fifth_at _ n t = false

-- the upper number is less than the lower
abbrev pub disorder_at : Place → Token → Bool
disorder_at (at_high of x a j) (number b k) = nat_lt (b * 10 ^ j) (a * 10 ^ k)
disorder_at _ t = false

-- the upper end of a bound of an operator that looks ahead comes next
abbrev pub future_at : Place → Bool
future_at (at_high of x a j) = not (looks_back of)
future_at _ = false
