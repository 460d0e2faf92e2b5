-- A parser of tokens: what it keeps, and what each token makes of it. A helper for the contracts of the code.
use Rattle.std.specs.Prelude.{◌≡◌, ℕ, suc, ◌-◌, nat_le, ◌≤◌, MatchBool, IsTrue, Bool, true, false, if◌then◌else◌, List}
use Rattle.std.specs.Prelude.{[], ◌∷◌, ◌++◌, length, take, drop, ℤ, pos, neg_ℤ, Option, Some, None, option_map}
use Rattle.stl_syntax.specs.declared.atom.Term.{Term}
use Rattle.stl_syntax.specs.declared.rel.Rel.{Rel}
use Rattle.stl_syntax.specs.Names.{is_name}
use Rattle.stl_grammar.specs.declared.decimal.Decimal.{Decimal}
use Rattle.stl_grammar.specs.declared.token.Keyword.{Keyword}
use Rattle.stl_grammar.specs.declared.token.Keyword.TheVariants.{Constant as ConstantWord, Not, Connective as ConnectiveWord, Timed as TimedWord, Inf}
use Rattle.stl_grammar.specs.declared.token.Token.{Token}
use Rattle.stl_grammar.specs.declared.token.Token.TheVariants.{Keyword as IsKeyword, Name, Number, Relation, OpenParen}
use Rattle.stl_grammar.specs.declared.token.Token.TheVariants.{CloseParen, OpenBracket, CloseBracket, Comma, Star, Plus, Minus}
use Rattle.stl_grammar.specs.Operators.{Connective, binds, left_binds, Timed, is_beside, looks_back, may_be_open}
use Rattle.stl_grammar.specs.declared.draft.Bound.{Bound}
use Rattle.stl_grammar.specs.declared.draft.Bound.TheVariants.{Whole, From, Within}
use Rattle.stl_grammar.specs.declared.draft.Operator.{Operator}
use Rattle.stl_grammar.specs.declared.draft.Operator.TheVariants.{Not as Negation, Connective as Joins, Timed as Bounded}
use Rattle.stl_grammar.specs.declared.draft.Frame.{Frame}
use Rattle.stl_grammar.specs.declared.draft.Frame.TheVariants.{Paren as Opened, Operator as Waits}
use Rattle.stl_grammar.specs.declared.draft.Draft.{Draft}
use Rattle.stl_grammar.specs.declared.draft.Draft.TheVariants.{Const, Sum, Node as Made}
use Rattle.stl_grammar.specs.declared.place.Place.{Place}
use Rattle.stl_grammar.specs.declared.place.Place.TheVariants.{Operand, Bound as InBound, Low, Comma as AtComma, High, Closing}
use Rattle.stl_grammar.specs.declared.place.Place.TheVariants.{Term as AtTerm, Star as AtStar, Name as AtName}
use Rattle.stl_grammar.specs.declared.place.Place.TheVariants.{Sign, Constant, Number as AtNumber, End}

-- what comes next, what is open, the last first, the nodes, the terms of an atom that is not at its end, and how many nodes were begun
pub record Parse : Type 0 where
  pub place : Place
  pub frames : List Frame
  pub drafts : List Draft
  pub terms : List Term
  pub made : ℕ

-- how tightly an operator binds: one with a bound beside an operand with 4, one before its operand with 5
abbrev pub operator_rank : Operator → ℕ
operator_rank Negation = 5
operator_rank (Joins o) = binds o
operator_rank (Bounded of b) = if is_beside of then 4 else 5

-- a parenthesis does not
abbrev pub rank : Frame → ℕ
rank Opened = 0
rank (Waits o left) = operator_rank o

abbrev pub top_rank : List Frame → ℕ
top_rank [] = 0
top_rank (f ∷ frames) = rank f

-- the node of an operator whose last operand stands at place `last`; a parenthesis makes none
abbrev pub node_of_frame : Frame → ℕ → Draft
node_of_frame Opened last = Const true
node_of_frame (Waits o left) last = Made o left last

-- the nodes after the frames of at least this rank came to their end
abbrev pub folded_drafts : ℕ → List Frame → List Draft → List Draft
folded_drafts r [] drafts = drafts
folded_drafts r (f ∷ frames) drafts = if nat_le r (rank f) then folded_drafts r frames (drafts ++ node_of_frame f (length drafts - 1) ∷ []) else drafts

-- and the frames that are left
abbrev pub folded_frames : ℕ → List Frame → List Frame
folded_frames r [] = []
folded_frames r (f ∷ frames) = if nat_le r (rank f) then folded_frames r frames else f ∷ frames

-- the operators of at least this rank come to their end
abbrev pub folded : ℕ → Parse → Parse
folded r p = record { place = p.place; frames = folded_frames r p.frames; drafts = folded_drafts r p.frames p.drafts; terms = p.terms; made = p.made }

-- at another place; with one node more begun
abbrev pub moved : Place → Parse → Parse
moved place p = record { place = place; frames = p.frames; drafts = p.drafts; terms = p.terms; made = p.made }

abbrev pub begun : Place → Parse → Parse
begun place p = record { place = place; frames = p.frames; drafts = p.drafts; terms = p.terms; made = suc p.made }

-- an operand is to follow what opens
abbrev pub opened : Frame → Parse → Parse
opened f p = record { place = Operand; frames = f ∷ p.frames; drafts = p.drafts; terms = p.terms; made = p.made }

-- an operator is open, after its left operand, if it has one
abbrev pub waiting : Operator → Parse → Parse
waiting o p = opened (Waits o (length p.drafts - 1)) p

-- the operand of one node is at its end, and with it the one-operand operators before it
abbrev pub completed : Draft → Parse → Parse
completed d p = folded 5 (record { place = End; frames = p.frames; drafts = p.drafts ++ d ∷ []; terms = []; made = p.made })

-- a coefficient, which is refused above 16
abbrev pub coefficient : Decimal → ℕ
coefficient d = if nat_le d.value 16 then d.value else 16

abbrev pub signed : Bool → ℕ → ℤ
signed negative n = if negative then neg_ℤ (pos n) else pos n

-- one term more
abbrev pub with_term : Bool → ℕ → List ℕ → Parse → Parse
with_term negative n name p =
    record { place = Sign; frames = p.frames; drafts = p.drafts; terms = p.terms ++ record { coef = signed negative n; name = name } ∷ []; made = p.made }

-- the bytes from one place up to another
abbrev pub between : ℕ → ℕ → List ℕ → List ℕ
between from to text = take (to - from) (drop from text)

-- whether the end is in, where the token is a bracket that opens the bound of the operator; or one that closes it
abbrev pub opening : Timed → Token → Option Bool
opening of OpenBracket = Some true
opening of CloseBracket = if may_be_open of then Some false else None
opening of _ = None

abbrev pub closing : Timed → Token → Option Bool
closing of CloseBracket = Some true
closing of OpenBracket = if may_be_open of then Some false else None
closing of _ = None

-- a bound that was not left out; an infinite end is neither in nor out
abbrev pub bound : Bool → Decimal → Option Decimal → Bool → Bound
bound low_in low None high_in = From low low_in
bound low_in low (Some high) high_in = Within (record { low = low; high = high; low_in = low_in; high_in = high_in })

-- where a token changes the place alone
abbrev pub next_place : Place → Token → Option Place
next_place (Low of low_in) (Number low) = Some (AtComma of low_in low)
next_place (AtComma of low_in low) Comma = Some (High of low_in low)
next_place (High of low_in low) (Number high) = Some (Closing of low_in low (Some high))
next_place (High of low_in low) (IsKeyword Inf) = if looks_back of then Some (Closing of low_in low None) else None
next_place (AtTerm negative) (Number coef) = Some (AtStar negative coef)
next_place (AtStar negative coef) Star = Some (AtName negative coef)
next_place Sign Plus = Some (AtTerm false)
next_place Sign Minus = Some (AtTerm true)
next_place Sign (Relation rel) = Some (Constant rel)
next_place (Constant rel) Plus = Some (AtNumber rel false)
next_place (Constant rel) Minus = Some (AtNumber rel true)
next_place _ _ = None

-- an operand begins with a word of the grammar
abbrev pub begin_keyword : Parse → Keyword → Option Parse
begin_keyword p (ConstantWord b) = Some (completed (Const b) (begun End p))
begin_keyword p Not = Some (waiting Negation (begun Operand p))
begin_keyword p (TimedWord of) = if is_beside of then None else Some (begun (InBound of) p)
begin_keyword p _ = None

-- an operand begins
abbrev pub begin_operand : List ℕ → Parse → Token → Option Parse
begin_operand text p (IsKeyword w) = begin_keyword p w
begin_operand text p (Name from to) = Some (with_term false 1 (between from to text) (begun Sign p))
begin_operand text p (Number coef) = Some (begun (AtStar false coef) p)
begin_operand text p OpenParen = Some (opened Opened p)
begin_operand text p Plus = Some (begun (AtTerm false) p)
begin_operand text p Minus = Some (begun (AtTerm true) p)
begin_operand text p _ = None

-- a bound begins, or where it may be left out, an operand
abbrev pub begin_bound : List ℕ → Timed → Parse → Token → Option Parse
begin_bound text of p t = by_opening (opening of t)
  where
    by_opening : Option Bool → Option Parse
    by_opening (Some low_in) = Some (moved (Low of low_in) p)
    by_opening None = if looks_back of then begin_operand text (waiting (Bounded of Whole) p) t else None

-- a bound ends
abbrev pub end_bound : Timed → Bool → Decimal → Option Decimal → Parse → Option Bool → Option Parse
end_bound of low_in low high p None = None
end_bound of low_in low high p (Some high_in) = Some (waiting (Bounded of (bound low_in low high high_in)) p)

-- an atom ends with its number
abbrev pub end_atom : Rel → Bool → Parse → Decimal → Parse
end_atom rel negative p d = completed (Sum (record { terms = p.terms; rel = rel; negative = negative; limit = d })) p

-- an operand that is to follow a connective
abbrev pub joined : Connective → Parse → Parse
joined o p = waiting (Joins o) (begun Operand (folded (left_binds o) p))

-- a parenthesis ends
abbrev pub closed : Parse → Option Parse
closed p = by_frames p.frames
  where
    by_frames : List Frame → Option Parse
    by_frames (Opened ∷ frames) = Some (folded 5 (record { place = End; frames = frames; drafts = p.drafts; terms = p.terms; made = p.made }))
    by_frames _ = None

-- after a whole operand
abbrev pub after_keyword : Parse → Keyword → Option Parse
after_keyword p (ConnectiveWord o) = Some (joined o p)
after_keyword p (TimedWord of) = if is_beside of then (if nat_le 4 (top_rank p.frames) then None else Some (begun (InBound of) p)) else None
after_keyword p _ = None

abbrev pub after_operand : Parse → Token → Option Parse
after_operand p (IsKeyword w) = after_keyword p w
after_operand p CloseParen = closed (folded 1 p)
after_operand p _ = None

-- at another place, where there is one
abbrev pub move_to : Parse → Option Place → Option Parse
move_to p o = option_map (λ place. moved place p) o

-- a number that ends an atom, or another token
abbrev pub step_constant : Parse → Place → Rel → Bool → Token → Option Parse
step_constant p place rel negative (Number d) = Some (end_atom rel negative p d)
step_constant p place rel negative t = move_to p (next_place place t)

-- a name that ends a term, or another token
abbrev pub step_term : List ℕ → Parse → Place → Bool → ℕ → Token → Option Parse
step_term text p place negative n (Name from to) = Some (with_term negative n (between from to text) p)
step_term text p place negative n t = move_to p (next_place place t)

-- one token more
abbrev pub parse_step : List ℕ → Parse → Token → Option Parse
parse_step text p t = by_place p.place
  where
    by_place : Place → Option Parse
    by_place Operand = begin_operand text p t
    by_place (InBound of) = begin_bound text of p t
    by_place (Closing of low_in low high) = end_bound of low_in low high p (closing of t)
    by_place (AtTerm negative) = step_term text p (AtTerm negative) negative 1 t
    by_place (AtName negative coef) = step_term text p (AtName negative coef) negative (coefficient coef) t
    by_place (Constant rel) = step_constant p (Constant rel) rel false t
    by_place (AtNumber rel negative) = step_constant p (AtNumber rel negative) rel negative t
    by_place End = after_operand p t
    by_place place = move_to p (next_place place t)

-- what a step comes to: the new state, where the token may follow
abbrev pub Gives : Option Parse → Bool → Parse → Type 0
Gives o taken new = MatchBool taken (o ≡ Some new) (o ≡ None)

-- a name of the text that the token spells
abbrev pub IsKnown : List ℕ → Token → Type 0
IsKnown text (Name from to) = (from ≤ to) × (to ≤ length text) × IsTrue (is_name (between from to text))
IsKnown text _ = Unit {0}
