-- What a parser refuses: a helper for the contracts of the code.
use Rattle.std.specs.Prelude.{◌≡◌, ℕ, ◌*◌, ◌^◌, ◌+◌, ◌&&◌, ◌==◌, nat_le, nat_lt, not, Bool, false, if◌then◌else◌, List, [], ◌∷◌, length, Option, Some, None}
use Rattle.stl_grammar.specs.FormulaRefusals.{passes_limit, opens_bound}
use Rattle.stl_grammar.specs.Operators.{looks_back, timed_word}
use Rattle.stl_grammar.specs.Machine.{pending_of, bound_of, pending_in, expected_at, ends_at}
use Rattle.stl_grammar.specs.States.{place_in}
use Rattle.stl_grammar.specs.Parsing.{Parse, rank, parse_step}
use Rattle.stl_grammar.specs.declared.token.Keyword.TheVariants.{Timed as TimedWord, Inf}
use Rattle.stl_grammar.specs.declared.token.Token.{Token}
use Rattle.stl_grammar.specs.declared.token.Token.TheVariants.{Keyword as IsKeyword, Number, Plus, Minus}
use Rattle.stl_grammar.specs.declared.draft.Frame.{Frame}
use Rattle.stl_grammar.specs.declared.draft.Frame.TheVariants.{Paren as Opened}
use Rattle.stl_grammar.specs.declared.place.Place.{Place}
use Rattle.stl_grammar.specs.declared.place.Place.TheVariants.{Low, High, Sign, Constant, Number as AtNumber}
use Rattle.stl_grammar.specs.declared.fault.What.{What}
use Rattle.stl_grammar.specs.declared.fault.What.TheVariants.{Operand as AnOperand, Number as ANumber, Constant as AConstant}
use Rattle.stl_grammar.specs.declared.fault.FormulaFault.{FormulaFault}
use Rattle.stl_grammar.specs.declared.fault.FormulaFault.TheVariants.{Expected, BadNumber, BoundOrder, UnboundedFuture, TooManyTerms, TooDeep, TooManyNodes}

-- how tightly each binds that is open
abbrev pub ranks_of : List Frame → List ℕ
ranks_of [] = []
ranks_of (f ∷ frames) = rank f ∷ ranks_of frames

-- how many of what may be pending it is
abbrev pub marks_in : Frame → ℕ
marks_in f = if nat_le 2 (rank f) && nat_le (rank f) 4 then 0 else 1

-- whether it is a parenthesis
abbrev pub parens_in : Frame → ℕ
parens_in Opened = 1
parens_in _ = 0

-- the parentheses that are open
abbrev pub parens_of : List Frame → ℕ
parens_of [] = 0
parens_of (f ∷ frames) = parens_in f + parens_of frames

-- how many are pending, and how many of these are parentheses
pub record AreCounted (all opened : ℕ) (frames : List Frame) : Type 0 where
  pub pending : all ≡ length (pending_of (ranks_of frames))
  pub parens : opened ≡ parens_of frames

-- what is expected
abbrev pub expected_in : Parse → What
expected_in p = expected_at (place_in p.place) (ranks_of p.frames)

-- how much is pending
abbrev pub depth_of : Parse → ℕ
depth_of p = length (pending_in (bound_of (place_in p.place)) (ranks_of p.frames))

-- the tokens so far are a formula
abbrev pub is_whole_in : Parse → Bool
is_whole_in p = ends_at (place_in p.place) (ranks_of p.frames)

-- the upper end of a bound that looks ahead comes next
abbrev pub future_in : Place → Bool
future_in (High of low_in low) = not (looks_back of)
future_in _ = false

-- an operator that looks ahead has no bound, or no upper one
abbrev pub unbounded_in : Place → Token → List ℕ → Bool
unbounded_in place (IsKeyword (TimedWord of)) rest = not (looks_back of) && not (opens_bound (timed_word of) rest)
unbounded_in place (IsKeyword Inf) rest = future_in place
unbounded_in place _ rest = false

-- a sign after the fourth term
abbrev pub fifth_in : Place → ℕ → Token → Bool
fifth_in Sign n Plus = n == 4
fifth_in Sign n Minus = n == 4
fifth_in place n t = false

-- what a number is
abbrev pub number_in : Place → What
number_in (Low of low_in) = ANumber
number_in (High of low_in low) = ANumber
number_in (Constant rel) = AConstant
number_in (AtNumber rel negative) = AConstant
number_in _ = AnOperand

abbrev pub bad_in : Place → Token → Bool
bad_in place (Number d) = passes_limit (number_in place) d.value d.decimals
bad_in place t = false

-- the upper bound is less than the lower
abbrev pub disorder_in : Place → Token → Bool
disorder_in (High of low_in low) (Number d) = nat_lt (d.value * 10 ^ low.decimals) (low.value * 10 ^ d.decimals)
disorder_in place t = false

-- the refusals of a token that come last
abbrev pub late_in : Place → ℕ → Token → ℕ → Option FormulaFault
late_in place n t at =
    if fifth_in place n t then Some (TooManyTerms at) else if bad_in place t then Some
    (BadNumber at) else if disorder_in place t then Some (BoundOrder at) else None

-- the refusal after a step
abbrev pub refused_after : Parse → Token → ℕ → Option Parse → Option FormulaFault
refused_after p t at None = Some (Expected at (expected_in p))
refused_after p t at (Some q) =
    if nat_lt 64 (depth_of q) then Some (TooDeep at) else if nat_lt 256 q.made then Some (TooManyNodes at) else late_in p.place (length p.terms) t at

-- the refusal of a token at a place, before the rest of the text
abbrev pub refused : List ℕ → Parse → Token → List ℕ → ℕ → Option FormulaFault
refused text p t rest at = if unbounded_in p.place t rest then Some (UnboundedFuture at) else refused_after p t at (parse_step text p t)
