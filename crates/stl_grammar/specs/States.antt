-- The state of the machine that a parser is in, at a scale. A helper for the contracts of the code.
use Rattle.std.specs.Prelude.{ℕ, List, [], ◌∷◌, Option, Some, None}
use Rattle.stl_syntax.specs.declared.scale.Scale.{Scale}
use Rattle.stl_grammar.specs.Drafts.{node_in, nodes_in}
use Rattle.stl_grammar.specs.Parsing.{Parse, rank, node_of_frame, coefficient}
use Rattle.stl_grammar.specs.Machine.{State, at_operand, at_bound, at_low, at_comma, at_high, at_closing, at_term}
use Rattle.stl_grammar.specs.Machine.{at_star, at_name, at_sign, at_constant, at_number, at_end}
use Rattle.stl_grammar.specs.Machine as Machine
use Rattle.stl_grammar.specs.declared.draft.Frame.{Frame}
use Rattle.stl_grammar.specs.declared.decimal.Decimal.{Decimal}
use Rattle.stl_grammar.specs.declared.place.Place.{Place}
use Rattle.stl_grammar.specs.declared.place.Place.TheVariants.{Operand, Bound, Low, Comma as AtComma, High, Closing}
use Rattle.stl_grammar.specs.declared.place.Place.TheVariants.{Term as AtTerm, Star as AtStar, Name as AtName}
use Rattle.stl_grammar.specs.declared.place.Place.TheVariants.{Sign, Constant, Number as AtNumber, End}

-- an upper end, if there is one
abbrev pub upper_of : Option Decimal → Option (ℕ × ℕ)
upper_of None = None
upper_of (Some high) = Some (high.value, high.decimals)

-- its place; a coefficient that is too large counts as 16
abbrev pub place_in : Place → Machine.Place
place_in Operand = at_operand
place_in (Bound of) = at_bound of
place_in (Low of x) = at_low of x
place_in (AtComma of x low) = at_comma of x low.value low.decimals
place_in (High of x low) = at_high of x low.value low.decimals
place_in (Closing of x low high) = at_closing of x low.value low.decimals (upper_of high)
place_in (AtTerm negative) = at_term negative
place_in (AtStar negative coef) = at_star negative (coefficient coef)
place_in (AtName negative coef) = at_name negative (coefficient coef)
place_in Sign = at_sign
place_in (Constant rel) = at_constant rel
place_in (AtNumber rel negative) = at_number rel negative
place_in End = at_end

-- what is open, with the node that it makes
abbrev pub frame_in : Scale → Frame → Machine.Frame
frame_in s f = record { rank = rank f; node = λ last. node_in s (node_of_frame f last) }

abbrev pub frames_in : Scale → List Frame → List Machine.Frame
frames_in s [] = []
frames_in s (f ∷ frames) = frame_in s f ∷ frames_in s frames

-- the state
abbrev pub state_in : Scale → Parse → State
state_in s p = record { place = place_in p.place; frames = frames_in s p.frames; nodes = nodes_in s p.drafts; terms = p.terms; made = p.made }
