-- What the code's tokens spell, and a parser before the first. A helper for the contracts of the code.
use Rattle.std.specs.Prelude.{ℕ, List, []}
use Rattle.stl_grammar.specs.Tokens as Tokens
use Rattle.stl_grammar.specs.Tokens.{word, number, relation, open_paren, close_paren, open_bracket, close_bracket, comma, star, plus, minus}
use Rattle.stl_grammar.specs.Spelling.{spelling}
use Rattle.stl_grammar.specs.Parsing.{Parse, between}
use Rattle.stl_grammar.specs.declared.token.Token.{Token as Code}
use Rattle.stl_grammar.specs.declared.token.Token.TheVariants.{Keyword as IsKeyword, Name, Number, Relation, OpenParen}
use Rattle.stl_grammar.specs.declared.token.Token.TheVariants.{CloseParen, OpenBracket, CloseBracket, Comma, Star, Plus, Minus}
use Rattle.stl_grammar.specs.declared.place.Place.TheVariants.{Operand}

-- the token of a text that the code spells, where it spells it exactly
abbrev pub plain : List ℕ → Code → Tokens.Token
plain text (IsKeyword w) = word (spelling w)
plain text (Name from to) = word (between from to text)
plain text (Number d) = number d.value d.decimals
plain text (Relation r) = relation r
plain text OpenParen = open_paren
plain text CloseParen = close_paren
plain text OpenBracket = open_bracket
plain text CloseBracket = close_bracket
plain text Comma = comma
plain text Star = star
plain text Plus = plus
plain text Minus = minus

-- before the first token
abbrev pub empty_parse : Parse
empty_parse = record { place = Operand; frames = []; drafts = []; terms = []; made = 0 }
