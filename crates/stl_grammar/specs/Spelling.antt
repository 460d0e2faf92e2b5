-- How the code spells tokens.
use Rattle.std.specs.Prelude.{◌≡◌, ℕ, ◌+◌, ◌||◌, ◌==◌, ◌<◌, nat_lt, nat_le, MatchBool, Bool, false, List, ◌∷◌, ◌++◌, length, drop, codes, IsTrue}
use Rattle.stl_grammar.specs.Tokens.{Token, word, number, relation, open_paren, close_paren, open_bracket, close_bracket, comma, star, plus, minus, IsToken}
use Rattle.stl_syntax.specs.Names.{is_name}
use Rattle.stl_grammar.specs.declared.token.Keyword.{Keyword}
use Rattle.stl_grammar.specs.declared.token.Keyword.TheVariants.{Constant, Not, Connective, Timed, Inf}
use Rattle.stl_grammar.specs.Operators.{connective_word, timed_word, constant_word}
use Rattle.stl_grammar.specs.declared.decimal.Decimal.{Decimal}
use Rattle.stl_grammar.specs.declared.token.Token.{Token as Code}
use Rattle.stl_grammar.specs.declared.token.Token.TheVariants.{Keyword as IsKeyword, Name, Number, Relation, OpenParen}
use Rattle.stl_grammar.specs.declared.token.Token.TheVariants.{CloseParen, OpenBracket, CloseBracket, Comma, Star, Plus, Minus}

-- how a word of the grammar is spelled
abbrev pub spelling : Keyword → List ℕ
spelling (Constant b) = constant_word b
spelling Not = codes "not"
spelling (Connective o) = connective_word o
spelling (Timed of) = timed_word of
spelling Inf = codes "inf"

-- a name that stands in the text from one place up to another
pub record IsNameAt (text : List ℕ) (from to : ℕ) (name : List ℕ) : Type 0 where
  pub good : IsTrue (is_name name)
  pub after : List ℕ
  pub stands : drop from text ≡ name ++ after
  pub ends : from + length name ≡ to

-- a number past every limit
abbrev pub IsLarge : Token → Type 0
IsLarge t = (n : ℕ) × (k : ℕ) × (t ≡ number n k) × IsTrue (nat_lt 6 k || nat_lt 4294967295 n)

-- the token of a number; one of 7 decimals stands for a large one
abbrev pub IsNumber : Decimal → Token → Type 0
IsNumber d t = MatchBool (nat_le d.decimals 6) (t ≡ number d.value d.decimals) (IsLarge t)

-- the token that the code spells, in this text
abbrev pub Spells : List ℕ → Code → Token → Type 0
Spells text (IsKeyword w) t = t ≡ word (spelling w)
Spells text (Name from to) t = (name : List ℕ) × (t ≡ word name) × IsNameAt text from to name
Spells text (Number d) t = IsNumber d t
Spells text (Relation r) t = t ≡ relation r
Spells text OpenParen t = t ≡ open_paren
Spells text CloseParen t = t ≡ close_paren
Spells text OpenBracket t = t ≡ open_bracket
Spells text CloseBracket t = t ≡ close_bracket
Spells text Comma t = t ≡ comma
Spells text Star t = t ≡ star
Spells text Plus t = t ≡ plus
Spells text Minus t = t ≡ minus

-- the code spells a number: the value, and how many of its last digits are decimals
abbrev pub SpellsNumber : ℕ → ℕ → Decimal → Type 0
SpellsNumber value decimals d = MatchBool (nat_le d.decimals 6)
    ((d.value ≡ value) × (d.decimals ≡ decimals) × (value < 4294967296))
    (IsTrue (nat_lt 6 decimals || nat_lt 4294967295 value))

-- the second byte is =
abbrev pub has_equal : List ℕ → Bool
has_equal (c ∷ d ∷ more) = d == 61
has_equal rest = false

-- the code spells the first token of `rest`, which has so many bytes
pub record IsLexeme (text rest : List ℕ) (code : Code) (len : ℕ) : Type 0 where
  pub bytes : List ℕ
  pub after : List ℕ
  pub token : Token
  pub splits : rest ≡ bytes ++ after
  pub size : length bytes ≡ len
  pub reads : IsToken bytes after token
  pub spells : Spells text code token
