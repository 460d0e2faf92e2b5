-- The tokens of a formula's text.
use Rattle.std.specs.Prelude.{◌≡◌, ℕ, ◌==◌, true, false, List, [], ◌∷◌, ◌++◌, length, codes}
use Rattle.stl_syntax.specs.Characters.{is_blank, is_digit, begins_word, goes_on_word, all, StopsAt, decimal_value, without_zeros, begins_decimals}
use Rattle.stl_syntax.specs.declared.rel.Rel.{Rel}
use Rattle.stl_syntax.specs.declared.rel.Rel.TheVariants.{AtLeast, Above, AtMost, Below}

-- a number is a whole number, and how many of its last digits are decimals
pub data Token : Type 0 where
  word : List ℕ → Token
  number : ℕ → ℕ → Token
  relation : Rel → Token
  open_paren : Token
  close_paren : Token
  open_bracket : Token
  close_bracket : Token
  comma : Token
  star : Token
  plus : Token
  minus : Token

-- the number with these digits and decimals
abbrev pub decimal_number : List ℕ → List ℕ → Token
decimal_number digits decimals = number (decimal_value 0 (digits ++ decimals)) (length decimals)

-- the bytes are one token where `text` follows: words, numbers and relations are as long as possible
pub data IsToken : List ℕ → List ℕ → Token → Type 0 where
  a_word : {c : ℕ} {rest text : List ℕ} → begins_word c ≡ true → all goes_on_word rest ≡ true → StopsAt goes_on_word text
      → IsToken (c ∷ rest) text (word (c ∷ rest))
  an_integer : {c : ℕ} {digits text : List ℕ} → all is_digit (c ∷ digits) ≡ true → StopsAt is_digit text → begins_decimals text ≡ false
      → IsToken (c ∷ digits) text (decimal_number (c ∷ digits) [])
  a_decimal : {text : List ℕ} (c : ℕ) (digits : List ℕ) (d : ℕ) (decimals : List ℕ) → all is_digit (c ∷ digits) ≡ true
      → all is_digit (d ∷ decimals) ≡ true → StopsAt is_digit text
      → IsToken ((c ∷ digits) ++ 46 ∷ d ∷ decimals) text (decimal_number (c ∷ digits) (without_zeros (d ∷ decimals)))
  at_least : {text : List ℕ} → IsToken (codes ">=") text (relation AtLeast)
  at_most : {text : List ℕ} → IsToken (codes "<=") text (relation AtMost)
  above : {text : List ℕ} → StopsAt (λ c. c == 61) text → IsToken (codes ">") text (relation Above)
  below : {text : List ℕ} → StopsAt (λ c. c == 61) text → IsToken (codes "<") text (relation Below)
  paren : {text : List ℕ} → IsToken (codes "(") text open_paren
  paren_end : {text : List ℕ} → IsToken (codes ")") text close_paren
  bracket : {text : List ℕ} → IsToken (codes "[") text open_bracket
  bracket_end : {text : List ℕ} → IsToken (codes "]") text close_bracket
  a_comma : {text : List ℕ} → IsToken (codes ",") text comma
  a_star : {text : List ℕ} → IsToken (codes "*") text star
  a_plus : {text : List ℕ} → IsToken (codes "+") text plus
  a_minus : {text : List ℕ} → IsToken (codes "-") text minus

-- the tokens of a text
pub data Lexes : List ℕ → List Token → Type 0 where
  nothing : Lexes [] []
  blank : {c : ℕ} {text : List ℕ} {tokens : List Token} → is_blank c ≡ true → Lexes text tokens → Lexes (c ∷ text) tokens
  token : {t : Token} {tokens : List Token} {whole : List ℕ} (bytes text : List ℕ) → whole ≡ bytes ++ text → IsToken bytes text t → Lexes text tokens
      → Lexes whole (t ∷ tokens)
