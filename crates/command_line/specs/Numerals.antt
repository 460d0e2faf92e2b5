-- A word that is a number: digits alone.
use Rattle.std.specs.Prelude.{◌≡◌, ℕ, ◌<◌, ◌≤◌, true, List, length}
use Rattle.stl_syntax.specs.Characters.{is_digit, all, decimal_value}

-- the word is the number n, which is at most `most`
pub record IsNumberWord (most : ℕ) (word : List ℕ) (n : ℕ) : Type 0 where
  pub some : 0 < length word
  pub digits : all is_digit word ≡ true
  pub value : decimal_value 0 word ≡ n
  pub small : n ≤ most
