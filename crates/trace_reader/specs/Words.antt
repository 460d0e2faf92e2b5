-- Bytes of a word, the lowest first, and the digits among them.
use Rattle.std.specs.Prelude.{◌≡◌, ℕ, ◌+◌, ◌*◌, ◌<◌, ◌≤◌, List, [], ◌∷◌, take, drop, length, true}
use Rattle.std.specs.Prelude.{◌^◌, ◌⊎◌, Bool, nat_le}
use Rattle.stl_syntax.specs.Characters.{is_digit, all, StopsAt, decimal_value}
use Rattle.trace_reader.specs.declared.digits.Digits.{Digits}

-- the word with these bytes, the lowest first
abbrev pub word_of : List ℕ → ℕ
word_of [] = 0
word_of (b ∷ bytes) = b + 256 * word_of bytes

-- each number is below a limit
abbrev pub Below : ℕ → List ℕ → Type 0
Below n [] = Unit {0}
Below n (x ∷ xs) = (x < n) × Below n xs

-- a digit's worth
abbrev pub is_worth : ℕ → Bool
is_worth d = nat_le d 9

-- the first n bytes are at most 9, and the lowest bit of the marks, if any, is the top bit of the next one
pub record IsMarked (bytes : List ℕ) (marks n : ℕ) : Type 0 where
  pub within : n ≤ length bytes
  pub worths : all is_worth (take n bytes) ≡ true
  pub stops : StopsAt is_worth (drop n bytes)
  pub place : ((n ≡ length bytes) × (marks ≡ 0)) ⊎ ((n < length bytes) × ((r : ℕ) × (marks ≡ (2 * r + 1) * 2 ^ (8 * n + 7))))

-- the marks of a word with these bytes
abbrev pub IsMarksOf : ℕ → ℕ → Type 0
IsMarksOf word marks = (bytes : List ℕ) → length bytes ≡ 8 → Below 256 bytes → word ≡ word_of bytes → (n : ℕ) × IsMarked bytes marks n

-- the number with these digits, after n
abbrev pub spelled : ℕ → List ℕ → ℕ
spelled n [] = n
spelled n (d ∷ digits) = spelled (10 * n + d) digits

-- where each byte is a digit's worth, the number that they spell
abbrev pub IsValueOf : ℕ → ℕ → Type 0
IsValueOf word value = (digits : List ℕ) → length digits ≡ 8 → Below 10 digits → word ≡ word_of digits → value ≡ spelled 0 digits

-- so many bytes come before the first that is no digit
pub record IsCount (text : List ℕ) (n : ℕ) : Type 0 where
  pub within : n ≤ length text
  pub digits : all is_digit (take n text) ≡ true
  pub stops : StopsAt is_digit (drop n text)

-- the digits that the text begins with: how many, some at least, and the number that they spell in base 10
pub record IsEight (text : List ℕ) (e : Digits) : Type 0 where
  pub some : 0 < e.len
  pub count : IsCount text e.len
  pub value : e.value ≡ decimal_value 0 (take e.len text)
  pub small : e.value ≤ 99999999

-- the marks of a word with these four bytes
abbrev pub AreMarksOfFour : ℕ → ℕ → Type 0
AreMarksOfFour word marks = (bytes : List ℕ) → length bytes ≡ 4 → Below 256 bytes → word ≡ word_of bytes → (n : ℕ) × IsMarked bytes marks n

-- where each of four bytes is a digit's worth, the number that they spell
abbrev pub IsValueOfFour : ℕ → ℕ → Type 0
IsValueOfFour word value = (digits : List ℕ) → length digits ≡ 4 → Below 10 digits → word ≡ word_of digits → value ≡ spelled 0 digits
