-- Characters, digits and decimals, as formulas and traces have them.
use Rattle.std.specs.Prelude.{◌≡◌, ℕ, ◌+◌, ◌-◌, ◌*◌, ◌^◌, ◌&&◌, ◌||◌, ◌==◌, nat_le, bytes_eq, Bool, true}
use Rattle.std.specs.Prelude.{false, List, [], ◌∷◌, ◌++◌, reverse, length, if◌then◌else◌, ℤ, pos, ◌*ℤ◌}

-- an ASCII digit
abbrev pub is_digit : ℕ → Bool
is_digit c = nat_le 48 c && nat_le c 57

-- an ASCII letter or _
abbrev pub begins_word : ℕ → Bool
begins_word c = (nat_le 65 c && nat_le c 90) || (nat_le 97 c && nat_le c 122) || (c == 95)

-- a letter, a digit, _ or a point
abbrev pub goes_on_word : ℕ → Bool
goes_on_word c = begins_word c || is_digit c || (c == 46)

-- space, tab, LF and CR
abbrev pub is_blank : ℕ → Bool
is_blank c = (c == 32) || (c == 9) || (c == 10) || (c == 13)

-- space and tab
abbrev pub is_space : ℕ → Bool
is_space c = (c == 32) || (c == 9)

-- each byte is of the kind
abbrev pub all : (ℕ → Bool) → List ℕ → Bool
all p [] = true
all p (c ∷ text) = p c && all p text

-- the text does not begin with such a byte
abbrev pub StopsAt : (ℕ → Bool) → List ℕ → Type 0
StopsAt p [] = Unit {0}
StopsAt p (c ∷ text) = p c ≡ false

-- the number whose last digits these are, after n
abbrev pub decimal_value : ℕ → List ℕ → ℕ
decimal_value n [] = n
decimal_value n (c ∷ digits) = decimal_value (10 * n + (c - 48)) digits

-- the text after its first bytes of this kind
abbrev pub after_first : (ℕ → Bool) → List ℕ → List ℕ
after_first p [] = []
after_first p (c ∷ text) = if p c then after_first p text else c ∷ text

-- decimals without the zeros at their end
abbrev pub without_zeros : List ℕ → List ℕ
without_zeros decimals = reverse (after_first (λ c. c == 48) (reverse decimals))

-- a point and a digit come first
abbrev pub begins_decimals : List ℕ → Bool
begins_decimals (c ∷ d ∷ text) = (c == 46) && is_digit d
begins_decimals _ = false

-- the bytes are the number n / 10^k without a sign; zeros at the end of its decimals are dropped
pub data IsNumeral : List ℕ → ℕ → ℕ → Type 0 where
  integer : {c : ℕ} {digits : List ℕ} → all is_digit (c ∷ digits) ≡ true → IsNumeral (c ∷ digits) (decimal_value 0 (c ∷ digits)) 0
  decimal : (c : ℕ) (digits : List ℕ) (d : ℕ) (decimals : List ℕ) → all is_digit (c ∷ digits) ≡ true → all is_digit (d ∷ decimals) ≡ true
      → IsNumeral ((c ∷ digits) ++ 46 ∷ d ∷ decimals) (decimal_value 0 ((c ∷ digits) ++ without_zeros (d ∷ decimals))) (length (without_zeros (d ∷ decimals)))

-- n / 10^k in ticks of 1 / 10^digits
abbrev pub ticks : ℕ → ℕ → ℕ → ℕ
ticks digits n k = n * 10 ^ (digits - k)

-- the same with a sign
abbrev pub signed_ticks : ℕ → ℤ → ℕ → ℤ
signed_ticks digits n k = n *ℤ pos (10 ^ (digits - k))

-- the name is one of the words
abbrev pub is_among : List ℕ → List (List ℕ) → Bool
is_among name [] = false
is_among name (w ∷ words) = bytes_eq name w || is_among name words
