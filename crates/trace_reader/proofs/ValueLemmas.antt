-- The number that the bytes of a word spell.
use Rattle.std.proofs.Common.{◌≡◌, ℕ, ◌+◌, ◌*◌, ◌/◌, ◌%◌, ◌^◌, ◌<◌, List, [], ◌∷◌, length}
use Rattle.std.proofs.Common.{refl, arith, ◌∙◌, ap}
use Rattle.std.specs.Int.Bits.{bit_and, and_zero_r, and_mask, and_block}
use Rattle.trace_reader.specs.Words.{word_of, Below, spelled}
use Rattle.trace_reader.proofs.ByteLemmas.{and_bytes, eight_of, four_of}

-- each byte with the tenfold of the one before it; the tenfold of the last is lost
pairs_are : (a b c d e f g h : ℕ) → Below 10 (a ∷ b ∷ c ∷ d ∷ e ∷ f ∷ g ∷ h ∷ [])
    → word_of (a ∷ b ∷ c ∷ d ∷ e ∷ f ∷ g ∷ h ∷ []) * 2561 % 18446744073709551616 / 256
    ≡ word_of ((10 * a + b) ∷ (10 * b + c) ∷ (10 * c + d) ∷ (10 * d + e) ∷ (10 * e + f) ∷ (10 * f + g) ∷ (10 * g + h) ∷ 0 ∷ [])
pairs_are a b c d e f g h l = omega (arith, l)

-- every other byte is left
bytes_left : (a b c d e f g h : ℕ) → Below 256 (a ∷ b ∷ c ∷ d ∷ e ∷ f ∷ g ∷ h ∷ [])
    → bit_and (word_of (a ∷ b ∷ c ∷ d ∷ e ∷ f ∷ g ∷ h ∷ [])) 71777214294589695 ≡ a + 65536 * c + 4294967296 * e + 281474976710656 * g
bytes_left a b c d e f g h l =
    let few : Below 256 (255 ∷ 0 ∷ 255 ∷ 0 ∷ 255 ∷ 0 ∷ 255 ∷ 0 ∷ [])
    = (omega arith, (omega arith, (omega arith, (omega arith, (omega arith, (omega arith, (omega arith, (omega arith, tt)))))))) in
    let s : bit_and (word_of (a ∷ b ∷ c ∷ d ∷ e ∷ f ∷ g ∷ h ∷ [])) 71777214294589695
    ≡ word_of (bit_and a 255 ∷ bit_and b 0 ∷ bit_and c 255 ∷ bit_and d 0 ∷ bit_and e 255 ∷ bit_and f 0 ∷ bit_and g 255 ∷ bit_and h 0 ∷ [])
    = and_bytes (a ∷ b ∷ c ∷ d ∷ e ∷ f ∷ g ∷ h ∷ []) (255 ∷ 0 ∷ 255 ∷ 0 ∷ 255 ∷ 0 ∷ 255 ∷ 0 ∷ []) refl l few in
    let first : bit_and a 255 ≡ a % 256 = and_mask a 8 in
    let third : bit_and c 255 ≡ c % 256 = and_mask c 8 in
    let fifth : bit_and e 255 ≡ e % 256 = and_mask e 8 in
    let seventh : bit_and g 255 ≡ g % 256 = and_mask g 8 in
    omega (arith, s, first, third, fifth, seventh, and_zero_r b, and_zero_r d, and_zero_r f, and_zero_r h, l.0, l.1.1.0, l.1.1.1.1.0, l.1.1.1.1.1.1.0)

-- each pair with the hundredfold of the one before it
fours_are : (p q r s : ℕ) → p < 100 → q < 100 → r < 100 → s < 100
    → (p + 65536 * q + 4294967296 * r + 281474976710656 * s) * 6553601 % 18446744073709551616 / 65536
    ≡ (100 * p + q) + 65536 * (100 * q + r) + 4294967296 * (100 * r + s)
fours_are p q r s a b c d = omega arith

-- every other two bytes are left
halves_left : (x y z : ℕ) → x < 65536 → y < 65536 → z < 65536 → bit_and (x + 65536 * y + 4294967296 * z) 281470681808895 ≡ x + 4294967296 * z
halves_left x y z a b c =
    let parts : x + 65536 * y + 4294967296 * z ≡ (z * 2 ^ 16 + y) * 2 ^ 16 + x = omega arith in
    let low : bit_and ((z * 2 ^ 16 + y) * 2 ^ 16 + x) (4294901760 * 2 ^ 16 + 65535) ≡ bit_and (z * 2 ^ 16 + y) 4294901760 * 2 ^ 16 + bit_and x 65535
    = and_block 16 (z * 2 ^ 16 + y) 4294901760 x 65535 a (omega arith) in
    let high : bit_and (z * 2 ^ 16 + y) (65535 * 2 ^ 16 + 0) ≡ bit_and z 65535 * 2 ^ 16 + bit_and y 0 = and_block 16 z 65535 y 0 b (omega arith) in
    let first : bit_and x 65535 ≡ x % 65536 = and_mask x 16 in
    let third : bit_and z 65535 ≡ z % 65536 = and_mask z 16 in
    ap (λ w. bit_and w 281470681808895) parts ∙ omega (arith, low, high, first, third, and_zero_r y)

-- the upper half with the ten-thousandfold of the lower one
joined : (x z : ℕ) → x < 10000 → z < 10000 → (x + 4294967296 * z) * 42949672960001 % 18446744073709551616 / 4294967296 ≡ 10000 * x + z
joined x z a b = omega arith

abbrev pub Valued : ℕ → List ℕ → Type 0
Valued word digits = Below 10 digits → word ≡ word_of digits
    → bit_and (bit_and (word * 2561 % 18446744073709551616 / 256) 71777214294589695 * 6553601 % 18446744073709551616 / 65536) 281470681808895
    * 42949672960001 % 18446744073709551616 / 4294967296 ≡ spelled 0 digits

value_of_eight : (word a b c d e f g h : ℕ) → Valued word (a ∷ b ∷ c ∷ d ∷ e ∷ f ∷ g ∷ h ∷ [])
value_of_eight word a b c d e f g h l is =
    let pairs : word * 2561 % 18446744073709551616 / 256
    ≡ word_of ((10 * a + b) ∷ (10 * b + c) ∷ (10 * c + d) ∷ (10 * d + e) ∷ (10 * e + f) ∷ (10 * f + g) ∷ (10 * g + h) ∷ 0 ∷ [])
    = rw is (pairs_are a b c d e f g h l) in
    let last : Below 256 ((10 * e + f) ∷ (10 * f + g) ∷ (10 * g + h) ∷ 0 ∷ [])
    = (omega (arith, l), (omega (arith, l), (omega (arith, l), (omega arith, tt)))) in
    let small : Below 256 ((10 * a + b) ∷ (10 * b + c) ∷ (10 * c + d) ∷ (10 * d + e) ∷ (10 * e + f) ∷ (10 * f + g) ∷ (10 * g + h) ∷ 0 ∷ [])
    = (omega (arith, l), (omega (arith, l), (omega (arith, l), (omega (arith, l), last)))) in
    let m = bytes_left (10 * a + b) (10 * b + c) (10 * c + d) (10 * d + e) (10 * e + f) (10 * f + g) (10 * g + h) 0 small in
    let p : 10 * a + b < 100 = omega (arith, l) in
    let q : 10 * c + d < 100 = omega (arith, l) in
    let r : 10 * e + f < 100 = omega (arith, l) in
    let s : 10 * g + h < 100 = omega (arith, l) in
    let fours = fours_are (10 * a + b) (10 * c + d) (10 * e + f) (10 * g + h) p q r s in
    let k = halves_left (100 * (10 * a + b) + (10 * c + d)) (100 * (10 * c + d) + (10 * e + f)) (100 * (10 * e + f) + (10 * g + h))
    (omega (arith, p, q)) (omega (arith, q, r)) (omega (arith, r, s)) in
    let j = joined (100 * (10 * a + b) + (10 * c + d)) (100 * (10 * e + f) + (10 * g + h)) (omega (arith, p, q)) (omega (arith, r, s)) in
    rw (pairs, m, fours, k, j) (omega arith)

pub value_is : (word : ℕ) (digits : List ℕ) → length digits ≡ 8 → Valued word digits
value_is word = eight_of (Valued word) (value_of_eight word)

-- each of four bytes with the tenfold of the one before it; the tenfold of the last is lost
pairs_of_four : (a b c d : ℕ) → Below 10 (a ∷ b ∷ c ∷ d ∷ [])
    → word_of (a ∷ b ∷ c ∷ d ∷ []) * 2561 % 4294967296 / 256 ≡ word_of ((10 * a + b) ∷ (10 * b + c) ∷ (10 * c + d) ∷ [])
pairs_of_four a b c d l = omega (arith, l)

-- the middle one of three bytes is dropped
middle_dropped : (x y z : ℕ) → Below 256 (x ∷ y ∷ z ∷ []) → bit_and (word_of (x ∷ y ∷ z ∷ [])) 16711935 ≡ x + 65536 * z
middle_dropped x y z l =
    let few : Below 256 (255 ∷ 0 ∷ 255 ∷ []) = (omega arith, (omega arith, (omega arith, tt))) in
    let s : bit_and (word_of (x ∷ y ∷ z ∷ [])) 16711935 ≡ word_of (bit_and x 255 ∷ bit_and y 0 ∷ bit_and z 255 ∷ [])
    = and_bytes (x ∷ y ∷ z ∷ []) (255 ∷ 0 ∷ 255 ∷ []) refl l few in
    let first : bit_and x 255 ≡ x % 256 = and_mask x 8 in
    let third : bit_and z 255 ≡ z % 256 = and_mask z 8 in
    omega (arith, s, first, third, and_zero_r y, l.0, l.1.1.0)

-- the second pair with the hundredfold of the first
two_joined : (p q : ℕ) → p < 100 → q < 100 → (p + 65536 * q) * 6553601 % 4294967296 / 65536 ≡ 100 * p + q
two_joined p q a b = omega arith

-- what two products make of half a word is the number that its digits spell
abbrev pub ValuedFour : ℕ → List ℕ → Type 0
ValuedFour word digits = Below 10 digits → word ≡ word_of digits
    → bit_and (word * 2561 % 4294967296 / 256) 16711935 * 6553601 % 4294967296 / 65536 ≡ spelled 0 digits

-- of four digits
value_of_four : (word a b c d : ℕ) → ValuedFour word (a ∷ b ∷ c ∷ d ∷ [])
value_of_four word a b c d l is =
    let pairs : word * 2561 % 4294967296 / 256 ≡ word_of ((10 * a + b) ∷ (10 * b + c) ∷ (10 * c + d) ∷ []) = rw is (pairs_of_four a b c d l) in
    let small : Below 256 ((10 * a + b) ∷ (10 * b + c) ∷ (10 * c + d) ∷ []) = (omega (arith, l), (omega (arith, l), (omega (arith, l), tt))) in
    let m = middle_dropped (10 * a + b) (10 * b + c) (10 * c + d) small in
    let two = two_joined (10 * a + b) (10 * c + d) (omega (arith, l)) (omega (arith, l)) in
    rw (pairs, m, two) (omega arith)

-- and of each list of four
pub value_is_of_four : (word : ℕ) (digits : List ℕ) → length digits ≡ 4 → ValuedFour word digits
value_is_of_four word = four_of (ValuedFour word) (value_of_four word)
