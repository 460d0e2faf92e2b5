-- Words as lists of bytes.
use Rattle.std.proofs.Common.{◌≡◌, ℕ, ◌+◌, ◌*◌, ◌^◌, ◌<◌, List, [], ◌∷◌, length}
use Rattle.std.proofs.Common.{refl, ap, ◌∙◌, arith}
use Rattle.std.specs.Int.Bits.{bit_and, bit_xor, and_block, xor_block}
use Rattle.trace_reader.specs.Words.{word_of, Below}

-- two words byte by byte
abbrev pub both : (ℕ → ℕ → ℕ) → List ℕ → List ℕ → List ℕ
both f [] ys = []
both f (x ∷ xs) [] = []
both f (x ∷ xs) (y ∷ ys) = f x y ∷ both f xs ys

turned : (x w : ℕ) → x + 256 * w ≡ w * 2 ^ 8 + x
turned x w = omega arith

turned_back : (w x : ℕ) → w * 2 ^ 8 + x ≡ x + 256 * w
turned_back w x = omega arith

module _ (op : ℕ → ℕ → ℕ) (nothing : op 0 0 ≡ 0)
    (block : (k a b r s : ℕ) → r < 2 ^ k → s < 2 ^ k → op (a * 2 ^ k + r) (b * 2 ^ k + s) ≡ op a b * 2 ^ k + op r s) where
  by_bytes : (xs ys : List ℕ) → length xs ≡ length ys → Below 256 xs → Below 256 ys
      → op (word_of xs) (word_of ys) ≡ word_of (both op xs ys)
  by_bytes [] [] l h k = nothing
  by_bytes [] (y ∷ ys) l h k = absurd (omega (arith, l))
  by_bytes (x ∷ xs) [] l h k = absurd (omega (arith, l))
  by_bytes (x ∷ xs) (y ∷ ys) l h k =
      let rest = by_bytes xs ys (omega (arith, l)) h.1 k.1 in
      rw (turned x (word_of xs), turned y (word_of ys))
      (block 8 (word_of xs) (word_of ys) x y (omega (arith, h.0)) (omega (arith, k.0))
      ∙ turned_back (op (word_of xs) (word_of ys)) (op x y)
      ∙ ap (λ w. op x y + 256 * w) rest)

pub and_bytes : (xs ys : List ℕ) → length xs ≡ length ys → Below 256 xs → Below 256 ys → bit_and (word_of xs) (word_of ys) ≡ word_of (both bit_and xs ys)
and_bytes = by_bytes bit_and refl and_block

pub xor_bytes : (xs ys : List ℕ) → length xs ≡ length ys → Below 256 xs → Below 256 ys → bit_xor (word_of xs) (word_of ys) ≡ word_of (both bit_xor xs ys)
xor_bytes = by_bytes bit_xor refl xor_block

-- what is so of each eight bytes is so of each list of that length
pub eight_of : (P : List ℕ → Type 0) → ((a b c d e f g h : ℕ) → P (a ∷ b ∷ c ∷ d ∷ e ∷ f ∷ g ∷ h ∷ [])) → (xs : List ℕ) → length xs ≡ 8 → P xs
eight_of P f (a ∷ b ∷ c ∷ d ∷ e ∷ f1 ∷ g ∷ h ∷ []) n = f a b c d e f1 g h
eight_of P f (a ∷ b ∷ c ∷ d ∷ e ∷ f1 ∷ g ∷ h ∷ i ∷ more) n = absurd (omega (arith, n))
eight_of P f [] n = absurd (omega (arith, n))
eight_of P f (a ∷ []) n = absurd (omega (arith, n))
eight_of P f (a ∷ b ∷ []) n = absurd (omega (arith, n))
eight_of P f (a ∷ b ∷ c ∷ []) n = absurd (omega (arith, n))
eight_of P f (a ∷ b ∷ c ∷ d ∷ []) n = absurd (omega (arith, n))
eight_of P f (a ∷ b ∷ c ∷ d ∷ e ∷ []) n = absurd (omega (arith, n))
eight_of P f (a ∷ b ∷ c ∷ d ∷ e ∷ f1 ∷ []) n = absurd (omega (arith, n))
eight_of P f (a ∷ b ∷ c ∷ d ∷ e ∷ f1 ∷ g ∷ []) n = absurd (omega (arith, n))

-- and of each four
pub four_of : (P : List ℕ → Type 0) → ((a b c d : ℕ) → P (a ∷ b ∷ c ∷ d ∷ [])) → (xs : List ℕ) → length xs ≡ 4 → P xs
four_of P f (a ∷ b ∷ c ∷ d ∷ []) n = f a b c d
four_of P f (a ∷ b ∷ c ∷ d ∷ e ∷ more) n = absurd (omega (arith, n))
four_of P f [] n = absurd (omega (arith, n))
four_of P f (a ∷ []) n = absurd (omega (arith, n))
four_of P f (a ∷ b ∷ []) n = absurd (omega (arith, n))
four_of P f (a ∷ b ∷ c ∷ []) n = absurd (omega (arith, n))
