use Rattle.std.proofs.Common.{◌≡◌, ℕ, Bool, true, false, List, [], ◌∷◌, length, get_or, refl, arith}
use Rattle.std.specs.Prelude.{◌==◌, bytes_eq}
use Rattle.session_mux.proofs.session.is_mark.Goals as goal

-- one byte is another list of one where both are the same
one_byte : (xs : List ℕ) (m : ℕ) → length xs ≡ 1 → (get_or xs 0 0 == m) ≡ bytes_eq xs (m ∷ [])
one_byte [] m e = absurd (omega (arith, e))
one_byte (c ∷ []) m e = by_test (c == m) refl
  where
    by_test : (b : Bool) → (c == m) ≡ b → (c == m) ≡ bytes_eq (c ∷ []) (m ∷ [])
    by_test true k = rw k refl
    by_test false k = rw k refl
one_byte (c ∷ d ∷ xs) m e = absurd (omega (arith, e))

-- none or more bytes are no list of one
not_one : (xs : List ℕ) (m : ℕ) → (length xs ≡ 1 → ⊥) → false ≡ bytes_eq xs (m ∷ [])
not_one [] m ne = refl
not_one (c ∷ []) m ne = absurd (ne refl)
not_one (c ∷ d ∷ xs) m ne = by_test (c == m) refl
  where
    by_test : (b : Bool) → (c == m) ≡ b → false ≡ bytes_eq (c ∷ d ∷ xs) (m ∷ [])
    by_test true k = rw k refl
    by_test false k = rw k refl

pub returns-then-content-ne1 : goal.returns-then-content-ne1
returns-then-content-ne1 c = not_one c.args.content.now c.args.mark c.if-content-ne1.true

pub returns : goal.returns
returns c = one_byte c.args.content.now c.args.mark c.if-content-ne1.false
