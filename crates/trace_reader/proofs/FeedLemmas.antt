-- The first LF among bytes.
use Rattle.std.proofs.Common.{◌≡◌, ℕ, ◌+◌, ◌<◌, List, [], ◌∷◌, ◌++◌, length, take, drop, get_or, refl, sym, ap, ◌∙◌, arith}
use Rattle.std.proofs.lemmas.List.{take-append-drop, drop_more, get_or-take, length-take-le, take_more}
use Rattle.std.proofs.lemmas.List.Elements.{All-head, All-tail, All-from_get_or}
use Rattle.std.proofs.lemmas.Bool.{eqb-true, eq-eqb, ne_eqb}
use Rattle.memchr.specs.Find.{is_byte, Nowhere, NoneBefore, Passes}
use Rattle.trace_reader.specs.Feeds.{HasNoFeed, through_feed}

through-none : (xs : List ℕ) → HasNoFeed xs → through_feed xs ≡ xs
through-none [] h = refl
through-none (x ∷ xs) h = rw (ne_eqb x 10 (All-head (λ c. c ≡ 10 → ⊥) x xs h), through-none xs (All-tail (λ c. c ≡ 10 → ⊥) x xs h)) refl

-- bytes up to the first LF
pub through-at : (xs more : List ℕ) → HasNoFeed xs → through_feed (xs ++ 10 ∷ more) ≡ xs ++ 10 ∷ []
through-at [] more h = refl
through-at (x ∷ xs) more h = rw (ne_eqb x 10 (All-head (λ c. c ≡ 10 → ⊥) x xs h), through-at xs more (All-tail (λ c. c ≡ 10 → ⊥) x xs h)) refl

-- no LF
module _ (piece : List ℕ) (h : Nowhere (Passes (is_byte 10) piece) 0 (length piece)) where
  -- where no LF is found there is none
  pub none-free : HasNoFeed piece
  none-free = All-from_get_or (λ c. c ≡ 10 → ⊥) piece 0 (λ i l e. h i (omega arith) l (eq-eqb (get_or piece i 0) 10 e))

  -- and all bytes are taken
  pub none-all : through_feed piece ≡ piece
  none-all = through-none piece none-free

-- the first LF at a place
module _ (piece : List ℕ) (at : ℕ) (h : NoneBefore (Passes (is_byte 10) piece) 0 (length piece) at) (is : Passes (is_byte 10) piece at) where
  feed : get_or piece at 0 ≡ 10
  feed = eqb-true (get_or piece at 0) 10 is

  -- before the first LF there is none
  pub at-free : HasNoFeed (take at piece)
  at-free =
      let n : length (take at piece) ≡ at = length-take-le at piece (omega (arith, h.high)) in
      All-from_get_or (λ c. c ≡ 10 → ⊥) (take at piece) 0
      (λ i l e. let k : i < at = omega (arith, l, n) in h.before i (omega arith) k (eq-eqb (get_or piece i 0) 10 (sym (get_or-take at piece i 0 k) ∙ e)))

  -- the bytes up to the LF and the LF
  pub at-taken : take (at + 1) piece ≡ take at piece ++ 10 ∷ []
  at-taken = take_more piece at 0 h.high ∙ ap (λ c. take at piece ++ c ∷ []) feed

  -- are those that are taken
  pub at-through : through_feed piece ≡ take at piece ++ 10 ∷ []
  at-through =
      ap through_feed (sym (take-append-drop at piece) ∙ ap (λ t. take at piece ++ t) (drop_more piece at 0 h.high ∙ ap (λ c. c ∷ drop (at + 1) piece) feed))
      ∙ through-at (take at piece) (drop (at + 1) piece) at-free
