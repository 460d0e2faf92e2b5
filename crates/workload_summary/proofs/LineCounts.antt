-- How many lines texts have: two joined, the line of the truth at the start, and a text up to a place.
use Rattle.std.proofs.Common.{◌≡◌, ◌⊎◌, inl, inr, ℕ, ◌+◌, ◌<◌, ◌≤◌, Bool, true, false, List, [], ◌∷◌, ◌++◌}
use Rattle.std.proofs.Common.{length, drop, get_or, refl, ap, ◌∙◌, arith}
use Rattle.std.specs.Prelude.{◌==◌}
use Rattle.std.proofs.lemmas.Bool.{cases_Bool}
use Rattle.std.proofs.lemmas.List.{drop_more, drop_all}
use Rattle.stl_syntax.specs.Texts.{start_line}
use Rattle.workload_summary.specs.Counting.{line_count}

-- the lines of two texts
count_join : (x y : List ℕ) → line_count (x ++ y) ≡ line_count x + line_count y
count_join [] y = omega arith
count_join (c ∷ x) y = by_test (cases_Bool (c == 10)) (count_join x y)
  where
    by_test : ((c == 10) ≡ true) ⊎ ((c == 10) ≡ false) → line_count (x ++ y) ≡ line_count x + line_count y
        → line_count ((c ∷ x) ++ y) ≡ line_count (c ∷ x) + line_count y
    by_test (inl e) h = rw e (omega (arith, h))
    by_test (inr e) h = rw e h

one_line : (b : Bool) → line_count (start_line b) ≡ 1
one_line true = refl
one_line false = refl

-- a text that ends in the line of the start has a line
pub ends_in_line : (front line text : List ℕ) (holds : Bool) → text ≡ front ++ line → line ≡ start_line holds → 1 ≤ line_count text
ends_in_line front line text holds parts is =
    let whole : line_count text ≡ line_count front + line_count line = ap line_count parts ∙ count_join front line in
    let one : line_count line ≡ 1 = ap line_count is ∙ one_line holds in
    omega (arith, whole, one)

module _ (text : List ℕ) where
  -- so many lines end before place i
  abbrev pub HasCounted : ℕ → ℕ → Type 0
  HasCounted i n = (n ≤ i) × (n + line_count (drop i text) ≡ line_count text)

  -- with the lines that one more byte ends
  pub counted_more : (i n k d : ℕ) → i < length text → k ≤ 1 → k ≡ line_count (get_or text i d ∷ []) → HasCounted i n → HasCounted (i + 1) (n + k)
  counted_more i n k d l one is (few, sum) =
      let c = get_or text i d in
      let parts : line_count (drop i text) ≡ line_count (c ∷ []) + line_count (drop (i + 1) text) =
      ap line_count (drop_more text i d l) ∙ count_join (c ∷ []) (drop (i + 1) text) in
      (omega (arith, few, one), omega (arith, sum, is, parts))

  -- all bytes
  pub counted_all : (n : ℕ) → HasCounted (length text) n → n ≡ line_count text
  counted_all n (few, sum) =
      let none : line_count (drop (length text) text) ≡ 0 = ap line_count (drop_all (length text) text (omega arith)) in
      omega (arith, sum, none)
