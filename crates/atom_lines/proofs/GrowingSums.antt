-- A sum that grows by a term, and how large it can be.
use Rattle.std.proofs.Common.{◌≡◌, ℕ, ℤ, ◌+◌, ◌*◌, ◌^◌, ◌<◌, ◌≤◌, ◌+ℤ◌, ◌-ℤ◌, ◌*ℤ◌, List, length, get_or, drop, nat_abs, ap, arith}
use Rattle.std.proofs.Common.{FitsSigned, to_z, of_z, mul-le-mul, sym, subst, ◌∙◌, pos, refl, Bool, true, false, [], ◌∷◌}
use Rattle.std.specs.Prelude.{if◌then◌else◌, slice_index_or, All}
use Rattle.std.proofs.lemmas.Bool.{true≢false, false≢true}
use Rattle.std.specs.Int.{w32, w64}
use Rattle.std.proofs.lemmas.Int.{ints, to_z-of_z, unsigned_abs-mul}
use Rattle.std.proofs.lemmas.List.{drop_more, drop_all}
use Rattle.atom_lines.specs.declared.bound_atom.BoundTerm.{BoundTerm}
use Rattle.atom_lines.specs.declared.bound_atom.BoundAtom.{BoundAtom}
use Rattle.atom_lines.specs.Sums.{cell, sum_over, reach, IsAtomSound, IsTermSound}

-- a sum goes on by the next term
pub add_term : {p more : ℤ} (terms : List BoundTerm) (i : ℕ) (d : BoundTerm) (first second : List ℤ) (sum total : ℤ) → i < length terms
    → p ≡ (get_or terms i d).coef *ℤ cell (get_or terms i d) first second → (sum +ℤ sum_over (drop i terms) first second) ≡ total → more ≡ sum +ℤ p
    → (more +ℤ sum_over (drop (i + 1) terms) first second) ≡ total
add_term terms i d first second sum total h e so_far on =
    let rest : sum_over (drop i terms) first second
    ≡ (get_or terms i d).coef *ℤ cell (get_or terms i d) first second +ℤ sum_over (drop (i + 1) terms) first second =
    ap (λ ks. sum_over ks first second) (drop_more terms i d h) in
    let q = (get_or terms i d).coef *ℤ cell (get_or terms i d) first second in
    omega (arith, ints, so_far, on, e, rest)

-- one more term adds at most 2^28
pub size_more : (sum p more : ℤ) (i n : ℕ) → nat_abs sum ≤ i * n → nat_abs p ≤ n → more ≡ sum +ℤ p → nat_abs more ≤ (i + 1) * n
size_more sum p more i n h k e = omega (arith, ints, h, k, e)

-- how far a sum lies from the constant is small
pub reach_small : (a : BoundAtom) (first second : List ℤ) → nat_abs a.limit ≤ 1073741824
    → nat_abs (sum_over a.terms.items first second) ≤ 2 ^ 30 → nat_abs (reach a first second) ≤ 2 ^ 31
reach_small a first second h k = omega (arith, ints, h, k)

small_fits : (z : ℤ) → nat_abs z ≤ 2 ^ 32 → FitsSigned w64 z
small_fits z h = omega (arith, ints, h)

-- a small number is read as it was written
pub read_back : (z : ℤ) → nat_abs z ≤ 2 ^ 32 → to_z w64 (of_z w64 z) ≡ z
read_back z h = to_z-of_z w64 z (small_fits z h)

fits_word : (z : ℤ) → nat_abs z ≤ 2 ^ 30 → FitsSigned w32 z
fits_word z h = omega (arith, ints, h)

-- a constant within its limit is read as it is
pub limit_read : (z limit : ℤ) → nat_abs limit ≤ 2 ^ 30 → z ≡ to_z w32 (of_z w32 limit) → z ≡ limit
limit_read z limit h e = e ∙ to_z-of_z w32 limit (fits_word limit h)

small_sum : (s t : ℤ) (i n : ℕ) → nat_abs s ≤ i * 2 ^ 28 → i < n → n ≤ 4 → nat_abs t ≤ 2 ^ 28 → nat_abs (s +ℤ t) ≤ 2 ^ 32
small_sum s t i n h l few k = omega (arith, ints, h, l, few, k)

small_less : (s z : ℤ) (i n : ℕ) → nat_abs s ≤ i * 2 ^ 28 → i ≤ n → n ≤ 4 → nat_abs z ≤ 2 ^ 30 → nat_abs (s -ℤ z) ≤ 2 ^ 32
small_less s z i n h l few k = omega (arith, ints, h, l, few, k)

-- the sum with the next term fits
pub sum_fits : (s t : ℤ) (i n : ℕ) → nat_abs s ≤ i * 2 ^ 28 → i < n → n ≤ 4 → nat_abs t ≤ 2 ^ 28 → FitsSigned w64 (s +ℤ to_z w64 (of_z w64 t))
sum_fits s t i n h l few k =
    subst (λ x. FitsSigned w64 (s +ℤ x)) (sym (read_back t (omega (arith, k)))) (small_fits (s +ℤ t) (small_sum s t i n h l few k))

-- and without the constant
pub less_fits : (s z : ℤ) (i n : ℕ) → nat_abs s ≤ i * 2 ^ 28 → i ≤ n → n ≤ 4 → nat_abs z ≤ 2 ^ 30 → FitsSigned w64 (s -ℤ to_z w64 (of_z w64 z))
less_fits s z i n h l few k =
    subst (λ x. FitsSigned w64 (s -ℤ x)) (sym (read_back z (omega (arith, k)))) (small_fits (s -ℤ z) (small_less s z i n h l few k))

-- the sum of all terms
pub whole_sum : (terms : List BoundTerm) (first second : List ℤ) (s : ℤ) (i : ℕ) → length terms ≤ i
    → (s +ℤ sum_over (drop i terms) first second) ≡ sum_over terms first second → s ≡ sum_over terms first second
whole_sum terms first second s i past e =
    let rest : sum_over (drop i terms) first second ≡ pos 0 = ap (λ ks. sum_over ks first second) (drop_all i terms past) in
    omega (arith, ints, e, rest)

-- is small
pub whole_small : (s total : ℤ) (i n : ℕ) → nat_abs s ≤ i * 2 ^ 28 → i ≤ n → n ≤ 4 → s ≡ total → nat_abs total ≤ 2 ^ 30
whole_small s total i n h l few e = subst (λ x. nat_abs x ≤ 2 ^ 30) e (by_count s i n h l few)
  where
    by_count : (s : ℤ) (i n : ℕ) → nat_abs s ≤ i * 2 ^ 28 → i ≤ n → n ≤ 4 → nat_abs s ≤ 2 ^ 30
    by_count s i n h l few = omega (arith, h, l, few)

-- and without the constant it is the atom's
pub reach_read : (a : BoundAtom) (first second : List ℤ) (s z : ℤ) (i : ℕ) → nat_abs s ≤ i * 2 ^ 28 → i ≤ length a.terms.items
    → length a.terms.items ≤ 4 → nat_abs a.limit ≤ 2 ^ 30 → z ≡ a.limit → s ≡ sum_over a.terms.items first second
    → to_z w64 (of_z w64 (s -ℤ to_z w64 (of_z w64 z))) ≡ reach a first second
reach_read a first second s z i h l few k e is =
    let small : nat_abs z ≤ 2 ^ 30 = subst (λ x. nat_abs x ≤ 2 ^ 30) (sym e) k in
    ap (λ x. to_z w64 (of_z w64 (s -ℤ x))) (read_back z (omega (arith, small)))
    ∙ read_back (s -ℤ z) (small_less s z i (length a.terms.items) h l few small)
    ∙ ap (λ x. x -ℤ z) is ∙ ap (λ x. sum_over a.terms.items first second -ℤ x) e

-- one term over two lists of values: its value among the second ones, where these are taken twice
module _ (terms : List BoundTerm) (k : BoundTerm) (first second : List ℤ) (e : terms ≡ k ∷ []) where
  pub one_at_row : sum_over terms second second ≡ k.coef *ℤ slice_index_or second k.column (pos 0)
  one_at_row = ap (λ ks. sum_over ks second second) e ∙ ap (λ v. k.coef *ℤ v +ℤ pos 0) (either k.step) ∙ no_more (k.coef *ℤ slice_index_or second k.column (pos 0))
    where
      either : (b : Bool) → slice_index_or (if b then second else second) k.column (pos 0) ≡ slice_index_or second k.column (pos 0)
      either true = refl
      either false = refl

      no_more : (z : ℤ) → z +ℤ pos 0 ≡ z
      no_more z = omega (arith, ints)

  -- a step keeps the first ones
  pub one_of_steps : k.step ≡ true → sum_over terms first second ≡ sum_over terms first first
  one_of_steps s = ap (λ ks. sum_over ks first second) e ∙ ap (λ v. k.coef *ℤ v +ℤ pos 0) (kept k.step s) ∙ sym (ap (λ ks. sum_over ks first first) e)
    where
      kept : (b : Bool) → b ≡ true
          → slice_index_or (if b then first else second) k.column (pos 0) ≡ slice_index_or (if b then first else first) k.column (pos 0)
      kept true s = refl
      kept false s = absurd (false≢true s)

  -- a ramp goes on to the second ones
  pub one_of_ramps : k.step ≡ false → sum_over terms first second ≡ sum_over terms second second
  one_of_ramps s = ap (λ ks. sum_over ks first second) e ∙ ap (λ v. k.coef *ℤ v +ℤ pos 0) (left k.step s) ∙ sym (ap (λ ks. sum_over ks second second) e)
    where
      left : (b : Bool) → b ≡ false
          → slice_index_or (if b then first else second) k.column (pos 0) ≡ slice_index_or (if b then second else second) k.column (pos 0)
      left true s = absurd (true≢false s)
      left false s = refl

-- a small number of 32 bits is read as it was written
pub word_read : (z : ℤ) → nat_abs z ≤ 2 ^ 30 → to_z w32 (of_z w32 z) ≡ z
word_read z h = to_z-of_z w32 z (fits_word z h)

-- the coefficient of the one term is small
pub one_sound : (terms : List BoundTerm) (k : BoundTerm) (width : ℕ) → terms ≡ k ∷ [] → All (IsTermSound width) terms → nat_abs k.coef ≤ 16
one_sound terms k width e all = (subst (All (IsTermSound width)) e all 0 k (omega arith)).coef

-- what one term comes to at a row, less the constant
pub one_reach : (a : BoundAtom) (k : BoundTerm) (width : ℕ) (xs : List ℤ) (v n : ℤ) → a.terms.items ≡ k ∷ [] → IsAtomSound width a
    → v ≡ slice_index_or xs k.column (pos 0) → nat_abs v ≤ 16777216
    → n ≡ to_z w32 (of_z w32 k.coef) *ℤ to_z w32 (of_z w32 v) -ℤ to_z w32 (of_z w32 a.limit)
    → nat_abs (to_z w32 (of_z w32 k.coef) *ℤ to_z w32 (of_z w32 v)) ≤ 2 ^ 28 → to_z w64 (of_z w64 n) ≡ reach a xs xs
one_reach a k width xs v n e sound at few is small =
    let coef = one_sound a.terms.items k width e sound.terms in
    let here : to_z w32 (of_z w32 k.coef) *ℤ to_z w32 (of_z w32 v) ≡ sum_over a.terms.items xs xs =
    ap (λ x. x *ℤ to_z w32 (of_z w32 v)) (word_read k.coef (omega (arith, coef))) ∙ ap (λ y. k.coef *ℤ y) (word_read v (omega (arith, few)) ∙ at)
    ∙ sym (one_at_row a.terms.items k xs xs e) in
    let whole : n ≡ reach a xs xs = is ∙ ap (λ x. to_z w32 (of_z w32 k.coef) *ℤ to_z w32 (of_z w32 v) -ℤ x) (word_read a.limit sound.limit)
    ∙ ap (λ x. x -ℤ a.limit) here in
    read_back n (fits n (to_z w32 (of_z w32 k.coef) *ℤ to_z w32 (of_z w32 v)) (to_z w32 (of_z w32 a.limit)) is small
    (subst (λ x. nat_abs x ≤ 2 ^ 30) (sym (word_read a.limit sound.limit)) sound.limit)) ∙ whole
  where
    fits : (n p l : ℤ) → n ≡ p -ℤ l → nat_abs p ≤ 2 ^ 28 → nat_abs l ≤ 2 ^ 30 → nat_abs n ≤ 2 ^ 32
    fits n p l is h k = omega (arith, ints, is, h, k)

-- a number of 64 bits is read as the small one that it is
word_is : (z x : ℤ) → nat_abs z ≤ 2 ^ 30 → x ≡ z → to_z w64 (of_z w64 x) ≡ z
word_is z x h e = ap (λ v. to_z w64 (of_z w64 v)) e ∙ read_back z (omega (arith, h))

-- a coefficient times a value is small
pub small_product : (a b : ℤ) → nat_abs a ≤ 16 → nat_abs b ≤ 16777216 → nat_abs (a *ℤ b) ≤ 2 ^ 28
small_product a b h k = rw (unsigned_abs-mul a b) (mul-le-mul h k)

-- it fits, as it is reckoned with 64 bits
pub product_fits : (a b x y : ℤ) → nat_abs a ≤ 16 → nat_abs b ≤ 16777216 → x ≡ a → y ≡ b → FitsSigned w64 (to_z w64 (of_z w64 x) *ℤ to_z w64 (of_z w64 y))
product_fits a b x y h k e f =
    subst (λ z. FitsSigned w64 (z *ℤ to_z w64 (of_z w64 y))) (sym (word_is a x (omega (arith, h)) e))
    (subst (λ z. FitsSigned w64 (a *ℤ z)) (sym (word_is b y (omega (arith, k)) f))
    (small_fits (a *ℤ b) (let s = small_product a b h k in omega (arith, s))))

-- and is what it is
pub product_is : (a b x y : ℤ) → nat_abs a ≤ 16 → nat_abs b ≤ 16777216 → x ≡ a → y ≡ b
    → to_z w64 (of_z w64 (to_z w64 (of_z w64 x) *ℤ to_z w64 (of_z w64 y))) ≡ a *ℤ b
product_is a b x y h k e f =
    word_is (a *ℤ b) _ (let s = small_product a b h k in omega (arith, s))
    (ap (λ z. z *ℤ to_z w64 (of_z w64 y)) (word_is a x (omega (arith, h)) e) ∙ ap (λ z. a *ℤ z) (word_is b y (omega (arith, k)) f))

small_above : (p l : ℤ) → nat_abs p ≤ 2 ^ 28 → nat_abs l ≤ 2 ^ 30 → nat_abs (p -ℤ l) ≤ 2 ^ 32
small_above p l h k = omega (arith, ints, h, k)

-- a product less the constant fits
pub above_fits : (p l x : ℤ) → nat_abs p ≤ 2 ^ 28 → nat_abs l ≤ 2 ^ 30 → x ≡ l → FitsSigned w64 (to_z w64 (of_z w64 p) -ℤ to_z w64 (of_z w64 x))
above_fits p l x h k e =
    subst (λ z. FitsSigned w64 (z -ℤ to_z w64 (of_z w64 x))) (sym (read_back p (omega (arith, h))))
    (subst (λ z. FitsSigned w64 (p -ℤ z)) (sym (word_is l x k e)) (small_fits (p -ℤ l) (small_above p l h k)))

-- and is what it is
pub above_is : (p l x : ℤ) → nat_abs p ≤ 2 ^ 28 → nat_abs l ≤ 2 ^ 30 → x ≡ l
    → to_z w64 (of_z w64 (to_z w64 (of_z w64 p) -ℤ to_z w64 (of_z w64 x))) ≡ p -ℤ l
above_is p l x h k e =
    ap (λ v. to_z w64 (of_z w64 v))
    (ap (λ z. z -ℤ to_z w64 (of_z w64 x)) (read_back p (omega (arith, h))) ∙ ap (λ z. p -ℤ z) (word_is l x k e))
    ∙ read_back (p -ℤ l) (small_above p l h k)

-- a word of 32 bits is read as the small one that it is
pub word32_is : (z x : ℤ) → nat_abs z ≤ 2 ^ 30 → x ≡ to_z w32 (of_z w32 z) → x ≡ z
word32_is z x h e = e ∙ word_read z h
