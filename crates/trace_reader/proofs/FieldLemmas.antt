-- The fields of a line, cut one after another.
use Rattle.std.proofs.Common.{◌≡◌, ℕ, ◌⊎◌, inl, inr, zero, suc, ◌+◌, ◌-◌, ◌<◌, ◌≤◌, Bool, true, false, List, [], ◌∷◌}
use Rattle.std.proofs.Common.{◌++◌, map, reverse, length, take, drop, get_or, refl, sym, ap, ◌∙◌, arith, Some}
use Rattle.std.specs.Prelude.{All}
use Rattle.std.proofs.lemmas.List.{take-append-drop, take_more, drop_more, reverse-append, reverse-reverse, get_or-take, length-take-le}
use Rattle.std.proofs.lemmas.List.Elements.{All-head, All-tail, All-from_get_or}
use Rattle.std.proofs.lemmas.Bool.{cases_eq, eq-eqb, ne_eqb, eqb-true}
use Rattle.stl_syntax.specs.Characters.{all, StopsAt, after_first}
use Rattle.memchr.specs.Find.{is_byte, Nowhere, NoneBefore, Passes}
use Rattle.trace_reader.specs.TraceText.{split, trim}
use Rattle.trace_reader.specs.LineParts.{fields_of}
use Rattle.stl_syntax.proofs.CharacterLemmas.{after_all, all-reverse}

-- a byte of another kind comes last
stops_before : (p : ℕ → Bool) (text : List ℕ) (n : ℕ) → n ≤ length text → (0 < n → p (get_or text (n - 1) 0) ≡ false) → StopsAt p (reverse (take n text))
stops_before p text zero l h = tt
stops_before p text (suc m) l h =
    let same : suc m - 1 ≡ m = omega arith in
    let last : p (get_or text m 0) ≡ false = rw same at (h (omega arith)) in
    let t : take (suc m) text ≡ take m text ++ get_or text m 0 ∷ [] =
    (let k : suc m ≡ m + 1 = omega arith in ap (λ j. take j text) k ∙ take_more text m 0 (omega arith)) in
    rw (t, reverse-append (take m text) (get_or text m 0 ∷ [])) last

-- the bytes before a last stretch of one kind
pub front_of : (p : ℕ → Bool) (text : List ℕ) (n : ℕ) → n ≤ length text → all p (drop n text) ≡ true → (0 < n → p (get_or text (n - 1) 0) ≡ false)
    → reverse (after_first p (reverse text)) ≡ take n text
front_of p text n l h k =
    let r : reverse text ≡ reverse (drop n text) ++ reverse (take n text) =
    ap reverse (sym (take-append-drop n text)) ∙ reverse-append (take n text) (drop n text) in
    ap (λ t. reverse (after_first p t)) r
    ∙ (ap reverse (after_all p (reverse (drop n text)) (reverse (take n text)) (all-reverse p (drop n text) h) (stops_before p text n l k))
    ∙ reverse-reverse (take n text))

-- one byte more of the kind
pub all_longer : (p : ℕ → Bool) (text : List ℕ) (n : ℕ) → 0 < n → n ≤ length text → all p (drop n text) ≡ true → p (get_or text (n - 1) 0) ≡ true
    → all p (drop (n - 1) text) ≡ true
all_longer p text n some l h k =
    let same : n - 1 + 1 ≡ n = omega arith in
    let d : drop (n - 1) text ≡ get_or text (n - 1) 0 ∷ drop n text =
    drop_more text (n - 1) 0 (omega arith) ∙ ap (λ m. get_or text (n - 1) 0 ∷ drop m text) same in
    rw (d, k) h

-- a text that stops at once
pub after_none : (p : ℕ → Bool) (c : ℕ) (text : List ℕ) → p c ≡ false → after_first p (c ∷ text) ≡ c ∷ text
after_none p c text h = rw h refl

-- a text without commas is one part
pub split-none : (xs : List ℕ) → All (λ c. c ≡ 44 → ⊥) xs → split 44 xs ≡ xs ∷ []
split-none [] h = refl
split-none (x ∷ xs) h = rw (ne_eqb x 44 (All-head (λ c. c ≡ 44 → ⊥) x xs h), split-none xs (All-tail (λ c. c ≡ 44 → ⊥) x xs h)) refl

-- a text is cut at its first comma
pub split-at : (xs ys : List ℕ) → All (λ c. c ≡ 44 → ⊥) xs → split 44 (xs ++ 44 ∷ ys) ≡ xs ∷ split 44 ys
split-at [] ys h = refl
split-at (x ∷ xs) ys h = rw (ne_eqb x 44 (All-head (λ c. c ≡ 44 → ⊥) x xs h), split-at xs ys (All-tail (λ c. c ≡ 44 → ⊥) x xs h)) refl

-- without a comma there is one field
pub last_field : (text : List ℕ) → Nowhere (Passes (is_byte 44) text) 0 (length text) → fields_of (Some text) ≡ trim text ∷ []
last_field text h =
    ap (map trim) (split-none text (All-from_get_or (λ c. c ≡ 44 → ⊥) text 0 (λ i l e. h i (omega arith) l (eq-eqb (get_or text i 0) 44 e))))

-- with one the first field ends at it
pub first_field : (text : List ℕ) (at : ℕ) → NoneBefore (Passes (is_byte 44) text) 0 (length text) at → Passes (is_byte 44) text at
    → fields_of (Some text) ≡ trim (take at text) ∷ fields_of (Some (drop (at + 1) text))
first_field text at h is =
    let comma : get_or text at 0 ≡ 44 = eqb-true (get_or text at 0) 44 is in
    let n : length (take at text) ≡ at = length-take-le at text (omega (arith, h.high)) in
    let free : All (λ c. c ≡ 44 → ⊥) (take at text) =
    All-from_get_or (λ c. c ≡ 44 → ⊥) (take at text) 0
    (λ i l e. let k : i < at = omega (arith, l, n) in h.before i (omega arith) k (eq-eqb (get_or text i 0) 44 (sym (get_or-take at text i 0 k) ∙ e))) in
    let parts : text ≡ take at text ++ 44 ∷ drop (at + 1) text =
    sym (take-append-drop at text) ∙ ap (λ t. take at text ++ t) (drop_more text at 0 h.high ∙ ap (λ c. c ∷ drop (at + 1) text) comma) in
    ap (map trim) (ap (split 44) parts ∙ split-at (take at text) (drop (at + 1) text) free)

-- a cut text has a first part
split_first : (xs : List ℕ) → (p : List ℕ) × (ps : List (List ℕ)) × (split 44 xs ≡ p ∷ ps)
split_first [] = ([], [], refl)
split_first (x ∷ xs) = by_test (split_first xs) (cases_eq x 44)
  where
    by_test : ((p : List ℕ) × (ps : List (List ℕ)) × (split 44 xs ≡ p ∷ ps)) → (x ≡ 44) ⊎ (x ≡ 44 → ⊥)
        → (p : List ℕ) × (ps : List (List ℕ)) × (split 44 (x ∷ xs) ≡ p ∷ ps)
    by_test before (inl e) = ([], split 44 xs, rw (eq-eqb x 44 e) refl)
    by_test (p, ps, h) (inr e) = (x ∷ p, ps, rw (ne_eqb x 44 e, h) refl)

-- there is always a field
pub split_some : (xs : List ℕ) → 0 < length (split 44 xs)
split_some xs = let (p, ps, h) = split_first xs in rw h (omega arith)

-- how many parts there are
pub split-comma : (x : ℕ) (xs : List ℕ) → x ≡ 44 → length (split 44 (x ∷ xs)) ≡ length (split 44 xs) + 1
split-comma x xs e = rw (eq-eqb x 44 e) (omega arith)

-- a byte that is no comma makes no field more
pub split-other : (x : ℕ) (xs : List ℕ) → (x ≡ 44 → ⊥) → length (split 44 (x ∷ xs)) ≡ length (split 44 xs)
split-other x xs e = let (p, ps, h) = split_first xs in rw (ne_eqb x 44 e, h) refl

-- the fields from a place on
pub split_more : (text : List ℕ) (n : ℕ) → n < length text → split 44 (drop n text) ≡ split 44 (get_or text n 0 ∷ drop (n + 1) text)
split_more text n h = ap (split 44) (drop_more text n 0 h)

-- trimming changes no count of fields
pub fields_count : (text : List ℕ) → length (fields_of (Some text)) ≡ length (split 44 text)
fields_count text = same (split 44 text)
  where
    same : (parts : List (List ℕ)) → length (map trim parts) ≡ length parts
    same [] = refl
    same (p ∷ parts) = ap suc (same parts)
