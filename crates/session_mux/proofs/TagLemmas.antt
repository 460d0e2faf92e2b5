-- Tags as numbers: each tag has one of its own, which is not 0.
use Rattle.std.proofs.Common.{◌≡◌, get_or, drop, length-drop, refl, sym, ap, subst, ◌∙◌, ℕ, zero, suc, ◌+◌, ◌-◌, ◌*◌, ◌^◌, ◌⊎◌}
use Rattle.std.proofs.Common.{inl, inr, ◌++◌, take, append-nil, append_assoc, codes, ◌≢◌, ◌<◌, ◌≤◌, true, List, [], ◌∷◌, length, arith}
use Rattle.std.proofs.lemmas.Bool.{false≢true, and_parts}
use Rattle.std.proofs.lemmas.Bool.Decides.{nat_tests}
use Rattle.std.proofs.lemmas.List.{drop_more, drop_all, take_all, take-append-drop, length-take-le}
use Rattle.std.proofs.Math.Seq.{drop-append_seam}
use Rattle.std.proofs.Math.Nat.{pow-suc}
use Rattle.stl_syntax.specs.Characters.{all, StopsAt}
use Rattle.session_mux.specs.Sessions.{Tagged, is_tag_byte, IsTag, tag, IsTagged, alone, followed}
use Rattle.session_mux.specs.Tags.{number_of}

-- a byte of a tag is none of 0, and below 256
pub tag_byte : (c : ℕ) → is_tag_byte c ≡ true → (0 < c) × (c < 256)
tag_byte c e = grind (arith, nat_tests, e)

-- the bytes of a tag have one number
pub number_once : (xs ys : List ℕ) → all is_tag_byte xs ≡ true → all is_tag_byte ys ≡ true → number_of xs ≡ number_of ys → xs ≡ ys
number_once [] [] h k e = refl
number_once [] (d ∷ ys) h k e =
    let d_in = tag_byte d (and_parts (is_tag_byte d) (all is_tag_byte ys) k).0 in
    absurd (omega (arith, e, d_in.0))
number_once (c ∷ xs) [] h k e =
    let c_in = tag_byte c (and_parts (is_tag_byte c) (all is_tag_byte xs) h).0 in
    absurd (omega (arith, e, c_in.0))
number_once (c ∷ xs) (d ∷ ys) h k e =
    let here = and_parts (is_tag_byte c) (all is_tag_byte xs) h in
    let there = and_parts (is_tag_byte d) (all is_tag_byte ys) k in
    let c_in = tag_byte c here.0 in
    let d_in = tag_byte d there.0 in
    let same : c ≡ d = omega (arith, e, c_in.1, d_in.1) in
    let rest : number_of xs ≡ number_of ys = omega (arith, e, c_in.1, d_in.1) in
    ap (λ z. z ∷ xs) same ∙ ap (λ zs. d ∷ zs) (number_once xs ys here.1 there.1 rest)

-- a tag's bytes, and how many they are
pub bytes_of : (t : List ℕ) → IsTag t → all is_tag_byte t ≡ true
bytes_of t (tag bytes short) = bytes

-- a tag has at most 16 bytes
pub short_of : (t : List ℕ) → IsTag t → length t ≤ 16
short_of t (tag bytes short) = short

-- one number, one tag
pub tag_once : (t u : List ℕ) → IsTag t → IsTag u → number_of t ≡ number_of u → t ≡ u
tag_once t u p q e = number_once t u (bytes_of t p) (bytes_of u q) e

some_power : (n : ℕ) → 0 < 256 ^ n
some_power zero = omega arith
some_power (suc n) = omega (arith, pow-suc 256 n, some_power n)

-- n bytes make a number below 256^n
number_below : (n : ℕ) (xs : List ℕ) → length xs ≤ n → all is_tag_byte xs ≡ true → number_of xs < 256 ^ n
number_below n [] few h = some_power n
number_below zero (c ∷ xs) few h = absurd (omega (arith, few))
number_below (suc n) (c ∷ xs) few h =
    let here = and_parts (is_tag_byte c) (all is_tag_byte xs) h in
    let c_in = tag_byte c here.0 in
    let less : number_of xs < 256 ^ n = number_below n xs (omega (arith, few)) here.1 in
    omega (arith, pow-suc 256 n, less, c_in.1)

all_drop : (k : ℕ) (xs : List ℕ) → all is_tag_byte xs ≡ true → all is_tag_byte (drop k xs) ≡ true
all_drop zero xs h = h
all_drop (suc k) [] h = h
all_drop (suc k) (c ∷ xs) h = all_drop k xs (and_parts (is_tag_byte c) (all is_tag_byte xs) h).1

-- each end of a tag has a number of 128 bits
number_small : (t : List ℕ) (k : ℕ) → IsTag t → number_of (drop k t) < 2 ^ 128
number_small t k is = number_below 16 (drop k t) (omega (arith, length-drop k t, short_of t is)) (all_drop k t (bytes_of t is))

-- one byte more in front
number_more : (t : List ℕ) (k : ℕ) → k < length t → number_of (drop k t) ≡ number_of (drop (k + 1) t) * 256 + get_or t k 0
number_more t k within = ap number_of (drop_more t k 0 within) ∙ omega arith

-- there is room for one byte more
pub number_room : (t : List ℕ) (k number : ℕ) → IsTag t → 0 < k → k ≤ length t → number ≡ number_of (drop k t) → number * 256 + get_or t (k - 1) 0 < 2 ^ 128
number_room t k number is some within e =
    let back : k - 1 + 1 ≡ k = omega arith in
    let more = number_more t (k - 1) (omega arith) in
    let same : number_of (drop (k - 1 + 1) t) ≡ number_of (drop k t) = ap (λ n. number_of (drop n t)) back in
    omega (arith, number_small t (k - 1) is, more, same, e)

-- the tag of a line is one
pub tag_is : (line : List ℕ) (x : Tagged) → IsTagged line x → IsTag x.tag
tag_is line x (alone is) = is
tag_is line x (followed content is) = is

-- ---- where a tag ends

-- what follows the tag of a line
pub record After (line : List ℕ) (x : Tagged) : Type 0 where
  -- the line begins with a tag
  pub is : IsTag x.tag
  -- what stands behind the tag
  pub rest : List ℕ
  -- tag and rest are the line
  pub parts : line ≡ x.tag ++ rest
  -- the tag goes on no further
  pub ends : StopsAt is_tag_byte rest
  -- nothing follows, or a space and the content
  pub next : (rest ≡ []) ⊎ (rest ≡ 32 ∷ x.content)

after_tag : (line : List ℕ) (x : Tagged) → IsTagged line x → After line x
after_tag line x (alone {t = t} is) = record { is = is; rest = []; parts = sym (append-nil t); ends = tt; next = inl refl }
after_tag line x (followed content is) = record { is = is; rest = 32 ∷ content; parts = refl; ends = refl; next = inr refl }

-- bytes of tags go on up to there
run_once : (t rest : List ℕ) (n : ℕ) → all is_tag_byte t ≡ true → StopsAt is_tag_byte rest → n ≤ length (t ++ rest)
    → all is_tag_byte (take n (t ++ rest)) ≡ true
    → StopsAt is_tag_byte (drop n (t ++ rest)) → n ≡ length t
run_once [] rest zero h k within front stops = refl
run_once [] [] (suc n) h k within front stops = absurd (omega (arith, within))
run_once [] (c ∷ rest) (suc n) h k within front stops = absurd (false≢true (sym k ∙ (and_parts (is_tag_byte c) (all is_tag_byte (take n rest)) front).0))
run_once (c ∷ t) rest zero h k within front stops = absurd (false≢true (sym stops ∙ (and_parts (is_tag_byte c) (all is_tag_byte t) h).0))
run_once (c ∷ t) rest (suc n) h k within front stops =
    ap suc (run_once t rest n (and_parts (is_tag_byte c) (all is_tag_byte t) h).1 k (omega (arith, within))
    (and_parts (is_tag_byte c) (all is_tag_byte (take n (t ++ rest))) front).1 stops)

-- so many bytes at the front of a line may be of a tag, and no more
module _ (line : List ℕ) (n : ℕ) (within : n ≤ length line) (front : all is_tag_byte (take n line) ≡ true) (stops : StopsAt is_tag_byte (drop n line)) where
  tag_length : (x : Tagged) (a : After line x) → n ≡ length x.tag
  tag_length x a =
      run_once x.tag a.rest n (bytes_of x.tag a.is) a.ends (subst (λ w. n ≤ length w) a.parts within)
      (subst (λ w. all is_tag_byte (take n w) ≡ true) a.parts front)
      (subst (λ w. StopsAt is_tag_byte (drop n w)) a.parts stops)

  left : (x : Tagged) (a : After line x) → drop n line ≡ a.rest
  left x a = ap (λ w. drop n w) a.parts ∙ ap (λ m. drop m (x.tag ++ a.rest)) (tag_length x a) ∙ drop-append_seam x.tag a.rest

  -- none or too many
  pub no_tag : (n ≡ 0) ⊎ (16 < n) → (x : Tagged) → ¬ IsTagged line x
  no_tag (inl e) x is = let a = after_tag line x is in some_length x.tag a.is (sym (tag_length x a) ∙ e)
    where
      some_length : (t : List ℕ) → IsTag t → length t ≢ 0
      some_length t (tag bytes short) e = absurd (omega (arith, e))
  no_tag (inr over) x is = let a = after_tag line x is in absurd (omega (arith, over, tag_length x a, short_of x.tag a.is))

  -- neither the end nor a space follows
  pub no_space : n < length line → get_or line n 0 ≢ 32 → (x : Tagged) → ¬ IsTagged line x
  no_space more other x is =
      let a = after_tag line x is in
      let next : drop n line ≡ get_or line n 0 ∷ drop (n + 1) line = drop_more line n 0 more in
      elim a.next [
        | inl none ↦ absurd (let z : [] ≡ get_or line n 0 ∷ drop (n + 1) line = sym none ∙ sym (left x a) ∙ next in cc)
        | inr space ↦ other (first_of (get_or line n 0) 32 (drop (n + 1) line) x.content (sym next ∙ left x a ∙ space))
      ]
    where
      first_of : (b d : ℕ) (bs ds : List ℕ) → b ∷ bs ≡ d ∷ ds → b ≡ d
      first_of b d bs ds e = cc

made_tag : (t : List ℕ) → all is_tag_byte t ≡ true → length t ≢ 0 → length t ≤ 16 → IsTag t
made_tag [] bytes some short = absurd (some refl)
made_tag (c ∷ t) bytes some short = tag bytes short

-- a line that is its tag
pub whole_tag : (line rest : List ℕ) (n : ℕ) → all is_tag_byte (take n line) ≡ true → n ≡ length line → n ≢ 0 → n ≤ 16 → rest ≡ drop n line
    → IsTagged line (record { tag = line; content = rest })
whole_tag line rest n front e some short is =
    subst (λ (w : List ℕ). IsTagged line (record { tag = line; content = w })) (sym (is ∙ drop_all n line (omega (arith, e))))
    (alone (made_tag line (subst (λ w. all is_tag_byte w ≡ true) (take_all n line (omega (arith, e))) front) (λ z. some (e ∙ z)) (omega (arith, e, short))))

-- a tag, a space and the content
pub tag_and_content : (line rest : List ℕ) (n : ℕ) → all is_tag_byte (take n line) ≡ true → n < length line → n ≢ 0 → n ≤ 16
    → get_or line n 0 ≡ 32 → rest ≡ drop (n + 1) line
    → IsTagged line (record { tag = take n line; content = rest })
tag_and_content line rest n front more some short space is =
    let long : length (take n line) ≡ n = length-take-le n line (omega (arith, more)) in
    subst (λ (w : List ℕ). IsTagged w (record { tag = take n line; content = rest }))
    (ap (λ w. take n line ++ w) (ap (λ w. 32 ∷ w) is ∙ ap (λ b. b ∷ drop (n + 1) line) (sym space) ∙ sym (drop_more line n 0 more)) ∙ take-append-drop n line)
    (followed rest (made_tag (take n line) front (λ z. some (sym long ∙ z)) (omega (arith, long, short))))

-- a piece that begins with a tag and a space, as they stand in a room
pub rest_is : (t room piece : List ℕ) (n : ℕ) → take (n + 1) room ≡ take n room ++ codes " " → take n room ≡ t → take (n + 1) piece ≡ take (n + 1) room
    → piece ≡ t ++ 32 ∷ drop (n + 1) piece
rest_is t room piece n space is same =
    sym (take-append-drop (n + 1) piece) ∙ ap (λ w. w ++ drop (n + 1) piece) (same ∙ space ∙ ap (λ w. w ++ codes " ") is)
    ∙ append_assoc t (codes " ") (drop (n + 1) piece)
