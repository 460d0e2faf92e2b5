-- A line has at most one tag and content.
use Rattle.std.proofs.Common.{◌≡◌, ℕ, true, List, [], ◌∷◌, ◌++◌, refl, sym, ap, ◌∙◌, subst}
use Rattle.std.proofs.lemmas.Bool.{false≢true, and_parts}
use Rattle.stl_syntax.specs.Characters.{all}
use Rattle.session_mux.specs.Sessions.{Tagged, is_tag_byte, IsTagged, alone, followed}
use Rattle.session_mux.proofs.TagLemmas.{bytes_of}

-- a text by its tag: alone, or followed by a space and the content
data IsCut (c : List ℕ) (x : Tagged) : Type 0 where
  whole : all is_tag_byte x.tag ≡ true → c ≡ x.tag → x.content ≡ [] → IsCut c x
  with_content : all is_tag_byte x.tag ≡ true → c ≡ x.tag ++ 32 ∷ x.content → IsCut c x

cut_of : {c : List ℕ} {x : Tagged} → IsTagged c x → IsCut c x
cut_of (alone {t = t} is) = whole (bytes_of t is) refl refl
cut_of (followed {t = t} content is) = with_content (bytes_of t is) refl

-- a space is of no tag
no_space : (rest : List ℕ) → all is_tag_byte (32 ∷ rest) ≡ true → ⊥
no_space rest e = false≢true e

not_within : (t u b : List ℕ) → all is_tag_byte t ≡ true → t ≡ u ++ 32 ∷ b → ⊥
not_within t [] b h e = no_space b (subst (λ l. all is_tag_byte l ≡ true) e h)
not_within [] (d ∷ u) b h e = cc
not_within (c ∷ t) (d ∷ u) b h e = not_within t u b (and_parts (is_tag_byte c) (all is_tag_byte t) h).1 (let k : t ≡ u ++ 32 ∷ b = cc in k)

cut_once : (t u a b : List ℕ) → all is_tag_byte t ≡ true → all is_tag_byte u ≡ true → t ++ 32 ∷ a ≡ u ++ 32 ∷ b → (t ≡ u) × (a ≡ b)
cut_once [] [] a b h k e = (refl, (let s : a ≡ b = cc in s))
cut_once [] (d ∷ u) a b h k e =
    let s : d ≡ 32 = (let r : 32 ≡ d = cc in sym r) in
    absurd (no_space u (subst (λ z. all is_tag_byte (z ∷ u) ≡ true) s k))
cut_once (c ∷ t) [] a b h k e =
    let s : c ≡ 32 = cc in
    absurd (no_space t (subst (λ z. all is_tag_byte (z ∷ t) ≡ true) s h))
cut_once (c ∷ t) (d ∷ u) a b h k e =
    let s : c ≡ d = cc in
    let r : t ++ 32 ∷ a ≡ u ++ 32 ∷ b = cc in
    let (tags, contents) = cut_once t u a b (and_parts (is_tag_byte c) (all is_tag_byte t) h).1 (and_parts (is_tag_byte d) (all is_tag_byte u) k).1 r in
    (ap (λ z. z ∷ t) s ∙ ap (λ l. d ∷ l) tags, contents)

same_parts : (x y : Tagged) → x.tag ≡ y.tag → x.content ≡ y.content → x ≡ y
same_parts x y e k = ap (λ (t : List ℕ). let z : Tagged = record { tag = t; content = x.content } in z) e
    ∙ ap (λ (c : List ℕ). let z : Tagged = record { tag = y.tag; content = c } in z) k

-- one tag and content
pub tagged_once : (c : List ℕ) (x y : Tagged) → IsTagged c x → IsTagged c y → x ≡ y
tagged_once c x y p q = by_cuts (cut_of p) (cut_of q)
  where
    by_cuts : IsCut c x → IsCut c y → x ≡ y
    by_cuts (whole h e none) (whole k e' none') = same_parts x y (sym e ∙ e') (none ∙ sym none')
    by_cuts (whole h e none) (with_content k e') = absurd (not_within x.tag y.tag y.content h (sym e ∙ e'))
    by_cuts (with_content h e) (whole k e' none') = absurd (not_within y.tag x.tag x.content k (sym e' ∙ e))
    by_cuts (with_content h e) (with_content k e') =
        let (tags, contents) = cut_once x.tag y.tag x.content y.content h k (sym e ∙ e') in
        same_parts x y tags contents
