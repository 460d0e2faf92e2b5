-- Parts of a text that was put together.
use Rattle.std.proofs.Common.{◌≡◌, ℕ, ◌+◌, ◌-◌, ◌<◌, List, [], ◌∷◌, ◌++◌, length, length-append, take, drop, get_or, append_assoc, refl, sym, ap, subst, ◌∙◌, arith}
use Rattle.std.specs.Prelude.{slice_range, IsCharBoundary, IsUtf8}
use Rattle.std.proofs.lemmas.Str.{IsCharBoundary-before_ascii, IsCharBoundary-after_ascii, IsCharBoundary-end}
use Rattle.std.proofs.lemmas.List.{append-nil}
use Rattle.std.proofs.Math.Seq.{take-append_seam, drop-append_seam}
use Rattle.answer_lines.specs.After.{IsAdded}
use Rattle.answer_lines.proofs.TextsBehind.{add_then}

-- nothing was put
pub none_added : (r : List ℕ) (at : ℕ) → IsAdded [] r at r at
none_added r at = record { added = sym (append-nil (take at r)); size = omega arith; same = refl }

-- the middle of three texts
pub middle : (p w s xs : List ℕ) (a b : ℕ) → xs ≡ (p ++ w) ++ s → a ≡ length p → b ≡ a + length w → slice_range xs a b ≡ w
middle p w s xs a b is begins ends =
    let rest : drop a xs ≡ w ++ s = ap (drop a) is ∙ (ap (λ n. drop n ((p ++ w) ++ s)) begins
    ∙ (ap (drop (length p)) (append_assoc p w s) ∙ drop-append_seam p (w ++ s))) in
    let size : b - a ≡ length w = omega (arith, ends) in
    ap (take (b - a)) rest ∙ (ap (λ n. take n (w ++ s)) size ∙ take-append_seam w s)

-- what was put between two places is the part between them
pub part_of : {p w s r m n new : List ℕ} {a b end : ℕ} → IsAdded p r 0 m a → IsAdded w m a n b → IsAdded s n b new end → slice_range (take end new) a b ≡ w
part_of {p} {w} {s} {r} {m} {n} {new} {a} {b} {end} before there after =
    middle p w s (take end new) a b (add_then (add_then before there) after).added (omega (arith, before.size)) there.size

-- and of the same kind
pub part_is : (Q : List ℕ → Type 0) {p w s r m n new all t : List ℕ} {a b end : ℕ} → all ≡ take end new → t ≡ slice_range all a b → IsAdded p r 0 m a
    → IsAdded w m a n b → IsAdded s n b new end → Q w → Q t
part_is Q {p} {w} {s} {r} {m} {n} {new} {all} {t} {a} {b} {end} is cut before there after q =
    subst Q (sym (cut ∙ (ap (λ xs. slice_range xs a b) is ∙ part_of before there after))) q

-- the byte where two texts meet is the first of the second
at_seam : (p s : List ℕ) (b : ℕ) → get_or (p ++ b ∷ s) (length p) 0 ≡ b
at_seam [] s b = refl
at_seam (x ∷ p) s b = at_seam p s b

-- a text may be cut before an ASCII byte that was put
pub cut_before : {p s r m new all : List ℕ} {a b end : ℕ} → all ≡ take end new → IsAdded p r 0 m a → IsAdded (b ∷ s) m a new end → b < 128
    → IsCharBoundary all a
cut_before {p} {s} {r} {m} {new} {all} {a} {b} {end} is before after small =
    let e : all ≡ p ++ b ∷ s = is ∙ (add_then before after).added in
    subst (λ xs. IsCharBoundary xs a) (sym e) (subst (IsCharBoundary (p ++ b ∷ s)) (let f : length p ≡ a = omega (arith, before.size) in f)
    (IsCharBoundary-before_ascii (p ++ b ∷ s) (length p) (omega (arith, length-append p (b ∷ s))) (omega (arith, at_seam p s b, small))))

-- and behind one
pub cut_behind : {p s r m n new all : List ℕ} {a b c end : ℕ} → all ≡ take end new → IsUtf8 all → IsAdded p r 0 m a → IsAdded (b ∷ []) m a n c
    → IsAdded s n c new end → b < 128 → IsCharBoundary all c
cut_behind {p} {s} {r} {m} {n} {new} {all} {a} {b} {c} {end} is utf8 before byte after small =
    let e : all ≡ p ++ b ∷ s = is ∙ (add_then before (add_then byte after)).added in
    let here : IsCharBoundary (p ++ b ∷ s) (length p + 1) = IsCharBoundary-after_ascii (p ++ b ∷ s) (length p) (subst IsUtf8 e utf8)
    (omega (arith, length-append p (b ∷ s))) (omega (arith, at_seam p s b, small)) in
    subst (λ xs. IsCharBoundary xs c) (sym e) (subst (IsCharBoundary (p ++ b ∷ s)) (let f : length p + 1 ≡ c = omega (arith, before.size, byte.size) in f) here)

-- and at its end
pub cut_last : {w r new all : List ℕ} {end : ℕ} → all ≡ take end new → IsAdded w r 0 new end → IsCharBoundary all end
cut_last {w} {r} {new} {all} {end} is whole =
    let e : all ≡ w = is ∙ whole.added in
    subst (IsCharBoundary all) (let f : length all ≡ end = omega (arith, ap length e, whole.size) in f) (IsCharBoundary-end all)
