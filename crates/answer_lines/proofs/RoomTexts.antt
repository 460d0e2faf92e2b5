-- Texts of times that stand in a room.
use Rattle.std.proofs.Common.{◌≡◌, ℕ, ◌+◌, ◌-◌, ◌≤◌, List, ◌++◌, length, take, drop, append_assoc, length-append, length-take, length-take-le, length-drop}
use Rattle.std.proofs.Common.{sym, ap, ◌∙◌, arith, subst, Option, None, Some}
use Rattle.std.specs.Prelude.{IfSome}
use Rattle.std.proofs.Math.Seq.{take-append_seam, drop-append_seam}
use Rattle.std.proofs.lemmas.List.{drop-append-le, drop-take, take-append-le, take-take}
use Rattle.rational.specs.Rational.{Rational}
use Rattle.stl_syntax.specs.Texts.{IsNumberText}
use Rattle.answer_lines.specs.After.{IsAdded}
use Rattle.answer_lines.specs.Rooms.{IsTextAt}
use Rattle.answer_lines.specs.declared.line_after.TextAt.{TextAt}

-- a text that stands there does so where more bytes come behind
pub longer : (digits : ℕ) (t : Rational) (xs ys : List ℕ) (p : TextAt) → IsTextAt digits t xs p → IsTextAt digits t (xs ++ ys) p
longer digits t xs ys p h = record {
  inside = omega (arith, h.inside, length-append xs ys);
  text = subst (IsNumberText digits t) (sym same) h.text;
}
  where
    rest : p.len ≤ length (drop p.at xs)
    rest = omega (arith, h.inside, length-drop p.at xs)

    same : take p.len (drop p.at (xs ++ ys)) ≡ take p.len (drop p.at xs)
    same = ap (take p.len) (drop-append-le p.at xs ys (omega (arith, h.inside))) ∙ take-append-le p.len (drop p.at xs) ys rest

-- the same of a text that there may be
pub longer_if : (digits : ℕ) (t : Rational) (xs ys : List ℕ) (o : Option TextAt) → IfSome o (IsTextAt digits t xs) → IfSome o (IsTextAt digits t (xs ++ ys))
longer_if digits t xs ys None h = tt
longer_if digits t xs ys (Some p) h = longer digits t xs ys p h

-- a text that stands before a place
pub text_before : (digits at : ℕ) (t : Rational) (buf : List ℕ) (p : TextAt) → IsTextAt digits t (take at buf) p
    → IsNumberText digits t (take p.len (drop p.at buf))
text_before digits at t buf p h = subst (IsNumberText digits t) same h.text
  where
    few : p.at + p.len ≤ at
    few = omega (arith, h.inside, length-take at buf)

    whole : p.at + (at - p.at) ≡ at
    whole = omega (arith, few)

    same : take p.len (drop p.at (take at buf)) ≡ take p.len (drop p.at buf)
    same =
        ap (λ k. take p.len (drop p.at (take k buf))) (sym whole) ∙ ap (take p.len) (drop-take p.at (at - p.at) buf)
        ∙ take-take p.len (at - p.at) (drop p.at buf) (omega (arith, few))

-- the text that was put, with another behind it, stands there
pub put_text_stands : (digits : ℕ) (t : Rational) (T E old mid new : List ℕ) (at to end : ℕ) (p : TextAt) → IsNumberText digits t T → IsAdded T old at mid to
    → IsAdded E mid to new end → at ≤ length old → p.at ≡ at → p.len ≡ to - at → IsTextAt digits t (take end new) p
put_text_stands digits t T E old mid new at to end p is text more inside e f = record {
  inside = omega (arith, ap length parts, length-append front (T ++ E), length-append T E, long, e, f, text.size);
  text = subst (IsNumberText digits t) (sym same) is;
}
  where
    front : List ℕ
    front = take at old

    long : length front ≡ at
    long = length-take-le at old inside

    parts : take end new ≡ front ++ (T ++ E)
    parts = more.added ∙ ap (λ w. w ++ E) text.added ∙ append_assoc front T E

    same : take p.len (drop p.at (take end new)) ≡ T
    same =
        ap (λ w. take p.len (drop p.at w)) parts
        ∙ ap (λ k. take p.len (drop k (front ++ (T ++ E)))) (e ∙ sym long)
        ∙ ap (take p.len) (drop-append_seam front (T ++ E))
        ∙ ap (λ k. take k (T ++ E)) (let n : p.len ≡ length T = omega (arith, f, text.size) in n)
        ∙ take-append_seam T E
