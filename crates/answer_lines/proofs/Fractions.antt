-- The text of a fraction in its parts.
use Rattle.std.proofs.Common.{◌≡◌, ◌≢◌, ℕ, zero, suc, ◌==◌, Bool, true, false, List, [], ◌++◌, ℤ}
use Rattle.std.proofs.Common.{if◌then◌else◌, refl, sym, ap, ◌∙◌, append_assoc, codes, decimal}
use Rattle.std.proofs.lemmas.List.{append-nil}
use Rattle.std.specs.Fmt.{signed_decimal}
use Rattle.stl_syntax.specs.Texts.{fraction_text}
use Rattle.answer_lines.specs.Numbers.{signed}

-- a minus or nothing
abbrev pub sign_text : Bool → List ℕ
sign_text negative = if negative then codes "-" else []

-- a bar and the denominator, or nothing
abbrev pub den_text : ℕ → List ℕ
den_text den = if den == 1 then [] else codes "/" ++ decimal den

sign_append : (negative : Bool) (size : ℕ) → (negative ≡ true → size ≢ 0) → sign_text negative ++ decimal size ≡ signed_decimal (signed negative size)
sign_append true zero h = absurd (h refl refl)
sign_append true (suc n) h = refl
sign_append false n h = refl

den_append : (num : ℤ) (den : ℕ) → signed_decimal num ++ den_text den ≡ fraction_text num den
den_append num den = elim (den == 1) as (λ b. signed_decimal num ++ (if b then [] else codes "/" ++ decimal den)
    ≡ (if b then signed_decimal num else signed_decimal num ++ codes "/" ++ decimal den)) [
      | true ↦ append-nil (signed_decimal num)
      | false ↦ sym (append_assoc (signed_decimal num) (codes "/") (decimal den))
    ]

-- sign, whole part and denominator make the text of a fraction
pub fraction_parts : (negative : Bool) (size den : ℕ) → (negative ≡ true → size ≢ 0)
    → (sign_text negative ++ decimal size) ++ den_text den ≡ fraction_text (signed negative size) den
fraction_parts negative size den h = ap (λ w. w ++ den_text den) (sign_append negative size h) ∙ den_append (signed negative size) den
