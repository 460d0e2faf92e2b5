use Rattle.std.proofs.Common.{◌≡◌, List, [], ◌∷◌, length, map, get_or, arith, subst}
use Rattle.std.specs.Prelude.{string_bytes}
use Rattle.command_line.specs.Commands.{verb_word}
use Rattle.command_line.specs.Words.{verb_of}
use Rattle.command_line.proofs.AskedWords.{asked_word, none_asked}
use Rattle.command_line.proofs.request.asked.Goals as goal

-- a list of two
two : {A : Type 0} (xs : List A) (a b : A) → length xs ≡ 2 → a ≡ get_or xs 0 a → b ≡ get_or xs 1 b → xs ≡ a ∷ b ∷ []
two [] a b n p q = absurd (omega arith)
two (x ∷ []) a b n p q = absurd (omega arith)
two (x ∷ y ∷ []) a b n p q = let e : a ≡ x = p in let f : b ≡ y = q in cc
two (x ∷ y ∷ z ∷ more) a b n p q = absurd (omega arith)

pub returns-in-Some : goal.returns-in-Some
returns-in-Some c =
    let n : length c.args.words.now ≡ 2 = omega arith in
    let e = two c.args.words.now c.form-item.result c.formula-item.result n c.form-item.is c.formula-item.is in
    asked_word c.in-Some.mode c.as_str-in-Some.result.now
    (rw e (let f = c.as_str.ensures.value in let h = c.as_str-in-Some.ensures.value in let k = c.in-Some.ensures in cc))

pub returns-in-None : goal.returns-in-None
returns-in-None c =
    let n : length c.args.words.now ≡ 2 = omega arith in
    let e = two c.args.words.now c.form-item.result c.formula-item.result n c.form-item.is c.formula-item.is in
    none_asked (λ w text same. c.in-None.ensures w
    (let s = subst (λ ws. map string_bytes ws ≡ verb_word (verb_of w) ∷ text ∷ []) e same in let f = c.as_str.ensures.value in cc))
