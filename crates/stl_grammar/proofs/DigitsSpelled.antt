-- The digits of the tokens, spelled by the code's tokens.
use Rattle.std.proofs.Common.{◌≡◌, ℕ, max, List, [], ◌∷◌, map, refl, ap, ◌∙◌}
use Rattle.stl_grammar.specs.Grammar.{first_decimals, value_digits, time_digits}
use Rattle.stl_grammar.specs.Taken.{plain}
use Rattle.stl_grammar.specs.Building.{decimals_first, value_decimals, time_decimals}
use Rattle.stl_grammar.specs.declared.token.Token.{Token as Code}
use Rattle.stl_grammar.specs.declared.token.Token.TheVariants.{Keyword as IsKeyword, Number, Relation}
use Rattle.stl_grammar.specs.declared.token.Token.TheVariants.{Comma, Plus, Minus}

first_same : (text : List ℕ) (codes : List Code) → first_decimals (map (plain text) codes) ≡ decimals_first codes
first_same text ((IsKeyword w) ∷ codes) = refl
first_same text (Plus ∷ []) = refl
first_same text (Plus ∷ (IsKeyword w) ∷ codes) = refl
first_same text (Minus ∷ []) = refl
first_same text (Minus ∷ (IsKeyword w) ∷ codes) = refl
first_same text _ = refl

-- the most decimals of constants
pub value_same : (text : List ℕ) (codes : List Code) → value_digits (map (plain text) codes) ≡ value_decimals codes
value_same text [] = refl
value_same text ((Relation r) ∷ codes) = ap (λ n. max n (value_digits (map (plain text) codes))) (first_same text codes)
    ∙ ap (λ n. max (decimals_first codes) n) (value_same text codes)
value_same text (_ ∷ codes) = value_same text codes

-- and of bounds
pub time_same : (text : List ℕ) (codes : List Code) → time_digits (map (plain text) codes) ≡ time_decimals codes
time_same text [] = refl
time_same text (Number d ∷ []) = refl
time_same text (Number d ∷ Comma ∷ codes) = ap (λ n. max (max d.decimals n) (time_digits (map (plain text) codes)))
    (first_same text codes) ∙ ap (λ n. max (max d.decimals (decimals_first codes)) n) (time_same text codes)
time_same text (Number d ∷ c ∷ codes) = ap (λ n. max 0 n) (time_same text (c ∷ codes))
time_same text (_ ∷ codes) = time_same text codes
