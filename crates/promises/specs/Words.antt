-- The words of the one form.
use Rattle.std.specs.Prelude.{◌≡◌, ℕ, List, [], ◌∷◌, codes}

-- the words are `check` and this formula
abbrev pub AskCheck : List (List ℕ) → List ℕ → Type 0
AskCheck words formula = words ≡ codes "check" ∷ formula ∷ []
