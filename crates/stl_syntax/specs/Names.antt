-- The names of columns that a formula may use.
use Rattle.std.specs.Prelude.{ℕ, ◌&&◌, not, Bool, false, List, [], ◌∷◌, codes}
use Rattle.stl_syntax.specs.Characters.{begins_word, goes_on_word, all, is_among}

-- the words of the grammar, which name no column
abbrev pub reserved : List (List ℕ)
reserved = codes "true" ∷ codes "false" ∷ codes "not" ∷ codes "and" ∷ codes "or" ∷ codes "implies" ∷ codes "until" ∷ codes "since"
    ∷ codes "eventually" ∷ codes "always" ∷ codes "once" ∷ codes "historically" ∷ codes "inf" ∷ []

-- a letter or _, and then letters, digits, _ and points, but no word of the grammar
abbrev pub is_name : List ℕ → Bool
is_name [] = false
is_name (c ∷ name) = begins_word c && all goes_on_word name && not (is_among (c ∷ name) reserved)
