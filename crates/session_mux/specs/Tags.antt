-- A tag as one number, and the lookup of sessions by it: words of private contracts.
use Rattle.std.specs.Prelude.{ℕ, ◌+◌, ◌*◌, List, [], ◌∷◌}

-- the bytes as the digits of a number, the lowest first
abbrev pub number_of : List ℕ → ℕ
number_of [] = 0
number_of (c ∷ more) = c + 256 * number_of more
