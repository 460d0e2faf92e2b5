-- Cells one after the other that say the same of their atom.
use Rattle.std.specs.Prelude.{◌≡◌, ◌+◌, ◌<◌, ◌≤◌, ℕ, Bool, List, Some, slice_get}
use Rattle.value_laws.specs.declared.kleene.Kleene.{Kleene}
use Rattle.stl_syntax.specs.declared.items.Item.{Item}
use Rattle.implicants.specs.Certainty.{stays, known_at}

-- the cell at a place says of its atom what the value is, where it stays; else the value is nothing
abbrev pub SaysSame : List Item → ℕ → List Bool → Kleene → ℕ → Type 0
SaysSame all left marks p c = (e : Item) → slice_get all c ≡ Some e → p.known ≡ known_at (stays left marks c) e

-- the place is that of a cut time, and all cells from c on before it say the same as the value
pub record IsSameUntil (all : List Item) (left : ℕ) (marks : List Bool) (p : Kleene) (c to end : ℕ) : Type 0 where
  pub gaps : ℕ
  pub at : end ≡ c + 1 + (gaps + gaps)
  pub below : end < to
  pub same : (j : ℕ) → c ≤ j → j < end → SaysSame all left marks p j
