-- Names of columns.
use Rattle.std.proofs.Common.{◌≡◌, ℕ, ◌≤◌, List, ◌∷◌, length, true, refl}
use Rattle.std.specs.Str.{IsAscii}
use Rattle.stl_syntax.specs.Characters.{begins_word, goes_on_word, all}
use Rattle.stl_syntax.proofs.CharacterLemmas.{words_ascii, begins_goes_on}
use Rattle.trace_reader.specs.TraceText.{IsName, name}

-- the parts of a name
pub name_at : {c : ℕ} {rest : List ℕ} → IsName (c ∷ rest) → (begins_word c ≡ true) × (all goes_on_word rest ≡ true) × (length (c ∷ rest) ≤ 64)
name_at (name b g l) = (b, g, l)

-- a name is of word bytes
pub name_words : {text : List ℕ} → IsName text → all goes_on_word text ≡ true
name_words (name {c = c} {rest} b g l) = rw (begins_goes_on c b, g) refl

-- a name is ASCII
pub name_ascii : {text : List ℕ} → IsName text → IsAscii text
name_ascii {text} h = words_ascii text (name_words h)
