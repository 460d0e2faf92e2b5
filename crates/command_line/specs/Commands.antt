-- The words of the commands.
use Rattle.std.specs.Prelude.{◌≡◌, ℕ, ◌≤◌, ◌<◌, ◌^◌, true, List, [], ◌∷◌, codes}
use Rattle.stl_syntax.specs.Characters.{is_digit, all, decimal_value}

-- the commands that take a formula
pub data Verb : Type 0 where
  check : Verb
  watch : Verb
  robust : Verb
  explain : Verb
  json : Verb
  table : Verb
  early : Verb
  mux : Verb
  rwatch : Verb

-- the word of a command
abbrev pub verb_word : Verb → List ℕ
verb_word check = codes "check"
verb_word watch = codes "watch"
verb_word robust = codes "robust"
verb_word explain = codes "explain"
verb_word json = codes "json"
verb_word table = codes "table"
verb_word early = codes "early"
verb_word mux = codes "mux"
verb_word rwatch = codes "rwatch"

-- a formula to be judged by a command, or a number and how many rows to generate
pub data Form : Type 0 where
  on_formula : Verb → List ℕ → Form
  generate : ℕ → ℕ → Form

-- the words, each with what it asks for
pub data IsForm : List (List ℕ) → Form → Type 0 where
  of_formula : {formula : List ℕ} (j : Verb) → IsForm (verb_word j ∷ formula ∷ []) (on_formula j formula)
  gen : (c d : ℕ) (digits rows : List ℕ) → all is_digit (c ∷ digits) ≡ true → decimal_value 0 (c ∷ digits) < 2 ^ 64
      → all is_digit (d ∷ rows) ≡ true → 1 ≤ decimal_value 0 (d ∷ rows) → decimal_value 0 (d ∷ rows) ≤ 200000
      → IsForm (codes "gen" ∷ (c ∷ digits) ∷ (d ∷ rows) ∷ []) (generate (decimal_value 0 (c ∷ digits)) (decimal_value 0 (d ∷ rows)))
