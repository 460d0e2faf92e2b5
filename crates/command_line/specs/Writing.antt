-- What was written of a text.
use Rattle.std.specs.Prelude.{◌≡◌, ◌≢◌, ℕ, List, [], ◌++◌, Option, Result, MatchResult}
use Rattle.std.specs.Io.KnownBytes.{Appends}

-- the front of the text, not all of it, was written
pub record IsPartWritten (before after : Option (List ℕ)) (text : List ℕ) : Type 0 where
  pub front : List ℕ
  pub back : List ℕ
  pub parts : text ≡ front ++ back
  pub missing : back ≢ []
  pub wrote : Appends before after front

-- the text was written, or where the sink failed a part of it
abbrev pub IsWritten : {T E : Type 0} → Option (List ℕ) → Option (List ℕ) → Result T E → List ℕ → Type 0
IsWritten before after result text = MatchResult result (λ _. Appends before after text) (λ _. IsPartWritten before after text)
