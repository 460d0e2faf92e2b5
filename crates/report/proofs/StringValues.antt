-- Texts that were gathered in a room and made strings.
use Rattle.std.proofs.Common.{◌≡◌, ℕ, List, [], ◌++◌, ap, ◌∙◌}
use Rattle.serde_json.specs.Data.{Data, string}
use Rattle.answer_lines.specs.Appended.{Grew}
use Rattle.report.specs.JsonTexts.{IsStringOf}

-- a text of a kind that grew in an empty room is, as a string, one of that kind
pub gathered : (P : List ℕ → Type 0) (old new read : List ℕ) (d : Data) → old ≡ [] → Grew P old new → read ≡ new → d ≡ string read → IsStringOf P d
gathered P old new read d e (w, p, g) k is = (w, p, is ∙ ap string (k ∙ g ∙ ap (λ x. x ++ w) e))
