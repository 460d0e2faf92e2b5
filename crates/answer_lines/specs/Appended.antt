-- Bytes that grow by a text, or by the first part of one where memory was wanting.
use Rattle.std.specs.Prelude.{◌≡◌, ℕ, List, [], ◌∷◌, ◌++◌}

-- the bytes grew by a text of this kind
abbrev pub Grew : (List ℕ → Type 0) → List ℕ → List ℕ → Type 0
Grew P old new = (text : List ℕ) × P text × (new ≡ old ++ text)

-- the bytes grew by the first part of a text of this kind, or by nothing
abbrev pub GrewInPart : (List ℕ → Type 0) → List ℕ → List ℕ → Type 0
GrewInPart P old new = (first rest : List ℕ) × P (first ++ rest) × (new ≡ old ++ first)

-- a text of the one kind, and then one of the other
abbrev pub Then : (List ℕ → Type 0) → (List ℕ → Type 0) → List ℕ → Type 0
Then P Q text = (first second : List ℕ) × P first × Q second × (text ≡ first ++ second)

-- this text
abbrev pub Is : List ℕ → List ℕ → Type 0
Is word text = text ≡ word

-- a text for each item, one after another
abbrev pub AreEach : {X : Type 0} → (X → List ℕ → Type 0) → List X → List ℕ → Type 0
AreEach P [] text = text ≡ []
AreEach P (x ∷ xs) text = (here later : List ℕ) × P x here × AreEach P xs later × (text ≡ here ++ later)
