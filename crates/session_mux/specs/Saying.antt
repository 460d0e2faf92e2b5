-- The lines that are said to a session: words of private contracts.
use Rattle.std.specs.Prelude.{◌≡◌, ◌⊎◌, ℕ, ◌<◌, List, [], ◌∷◌, ◌++◌, length, map, flat_map, true, codes}
use Rattle.circular_buffer.specs.Buffer.{Buffer, buffer, keep_last}
use Rattle.stl_syntax.specs.Texts.{newline}
use Rattle.trace_reader.specs.TraceText.{Line, lines}
use Rattle.session_mux.specs.Sessions.{prefixed}

-- the lines of a text, without their LF
abbrev pub texts : List ℕ → List (List ℕ)
texts text = map (λ (line : Line). line.bytes) (lines true text)

-- lines, each after a prefix
abbrev pub prefixed_texts : List ℕ → List (List ℕ) → List ℕ
prefixed_texts prefix all = flat_map (λ (line : List ℕ). prefix ++ line ++ newline) all

-- the lines of a text, each after a tag and a space
abbrev pub said_lines : List ℕ → List ℕ → List ℕ
said_lines tag text = prefixed (tag ++ codes " ") (lines true text)

-- nothing, or lines that are whole
abbrev pub EndsInFeed : List ℕ → Type 0
EndsInFeed text = (text ≡ []) ⊎ ((x : List ℕ) × (text ≡ x ++ newline))

-- the last eight lines are those of the other text
abbrev pub HasLastLines : List ℕ → List ℕ → Type 0
HasLastLines text last = (said : List (List ℕ)) → keep_last 8 (said ++ texts text) ≡ keep_last 8 (said ++ texts last)

-- the first line of a text was put after a tag and a space, behind what was added and what waits; these bytes of the text are left
pub record HasPutFirst (tag text rest before waiting after waiting_after : List ℕ) : Type 0 where
  pub line : List ℕ
  pub is : lines true text ≡ record { bytes = line; whole = true } ∷ lines true rest
  pub added : after ++ waiting_after ≡ (before ++ waiting) ++ ((tag ++ codes " ") ++ line ++ newline)
  pub begins : (front : List ℕ) × (after ≡ before ++ front)
  pub shorter : length rest < length text

-- or a first part of all of them was added
pub record HasPutInPart (tag text before waiting after : List ℕ) : Type 0 where
  pub line : List ℕ
  pub rest : List ℕ
  pub is : lines true text ≡ record { bytes = line; whole = true } ∷ lines true rest
  pub cut : (left : List ℕ) × (after ++ left ≡ (before ++ waiting) ++ ((tag ++ codes " ") ++ line ++ newline))
  pub begins : (front : List ℕ) × (after ≡ before ++ front)

-- some of the lines were said, and the others are those of the rest; some of the bytes may wait
pub record Putting (prefix text before rest after waiting : List ℕ) : Type 0 where
  -- the lines that were said
  pub front : List Line
  -- with the rest they are the lines of the text
  pub split : lines true text ≡ front ++ lines true rest
  -- each was put, behind the prefix
  pub added : after ++ waiting ≡ before ++ prefixed prefix front
  -- what was added goes on from what there was
  pub begins : (first : List ℕ) × (after ≡ before ++ first)

-- the lines of a text were said and kept
pub record HasSaid (tag text : List ℕ) (old new : Buffer (List ℕ)) (before after : List ℕ) : Type 0 where
  pub added : after ≡ before ++ said_lines tag text
  pub kept : (said : List (List ℕ)) → old ≡ buffer (keep_last 8 said) 8 → new ≡ buffer (keep_last 8 (said ++ texts text)) 8
  pub room : new.capacity ≡ 8
