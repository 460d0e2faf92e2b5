-- Two runs of one request over one input.
use Rattle.std.specs.Prelude.{◌≡◌, ◌≢◌, ◌⊎◌, ℕ, ◌≤◌, true, false, List, ◌++◌, Some}
use Rattle.std.specs.Io.KnownBytes.{IsAtEnd}
use Rattle.io_edge.specs.Calls.{Drained, Filled}
use Rattle.stl_syntax.specs.Formula.{Formula}
use Rattle.workbench.specs.Requests.{Request, Asks, has_input, stream, margins}
use Rattle.workbench.specs.Running.{IsRun}

-- the run came to an end of its own: no device failed it, and memory was not wanting
abbrev pub IsOwn : ℕ → Type 0
IsOwn status = (status ≢ 5) × (status ≢ 6) × (status ≢ 7)

-- both sources held the same bytes where the runs began, whatever they gave at each read
pub record HoldTheSame (i j : Drained) : Type 0 where
  pub bytes : List ℕ
  pub first : i.before ≡ Some bytes
  pub second : j.before ≡ Some bytes

-- two runs told the same: by the status, by the text that was put at the end of each output, and by the line
pub record TellTheSame {words asked : List (List ℕ)} {i j : Drained} {o e p g : Filled} {status other : ℕ} (a : IsRun words i o e status)
    (b : IsRun asked j p g other) : Type 0 where
  pub same_status : status ≡ other
  pub same_text : a.text ≡ b.text
  pub same_line : a.line ≡ b.line

-- two runs whose words ask for one request tell the same, where their sources held the same bytes if it reads any, and both came to ends of their
-- own, none of them a refusal for a denominator
abbrev pub OneAnswer : Type 0
OneAnswer =
    (request : Request) (words asked : List (List ℕ)) (i j : Drained) (o e p g : Filled) (status other : ℕ)
    → Asks words request → Asks asked request → (has_input request ≡ true → HoldTheSame i j)
    → (a : IsRun words i o e status) → (b : IsRun asked j p g other) → IsOwn status → IsOwn other → status ≢ 8 → other ≢ 8 → TellTheSame a b

-- so do two runs of one list of words, whatever it asks for
abbrev pub OneAnswerToWords : Type 0
OneAnswerToWords =
    (words : List (List ℕ)) (i j : Drained) (o e p g : Filled) (status other : ℕ) → HoldTheSame i j
    → (a : IsRun words i o e status) → (b : IsRun words j p g other) → IsOwn status → IsOwn other → status ≢ 8 → other ≢ 8 → TellTheSame a b

-- the second text begins with the first
abbrev pub IsFront : List ℕ → List ℕ → Type 0
IsFront text all = (rest : List ℕ) × (all ≡ text ++ rest)

-- where memory was wanting the source said its end only where nothing was left; after each other status that is so by itself
abbrev pub EndsTruly : ℕ → Drained → Type 0
EndsTruly status i = status ≡ 7 → i.ended ≡ true → IsAtEnd i.after

-- what a run wrote, however it ended, is the front of what one wrote for the same request over the same input that came to an end of its own
abbrev pub FrontOfTheAnswer : Type 0
FrontOfTheAnswer =
    (request : Request) (words asked : List (List ℕ)) (i j : Drained) (o e p g : Filled) (status other : ℕ)
    → Asks words request → Asks asked request → (has_input request ≡ true → HoldTheSame i j)
    → (a : IsRun words i o e status) → (b : IsRun asked j p g other) → EndsTruly status i → IsOwn other → other ≢ 8 → IsFront a.text b.text

-- the second source held the bytes of the first, and maybe more behind them
pub record HoldsMore (i j : Drained) : Type 0 where
  pub bytes : List ℕ
  pub more : List ℕ
  pub first : i.before ≡ Some bytes
  pub second : j.before ≡ Some (bytes ++ more)

-- what a run wrote whose source had not said its end is the front of what one wrote for the same request over that input and more
abbrev pub FrontOfMore : Type 0
FrontOfMore =
    (request : Request) (words asked : List (List ℕ)) (i j : Drained) (o e p g : Filled) (status other : ℕ)
    → Asks words request → Asks asked request → (has_input request ≡ true → HoldsMore i j) → i.ended ≡ false
    → (a : IsRun words i o e status) → (b : IsRun asked j p g other) → IsOwn other → other ≢ 8 → IsFront a.text b.text

-- one of the two texts begins with the other
abbrev pub AreOnOneLine : List ℕ → List ℕ → Type 0
AreOnOneLine text said = IsFront text said ⊎ IsFront said text

-- what a run of the request may come to of its own beside one over the same input that was refused for a denominator and wrote a text: such a
-- refusal too, maybe by another cause, where one of the two texts begins with the other; an answer, which begins with that text; or of a stream
-- of margins the first fault, where what was written before it begins with that text
pub data IsBesideWide (request : Request) (text : List ℕ) (other : ℕ) (said : List ℕ) : Type 0 where
  wide_too : other ≡ 8 → AreOnOneLine text said → IsBesideWide request text other said
  answered : other ≤ 1 → IsFront text said → IsBesideWide request text other said
  faulty : (f : Formula) → request ≡ stream margins f → other ≡ 4 → IsFront text said → IsBesideWide request text other said

-- each run that came to an end of its own beside a refusal for a denominator did so
abbrev pub BesideAWide : Type 0
BesideAWide =
    (request : Request) (words asked : List (List ℕ)) (i j : Drained) (o e p g : Filled) (other : ℕ)
    → Asks words request → Asks asked request → HoldTheSame i j
    → (a : IsRun words i o e 8) → (b : IsRun asked j p g other) → IsOwn other → IsBesideWide request a.text other b.text
