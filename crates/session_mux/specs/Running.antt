-- Lines of one session that follow one another, which are handed to it together: words of private contracts.
use Rattle.std.specs.Prelude.{◌≡◌, ℕ, ◌≤◌, ◌<◌, false, List, ◌∷◌, ◌++◌, length, take, map, flat_map, Option, Some, None, All}
use Rattle.stl_syntax.specs.Characters.{is_among}
use Rattle.stl_syntax.specs.Texts.{newline}
use Rattle.trace_reader.specs.TraceText.{content as content_of}
use Rattle.trace_reader.specs.Feeds.{HasNoFeed}
use Rattle.session_mux.specs.Sessions.{Tagged}
use Rattle.session_mux.specs.Owning.{asks, stops}
use Rattle.session_mux.specs.Knowing.{tags_of}
use Rattle.session_mux.specs.Muxes.{Past}
use Rattle.session_mux.specs.Taking.{ended_line}
use Rattle.session_mux.specs.declared.stop.LineKind.TheVariants.{TooManySessions}
use Rattle.session_mux.specs.declared.stop.InputStop.{InputStop}
use Rattle.session_mux.specs.declared.stop.InputStop.TheVariants.{Fault as Faulty, NoMemory}

-- the bytes of a line that goes on and those of a piece stand in the room, if a line goes on
abbrev pub IsJoined : List ℕ → List ℕ → List ℕ → Type 0
IsJoined part piece room = 0 < length part → room ≡ part ++ piece

-- a line without its LF, and its content
pub record RunLine : Type 0 where
  pub bytes : List ℕ
  pub content : List ℕ

-- it is not too long, has the tag and the content, and goes to the trace of its session
pub record IsRunLine (tag : List ℕ) (l : RunLine) : Type 0 where
  pub free : HasNoFeed l.bytes
  pub short : length l.bytes ≤ 4113
  pub is : content_of (ended_line l.bytes) ≡ tag ++ 32 ∷ l.content
  pub no_query : asks l.content ≡ false
  pub no_stop : stops l.content ≡ false

-- the bytes of lines, each with its LF
abbrev pub bytes_of : List RunLine → List ℕ
bytes_of lines = flat_map (λ (l : RunLine). l.bytes ++ newline) lines

-- their contents, each with its LF
abbrev pub contents_of : List RunLine → List ℕ
contents_of lines = flat_map (λ (l : RunLine). l.content ++ newline) lines

-- the lines with their tag
abbrev pub tagged_of : List ℕ → List RunLine → List Tagged
tagged_of tag lines = map (λ (l : RunLine). (let x : Tagged = record { tag = tag; content = l.content } in x)) lines

-- the piece begins with such a line, of so many bytes
pub record IsOwnLine (tag piece content : List ℕ) (n : ℕ) : Type 0 where
  pub bytes : List ℕ
  pub is : IsRunLine tag (record { bytes = bytes; content = content })
  pub taken : take n piece ≡ bytes ++ newline
  pub within : n ≤ length piece
  pub some : 0 < n

-- the contents of a lone line, or others
abbrev pub contents_in : Option (List ℕ) → List ℕ → List ℕ
contents_in None others = others
contents_in (Some contents) others = contents

-- the piece begins with so many of these lines, at most `most`, of n bytes in all; their contents were gathered
pub record HasGathered (tag piece : List ℕ) (most n count : ℕ) (contents : List ℕ) : Type 0 where
  pub lines : List RunLine
  pub each : All (IsRunLine tag) lines
  pub taken : take n piece ≡ bytes_of lines
  pub within : n ≤ length piece
  pub are : count ≡ length lines
  pub few : count ≤ most
  pub contents_are : contents ≡ contents_of lines

-- the tag of the first of them, line n, is a new one, and there are 1,024; or memory was wanting
abbrev pub IsRunRefused : Past → ℕ → List ℕ → List ℕ → List ℕ → InputStop → Type 0
IsRunRefused p n tag before after (Faulty x) =
    (x.line ≡ n) × (x.kind ≡ TooManySessions) × (is_among tag (tags_of p.seen) ≡ false) × (1024 ≤ length (tags_of p.seen)) × (after ≡ before)
IsRunRefused p n tag before after NoMemory = Unit {0}
