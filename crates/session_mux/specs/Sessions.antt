-- Several traces in one input, each line with the tag of its session.
use Rattle.std.specs.Prelude.{◌≡◌, ◌⊎◌, ℕ, ◌-◌, ◌≤◌, ◌||◌, Bool, true, false, List, [], ◌∷◌, ◌++◌, flat_map}
use Rattle.std.specs.Prelude.{drop, Option, Some, None, length, codes, bytes_eq, if◌then◌else◌, MatchBool}
use Rattle.stl_syntax.specs.Characters.{begins_word, is_digit, all, is_among}
use Rattle.stl_syntax.specs.Formula.{Formula, root}
use Rattle.stl_syntax.specs.Scaling.{scaled}
use Rattle.stl_syntax.specs.Trace.{Header, Row}
use Rattle.trace_reader.specs.TraceText.{Line, lines, content, is_blank_line}
use Rattle.stl_syntax.specs.Texts.{newline}
use Rattle.trace_reader.specs.InputFaults.{stream_limits, Fault, IsInputFault, AreRowsBefore}
use Rattle.answer_lines.specs.FaultTexts.{fault_text}
use Rattle.stl_syntax.specs.Stream.{IsStreamText}

-- a line that is not blank: its tag and its content
pub record Tagged : Type 0 where
  pub tag : List ℕ
  pub content : List ℕ

-- a letter, a digit or _
abbrev pub is_tag_byte : ℕ → Bool
is_tag_byte c = begins_word c || is_digit c

-- a tag of 1 to 16 bytes
pub data IsTag : List ℕ → Type 0 where
  tag : {c : ℕ} {rest : List ℕ} → all is_tag_byte (c ∷ rest) ≡ true → length (c ∷ rest) ≤ 16 → IsTag (c ∷ rest)

-- a tag, and then the end, or one space and the content
pub data IsTagged : List ℕ → Tagged → Type 0 where
  alone : {t : List ℕ} → IsTag t → IsTagged t (record { tag = t; content = [] })
  followed : {t : List ℕ} (content : List ℕ) → IsTag t → IsTagged (t ++ 32 ∷ content) (record { tag = t; content = content })

-- the whole lines that are not blank, each with its tag
pub data AreTagged : List Line → List Tagged → Type 0 where
  none : AreTagged [] []
  unfinished : {line : Line} → line.whole ≡ false → AreTagged (line ∷ []) []
  blank : {line : Line} {more : List Line} {tagged : List Tagged} → line.whole ≡ true → is_blank_line line ≡ true
      → AreTagged more tagged → AreTagged (line ∷ more) tagged
  next : {line : Line} {more : List Line} {x : Tagged} {tagged : List Tagged} → line.whole ≡ true → is_blank_line line ≡ false → IsTagged (content line) x
      → AreTagged more tagged → AreTagged (line ∷ more) (x ∷ tagged)

-- the line asks for the last lines
abbrev pub is_query : Tagged → Bool
is_query line = bytes_eq line.content (codes "?")

-- the line ends its session
abbrev pub is_stop : Tagged → Bool
is_stop line = bytes_eq line.content (codes ".")

-- the bytes of a session: its contents but for its queries, up to its stop
abbrev pub own : List Tagged → List ℕ → List ℕ
own [] t = []
own (line ∷ more) t =
    if bytes_eq line.tag t then (if is_query line then own more t else if is_stop line then [] else line.content ++ newline ++ own more t)
    else own more t

-- the session has its stop
abbrev pub is_stopped : List Tagged → List ℕ → Bool
is_stopped [] t = false
is_stopped (line ∷ more) t = if bytes_eq line.tag t then is_stop line || is_stopped more t else is_stopped more t

-- the stream of the rows under the header; nothing before the header
abbrev pub IsRowsStream : Formula → Option Header → List Row → Bool → List ℕ → Type 0
IsRowsStream f None rows ended text = text ≡ []
IsRowsStream f (Some header) rows ended text = IsStreamText (root (scaled f header.scale).nodes) header rows ended text

-- the line of the first fault of the bytes, where they have one
abbrev pub IsFaultLine : Formula → List ℕ → Bool → List ℕ → Type 0
IsFaultLine f bytes ended text =
    (((x : Fault) → ¬ IsInputFault stream_limits f bytes ended x) × (text ≡ []))
    ⊎ ((x : Fault) × IsInputFault stream_limits f bytes ended x × (text ≡ fault_text x))

-- what a session writes by itself
abbrev pub Alone : Formula → List ℕ → Bool → List ℕ → Type 0
Alone f bytes ended text =
    (header : Option Header) × (rows : List Row) × (whole : Bool) × (stream fault : List ℕ) × AreRowsBefore stream_limits f bytes ended header rows whole
    × IsRowsStream f header rows whole stream × IsFaultLine f bytes ended fault × (text ≡ stream ++ fault)

-- what a session has written after these lines of the input
abbrev pub SoFar : Formula → List Tagged → List ℕ → List ℕ → Type 0
SoFar f seen t text = Alone f (own seen t) (is_stopped seen t) text

-- the lines, each after a prefix
abbrev pub prefixed : List ℕ → List Line → List ℕ
prefixed prefix all = flat_map (λ line. prefix ++ line.bytes ++ newline) all

-- the last eight lines, or all
abbrev pub last_eight : List Line → List Line
last_eight all = drop (length all - 8) all

-- the answer to a line after those that were seen
abbrev pub IsAnswer : Formula → List Tagged → Tagged → List ℕ → Type 0
IsAnswer f seen line text =
    MatchBool (is_query line) ((old : List ℕ) × SoFar f seen line.tag old × (text ≡ prefixed (line.tag ++ codes " ? ") (last_eight (lines true old))))
    ((old grown : List ℕ) × SoFar f seen line.tag old × SoFar f (seen ++ line ∷ []) line.tag (old ++ grown)
    × (text ≡ prefixed (line.tag ++ codes " ") (lines true grown)))

-- the answers to the lines in turn
abbrev pub AreAnswers : Formula → List Tagged → List Tagged → List ℕ → Type 0
AreAnswers f seen [] text = text ≡ []
AreAnswers f seen (line ∷ more) text =
    (here later : List ℕ) × IsAnswer f seen line here × AreAnswers f (seen ++ line ∷ []) more later × (text ≡ here ++ later)

-- the tags in the order of their first lines
abbrev pub tags_after : List (List ℕ) → List Tagged → List (List ℕ)
tags_after known [] = []
tags_after known (line ∷ more) = if is_among line.tag known then tags_after known more else line.tag ∷ tags_after (line.tag ∷ known) more

-- by how much each session grows at the end of the input
abbrev pub AreEnds : Formula → List Tagged → List (List ℕ) → List ℕ → Type 0
AreEnds f all [] text = text ≡ []
AreEnds f all (t ∷ tags) text =
    (old grown later : List ℕ) × SoFar f all t old × Alone f (own all t) true (old ++ grown) × AreEnds f all tags later
    × (text ≡ prefixed (t ++ codes " ") (lines true grown) ++ later)

-- the text for these lines, with the ends of the sessions where the input has ended
abbrev pub MuxText : Formula → List Tagged → Bool → List ℕ → Type 0
MuxText f all false text = AreAnswers f [] all text
MuxText f all true text = (during rest : List ℕ) × AreAnswers f [] all during × AreEnds f all (tags_after [] all) rest × (text ≡ during ++ rest)
