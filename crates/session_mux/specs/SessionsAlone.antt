-- What a session is told among the lines of many, and that it is what its own lines get alone.
use Rattle.std.specs.Prelude.{◌≡◌, ℕ, Bool, true, ◌&&◌, not, List, [], ◌∷◌, ◌++◌, codes, bytes_eq, if◌then◌else◌, MatchBool}
use Rattle.stl_syntax.specs.Characters.{is_among}
use Rattle.stl_syntax.specs.Formula.{Formula}
use Rattle.trace_reader.specs.TraceText.{lines}
use Rattle.session_mux.specs.Sessions.{Tagged, is_query, own, is_stopped, Alone, SoFar, prefixed, IsAnswer, AreAnswers, tags_after, MuxText}

-- the lines with this tag
abbrev pub lines_of : List ℕ → List Tagged → List Tagged
lines_of t [] = []
lines_of t (line ∷ more) = if bytes_eq line.tag t then line ∷ lines_of t more else lines_of t more

-- the line is one of the session's own, and no query
abbrev pub is_of : List ℕ → Tagged → Bool
is_of t line = bytes_eq line.tag t && not (is_query line)

-- the answer to one of the session's own lines is what the session got by it, each line after its tag; another line adds nothing to what
-- the session was told
abbrev pub IsAdded : Formula → List ℕ → List Tagged → Tagged → List ℕ → List ℕ → Type 0
IsAdded f t seen line answer added =
    MatchBool (is_of t line)
    ((old : List ℕ) × SoFar f seen t old × SoFar f (seen ++ line ∷ []) t (old ++ added) × (answer ≡ prefixed (t ++ codes " ") (lines true added)))
    (added ≡ [])

-- what the session of the tag is told by the answers to the lines, one after the other
abbrev pub AreSaidTo : Formula → List ℕ → List Tagged → List Tagged → List ℕ → List ℕ → Type 0
AreSaidTo f t seen [] text said = (text ≡ []) × (said ≡ [])
AreSaidTo f t seen (line ∷ more) text said =
    (answer rest added later : List ℕ) × IsAnswer f seen line answer × IsAdded f t seen line answer added × AreSaidTo f t (seen ++ line ∷ []) more rest later
    × (text ≡ answer ++ rest) × (said ≡ added ++ later)

-- given bytes get one text alone
abbrev pub OneTextAlone : Type 0
OneTextAlone = (f : Formula) (bytes : List ℕ) (ended : Bool) (text other : List ℕ) → Alone f bytes ended text → Alone f bytes ended other → text ≡ other

-- what a session is told among all lines is what its bytes get alone
abbrev pub EachIsAsAlone : Type 0
EachIsAsAlone = (f : Formula) (t : List ℕ) (all : List Tagged) (text : List ℕ) → AreAnswers f [] all text
    → (said : List ℕ) × AreSaidTo f t [] all text said × Alone f (own all t) (is_stopped all t) said

-- so two inputs with the same lines of a tag tell its session the same, whatever lines of others come between
abbrev pub OthersAddNothing : Type 0
OthersAddNothing = (f : Formula) (t : List ℕ) (all others : List Tagged) (text other said heard : List ℕ) → lines_of t all ≡ lines_of t others
    → AreSaidTo f t [] all text said → AreSaidTo f t [] others other heard → said ≡ heard

-- what the session of the tag is told at the end of the input, where these are the tags that are left
abbrev pub AreSaidAtEnd : Formula → List ℕ → List Tagged → List (List ℕ) → List ℕ → List ℕ → Type 0
AreSaidAtEnd f t all [] text said = (text ≡ []) × (said ≡ [])
AreSaidAtEnd f t all (u ∷ tags) text said =
    (old grown later more : List ℕ) × SoFar f all u old × Alone f (own all u) true (old ++ grown) × AreSaidAtEnd f t all tags later more
    × (text ≡ prefixed (u ++ codes " ") (lines true grown) ++ later) × (said ≡ (if bytes_eq u t then grown else []) ++ more)

-- what it is told in all: by the answers to the lines, and at the end
pub record AreSaidInAll (f : Formula) (t : List ℕ) (all : List Tagged) (text said : List ℕ) : Type 0 where
  pub during : List ℕ
  pub rest : List ℕ
  pub said_first : List ℕ
  pub said_at_end : List ℕ
  pub lines : AreSaidTo f t [] all during said_first
  pub ends : AreSaidAtEnd f t all (tags_after [] all) rest said_at_end
  pub text_is : text ≡ during ++ rest
  pub said_is : said ≡ said_first ++ said_at_end

-- in all each session is told what its bytes get alone, with their end
abbrev pub EachIsAsAloneToItsEnd : Type 0
EachIsAsAloneToItsEnd = (f : Formula) (t : List ℕ) (all : List Tagged) (text : List ℕ) → is_among t (tags_after [] all) ≡ true → MuxText f all true text
    → (said : List ℕ) × AreSaidInAll f t all text said × Alone f (own all t) true said

-- so two inputs with the same lines of a tag tell its session the same to its end
abbrev pub OthersAddNothingAtTheEnd : Type 0
OthersAddNothingAtTheEnd = (f : Formula) (t : List ℕ) (all others : List Tagged) (text other said heard : List ℕ) → lines_of t all ≡ lines_of t others
    → is_among t (tags_after [] all) ≡ true → is_among t (tags_after [] others) ≡ true → AreSaidInAll f t all text said
    → AreSaidInAll f t others other heard → said ≡ heard
