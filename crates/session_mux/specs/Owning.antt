-- What a session has got by its own lines, one after the other.
use Rattle.std.specs.Prelude.{◌≡◌, ℕ, ◌||◌, Bool, true, List, ◌++◌, codes, bytes_eq, if◌then◌else◌}
use Rattle.stl_syntax.specs.Texts.{newline}
use Rattle.session_mux.specs.Sessions.{Tagged, own, is_stopped}

-- its bytes, and whether it was stopped
pub record Own : Type 0 where
  pub bytes : List ℕ
  pub stopped : Bool

-- by these lines of the input
abbrev pub own_of : List Tagged → List ℕ → Own
own_of seen t = record { bytes = own seen t; stopped = is_stopped seen t }

-- the content asks for the last lines; it ends the session
abbrev pub asks : List ℕ → Bool
asks content = bytes_eq content (codes "?")

abbrev pub stops : List ℕ → Bool
stops content = bytes_eq content (codes ".")

-- it ends in an LF: a content with its LF, or several
abbrev pub IsWithFeed : List ℕ → Type 0
IsWithFeed line = (content : List ℕ) × (line ≡ content ++ newline)

-- with one line of its trace more, unless it was stopped
abbrev pub next_line : Own → List ℕ → Own
next_line o content = if o.stopped then o else record o { bytes = o.bytes ++ (content ++ newline) }

-- stopped
abbrev pub stopped_now : Own → Own
stopped_now o = record o { stopped = true }

-- with one content more: nothing by a question, and nothing once it was stopped
abbrev pub with_content : Own → List ℕ → Own
with_content o content =
    if asks content || o.stopped then o else if stops content then record o { stopped = true } else record o { bytes = o.bytes ++ (content ++ newline) }
