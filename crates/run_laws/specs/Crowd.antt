-- A run over the lines of several benches beside one over the lines of a single bench.
use Rattle.std.specs.Prelude.{◌≡◌, ℕ, Bool, true, false, if◌then◌else◌, List, [], ◌∷◌, ◌++◌, flat_map, Some}
use Rattle.io_edge.specs.Calls.{Drained, Filled}
use Rattle.stl_syntax.specs.Characters.{is_among}
use Rattle.stl_syntax.specs.Formula.{Formula}
use Rattle.trace_reader.specs.TraceText.{Line, lines}
use Rattle.session_laws.specs.Hearing.{heard, says_to}
use Rattle.session_mux.specs.Inputs.{AreLinesBefore}
use Rattle.session_mux.specs.Saying.{texts}
use Rattle.session_mux.specs.SessionsAlone.{lines_of}
use Rattle.workbench.specs.Requests.{Asks, stream, sessions, verdicts}
use Rattle.workbench.specs.Running.{IsRun}
use Rattle.workbench.specs.Sessions.{Tagged, AreTagged, tags_after, own}
use Rattle.run_laws.specs.OneAnswer.{IsOwn, EndsTruly}

-- what the bench of a tag hears of a run of `mux` that ended with 0 is, line by line, what a run of `watch` for the same formula over the bytes of
-- the bench's own lines wrote, with the line that it told
abbrev pub HearsItsOwnRun : Type 0
HearsItsOwnRun =
    (words alone : List (List ℕ)) (f : Formula) (bytes : List ℕ) (seen : List Tagged) (t : List ℕ) (i j : Drained) (o e p g : Filled) (other : ℕ)
    → Asks words (sessions f) → Asks alone (stream verdicts f)
    → i.before ≡ Some bytes → AreTagged (lines true bytes) seen → is_among t (tags_after [] seen) ≡ true → j.before ≡ Some (own seen t)
    → (a : IsRun words i o e 0) → (b : IsRun alone j p g other) → IsOwn other → heard t a.text ≡ texts (b.text ++ b.line)

-- two runs of `mux` that ended with 0 tell a bench the same whose own lines are the same, whatever lines of others came between
abbrev pub OthersChangeNothing : Type 0
OthersChangeNothing =
    (words asked : List (List ℕ)) (f : Formula) (bytes also : List ℕ) (seen others : List Tagged) (t : List ℕ) (i j : Drained) (o e p g : Filled)
    → Asks words (sessions f) → Asks asked (sessions f)
    → i.before ≡ Some bytes → AreTagged (lines true bytes) seen → is_among t (tags_after [] seen) ≡ true
    → j.before ≡ Some also → AreTagged (lines true also) others → is_among t (tags_after [] others) ≡ true → lines_of t seen ≡ lines_of t others
    → (a : IsRun words i o e 0) → (b : IsRun asked j p g 0) → heard t a.text ≡ heard t b.text

-- the lines of a text that have their LF
abbrev pub whole_texts : List ℕ → List (List ℕ)
whole_texts text = flat_map (λ (line : Line). if line.whole then line.bytes ∷ [] else []) (lines false text)

-- what the bench of a tag hears of these
abbrev pub heard_whole : List ℕ → List ℕ → List (List ℕ)
heard_whole t text = flat_map (says_to t) (whole_texts text)

-- however the run of `mux` ended, what the bench hears of its whole lines are the first lines of what the run of `watch` wrote and told over the bytes
-- of its own lines; they are those before the first fault of the input, or all where it has none
abbrev pub HearsAFront : Type 0
HearsAFront =
    (words alone : List (List ℕ)) (f : Formula) (bytes : List ℕ) (seen : List Tagged) (whole : Bool) (t : List ℕ) (i j : Drained) (o e p g : Filled)
    (status other : ℕ)
    → Asks words (sessions f) → Asks alone (stream verdicts f)
    → i.before ≡ Some bytes → AreLinesBefore bytes true seen whole → is_among t (tags_after [] seen) ≡ true → j.before ≡ Some (own seen t)
    → (a : IsRun words i o e status) → (b : IsRun alone j p g other) → EndsTruly status i → IsOwn other
    → (later : List (List ℕ)) × (texts (b.text ++ b.line) ≡ heard_whole t a.text ++ later)
