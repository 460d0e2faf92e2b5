-- What words ask for.
use Rattle.std.specs.Prelude.{◌≡◌, ◌⊎◌, ℕ, Bool, true, false, List}
use Rattle.stl_syntax.specs.Formula.{Formula}
use Rattle.online_nodes.specs.StreamedWide.{IsFirstUnstreamed}
use Rattle.stl_grammar.specs.FormulaRefusals.{IsFormulaOf}
use Rattle.report.specs.Report.{Command}
pub use Rattle.trace_stream.specs.Streams.{Stream, verdicts, early, margins}
use Rattle.command_line.specs.Commands.{Verb, on_formula, generate}
use Rattle.command_line.specs.Commands as word
use Rattle.command_line.specs.ErrTexts.{not_streamed_text}
pub use Rattle.command_line.specs.Words.{
  word_of,
  first_commands,
  later_commands,
  built_commands,
  IsAmong,
  IsBuilt,
  forms_text,
  usage_line,
  IsAsked,
  AreNone,
  AreOfNoFormula,
  AskToGenerate,
  IsBadText,
  is_held,
  AreHeld,
}

-- words of no form, a formula that is refused with a line, a formula with what is to be done by it, or a trace to be generated
pub data Request : Type 0 where
  no_form : Request
  refused : List ℕ → Request
  whole : Command → Formula → Request
  stream : Stream → Formula → Request
  sessions : Formula → Request
  generated : ℕ → ℕ → Request

-- the word of a stream
abbrev pub word_of_stream : Stream → Verb
word_of_stream verdicts = word.watch
word_of_stream early = word.early
word_of_stream margins = word.rwatch

-- node i is the first that keeps the command from serving the formula
abbrev pub IsUnserved : Verb → Formula → ℕ → Type 0
IsUnserved word.rwatch f i = IsFirstUnstreamed f.nodes i
IsUnserved command f i = ⊥

-- the command refuses the text with this line: it is no formula, or one that the command does not serve
abbrev pub IsRefusal : Verb → List ℕ → List ℕ → Type 0
IsRefusal command text line =
    IsBadText text line ⊎ ((f : Formula) × (i : ℕ) × IsFormulaOf text f × IsUnserved command f i × (line ≡ not_streamed_text i))

-- the words are of the command's form, with the text of this formula, which the command serves
pub record AreFor (words : List (List ℕ)) (command : Verb) (f : Formula) : Type 0 where
  pub text : List ℕ
  pub form : IsAsked words (on_formula command text)
  pub is : IsFormulaOf text f
  pub served : (i : ℕ) → ¬ IsUnserved command f i

-- the words are of a form, with a text that is refused with this line
pub record AreRefused (words : List (List ℕ)) (line : List ℕ) : Type 0 where
  pub command : Verb
  pub text : List ℕ
  pub form : IsAsked words (on_formula command text)
  pub is : IsRefusal command text line

-- the words ask for this
abbrev pub Asks : List (List ℕ) → Request → Type 0
Asks words no_form = AreNone words
Asks words (refused line) = AreRefused words line
Asks words (whole c f) = AreFor words (word_of c) f
Asks words (stream s f) = AreFor words (word_of_stream s) f
Asks words (sessions f) = AreFor words word.mux f
Asks words (generated number rows) = IsAsked words (generate number rows)

-- the input is read
abbrev pub has_input : Request → Bool
has_input no_form = false
has_input (refused line) = false
has_input (whole c f) = true
has_input (stream s f) = true
has_input (sessions f) = true
has_input (generated number rows) = false

-- it is answered as its bytes come
abbrev pub is_streamed : Request → Bool
is_streamed (stream s f) = true
is_streamed (sessions f) = true
is_streamed request = false
