-- What words ask for: the forms that are built, the line that names them, and how a text ends that gives no formula.
use Rattle.std.specs.Prelude.{◌≡◌, ◌⊎◌, ℕ, Bool, true, false, List, [], ◌∷◌, ◌++◌, codes}
use Rattle.stl_syntax.specs.Texts.{newline}
use Rattle.stl_grammar.specs.FormulaRefusals.{IsFormulaFault}
use Rattle.stl_grammar.specs.declared.fault.FormulaFault.{FormulaFault}
use Rattle.stl_grammar.specs.declared.fault.FormulaFault.TheVariants as fault
use Rattle.report.specs.Report.{Command, check, robust, explain, json, table}
use Rattle.command_line.specs.Commands.{Verb, Form, on_formula, generate, IsForm, verb_word}
use Rattle.command_line.specs.Commands as word
use Rattle.command_line.specs.ErrTexts.{formula_fault_text, out_of_memory}
use Rattle.command_line.specs.declared.request.Command.{Command as Word}
use Rattle.command_line.specs.declared.request.Command.TheVariants.{Check, Robust, Explain, Json, Table}
use Rattle.command_line.specs.declared.request.Mode.{Mode}
use Rattle.command_line.specs.declared.request.Mode.TheVariants.{Whole, Watch, Early, Mux, Margins}

-- the word of a command that holds the whole trace
abbrev pub word_of : Command → Verb
word_of check = word.check
word_of robust = word.robust
word_of explain = word.explain
word_of json = word.json
word_of table = word.table

-- the command of a word
abbrev pub command_of : Word → Command
command_of Check = check
command_of Robust = robust
command_of Explain = explain
command_of Json = json
command_of Table = table

-- the command of a way to answer
abbrev pub verb_of : Mode → Verb
verb_of (Whole c) = word_of (command_of c)
verb_of Watch = word.watch
verb_of Early = word.early
verb_of Mux = word.mux
verb_of Margins = word.rwatch

-- the commands that are built, in the order in which the usage line names them: those before `gen`, and those after it
abbrev pub first_commands : List Verb
first_commands = word.check ∷ word.watch ∷ word.robust ∷ word.explain ∷ word.json ∷ word.table ∷ []

abbrev pub later_commands : List Verb
later_commands = word.early ∷ word.mux ∷ word.rwatch ∷ []

abbrev pub built_commands : List Verb
built_commands = first_commands ++ later_commands

-- the command is in the list
abbrev pub IsAmong : Verb → List Verb → Type 0
IsAmong command [] = ⊥
IsAmong command (j ∷ commands) = (command ≡ j) ⊎ IsAmong command commands

-- the forms that are built; words of another form are of none
abbrev pub IsBuilt : Form → Type 0
IsBuilt (on_formula command text) = IsAmong command built_commands
IsBuilt (generate number rows) = Unit {0}

-- the forms of commands, with a bar between two
abbrev pub forms_text : List Verb → List ℕ
forms_text [] = []
forms_text (j ∷ []) = verb_word j ++ codes " F"
forms_text (j ∷ k ∷ commands) = verb_word j ++ codes " F | " ++ forms_text (k ∷ commands)

-- the usage line, which names the forms that are built
abbrev pub usage_line : List ℕ
usage_line = codes "usage: " ++ forms_text first_commands ++ codes " | gen NUMBER ROWS | " ++ forms_text later_commands ++ newline

-- the words are of this form
pub record IsAsked (words : List (List ℕ)) (form : Form) : Type 0 where
  pub built : IsBuilt form
  pub is : IsForm words form

-- the words are of no form
abbrev pub AreNone : List (List ℕ) → Type 0
AreNone words = (form : Form) → ¬ IsAsked words form

-- the words are of no form that has a formula
abbrev pub AreOfNoFormula : List (List ℕ) → Type 0
AreOfNoFormula words = (command : Verb) (text : List ℕ) → ¬ IsAsked words (on_formula command text)

-- the words ask for a trace to be generated
abbrev pub AskToGenerate : List (List ℕ) → Type 0
AskToGenerate words = (number rows : ℕ) × IsAsked words (generate number rows)

-- the text is refused with this line
abbrev pub IsBadText : List ℕ → List ℕ → Type 0
IsBadText text line = (r : FormulaFault) × IsFormulaFault text r × (line ≡ formula_fault_text r)

-- nothing is written before all is known
abbrev pub is_held : Form → Bool
is_held (on_formula word.watch text) = false
is_held (on_formula word.early text) = false
is_held (on_formula word.rwatch text) = false
is_held (on_formula word.mux text) = false
is_held form = true

-- the words ask for no stream
abbrev pub AreHeld : List (List ℕ) → Type 0
AreHeld words = (form : Form) → IsAsked words form → is_held form ≡ true

-- the status of a refusal of the formula
abbrev pub status_of_fault : FormulaFault → ℕ
status_of_fault fault.Memory = 7
status_of_fault r = 3

-- how a text that gives no formula ends: its status and its line
pub data IsBadEnd (text : List ℕ) : ℕ → List ℕ → Type 0 where
  refused : {line : List ℕ} → IsBadText text line → IsBadEnd text 3 line
  no_room : IsBadEnd text 7 out_of_memory
