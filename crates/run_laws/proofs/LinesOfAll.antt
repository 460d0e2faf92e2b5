-- A first fault of an input of several sessions that was read in part is that of the whole input, and the lines before it are the same.
use Rattle.std.proofs.Common.{◌≡◌, ℕ, ◌+◌, Bool, true, false, List, [], ◌++◌}
use Rattle.std.proofs.Common.{refl, sym, subst}
use Rattle.stl_syntax.specs.Formula.{Formula}
use Rattle.trace_reader.specs.TraceText.{lines}
use Rattle.trace_reader.proofs.OpenLines.{parts, open_line}
use Rattle.session_mux.specs.Sessions.{Tagged, AreTagged}
use Rattle.session_mux.specs.Inputs.{InputFault, FaultOfInput, AreLinesBefore, sound, faulted, OwesLines}
use Rattle.session_mux.proofs.FrontLines.{input_fault_stays}
use Rattle.session_laws.proofs.OwedLines.{lines_before}
use Rattle.run_laws.proofs.FaultsOfAll.{all_read}

-- the first fault of the lines that were read is that of all
pub input_fault_of_all : (read left : List ℕ) (ended : Bool) (x : InputFault) → (ended ≡ true → left ≡ [])
    → FaultOfInput 1 [] (lines ended read) x → FaultOfInput 1 [] (lines true (read ++ left)) x
input_fault_of_all read left false x at fault = input_fault_stays read left true x fault
input_fault_of_all read left true x at fault = subst (λ b. FaultOfInput 1 [] (lines true b) x) (sym (all_read read left (at refl))) fault

before_of_all : (read left : List ℕ) {tagged : List Tagged} {whole : Bool} → ((x : InputFault) × FaultOfInput 1 [] (lines false read) x)
    → AreLinesBefore read false tagged whole → AreLinesBefore (read ++ left) true tagged whole
before_of_all read left (x, fault) (sound calm are) = absurd (calm x fault)
before_of_all read left some (faulted {tagged = tagged} x fault are) =
    let (line, o) = open_line read in
    faulted x (input_fault_stays read left true x fault) (subst (λ ls. AreTagged ls tagged) (sym (lines_before read left true line (parts o) x fault)) are)

-- what several sessions were owed before it is what they are owed for all
pub lines_owed_of_all : (f : Formula) (read left text : List ℕ) (ended : Bool) → (ended ≡ true → left ≡ [])
    → ((x : InputFault) × FaultOfInput 1 [] (lines ended read) x) → OwesLines f read ended text → OwesLines f (read ++ left) true text
lines_owed_of_all f read left text false at some o =
    record { tagged = o.tagged; whole = o.whole; before = before_of_all read left some o.before; is = o.is }
lines_owed_of_all f read left text true at some o = subst (λ b. OwesLines f b true text) (sym (all_read read left (at refl))) o
