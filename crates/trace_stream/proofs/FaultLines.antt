-- The line of a stored fault is that of the fault.
use Rattle.std.proofs.Common.{◌≡◌, ℕ, List, sym, ap, ◌∙◌, subst, Some}
use Rattle.std.specs.Prelude.{slice_get}
use Rattle.stl_syntax.specs.Formula.{Formula}
use Rattle.stl_syntax.specs.declared.atom.Atom.{Atom}
use Rattle.stl_syntax.specs.declared.atom.Term.{Term}
use Rattle.stl_syntax.specs.declared.scale.UnitFault.{UnitFault}
use Rattle.trace_reader.specs.declared.refusal.TraceRefusal.{TraceRefusal}
use Rattle.trace_reader.specs.InputFaults.{Fault}
use Rattle.answer_lines.specs.FaultTexts.{fault_text}
use Rattle.answer_lines.specs.FaultTexts.{trace_fault_text, unknown_text, unit_fault_text}
use Rattle.trace_stream.specs.Cases.{IsFault, IsNamed}
use Rattle.trace_stream.specs.declared.fault.TraceFault.{TraceFault}
use Rattle.trace_stream.specs.declared.fault.TraceFault.TheVariants.{Trace as InTrace, Unknown, Unit as InTicks}

-- a term has one name
pub one_name : {f : Formula} {atom term : ℕ} {name other : List ℕ} → IsNamed f atom term name → IsNamed f atom term other → name ≡ other
one_name {f} {atom} {term} {name} {other} p q =
    let owner : p.owner ≡ q.owner = (let e = sym p.at_atom ∙ q.at_atom in cc) in
    let at : slice_get q.owner.terms term ≡ Some p.part = subst (λ (a : Atom). slice_get a.terms term ≡ Some p.part) owner p.at_term in
    let part : p.part ≡ q.part = (let e = sym at ∙ q.at_term in cc) in
    sym p.named ∙ ap (λ (t : Term). t.name) part ∙ q.named

-- a fault of an unknown column has the column's name
pub name_of : {f : Formula} {fault : TraceFault} {n atom term : ℕ} → fault ≡ Unknown n atom term → (x : Fault) × IsFault f fault x
    → (name : List ℕ) × IsNamed f atom term name
name_of {f} {fault} {n} {atom} {term} e (x, is) = let (name, h, same) = subst (λ (t : TraceFault). IsFault f t x) e is in (name, h)

-- the line of a refusal of the trace
pub trace_line : (f : Formula) (fault : TraceFault) (text : List ℕ) (r : TraceRefusal) → text ≡ trace_fault_text r
    → fault ≡ InTrace r → (x : Fault) → IsFault f fault x → text ≡ fault_text x
trace_line f fault text r told e x is = told ∙ ap fault_text (sym (subst (λ (t : TraceFault). IsFault f t x) e is))

-- the line of numbers that do not fit the ticks
pub unit_line : (f : Formula) (fault : TraceFault) (text : List ℕ) (n : ℕ) (u : UnitFault) → text ≡ unit_fault_text n u
    → fault ≡ InTicks n u → (x : Fault) → IsFault f fault x → text ≡ fault_text x
unit_line f fault text n u told e x is = told ∙ ap fault_text (sym (subst (λ (t : TraceFault). IsFault f t x) e is))

-- the line of an unknown column
pub column_line : (f : Formula) (fault : TraceFault) (text : List ℕ) (n atom term : ℕ) (name : List ℕ)
    → text ≡ unknown_text n name → IsNamed f atom term name → fault ≡ Unknown n atom term
    → (x : Fault) → IsFault f fault x → text ≡ fault_text x
column_line f fault text n atom term name told named e x is =
    let (other, h, same) = subst (λ (t : TraceFault). IsFault f t x) e is in
    told ∙ ap (unknown_text n) (one_name named h) ∙ ap fault_text (sym same)
