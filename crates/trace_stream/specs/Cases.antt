-- A formula over a header: what the header lacks for it, and the formula bound to it.
use Rattle.std.specs.Prelude.{◌≡◌, ℕ, Bool, List, [], ◌∷◌, ◌++◌, length, ◌<◌, Option, Some, None, slice_get}
use Rattle.stl_syntax.specs.Choice.{◌or_else◌}
use Rattle.stl_syntax.specs.Formula.{Formula}
use Rattle.stl_syntax.specs.Scaling.{scaled}
use Rattle.stl_syntax.specs.Trace.{Row, Header, Trace, last_time}
use Rattle.stl_syntax.specs.declared.atom.Atom.{Atom}
use Rattle.stl_syntax.specs.declared.atom.Term.{Term}
use Rattle.stl_syntax.specs.declared.node.Node.TheVariants.{Atom as Leaf}
use Rattle.stl_syntax.specs.declared.scale.UnitFault.{UnitFault}
use Rattle.stl_syntax.specs.declared.scale.UnitFault.TheVariants as unit
use Rattle.trace_reader.specs.TraceText.{lines, Heading}
use Rattle.trace_reader.specs.Reader.{header_of}
use Rattle.atom_lines.specs.Binding.{IsBound}
use Rattle.atom_lines.specs.declared.binding.BindFault.{BindFault}
use Rattle.atom_lines.specs.declared.binding.BindFault.TheVariants.{UnknownColumn, Memory}
use Rattle.trace_reader.specs.InputFaults.{Fault, of_trace, unknown, unit as of_unit, IsHeaderAt, IsUnknownIn, IsUnitIn}
use Rattle.trace_stream.specs.declared.case.Case.{Case}
use Rattle.trace_stream.specs.declared.fault.TraceFault.{TraceFault}
use Rattle.trace_stream.specs.declared.fault.TraceFault.TheVariants.{Trace as InTrace, Unknown, Unit as InTicks}
use Rattle.trace_stream.specs.declared.fault.StreamStop.{StreamStop}
use Rattle.trace_stream.specs.declared.fault.StreamStop.TheVariants.{Fault as Faulty, NoMemory, Wide}

-- the name in a term of the formula, by the node of its atom and its place in it
pub record IsNamed (f : Formula) (atom term : ℕ) (name : List ℕ) : Type 0 where
  pub owner : Atom
  pub part : Term
  pub at_atom : slice_get f.nodes atom ≡ Some (Leaf owner)
  pub at_term : slice_get owner.terms term ≡ Some part
  pub named : part.name ≡ name

-- the stored fault is this one; a name that is no column is stored by its place in the formula
abbrev pub IsFault : Formula → TraceFault → Fault → Type 0
IsFault f (InTrace r) x = x ≡ of_trace r
IsFault f (Unknown n atom term) x = (name : List ℕ) × IsNamed f atom term name × (x ≡ unknown n atom term name)
IsFault f (InTicks n fault) x = x ≡ of_unit n fault

-- what the header in line n lacks for the formula
abbrev pub IsLacking : Formula → ℕ → Heading → Fault → Type 0
IsLacking f n h = IsUnknownIn f n h or_else IsUnitIn f n h

-- the formula is in the ticks of the trace, and bound to its columns
pub record IsCase (f : Formula) (c : Case) : Type 0 where
  pub formula : c.formula ≡ scaled f c.trace.header.scale
  pub bound : IsBound c.bound c.formula c.trace.header

-- a case without rows, whose header in line n lacks nothing
pub record IsBegun (f : Formula) (n : ℕ) (h : Heading) (c : Case) : Type 0 where
  pub trace : c.trace ≡ record { header = header_of f.scale h; rows = [] }
  pub case : IsCase f c
  pub fits : (x : Fault) → ¬ IsLacking f n h x

-- why no case was begun
abbrev pub IsNoBegin : Formula → ℕ → Heading → StreamStop → Type 0
IsNoBegin f n h (Faulty fault) = (x : Fault) × IsFault f fault x × IsLacking f n h x
IsNoBegin f n h NoMemory = Unit {0}
IsNoBegin f n h (Wide i den) = ⊥

-- the reason to stop that a fault of binding is, for the header in line n
abbrev pub stop_of : ℕ → BindFault → StreamStop
stop_of n (UnknownColumn atom term) = Faulty (Unknown n atom term)
stop_of n Memory = NoMemory

-- the reason to stop that a formula with other ticks is
abbrev pub stop_of_unit : ℕ → UnitFault → StreamStop
stop_of_unit n unit.Memory = NoMemory
stop_of_unit n fault = Faulty (InTicks n fault)

-- the header of the bytes, whatever follows them, which lacks nothing
pub record IsHeaderOf (f : Formula) (bytes : List ℕ) (header : Header) : Type 0 where
  pub line : ℕ
  pub heading : Heading
  pub is : header ≡ header_of f.scale heading
  pub at : (ended : Bool) (more : List ℕ) → IsHeaderAt (lines ended (bytes ++ more)) line heading
  pub fits : (x : Fault) → ¬ IsLacking f line heading x

-- the case with one more row
abbrev pub with_row : Row → Case → Case
with_row r c = record c { trace = record c.trace { rows = c.trace.rows ++ r ∷ [] } }

-- a trace that can take the row: a value for each column, at a later time
abbrev pub Takes : Row → Trace → Type 0
Takes r t = (length r.values ≡ length t.header.columns) × (0 < length t.rows → last_time 0 t.rows < r.time)

-- a case was begun, which can take the row
abbrev pub CanKeep : Option Case → Row → Type 0
CanKeep None r = ⊥
CanKeep (Some c) r = Takes r c.trace
