-- A first fault of the bytes that were read is that of all bytes of the input, and what was owed before it is what is owed for all.
use Rattle.std.proofs.Common.{◌≡◌, ℕ, Bool, true, false, List, [], ◌++◌, refl, sym, ap, ◌∙◌, subst, append-nil, Option}
use Rattle.stl_syntax.specs.Formula.{Formula}
use Rattle.stl_syntax.specs.Trace.{Header, Row}
use Rattle.trace_reader.specs.declared.refusal.Limits.{Limits}
use Rattle.trace_reader.specs.InputFaults.{Fault, IsInputFault, AreRowsBefore}
use Rattle.trace_stream.specs.Streams.{Stream, limits_of, OwesRows}
use Rattle.trace_stream.proofs.RowsBefore.{fault_stays, rows_stay}

-- where nothing is left the bytes that were read are all
pub all_read : (read left : List ℕ) → left ≡ [] → read ++ left ≡ read
all_read read left e = ap (λ l. read ++ l) e ∙ append-nil read

-- the first fault of the bytes that were read is that of all
pub fault_of_all : (limits : Limits) (f : Formula) (read left : List ℕ) (ended : Bool) (x : Fault) → (ended ≡ true → left ≡ [])
    → IsInputFault limits f read ended x → IsInputFault limits f (read ++ left) true x
fault_of_all limits f read left false x at fault = fault_stays limits f read left true x fault
fault_of_all limits f read left true x at fault = subst (λ b. IsInputFault limits f b true x) (sym (all_read read left (at refl))) fault

-- the rows before it are those before that of all
rows_of_all : (limits : Limits) (f : Formula) (read left : List ℕ) (ended : Bool) {header : Option Header} {rows : List Row} (whole : Bool)
    → (ended ≡ true → left ≡ []) → ((x : Fault) × IsInputFault limits f read ended x) → AreRowsBefore limits f read ended header rows whole
    → AreRowsBefore limits f (read ++ left) true header rows whole
rows_of_all limits f read left false false at some before = rows_stay limits f read left true some before
rows_of_all limits f read left false true at some before = elim before [ ]
rows_of_all limits f read left true {header} {rows} whole at some before =
    subst (λ b. AreRowsBefore limits f b true header rows whole) (sym (all_read read left (at refl))) before

-- so what a stream was owed before it is what it is owed for all
pub rows_owed_of_all : (s : Stream) (f : Formula) (read left text : List ℕ) (ended : Bool) → (ended ≡ true → left ≡ [])
    → ((x : Fault) × IsInputFault (limits_of s) f read ended x) → OwesRows s f read ended text → OwesRows s f (read ++ left) true text
rows_owed_of_all s f read left text ended at some o =
    record { header = o.header; rows = o.rows; whole = o.whole; before = rows_of_all (limits_of s) f read left ended o.whole at some o.before; is = o.is }
