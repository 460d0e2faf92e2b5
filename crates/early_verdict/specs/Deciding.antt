-- When an early verdict stands for rows, and what its calls answer.
use Rattle.std.specs.Prelude.{◌≡◌, ℕ, ◌-◌, ◌<◌, Bool, true, false, List, [], ◌∷◌, ◌++◌, length, Option, Some, None, MatchOption, MatchBool, pos}
use Rattle.stl_syntax.specs.Trace.{Header, Row, Trace, AreRows, start}
use Rattle.rational.specs.Time.{whole}
use Rattle.stl_syntax.specs.Formula.{Formula, Subformula, root}
use Rattle.stl_syntax.specs.Truth.{Truth}
use Rattle.stl_syntax.specs.Early.{NoneDecides, FirstDecides}
use Rattle.stl_syntax.specs.WellFormed.{AreWellFormed}
use Rattle.stl_syntax.specs.declared.node.Node.{Node}
use Rattle.stl_syntax.specs.declared.scale.Scale.{Scale}
use Rattle.atom_lines.specs.Binding.{Binding, IsBound}
use Rattle.growing_sets.specs.Spans.{IsOn}
use Rattle.early_verdict.specs.Fitting.{lists_at}
use Rattle.early_verdict.specs.Standing.{own_of}
use Rattle.early_verdict.specs.Living.{NetStands}
use Rattle.trace_reader.specs.Reader.{Reader, StandsFor}
use Rattle.early_verdict.specs.declared.sets.Sets.{Sets}
use Rattle.early_verdict.specs.declared.progress.Progress.{Progress}
use Rattle.early_verdict.specs.declared.early.Decided.{Decided}
use Rattle.early_verdict.specs.declared.early.EarlyFault.{EarlyFault}
use Rattle.early_verdict.specs.declared.early.EarlyFault.TheVariants.{Stopped, Memory}

-- what an early verdict keeps: the formula and its atoms' columns, what its nodes go on from and what they show, the first time
-- and the last row, the verdict of
-- the row that decided, whether the input has ended, and whether a call answered want of memory
pub record Kept : Type 0 where
  pub nodes : List Node
  pub header : Header
  pub bound : Binding
  pub live : List Sets
  pub shown : List Sets
  pub begin : ℕ
  pub last : Option Row
  pub decided : Option Decided
  pub ended : Bool
  pub stopped : Bool

-- the last of the rows
abbrev pub last_after : Row → List Row → Row
last_after r [] = r
last_after r (s ∷ rows) = last_after s rows

abbrev pub last_of : List Row → Option Row
last_of [] = None
last_of (r ∷ rows) = Some (last_after r rows)

abbrev pub trace_of : Header → List Row → Trace
trace_of header rows = record { header = header; rows = rows }

-- the rows are none, or those of a trace
abbrev pub AreRowsSoFar : ℕ → List Row → Type 0
AreRowsSoFar width [] = Unit {0}
AreRowsSoFar width (r ∷ rows) = AreRows width (r ∷ rows)

-- before any row there are no sets; then they tell what the rows settle
abbrev pub SetsAre : List Node → Header → ℕ → List Sets → List Sets → List Row → Type 0
SetsAre nodes header begin live shown [] = Unit {0}
SetsAre nodes header begin live shown (r ∷ rows) = (begin ≡ r.time) × NetStands nodes (trace_of header (r ∷ rows)) live shown

-- what is kept while nothing is decided: the rows are so far those of a trace for the formula, and the sets tell what they settle
pub record IsOpen (f : Formula) (b : Binding) (header : Header) (rows : List Row) (begin : ℕ) (last : Option Row) (live shown : List Sets) : Type 0 where
  pub bound : IsBound b f header
  pub formed : AreWellFormed f.nodes
  pub some : 0 < length f.nodes
  pub so_far : AreRowsSoFar (length header.columns) rows
  pub ends : last ≡ last_of rows
  pub sets_are : SetsAre f.nodes header begin live shown rows

-- the sets of the root, the last, say of the start that it is certainly true, certainly false, or neither
abbrev pub IsVerdict : List Sets → ℕ → Option Bool → Type 0
IsVerdict sets start verdict =
    let root = lists_at sets (length sets - 1) in
    let at = whole (pos start) in
    MatchOption verdict (¬ (IsOn root.yes at) × ¬ (IsOn root.no at)) (λ holds. MatchBool holds (IsOn root.yes at) (IsOn root.no at))

-- one of the rows was the first that decided, at its time and with its verdict
pub record WasDecided (p : Subformula) (header : Header) (rows : List Row) (d : Decided) : Type 0 where
  pub before : List Row
  pub row : Row
  pub after : List Row
  pub among : rows ≡ before ++ row ∷ after
  pub at : d.at ≡ row.time
  pub first : FirstDecides p header before row d.holds

-- nothing is decided, and the sets tell what is settled so far; or a row has decided
abbrev pub StandsBy : Kept → List Row → Type 0
StandsBy x rows = MatchOption x.decided
    (NoneDecides (root x.nodes) x.header rows × (x.ended ≡ false → SetsAre x.nodes x.header x.begin x.live x.shown rows))
    (WasDecided (root x.nodes) x.header rows)

-- an early verdict stands for these rows, ended or not
pub record Stands (x : Kept) (rows : List Row) (ended : Bool) : Type 0 where
  pub formed : AreWellFormed x.nodes
  pub some : 0 < length x.nodes
  pub scale : Scale
  pub bound : IsBound x.bound (record { nodes = x.nodes; scale = scale }) x.header
  pub so_far : AreRowsSoFar (length x.header.columns) rows
  pub running : x.stopped ≡ false
  pub is_ended : x.ended ≡ ended
  pub last : x.last ≡ last_of rows
  pub by : StandsBy x rows

-- one that is not stopped stands for some rows
abbrev pub HasPast : Kept → Type 0
HasPast x = x.stopped ≡ false → (rows : List Row) × Stands x rows x.ended

-- what it is made for stays
pub record IsFor (x y : Kept) : Type 0 where
  pub nodes : y.nodes ≡ x.nodes
  pub header : y.header ≡ x.header
  pub bound : y.bound ≡ x.bound

-- the row is the first that decides, as the answer says; or it is not the first
abbrev pub IsAnswer : Subformula → Header → List Row → Row → Option Decided → Type 0
IsAnswer p header rows r None = (b : Bool) → FirstDecides p header rows r b → ⊥
IsAnswer p header rows r (Some d) = (d.at ≡ r.time) × FirstDecides p header rows r d.holds

-- what is decided once a row has come: what was, or what the row decided
abbrev pub decided_by : Option Decided → Option Decided → Option Decided
decided_by None now = now
decided_by (Some d) now = Some d

-- it took a row
pub record IsFed (old new : Kept) (row : Row) (answer : Option Decided) : Type 0 where
  pub running : old.stopped ≡ false
  pub still_running : new.stopped ≡ false
  pub not_ended : new.ended ≡ false
  pub last : new.last ≡ Some row
  pub decided : new.decided ≡ decided_by old.decided answer

-- it took the end of the input
pub record IsOver (old new : Kept) : Type 0 where
  pub running : old.stopped ≡ false
  pub still_running : new.stopped ≡ false
  pub ended : new.ended ≡ true
  pub last : new.last ≡ old.last

-- why a call was refused: an earlier one answered want of memory, and nothing changes; want of memory stops it
abbrev pub IsFault : Kept → Kept → EarlyFault → Type 0
IsFault old new Stopped = (old.stopped ≡ true) × (new ≡ old)
IsFault old new Memory = (old.stopped ≡ false) × (new.stopped ≡ true)

-- the verdict is the truth at the start
abbrev pub IsTruthAtStart : Subformula → Trace → Bool → Type 0
IsTruthAtStart p tr holds = MatchBool holds (Truth p tr (start tr)) (¬ (Truth p tr (start tr)))

-- what is kept over these parts, with that last row, while the input goes on
abbrev pub kept_of : Formula → Binding → Header → Option Row → Progress → Kept
kept_of f b header last p = record {
  nodes = f.nodes;
  header = header;
  bound = b;
  live = own_of f.nodes p.net;
  shown = p.net.shown.items;
  begin = p.begin;
  last = last;
  decided = p.decided;
  ended = false;
  stopped = false;
}

-- one of some rows more is the first that decides, as the answer says; or none of them is
abbrev pub IsBlockAnswer : Subformula → Header → List Row → List Row → Option Decided → Type 0
IsBlockAnswer p header rows more None = NoneDecides p header rows → NoneDecides p header (rows ++ more)
IsBlockAnswer p header rows more (Some d) = NoneDecides p header rows × WasDecided p header (rows ++ more) d

-- it took some rows more, which are these bytes
pub record HasTakenRows (before after : Reader) (old new : Kept) (rows : List Row) (taken : List ℕ) (answer : Option Decided) : Type 0 where
  pub more : List Row
  pub read : (bytes : List ℕ) (all : List Row) → StandsFor before bytes all → StandsFor after (bytes ++ taken) (all ++ more)
  pub stands : Stands new (rows ++ more) false
  pub answers : IsBlockAnswer (root old.nodes) old.header rows more answer
