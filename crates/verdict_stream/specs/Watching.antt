-- When the network of a formula stands for the rows of a case, and what was taken of what its root gave out.
use Rattle.std.specs.Prelude.{◌≡◌, ◌⊎◌, ℕ, suc, ◌+◌, ◌-◌, ◌<◌, ◌≤◌, Bool, true, false, List, [], ◌∷◌, ◌++◌, length, map, take, drop, Option, Some, None}
use Rattle.stl_syntax.specs.Formula.{Formula, horizon, root}
use Rattle.stl_syntax.specs.Trace.{Header, Row, Trace}
use Rattle.atom_lines.specs.Rows.{row_of}
use Rattle.stl_syntax.specs.Verdicts.{AreAlike}
use Rattle.stl_syntax.specs.Texts.{AreVerdictLines}
use Rattle.stl_syntax.specs.declared.items.Verdict.{Verdict}
use Rattle.stl_syntax.specs.declared.node.Node.{Node}
use Rattle.online_nodes.specs.Network.{Event, row, node_is_atom, Emitted}
use Rattle.online_nodes.specs.Needed.{IsTaken}
use Rattle.online_nodes.specs.Driven.{rows_of, takes, most_rows, IsDriven}
use Rattle.online_net.specs.Nets.{Stands}
use Rattle.answer_lines.specs.Appended.{Grew}
use Rattle.trace_stream.specs.Cases.{IsCase}
use Rattle.trace_stream.specs.Following.{Follows, IsOpen}
use Rattle.trace_stream.specs.Kept.{with_rows}
use Rattle.trace_stream.specs.Streams.{verdicts, StreamText}
use Rattle.trace_stream.specs.declared.case.Case.{Case}
use Rattle.verdict_stream.specs.Quieting.{Knows, IsLineAfter, HasLearned}
use Rattle.verdict_stream.specs.declared.quiet.Quiet.{Quiet}
use Rattle.verdict_stream.specs.declared.watcher.Network.{Network}
use Rattle.verdict_stream.specs.declared.watcher.Watcher.{Watcher}
use Rattle.verdict_stream.specs.declared.verdicts.Verdicts.{Verdicts}

-- the truth of the first of the verdicts
abbrev pub first_truth : List Verdict → Option Bool
first_truth [] = None
first_truth (v ∷ vs) = Some v.holds

-- the network stands for the run that a stream of the case's rows drives, with their end where they have ended; the truth of the first
-- verdict that the root gave out is kept; and no text is owed
pub record IsWatched (ended : Bool) (v : Watcher) (c : Case) : Type 0 where
  pub formula : v.network.formula ≡ c.formula
  pub horizon : v.horizon ≡ horizon (root c.formula.nodes)
  pub events : List Event
  pub driven : IsDriven c.formula.nodes c.trace.header c.trace.rows ended events
  pub stands : Stands c.formula.nodes c.trace.header v.network.net events
  pub emitted : List Verdict
  pub is_emitted : Emitted c.formula.nodes c.trace.header events (length c.formula.nodes - 1) emitted
  pub start : v.network.start ≡ first_truth emitted
  pub no_times : v.times.items ≡ []
  pub none_pending : v.pending ≡ []
  pub none_waiting : v.lines ≡ []

-- the run that a stream of the first rows drives, and some rows more, the last of which is `last`
pub record IsFed (nodes : List Node) (header : Header) (before more : List Row) (last : Row) (events : List Event) : Type 0 where
  pub base : List Event
  pub driven : IsDriven nodes header before false base
  pub is : events ≡ (base ++ rows_of more) ++ row last ∷ []

-- the network took all the case's rows; after the first of them the text was made, and no node stepped since; of the others, which are few,
-- the times are kept. The root is no atom, so that it gave out nothing for them
pub record IsOwing (v : Watcher) (c : Case) (made : List ℕ) : Type 0 where
  pub fits : (f : Formula) × IsCase f c
  pub formula : v.network.formula ≡ c.formula
  pub horizon : v.horizon ≡ horizon (root c.formula.nodes)
  pub no_atom : node_is_atom c.formula.nodes (length c.formula.nodes - 1) ≡ false
  pub before : List Row
  pub more : List Row
  pub last : Row
  pub rows : c.trace.rows ≡ (before ++ more) ++ last ∷ []
  pub few : length more < most_rows
  pub events : List Event
  pub fed : IsFed c.formula.nodes c.trace.header before more last events
  pub stands : Stands c.formula.nodes c.trace.header v.network.net events
  pub emitted : List Verdict
  pub is_emitted : Emitted c.formula.nodes c.trace.header fed.base (length c.formula.nodes - 1) emitted
  pub start : v.network.start ≡ first_truth emitted
  pub times : v.times.items ≡ map (λ (r : Row). r.time) (more ++ last ∷ [])
  pub none_pending : v.pending ≡ []
  pub none_waiting : v.lines ≡ []
  pub told : StreamText verdicts (root c.formula.nodes) c.trace.header before false made

-- this is the text of the case's rows before the last ones, so many of them
abbrev pub IsToldBefore : ℕ → Case → List ℕ → Type 0
IsToldBefore n c text = StreamText verdicts (root c.formula.nodes) c.trace.header (take (length c.trace.rows - n) c.trace.rows) false text

-- whatever text was made
abbrev pub Watches : Bool → Watcher → Case → List ℕ → Type 0
Watches ended w c made = IsWatched ended w c

-- row `at` of the block is the last row of the trace
pub record IsLastAt (block : Trace) (at : ℕ) (t : Trace) : Type 0 where
  pub header : block.header ≡ t.header
  pub before : List Row
  pub rows : t.rows ≡ before ++ row_of block at ∷ []

-- a trace with its last row alone; with no row, where it has none
abbrev pub last_alone : Trace → Trace
last_alone t = record t { rows = drop (length t.rows - 1) t.rows }

-- the block is the last row of the trace
abbrev pub KeepsLast : Trace → Trace → Type 0
KeepsLast block t = block ≡ last_alone t

-- the network stands for the rows of a case, for which some text was made; the last of them stands in the block, and behind it quiet rows of
-- the case c, whose text was made too, and further rows
pub record IsBehind (v : Verdicts) (c : Case) (made : List ℕ) (more : List Row) : Type 0 where
  pub base : Case
  pub quiet : List Row
  pub case : c ≡ with_rows quiet base
  pub front : List Row
  pub last : Row
  pub rows : base.trace.rows ≡ front ++ last ∷ []
  pub block : v.block ≡ record { header = base.trace.header; rows = last ∷ (quiet ++ more) }
  pub first : List ℕ
  pub ahead : List ℕ
  pub watched : Follows (Watches false v.watcher) verdicts base first
  pub count : v.quiet.rows ≡ length quiet
  pub text : made ≡ first ++ ahead
  pub bytes : v.quiet.bytes ≡ length ahead
  pub told : StreamText verdicts (root c.formula.nodes) c.trace.header c.trace.rows false made

-- no quiet row waits for the network
abbrev pub HasNoQuiet : Verdicts → Type 0
HasNoQuiet v = (v.quiet.rows ≡ 0) × (v.quiet.bytes ≡ 0)

-- the network stands for the rows so far, or for those before some quiet ones; and the last of them is kept, with the quiet ones
abbrev pub WatchesRows : Verdicts → Case → List ℕ → Type 0
WatchesRows v c made =
    Knows v.quiet c
    × ((HasNoQuiet v × IsWatched false v.watcher c × KeepsLast v.block c.trace) ⊎ ((0 < v.quiet.rows) × IsBehind v c made []))

-- the network stands for the rows so far, while the text of some is owed; and the last of them is kept
abbrev pub WatchesOwing : Verdicts → Case → List ℕ → Type 0
WatchesOwing v c made = Knows v.quiet c × HasNoQuiet v × IsOwing v.watcher c made × KeepsLast v.block c.trace

-- the text grew; the network stands for all rows of the case, for which it was made, and the last of them is kept; no quiet row waits any more
pub record HasCaughtUp (old : Quiet) (v : Verdicts) (c : Case) (made before after : List ℕ) : Type 0 where
  pub grown : List ℕ
  pub is : after ≡ before ++ grown
  pub watched : Follows (Watches false v.watcher) verdicts c (made ++ grown)
  pub last : KeepsLast v.block c.trace
  pub quiet : v.quiet ≡ record old { rows = 0; bytes = 0 }

-- so it is, and what is known of the rows is so
pub record HasSettled (v : Verdicts) (c : Case) (made before after : List ℕ) : Type 0 where
  pub grown : List ℕ
  pub is : after ≡ before ++ grown
  pub watched : Follows (Watches false v.watcher) verdicts c (made ++ grown)
  pub last : KeepsLast v.block c.trace
  pub none : HasNoQuiet v
  pub knows : Knows v.quiet c

-- further rows stand in the block: behind quiet rows, or where there are none behind the last one, and then text may be owed
abbrev pub HasMore : Verdicts → Case → List ℕ → List Row → Type 0
HasMore v c made more =
    ((0 < v.quiet.rows) × IsBehind v c made more)
    ⊎ (HasNoQuiet v × IsOpen (Watches false v.watcher) (IsOwing v.watcher) verdicts c made
    × ((front : Trace) × KeepsLast front c.trace × (0 < length front.rows) × (v.block ≡ record front { rows = front.rows ++ more })))

-- a watcher put lines, and nothing else changed
pub record IsUnmoved (old new : Watcher) : Type 0 where
  pub network : new.network ≡ old.network
  pub horizon : new.horizon ≡ old.horizon
  pub times : new.times.items ≡ old.times.items
  pub pending : new.pending ≡ old.pending
  pub lines : new.lines ≡ []

-- a row was answered by one line: the verdict from what one row answers to what it does
pub record HasAnswered (old new : Verdicts) (first second : ℕ) (holds : Bool) (before after : List ℕ) : Type 0 where
  pub grown : List ℕ
  pub is : after ≡ before ++ grown
  pub line : IsLineAfter old.watcher.network.formula.scale (first - old.watcher.horizon) (second - old.watcher.horizon) holds grown
  pub watcher : IsUnmoved old.watcher new.watcher
  pub block : new.block ≡ old.block
  pub rows : new.quiet.rows ≡ suc old.quiet.rows
  pub bytes : new.quiet.bytes ≡ old.quiet.bytes + length grown
  pub rest : (new.quiet.calm ≡ old.quiet.calm) × (new.quiet.reach ≡ old.quiet.reach) × (new.quiet.told ≡ old.quiet.told)

-- the network took a row that came alone, and what it answers was learned
pub record HasStepped (old : Quiet) (v : Verdicts) (even : Bool) (time : ℕ) (c : Case) (made before after : List ℕ) : Type 0 where
  pub grown : List ℕ
  pub is : after ≡ before ++ grown
  pub watched : Follows (Watches false v.watcher) verdicts c (made ++ grown)
  pub last : KeepsLast v.block c.trace
  pub none : HasNoQuiet v
  pub learned : HasLearned (record old { rows = 0; bytes = 0 }) v.quiet even time grown

-- the network stands for all rows and their end
abbrev pub WatchesEnd : Verdicts → Case → List ℕ → Type 0
WatchesEnd v c made = IsWatched true v.watcher c

-- a run of a network, what its root gave out in it, and how many of these verdicts were taken
pub record Pass : Type 0 where
  pub nodes : List Node
  pub header : Header
  pub events : List Event
  pub given : List Verdict
  pub taken : ℕ

-- the network stands for the run, in which these verdicts were given out and so many of them were taken; the truth of the first of these
-- is kept
pub record CanTake (p : Pass) (v : Network) : Type 0 where
  pub stands : Stands p.nodes p.header v.net p.events
  pub given : Emitted p.nodes p.header p.events (length p.nodes - 1) p.given
  pub taken : IsTaken p.nodes p.header p.events p.taken
  pub start : v.start ≡ first_truth (take p.taken p.given)

-- n verdicts more were taken, and their lines were added
pub record HasTaken (p : Pass) (n : ℕ) (v : Network) (old new : List ℕ) : Type 0 where
  pub within : p.taken + n ≤ length p.given
  pub stands : Stands p.nodes p.header v.net (p.events ++ takes n)
  pub taken : IsTaken p.nodes p.header (p.events ++ takes n) (p.taken + n)
  pub start : v.start ≡ first_truth (take (p.taken + n) p.given)
  pub lines : Grew (AreVerdictLines v.formula.scale (take n (drop p.taken p.given))) old new

-- all that is left was taken; the first take that found nothing comes last
abbrev pub HasTakenAll : Pass → Network → List ℕ → List ℕ → Type 0
HasTakenAll p v old new = (n : ℕ) × HasTaken p n v old new × (p.taken + n ≡ length p.given)

-- n verdicts more were taken, and stand behind those that were pending
pub record HasGiven (p : Pass) (n : ℕ) (v : Network) (old new : List Verdict) : Type 0 where
  pub within : p.taken + n ≤ length p.given
  pub stands : Stands p.nodes p.header v.net (p.events ++ takes n)
  pub taken : IsTaken p.nodes p.header (p.events ++ takes n) (p.taken + n)
  pub start : v.start ≡ first_truth (take (p.taken + n) p.given)
  pub put : List Verdict
  pub are : AreAlike put (take n (drop p.taken p.given))
  pub pending : new ≡ old ++ put

-- all that is left was taken so
abbrev pub HasGivenAll : Pass → Network → List Verdict → List Verdict → Type 0
HasGivenAll p v old new = (n : ℕ) × HasGiven p n v old new × (p.taken + n ≡ length p.given)

-- the truth that is kept once a verdict was put
abbrev pub kept_truth : Option Bool → Bool → Option Bool
kept_truth None holds = Some holds
kept_truth (Some first) holds = Some first
