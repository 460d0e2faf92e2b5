-- The run in which each row, and the end, is followed by a step of every node, and how the run that a watch drives stands for it.
use Rattle.std.specs.Prelude.{◌≡◌, ◌≢◌, ℕ, suc, ◌-◌, ◌<◌, ℤ, Bool, true, false, List, [], ◌∷◌, ◌++◌, length, None, Some}
use Rattle.rational.specs.Time.{Interval}
use Rattle.rational.specs.Places.{begins, ends}
use Rattle.frac128.specs.Spans.{interval}
use Rattle.stl_syntax.specs.Trace.{Header, Row, first_time}
use Rattle.stl_syntax.specs.PostOrder.{IsPostOrder}
use Rattle.stl_syntax.specs.WellFormed.{HasOneRoot}
use Rattle.stl_syntax.specs.declared.items.Verdict.{Verdict}
use Rattle.stl_syntax.specs.declared.node.Node.{Node}
use Rattle.online_nodes.specs.Network.{Event, row, close, Front, state, shown, needed, reach_back, IsRun, Emitted}
use Rattle.online_nodes.specs.Needed.{AreMeeting, IsEdge, IsJoinedEdge, IsRootEdge}
use Rattle.online_nodes.specs.Driven.{pass_of, IsEmptied, IsDriven}
use Rattle.online_nodes.specs.Held.{held_at, number_at}
use Rattle.online_nodes.specs.Laws.{AreTiles}
use Rattle.agreeing.specs.Joined.{HaveTruth}
use Rattle.trace_stream.specs.declared.case.Case.{Case}
use Rattle.verdict_stream.specs.Watching.{IsWatched}
use Rattle.verdict_stream.specs.declared.verdicts.Verdicts.{Verdicts}

-- the run after these rows, of which each is followed by a step of every node that is no atom, in rising order, and by takes until nothing is
-- left; and so is the end, where the input has ended
pub data IsRowByRow (nodes : List Node) (header : Header) : List Row → Bool → List Event → Type 0 where
  nothing : IsRowByRow nodes header [] false []
  by_row : {rows : List Row} {events : List Event} (r : Row) (n : ℕ) → IsRowByRow nodes header rows false events
      → IsEmptied nodes header (events ++ pass_of (row r) nodes n)
      → IsRowByRow nodes header (rows ++ r ∷ []) false (events ++ pass_of (row r) nodes n)
  by_end : {rows : List Row} {events : List Event} (n : ℕ) → IsRowByRow nodes header rows false events → rows ≢ []
      → IsEmptied nodes header (events ++ pass_of close nodes n)
      → IsRowByRow nodes header rows true (events ++ pass_of close nodes n)

-- the verdicts are the parts, of which neighbours of one truth may be merged: each verdict is a run of parts that have its truth and lead from
-- where it begins to where it ends
abbrev pub AreMerged : List Verdict → List Verdict → Type 0
AreMerged parts [] = parts ≡ []
AreMerged parts (v ∷ verdicts) =
    (run others : List Verdict) × (parts ≡ run ++ others) × AreTiles (begins (interval v.on)) run (ends (interval v.on)) × HaveTruth v.holds run
    × AreMerged others verdicts

-- the same of what is held for a stretch of time; the first verdict held may begin with parts that end before the stretch, and that are held no
-- more
pub record AreMergedOn (stretch : Interval) (parts held : List Verdict) : Type 0 where
  pub gone : List Verdict
  pub before : AreMeeting stretch gone []
  pub merged : AreMerged (gone ++ parts) held

-- the same of what is held for a reader; where no front is shown nothing is
abbrev pub AreMergedFor : ℕ → Front → Front → ℤ → List Verdict → List Verdict → Type 0
AreMergedFor start None reader k parts held = (parts ≡ []) × (held ≡ [])
AreMergedFor start (Some f) reader k parts held = AreMergedOn (needed start f reader k) parts held

-- these verdicts are what the edge of node i, which is not the root, has after the run, of which neighbours of one truth may be merged
pub record IsEdgeMerged (nodes : List Node) (header : Header) (events : List Event) (i : ℕ) (held : List Verdict) : Type 0 where
  pub parts : List Verdict
  pub edge : IsEdge nodes header events i parts
  pub merged : AreMergedFor (first_time (state nodes events).rows) (shown (state nodes events) i) ((state nodes events).fronts edge.reader)
      (reach_back edge.reading edge.left) parts held

-- the events stand for a run in which each row is followed by a step of every node: it has the same rows, with their end where they have ended,
-- and the same numbers; and of what each node gave out, and of what its edge holds, whether it joins or not, neighbours of one truth may be merged
pub record StandsForRows (nodes : List Node) (header : Header) (rows : List Row) (ended : Bool) (events : List Event) : Type 0 where
  pub each : List Event
  pub run : IsRun nodes header each
  pub by_rows : IsRowByRow nodes header rows ended each
  pub rows_are : (state nodes each).rows ≡ (state nodes events).rows
  pub closed_is : (state nodes each).closed ≡ (state nodes events).closed
  pub numbers : (i : ℕ) → i < length nodes → (state nodes each).fronts i ≡ (state nodes events).fronts i
  pub given : (i : ℕ) → i < length nodes → (verdicts : List Verdict) → Emitted nodes header events i verdicts
      → (parts : List Verdict) × Emitted nodes header each i parts × AreMerged parts verdicts
  pub edges : (i : ℕ) → i < length nodes → (joins : Bool) (held : List Verdict) → IsJoinedEdge nodes header events joins i held
      → IsEdgeMerged nodes header each i held

-- the run that a stream drives stands for the one row by row
abbrev pub RunsStandForRows : Type 0
RunsStandForRows =
    (nodes : List Node) (header : Header) → IsPostOrder nodes → HasOneRoot nodes → (rows : List Row) (ended : Bool) (events : List Event)
    → IsRun nodes header events → IsDriven nodes header rows ended events → StandsForRows nodes header rows ended events

-- the network of a watch has the numbers of a run in which each row of the case is followed by a step of every node; each of its edges holds what
-- that run's does, of which neighbours of one truth may be merged; and the root's, of which all was taken, is that run's
pub record HoldsRowByRow (v : Verdicts) (c : Case) (ended : Bool) (events : List Event) : Type 0 where
  pub stands : StandsForRows c.formula.nodes c.trace.header c.trace.rows ended events
  pub numbers : (i : ℕ) → i < length c.formula.nodes → number_at v.watcher.network.net.edges i ≡ (state c.formula.nodes stands.each).fronts i
  pub edges : (i : ℕ) → suc i < length c.formula.nodes
      → IsEdgeMerged c.formula.nodes c.trace.header stands.each i (held_at v.watcher.network.net.edges i)
  pub root : IsRootEdge c.formula.nodes c.trace.header stands.each (held_at v.watcher.network.net.edges (length c.formula.nodes - 1))

-- a watch whose network has stepped stands for the run row by row
abbrev pub WatchesStandForRows : Type 0
WatchesStandForRows = (v : Verdicts) (c : Case) (ended : Bool) → (w : IsWatched ended v.watcher c) → HoldsRowByRow v c ended w.events
