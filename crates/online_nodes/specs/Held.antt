-- What the edges of a network hold, where verdicts lie on them.
use Rattle.std.specs.Prelude.{ℤ, Bool, List}
use Rattle.stl_syntax.specs.declared.items.Verdict.{Verdict}
use Rattle.node_edges.specs.Held as Of
pub use Rattle.node_edges.specs.Held.{edge_at, fresh_at, held_at, held_of, joining, no_edge, number_at, with_edge, with_more, with_number, with_read, without}
pub use Rattle.node_edges.specs.Held.{JoinsAlike, as_given, joined}
pub use Rattle.node_edges.specs.Verdicts.{GoesOn, IsJoined}
use Rattle.node_edges.specs.Kinds.{verdict_part}

-- one edge
abbrev pub Edge : Type 0
Edge = Of.Edge Verdict

-- all edges, the time of the first row, and how many verdicts can be put with no allocation
abbrev pub Held : Type 0
Held = Of.Held Verdict

-- the stretches are the verdicts, some neighbours of one truth joined
abbrev pub AreStretches : List Verdict → List Verdict → Type 0
AreStretches = Of.AreStretches verdict_part

-- how verdicts stand on an edge: where it joins some neighbours of one truth may be joined, and else they stand as they were given
abbrev pub Stand : Bool → List Verdict → List Verdict → Type 0
Stand = Of.Stand verdict_part

-- the edge has these verdicts more at its back, where it joins maybe joined with each other and with what was not read
abbrev pub HasMore : Edge → Edge → List Verdict → Type 0
HasMore = Of.HasMore verdict_part

-- what ends by the time `limit` is gone from the front of the edge, and the first verdict that is left ends later
abbrev pub IsDroppedBy : ℤ → Edge → Edge → Type 0
IsDroppedBy = Of.IsDroppedBy verdict_part
