-- What the edges of a network hold, where the parts of margins lie on them.
use Rattle.node_edges.specs.Held as Of
pub use Rattle.node_edges.specs.Held.{edge_at, fresh_at, held_at, held_of, no_edge, number_at, with_edge, with_more, with_number, with_read, without}
use Rattle.online_robust.specs.declared.line.MarginLine.{MarginLine}

-- one edge
abbrev pub Edge : Type 0
Edge = Of.Edge MarginLine

-- all edges, the time of the first row, and how many parts can be put with no allocation
abbrev pub Held : Type 0
Held = Of.Held MarginLine
