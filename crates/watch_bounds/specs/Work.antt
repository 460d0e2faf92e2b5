-- How much work the run that a stream drives is: the steps of its nodes, what they put onto edges, and what is let go of.
use Rattle.std.specs.Prelude.{◌≡◌, ℕ, suc, ◌+◌, ◌-◌, ◌*◌, ◌<◌, ◌≤◌, Bool, List, [], ◌∷◌, length}
use Rattle.stl_syntax.specs.Trace.{Header, Row}
use Rattle.stl_syntax.specs.PostOrder.{IsPostOrder}
use Rattle.stl_syntax.specs.declared.items.Verdict.{Verdict}
use Rattle.stl_syntax.specs.declared.node.Node.{Node}
use Rattle.online_nodes.specs.Network.{Event, row, step, close, take, IsRun, Emitted}
use Rattle.online_nodes.specs.Needed.{IsTaken}
use Rattle.online_nodes.specs.Driven.{IsDriven}
use Rattle.bounds.specs.Books.{Books}
use Rattle.watch_bounds.specs.Holdings.{total, all_for_a_row}

-- how many of the events are steps
abbrev pub steps_in : List Event → ℕ
steps_in [] = 0
steps_in (step i ∷ events) = suc (steps_in events)
steps_in (row r ∷ events) = steps_in events
steps_in (close ∷ events) = steps_in events
steps_in (take ∷ events) = steps_in events

-- the books of all edges over a run: of each node how many verdicts were put onto its edge, and how many of them were let go of, or of the root taken
pub record AreBooks (nodes : List Node) (header : Header) (events : List Event) (put gone : ℕ → ℕ) : Type 0 where
  pub edges : (i : ℕ) → suc i < length nodes → (held : List Verdict) × Books nodes header i events (put i) (gone i) held
  pub given : List Verdict
  pub is_given : Emitted nodes header events (length nodes - 1) given
  pub root_put : put (length nodes - 1) ≡ length given
  pub root_gone : IsTaken nodes header events (gone (length nodes - 1))

-- how much work for a row at most: a step of each node, and each of the verdicts that its edge can get put, and let go of
abbrev pub work_for_a_row : List Node → ℕ
work_for_a_row nodes = length nodes + 2 * all_for_a_row nodes

-- that is at most 21 for each two of the nodes
abbrev pub RowsAreLittleWork : Type 0
RowsAreLittleWork = (nodes : List Node) → IsPostOrder nodes → work_for_a_row nodes ≤ 21 * (length nodes * length nodes)

-- in the run that a stream drives the steps, the verdicts put and those let go of are together at most so many for each row, and for one row more
abbrev pub WorkIsLinear : Type 0
WorkIsLinear =
    (nodes : List Node) (header : Header) → IsPostOrder nodes → (rows : List Row) (ended : Bool) (events : List Event) → IsRun nodes header events
    → IsDriven nodes header rows ended events → (put gone : ℕ → ℕ) → AreBooks nodes header events put gone
    → steps_in events + total (λ i. put i + gone i) (length nodes) ≤ work_for_a_row nodes * suc (length rows)
