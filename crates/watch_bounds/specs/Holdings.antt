-- How many verdicts the network of a watch holds on all its edges together, by the rows of the last ticks.
use Rattle.std.specs.Prelude.{ℕ, zero, suc, ◌+◌, ◌*◌, ◌≤◌, Bool, List, length, pos}
use Rattle.rational.specs.Time.{whole}
use Rattle.stl_syntax.specs.Trace.{Row, last_time}
use Rattle.stl_syntax.specs.Formula.{Subformula, subformula, root}
use Rattle.stl_syntax.specs.PostOrder.{IsPostOrder}
use Rattle.stl_syntax.specs.declared.node.Node.{Node}
use Rattle.online_nodes.specs.Held.{Held, held_at}
use Rattle.trace_stream.specs.declared.case.Case.{Case}
use Rattle.verdict_stream.specs.Watching.{IsWatched, IsOwing}
use Rattle.verdict_stream.specs.declared.verdicts.Verdicts.{Verdicts}
use Rattle.bounds.specs.Turns.{rows_within, earlier, looks_ahead, looks_back}
use Rattle.bounds.specs.Rests.{verdicts_for_a_row}

-- the sum of what is counted of each of the first n nodes
abbrev pub total : (ℕ → ℕ) → ℕ → ℕ
total f zero = 0
total f (suc i) = total f i + f i

-- how many verdicts at most, for a row, stand on all edges: so many of each node, and one
abbrev pub all_for_a_row : List Node → ℕ
all_for_a_row nodes = total (λ i. verdicts_for_a_row (subformula nodes i) + 1) (length nodes)

-- that is at most ten for each two of the nodes
abbrev pub RowsHoldFew : Type 0
RowsHoldFew = (nodes : List Node) → IsPostOrder nodes → all_for_a_row nodes ≤ 10 * (length nodes * length nodes)

-- how far a formula looks, ahead and back
abbrev pub looks_over : Subformula → ℕ
looks_over p = looks_ahead p + looks_back p

-- how many of the rows come no more than k ticks before the last
abbrev pub last_rows : ℕ → List Row → ℕ
last_rows k rows = rows_within (earlier (whole (pos (last_time 0 rows))) k) (whole (pos (last_time 0 rows))) rows

-- how many verdicts stand on all edges
abbrev pub held_in_all : Held → ℕ
held_in_all e = total (λ i. length (held_at e i)) (length e.edges)

-- once its nodes have stepped, and after the end, a watch holds at most so many verdicts for each row of the last ticks, and for one row more
abbrev pub WatchHoldsFew : Type 0
WatchHoldsFew =
    (v : Verdicts) (c : Case) (ended : Bool) → IsWatched ended v.watcher c
    → held_in_all v.watcher.network.net.edges ≤ all_for_a_row c.formula.nodes * suc (last_rows (looks_over (root c.formula.nodes)) c.trace.rows)

-- while rows wait for a step, it holds at most so many for each row of the last ticks before, and for each row that came since
abbrev pub WatchOwesFew : Type 0
WatchOwesFew =
    (v : Verdicts) (c : Case) (made : List ℕ) → (o : IsOwing v.watcher c made)
    → held_in_all v.watcher.network.net.edges
    ≤ all_for_a_row c.formula.nodes * suc (last_rows (looks_over (root c.formula.nodes)) o.before + suc (length o.more))
