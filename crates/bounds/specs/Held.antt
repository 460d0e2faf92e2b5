-- How much an edge of the streaming network holds, in any run: by the rows in and about the stretch that its reader may still need, and by how
-- often the node's front came to rest within that stretch.
use Rattle.std.specs.Prelude.{◌≡◌, ℕ, suc, ◌+◌, ◌*◌, ◌<◌, ◌≤◌, if◌then◌else◌, List, [], ◌∷◌, length, ℤ, Some, None}
use Rattle.rational.specs.Time.{Rational, whole, Interval}
use Rattle.stl_syntax.specs.Trace.{Header, Trace, first_time}
use Rattle.stl_syntax.specs.Formula.{subformula}
use Rattle.stl_syntax.specs.PostOrder.{IsPostOrder}
use Rattle.stl_syntax.specs.declared.items.Verdict.{Verdict}
use Rattle.stl_syntax.specs.declared.node.Node.{Node}
use Rattle.online_nodes.specs.Network.{Event, Front, State, after_event, initial, state, shown, same_front, IsRun, needed, reach_back}
use Rattle.online_nodes.specs.Needed.{IsEdge}
use Rattle.bounds.specs.Turns.{is_within, turns_for_a_row, rows_about}

-- the new front before the others, where it is shown and another one than the old
abbrev pub with_front : Front → Front → List Rational → List Rational
with_front old None fronts = fronts
with_front old (Some f) fronts = if same_front old (Some f) then fronts else whole f ∷ fronts

-- the times to which the front of node i moved over the events, from state s on
abbrev pub fronts_from : List Node → ℕ → State → List Event → List Rational
fronts_from nodes i s [] = []
fronts_from nodes i s (e ∷ events) = with_front (shown s i) (shown (after_event nodes s e) i) (fronts_from nodes i (after_event nodes s e) events)

-- those of the times that lie from lo to hi
abbrev pub times_within : Rational → Rational → List Rational → List Rational
times_within lo hi [] = []
times_within lo hi (t ∷ times) = if is_within lo hi t then t ∷ times_within lo hi times else times_within lo hi times

-- how often the front of node i moved, over a run, to a time from lo to hi
abbrev pub moves_within : List Node → ℕ → Rational → Rational → List Event → ℕ
moves_within nodes i lo hi events = length (times_within lo hi (fronts_from nodes i initial events))

-- the trace of the rows so far
abbrev pub so_far : List Node → Header → List Event → Trace
so_far nodes header events = record { header = header; rows = (state nodes events).rows }

-- at most so many verdicts for a stretch: twice the turns that the rows there and about allow, one for each move of the front, and one
abbrev pub most : List Node → Header → List Event → ℕ → Interval → ℕ
most nodes header events i stretch =
    2 * (turns_for_a_row (subformula nodes i) * suc (rows_about (subformula nodes i) (so_far nodes header events) stretch.from stretch.to))
    + moves_within nodes i stretch.from stretch.to events + 1

-- in a run, in any order of its events, an edge holds no more than that for the stretch that its reader may still need; nothing before its front is shown
abbrev pub EdgesAreBounded : Type 0
EdgesAreBounded =
    (nodes : List Node) (header : Header) → IsPostOrder nodes → (events : List Event) → IsRun nodes header events
    → (i : ℕ) → i < length nodes → (held : List Verdict) → (edge : IsEdge nodes header events i held)
    → (shown (state nodes events) i ≡ None → held ≡ [])
    × ((f : ℤ) → shown (state nodes events) i ≡ Some f
    → length held ≤ most nodes header events i
    (needed (first_time (state nodes events).rows) f ((state nodes events).fronts edge.reader) (reach_back edge.reading edge.left)))
