-- How often the front of a node comes to rest within a stretch, in any run, by the rows in and about the stretch; and so what an edge holds.
use Rattle.std.specs.Prelude.{◌≡◌, ℕ, suc, ◌+◌, ◌*◌, ◌<◌, ◌≤◌, List, length, ℤ, Some}
use Rattle.rational.specs.Time.{Rational, Interval}
use Rattle.stl_syntax.specs.Trace.{Header, first_time}
use Rattle.stl_syntax.specs.Formula.{Subformula, subformula, constant, atom, negation, conjunction, disjunction}
use Rattle.stl_syntax.specs.Formula.{implication, until, eventually, always, since, once, historically}
use Rattle.stl_syntax.specs.PostOrder.{IsPostOrder}
use Rattle.stl_syntax.specs.declared.items.Verdict.{Verdict}
use Rattle.stl_syntax.specs.declared.node.Node.{Node}
use Rattle.online_nodes.specs.Network.{Event, state, shown, IsRun, Emitted, needed, reach_back}
use Rattle.online_nodes.specs.Needed.{IsEdge}
use Rattle.bounds.specs.Turns.{turns_for_a_row, rows_about}
use Rattle.bounds.specs.Held.{moves_within, so_far}

-- at how many times a row can bring the front of a node to rest: one for each atom and constant below it, the row's time moved by the windows
-- between, and one for each window behind, whose front stands no later than the last row
abbrev pub rests_for_a_row : Subformula → ℕ
rests_for_a_row (constant b) = 1
rests_for_a_row (atom i a) = 1
rests_for_a_row (negation p) = rests_for_a_row p
rests_for_a_row (conjunction p q) = rests_for_a_row p + rests_for_a_row q
rests_for_a_row (disjunction p q) = rests_for_a_row p + rests_for_a_row q
rests_for_a_row (implication p q) = rests_for_a_row p + rests_for_a_row q
rests_for_a_row (until a b p q) = rests_for_a_row p + rests_for_a_row q
rests_for_a_row (eventually a b a_in b_in p) = rests_for_a_row p
rests_for_a_row (always a b a_in b_in p) = rests_for_a_row p
rests_for_a_row (since a b p q) = rests_for_a_row p + rests_for_a_row q
rests_for_a_row (once a b a_in b_in p) = rests_for_a_row p + 1
rests_for_a_row (historically a b a_in b_in p) = rests_for_a_row p + 1

-- in a run, in any order of its events, the front of a node moves to a time from lo to hi no oftener than that for each row there and about, and
-- once more, at the end
abbrev pub MovesAreFew : Type 0
MovesAreFew =
    (nodes : List Node) (header : Header) → IsPostOrder nodes → (events : List Event) → IsRun nodes header events
    → (i : ℕ) → i < length nodes → (lo hi : Rational)
    → moves_within nodes i lo hi events
    ≤ rests_for_a_row (subformula nodes i) * rows_about (subformula nodes i) (so_far nodes header events) lo hi + 1

-- how many verdicts of a node can stand on its edge for a row: twice as often as its truth can turn, and as often as its front can rest
abbrev pub verdicts_for_a_row : Subformula → ℕ
verdicts_for_a_row p = 2 * turns_for_a_row p + rests_for_a_row p

-- so many for each of the rows in and about a stretch, and for one row more, and one
abbrev pub most_by_rows : List Node → Header → List Event → ℕ → Interval → ℕ
most_by_rows nodes header events i stretch =
    verdicts_for_a_row (subformula nodes i) * suc (rows_about (subformula nodes i) (so_far nodes header events) stretch.from stretch.to) + 1

-- in a run, in any order of its events, an edge holds no more than that for the stretch that its reader may still need: the rows elsewhere add nothing
abbrev pub EdgesAreFew : Type 0
EdgesAreFew =
    (nodes : List Node) (header : Header) → IsPostOrder nodes → (events : List Event) → IsRun nodes header events
    → (i : ℕ) → i < length nodes → (held : List Verdict) → (edge : IsEdge nodes header events i held)
    → (f : ℤ) → shown (state nodes events) i ≡ Some f
    → length held ≤ most_by_rows nodes header events i
    (needed (first_time (state nodes events).rows) f ((state nodes events).fronts edge.reader) (reach_back edge.reading edge.left))

-- over a run, in any order of its events, a node gives out no more than that for each row of the trace so far
abbrev pub GivenAreFew : Type 0
GivenAreFew =
    (nodes : List Node) (header : Header) → IsPostOrder nodes → (events : List Event) → IsRun nodes header events
    → (i : ℕ) → i < length nodes → (verdicts : List Verdict) → Emitted nodes header events i verdicts
    → length verdicts ≤ verdicts_for_a_row (subformula nodes i) * suc (length (state nodes events).rows) + 1
