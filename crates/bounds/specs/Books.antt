-- The books of an edge over a run: what its node put onto it, and what was let go of.
use Rattle.std.specs.Prelude.{◌≡◌, ℕ, suc, ◌+◌, ◌*◌, ◌<◌, ◌≤◌, List, [], ◌∷◌, ◌++◌, length}
use Rattle.stl_syntax.specs.Trace.{Header}
use Rattle.stl_syntax.specs.Formula.{subformula}
use Rattle.stl_syntax.specs.PostOrder.{IsPostOrder}
use Rattle.stl_syntax.specs.declared.items.Verdict.{Verdict}
use Rattle.stl_syntax.specs.declared.node.Node.{Node}
use Rattle.online_nodes.specs.Network.{Event, state, IsRun, EmittedAt}
use Rattle.online_nodes.specs.Needed.{IsEdge}
use Rattle.bounds.specs.Rests.{verdicts_for_a_row}

-- in a run, in any order of its events, what an edge holds after one event more is no more than what it held and what its node gave out at it:
-- nothing that was let go of comes back
abbrev pub EdgesLetGo : Type 0
EdgesLetGo =
    (nodes : List Node) (header : Header) → IsPostOrder nodes → (events : List Event) (e : Event) → IsRun nodes header (events ++ e ∷ [])
    → (i : ℕ) → i < length nodes → (held here after : List Verdict) → IsEdge nodes header events i held
    → EmittedAt nodes header i (state nodes events) (state nodes (events ++ e ∷ [])) here → IsEdge nodes header (events ++ e ∷ []) i after
    → length after ≤ length held + length here

-- the books of the edge of node i over a run: how many verdicts were put onto it, how many of them were let go of, and what it holds. Each event
-- enters what the node gives out at it, and what is gone then of what the edge held and got
pub data Books (nodes : List Node) (header : Header) (i : ℕ) : List Event → ℕ → ℕ → List Verdict → Type 0 where
  opened : Books nodes header i [] 0 0 []
  entered : {events : List Event} {put gone : ℕ} {held : List Verdict} (e : Event) (here after : List Verdict) (n : ℕ)
      → Books nodes header i events put gone held → EmittedAt nodes header i (state nodes events) (state nodes (events ++ e ∷ [])) here
      → IsEdge nodes header (events ++ e ∷ []) i after → length held + length here ≡ n + length after
      → Books nodes header i (events ++ e ∷ []) (put + length here) (gone + n) after

-- so the books are right: each verdict that was put is held, or was let go of, once; and over a run few are put, by the rows of the trace so far
abbrev pub BooksAreRight : Type 0
BooksAreRight =
    (nodes : List Node) (header : Header) → IsPostOrder nodes → (events : List Event) → IsRun nodes header events
    → (i : ℕ) → i < length nodes → (put gone : ℕ) (held : List Verdict) → Books nodes header i events put gone held
    → (put ≡ gone + length held) × (put ≤ verdicts_for_a_row (subformula nodes i) * suc (length (state nodes events).rows) + 1)
