-- Runs of the streaming network, in any order of its events, and what they answer.
use Rattle.std.specs.Prelude.{◌≡◌, ℕ, ◌<◌, Bool, true, false, ◌&&◌, not, if◌then◌else◌, List, [], ◌∷◌, ◌++◌, length, ℤ, pos}
use Rattle.std.specs.Prelude.{◌+ℤ◌, ◌<ℤ◌, int_lt, neg_ℤ, Option, Some, None, ◌==◌, slice_index_or, IfSome, MatchBool}
use Rattle.rational.specs.Time.{whole, Interval, closed, left_open}
use Rattle.stl_syntax.specs.Trace.{Header, Row, first_time, last_time}
use Rattle.stl_syntax.specs.Formula.{subformula}
use Rattle.stl_syntax.specs.Verdicts.{Describes}
use Rattle.stl_syntax.specs.declared.items.Verdict.{Verdict}
use Rattle.stl_syntax.specs.PostOrder.{children}
use Rattle.stl_syntax.specs.declared.node.Node.{Node}
use Rattle.stl_syntax.specs.declared.node.Node.TheVariants.{Const, Atom as Leaf, Not, And, Or, Implies, Until, Eventually, Always, Since, Once, Historically}

-- a row arrives, a node steps, the input ends, or a verdict of the root is taken
pub data Event : Type 0 where
  row : Row → Event
  step : ℕ → Event
  close : Event
  take : Event

-- a front number, or nothing
abbrev pub Front : Type 0
Front = Option ℤ

-- the least front; nothing where one is nothing
abbrev pub least : Front → Front → Front
least None g = None
least (Some f) None = None
least (Some f) (Some g) = if int_lt g f then Some g else Some f

-- a front moved by k
abbrev pub moved_by : ℤ → Front → Front
moved_by k None = None
moved_by k (Some f) = Some (f +ℤ k)

-- the rows so far, whether Close came, and the front number of each place
pub record State : Type 0 where
  pub rows : List Row
  pub closed : Bool
  pub fronts : ℕ → Front

-- the time of the last row
abbrev pub last_row : State → Front
last_row s = time_of s.rows
  where
    time_of : List Row → Front
    time_of [] = None
    time_of (r ∷ rows) = Some (pos (last_time r.time rows))

-- the number that a node may have by those of its children, before the end is known
abbrev pub open_number : Node → State → Front
open_number (Const b) s = last_row s
open_number (Leaf a) s = last_row s
open_number (Not p) s = s.fronts p
open_number (And p q) s = least (s.fronts p) (s.fronts q)
open_number (Or p q) s = least (s.fronts p) (s.fronts q)
open_number (Implies p q) s = least (s.fronts p) (s.fronts q)
open_number (Until p q a b) s = moved_by (neg_ℤ (pos b)) (least (s.fronts p) (s.fronts q))
open_number (Eventually p a b a_in b_in) s = moved_by (neg_ℤ (pos b)) (s.fronts p)
open_number (Always p a b a_in b_in) s = moved_by (neg_ℤ (pos b)) (s.fronts p)
open_number (Since p q a b) s = least (s.fronts p) (moved_by (pos a) (s.fronts q))
open_number (Once p a b a_in b_in) s = least (moved_by (pos a) (s.fronts p)) (last_row s)
open_number (Historically p a b a_in b_in) s = least (moved_by (pos a) (s.fronts p)) (last_row s)

-- both are nothing, or one number
abbrev pub same_front : Front → Front → Bool
same_front None None = true
same_front None (Some g) = false
same_front (Some f) None = false
same_front (Some f) (Some g) = not (int_lt f g) && not (int_lt g f)

-- all these places stand at the last row's time
abbrev pub all_at_end : State → List ℕ → Bool
all_at_end s [] = true
all_at_end s (i ∷ places) = same_front (s.fronts i) (last_row s) && all_at_end s places

-- the node's allowed number
abbrev pub allowed : Node → State → Front
allowed n s = if s.closed && all_at_end s (children n) then last_row s else open_number n s

-- the node is an atom
abbrev pub is_atom : Node → Bool
is_atom (Leaf a) = true
is_atom _ = false

-- the node at a place is an atom
abbrev pub node_is_atom : List Node → ℕ → Bool
node_is_atom nodes i = is_atom (slice_index_or nodes i (Const false))

-- the allowed number of the node at a place
abbrev pub allowed_at : List Node → State → ℕ → Front
allowed_at nodes s i = allowed (slice_index_or nodes i (Const false)) s

-- the state before any event
abbrev pub initial : State
initial = record { rows = []; closed = false; fronts = λ i. None }

-- the state after one more event
abbrev pub after_event : List Node → State → Event → State
after_event nodes s (row r) =
    record { rows = s.rows ++ r ∷ []; closed = s.closed; fronts = λ i. if node_is_atom nodes i then Some (pos r.time) else s.fronts i }
after_event nodes s (step i) = record { rows = s.rows; closed = s.closed; fronts = λ j. if j == i then allowed_at nodes s i else s.fronts j }
after_event nodes s close = record { rows = s.rows; closed = true; fronts = s.fronts }
after_event nodes s take = s

-- the state after the events, from state s on
abbrev pub state_from : List Node → State → List Event → State
state_from nodes s [] = s
state_from nodes s (e ∷ events) = state_from nodes (after_event nodes s e) events

-- the state after a run
unfoldable pub state : List Node → List Event → State
state nodes events = state_from nodes initial events

-- an event may come: a row has a value for each column, is later than the last one and comes before the end; the end comes after a
-- row, once; a step is of a node that is no atom
abbrev pub MayCome : List Node → Header → State → Event → Type 0
MayCome nodes header s (row r) = (s.closed ≡ false) × IfSome (last_row s) (λ f. f <ℤ pos r.time) × (length r.values ≡ length header.columns)
MayCome nodes header s (step i) = (i < length nodes) × (node_is_atom nodes i ≡ false)
MayCome nodes header s close = (s.closed ≡ false) × (last_row s ≡ None → ⊥)
MayCome nodes header s take = Unit {0}

-- the events may come in this order, from state s on
abbrev pub IsRunFrom : List Node → Header → State → List Event → Type 0
IsRunFrom nodes header s [] = Unit {0}
IsRunFrom nodes header s (e ∷ events) = MayCome nodes header s e × IsRunFrom nodes header (after_event nodes s e) events

-- the events are a run
abbrev pub IsRun : List Node → Header → List Event → Type 0
IsRun nodes header events = IsRunFrom nodes header initial events

-- what `front` shows: the number, unless it lies below the start
abbrev pub shown : State → ℕ → Front
shown s i = from_start (s.fronts i)
  where
    from_start : Front → Front
    from_start None = None
    from_start (Some f) = if int_lt f (pos (first_time s.rows)) then None else Some f

-- a step would change the node's number
abbrev pub IsReady : List Node → State → ℕ → Type 0
IsReady nodes s i = (node_is_atom nodes i ≡ false) × (allowed_at nodes s i ≡ s.fronts i → ⊥)

-- the stretch that is answered by a move of the front from `old` to `new`: from the start, or after the old front
abbrev pub answered : ℕ → Front → ℤ → Interval
answered start None new = closed (whole (pos start)) (whole new)
answered start (Some old) new = left_open (whole old) (whole new)

-- the verdicts that node i gives out where its front moves from that of the old state to that of the new
abbrev pub EmittedAt : List Node → Header → ℕ → State → State → List Verdict → Type 0
EmittedAt nodes header i old new verdicts = by_front (shown new i)
  where
    by_front : Front → Type 0
    by_front None = verdicts ≡ []
    by_front (Some f) =
        MatchBool (same_front (shown old i) (Some f)) (verdicts ≡ [])
        (Describes verdicts (subformula nodes i) (record { header = header; rows = new.rows }) (answered (first_time new.rows) (shown old i) f))

-- the verdicts that node i gives out over the events, from state s on
abbrev pub EmittedFrom : List Node → Header → ℕ → State → List Event → List Verdict → Type 0
EmittedFrom nodes header i s [] verdicts = verdicts ≡ []
EmittedFrom nodes header i s (e ∷ events) verdicts =
    (here later : List Verdict) × EmittedAt nodes header i s (after_event nodes s e) here
    × EmittedFrom nodes header i (after_event nodes s e) events later × (verdicts ≡ here ++ later)

-- the verdicts that node i gives out over a run
abbrev pub Emitted : List Node → Header → List Event → ℕ → List Verdict → Type 0
Emitted nodes header events i verdicts = EmittedFrom nodes header i initial events verdicts

-- by how much a reader looks back or ahead from its front, at its left child or another one
abbrev pub reach_back : Node → Bool → ℤ
reach_back (Until p q a b) true = pos 0
reach_back (Until p q a b) false = pos a
reach_back (Eventually p a b a_in b_in) left = pos a
reach_back (Always p a b a_in b_in) left = pos a
reach_back (Since p q a b) left = neg_ℤ (pos (from_bound a b))
  where
    from_bound : ℕ → Option ℕ → ℕ
    from_bound a None = a
    from_bound a (Some b) = b
reach_back (Once p a None a_in b_in) left = neg_ℤ (pos a)
reach_back (Once p a (Some b) a_in b_in) left = neg_ℤ (pos b)
reach_back (Historically p a None a_in b_in) left = neg_ℤ (pos a)
reach_back (Historically p a (Some b) a_in b_in) left = neg_ℤ (pos b)
reach_back _ left = pos 0

-- the stretch of a child with the number F that its reader, at the number g, still needs: it ends at F, and begins after g + k but not before S
abbrev pub needed : ℕ → ℤ → Front → ℤ → Interval
needed start f None k = closed (whole (pos start)) (whole f)
needed start f (Some g) k =
    if int_lt g (pos start) then closed (whole (pos start)) (whole f)
    else if int_lt (g +ℤ k) (pos start) then closed (whole (pos start)) (whole f)
    else left_open (whole (g +ℤ k)) (whole f)
