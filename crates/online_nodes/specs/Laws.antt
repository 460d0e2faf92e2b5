-- Laws of runs and of what stands on edges.
use Rattle.std.specs.Prelude.{◌≡◌, ◌≢◌, ◌↔◌, ℕ, ◌<◌, ◌≤◌, ◌-◌, None, Bool, true, false, List, [], ◌∷◌, ◌++◌}
use Rattle.std.specs.Prelude.{length, drop, slice_get, Some, ℤ, pos, ◌+ℤ◌, ◌-ℤ◌, ◌≤ℤ◌, if◌then◌else◌}
use Rattle.rational.specs.Time.{Rational, ◌≤ʳ◌, left_open, less, whole}
use Rattle.frac128.specs.Value.{value}
use Rattle.frac128.specs.Spans.{interval}
use Rattle.stl_syntax.specs.Trace.{Header, Row, Trace, IsTrace, Continues, first_time, last_time}
use Rattle.stl_syntax.specs.Formula.{Subformula, subformula, horizon, tree_of, HasChildrenBelow}
use Rattle.stl_syntax.specs.PostOrder.{IsPostOrder}
use Rattle.stl_syntax.specs.WellFormed.{AreWellFormed, HasOneRoot}
use Rattle.stl_syntax.specs.Verdicts.{IsTold, AreAlike}
use Rattle.online_nodes.specs.Network.{Event, step, take, close, Front, State, last_row, open_number, state, shown, IsRun, EmittedAt, Emitted, IsReady}
use Rattle.online_nodes.specs.Needed.{AreMeeting, IsTaken, IsEdge, IsJoinedEdge, IsReader, IsRootEdge}
use Rattle.online_nodes.specs.Driven.{IsDriven}
use Rattle.online_nodes.specs.StreamedWide.{front_at}
use Rattle.stl_syntax.specs.declared.items.Verdict.{Verdict}
use Rattle.stl_syntax.specs.declared.node.Node.{Node}
use Rattle.rational.specs.Places.{Place, begins, ends, After, Upto, Before, Same}

-- between two places there is a time
abbrev pub HasTimesBetween : Type 0
HasTimesBetween = (c d : Place) → Before c d → (t : Rational) × After c t × Upto d t

-- the number f of a node with the horizon h: it is at most the last row's time, and before the end f + h is so too
pub record IsBounded (s : State) (h : ℕ) (f : ℤ) : Type 0 where
  pub last : ℤ
  pub is_last : last_row s ≡ Some last
  pub by_now : f ≤ℤ last
  pub ahead : s.closed ≡ false → (f +ℤ pos h) ≤ℤ last

-- in a run, in any order of its events, each node's number stays within what the rows decide
abbrev pub NumbersStayWithinHorizons : Type 0
NumbersStayWithinHorizons =
    (nodes : List Node) (header : Header) → IsPostOrder nodes → (events : List Event) → IsRun nodes header events
    → (i : ℕ) (f : ℤ) → i < length nodes → (state nodes events).fronts i ≡ Some f
    → IsBounded (state nodes events) (horizon (subformula nodes i)) f

-- each of the verdicts is the truth in the trace
abbrev pub AreTold : Subformula → Trace → List Verdict → Type 0
AreTold p tr [] = Unit {0}
AreTold p tr (v ∷ vs) = IsTold p tr v × AreTold p tr vs

-- each verdict that a node gave out in a run is its truth in every trace that goes on from the rows
abbrev pub EmittedStays : Type 0
EmittedStays =
    (nodes : List Node) (header : Header) → IsPostOrder nodes → (events : List Event) → IsRun nodes header events
    → (i : ℕ) → i < length nodes → (verdicts : List Verdict) → Emitted nodes header events i verdicts
    → (tr : Trace) → IsTrace tr → Continues tr header (state nodes events).rows (state nodes events).closed
    → AreTold (subformula nodes i) tr verdicts

-- a step of one node, a take and the end add nothing to what another node gave out
abbrev pub OthersGiveNothing : Type 0
OthersGiveNothing =
    (nodes : List Node) (header : Header) (events : List Event) (i j : ℕ) (verdicts : List Verdict)
    → Emitted nodes header events j verdicts
    → (j ≢ i → Emitted nodes header (events ++ step i ∷ []) j verdicts)
    × Emitted nodes header (events ++ take ∷ []) j verdicts
    × Emitted nodes header (events ++ close ∷ []) j verdicts

-- the verdicts lead from c to d without gap
abbrev pub AreTiles : Place → List Verdict → Place → Type 0
AreTiles c [] d = Same c d
AreTiles c (v ∷ vs) d =
    Same c (begins (interval v.on)) × Before (begins (interval v.on)) (ends (interval v.on))
    × AreTiles (ends (interval v.on)) vs d

-- what is left without the first verdicts that end by lo
abbrev pub beyond : Rational → List Verdict → List Verdict
beyond lo [] = []
beyond lo (v ∷ vs) = if less lo (value v.on.to) then v ∷ vs else beyond lo vs

-- of verdicts that lead to the time f without gap, those that meet what follows lo are what is left when those that end by lo are
-- dropped from the front
abbrev pub MeetingIsWhatIsLeft : Type 0
MeetingIsWhatIsLeft =
    (lo f : Rational) (c : Place) (verdicts : List Verdict) (d : Place) → AreTiles c verdicts d
    → ((t : Rational) → Upto d t → t ≤ʳ f) → AreMeeting (left_open lo f) verdicts (beyond lo verdicts)

-- before the end, a node whose children stand at the last row's time less their horizons may have the last row's time less its own
abbrev pub OpenNumbersSettle : Type 0
OpenNumbersSettle =
    (at : ℕ → Subformula) (s : State) (last : ℤ) (i : ℕ) (n : Node) → last_row s ≡ Some last → HasChildrenBelow i n
    → ((j : ℕ) → j < i → s.fronts j ≡ Some (last -ℤ pos (horizon (at j))))
    → open_number n s ≡ Some (last -ℤ pos (horizon (tree_of at i n)))

-- in the run that a stream drives, the front of each node is the last row's time less the horizon, and that time itself after the end
abbrev pub FrontsAreTimes : Type 0
FrontsAreTimes =
    (nodes : List Node) (header : Header) (rows : List Row) (ended : Bool) (events : List Event) (i : ℕ)
    → IsPostOrder nodes → IsDriven nodes header rows ended events → rows ≢ [] → i < length nodes
    → (state nodes events).fronts i ≡ Some (front_at ended (pos (last_time 0 rows)) (subformula nodes i))

-- where the first number is one, so is the second, and not less
abbrev pub NeverLess : Front → Front → Type 0
NeverLess o q = (f : ℤ) → o ≡ Some f → (g : ℤ) × (q ≡ Some g) × (f ≤ℤ g)

-- in a run no number falls
abbrev pub NumbersNeverFall : Type 0
NumbersNeverFall =
    (nodes : List Node) (header : Header) → IsPostOrder nodes → (events : List Event) (e : Event) → IsRun nodes header (events ++ e ∷ [])
    → (i : ℕ) → i < length nodes → NeverLess ((state nodes events).fronts i) ((state nodes (events ++ e ∷ [])).fronts i)

-- up to where a node is answered whose front is shown so: just after it, or else before the start
abbrev pub answered_to : ℕ → Front → Place
answered_to start None = record { at = whole (pos start); after = false }
answered_to start (Some f) = record { at = whole f; after = true }

-- the verdicts lead from the start to the front that is shown, without gap; where none is, there is no verdict
abbrev pub IsWhole : ℕ → Front → List Verdict → Type 0
IsWhole start None verdicts = verdicts ≡ []
IsWhole start (Some f) verdicts = AreTiles (answered_to start None) verdicts (answered_to start (Some f))

-- what a node gave out in a run is whole, and any two lists of it are alike
abbrev pub EmittedIsWhole : Type 0
EmittedIsWhole =
    (nodes : List Node) (header : Header) → IsPostOrder nodes → (events : List Event) → IsRun nodes header events
    → (i : ℕ) → i < length nodes → (verdicts others : List Verdict) → Emitted nodes header events i verdicts
    → IsWhole (first_time (state nodes events).rows) (shown (state nodes events) i) verdicts
    × (Emitted nodes header events i others → AreAlike verdicts others)

-- no more of the root's verdicts were taken in a run than it gave out
abbrev pub TakenWereGivenOut : Type 0
TakenWereGivenOut =
    (nodes : List Node) (header : Header) (events : List Event) (n : ℕ) (verdicts : List Verdict)
    → IsTaken nodes header events n → Emitted nodes header events (length nodes - 1) verdicts → n ≤ length verdicts

-- of verdicts that lead to the time f without gap: those that meet what follows a later time are what is left of those that met what
-- follows an earlier one, once those that end by then are dropped from the front
abbrev pub MeetingLaterIsWhatIsLeft : Type 0
MeetingLaterIsWhatIsLeft =
    (lo later f : Rational) (c : Place) (verdicts : List Verdict) (d : Place) (held : List Verdict) → lo ≤ʳ later → AreTiles c verdicts d
    → ((t : Rational) → Upto d t → t ≤ʳ f) → AreMeeting (left_open lo f) verdicts held → AreMeeting (left_open later f) verdicts (beyond later held)

-- the segments that a reader needs after one event more: those that it needed, and behind them what the node gave out at that event,
-- where the reader stays where it is
abbrev pub EdgesGrow : Type 0
EdgesGrow =
    (nodes : List Node) (header : Header) → AreWellFormed nodes → (events : List Event) (e : Event) → IsRun nodes header (events ++ e ∷ [])
    → (j : ℕ) → j < length nodes → (held here : List Verdict) → (edge : IsEdge nodes header events j held)
    → (state nodes (events ++ e ∷ [])).fronts edge.reader ≡ (state nodes events).fronts edge.reader
    → EmittedAt nodes header j (state nodes events) (state nodes (events ++ e ∷ [])) here
    → IsEdge nodes header (events ++ e ∷ []) j (held ++ here)

-- an edge that does not join holds the segments that its reader may still need
abbrev pub PlainEdgesHoldSegments : Type 0
PlainEdgesHoldSegments =
    (nodes : List Node) (header : Header) (events : List Event) (j : ℕ) (held : List Verdict)
    → IsJoinedEdge nodes header events false j held ↔ IsEdge nodes header events j held

-- an edge, whether it joins or not, holds no more than the segments that its reader may still need
abbrev pub JoinedAreFew : Type 0
JoinedAreFew =
    (nodes : List Node) (header : Header) → AreWellFormed nodes → (events : List Event) → IsRun nodes header events
    → (j : ℕ) → j < length nodes → (joins : Bool) (held : List Verdict) → IsJoinedEdge nodes header events joins j held
    → (segments : List Verdict) × IsEdge nodes header events j segments × (length held ≤ length segments)

-- the root's edge holds what was not taken: what it held and what the root gave out at one event more, and after a take its first verdict less
abbrev pub RootEdgesGrow : Type 0
RootEdgesGrow =
    (nodes : List Node) (header : Header) → AreWellFormed nodes → (events : List Event) (held here : List Verdict) → IsRootEdge nodes header events held
    → ((e : Event) → e ≢ take → EmittedAt nodes header (length nodes - 1) (state nodes events) (state nodes (events ++ e ∷ [])) here
    → IsRootEdge nodes header (events ++ e ∷ []) (held ++ here))
    × IsRootEdge nodes header (events ++ take ∷ []) (drop 1 held)

-- where no node is ready, each number is the last row's time less the node's horizon, and after the end that time itself
abbrev pub NumbersSettle : Type 0
NumbersSettle =
    (nodes : List Node) (header : Header) → IsPostOrder nodes → (events : List Event) → IsRun nodes header events
    → ((i : ℕ) → i < length nodes → ¬ IsReady nodes (state nodes events) i) → (last : ℤ) → last_row (state nodes events) ≡ Some last
    → (i : ℕ) → i < length nodes → (state nodes events).fronts i ≡ Some (front_at (state nodes events).closed last (subformula nodes i))

-- each node of a formula but the root is the input of just one other node, and the root of none
abbrev pub EachHasOneReader : Type 0
EachHasOneReader =
    (nodes : List Node) → IsPostOrder nodes → HasOneRoot nodes → (j : ℕ) → j < length nodes
    → (j ≢ length nodes - 1 → (r : ℕ) × (n : Node) × (left : Bool) × (slice_get nodes r ≡ Some n) × IsReader n left j)
    × ((r s : ℕ) (n m : Node) (left side : Bool) → slice_get nodes r ≡ Some n → slice_get nodes s ≡ Some m → IsReader n left j → IsReader m side j
    → (r ≡ s) × (j ≢ length nodes - 1))
