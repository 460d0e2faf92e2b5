-- What a streaming network holds: of each node the verdicts that its reader still needs, on an edge that joins some neighbours of one truth
-- joined, and of the root those that were not taken.
use Rattle.std.specs.Prelude.{◌≡◌, ◌≢◌, ◌⊎◌, ℕ, suc, ◌-◌, ◌<◌, Bool, true, false, List, [], ◌∷◌, ◌++◌, length, drop, ℤ, Some, None, slice_get}
use Rattle.rational.specs.Time.{Rational, Interval, IsIn}
use Rattle.stl_syntax.specs.Trace.{Header, first_time}
use Rattle.frac128.specs.Spans.{interval}
use Rattle.online_nodes.specs.Held.{Stand}
use Rattle.online_nodes.specs.Network.{Event, take, Front, IsRun, shown, state, reach_back, needed, Emitted}
use Rattle.stl_syntax.specs.declared.items.Verdict.{Verdict}
use Rattle.stl_syntax.specs.declared.node.Node.{Node}
use Rattle.stl_syntax.specs.declared.node.Node.TheVariants.{Not, And, Or, Implies, Until, Eventually, Always, Since, Once, Historically}

-- node n reads the node at a place, as its left or only child, or as its right one
abbrev pub IsReader : Node → Bool → ℕ → Type 0
IsReader (Not p) true i = p ≡ i
IsReader (And p q) true i = p ≡ i
IsReader (And p q) false i = q ≡ i
IsReader (Or p q) true i = p ≡ i
IsReader (Or p q) false i = q ≡ i
IsReader (Implies p q) true i = p ≡ i
IsReader (Implies p q) false i = q ≡ i
IsReader (Until p q a b) true i = p ≡ i
IsReader (Until p q a b) false i = q ≡ i
IsReader (Since p q a b) true i = p ≡ i
IsReader (Since p q a b) false i = q ≡ i
IsReader (Eventually p a b a_in b_in) true i = p ≡ i
IsReader (Always p a b a_in b_in) true i = p ≡ i
IsReader (Once p a b a_in b_in) true i = p ≡ i
IsReader (Historically p a b a_in b_in) true i = p ≡ i
IsReader n left i = ⊥

-- some time lies in both
abbrev pub Meets : Interval → Verdict → Type 0
Meets stretch v = (t : Rational) × IsIn stretch t × IsIn (interval v.on) t

-- those of the verdicts that meet the stretch
abbrev pub AreMeeting : Interval → List Verdict → List Verdict → Type 0
AreMeeting stretch [] held = held ≡ []
AreMeeting stretch (v ∷ verdicts) held =
    (Meets stretch v × ((more : List Verdict) × AreMeeting stretch verdicts more × (held ≡ v ∷ more)))
    ⊎ ((¬ Meets stretch v) × AreMeeting stretch verdicts held)

-- of the verdicts of a node those that meet the stretch that its reader needs; none before its front is at the start
abbrev pub AreNeeded : ℕ → Front → Front → ℤ → List Verdict → List Verdict → Type 0
AreNeeded start None reader k verdicts held = held ≡ []
AreNeeded start (Some f) reader k verdicts held = AreMeeting (needed start f reader k) verdicts held

-- the segments of node i, which is not the root, that its reader may still need after a run
pub record IsEdge (nodes : List Node) (header : Header) (events : List Event) (i : ℕ) (held : List Verdict) : Type 0 where
  pub reader : ℕ
  pub reading : Node
  pub left : Bool
  pub at_reader : slice_get nodes reader ≡ Some reading
  pub reads : IsReader reading left i
  pub emitted : List Verdict
  pub is_emitted : Emitted nodes header events i emitted
  pub is_needed : AreNeeded (first_time (state nodes events).rows) (shown (state nodes events) i)
      ((state nodes events).fronts reader) (reach_back reading left) emitted held

-- the edge of node i, which is not the root, after a run, by whether it joins: of what the node gave out, as it stands on such an edge, it
-- holds what the reader may still need. An edge that does not join holds the segments that its reader may still need
pub record IsJoinedEdge (nodes : List Node) (header : Header) (events : List Event) (joins : Bool) (i : ℕ) (held : List Verdict) : Type 0 where
  pub reader : ℕ
  pub reading : Node
  pub left : Bool
  pub at_reader : slice_get nodes reader ≡ Some reading
  pub reads : IsReader reading left i
  pub emitted : List Verdict
  pub is_emitted : Emitted nodes header events i emitted
  pub stretches : List Verdict
  pub stand : Stand joins emitted stretches
  pub is_needed : AreNeeded (first_time (state nodes events).rows) (shown (state nodes events) i)
      ((state nodes events).fronts reader) (reach_back reading left) stretches held

-- a take gives the root's next verdict, if there is one; n were taken in all
pub data IsTaken (nodes : List Node) (header : Header) : List Event → ℕ → Type 0 where
  none : IsTaken nodes header [] 0
  other : {events : List Event} {n : ℕ} (e : Event) → e ≢ take → IsTaken nodes header events n → IsTaken nodes header (events ++ e ∷ []) n
  next : {events : List Event} {n : ℕ} (verdicts : List Verdict) → Emitted nodes header events (length nodes - 1) verdicts → n < length verdicts
      → IsTaken nodes header events n → IsTaken nodes header (events ++ take ∷ []) (suc n)
  nothing_left : {events : List Event} {n : ℕ} (verdicts : List Verdict) → Emitted nodes header events (length nodes - 1) verdicts → n ≡ length verdicts
      → IsTaken nodes header events n → IsTaken nodes header (events ++ take ∷ []) n

-- the root's edge after a run
pub record IsRootEdge (nodes : List Node) (header : Header) (events : List Event) (held : List Verdict) : Type 0 where
  pub taken : ℕ
  pub is_taken : IsTaken nodes header events taken
  pub emitted : List Verdict
  pub is_emitted : Emitted nodes header events (length nodes - 1) emitted
  pub is : held ≡ drop taken emitted

-- what an object shows of a network: the front number of each node, whether its edge joins, and what stands there
pub record Shown : Type 0 where
  pub fronts : ℕ → Front
  pub joins : ℕ → Bool
  pub edges : ℕ → List Verdict

-- the object shows what the network has after the run
pub record Shows (nodes : List Node) (header : Header) (net : Shown) (events : List Event) : Type 0 where
  pub fronts : (i : ℕ) → i < length nodes → net.fronts i ≡ (state nodes events).fronts i
  pub edges : (i : ℕ) → suc i < length nodes → IsJoinedEdge nodes header events (net.joins i) i (net.edges i)
  pub root : IsRootEdge nodes header events (net.edges (length nodes - 1))

-- the object stands for the run: it shows what the network has, and `Holds` says of what it keeps beside that, as the last row, the
-- end and the memory of each operator, that it is the run's
pub record StandsFor (Holds : List Event → Type 0) (nodes : List Node) (header : Header) (net : Shown) (events : List Event) : Type 0 where
  pub run : IsRun nodes header events
  pub holds : Holds events
  pub shows : Shows nodes header net events
