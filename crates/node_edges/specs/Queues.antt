-- How the edges of a network lie: what is at hand in a ring, and what lies before it in blocks of a pool. No public clause cites it.
use Rattle.std.specs.Prelude.{◌≡◌, ◌≢◌, ◌+◌, ◌*◌, ◌<◌, ◌≤◌, ℕ, suc, false, List, [], ◌∷◌, ◌++◌, None, IfSome, length, slice_get, take, drop, slice_index_or}
use Rattle.std.specs.VecDeque.{deque_capacity}
use Rattle.std.specs.declared.alloc.Global.{Global}
use Rattle.std.specs.declared.collections.VecDeque.{VecDeque}
use Rattle.rational.specs.Rational.{Rational, ◌≤ʳ◌}
use Rattle.node_edges.specs.Members.{PartOf}
use Rattle.node_edges.specs.Held.{Edge, held_of, without}
use Rattle.node_edges.specs.declared.queue.Queue.{Queue}
use Rattle.node_edges.specs.declared.far.Far.{Far}
use Rattle.node_edges.specs.declared.far.Track.{Track}

-- the lists of an edge in the pool: the blocks that were read whole, and those that wait. Before all of them stands that of the idle
-- blocks
abbrev pub seen_list : ℕ → ℕ
seen_list edge = 2 * edge + 1

abbrev pub waiting_list : ℕ → ℕ
waiting_list edge = 2 * edge + 2

-- parts in one ring
abbrev pub Block : Type 0 → Type 0
Block T = VecDeque T Global

module _ {T : Type 0} where
  -- the edge that a queue stands for
  abbrev pub edge_of : Queue T → Edge T
  edge_of q = record { seen = take q.read q.items.items; fresh = drop q.read q.items.items; number = q.number; joins = q.joins }

  -- no more was read than there is, and there is room for `spare` parts more
  pub record IsQueue (spare : ℕ) (q : Queue T) : Type 0 where
    pub read : q.read ≤ length q.items.items
    pub room : spare + length q.items.items ≤ deque_capacity q.items

  -- the parts of blocks, one block after the other
  abbrev pub flat : List (Block T) → List T
  flat [] = []
  flat (b ∷ bs) = b.items ++ flat bs

  -- no block is empty
  abbrev pub AreFilled : List (Block T) → Type 0
  AreFilled [] = Unit {0}
  AreFilled (b ∷ bs) = (0 < length b.items) × AreFilled bs

  abbrev pub list_of : List (List (Block T)) → ℕ → List (Block T)
  list_of all list = slice_index_or all list []

  -- the part of an edge that lies in blocks: of the first block some parts are gone, and of the first one that waits some were read
  abbrev pub far_of : List (Block T) → List (Block T) → Far → Edge T
  far_of old waiting far = record {
    seen = drop far.gone (flat old ++ take far.begun (flat waiting));
    fresh = drop far.begun (flat waiting);
    number = None;
    joins = false;
  }

  -- that of edge i
  abbrev pub far_at : List (List (Block T)) → ℕ → Far → Edge T
  far_at all i far = far_of (list_of all (seen_list i)) (list_of all (waiting_list i)) far

  -- so many are fewer than the first block has; none, where there is no block
  abbrev pub BeginsIn : ℕ → List (Block T) → Type 0
  BeginsIn n [] = n ≡ 0
  BeginsIn n (b ∷ bs) = n < length b.items

  -- the same of what is gone, which without a block that was read whole is at most what was read of the first that waits
  abbrev pub GoneIn : ℕ → ℕ → List (Block T) → Type 0
  GoneIn gone begun [] = gone ≤ begun
  GoneIn gone begun (b ∷ bs) = gone < length b.items

  -- the counts are right
  pub record IsFar (old waiting : List (Block T)) (far : Far) : Type 0 where
    pub begun : BeginsIn far.begun waiting
    pub gone : GoneIn far.gone far.begun old
    pub seen : far.seen + far.gone ≡ length (flat old) + far.begun
    pub waits : far.waits + far.begun ≡ length (flat waiting)
    pub few : far.seen + far.waits ≤ 4611686018427387904
    pub filled : AreFilled old × AreFilled waiting

  -- the lists of edge i are there, and the counts are right
  pub record IsFarAt (all : List (List (Block T))) (i : ℕ) (far : Far) : Type 0 where
    pub lists : waiting_list i < length all
    pub fits : i < 2147483647
    pub is : IsFar (list_of all (seen_list i)) (list_of all (waiting_list i)) far

  -- blocks of edge i went to other lists, and those of the other edges are where they were
  pub record HasMoved (i : ℕ) (all all' : List (List (Block T))) : Type 0 where
    pub lists : length all' ≡ length all
    pub others : (k : ℕ) → k ≢ 0 → k ≢ seen_list i → k ≢ waiting_list i → list_of all' k ≡ list_of all k

  -- all but the idle blocks are where they were
  pub record HasKept (all all' : List (List (Block T))) : Type 0 where
    pub lists : length all' ≡ length all
    pub others : (k : ℕ) → k ≢ 0 → list_of all' k ≡ list_of all k

  -- the first of the blocks
  abbrev pub first_blocks : List (Block T) → List (Block T) → List (Block T)
  first_blocks [] waiting = waiting
  first_blocks (b ∷ bs) waiting = b ∷ bs

  -- the first block has so many
  abbrev pub HasSoMany : ℕ → List (Block T) → Type 0
  HasSoMany n [] = n ≡ 0
  HasSoMany n (b ∷ bs) = n ≤ length b.items

  -- one edge before another
  abbrev pub behind : Edge T → Edge T → Edge T
  behind far x = record { seen = far.seen ++ x.seen; fresh = far.fresh ++ x.fresh; number = x.number; joins = x.joins }

  -- edge i, which lies in a track
  abbrev pub track_at : List (List (Block T)) → ℕ → Track T → Edge T
  track_at all i t = behind (far_at all i t.far) (edge_of t.near)

  -- what is at hand begins unread as long as parts in blocks wait to be read, and is there then
  pub record IsTrack (all : List (List (Block T))) (i : ℕ) (t : Track T) : Type 0 where
    pub far : IsFarAt all i t.far
    pub near : IsQueue 0 t.near
    pub apart : 0 < t.far.waits → (t.near.read ≡ 0) × (0 < length t.near.items.items)

  -- the edges from edge i on
  abbrev pub edges_from : List (List (Block T)) → ℕ → List (Track T) → List (Edge T)
  edges_from all i [] = []
  edges_from all i (t ∷ ts) = track_at all i t ∷ edges_from all (suc i) ts

  -- all lists are there, each edge lies in its track, and each has room for `spare` parts at hand
  pub record AreTracks (all : List (List (Block T))) (ts : List (Track T)) (spare : ℕ) : Type 0 where
    pub lists : length all ≡ 2 * length ts + 1
    pub few : length ts ≤ 2147483647
    pub each : (i : ℕ) (d : Track T) → i < length ts → IsTrack all i (slice_index_or ts i d)
    pub room : (i : ℕ) (d : Track T) → i < length ts → IsQueue spare (slice_index_or ts i d).near

-- some parts are gone from the front of an edge, each of which ends by a time
pub record HasGone {T : Type 0} (part : PartOf T) (end : Rational) (old new : Edge T) : Type 0 where
  pub count : ℕ
  pub within : count ≤ length (held_of old)
  pub is : new ≡ without count old
  pub ended : (k : ℕ) → k < count → IfSome (slice_get (held_of old) k) (λ v. part.end v ≤ʳ end)
