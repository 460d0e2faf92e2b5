-- What the edges of a network hold: of each edge what its reader has read and what it has not, and the number noted last.
use Rattle.std.specs.Prelude.{
  ◌≡◌,
  ℕ,
  ◌-◌,
  ◌<◌,
  Bool,
  true,
  false,
  ℤ,
  List,
  [],
  ◌∷◌,
  ◌++◌,
  length,
  drop,
  Option,
  Some,
  None,
  IfSome,
  slice_get,
  slice_index_or,
  slice_set,
}
use Rattle.rational.specs.Rational.{◌≤ʳ◌, ◌<ʳ◌, whole}
use Rattle.node_edges.specs.Members.{PartOf}

-- one edge: the parts that its reader has read and may still need, those that it has not read, the node's number, and whether the
-- edge joins: whether neighbours of which one goes on from the other may be joined there as long as they are not read
pub record Edge (T : Type 0) : Type 0 where
  pub seen : List T
  pub fresh : List T
  pub number : Option ℤ
  pub joins : Bool

-- all edges, the time of the first row, and how many parts can be put with no allocation
pub record Held (T : Type 0) : Type 0 where
  pub edges : List (Edge T)
  pub start : Option ℕ
  pub spare : ℕ

module _ {T : Type 0} where
  -- an edge of a new network
  abbrev pub no_edge : Edge T
  no_edge = record { seen = []; fresh = []; number = None; joins = false }

  abbrev pub edge_at : Held T → ℕ → Edge T
  edge_at e i = slice_index_or e.edges i no_edge

  -- the parts of edge i that its reader has not read
  abbrev pub fresh_at : Held T → ℕ → List T
  fresh_at e i = (edge_at e i).fresh

  -- all parts that an edge holds, in order
  abbrev pub held_of : Edge T → List T
  held_of x = x.seen ++ x.fresh

  abbrev pub held_at : Held T → ℕ → List T
  held_at e i = held_of (edge_at e i)

  -- the number noted last of node i
  abbrev pub number_at : Held T → ℕ → Option ℤ
  number_at e i = (edge_at e i).number

  -- all edges, with this one in the place of edge i
  abbrev pub with_edge : Held T → ℕ → Edge T → List (Edge T)
  with_edge e i x = slice_set e.edges i x

  -- the edge with these parts more at its back
  abbrev pub with_more : Edge T → List T → Edge T
  with_more x more = record { seen = x.seen; fresh = x.fresh ++ more; number = x.number; joins = x.joins }

  -- the edge, which joins from then on
  abbrev pub joining : Edge T → Edge T
  joining x = record { seen = x.seen; fresh = x.fresh; number = x.number; joins = true }

  -- each edge joins where it joined: none begins to, and none ceases to
  abbrev pub JoinsAlike : Held T → Held T → Type 0
  JoinsAlike old new = (i : ℕ) → (edge_at new i).joins ≡ (edge_at old i).joins

  -- the edge once this part, its first fresh one, was read
  abbrev pub with_read : Edge T → T → Edge T
  with_read x v = record { seen = x.seen ++ v ∷ []; fresh = drop 1 x.fresh; number = x.number; joins = x.joins }

  -- the edge without its first n parts
  abbrev pub without : ℕ → Edge T → Edge T
  without n x = record { seen = drop n x.seen; fresh = drop (n - length x.seen) x.fresh; number = x.number; joins = x.joins }

  -- the edge with this number
  abbrev pub with_number : Edge T → ℤ → Edge T
  with_number x n = record { seen = x.seen; fresh = x.fresh; number = Some n; joins = x.joins }

module _ {T : Type 0} (part : PartOf T) where
  -- the stretches are the parts, some neighbours of which one goes on from the other joined
  pub data AreStretches (stretches : List T) : List T → Type 0 where
    as_given : AreStretches stretches stretches
    joined : {v w u : T} (front back : List T) → part.joined v w u → AreStretches stretches (front ++ u ∷ back)
        → AreStretches stretches (front ++ v ∷ w ∷ back)

  -- how parts stand on an edge: where it joins some neighbours may be joined, and else they stand as they were given
  abbrev pub Stand : Bool → List T → List T → Type 0
  Stand false parts stretches = stretches ≡ parts
  Stand true parts stretches = AreStretches stretches parts

  -- the edge has these parts more at its back, where it joins maybe joined with each other and with what was not read
  pub record HasMore (old new : Edge T) (more : List T) : Type 0 where
    pub seen : new.seen ≡ old.seen
    pub fresh : Stand old.joins (old.fresh ++ more) new.fresh
    pub number : new.number ≡ old.number
    pub joins : new.joins ≡ old.joins

  -- what ends by the time `limit` is gone from the front of the edge, and the first part that is left ends later
  pub record IsDroppedBy (limit : ℤ) (old new : Edge T) : Type 0 where
    pub count : ℕ
    pub is : new ≡ without count old
    pub ended : (k : ℕ) → k < count → IfSome (slice_get (held_of old) k) (λ v. part.end v ≤ʳ whole limit)
    pub rest : IfSome (slice_get (held_of new) 0) (λ v. whole limit <ʳ part.end v)
