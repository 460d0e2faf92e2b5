-- What a node's step does to the edges: it reads on in its inputs' edges and puts verdicts onto its own.
use Rattle.std.specs.Prelude.{Some, slice_get, ◌<◌, ◌≡◌, ◌≢◌, ℕ, ◌+◌, ◌≤◌, List, drop, length}
use Rattle.stl_syntax.specs.declared.items.Verdict.{Verdict}
use Rattle.online_nodes.specs.Held.{Edge, Held, edge_at, held_of, with_edge, with_more, with_read}

-- some verdicts that were not read are read now; the edge holds what it held
pub record IsReadOn (old new : Edge) : Type 0 where
  pub read : ℕ
  pub held : held_of new ≡ held_of old
  pub fresh : new.fresh ≡ drop read old.fresh
  pub number : new.number ≡ old.number
  pub joins : new.joins ≡ old.joins

-- a node's edge `own` got the verdicts, each for one of the spare places; of its inputs' edges, `left` and `right`, some verdicts were
-- read; nothing else changed
pub record HasWorked (old new : Held) (own left right : ℕ) (more : List Verdict) : Type 0 where
  pub count : length new.edges ≡ length old.edges
  pub got : edge_at new own ≡ with_more (edge_at old own) more
  pub left_read : IsReadOn (edge_at old left) (edge_at new left)
  pub right_read : IsReadOn (edge_at old right) (edge_at new right)
  pub others : (j : ℕ) → j ≢ own → j ≢ left → j ≢ right → edge_at new j ≡ edge_at old j
  pub start : new.start ≡ old.start
  pub spare : old.spare ≤ new.spare + length more

-- a verdict of edge i was read
pub record HasPassed (old new : Held) (i : ℕ) (v : Verdict) : Type 0 where
  pub within : i < length old.edges
  pub first : slice_get (edge_at old i).fresh 0 ≡ Some v
  pub edges : new.edges ≡ with_edge old i (with_read (edge_at old i) v)
  pub start : new.start ≡ old.start
  pub spare : old.spare ≤ new.spare
