-- How a pool's lists lie in its slab. No public clause cites this module.
use Rattle.std.specs.Prelude.{
  ◌≡◌,
  ℕ,
  zero,
  suc,
  ◌+◌,
  ◌<◌,
  ◌≤◌,
  ◌^◌,
  List,
  [],
  ◌∷◌,
  length,
  map,
  Option,
  Some,
  None,
  sum_by,
  slice_index_or,
}
use Rattle.slab.specs.Slab.{Slab, get, slab_len, with_value}
use Rattle.seg_pool.specs.declared.Cell.{Cell}
use Rattle.seg_pool.specs.declared.Ends.{Ends}

-- which list each key belongs to, and its place in that list. No code holds them: a proof needs only
-- that there are some
pub record Labels : Type 0 where
  pub owner : ℕ → ℕ
  pub place : ℕ → ℕ

-- the ends of an empty list
abbrev pub no_ends : Ends
no_ends = record { first = 0; last = 0; len = 0 }

-- the key of a list's first item, once an item under a new key is behind `len` others
abbrev pub first_key : ℕ → ℕ → ℕ → ℕ
first_key zero first key = key
first_key (suc n) first key = first

-- the ends with one more item, under this key, at the back
abbrev pub extended : Ends → ℕ → Ends
extended ends key = record { first = first_key ends.len ends.first key; last = key; len = ends.len + 1 }

module _ {T : Type 0} where
  -- the item under `before` has this key behind it
  abbrev pub linked : Slab (Cell T) → ℕ → Option (Cell T) → ℕ → Slab (Cell T)
  linked cells before None key = cells
  linked cells before (Some cell) key = with_value cells before (record cell { next = key })

  -- the last of `len` items has this key behind it
  abbrev pub pointing : Slab (Cell T) → ℕ → ℕ → ℕ → Slab (Cell T)
  pointing cells zero last key = cells
  pointing cells (suc n) last key = linked cells last (get cells last) key

  -- the items of so many cells from this key on
  abbrev pub items_from : Slab (Cell T) → ℕ → ℕ → List T
  items_from cells zero key = []
  items_from cells (suc n) key =
      elim (get cells key) [ None ↦ [] | Some cell ↦ cell.item ∷ items_from cells n cell.next ]

  -- the items of each list
  abbrev pub lists_of : Slab (Cell T) → List Ends → List (List T)
  lists_of cells ends = map (λ e. items_from cells e.len e.first) ends

  module _ (cells : Slab (Cell T)) (labels : Labels) (list last : ℕ) where
    -- from this key on there are so many items of the list, at places that rise from `low` on, and
    -- then the list ends
    abbrev pub IsChain : ℕ → ℕ → ℕ → Type 0
    IsChain zero low key = Unit {0}
    IsChain (suc n) low key =
        (cell : Cell T) × (get cells key ≡ Some cell) × (labels.owner key ≡ list)
        × (low ≤ labels.place key) × (n ≡ 0 → key ≡ last)
        × IsChain n (labels.place key + 1) cell.next

  -- a list's items lie from its first key to its last
  abbrev pub IsListed : Slab (Cell T) → Labels → ℕ → Ends → Type 0
  IsListed cells labels list ends = IsChain cells labels list ends.last ends.len 0 ends.first

  -- under some labels each list lies in the slab, which holds nothing else. Since a key has one
  -- label, no two lists share a key, and no list comes to a key twice
  pub record IsSound (cells : Slab (Cell T)) (ends : List Ends) (spare : ℕ) : Type 0 where
    pub labels : Labels
    pub listed : (list : ℕ) → IsListed cells labels list (slice_index_or ends list no_ends)
    pub counted : slab_len cells ≡ sum_by (λ e. e.len) ends
    pub room : slab_len cells + spare ≤ cells.capacity
    pub few : length ends < 2 ^ 32
