-- How a change of one list in the slab shows in the lists that a caller sees.
use Rattle.std.proofs.Common.{◌≡◌, ◌≢◌, ◌⊎◌, ℕ, suc, ◌<◌, List, [], ◌∷◌, length, get_or, set, sum_by, refl, sym, ap, ◌∙◌}
use Rattle.std.proofs.Common.{inl, inr, arith}
use Rattle.std.proofs.Math.ListN.{get_or-map as get_or-map_default}
use Rattle.std.proofs.lemmas.Bool.{cases_eq}
use Rattle.std.proofs.lemmas.List.{ext_get_or, get_or_default, get_or-set_same, get_or-set_other, length-map, length-set, map-set}
use Rattle.std.proofs.lemmas.List.Sums.{sum_by-cons}
use Rattle.slab.specs.Slab.{Slab}
use Rattle.seg_pool.specs.declared.Cell.{Cell}
use Rattle.seg_pool.specs.declared.Ends.{Ends}
use Rattle.seg_pool.specs.Chain.{Labels, no_ends, items_from, lists_of, IsListed}
use Rattle.seg_pool.proofs.ChainLemmas.{KeepsList, kept_chain, kept_items}

-- a list's number has these ends
pub record HasEnds (ends : List Ends) (list : ℕ) (read : Ends) : Type 0 where
  -- the list is one of the pool
  pub within : list < length ends
  -- its ends were read
  pub is : get_or ends list no_ends ≡ read

-- a read of what was written
get_or-set_at : {X : Type 0} (xs : List X) (k i : ℕ) (x d : X) → k ≡ i → k < length xs → get_or (set xs i x) k d ≡ x
get_or-set_at xs k i x d here below = rw here (get_or-set_same xs i x d (omega arith))

-- two lists that differ at one place alone are equal once the same is written there
set-same_others : {X : Type 0} (xs ys : List X) (i : ℕ) (x d : X) → length xs ≡ length ys
    → ((k : ℕ) → k ≢ i → get_or xs k d ≡ get_or ys k d) → set xs i x ≡ set ys i x
set-same_others {X} xs ys i x d long others =
    ext_get_or d (set xs i x) (set ys i x) (simp length-set long)
    (λ k below. each k (omega (arith, length-set xs i x)) (cases_eq k i))
  where
    each : (k : ℕ) → k < length xs → (k ≡ i) ⊎ (k ≢ i) → get_or (set xs i x) k d ≡ get_or (set ys i x) k d
    each k below (inl here) = get_or-set_at xs k i x d here below ∙ sym (get_or-set_at ys k i x d here (omega arith))
    each k below (inr other) = get_or-set_other xs i k x d other ∙ others k other ∙ sym (get_or-set_other ys i k x d other)

module _ {T : Type 0} where
  -- the items of the list with these ends
  abbrev pub items_of : Slab (Cell T) → Ends → List T
  items_of cells ends = items_from cells ends.len ends.first

  -- the ends that were read at the number of one of a pool's lists
  pub ends_read : (cells : Slab (Cell T)) (ends : List Ends) (list : ℕ) (read : Ends) → list < length (lists_of cells ends)
      → read ≡ get_or ends list read → HasEnds ends list read
  ends_read cells ends list read below found =
      let within : list < length ends = omega (arith, length-map ends (items_of cells)) in
      record { within = within; is = get_or_default ends list no_ends read within ∙ sym found }

  -- a list's items, as a caller reads them
  pub list_at_ends : (cells : Slab (Cell T)) (ends : List Ends) (list : ℕ)
      → get_or (lists_of cells ends) list [] ≡ items_of cells (get_or ends list no_ends)
  list_at_ends cells ends list = get_or-map_default (items_of cells) ends list no_ends

  -- one list has these ends and items now, and every other list is as it was
  pub record ChangesList (cells now : Slab (Cell T)) (ends : List Ends) (list : ℕ) (ends' : Ends) (items : List T) : Type 0 where
    -- the owners and places after the change
    pub labels : Labels
    -- the list is sound
    pub listed : IsListed now labels list ends'
    -- and has these items
    pub items_are : items_of now ends' ≡ items
    -- the other lists are sound
    pub others : (other : ℕ) → other ≢ list → IsListed now labels other (get_or ends other no_ends)
    -- and have the items that they had
    pub others_items : (other : ℕ) → other ≢ list
        → items_of now (get_or ends other no_ends) ≡ items_of cells (get_or ends other no_ends)

  -- such a change, where the keys of every other list stay as they were
  pub changes_list : (cells now : Slab (Cell T)) (ends : List Ends) (list : ℕ) (ends' : Ends) (items : List T) (labels labels' : Labels)
      → ((other : ℕ) → IsListed cells labels other (get_or ends other no_ends)) → IsListed now labels' list ends'
      → items_of now ends' ≡ items → ((other : ℕ) → other ≢ list → KeepsList cells now labels labels' other 0)
      → ChangesList cells now ends list ends' items
  changes_list cells now ends list ends' items labels labels' was listed items_are keeps =
      record {
        labels = labels';
        listed = listed;
        items_are = items_are;
        others = λ other differs. kept_chain cells labels other _ now labels' _ 0 _ (keeps other differs) (was other);
        others_items = λ other differs. kept_items cells labels other _ now labels' _ 0 _ (keeps other differs) (was other);
      }

  -- a caller sees that one list changed
  pub lists_changed : {cells now : Slab (Cell T)} {ends : List Ends} {list : ℕ} {ends' : Ends} {items : List T}
      → ChangesList cells now ends list ends' items → lists_of now (set ends list ends') ≡ set (lists_of cells ends) list items
  lists_changed {cells} {now} {ends} {list} {ends'} {items} changes =
      map-set (items_of now) ends list ends'
      ∙ ap (set (lists_of now ends) list) changes.items_are
      ∙ set-same_others (lists_of now ends) (lists_of cells ends) list items [] (simp length-map)
      (λ k other. list_at_ends now ends k ∙ changes.others_items k other ∙ sym (list_at_ends cells ends k))

  -- after the change every list lies in the slab
  pub listed_again : {cells now : Slab (Cell T)} {ends : List Ends} {list : ℕ} {ends' : Ends} {items : List T}
      → list < length ends → (changes : ChangesList cells now ends list ends' items) → (other : ℕ)
      → IsListed now changes.labels other (get_or (set ends list ends') other no_ends)
  listed_again {cells} {now} {ends} {list} {ends'} {items} within changes other =
      elim (cases_eq other list) [
        | inl here ↦ rw (here, get_or-set_same ends list ends' no_ends within) changes.listed
        | inr differs ↦ rw (get_or-set_other ends list other ends' no_ends differs) (changes.others other differs)
      ]

  -- all lists together have as many items as their ends say
  pub sum-lengths : (cells : Slab (Cell T)) (ends : List Ends)
      → ((list : ℕ) → length (items_of cells (get_or ends list no_ends)) ≡ (get_or ends list no_ends).len)
      → sum_by length (lists_of cells ends) ≡ sum_by (λ e. e.len) ends
  sum-lengths cells [] each = refl
  sum-lengths cells (head ∷ rest) each =
      let here : length (items_of cells head) ≡ head.len = each 0 in
      let later : sum_by length (lists_of cells rest) ≡ sum_by (λ e. e.len) rest = sum-lengths cells rest (λ k. each (suc k)) in
      simp sum_by-cons cc
