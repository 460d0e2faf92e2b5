-- What a sound pool tells of its lists, and when it is sound again.
use Rattle.std.proofs.Common.{◌≡◌, ℕ, zero, suc, ◌+◌, ◌<◌, ◌≤◌, List, [], length, get_or, set, slice_get, Option, Some, None}
use Rattle.std.proofs.Common.{is_some, cond, sum_by, refl, sym, ap, ◌∙◌, arith}
use Rattle.std.proofs.lemmas.List.{length-set}
use Rattle.std.proofs.lemmas.List.Sums.{sum_by-set}
use Rattle.slab.specs.Slab.{Slab, get, ContainsKey, slab_len, with_value}
use Rattle.slab.proofs.SlabLemmas.{ContainsKey-within}
use Rattle.seg_pool.specs.declared.Cell.{Cell}
use Rattle.seg_pool.specs.declared.Ends.{Ends}
use Rattle.seg_pool.specs.Chain.{no_ends, linked, pointing, items_from, lists_of, IsListed, IsSound}
use Rattle.seg_pool.proofs.ChainLemmas.{IsEnd, first_present, end_of, items_from-found, length-items_from, kept_chain}
use Rattle.seg_pool.proofs.ListsLemmas.{HasEnds, ChangesList, items_of, list_at_ends, listed_again, sum-lengths}

module _ {T : Type 0} where
  -- a write at a key with a value keeps the count
  slab_len-with_value : (cells : Slab (Cell T)) (key : ℕ) (cell value : Cell T) → get cells key ≡ Some cell
      → slab_len (with_value cells key value) ≡ slab_len cells
  slab_len-with_value cells key cell value found =
      let within = ContainsKey-within cells key (rw found refl) in
      let counted = sum_by-set (λ slot. cond (is_some slot) 1 0) cells.slots key (Some value) None within in
      omega (arith, rw found at counted)

  -- a link keeps the count and the capacity
  pub pointing_keeps : (cells : Slab (Cell T)) (len last key : ℕ)
      → (slab_len (pointing cells len last key) ≡ slab_len cells) × ((pointing cells len last key).capacity ≡ cells.capacity)
  pointing_keeps cells zero last key = (refl, refl)
  pointing_keeps cells (suc n) last key = by_slot (get cells last) refl
    where
      by_slot : (slot : Option (Cell T)) → get cells last ≡ slot
          → (slab_len (linked cells last slot key) ≡ slab_len cells) × ((linked cells last slot key).capacity ≡ cells.capacity)
      by_slot None found = (refl, refl)
      by_slot (Some cell) found = (slab_len-with_value cells last cell _ found, refl)

module _ {T : Type 0} {cells : Slab (Cell T)} {ends : List Ends} {spare : ℕ} (sound : IsSound cells ends spare) where
  -- all lists together have as many items as the slab has values
  pub live_is : slab_len cells ≡ sum_by length (lists_of cells ends)
  live_is = sound.counted
      ∙ sym (sum-lengths cells ends (λ list. length-items_from cells sound.labels list _ _ 0 _ (sound.listed list)))

  -- a slab with the same slots holds the same lists
  pub sound-same_slots : (now : Slab (Cell T)) (spare' : ℕ) → now.slots ≡ cells.slots → slab_len now + spare' ≤ now.capacity
      → IsSound now ends spare'
  sound-same_slots now spare' same room =
      record {
        labels = sound.labels;
        listed = λ list. kept_chain cells sound.labels list _ now sound.labels _ 0 _
            (record { at = λ key cell found owned placed. record { slot = rw same; owner = refl; place = refl } })
            (sound.listed list);
        counted = rw same sound.counted;
        room = room;
        few = sound.few;
      }

module _ {T : Type 0} {cells : Slab (Cell T)} {ends : List Ends} {spare list : ℕ} {read : Ends} (sound : IsSound cells ends spare)
    (has : HasEnds ends list read) where
  -- the list with these ends lies in the slab
  listed_at : IsListed cells sound.labels list read
  listed_at = rw has.is at (sound.listed list)

  -- the items of the list with these ends
  pub items_at : get_or (lists_of cells ends) list [] ≡ items_of cells read
  items_at = list_at_ends cells ends list ∙ ap (items_of cells) has.is

  -- a list of length 0 is empty
  pub empty_at : read.len ≡ 0 → get_or (lists_of cells ends) list [] ≡ []
  empty_at none = items_at ∙ ap (λ n. items_from cells n read.first) none

  -- a list has as many items as its length says
  pub length-items_at : length (get_or (lists_of cells ends) list []) ≡ read.len
  length-items_at = ap length items_at ∙ length-items_from cells sound.labels list read.last read.len 0 read.first listed_at

  -- the first cell of a list that is not empty
  pub front_present : (read.len ≡ 0 → ⊥) → ContainsKey cells read.first
  front_present some = first_present cells sound.labels list read.last read.len 0 read.first some listed_at

  -- the last cell of a list that is not empty
  pub back_of : 0 < read.len → IsEnd cells sound.labels list read.last 0
  back_of some = by_len read.len some listed_at
    where
      by_len : (len : ℕ) → 0 < len → IsListed cells sound.labels list (record read { len = len })
          → IsEnd cells sound.labels list read.last 0
      by_len zero some chain = absurd (omega arith)
      by_len (suc n) some chain = end_of cells sound.labels list read.last n 0 read.first chain

  -- the first item of a list that is not empty
  pub front_is : {cell : Cell T} → (read.len ≡ 0 → ⊥) → get cells read.first ≡ Some cell
      → slice_get (get_or (lists_of cells ends) list []) 0 ≡ Some cell.item
  front_is {cell} some first = ap (λ items. slice_get items 0) items_at ∙ by_len read.len some
    where
      by_len : (len : ℕ) → (len ≡ 0 → ⊥) → slice_get (items_from cells len read.first) 0 ≡ Some cell.item
      by_len zero some = absurd (some refl)
      by_len (suc n) some = ap (λ items. slice_get items 0) (items_from-found cells n read.first cell first)

  -- after a change of one list the pool is sound again
  pub sound-changed : {now : Slab (Cell T)} {ends' : Ends} {items : List T} (spare' : ℕ)
      → ChangesList cells now ends list ends' items → slab_len now + read.len ≡ slab_len cells + ends'.len
      → slab_len now + spare' ≤ now.capacity → IsSound now (set ends list ends') spare'
  sound-changed {now} {ends'} {items} spare' changes counts room =
      let sums = sum_by-set (λ e. e.len) ends list ends' no_ends has.within in
      let at_list = ap (λ e. e.len) has.is in
      record {
        labels = changes.labels;
        listed = listed_again has.within changes;
        counted = omega (arith, sound.counted);
        room = room;
        few = omega (arith, length-set ends list ends', sound.few);
      }
