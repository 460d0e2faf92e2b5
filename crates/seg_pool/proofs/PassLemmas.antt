-- The first item of one list moved behind the last one of another.
use Rattle.std.proofs.Common.{◌≡◌, ◌≢◌, ℕ, zero, suc, ◌+◌, ◌-◌, ◌<◌, ◌≤◌, List, [], ◌∷◌, ◌++◌, take, drop, length, get_or, set}
use Rattle.std.proofs.Common.{Some, None, is_some, cond, sum_by, refl, sym, ap, ◌∙◌, arith}
use Rattle.std.proofs.lemmas.List.{get_or_default, get_or-set_other, length-map, length-set}
use Rattle.std.proofs.lemmas.List.Sums.{sum_by-set, get_or-le-sum_by}
use Rattle.slab.specs.Slab.{Slab, get, slab_len, ContainsKey, Updates}
use Rattle.slab.proofs.SlabLemmas.{Updates-set, ContainsKey-within}
use Rattle.seg_pool.specs.declared.Cell.{Cell}
use Rattle.seg_pool.specs.declared.Ends.{Ends}
use Rattle.seg_pool.specs.Chain.{no_ends, extended, pointing, items_from, lists_of, IsSound}
use Rattle.seg_pool.proofs.ChainLemmas.{items_from-found}
use Rattle.seg_pool.proofs.ListsLemmas.{HasEnds, ChangesList, lists_changed, items_of}
use Rattle.seg_pool.proofs.PopLemmas.{popped}
use Rattle.seg_pool.proofs.PushLemmas.{pushed}
use Rattle.seg_pool.proofs.SoundLemmas.{back_of, items_at, pointing_keeps, sound-changed}

-- all lists, with the first item of one moved behind the last one of another
abbrev pub moved : {T : Type 0} → List (List T) → ℕ → ℕ → List (List T)
moved all from to = set (set all from (drop 1 (get_or all from []))) to (get_or all to [] ++ take 1 (get_or all from []))

-- a list has no more items than all lists together
within_sum : (ends : List Ends) (list : ℕ) (read : Ends) → HasEnds ends list read → read.len ≤ sum_by (λ e. e.len) ends
within_sum ends list read has =
    let here = get_or-le-sum_by (λ e. e.len) ends list no_ends has.within in omega (arith, rw has.is at here)

-- the ends that were read at the number of a list once other ends were written at a number
pub ends_read_after : {T : Type 0} (cells : Slab (Cell T)) (ends : List Ends) (at list : ℕ) (written read : Ends)
    → list < length (lists_of cells ends) → read ≡ get_or (set ends at written) list read → HasEnds (set ends at written) list read
ends_read_after cells ends at list written read below found =
    let within : list < length (set ends at written) = omega (arith, length-map ends (items_of cells), length-set ends at written) in
    record { within = within; is = get_or_default (set ends at written) list no_ends read within ∙ sym found }

module _ {T : Type 0} {cells : Slab (Cell T)} {ends : List Ends} {spare from : ℕ} {read : Ends} {cell : Cell T}
    (sound : IsSound cells ends spare) (has : HasEnds ends from read) (some : read.len ≡ 0 → ⊥)
    (found : get cells read.first ≡ Some cell) where
  -- the ends of the first list without its first item
  abbrev rest : Ends
  rest = record { first = cell.next; last = read.last; len = read.len - 1 }

  -- the slab without that item
  abbrev between : Slab (Cell T)
  between = record cells { slots = set cells.slots read.first None }

  -- the item leaves the slab
  leaves : Updates cells between read.first None
  leaves = Updates-set cells between read.first None (ContainsKey-within cells read.first (rw found refl)) refl

  -- it comes back under its key
  comes_back : Updates between cells read.first (Some cell)
  comes_back = record { changed = found; others = λ other differs. sym (leaves.others other differs) }

  -- the slab without it has a value less
  fewer : slab_len between + 1 ≡ slab_len cells
  fewer =
      let counted = sum_by-set (λ slot. cond (is_some slot) 1 0) cells.slots read.first None None
      (ContainsKey-within cells read.first (rw found refl)) in
      omega (arith, rw found at counted)

  -- the first list without its first item
  left : ChangesList cells between ends from rest (drop 1 (items_of cells read))
  left = popped sound has some found leaves

  -- the pool without it is sound
  sound_between : IsSound between (set ends from rest) spare
  sound_between = sound-changed sound has spare left (omega (arith, fewer, some)) (omega (arith, fewer, sound.room))

  -- the items that move
  taken : take 1 (get_or (lists_of cells ends) from []) ≡ cell.item ∷ []
  taken = ap (take 1) (items_at sound has) ∙ by_len read.len some
    where
      by_len : (len : ℕ) → (len ≡ 0 → ⊥) → take 1 (items_from cells len read.first) ≡ cell.item ∷ []
      by_len zero some = absurd (some refl)
      by_len (suc n) some = ap (take 1) (items_from-found cells n read.first cell found)

  module _ {to : ℕ} {target : Ends} (has_to : HasEnds (set ends from rest) to target) where
    -- the last cell of the other list, where it has one
    pub back_of_target : 0 < target.len → ContainsKey cells target.last
    back_of_target items =
        let back = back_of sound_between has_to items in
        let other : target.last ≢ read.first = λ same. let vacant = leaves.changed in let at = ap (get between) same in
        let there = back.found in absurd (cc) in
        rw (sym (leaves.others target.last other) ∙ back.found) refl

    -- there is room to count one more item in it
    pub target_fits : target.len + 1 ≤ slab_len cells
    target_fits = omega (arith, fewer, sound_between.counted, within_sum (set ends from rest) to target has_to)

    module _ {now : Slab (Cell T)} (linked : now ≡ pointing cells target.len target.last read.first) where
      -- the other list with the item behind its last one
      joined : ChangesList between now (set ends from rest) to (extended target read.first) (items_of between target ++ cell.item ∷ [])
      joined = pushed to sound_between leaves.changed comes_back has_to linked

      -- the pool is sound again
      pub sound-moved : IsSound now (set (set ends from rest) to (extended target read.first)) spare
      sound-moved =
          let kept = pointing_keeps cells target.len target.last read.first in
          let count : slab_len now ≡ slab_len cells = ap slab_len linked ∙ kept.0 in
          let capacity : now.capacity ≡ cells.capacity = ap (λ s. s.capacity) linked ∙ kept.1 in
          sound-changed sound_between has_to spare joined (omega (arith, count, fewer)) (omega (arith, count, capacity, sound.room))

      -- and a caller sees that the item moved
      pub lists_moved : to ≢ from
          → lists_of now (set (set ends from rest) to (extended target read.first)) ≡ moved (lists_of cells ends) from to
      lists_moved apart =
          let all = lists_of cells ends in
          let was : lists_of between (set ends from rest) ≡ set all from (drop 1 (get_or all from [])) = lists_changed left
          ∙ ap (λ items. set all from (drop 1 items)) (sym (items_at sound has)) in
          let had : items_of between target ≡ get_or all to [] = sym (items_at sound_between has_to)
          ∙ ap (λ lists. get_or lists to []) was
          ∙ get_or-set_other all from to (drop 1 (get_or all from [])) [] apart in
          lists_changed joined
          ∙ ap (λ lists. set lists to (items_of between target ++ cell.item ∷ [])) was
          ∙ ap (λ items. set (set all from (drop 1 (get_or all from []))) to (items ++ cell.item ∷ [])) had
          ∙ ap (λ items. set (set all from (drop 1 (get_or all from []))) to (get_or all to [] ++ items)) (sym taken)
