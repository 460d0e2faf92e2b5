-- A list without its first item.
use Rattle.std.proofs.Common.{◌≡◌, ◌≢◌, ℕ, zero, suc, ◌+◌, ◌-◌, List, [], drop, get_or, set, Some, None, refl, sym, ap, ◌∙◌}
use Rattle.std.proofs.Common.{arith}
use Rattle.std.proofs.lemmas.List.{set-get_or}
use Rattle.slab.specs.Slab.{Slab, get, Updates}
use Rattle.seg_pool.specs.declared.Cell.{Cell}
use Rattle.seg_pool.specs.declared.Ends.{Ends}
use Rattle.seg_pool.specs.Chain.{Labels, items_from, IsChain, IsListed, IsSound}
use Rattle.seg_pool.proofs.ChainLemmas.{KeepsList, items_from-found, kept_chain, kept_items, chain_from_lower}
use Rattle.seg_pool.proofs.ListsLemmas.{HasEnds, ChangesList, changes_list, items_of}

-- to drop the first item of an empty list changes nothing
pub nothing_popped : {T : Type 0} (all : List (List T)) (list : ℕ) → get_or all list [] ≡ []
    → set all list (drop 1 (get_or all list [])) ≡ all
nothing_popped all list empty = ap (λ items. set all list (drop 1 items)) empty ∙ ap (set all list) (sym empty)
    ∙ set-get_or all list []

module _ {T : Type 0} (cells now : Slab (Cell T)) (labels : Labels) (list first : ℕ) (removed : Updates cells now first None)
  where
    -- the items behind the one that was removed are as they were
    behind_removed : KeepsList cells now labels labels list (labels.place first + 1)
    behind_removed =
        record {
          at = λ key cell found owned placed.
              let other : key ≢ first = λ same. let level : labels.place key ≡ labels.place first = ap labels.place same in
              omega arith in
              record { slot = removed.others key other; owner = refl; place = refl };
        }

    -- every list but that of the removed item is as it was
    beside_removed : (other : ℕ) → other ≢ list → labels.owner first ≡ list → KeepsList cells now labels labels other 0
    beside_removed other differs owned_first =
        record {
          at = λ key cell found owned placed.
              record {
                slot = removed.others key (λ same. differs (sym owned ∙ ap labels.owner same ∙ owned_first));
                owner = refl;
                place = refl;
              };
        }

module _ {T : Type 0} {cells now : Slab (Cell T)} {ends : List Ends} {spare list : ℕ} {read : Ends} {cell : Cell T}
    (sound : IsSound cells ends spare) (has : HasEnds ends list read) where
  -- what a removal of a list's first item changes
  pub popped : (read.len ≡ 0 → ⊥) → get cells read.first ≡ Some cell → Updates cells now read.first None
      → ChangesList cells now ends list (record { first = cell.next; last = read.last; len = read.len - 1 }) (drop 1 (items_of cells read))
  popped some found removed = by_len read.len some (rw has.is at (sound.listed list))
    where
      by_len : (len : ℕ) → (len ≡ 0 → ⊥) → IsListed cells sound.labels list (record read { len = len })
          → ChangesList cells now ends list (record { first = cell.next; last = read.last; len = len - 1 }) (drop 1 (items_from cells len read.first))
      by_len zero some chain = absurd (some refl)
      by_len (suc n) some chain =
          let low = sound.labels.place read.first + 1 in
          let same : chain.0 ≡ cell = let first_cell = chain.1 in cc in
          let keeps = behind_removed cells now sound.labels list read.first removed in
          let rest : IsChain cells sound.labels list read.last n low cell.next = rw same at chain.5 in
          let now_rest = kept_chain cells sound.labels list read.last now sound.labels n low cell.next keeps rest in
          let fewer : suc n - 1 ≡ n = omega arith in
          changes_list cells now ends list _ _ sound.labels sound.labels sound.listed
          (rw fewer (chain_from_lower now sound.labels list read.last n low 0 cell.next (omega arith) now_rest))
          (rw (fewer, items_from-found cells n read.first cell found)
          (kept_items cells sound.labels list read.last now sound.labels n low cell.next keeps rest))
          (λ other differs. beside_removed cells now sound.labels list read.first removed other differs chain.2)
