-- A list with one more item at its back.
use Rattle.std.proofs.Common.{◌≡◌, ◌≢◌, ℕ, zero, suc, ◌+◌, ◌<◌, ◌≤◌, List, [], ◌∷◌, ◌++◌, Some, None, cond, eqb, refl, sym, ap}
use Rattle.std.proofs.Common.{◌∙◌, arith, add-one, eq-eqb}
use Rattle.std.proofs.lemmas.Bool.{ne_eqb}
use Rattle.slab.specs.Slab.{Slab, get, Updates, with_value}
use Rattle.slab.proofs.SlabLemmas.{Updates-with_value}
use Rattle.seg_pool.specs.declared.Cell.{Cell}
use Rattle.seg_pool.specs.declared.Ends.{Ends}
use Rattle.seg_pool.specs.Chain.{Labels, extended, linked, pointing, items_from, IsChain, IsListed, IsSound}
use Rattle.seg_pool.proofs.ChainLemmas.{KeepsKey, IsEnd, items_from-found, end_of, not_end}
use Rattle.seg_pool.proofs.ListsLemmas.{HasEnds, ChangesList, changes_list, items_of}

-- the function with another value at a key
unfoldable pub relabel : (ℕ → ℕ) → ℕ → ℕ → ℕ → ℕ
relabel f key value k = cond (eqb k key) value (f k)

relabel-same : (f : ℕ → ℕ) (key value : ℕ) → relabel f key value key ≡ value
unfolding relabel
relabel-same f key value = rw (eq-eqb key key refl) refl

relabel-other : (f : ℕ → ℕ) (key value k : ℕ) → k ≢ key → relabel f key value k ≡ f k
unfolding relabel
relabel-other f key value k other = rw (ne_eqb k key other) refl

-- the labels with a new key of a list, at this place
abbrev pub labelled : Labels → ℕ → ℕ → ℕ → Labels
labelled labels key list place = record { owner = relabel labels.owner key list; place = relabel labels.place key place }

module _ {T : Type 0} where
  -- the cell of an item
  abbrev pub cell_of : T → ℕ → Cell T
  cell_of item next = record { item = item; next = next }

  -- a key with a cell is not a vacant one
  not_vacant : (cells : Slab (Cell T)) (key other : ℕ) (cell : Cell T) → get cells key ≡ None → get cells other ≡ Some cell
      → other ≢ key
  not_vacant cells key other cell vacant found same =
      let there : get cells other ≡ get cells key = ap (get cells) same in
      absurd (cc)

  -- a key with a cell that stays as it was, while a vacant key gets a label
  keeps_labelled : (cells now : Slab (Cell T)) (labels : Labels) (key list place k : ℕ) (cell : Cell T) → get cells key ≡ None
      → get cells k ≡ Some cell → get now k ≡ get cells k → KeepsKey cells now labels (labelled labels key list place) k
  keeps_labelled cells now labels key list place k cell vacant found slot =
      let other = not_vacant cells key k cell vacant found in
      record {
        slot = slot;
        owner = relabel-other labels.owner key list k other;
        place = relabel-other labels.place key place k other;
      }

  -- a list's last cell has a new key behind it, and every other cell is as it was
  pub record IsPushed (cells now : Slab (Cell T)) (labels labels' : Labels) (list last key : ℕ) (added : Cell T) : Type 0 where
    -- the cell that was last
    pub back : Cell T
    -- where it stood
    pub was_back : get cells last ≡ Some back
    -- it points to the new one
    pub now_back : get now last ≡ Some (cell_of back.item key)
    -- it is of the list still
    pub back_owned : labels'.owner last ≡ list
    -- at its place
    pub back_placed : labels'.place last ≡ labels.place last
    -- the new cell
    pub fresh : get now key ≡ Some added
    -- it is of the list
    pub owned : labels'.owner key ≡ list
    -- behind the one that was last
    pub placed : labels.place last < labels'.place key
    -- every other cell stays
    pub others : (k : ℕ) (cell : Cell T) → k ≢ last → get cells k ≡ Some cell → KeepsKey cells now labels labels' k

  module _ (cells now : Slab (Cell T)) (labels labels' : Labels) (list last key : ℕ) (added : Cell T)
      (pushed : IsPushed cells now labels labels' list last key added) where
    -- the list's chain is longer by one
    grown_chain : (n low k : ℕ) → IsChain cells labels list last (suc n) low k → IsChain now labels' list key (suc (suc n)) low k
    grown_chain zero low k chain =
        let here : k ≡ last = chain.4 refl in
        let level : labels.place k ≡ labels.place last = ap labels.place here in
        let above : low ≤ labels'.place last = omega (arith, chain.3, pushed.back_placed) in
        let tail : IsChain now labels' list key 1 (labels'.place last + 1) key =
        (added, pushed.fresh, pushed.owned, omega (arith, pushed.placed, pushed.back_placed), λ _. refl, tt) in
        rw here (cell_of pushed.back.item key, pushed.now_back, pushed.back_owned, above, λ e. absurd (omega (arith, e)), tail)
    grown_chain (suc n) low k chain =
        let kept = pushed.others k chain.0 (not_end cells labels list last n low k chain) chain.1 in
        let tail : IsChain now labels' list key (suc (suc n)) (labels.place k + 1) chain.0.next = grown_chain n
        (labels.place k + 1) chain.0.next chain.5 in (
          chain.0,
          kept.slot ∙ chain.1,
          kept.owner ∙ chain.2,
          rw kept.place chain.3,
          λ e. absurd (omega (arith, e)),
          rw kept.place tail,
        )

    -- and so is its list of items
    grown_items : (n low k : ℕ) → IsChain cells labels list last (suc n) low k
        → items_from now (suc (suc n)) k ≡ items_from cells (suc n) k ++ added.item ∷ []
    grown_items zero low k chain =
        let here : k ≡ last = chain.4 refl in
        rw here (
        items_from-found now 1 last _ pushed.now_back
        ∙ ap (λ items. pushed.back.item ∷ items) (items_from-found now 0 key _ pushed.fresh)
        ∙ sym (ap (λ items. items ++ added.item ∷ []) (items_from-found cells 0 last _ pushed.was_back))
        )
    grown_items (suc n) low k chain =
        let kept = pushed.others k chain.0 (not_end cells labels list last n low k chain) chain.1 in
        items_from-found now (suc (suc n)) k chain.0 (kept.slot ∙ chain.1)
        ∙ ap (λ items. chain.0.item ∷ items) (grown_items n (labels.place k + 1) chain.0.next chain.5)
        ∙ sym (ap (λ items. items ++ added.item ∷ []) (items_from-found cells (suc n) k chain.0 chain.1))

-- every cell is as it was after an insertion
pub inserted_keeps : {T : Type 0} {cells inserted : Slab (Cell T)} {key : ℕ} {added : Cell T} → get cells key ≡ None
    → Updates cells inserted key (Some added) → (k : ℕ) (cell : Cell T) → get cells k ≡ Some cell
    → get inserted k ≡ get cells k
inserted_keeps {cells = cells} {key = key} vacant updates k cell found = updates.others k
    (not_vacant cells key k cell vacant found)

module _ {T : Type 0} {cells inserted : Slab (Cell T)} {ends : List Ends} {spare key : ℕ} {added : Cell T} (list : ℕ)
    (sound : IsSound cells ends spare) (vacant : get cells key ≡ None)
    (updates : Updates cells inserted key (Some added)) where
  -- the first item of a list that was empty
  pushed_first : (first last : ℕ)
      → ChangesList cells inserted ends list (extended (record { first = first; last = last; len = 0 }) key) (added.item ∷ [])
  pushed_first first last =
      changes_list cells inserted ends list _ _ sound.labels (labelled sound.labels key list 0) sound.listed
      (added, updates.changed, relabel-same sound.labels.owner key list, omega arith, λ _. refl, tt)
      (items_from-found inserted 0 key _ updates.changed)
      (λ other differs. record {
        at = λ k cell found owned placed. keeps_labelled cells inserted sound.labels key list 0 k cell vacant
            found (inserted_keeps vacant updates k cell found);
      })

  -- the insertion and the link from the list's last cell
  linked_pushed : (now : Slab (Cell T)) (last : ℕ) → IsEnd cells sound.labels list last 0
      → now ≡ linked inserted last (get inserted last) key
      → IsPushed cells now sound.labels (labelled sound.labels key list (sound.labels.place last + 1)) list last key added
  linked_pushed now last back is_linked =
      let found : get inserted last ≡ Some back.cell = inserted_keeps vacant updates last back.cell back.found ∙ back.found in
      let other = not_vacant cells key last back.cell vacant back.found in
      let is_now : now ≡ with_value inserted last (cell_of back.cell.item key) = rw found at is_linked in
      let changes : Updates inserted now last (Some (cell_of back.cell.item key)) = rw is_now
      (Updates-with_value inserted last _ (rw found refl)) in
      let new_place = relabel-same sound.labels.place key (sound.labels.place last + 1) in
      record {
        back = back.cell;
        was_back = back.found;
        now_back = changes.changed;
        back_owned = relabel-other sound.labels.owner key list last other ∙ back.owned;
        back_placed = relabel-other sound.labels.place key (sound.labels.place last + 1) last other;
        fresh = changes.others key (λ same. other (sym same)) ∙ updates.changed;
        owned = relabel-same sound.labels.owner key list;
        placed = omega arith;
        others = λ k cell differs known. keeps_labelled cells now sound.labels key list (sound.labels.place last + 1) k cell
            vacant known (changes.others k differs ∙ inserted_keeps vacant updates k cell known);
      }

  -- one more item behind others
  pushed_behind : (now : Slab (Cell T)) (n first last : ℕ)
      → IsListed cells sound.labels list (record { first = first; last = last; len = suc n })
      → now ≡ linked inserted last (get inserted last) key
      → ChangesList cells now ends list (extended (record { first = first; last = last; len = suc n }) key) (items_from cells
      (suc n) first ++ added.item ∷ [])
  pushed_behind now n first last chain is_linked =
      let back = end_of cells sound.labels list last n 0 first chain in
      let pushed = linked_pushed now last back is_linked in
      let labels' = labelled sound.labels key list (sound.labels.place last + 1) in
      changes_list cells now ends list _ _ sound.labels labels' sound.listed
      (rw (add-one (suc n)) (grown_chain cells now sound.labels labels' list last key added pushed n 0 first chain))
      (rw (add-one (suc n)) (grown_items cells now sound.labels labels' list last key added pushed n 0 first chain))
      (λ other differs. record {
        at = λ k cell found owned placed. pushed.others k cell (λ same. differs
            (sym owned ∙ ap sound.labels.owner same ∙ back.owned)) found;
      })

  -- what an insertion and the link to it change
  pub pushed : {now : Slab (Cell T)} {read : Ends} → HasEnds ends list read → now ≡ pointing inserted read.len read.last key
      → ChangesList cells now ends list (extended read key) (items_of cells read ++ added.item ∷ [])
  pushed {now} {read} has is_pointing = by_len read.len (rw has.is at (sound.listed list)) is_pointing
    where
      by_len : (len : ℕ) → IsListed cells sound.labels list (record read { len = len })
          → now ≡ pointing inserted len read.last key
          → ChangesList cells now ends list (extended (record read { len = len }) key) (items_from cells len read.first ++ added.item ∷ [])
      by_len zero chain is_pointing = rw is_pointing (pushed_first read.first read.last)
      by_len (suc n) chain is_pointing = pushed_behind now n read.first read.last chain is_pointing
