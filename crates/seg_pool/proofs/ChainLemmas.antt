-- What a chain of cells says of its first and its last cell, and when it stays as it was.
use Rattle.std.proofs.Common.{◌≡◌, ◌≢◌, ℕ, zero, suc, ◌+◌, ◌≤◌, ◌∷◌, length, Some, refl, sym, ap, ◌∙◌, arith}
use Rattle.slab.specs.Slab.{Slab, get, ContainsKey}
use Rattle.seg_pool.specs.declared.Cell.{Cell}
use Rattle.seg_pool.specs.Chain.{Labels, items_from, IsChain}

module _ {T : Type 0} where
  -- the cell at the end of a list
  pub record IsEnd (cells : Slab (Cell T)) (labels : Labels) (list last low : ℕ) : Type 0 where
    -- the last cell
    pub cell : Cell T
    -- it is in the slab
    pub found : get cells last ≡ Some cell
    -- and of the list
    pub owned : labels.owner last ≡ list
    -- at its place or after it
    pub placed : low ≤ labels.place last

  -- what stays as it was at a key
  pub record KeepsKey (cells now : Slab (Cell T)) (labels labels' : Labels) (key : ℕ) : Type 0 where
    -- the cell stays
    pub slot : get now key ≡ get cells key
    -- and its list
    pub owner : labels'.owner key ≡ labels.owner key
    -- and its place
    pub place : labels'.place key ≡ labels.place key

  -- each key of a list, from a place on, stays as it was
  pub record KeepsList (cells now : Slab (Cell T)) (labels labels' : Labels) (list low : ℕ) : Type 0 where
    -- every cell of the chain stays
    pub at : (key : ℕ) (cell : Cell T) → get cells key ≡ Some cell → labels.owner key ≡ list → low ≤ labels.place key
        → KeepsKey cells now labels labels' key

  -- the items from a key on begin with that of its cell
  pub items_from-found : (cells : Slab (Cell T)) (n key : ℕ) (cell : Cell T) → get cells key ≡ Some cell
      → items_from cells (suc n) key ≡ cell.item ∷ items_from cells n cell.next
  items_from-found cells n key cell found = rw (found, items_from) refl

  module _ (cells : Slab (Cell T)) (labels : Labels) (list last : ℕ) where
    -- a chain's first key has a cell
    pub first_present : (n low key : ℕ) → (n ≡ 0 → ⊥) → IsChain cells labels list last n low key → ContainsKey cells key
    first_present zero low key some chain = absurd (some refl)
    first_present (suc n) low key some chain = rw chain.1 refl

    -- a chain comes to its last key
    pub end_of : (n low key : ℕ) → IsChain cells labels list last (suc n) low key → IsEnd cells labels list last low
    end_of zero low key chain =
        let here : key ≡ last = chain.4 refl in
        let level : labels.place key ≡ labels.place last = ap labels.place here in
        record {
          cell = chain.0;
          found = ap (get cells) (sym here) ∙ chain.1;
          owned = ap labels.owner (sym here) ∙ chain.2;
          placed = omega (arith, chain.3);
        }
    end_of (suc n) low key chain =
        let later = end_of n (labels.place key + 1) chain.0.next chain.5 in
        record {
          cell = later.cell;
          found = later.found;
          owned = later.owned;
          placed = omega (arith, chain.3, later.placed);
        }

    -- a chain of two items or more does not begin with its last key
    pub not_end : (n low key : ℕ) → IsChain cells labels list last (suc (suc n)) low key → key ≢ last
    not_end n low key chain same =
        let later = end_of n (labels.place key + 1) chain.0.next chain.5 in
        let level : labels.place key ≡ labels.place last = ap labels.place same in
        omega (arith, later.placed)

    -- a chain may start at any lower place
    pub chain_from_lower : (n low lower key : ℕ) → lower ≤ low → IsChain cells labels list last n low key
        → IsChain cells labels list last n lower key
    chain_from_lower zero low lower key below chain = tt
    chain_from_lower (suc n) low lower key below chain =
        (chain.0, chain.1, chain.2, omega (arith, chain.3), chain.4, chain.5)

    -- a chain of n cells has n items
    pub length-items_from : (n low key : ℕ) → IsChain cells labels list last n low key → length (items_from cells n key) ≡ n
    length-items_from zero low key chain = refl
    length-items_from (suc n) low key chain =
        ap length (items_from-found cells n key chain.0 chain.1)
        ∙ ap suc (length-items_from n (labels.place key + 1) chain.0.next chain.5)

    module _ (now : Slab (Cell T)) (labels' : Labels) where
      -- what holds from a place on holds from any later one
      keeps_later : (low later : ℕ) → low ≤ later → KeepsList cells now labels labels' list low
          → KeepsList cells now labels labels' list later
      keeps_later low later above keeps =
          record { at = λ key cell found owned placed. keeps.at key cell found owned (omega arith) }

      -- a chain whose keys stay as they were is a chain
      pub kept_chain : (n low key : ℕ) → KeepsList cells now labels labels' list low → IsChain cells labels list last n low key
          → IsChain now labels' list last n low key
      kept_chain zero low key keeps chain = tt
      kept_chain (suc n) low key keeps chain =
          let kept = keeps.at key chain.0 chain.1 chain.2 chain.3 in
          let later = keeps_later low (labels.place key + 1) (omega (arith, chain.3)) keeps in
          let rest : IsChain now labels' list last n (labels.place key + 1) chain.0.next = kept_chain n (labels.place key + 1)
          chain.0.next later chain.5 in (
            chain.0,
            kept.slot ∙ chain.1,
            kept.owner ∙ chain.2,
            rw kept.place chain.3,
            chain.4,
            rw kept.place rest,
          )

      -- and has the same items
      pub kept_items : (n low key : ℕ) → KeepsList cells now labels labels' list low → IsChain cells labels list last n low key
          → items_from now n key ≡ items_from cells n key
      kept_items zero low key keeps chain = refl
      kept_items (suc n) low key keeps chain =
          let kept = keeps.at key chain.0 chain.1 chain.2 chain.3 in
          let later = keeps_later low (labels.place key + 1) (omega (arith, chain.3)) keeps in
          items_from-found now n key chain.0 (kept.slot ∙ chain.1)
          ∙ ap (λ items. chain.0.item ∷ items) (kept_items n (labels.place key + 1) chain.0.next later chain.5)
          ∙ sym (items_from-found cells n key chain.0 chain.1)
