-- Lists that stand in blocks: where a stretch of one stands, and what becomes of the list as its blocks change.
use Rattle.std.proofs.Common.{◌≡◌, refl, sym, ap, subst, ◌∙◌, ℕ, zero, suc, ◌+◌, ◌-◌, ◌<◌, ◌≤◌, List, [], ◌∷◌, ◌++◌, Some, None, length, take}
use Rattle.std.proofs.Common.{drop, append_assoc, arith}
use Rattle.std.specs.Prelude.{slice_get, slice_set, slice_index_or, insert, remove}
use Rattle.std.specs.Prelude.{◌^◌}
use Rattle.std.proofs.lemmas.List.{append-nil, length-append, length-set, set-append_left, take-append-le}
use Rattle.std.proofs.lemmas.Option.{same_Some, slice_get_read, slice_get_within}
use Rattle.rational.specs.Places.{Place}
use Rattle.rational.proofs.Lists.{slice_get_there, slice_get-append_front}
use Rattle.growing_sets.specs.Spans.{AreTidy, EndBefore, NoneEndsBefore}
use Rattle.growing_sets.specs.Listed.{joined, IsSpot, IsCounted}
use Rattle.growing_sets.specs.declared.stretch.Stretch.{Stretch}
use Rattle.growing_sets.specs.declared.stretches.Block.{Block}
use Rattle.growing_sets.specs.declared.stretches.Spot.{Spot}
use Rattle.growing_sets.proofs.SpanLemmas.{no_stretch, reaches_at, rest_more}

-- none is no block
no_block : (p : Block) → None ≡ Some p → ⊥
no_block p e = cc

-- the list is what the blocks before one have, then what that one has, then what those after it have
pub joined_at : (ps : List Block) (k : ℕ) (p : Block) → slice_get ps k ≡ Some p
    → joined ps ≡ joined (take k ps) ++ (p.ring.items ++ joined (drop (suc k) ps))
joined_at [] k p e = absurd (no_block p e)
joined_at (q ∷ qs) zero p e = ap (λ (r : Block). r.ring.items ++ joined qs) (same_Some q p e)
joined_at (q ∷ qs) (suc k) p e =
    ap (λ xs. q.ring.items ++ xs) (joined_at qs k p e)
    ∙ sym (append_assoc q.ring.items (joined (take k qs)) (p.ring.items ++ joined (drop (suc k) qs)))

-- with another block there, it has what that one has between them
pub joined_set : (ps : List Block) (k : ℕ) (p q : Block) → slice_get ps k ≡ Some p
    → joined (slice_set ps k q) ≡ joined (take k ps) ++ (q.ring.items ++ joined (drop (suc k) ps))
joined_set [] k p q e = absurd (no_block p e)
joined_set (r ∷ rs) zero p q e = refl
joined_set (r ∷ rs) (suc k) p q e =
    ap (λ xs. r.ring.items ++ xs) (joined_set rs k p q e)
    ∙ sym (append_assoc r.ring.items (joined (take k rs)) (q.ring.items ++ joined (drop (suc k) rs)))

-- with one that has the same, the list is the same
pub joined_same : (ps : List Block) (k : ℕ) (p q : Block) → slice_get ps k ≡ Some p → q.ring.items ≡ p.ring.items → joined (slice_set ps k q) ≡ joined ps
joined_same ps k p q e s =
    joined_set ps k p q e ∙ ap (λ xs. joined (take k ps) ++ (xs ++ joined (drop (suc k) ps))) s ∙ sym (joined_at ps k p e)

-- those up to a block have what those before it have, and then what it has
pub taken : (ps : List Block) (k : ℕ) (p : Block) → slice_get ps k ≡ Some p → joined (take (suc k) ps) ≡ joined (take k ps) ++ p.ring.items
taken [] k p e = absurd (no_block p e)
taken (q ∷ qs) zero p e = append-nil q.ring.items ∙ ap (λ (r : Block). r.ring.items) (same_Some q p e)
taken (q ∷ qs) (suc k) p e = ap (λ xs. q.ring.items ++ xs) (taken qs k p e) ∙ sym (append_assoc q.ring.items (joined (take k qs)) p.ring.items)

-- those from a block on have what it has, and then what those after it have
pub dropped : (ps : List Block) (k : ℕ) (p : Block) → slice_get ps k ≡ Some p → joined (drop k ps) ≡ p.ring.items ++ joined (drop (suc k) ps)
dropped [] k p e = absurd (no_block p e)
dropped (q ∷ qs) zero p e = ap (λ (r : Block). r.ring.items ++ joined qs) (same_Some q p e)
dropped (q ∷ qs) (suc k) p e = dropped qs k p e

-- those up to a block are as many as those before it and its own
pub taken_count : (ps : List Block) (k : ℕ) (p : Block) → slice_get ps k ≡ Some p
    → length (joined (take (suc k) ps)) ≡ length (joined (take k ps)) + length p.ring.items
taken_count ps k p e = ap (λ xs. length xs) (taken ps k p e) ∙ length-append (joined (take k ps)) p.ring.items

-- those from a block on are as many as its own and those behind it
pub dropped_count : (ps : List Block) (k : ℕ) (p : Block) → slice_get ps k ≡ Some p
    → length (joined (drop k ps)) ≡ length p.ring.items + length (joined (drop (suc k) ps))
dropped_count ps k p e = ap (λ xs. length xs) (dropped ps k p e) ∙ length-append p.ring.items (joined (drop (suc k) ps))

-- behind all blocks there is none
pub none_behind : (ps : List Block) (k : ℕ) → length ps ≤ k → length (joined (drop k ps)) ≡ 0
none_behind [] zero h = refl
none_behind [] (suc k) h = refl
none_behind (q ∷ qs) zero h = absurd (omega (arith, h))
none_behind (q ∷ qs) (suc k) h = none_behind qs k (omega arith)

-- those before the place behind all blocks are all of them
pub all_before : (ps : List Block) (k : ℕ) → length ps ≤ k → take k ps ≡ ps
all_before [] zero h = refl
all_before [] (suc k) h = refl
all_before (q ∷ qs) zero h = absurd (omega (arith, h))
all_before (q ∷ qs) (suc k) h = ap (λ rs. q ∷ rs) (all_before qs k (omega arith))

-- with a block behind that has none the list is the same
pub joined_more : (ps : List Block) (p : Block) → p.ring.items ≡ [] → joined (ps ++ p ∷ []) ≡ joined ps
joined_more [] p e = append-nil p.ring.items ∙ e
joined_more (q ∷ qs) p e = ap (λ xs. q.ring.items ++ xs) (joined_more qs p e)

-- what is put behind the last block is put behind the list
pub joined_last : (ps : List Block) (k : ℕ) (p q : Block) (s : Stretch) → slice_get ps k ≡ Some p → length ps ≤ suc k
    → q.ring.items ≡ p.ring.items ++ s ∷ [] → joined (slice_set ps k q) ≡ joined ps ++ s ∷ []
joined_last [] k p q s e h g = absurd (no_block p e)
joined_last (r ∷ []) zero p q s e h g =
    append-nil q.ring.items ∙ g ∙ ap (λ (z : Block). z.ring.items ++ s ∷ []) (sym (same_Some r p e)) ∙ ap (λ xs. xs ++ s ∷ []) (sym (append-nil r.ring.items))
joined_last (r ∷ t ∷ ts) zero p q s e h g = absurd (omega (arith, h))
joined_last (r ∷ rs) (suc k) p q s e h g =
    ap (λ xs. r.ring.items ++ xs) (joined_last rs k p q s e (omega arith) g) ∙ sym (append_assoc r.ring.items (joined rs) (s ∷ []))

-- the last of a block goes to the front of the next
pub passed_on : (ps : List Block) (k : ℕ) (p p' q q' : Block) (s : Stretch) → slice_get ps k ≡ Some p → p.ring.items ≡ p'.ring.items ++ s ∷ []
    → slice_get (slice_set ps k p') (suc k) ≡ Some q → q'.ring.items ≡ s ∷ q.ring.items
    → joined (slice_set (slice_set ps k p') (suc k) q') ≡ joined ps
passed_on [] k p p' q q' s e d f g = absurd (no_block p e)
passed_on (a ∷ []) zero p p' q q' s e d f g = absurd (no_block q f)
passed_on (a ∷ b ∷ rest) zero p p' q q' s e d f g =
    ap (λ xs. p'.ring.items ++ (xs ++ joined rest)) (g ∙ ap (λ (z : Block). s ∷ z.ring.items) (sym (same_Some b q f)))
    ∙ sym (append_assoc p'.ring.items (s ∷ []) (b.ring.items ++ joined rest))
    ∙ ap (λ xs. xs ++ (b.ring.items ++ joined rest)) (sym d ∙ ap (λ (z : Block). z.ring.items) (sym (same_Some a p e)))
passed_on (a ∷ rest) (suc k) p p' q q' s e d f g = ap (λ xs. a.ring.items ++ xs) (passed_on rest k p p' q q' s e d f g)

-- the first of a block goes behind the one before it
pub passed_back : (ps : List Block) (k : ℕ) (p p' q q' : Block) (s : Stretch) → slice_get ps (suc k) ≡ Some q → q.ring.items ≡ s ∷ q'.ring.items
    → slice_get (slice_set ps (suc k) q') k ≡ Some p → p'.ring.items ≡ p.ring.items ++ s ∷ []
    → joined (slice_set (slice_set ps (suc k) q') k p') ≡ joined ps
passed_back [] k p p' q q' s e d f g = absurd (no_block q e)
passed_back (a ∷ []) zero p p' q q' s e d f g = absurd (no_block q e)
passed_back (a ∷ b ∷ rest) zero p p' q q' s e d f g =
    ap (λ xs. xs ++ (q'.ring.items ++ joined rest)) (g ∙ ap (λ (z : Block). z.ring.items ++ s ∷ []) (sym (same_Some a p f)))
    ∙ append_assoc a.ring.items (s ∷ []) (q'.ring.items ++ joined rest)
    ∙ ap (λ xs. a.ring.items ++ (xs ++ joined rest)) (sym d ∙ ap (λ (z : Block). z.ring.items) (sym (same_Some b q e)))
passed_back (a ∷ rest) (suc k) p p' q q' s e d f g = ap (λ xs. a.ring.items ++ xs) (passed_back rest k p p' q q' s e d f g)

-- of two lists in one, what is put in at a place of the first is put in there
insert_first : (xs ys : List Stretch) (o : ℕ) (s : Stretch) → o < length xs → insert (xs ++ ys) o s ≡ insert xs o s ++ ys
insert_first [] ys o s h = absurd (omega (arith, h))
insert_first (x ∷ xs) ys zero s h = refl
insert_first (x ∷ xs) ys (suc o) s h = ap (λ r. x ∷ r) (insert_first xs ys o s (omega arith))

remove_first : (xs ys : List Stretch) (o : ℕ) → o < length xs → remove (xs ++ ys) o ≡ remove xs o ++ ys
remove_first [] ys o h = absurd (omega (arith, h))
remove_first (x ∷ xs) ys zero h = refl
remove_first (x ∷ xs) ys (suc o) h = ap (λ r. x ∷ r) (remove_first xs ys o (omega arith))

-- and of three what stands in the middle one
get_in : (ls bs cs : List Stretch) (n o : ℕ) → n ≡ length ls + o → o < length bs → slice_get (ls ++ (bs ++ cs)) n ≡ slice_get bs o
get_in [] bs cs n o e h = let i : n ≡ o = omega (arith, e) in ap (λ k. slice_get (bs ++ cs) k) i ∙ slice_get-append_front bs cs o h
get_in (l ∷ ls) bs cs zero o e h = absurd (omega (arith, e))
get_in (l ∷ ls) bs cs (suc n) o e h = get_in ls bs cs n o (omega arith) h

set_in : (ls bs cs : List Stretch) (n o : ℕ) (s : Stretch) → n ≡ length ls + o → o < length bs
    → slice_set (ls ++ (bs ++ cs)) n s ≡ ls ++ (slice_set bs o s ++ cs)
set_in [] bs cs n o s e h = let i : n ≡ o = omega (arith, e) in ap (λ k. slice_set (bs ++ cs) k s) i ∙ set-append_left bs cs o s h
set_in (l ∷ ls) bs cs zero o s e h = absurd (omega (arith, e))
set_in (l ∷ ls) bs cs (suc n) o s e h = ap (λ r. l ∷ r) (set_in ls bs cs n o s (omega arith) h)

insert_in : (ls bs cs : List Stretch) (n o : ℕ) (s : Stretch) → n ≡ length ls + o → o < length bs
    → insert (ls ++ (bs ++ cs)) n s ≡ ls ++ (insert bs o s ++ cs)
insert_in [] bs cs n o s e h = let i : n ≡ o = omega (arith, e) in ap (λ k. insert (bs ++ cs) k s) i ∙ insert_first bs cs o s h
insert_in (l ∷ ls) bs cs zero o s e h = absurd (omega (arith, e))
insert_in (l ∷ ls) bs cs (suc n) o s e h = ap (λ r. l ∷ r) (insert_in ls bs cs n o s (omega arith) h)

remove_in : (ls bs cs : List Stretch) (n o : ℕ) → n ≡ length ls + o → o < length bs → remove (ls ++ (bs ++ cs)) n ≡ ls ++ (remove bs o ++ cs)
remove_in [] bs cs n o e h = let i : n ≡ o = omega (arith, e) in ap (λ k. remove (bs ++ cs) k) i ∙ remove_first bs cs o h
remove_in (l ∷ ls) bs cs zero o e h = absurd (omega (arith, e))
remove_in (l ∷ ls) bs cs (suc n) o e h = ap (λ r. l ∷ r) (remove_in ls bs cs n o (omega arith) h)

take_in : (ls bs cs : List Stretch) (n o : ℕ) → n ≡ length ls + o → o < length bs → take n (ls ++ (bs ++ cs)) ≡ ls ++ take o bs
take_in [] bs cs n o e h = let i : n ≡ o = omega (arith, e) in ap (λ k. take k (bs ++ cs)) i ∙ take-append-le o bs cs (omega (arith, h))
take_in (l ∷ ls) bs cs zero o e h = absurd (omega (arith, e))
take_in (l ∷ ls) bs cs (suc n) o e h = ap (λ r. l ∷ r) (take_in ls bs cs n o (omega arith) h)

-- what is put in behind all is put behind the list
pub insert_behind : (xs : List Stretch) (n : ℕ) (s : Stretch) → n ≡ length xs → xs ++ s ∷ [] ≡ insert xs n s
insert_behind [] zero s e = refl
insert_behind [] (suc n) s e = absurd (omega (arith, e))
insert_behind (x ∷ xs) zero s e = absurd (omega (arith, e))
insert_behind (x ∷ xs) (suc n) s e = ap (λ r. x ∷ r) (insert_behind xs n s (omega arith))

-- the block of a spot is the one there
module _ {ps : List Block} {at : ℕ} {s : Spot} (is : IsSpot ps at s) (p : Block) (value : p ≡ slice_index_or ps s.block p) where
  -- the block is there
  pub there : slice_get ps s.block ≡ Some p
  there = slice_get_read ps (length ps) s.block p refl (slice_get_within ps s.block is.held is.there) value

  -- it has the stretch
  pub here : s.index < length p.ring.items
  here = subst (λ (q : Block). s.index < length q.ring.items) (same_Some is.held p (sym is.there ∙ there)) is.within

  abbrev front : List Stretch
  front = joined (take s.block ps)

  abbrev back : List Stretch
  back = joined (drop (suc s.block) ps)

  all : joined ps ≡ front ++ (p.ring.items ++ back)
  all = joined_at ps s.block p there

  -- it is the list's there
  pub spot_get : slice_get p.ring.items s.index ≡ slice_get (joined ps) at
  spot_get = sym (ap (λ xs. slice_get xs at) all ∙ get_in front p.ring.items back at s.index is.before here)

  -- one in its place is one in the list's place
  pub spot_set : (q : Block) (x : Stretch) → q.ring.items ≡ slice_set p.ring.items s.index x
      → joined (slice_set ps s.block q) ≡ slice_set (joined ps) at x
  spot_set q x e =
      joined_set ps s.block p q there ∙ ap (λ xs. front ++ (xs ++ back)) e
      ∙ sym (ap (λ xs. slice_set xs at x) all ∙ set_in front p.ring.items back at s.index x is.before here)

  -- one put in there is put in the list
  pub spot_insert : (q : Block) (x : Stretch) → q.ring.items ≡ insert p.ring.items s.index x → joined (slice_set ps s.block q) ≡ insert (joined ps) at x
  spot_insert q x e =
      joined_set ps s.block p q there ∙ ap (λ xs. front ++ (xs ++ back)) e
      ∙ sym (ap (λ xs. insert xs at x) all ∙ insert_in front p.ring.items back at s.index x is.before here)

  -- without it the list is without it
  pub spot_remove : (q : Block) → q.ring.items ≡ remove p.ring.items s.index → joined (slice_set ps s.block q) ≡ remove (joined ps) at
  spot_remove q e =
      joined_set ps s.block p q there ∙ ap (λ xs. front ++ (xs ++ back)) e
      ∙ sym (ap (λ xs. remove xs at) all ∙ remove_in front p.ring.items back at s.index is.before here)

-- a list of none is empty
pub none_in : (xs : List Stretch) → length xs ≡ 0 → xs ≡ []
none_in [] e = refl
none_in (x ∷ xs) e = absurd (omega (arith, e))

one_first : (xs ys : List Stretch) → 0 < length xs → take 1 xs ++ [] ≡ take 1 (xs ++ ys)
one_first [] ys h = absurd (omega (arith, h))
one_first (x ∷ xs) ys h = refl

-- a block is the last of those up to it
pub taken_block : (ps : List Block) (k : ℕ) (p : Block) → slice_get ps k ≡ Some p → k < length (take (suc k) ps)
taken_block [] k p e = absurd (no_block p e)
taken_block (q ∷ qs) zero p e = omega arith
taken_block (q ∷ qs) (suc k) p e = let h = taken_block qs k p e in omega arith

-- the first block that has any, with its first alone, has the list's first
pub kept_one : (ps : List Block) (k o : ℕ) (p r q : Block) → slice_get ps k ≡ Some p → o < length p.ring.items → length (joined (take k ps)) + o ≡ 0
    → slice_get (take (suc k) ps) k ≡ Some r → q.ring.items ≡ take 1 r.ring.items → joined (slice_set (take (suc k) ps) k q) ≡ take 1 (joined ps)
kept_one [] k o p r q e h n f g = absurd (no_block p e)
kept_one (a ∷ rest) zero o p r q e h n f g =
    let some : 0 < length a.ring.items = subst (λ (z : Block). 0 < length z.ring.items) (sym (same_Some a p e)) (omega (arith, h)) in
    ap (λ xs. xs ++ []) (g ∙ ap (λ (z : Block). take 1 z.ring.items) (sym (same_Some a r f))) ∙ one_first a.ring.items (joined rest) some
kept_one (a ∷ rest) (suc k) o p r q e h n f g =
    let few = length-append a.ring.items (joined (take k rest)) in
    let no : length (a.ring.items ++ joined (take k rest)) + o ≡ 0 = n in
    let none : a.ring.items ≡ [] = none_in a.ring.items (omega (arith, few, no)) in
    ap (λ xs. xs ++ joined (slice_set (take (suc k) rest) k q)) none ∙ kept_one rest k o p r q e h (omega (arith, few, no)) f g
    ∙ ap (λ xs. take 1 (xs ++ joined rest)) (sym none)

-- of a tidy list in two the first is tidy
pub tidy_first : (xs ys : List Stretch) → AreTidy (xs ++ ys) → AreTidy xs
tidy_first [] ys h = tt
tidy_first (x ∷ []) ys h = (tt, tt)
tidy_first (x ∷ y ∷ rest) ys h = (h.0, tidy_first (y ∷ rest) ys h.1)

-- and so is the second
pub tidy_second : (xs ys : List Stretch) → AreTidy (xs ++ ys) → AreTidy ys
tidy_second [] ys h = h
tidy_second (x ∷ xs) ys h = tidy_second xs ys h.1

ends_both : (c : Place) (xs ys : List Stretch) → EndBefore c xs → EndBefore c ys → EndBefore c (xs ++ ys)
ends_both c [] ys f g = g
ends_both c (x ∷ xs) ys f g = (f.0, ends_both c xs ys f.1 g)

ends_all : (c : Place) (xs : List Stretch) (n : ℕ) → length xs ≤ n → EndBefore c (take n xs) → EndBefore c xs
ends_all c [] n h f = tt
ends_all c (x ∷ xs) zero h f = absurd (omega (arith, h))
ends_all c (x ∷ xs) (suc n) h f = (f.0, ends_all c xs n (omega arith) f.1)

-- where all end before a place, so do the first of them
pub ends_some : (c : Place) (xs : List Stretch) (n : ℕ) → EndBefore c xs → EndBefore c (take n xs)
ends_some c xs zero f = tt
ends_some c [] (suc n) f = tt
ends_some c (x ∷ xs) (suc n) f = (f.0, ends_some c xs n f.1)

-- behind all there is none that ends before it
pub none_ends_behind : (c : Place) (xs : List Stretch) (n : ℕ) → length xs ≤ n → NoneEndsBefore c (drop n xs)
none_ends_behind c [] zero h = tt
none_ends_behind c [] (suc n) h = tt
none_ends_behind c (x ∷ xs) zero h = absurd (omega (arith, h))
none_ends_behind c (x ∷ xs) (suc n) h = none_ends_behind c xs n (omega arith)

-- some stands at a place within a list
pub some_at : (xs : List Stretch) (k : ℕ) → k < length xs → None ≡ slice_get xs k → ⊥
some_at xs k h e = let n = slice_get_there xs k h in no_stretch n.0 (e ∙ n.1)

-- none stands behind a list
pub none_at : (xs : List Stretch) (k : ℕ) → length xs ≤ k → None ≡ slice_get xs k
none_at [] k h = refl
none_at (x ∷ xs) zero h = absurd (omega (arith, h))
none_at (x ∷ xs) (suc k) h = none_at xs k (omega arith)

-- a block of a tidy list, where all before it end before a place
module _ (c : Place) (ps : List Block) (k : ℕ) (p : Block) (there : slice_get ps k ≡ Some p) (tidy : AreTidy (joined ps)) where
  parted : AreTidy (joined (take k ps) ++ (p.ring.items ++ joined (drop (suc k) ps)))
  parted = subst AreTidy (joined_at ps k p there) tidy

  -- it is tidy
  pub tidy_block : AreTidy p.ring.items
  tidy_block = tidy_first p.ring.items (joined (drop (suc k) ps)) (tidy_second (joined (take k ps)) _ parted)

  -- those before it, it and those after it are as many as all
  pub counted : length (joined ps) ≡ length (joined (take k ps)) + (length p.ring.items + length (joined (drop (suc k) ps)))
  counted =
      let a = length-append (joined (take k ps)) (p.ring.items ++ joined (drop (suc k) ps)) in
      let b = length-append p.ring.items (joined (drop (suc k) ps)) in
      ap (λ xs. length xs) (joined_at ps k p there) ∙ a ∙ ap (λ n. length (joined (take k ps)) + n) b

  module _ (before : EndBefore c (joined (take k ps))) (o : ℕ) (front : EndBefore c (take o p.ring.items)) where
    -- where all its own do too, those up to it do
    pub all_end_to : length p.ring.items ≤ o → EndBefore c (joined (take (suc k) ps))
    all_end_to h = subst (λ xs. EndBefore c xs) (sym (taken ps k p there))
        (ends_both c (joined (take k ps)) p.ring.items before (ends_all c p.ring.items o h front))

    -- else those before the first of its own that does not
    pub front_in : (n : ℕ) → n ≡ length (joined (take k ps)) + o → o < length p.ring.items → EndBefore c (take n (joined ps))
    front_in n e h = subst (λ xs. EndBefore c xs)
        (sym (ap (λ xs. take n xs) (joined_at ps k p there) ∙ take_in (joined (take k ps)) p.ring.items (joined (drop (suc k) ps)) n o e h))
        (ends_both c (joined (take k ps)) (take o p.ring.items) before front)

    -- and none from there on
    pub rest_in : (n : ℕ) → n ≡ length (joined (take k ps)) + o → o < length p.ring.items → NoneEndsBefore c (drop o p.ring.items)
        → NoneEndsBefore c (drop n (joined ps))
    rest_in n e h rest =
        let one = slice_get_there p.ring.items o h in
        let at : slice_get (joined ps) n ≡ Some one.0 = ap (λ xs. slice_get xs n) (joined_at ps k p there)
        ∙ get_in (joined (take k ps)) p.ring.items (joined (drop (suc k) ps)) n o e h ∙ one.1 in
        rest_more c (joined ps) n one.0 tidy at (reaches_at c p.ring.items o one.0 rest one.1)

-- the last of a list stands before its end
pub last_is : (xs : List Stretch) (n : ℕ) (s : Stretch) → suc n ≡ length xs → Some s ≡ slice_get xs n → (front : List Stretch) × (xs ≡ front ++ s ∷ [])
last_is [] n s e g = absurd (omega (arith, e))
last_is (x ∷ []) zero s e g = ([], ap (λ r. r ∷ []) (sym (same_Some s x g)))
last_is (x ∷ []) (suc n) s e g = absurd (omega (arith, e))
last_is (x ∷ y ∷ rest) zero s e g = absurd (omega (arith, e))
last_is (x ∷ y ∷ rest) (suc n) s e g =
    let l = last_is (y ∷ rest) n s (omega (arith, e)) g in (x ∷ l.0, ap (λ r. x ∷ r) l.1)

-- as many as before are left where one is put in the place of another
pub counted_set : {n : ℕ} {ps qs : List Block} (at : ℕ) (s : Stretch) → IsCounted n ps → joined qs ≡ slice_set (joined ps) at s → IsCounted n qs
counted_set {n} {ps} {qs} at s c e = record { all = c.all ∙ sym (ap (λ xs. length xs) e ∙ length-set (joined ps) at s); few = c.few }

-- as many where the list is the same
pub counted_same : {n : ℕ} {ps qs : List Block} → IsCounted n ps → joined qs ≡ joined ps → IsCounted n qs
counted_same {n} {ps} {qs} c e = record { all = c.all ∙ sym (ap (λ xs. length xs) e); few = c.few }

-- none of none
pub counted_none : {qs : List Block} → qs ≡ [] → IsCounted 0 qs
counted_none {qs} e = record { all = sym (ap (λ xs. length (joined xs)) e); few = omega arith }

-- one more where one is put behind
pub counted_behind : {n : ℕ} {ps qs : List Block} (s : Stretch) → IsCounted n ps → n < 2 ^ 62 → joined qs ≡ joined ps ++ s ∷ [] → IsCounted (n + 1) qs
counted_behind {n} {ps} {qs} s c h e =
    let l : length (joined qs) ≡ length (joined ps) + 1 = ap (λ xs. length xs) e ∙ length-append (joined ps) (s ∷ []) in
    let a = c.all in
    record { all = omega arith; few = omega arith }

length_insert : (xs : List Stretch) (k : ℕ) (s : Stretch) → k ≤ length xs → length (insert xs k s) ≡ suc (length xs)
length_insert xs zero s h = refl
length_insert [] (suc k) s h = absurd (omega (arith, h))
length_insert (x ∷ xs) (suc k) s h = ap (λ n. suc n) (length_insert xs k s (omega arith))

-- with one taken out there is one fewer
pub length_remove : (xs : List Stretch) (k : ℕ) → k < length xs → suc (length (remove xs k)) ≡ length xs
length_remove [] k h = absurd (omega (arith, h))
length_remove (x ∷ xs) zero h = refl
length_remove (x ∷ xs) (suc k) h = ap (λ n. suc n) (length_remove xs k (omega arith))

-- one more where one is put in
pub counted_insert : {n : ℕ} {ps qs : List Block} (at : ℕ) (s : Stretch) → IsCounted n ps → n < 2 ^ 62 → at ≤ length (joined ps)
    → joined qs ≡ insert (joined ps) at s → IsCounted (n + 1) qs
counted_insert {n} {ps} {qs} at s c h w e =
    let l : length (joined qs) ≡ suc (length (joined ps)) = ap (λ xs. length xs) e ∙ length_insert (joined ps) at s w in
    let a = c.all in
    record { all = omega arith; few = omega arith }

-- one fewer where one is taken out
pub counted_remove : {n : ℕ} {ps qs : List Block} (at : ℕ) → IsCounted n ps → at < length (joined ps) → joined qs ≡ remove (joined ps) at → IsCounted (n - 1) qs
counted_remove {n} {ps} {qs} at c w e =
    let l : suc (length (joined qs)) ≡ length (joined ps) = ap (λ xs. suc (length xs)) e ∙ length_remove (joined ps) at w in
    let a = c.all in
    let f = c.few in
    record { all = omega arith; few = omega arith }

-- the first alone
pub counted_one : {qs : List Block} (ps : List Block) → 0 < length (joined ps) → joined qs ≡ take 1 (joined ps) → IsCounted 1 qs
counted_one {qs} ps w e = record { all = sym (ap (λ xs. length xs) e ∙ one (joined ps) w); few = omega arith }
  where
    one : (xs : List Stretch) → 0 < length xs → length (take 1 xs) ≡ 1
    one [] h = absurd (omega (arith, h))
    one (x ∷ xs) h = refl
