-- Cells that are marked before their turn: those that are needed whatever else is dropped are kept when they are sifted.
use Rattle.std.proofs.Common.{◌≡◌, ℕ, zero, suc, ◌+◌, ◌-◌, ◌*◌, ◌<◌, ◌≤◌, ◌⊎◌, inl, inr, Bool, true, false, List, [], ◌∷◌}
use Rattle.std.proofs.Common.{length, take, set, reverse, Some, refl, sym, ap, subst, ◌∙◌, arith, length-set, replicate}
use Rattle.std.specs.Prelude.{slice_get, slice_index_or, nat_lt, ◌||◌, if◌then◌else◌}
use Rattle.std.proofs.Math.Nat.{suc-mul}
use Rattle.stl_syntax.specs.Trace.{Trace, start}
use Rattle.stl_syntax.specs.Formula.{root}
use Rattle.stl_syntax.specs.Kleene.{MustNot}
use Rattle.stl_syntax.specs.Kept.{KeptFrom}
use Rattle.stl_syntax.specs.declared.items.Item.{Item}
use Rattle.stl_syntax.specs.declared.node.Node.{Node}
use Rattle.implicants.specs.Certainty.{stays}
use Rattle.implicants.specs.Keeping.{CoverMore, chosen, remaining, IsLeastEnough, AreSifted, AreBlank}
use Rattle.implicants.specs.Needs.{put_mark, passed, IsNeeded, MarksNeeded}
use Rattle.implicants.proofs.MarkedCover.{IsOver, to_remaining, from_remaining, to_covered, of_covered}
use Rattle.implicants.proofs.MoreItems.{must_not}
use Rattle.implicants.proofs.KeptCells.{drops}
use Rattle.std.proofs.lemmas.List.{length-replicate}
use Rattle.std.proofs.lemmas.Bool.{cases_lt, lt-ltb, ltb-true, or_cases}
use Rattle.implicants.proofs.MarkLists.{no_cell, blank_none, blank_set, blank_fewer, sifted_none, sifted_more}

or_one : (a b : Bool) → (a ≡ true) ⊎ (b ≡ true) → (a || b) ≡ true
or_one true b h = refl
or_one false b (inl e) = absurd cc
or_one false b (inr e) = e

-- a cell stays where it is one of the first, or marked
pub stays_cases : (left : ℕ) (marks : List Bool) (c : ℕ) → stays left marks c ≡ true → (c < left) ⊎ (slice_index_or marks c false ≡ true)
stays_cases left marks c h = elim (or_cases (nat_lt c left) (slice_index_or marks c false) h) [ inl l ↦ inl (ltb-true c left l) | inr m ↦ inr m ]

-- a cell that is not yet sifted, or is marked, stays
pub stays_one : (left : ℕ) (marks : List Bool) (c : ℕ) → (c < left) ⊎ (slice_index_or marks c false ≡ true) → stays left marks c ≡ true
stays_one left marks c h = or_one (nat_lt c left) (slice_index_or marks c false) (elim h [ inl l ↦ inl (lt-ltb c left l) | inr m ↦ inr m ])

-- what is no more is the same or less
pub le_cases : (c j : ℕ) → c ≤ j → (c ≡ j) ⊎ (suc c ≤ j)
le_cases c j h = grind arith

-- whether the cell at a place is marked
abbrev pub IsMarked : List Bool → ℕ → Type 0
IsMarked marks c = slice_index_or marks c false ≡ true

-- a place that is marked in the new list is the one that was set, or was marked
pub marked_set : (marks : List Bool) (n j : ℕ) → IsMarked (set marks n true) j → (j ≡ n) ⊎ IsMarked marks j
marked_set (m ∷ marks) zero zero h = inl refl
marked_set (m ∷ marks) (suc n) (suc j) h = elim (marked_set marks n j h) [ inl e ↦ inl (ap suc e) | inr k ↦ inr k ]
marked_set _ _ _ h = inr h

-- a further mark leaves the others
pub set_marked : (marks : List Bool) (n j : ℕ) → IsMarked marks j → IsMarked (set marks n true) j
set_marked (m ∷ marks) zero zero h = refl
set_marked (m ∷ marks) (suc n) (suc j) h = set_marked marks n j h
set_marked _ _ _ h = h

-- the place that was marked is marked
pub set_here : (marks : List Bool) (n : ℕ) → n < length marks → IsMarked (set marks n true) n
set_here [] n l = absurd (omega arith)
set_here (m ∷ marks) zero l = refl
set_here (m ∷ marks) (suc n) l = set_here marks n (omega arith)

-- a place that is blank is not marked
pub blank_not : (marks : List Bool) (n j : ℕ) → AreBlank n marks → j < n → IsMarked marks j → ⊥
blank_not marks n j b l h = not_both marks j (b j l) h
  where
    not_both : (marks : List Bool) (j : ℕ) → slice_get marks j ≡ Some false → IsMarked marks j → ⊥
    not_both [] zero e h = absurd cc
    not_both [] (suc j) e h = absurd cc
    not_both (true ∷ marks) zero e h = absurd (let x : Some true ≡ Some false = e in cc)
    not_both (false ∷ marks) zero e h = absurd (let x : false ≡ true = h in cc)
    not_both (m ∷ marks) (suc j) e h = not_both marks j e h

-- with more marks more is chosen
pub chosen_longer : (marks : List Bool) (items : List Item) (c : ℕ) → length (chosen marks items) ≤ length (chosen (set marks c true) items)
chosen_longer (true ∷ marks) [] zero = omega arith
chosen_longer (false ∷ marks) [] zero = omega arith
chosen_longer (true ∷ marks) (e ∷ items) (suc c) = let x = chosen_longer marks items c in omega (arith, x)
chosen_longer (false ∷ marks) (e ∷ items) (suc c) = chosen_longer marks items c
chosen_longer _ _ _ = omega arith

put_longer : (b : Bool) (kept : List Bool) (items : List Item) (c : ℕ)
    → length (chosen kept items) ≤ length (chosen (if b then set kept c true else kept) items)
put_longer true kept items c = chosen_longer kept items c
put_longer false kept items c = omega arith

-- passing over marked cells keeps no fewer
pub passed_longer : (marks : List Bool) (items : List Item) (to n : ℕ) (kept : List Bool)
    → length (chosen kept items) ≤ length (chosen (passed marks to n kept) items)
passed_longer marks items to zero kept = omega arith
passed_longer marks items to (suc n) kept =
    let x = put_longer (slice_index_or marks (to + n) false) kept items (to + n) in
    let y = passed_longer marks items to n (put_mark marks (to + n) kept) in
    omega (arith, x, y)

-- one place less to pass over
pub passed_put : (marks kept : List Bool) (to c : ℕ) → to < c → slice_index_or marks (c - 1) false ≡ true
    → passed marks to (c - to) kept ≡ passed marks to (c - 1 - to) (set kept (c - 1) true)
passed_put marks kept to c h m =
    subst (λ n. passed marks to n kept ≡ passed marks to (c - 1 - to) (set kept (c - 1) true)) (let e : suc (c - 1 - to) ≡ c - to = omega (arith, h) in e)
    (ap (λ xs. passed marks to (c - 1 - to) xs)
    (subst (λ k. put_mark marks k kept ≡ set kept (c - 1) true) (let e : c - 1 ≡ to + (c - 1 - to) = omega (arith, h) in e)
    (subst (λ b. (if b then set kept (c - 1) true else kept) ≡ set kept (c - 1) true) (sym m) refl)))

-- a cell that is not marked is passed over
pub passed_skip : (marks kept : List Bool) (to c : ℕ) → to < c → slice_index_or marks (c - 1) false ≡ false
    → passed marks to (c - to) kept ≡ passed marks to (c - 1 - to) kept
passed_skip marks kept to c h m =
    subst (λ n. passed marks to n kept ≡ passed marks to (c - 1 - to) kept) (let e : suc (c - 1 - to) ≡ c - to = omega (arith, h) in e)
    (ap (λ xs. passed marks to (c - 1 - to) xs) (subst (λ k. put_mark marks k kept ≡ kept) (let e : c - 1 ≡ to + (c - 1 - to) = omega (arith, h) in e)
    (subst (λ b. (if b then set kept (c - 1) true else kept) ≡ kept) (sym m) refl)))

-- more rounds of the same cost cost more
pub more_times : (l m d : ℕ) → l ≤ m → l * d ≤ m * d
more_times zero m d h = omega arith
more_times (suc l) zero d h = absurd (omega (arith, h))
more_times (suc l) (suc m) d h = let x = more_times l m d (omega (arith, h)) in let e = suc-mul l d in let f = suc-mul m d in omega (arith, x, e, f)

-- what is within so many rounds is within more
pub more_rounds : (before now l m d : ℕ) → l ≤ m → now ≤ before + l * d → now ≤ before + m * d
more_rounds before now l m d h k = let x = more_times l m d h in omega (arith, k, x)

module _ (nodes : List Node) (tr : Trace) (items : List Item) where
  abbrev Fails : List Item → Type 0
  Fails xs = MustNot (root nodes) xs tr (start tr)

  -- where fewer cells stay, less is covered
  pub stay_covered : (left : ℕ) (marks : List Bool) (n : ℕ) (kept : List Bool) → ((j : ℕ) → (j < left) ⊎ IsMarked marks j → (j < n) ⊎ IsMarked kept j)
      → CoverMore (remaining left marks items) (remaining n kept items)
  stay_covered left marks n kept f i t h =
      let x = to_remaining (IsOver i t) left marks items (of_covered (remaining left marks items) i t h) in
      to_covered (remaining n kept items) i t
      (from_remaining (IsOver i t) n kept items x.0 x.1.item x.1.at x.1.is (stays_one n kept x.0 (f x.0 (stays_cases left marks x.0 x.2))))

  -- without a cell that is needed the formula is not certainly false
  needed_fails : (marks : List Bool) (c n : ℕ) (kept : List Bool) → IsNeeded nodes tr items marks c
      → ((j : ℕ) → (j < n) ⊎ IsMarked kept j → (j < c) ⊎ ((c < j) × IsMarked marks j))
      → ¬ Fails (remaining n kept items)
  needed_fails marks c n kept need f = need (remaining n kept items)
      (λ i t h. let x = to_remaining (IsOver i t) n kept items (of_covered (remaining n kept items) i t h) in record {
        place = x.0;
        item = x.1.item;
        at = x.1.at;
        is = f x.0 (stays_cases n kept x.0 x.2);
        node = x.1.is.0;
        inside = x.1.is.1;
      })

  -- cells from place c on are sifted, and of those the marked ones are kept
  pub record AreKept (c : ℕ) (marks kept : List Bool) : Type 0 where
    -- there is a mark for each cell
    pub count : length kept ≡ length items
    -- from place c on they are what sifting keeps
    pub sifted : AreSifted nodes tr items c kept
    -- before it none is kept
    pub blank : AreBlank c kept
    -- each marked cell from there on is kept
    pub over : (j : ℕ) → c ≤ j → IsMarked marks j → IsMarked kept j
    -- and each that is kept is marked
    pub under : (j : ℕ) → IsMarked kept j → IsMarked marks j

  -- a cell that is marked before its turn is needed
  abbrev pub AreSure : ℕ → List Bool → Type 0
  AreSure left marks = (c : ℕ) → c < left → IsMarked marks c → IsNeeded nodes tr items marks c

  module _ (left to : ℕ) (marks : List Bool) (within : left ≤ length items) (sure : AreSure left marks) (enough : Fails (remaining to marks items)) where
    keep_one : (c : ℕ) (kept : List Bool) → c < left → IsMarked marks c → AreKept (suc c) marks kept → AreKept c marks (set kept c true)
    keep_one c kept l m is = record {
      count = length-set kept c true ∙ is.count;
      sifted = sifted_more nodes tr items (suc c) c kept no_cell is.count (omega (arith, l, within)) (omega arith) is.blank
          (record { enough = is.sifted.enough; least = λ k h. needed_fails marks c k kept (sure c l m) (apart k h) }) is.sifted;
      blank = blank_set kept c is.blank;
      over = λ j h k. by_place j h k;
      under = λ j h. elim (marked_set kept c j h) [ inl e ↦ subst (IsMarked marks) (sym e) m | inr k ↦ is.under j k ];
    }
      where
        apart : (k : ℕ) → k < suc c → (j : ℕ) → (j < k) ⊎ IsMarked kept j → (j < c) ⊎ ((c < j) × IsMarked marks j)
        apart k h j (inl i) = inl (omega (arith, h, i))
        apart k h j (inr i) = elim (cases_lt j (suc c)) [
          | inl b ↦ absurd (blank_not kept (suc c) j is.blank b i)
          | inr b ↦ inr (omega (arith, b), is.under j i)
        ]

        by_place : (j : ℕ) → c ≤ j → IsMarked marks j → IsMarked (set kept c true) j
        by_place j h k = elim (le_cases c j h) [
          | inl e ↦ subst (IsMarked (set kept c true)) e (set_here kept c (let n = is.count in omega (arith, n, l, within)))
          | inr i ↦ set_marked kept c j (is.over j i k)
        ]

    drop_one : (c : ℕ) (kept : List Bool) → c < left → to ≤ c → (IsMarked marks c → ⊥) → AreKept (suc c) marks kept → AreKept c marks kept
    drop_one c kept l above none is = record {
      count = is.count;
      sifted = record {
        enough = still;
        kept = λ ks k. is.sifted.kept ks (subst (λ i. KeptFrom (root nodes) tr (reverse (take i items)) (chosen kept items) ks)
            (let e : c + 1 ≡ suc c = omega arith in e)
            (drops (root nodes) tr items (chosen kept items) ks no_cell c 1 (omega (arith, l, within)) still k));
      };
      blank = blank_fewer kept c (suc c) (omega arith) is.blank;
      over = λ j h k. elim (le_cases c j h) [ inl e ↦ absurd (none (subst (IsMarked marks) (sym e) k)) | inr i ↦ is.over j i k ];
      under = is.under;
    }
      where
        more : (j : ℕ) → (j < to) ⊎ IsMarked marks j → (j < c) ⊎ IsMarked kept j
        more j (inl h) = inl (omega (arith, h, above))
        more j (inr h) = elim (cases_lt j c) [
          | inl i ↦ inl i
          | inr i ↦ elim (le_cases c j i) [ inl e ↦ absurd (none (subst (IsMarked marks) (sym e) h)) | inr k ↦ inr (is.over j k h) ]
        ]

        still : Fails (remaining c kept items)
        still = must_not _ _ tr (stay_covered to marks c kept more) (root nodes) (start tr) enough

    put_one : (c : ℕ) (kept : List Bool) → c < left → to ≤ c → AreKept (suc c) marks kept → AreKept c marks (put_mark marks c kept)
    put_one c kept l above is = by_mark (slice_index_or marks c false) refl
      where
        by_mark : (b : Bool) → slice_index_or marks c false ≡ b → AreKept c marks (if b then set kept c true else kept)
        by_mark true e = keep_one c kept l e is
        by_mark false e = drop_one c kept l above (λ m. let x : true ≡ false = sym m ∙ e in absurd cc) is

    -- so all cells down to place `to` are sifted
    pub passed_over : (n : ℕ) (kept : List Bool) → to + n ≤ left → AreKept (to + n) marks kept → AreKept to marks (passed marks to n kept)
    passed_over zero kept l is = subst (λ c. AreKept c marks kept) (let e : to + 0 ≡ to = omega arith in e) is
    passed_over (suc n) kept l is =
        passed_over n (put_mark marks (to + n) kept) (omega (arith, l))
        (put_one (to + n) kept (omega (arith, l)) (omega arith) (subst (λ c. AreKept c marks kept) (let e : to + suc n ≡ suc (to + n) = omega arith in e) is))

  -- the last of the least number that is enough is kept, and marked
  pub last_kept : (left n : ℕ) (marks kept : List Bool) → suc n ≤ left → left ≤ length items → length marks ≡ length items
      → IsLeastEnough nodes tr items marks (suc n)
      → AreKept (suc n) marks kept → AreKept n (set marks n true) (set kept n true)
  last_kept left n marks kept l within count least is = record {
    count = length-set kept n true ∙ is.count;
    sifted = sifted_more nodes tr items (suc n) n kept no_cell is.count (omega (arith, l, within)) (omega arith) is.blank
        (record {
          enough = is.sifted.enough;
          least = λ k h m. least.least k h (must_not _ _ tr (stay_covered k kept k marks (fewer k)) (root nodes) (start tr) m);
        }) is.sifted;
    blank = blank_set kept n is.blank;
    over = λ j h k. elim (marked_set marks n j k) [
      | inl e ↦ subst (IsMarked (set kept n true)) (sym e) (set_here kept n (let c = is.count in omega (arith, c, l, within)))
      | inr m ↦ elim (le_cases n j h) [
        | inl e ↦ subst (IsMarked (set kept n true)) e (set_here kept n (let c = is.count in omega (arith, c, l, within)))
        | inr i ↦ set_marked kept n j (is.over j i m)
      ]
    ];
    under = λ j h. elim (marked_set kept n j h) [
      | inl e ↦ subst (IsMarked (set marks n true)) (sym e) (set_here marks n (omega (arith, count, l, within)))
      | inr k ↦ set_marked marks n j (is.under j k)
    ];
  }
    where
      fewer : (k j : ℕ) → (j < k) ⊎ IsMarked kept j → (j < k) ⊎ IsMarked marks j
      fewer k j (inl h) = inl h
      fewer k j (inr h) = inr (is.under j h)

  -- marks that are put anew before the cells that are sifted
  module _ (n : ℕ) (kept new : List Bool) (more : MarksNeeded nodes tr items n kept new) where
    -- the cells that are kept so far are kept of the new marks too
    pub kept_anew : (marks : List Bool) → AreKept n marks kept → AreKept n new kept
    kept_anew marks is = record {
      count = is.count;
      sifted = is.sifted;
      blank = is.blank;
      over = λ j h m. elim (more.only j m) [ inl k ↦ k | inr k ↦ absurd (let l = k.0 in omega (arith, h, l)) ];
      under = more.stay;
    }

    -- while nothing is kept yet the new marks are sure
    pub sure_anew : AreBlank n kept → AreSure n new
    sure_anew blank c h m = elim (more.only c m) [ inl k ↦ absurd (blank_not kept n c blank h k) | inr k ↦ k.1 ]

  -- the cells that stay are enough together with those that are marked
  pub enough_marked : (left : ℕ) (marks kept : List Bool) → AreKept left marks kept → Fails (remaining left marks items)
  enough_marked left marks kept is = must_not _ _ tr (stay_covered left kept left marks fewer) (root nodes) (start tr) is.sifted.enough
    where
      fewer : (j : ℕ) → (j < left) ⊎ IsMarked kept j → (j < left) ⊎ IsMarked marks j
      fewer j (inl h) = inl h
      fewer j (inr h) = inr (is.under j h)

  -- at first none is marked
  none_marked : (n j : ℕ) → IsMarked (replicate n false) j → ⊥
  none_marked zero zero h = absurd (let x : false ≡ true = h in cc)
  none_marked zero (suc j) h = absurd (let x : false ≡ true = h in cc)
  none_marked (suc n) zero h = absurd (let x : false ≡ true = h in cc)
  none_marked (suc n) (suc j) h = none_marked n j h

  -- at first no cell is sifted and none is kept
  pub kept_none : (n : ℕ) (marks kept : List Bool) → n ≡ length items → marks ≡ replicate n false → kept ≡ replicate n false
      → Fails items → AreKept n marks kept
  kept_none n marks kept e f g m = subst (λ xs. AreKept n xs kept) (sym f) (subst (λ xs. AreKept n (replicate n false) xs) (sym g) (record {
    count = length-replicate n false ∙ e;
    sifted = sifted_none nodes tr items n e m;
    blank = blank_none n n (omega arith);
    over = λ j h k. k;
    under = λ j k. k;
  }))

  -- where no cell is marked, all marks are sure
  pub sure_none : (n : ℕ) (marks : List Bool) → marks ≡ replicate n false → AreSure n marks
  sure_none n marks f c h k = absurd (none_marked n c (subst (λ xs. IsMarked xs c) f k))

  -- a round sifts the cells down to the least number that is enough
  pub sifted_down : (left n : ℕ) (marks kept new : List Bool) → left ≤ length items → n ≤ left → AreSure left marks → IsLeastEnough nodes tr items marks n
      → new ≡ passed marks n (left - n) kept → AreKept left marks kept → AreKept n marks new
  sifted_down left n marks kept new within l sure least e is = subst (AreKept n marks) (sym e)
      (passed_over left n marks within sure least.enough (left - n) kept (omega (arith, l))
      (subst (λ c. AreKept c marks kept) (let f : left ≡ n + (left - n) = omega (arith, l) in f) is))

  -- the cells that stay after a round are among those that were enough in it
  pub fewer_stay : (n : ℕ) (marks kept : List Bool) → AreKept (suc n) marks kept
      → CoverMore (remaining n (set kept n true) items) (remaining (suc n) marks items)
  fewer_stay n marks kept is = stay_covered n (set kept n true) (suc n) marks fewer
    where
      fewer : (j : ℕ) → (j < n) ⊎ IsMarked (set kept n true) j → (j < suc n) ⊎ IsMarked marks j
      fewer j (inl h) = inl (omega (arith, h))
      fewer j (inr h) = elim (marked_set kept n j h) [ inl e ↦ inl (omega (arith, e)) | inr k ↦ inr (is.under j k) ]

  -- fewer also than before the round
  pub fewer_than : (left n : ℕ) (marks kept : List Bool) → suc n ≤ left → AreKept (suc n) marks kept
      → CoverMore (remaining n (set kept n true) items) (remaining left marks items)
  fewer_than left n marks kept l is = stay_covered n (set kept n true) left marks fewer
    where
      fewer : (j : ℕ) → (j < n) ⊎ IsMarked (set kept n true) j → (j < left) ⊎ IsMarked marks j
      fewer j (inl h) = inl (omega (arith, h, l))
      fewer j (inr h) = elim (marked_set kept n j h) [ inl e ↦ inl (omega (arith, e, l)) | inr k ↦ inr (is.under j k) ]

  -- and no more where cells before them are marked
  pub anew_stay : (n : ℕ) (kept new : List Bool) → MarksNeeded nodes tr items n kept new → CoverMore (remaining n new items) (remaining n kept items)
  anew_stay n kept new more = stay_covered n new n kept fewer
    where
      fewer : (j : ℕ) → (j < n) ⊎ IsMarked new j → (j < n) ⊎ IsMarked kept j
      fewer j (inl h) = inl h
      fewer j (inr h) = elim (more.only j h) [ inl k ↦ inr k | inr k ↦ inl k.0 ]
