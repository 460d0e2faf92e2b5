-- What an edge has in blocks, as parts are read, or gone, and as blocks go from list to list.
use Rattle.std.proofs.Common.{◌≡◌, ◌≢◌, ◌⊎◌, inl, inr, ℕ, zero, suc, ◌+◌, ◌-◌, ◌<◌, ◌≤◌, false, Bool, ℤ, List, [], ◌∷◌, ◌++◌, take, drop, set, length}
use Rattle.std.proofs.Common.{slice_get, Some, None, Option, refl, sym, ap, ◌∙◌, arith, append_assoc, length-append, length-drop, length-take}
use Rattle.std.proofs.lemmas.Bool.{cases_eq}
use Rattle.std.proofs.lemmas.List.{append-nil, drop-append-le, drop-drop, drop_all, drop_at, take_at}
use Rattle.std.proofs.lemmas.List.{get_or-set_same, get_or-set_other, length-set}
use Rattle.rational.proofs.Lists.{take_on}
use Rattle.node_edges.specs.Held.{Edge, with_read, without}
use Rattle.node_edges.specs.declared.far.Far.{Far}
use Rattle.node_edges.specs.Queues.{Block, flat, list_of, seen_list, waiting_list, AreFilled, BeginsIn, GoneIn, IsFar}

module _ {T : Type 0} where
  -- what lies in blocks, of the first of which some parts are gone, while of the first that waits some were read
  abbrev pub part : List (Block T) → List (Block T) → ℕ → ℕ → Edge T
  part old waiting gone begun = record {
    seen = drop gone (flat old ++ take begun (flat waiting));
    fresh = drop begun (flat waiting);
    number = None;
    joins = false;
  }

  part_same : {seen seen' fresh fresh' : List T} → seen ≡ seen' → fresh ≡ fresh'
      → ◌≡◌ {A = Edge T} (record { seen = seen; fresh = fresh; number = None; joins = false }) (record {
        seen = seen';
        fresh = fresh';
        number = None;
        joins = false;
      })
  part_same {seen} {seen'} {fresh} {fresh'} s f =
      ap (λ l. record { seen = l; fresh = fresh; number = None; joins = false }) s
      ∙ ap (λ l. record { seen = seen'; fresh = l; number = None; joins = false }) f

  -- two edges of the same parts
  pub edges_same : {seen seen' fresh fresh' : List T} {number number' : Option ℤ} {j j' : Bool} → seen ≡ seen' → fresh ≡ fresh' → number ≡ number' → j ≡ j'
      → ◌≡◌ {A = Edge T} (record { seen = seen; fresh = fresh; number = number; joins = j })
      (record { seen = seen'; fresh = fresh'; number = number'; joins = j' })
  edges_same {seen} {seen'} {fresh} {fresh'} {number} {number'} {j} {j'} s f n b =
      ap (λ l. record { seen = l; fresh = fresh; number = number; joins = j }) s
      ∙ ap (λ l. record { seen = seen'; fresh = l; number = number; joins = j }) f
      ∙ ap (λ m. record { seen = seen'; fresh = fresh'; number = m; joins = j }) n
      ∙ ap (λ c. record { seen = seen'; fresh = fresh'; number = number'; joins = c }) b

-- a number that cannot be above 0, and one that cannot be 0
pub zero_of : (n : ℕ) → (0 < n → ⊥) → n ≡ 0
zero_of zero not = refl
zero_of (suc n) not = absurd (not (omega arith))

pub some_of_not : (n : ℕ) → (n ≡ 0 → ⊥) → 0 < n
some_of_not zero not = absurd (not refl)
some_of_not (suc n) not = omega arith

-- below, where no more and not equal
pub less_of_not : (n m : ℕ) → n ≤ m → (n ≡ m → ⊥) → n < m
less_of_not n m le not = by_case (cases_eq n m)
  where
    by_case : (n ≡ m) ⊎ (n ≢ m) → n < m
    by_case (inl same) = absurd (not same)
    by_case (inr differs) = omega (arith, le, differs)

module _ {T : Type 0} where
  pub flat_more : (bs : List (Block T)) (b : Block T) → flat (bs ++ b ∷ []) ≡ flat bs ++ b.items
  flat_more [] b = append-nil b.items
  flat_more (a ∷ bs) b = ap (λ l. a.items ++ l) (flat_more bs b) ∙ sym (append_assoc a.items (flat bs) b.items)

  pub filled_more : (bs : List (Block T)) (b : Block T) → AreFilled bs → 0 < length b.items → AreFilled (bs ++ b ∷ [])
  filled_more [] b all some = (some, tt)
  filled_more (a ∷ bs) b all some = (all.0, filled_more bs b all.1 some)

  -- how many were read and are not gone
  pub length_seen : (old waiting : List (Block T)) (gone begun : ℕ) → begun ≤ length (flat waiting)
      → length (drop gone (flat old ++ take begun (flat waiting))) ≡ length (flat old) + begun - gone
  length_seen old waiting gone begun within =
      omega (
        arith,
        length-drop gone (flat old ++ take begun (flat waiting)),
        length-append (flat old) (take begun (flat waiting)),
        length-take begun (flat waiting),
        within,
      )

  -- one more of those that wait is read
  pub one_read : (old waiting : List (Block T)) (gone begun : ℕ) (v : T) → slice_get (flat waiting) begun ≡ Some v → begun ≤ length (flat waiting)
      → gone ≤ length (flat old) + begun → part old waiting gone (begun + 1) ≡ with_read (part old waiting gone begun) v
  one_read old waiting gone begun v here inside within =
      let behind = flat old ++ take begun (flat waiting) in
      let long : gone ≤ length behind =
      omega (arith, length-append (flat old) (take begun (flat waiting)), length-take begun (flat waiting), inside, within) in
      part_same
      (ap (λ l. drop gone (flat old ++ l)) (take_on (flat waiting) begun v here)
      ∙ ap (drop gone) (sym (append_assoc (flat old) (take begun (flat waiting)) (v ∷ []))) ∙ drop-append-le gone behind (v ∷ []) long)
      (sym (drop-drop 1 begun (flat waiting)))

  -- a block that was read whole goes to those that were
  pub whole_read : (old bs : List (Block T)) (b : Block T) (gone n : ℕ) → length b.items ≡ n
      → part (old ++ b ∷ []) bs gone 0 ≡ part old (b ∷ bs) gone n
  whole_read old bs b gone n long =
      part_same
      (ap (λ l. drop gone (l ++ [])) (flat_more old b) ∙ ap (drop gone) (append-nil (flat old ++ b.items))
      ∙ ap (λ l. drop gone (flat old ++ l)) (sym (take_at b.items (flat bs) n long)))
      (sym (drop_at b.items (flat bs) n long))

  -- some more of what was read are gone
  pub some_gone : (old waiting : List (Block T)) (gone begun count : ℕ) → begun ≤ length (flat waiting) → gone + count ≤ length (flat old) + begun
      → part old waiting (gone + count) begun ≡ without count (part old waiting gone begun)
  some_gone old waiting gone begun count inside within =
      let behind = flat old ++ take begun (flat waiting) in
      let none : 0 ≡ count - length (drop gone behind) = omega (arith, length_seen old waiting gone begun inside, within) in
      part_same (sym (drop-drop count gone behind)) (ap (λ n. drop n (drop begun (flat waiting))) none)

  -- all of the first block is gone, which was read whole
  pub whole_gone : (b : Block T) (bs waiting : List (Block T)) (begun n : ℕ) → length b.items ≡ n
      → part bs waiting 0 begun ≡ part (b ∷ bs) waiting n begun
  whole_gone b bs waiting begun n long =
      let taken = take begun (flat waiting) in
      part_same (sym (ap (drop n) (append_assoc b.items (flat bs) taken) ∙ drop_at b.items (flat bs ++ taken) n long)) refl

  -- more are gone than were read, and none was read whole
  pub unread_gone : (waiting : List (Block T)) (gone begun count : ℕ) → gone ≤ begun → begun ≤ gone + count → gone + count ≤ length (flat waiting)
      → part [] waiting (gone + count) (gone + count) ≡ without count (part [] waiting gone begun)
  unread_gone waiting gone begun count before beyond within =
      let all = flat waiting in
      let n = gone + count in
      let left : begun + (count - length (drop gone (take begun all))) ≡ n =
      omega (arith, length_seen [] waiting gone begun (omega (arith, beyond, within)), before, beyond) in
      part_same
      (drop_all n (take n all) (omega (arith, length-take n all))
      ∙ sym (drop-drop count gone (take begun all) ∙ drop_all n (take begun all) (omega (arith, length-take begun all, beyond))))
      (sym (drop-drop (count - length (drop gone (take begun all))) begun all ∙ ap (λ m. drop m all) left))

  -- all of the first block is gone, which waits
  pub waiting_gone : (b : Block T) (bs : List (Block T)) (n : ℕ) → length b.items ≡ n → part [] bs 0 0 ≡ part [] (b ∷ bs) n n
  waiting_gone b bs n long =
      part_same
      (sym (ap (drop n) (take_at b.items (flat bs) n long) ∙ drop_all n b.items (omega (arith, long))))
      (sym (drop_at b.items (flat bs) n long))

  -- two lists of the pool are set
  pub record AreSet (all all' : List (List (Block T))) (a b : ℕ) (xs ys : List (Block T)) : Type 0 where
    -- there are as many lists
    pub lists : length all' ≡ length all
    -- the one is there
    pub first : list_of all' a ≡ xs
    -- and the other one
    pub second : list_of all' b ≡ ys
    -- the others are as they were
    pub others : (k : ℕ) → k ≢ a → k ≢ b → list_of all' k ≡ list_of all k

  pub are_set : (all all' : List (List (Block T))) (a b : ℕ) (xs ys : List (Block T)) → all' ≡ set (set all a xs) b ys → a ≢ b → a < length all → b < length all
      → AreSet all all' a b xs ys
  are_set all all' a b xs ys is apart in_a in_b = rw is (record {
    lists = length-set (set all a xs) b ys ∙ length-set all a xs;
    first = get_or-set_other (set all a xs) b a ys [] apart ∙ get_or-set_same all a xs [] in_a;
    second = get_or-set_same (set all a xs) b ys [] (omega (arith, in_b, length-set all a xs));
    others = λ k not_a not_b. get_or-set_other (set all a xs) b k ys [] not_b ∙ get_or-set_other all a k xs [] not_a;
  })

  -- one list of the pool is set
  pub record IsSet (all all' : List (List (Block T))) (a : ℕ) (xs : List (Block T)) : Type 0 where
    -- there are as many lists
    pub lists : length all' ≡ length all
    -- the one is there
    pub here : list_of all' a ≡ xs
    -- the others are as they were
    pub others : (k : ℕ) → k ≢ a → list_of all' k ≡ list_of all k

  pub is_set : (all all' : List (List (Block T))) (a : ℕ) (xs : List (Block T)) → all' ≡ set all a xs → a < length all → IsSet all all' a xs
  is_set all all' a xs is within = rw is (record {
    lists = length-set all a xs;
    here = get_or-set_same all a xs [] within;
    others = λ k other. get_or-set_other all a k xs [] other;
  })

-- the lists of one edge are three
pub lists_apart : (i : ℕ) → (seen_list i ≢ 0) × (waiting_list i ≢ 0) × (seen_list i ≢ waiting_list i)
lists_apart i = (λ h. omega (arith, h), λ h. omega (arith, h), λ h. omega (arith, h))

module _ {T : Type 0} where
  -- where some wait there is a block
  pub waiting_there : {old waiting : List (Block T)} {far : Far} → IsFar old waiting far → 0 < far.waits → 0 < length waiting
  waiting_there {old} {waiting} {far} is some = by_blocks waiting is.waits
    where
      by_blocks : (bs : List (Block T)) → far.waits + far.begun ≡ length (flat bs) → 0 < length bs
      by_blocks [] long = absurd (omega (arith, long, some))
      by_blocks (b ∷ bs) long = omega arith

  -- where none wait there is none
  pub waiting_none : {old waiting : List (Block T)} {far : Far} → IsFar old waiting far → far.waits ≡ 0 → (waiting ≡ []) × (far.begun ≡ 0)
  waiting_none {old} {waiting} {far} is none = by_blocks waiting is.begun is.waits
    where
      by_blocks : (bs : List (Block T)) → BeginsIn far.begun bs → far.waits + far.begun ≡ length (flat bs) → (bs ≡ []) × (far.begun ≡ 0)
      by_blocks [] begun long = (refl, begun)
      by_blocks (b ∷ bs) begun long = absurd (omega (arith, long, none, begun, length-append b.items (flat bs)))

  -- where no part lies in a block there is none
  pub none_far : {old waiting : List (Block T)} {far : Far} → IsFar old waiting far → far.seen ≡ 0 → far.waits ≡ 0
      → (old ≡ []) × (waiting ≡ []) × (far.gone ≡ 0) × (far.begun ≡ 0)
  none_far {old} {waiting} {far} is none_seen none_waits =
      let w = waiting_none is none_waits in
      let o = by_blocks old is.gone is.seen w.1 in
      (o.0, w.0, o.1, w.1)
    where
      by_blocks : (bs : List (Block T)) → GoneIn far.gone far.begun bs → far.seen + far.gone ≡ length (flat bs) + far.begun → far.begun ≡ 0
          → (bs ≡ []) × (far.gone ≡ 0)
      by_blocks [] gone long begun = (refl, omega (arith, long, none_seen, begun))
      by_blocks (b ∷ bs) gone long begun = absurd (omega (arith, long, none_seen, begun, gone, length-append b.items (flat bs)))

  -- no more was read than there is
  pub begun_within : {old waiting : List (Block T)} {far : Far} → IsFar old waiting far → far.begun ≤ length (flat waiting)
  begun_within is = omega (arith, is.waits)

  pub gone_within : {old waiting : List (Block T)} {far : Far} → IsFar old waiting far → far.gone ≤ length (flat old) + far.begun
  gone_within is = omega (arith, is.seen)

  -- a block that is next begins at its first part
  begins_next : (bs : List (Block T)) → AreFilled bs → BeginsIn 0 bs
  begins_next [] filled = refl
  begins_next (b ∷ bs) filled = filled.0

  gone_next : (bs : List (Block T)) (begun : ℕ) → AreFilled bs → GoneIn 0 begun bs
  gone_next [] begun filled = omega arith
  gone_next (b ∷ bs) begun filled = filled.0

  gone_later : (old : List (Block T)) (gone begun later : ℕ) → begun ≤ later → GoneIn gone begun old → GoneIn gone later old
  gone_later [] gone begun later le is = omega (arith, le, is)
  gone_later (b ∷ bs) gone begun later le is = is

  gone_more : (old : List (Block T)) (b : Block T) (gone begun later : ℕ) → begun < length b.items → GoneIn gone begun old → GoneIn gone later (old ++ b ∷ [])
  gone_more [] b gone begun later lt is = omega (arith, lt, is)
  gone_more (c ∷ bs) b gone begun later lt is = is

  -- the counts once a part was read that is not the last of its block
  pub far_read : (old bs : List (Block T)) (b : Block T) (far : Far) → IsFar old (b ∷ bs) far → 0 < far.waits → far.begun + 1 < length b.items
      → IsFar old (b ∷ bs) (record { gone = far.gone; begun = far.begun + 1; seen = far.seen + 1; waits = far.waits - 1 })
  far_read old bs b far is some within = record {
    begun = within;
    gone = gone_later old far.gone far.begun (far.begun + 1) (omega arith) is.gone;
    seen = omega (arith, is.seen);
    waits = omega (arith, is.waits, some);
    few = omega (arith, is.few, some);
    filled = is.filled;
  }

  -- and where it is the last one
  pub far_read_whole : (old bs : List (Block T)) (b : Block T) (far : Far) → IsFar old (b ∷ bs) far → 0 < far.waits → far.begun + 1 ≡ length b.items
      → IsFar (old ++ b ∷ []) bs (record { gone = far.gone; begun = 0; seen = far.seen + 1; waits = far.waits - 1 })
  far_read_whole old bs b far is some whole = record {
    begun = begins_next bs is.filled.1.1;
    gone = gone_more old b far.gone far.begun 0 (omega (arith, whole)) is.gone;
    seen = omega (arith, is.seen, whole, ap length (flat_more old b), length-append (flat old) b.items);
    waits = omega (arith, is.waits, some, whole, length-append b.items (flat bs));
    few = omega (arith, is.few, some);
    filled = (filled_more old b is.filled.0 is.filled.1.0, is.filled.1.1);
  }

  -- and once all of it is gone
  pub far_gone_whole : (bs waiting : List (Block T)) (b : Block T) (far : Far) (count : ℕ) → IsFar (b ∷ bs) waiting far → far.gone + count ≡ length b.items
      → IsFar bs waiting (record { gone = 0; begun = far.begun; seen = far.seen - count; waits = far.waits })
  far_gone_whole bs waiting b far count is whole = record {
    begun = is.begun;
    gone = gone_next bs far.begun is.filled.0.1;
    seen = omega (arith, is.seen, whole, length-append b.items (flat bs));
    waits = is.waits;
    few = omega (arith, is.few);
    filled = (is.filled.0.1, is.filled.1);
  }

  -- and once all of it is gone
  pub far_gone_waiting : (bs : List (Block T)) (b : Block T) (far : Far) (count : ℕ) → IsFar [] (b ∷ bs) far → far.begun ≤ far.gone + count
      → far.gone + count ≡ length b.items → IsFar [] bs (record { gone = 0; begun = 0; seen = 0; waits = far.waits - (far.gone + count - far.begun) })
  far_gone_waiting bs b far count is beyond whole = record {
    begun = begins_next bs is.filled.1.1;
    gone = omega arith;
    seen = refl;
    waits = omega (arith, is.waits, beyond, whole, length-append b.items (flat bs));
    few = omega (arith, is.few);
    filled = (tt, is.filled.1.1);
  }

  -- a block comes that was read whole, where none waits
  pub far_more_seen : (old : List (Block T)) (b : Block T) (far : Far) → IsFar old [] far → 0 < length b.items
      → far.seen + far.waits + length b.items ≤ 4611686018427387904
      → IsFar (old ++ b ∷ []) [] (record { gone = far.gone; begun = far.begun; seen = far.seen + length b.items; waits = far.waits })
  far_more_seen old b far is some few = record {
    begun = is.begun;
    gone = gone_more old b far.gone far.begun far.begun (omega (arith, is.begun, some)) is.gone;
    seen = omega (arith, is.seen, ap length (flat_more old b), length-append (flat old) b.items);
    waits = is.waits;
    few = omega (arith, few);
    filled = (filled_more old b is.filled.0 some, tt);
  }

  begins_more : (waiting : List (Block T)) (b : Block T) (begun read : ℕ) → BeginsIn begun waiting → read < length b.items
      → (0 < length waiting → read ≡ 0) → BeginsIn (begun + read) (waiting ++ b ∷ [])
  begins_more [] b begun read is lt none = omega (arith, is, lt)
  begins_more (c ∷ bs) b begun read is lt none = omega (arith, is, none (omega arith))

  -- a block comes of which some were read; none, where others wait
  pub far_more_waiting : (old waiting : List (Block T)) (b : Block T) (far : Far) (read : ℕ) → IsFar old waiting far → read < length b.items
      → (0 < length waiting → read ≡ 0) → far.seen + far.waits + length b.items ≤ 4611686018427387904
      → IsFar old (waiting ++ b ∷ [])
      (record { gone = far.gone; begun = far.begun + read; seen = far.seen + read; waits = far.waits + (length b.items - read) })
  far_more_waiting old waiting b far read is lt none few = record {
    begun = begins_more waiting b far.begun read is.begun lt none;
    gone = gone_later old far.gone far.begun (far.begun + read) (omega arith) is.gone;
    seen = omega (arith, is.seen);
    waits = omega (arith, is.waits, lt, ap length (flat_more waiting b), length-append (flat waiting) b.items);
    few = omega (arith, few, lt);
    filled = (is.filled.0, filled_more waiting b is.filled.1 (omega (arith, lt)));
  }
