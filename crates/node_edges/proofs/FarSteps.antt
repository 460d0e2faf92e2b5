-- The steps of the calls on an edge's blocks.
use Rattle.std.proofs.Common.{◌≡◌, ◌≢◌, ◌⊎◌, inl, inr, ℕ, zero, suc, ◌+◌, ◌-◌, ◌<◌, ◌≤◌, List, [], ◌∷◌, ◌++◌, take, drop, set, get_or, length}
use Rattle.std.proofs.Common.{slice_get, Some, None, Option, IfSome, sym, ap, subst, ◌∙◌, arith, append_assoc, length-append, length-drop, length-take}
use Rattle.std.proofs.lemmas.List.{append-nil, drop-append-le, drop_all, take-append-drop, take-append-le, take_all}
use Rattle.std.specs.Prelude.{IsSome}
use Rattle.std.specs.Borrow.{Bor}
use Rattle.std.specs.Option.{option_copied}
use Rattle.std.proofs.lemmas.Bool.{cases_eq, false≢true}
use Rattle.std.proofs.lemmas.Option.{same_Some}
use Rattle.rational.proofs.Lists.{slice_get-append_left, slice_get-drop, slice_get_there}
use Rattle.rational.specs.Rational.{Rational, ◌≤ʳ◌}
use Rattle.node_edges.proofs.DroppingLemmas.{held_of-without}
use Rattle.node_edges.specs.Held.{Edge, held_of, with_read, without}
use Rattle.node_edges.specs.declared.far.Far.{Far}
use Rattle.node_edges.specs.declared.queue.Queue.{Queue}
use Rattle.node_edges.specs.Queues.{Block, behind, edge_of, flat, far_at, far_of, first_blocks, list_of, seen_list, waiting_list, BeginsIn, HasGone}
use Rattle.node_edges.specs.Queues.{HasMoved, HasSoMany, IsFar, IsFarAt}
use Rattle.node_edges.proofs.FarLemmas as blocks
use Rattle.node_edges.specs.Members.{PartOf}

-- what stands at a place that was read
pub get_at : {X : Type 0} (xs : List X) (n : ℕ) (x : X) → n < length xs → x ≡ get_or xs n x → slice_get xs n ≡ Some x
get_at [] n x below here = absurd (omega (arith, below))
get_at (y ∷ xs) zero x below here = ap Some (sym here)
get_at (y ∷ xs) (suc n) x below here = get_at xs n x (omega (arith, below)) here

module _ {T : Type 0} where
  -- what lies in an edge's blocks, by its lists
  pub far_by : (all : List (List (Block T))) (i : ℕ) (far : Far) {old waiting : List (Block T)} → list_of all (seen_list i) ≡ old
      → list_of all (waiting_list i) ≡ waiting → far_at all i far ≡ far_of old waiting far
  far_by all i far {old} {waiting} s w = ap (λ l. far_of l (list_of all (waiting_list i)) far) s ∙ ap (λ l. far_of old l far) w

  pub is_far_by : (all : List (List (Block T))) (i : ℕ) (far : Far) {old waiting : List (Block T)} → waiting_list i < length all → i < 2147483647
      → list_of all (seen_list i) ≡ old → list_of all (waiting_list i) ≡ waiting → IsFar old waiting far → IsFarAt all i far
  is_far_by all i far {old} {waiting} lists fits s w is = record {
    lists = lists;
    fits = fits;
    is = subst (λ l. IsFar l (list_of all (waiting_list i)) far) (sym s) (subst (λ l. IsFar old l far) (sym w) is);
  }

-- the counts after a part was read, in the same block, and at its end
abbrev pub read_on : Far → Far
read_on far = record { gone = far.gone; begun = far.begun + 1; seen = far.seen + 1; waits = far.waits - 1 }

abbrev pub read_out : Far → Far
read_out far = record { gone = far.gone; begun = 0; seen = far.seen + 1; waits = far.waits - 1 }

module _ {T : Type 0} where
  -- the first block has that many
  abbrev pub IsWhole : List (Block T) → ℕ → Type 0
  IsWhole bs n = IfSome (slice_get bs 0) (λ b. length b.items ≡ n)

  -- the next part, among all that wait
  next_at : (old waiting : List (Block T)) (far : Far) (v : T) → slice_get (far_of old waiting far).fresh 0 ≡ Some v
      → slice_get (flat waiting) far.begun ≡ Some v
  next_at old waiting far v first =
      let n : far.begun ≡ far.begun + 0 = omega arith in
      ap (slice_get (flat waiting)) n ∙ sym (slice_get-drop far.begun (flat waiting) 0) ∙ first

  -- a part is read, behind which more of its block follow
  pub read_part : (old waiting : List (Block T)) (far : Far) → IsFar old waiting far → 0 < far.waits → (IsWhole waiting (far.begun + 1) → ⊥)
      → ((v : T) → slice_get (far_of old waiting far).fresh 0 ≡ Some v → far_of old waiting (read_on far) ≡ with_read (far_of old waiting far) v)
      × IsFar old waiting (read_on far)
  read_part old [] far is some part = absurd (omega (arith, is.waits, some))
  read_part old (c ∷ bs) far is some part =
      let within : far.begun + 1 < length c.items =
      blocks.less_of_not (far.begun + 1) (length c.items) (omega (arith, is.begun)) (λ e. part (sym e)) in (
        λ v first. blocks.one_read old (c ∷ bs) far.gone far.begun v (next_at old (c ∷ bs) far v first) (blocks.begun_within is) (blocks.gone_within is),
        blocks.far_read old bs c far is some within,
      )

  -- the last part of a block is read
  pub read_whole : (old waiting : List (Block T)) (far : Far) → IsFar old waiting far → 0 < far.waits → IsWhole waiting (far.begun + 1)
      → ((v : T) → slice_get (far_of old waiting far).fresh 0 ≡ Some v
      → far_of (old ++ take 1 waiting) (drop 1 waiting) (read_out far) ≡ with_read (far_of old waiting far) v)
      × IsFar (old ++ take 1 waiting) (drop 1 waiting) (read_out far)
  read_whole old [] far is some whole = absurd (omega (arith, is.waits, some))
  read_whole old (c ∷ bs) far is some whole = (
    λ v first. blocks.whole_read old bs c far.gone (far.begun + 1) whole
        ∙ blocks.one_read old (c ∷ bs) far.gone far.begun v (next_at old (c ∷ bs) far v first) (blocks.begun_within is) (blocks.gone_within is),
    blocks.far_read_whole old bs c far is some (sym whole),
  )

-- the counts after some are gone
abbrev pub gone_on : Far → ℕ → Far
gone_on far n = record { gone = far.gone + n; begun = far.begun; seen = far.seen - n; waits = far.waits }

abbrev pub gone_out : Far → ℕ → Far
gone_out far n = record { gone = 0; begun = far.begun; seen = far.seen - n; waits = far.waits }

abbrev pub gone_unread : Far → ℕ → Far
gone_unread far n = record { gone = far.gone + n; begun = far.gone + n; seen = 0; waits = far.waits - (far.gone + n - far.begun) }

abbrev pub gone_waiting : Far → ℕ → Far
gone_waiting far n = record { gone = 0; begun = 0; seen = 0; waits = far.waits - (far.gone + n - far.begun) }

module _ {T : Type 0} where
  -- all of it is gone
  pub seen_gone_whole : (old waiting : List (Block T)) (far : Far) (n : ℕ) → IsFar old waiting far → 0 < length old → IsWhole old (far.gone + n)
      → (far_of (drop 1 old) waiting (gone_out far n) ≡ without n (far_of old waiting far)) × IsFar (drop 1 old) waiting (gone_out far n)
  seen_gone_whole [] waiting far n is some whole = absurd (omega (arith, some))
  seen_gone_whole (b ∷ bs) waiting far n is some whole = (
    blocks.whole_gone b bs waiting far.begun (far.gone + n) whole
        ∙ blocks.some_gone (b ∷ bs) waiting far.gone far.begun n (blocks.begun_within is)
        (omega (arith, whole, length-append b.items (flat bs))),
    blocks.far_gone_whole bs waiting b far n is (sym whole),
  )

  -- all of it is gone
  pub more_gone_whole : (waiting : List (Block T)) (far : Far) (n : ℕ) → IsFar [] waiting far → 0 < length waiting → far.begun ≤ far.gone + n
      → IsWhole waiting (far.gone + n)
      → (far_of [] (drop 1 waiting) (gone_waiting far n) ≡ without n (far_of [] waiting far)) × IsFar [] (drop 1 waiting) (gone_waiting far n)
  more_gone_whole [] far n is some beyond whole = absurd (omega (arith, some))
  more_gone_whole (b ∷ bs) far n is some beyond whole = (
    blocks.waiting_gone b bs (far.gone + n) whole
        ∙ blocks.unread_gone (b ∷ bs) far.gone far.begun n is.gone beyond (omega (arith, whole, length-append b.items (flat bs))),
    blocks.far_gone_waiting bs b far n is beyond (sym whole),
  )

  -- all that lies in blocks
  pub held_far : (old waiting : List (Block T)) (far : Far) → IsFar old waiting far
      → held_of (far_of old waiting far) ≡ drop far.gone (flat old ++ flat waiting)
  held_far old waiting far is =
      let front = flat old ++ take far.begun (flat waiting) in
      let within : far.gone ≤ length front =
      omega (
        arith,
        length-append (flat old) (take far.begun (flat waiting)),
        length-take far.begun (flat waiting),
        blocks.begun_within is,
        blocks.gone_within is,
      ) in
      sym (drop-append-le far.gone front (drop far.begun (flat waiting)) within)
      ∙ ap (drop far.gone) (append_assoc (flat old) (take far.begun (flat waiting)) (drop far.begun (flat waiting))
      ∙ ap (λ l. flat old ++ l) (take-append-drop far.begun (flat waiting)))

  -- what is gone of the first block is not all of it
  pub gone_below : (old waiting : List (Block T)) (b : Block T) (far : Far) → IsFar old waiting far → slice_get (first_blocks old waiting) 0 ≡ Some b
      → far.gone < length b.items
  gone_below [] [] b far is first = cc
  gone_below [] (c ∷ cs) b far is first =
      let e : c ≡ b = same_Some c b first in
      subst (λ (x : Block T). far.gone < length x.items) e (omega (arith, is.gone, is.begun))
  gone_below (c ∷ cs) waiting b far is first = subst (λ (x : Block T). far.gone < length x.items) (same_Some c b first) is.gone

  -- the parts of the first block that are not gone are the first ones
  pub first_held : (old waiting : List (Block T)) (b : Block T) (far : Far) (k : ℕ) (v : T) → IsFar old waiting far
      → slice_get (first_blocks old waiting) 0 ≡ Some b → slice_get b.items (far.gone + k) ≡ Some v
      → slice_get (held_of (far_of old waiting far)) k ≡ Some v
  first_held old waiting b far k v is first here =
      ap (λ l. slice_get l k) (held_far old waiting far is) ∙ slice_get-drop far.gone (flat old ++ flat waiting) k ∙ by_blocks old waiting first
    where
      by_blocks : (os ws : List (Block T)) → slice_get (first_blocks os ws) 0 ≡ Some b → slice_get (flat os ++ flat ws) (far.gone + k) ≡ Some v
      by_blocks [] [] first = cc
      by_blocks [] (c ∷ cs) first =
          slice_get-append_left c.items (flat cs) (far.gone + k) v
          (subst (λ (x : Block T). slice_get x.items (far.gone + k) ≡ Some v) (sym (same_Some c b first)) here)
      by_blocks (c ∷ cs) ws first =
          slice_get-append_left (c.items ++ flat cs) (flat ws) (far.gone + k) v
          (slice_get-append_left c.items (flat cs) (far.gone + k) v
          (subst (λ (x : Block T). slice_get x.items (far.gone + k) ≡ Some v) (sym (same_Some c b first)) here))

  -- where a part lies in a block there is a block
  pub some_first : (old waiting : List (Block T)) (far : Far) → IsFar old waiting far → 0 < far.seen + far.waits → 0 < length (first_blocks old waiting)
  some_first [] [] far is some = absurd (omega (arith, some, is.seen, is.waits, is.begun, is.gone))
  some_first [] (c ∷ cs) far is some = omega arith
  some_first (c ∷ cs) waiting far is some = omega arith

  -- all at hand, which was read, becomes a block
  pub seen_handed : (old : List (Block T)) (b : Block T) (far : Far) (near near' : Queue T) → IsFar old [] far → near.items ≡ b → near.read ≡ length b.items
      → near'.items.items ≡ [] → near'.read ≡ 0 → near'.number ≡ near.number → near'.joins ≡ near.joins
      → behind (far_of (old ++ b ∷ []) [] (record { gone = far.gone; begun = far.begun; seen = far.seen + length b.items; waits = far.waits })) (edge_of near')
      ≡ behind (far_of old [] far) (edge_of near)
  seen_handed old b far near near' is items read items' read' number joins =
      let within : far.gone ≤ length (flat old) = omega (arith, is.seen, is.begun) in
      let nothing : (k : ℕ) → take {A = T} k [] ≡ [] = λ k. take_all k [] (omega arith) in
      let nothing_left : (k : ℕ) → drop {A = T} k [] ≡ [] = λ k. drop_all k [] (omega arith) in
      let seen : drop far.gone (flat (old ++ b ∷ []) ++ take far.begun []) ++ take near'.read near'.items.items
      ≡ drop far.gone (flat old ++ take far.begun []) ++ take near.read near.items.items =
      ap (λ l. drop far.gone (flat (old ++ b ∷ []) ++ take far.begun []) ++ take near'.read l) items'
      ∙ ap (λ l. drop far.gone (flat (old ++ b ∷ []) ++ take far.begun []) ++ l) (nothing near'.read)
      ∙ append-nil (drop far.gone (flat (old ++ b ∷ []) ++ take far.begun []))
      ∙ ap (λ l. drop far.gone (flat (old ++ b ∷ []) ++ l)) (nothing far.begun)
      ∙ ap (drop far.gone) (append-nil (flat (old ++ b ∷ [])) ∙ blocks.flat_more old b)
      ∙ drop-append-le far.gone (flat old) b.items within
      ∙ ap (λ l. drop far.gone l ++ b.items) (sym (append-nil (flat old)) ∙ ap (λ l. flat old ++ l) (sym (nothing far.begun)))
      ∙ ap (λ l. drop far.gone (flat old ++ take far.begun []) ++ l) (sym (take_all near.read b.items (omega (arith, read))))
      ∙ ap (λ (q : Block T). drop far.gone (flat old ++ take far.begun []) ++ take near.read q.items) (sym items) in
      let fresh : drop {A = T} far.begun [] ++ drop near'.read near'.items.items ≡ drop far.begun [] ++ drop near.read near.items.items =
      ap (λ l. drop {A = T} far.begun [] ++ drop near'.read l) items' ∙ ap (λ l. drop {A = T} far.begun [] ++ l) (nothing_left near'.read)
      ∙ ap (λ l. drop {A = T} far.begun [] ++ l) (sym (drop_all near.read b.items (omega (arith, read))))
      ∙ ap (λ (q : Block T). drop far.begun [] ++ drop near.read q.items) (sym items) in
      blocks.edges_same seen fresh number joins

  -- all at hand becomes a block that waits, of which some may be read
  pub waiting_handed : (old waiting : List (Block T)) (b : Block T) (far : Far) (near near' : Queue T) → IsFar old waiting far → near.items ≡ b
      → near.read < length b.items → (0 < length waiting → near.read ≡ 0)
      → near'.items.items ≡ [] → near'.read ≡ 0 → near'.number ≡ near.number → near'.joins ≡ near.joins
      → behind (far_of old (waiting ++ b ∷ []) (record {
        gone = far.gone;
        begun = far.begun + near.read;
        seen = far.seen + near.read;
        waits = far.waits + (length b.items - near.read);
      })) (edge_of near')
      ≡ behind (far_of old waiting far) (edge_of near)
  waiting_handed old waiting b far near near' is items read none items' read' number joins =
      blocks.edges_same
      (ap (λ l. drop far.gone (flat old ++ take (far.begun + near.read) (flat (waiting ++ b ∷ []))) ++ take near'.read l) items'
      ∙ ap (λ l. drop far.gone (flat old ++ take (far.begun + near.read) (flat (waiting ++ b ∷ []))) ++ l) (take_all near'.read [] (omega arith))
      ∙ append-nil (drop far.gone (flat old ++ take (far.begun + near.read) (flat (waiting ++ b ∷ []))))
      ∙ ap (λ l. drop far.gone (flat old ++ l)) (both.0)
      ∙ ap (drop far.gone) (sym (append_assoc (flat old) (take far.begun (flat waiting)) (take near.read b.items)))
      ∙ drop-append-le far.gone (flat old ++ take far.begun (flat waiting)) (take near.read b.items) within
      ∙ ap (λ (q : Block T). drop far.gone (flat old ++ take far.begun (flat waiting)) ++ take near.read q.items) (sym items))
      (ap (λ l. drop (far.begun + near.read) (flat (waiting ++ b ∷ [])) ++ drop near'.read l) items'
      ∙ ap (λ l. drop (far.begun + near.read) (flat (waiting ++ b ∷ [])) ++ l) (drop_all near'.read [] (omega arith))
      ∙ append-nil (drop (far.begun + near.read) (flat (waiting ++ b ∷ []))) ∙ both.1
      ∙ ap (λ (q : Block T). drop far.begun (flat waiting) ++ drop near.read q.items) (sym items))
      number joins
    where
      within : far.gone ≤ length (flat old ++ take far.begun (flat waiting))
      within =
          omega (
            arith,
            length-append (flat old) (take far.begun (flat waiting)),
            length-take far.begun (flat waiting),
            blocks.begun_within is,
            blocks.gone_within is,
          )

      both : (take (far.begun + near.read) (flat (waiting ++ b ∷ [])) ≡ take far.begun (flat waiting) ++ take near.read b.items)
          × (drop (far.begun + near.read) (flat (waiting ++ b ∷ [])) ≡ drop far.begun (flat waiting) ++ drop near.read b.items)
      both = by_blocks waiting is.begun (blocks.begun_within is) none
        where
          by_blocks : (ws : List (Block T)) → BeginsIn far.begun ws → far.begun ≤ length (flat ws) → (0 < length ws → near.read ≡ 0)
              → (take (far.begun + near.read) (flat (ws ++ b ∷ [])) ≡ take far.begun (flat ws) ++ take near.read b.items)
              × (drop (far.begun + near.read) (flat (ws ++ b ∷ [])) ≡ drop far.begun (flat ws) ++ drop near.read b.items)
          by_blocks [] zero_begun inside unread =
              let n : far.begun + near.read ≡ near.read = omega (arith, zero_begun) in (
                ap (λ l. take (far.begun + near.read) l) (append-nil b.items) ∙ ap (λ k. take k b.items) n
                    ∙ ap (λ l. l ++ take near.read b.items) (sym (take_all {A = T} far.begun [] (omega arith))),
                ap (λ l. drop (far.begun + near.read) l) (append-nil b.items) ∙ ap (λ k. drop k b.items) n
                    ∙ ap (λ l. l ++ drop near.read b.items) (sym (drop_all {X = T} far.begun [] (omega arith))),
              )
          by_blocks (c ∷ cs) begun inside unread =
              let zero_read : near.read ≡ 0 = unread (omega arith) in
              let n : far.begun + near.read ≡ far.begun = omega (arith, zero_read) in (
                ap (λ l. take (far.begun + near.read) l) (blocks.flat_more (c ∷ cs) b) ∙ ap (λ k. take k (flat (c ∷ cs) ++ b.items)) n
                    ∙ take-append-le far.begun (flat (c ∷ cs)) b.items inside ∙ sym (append-nil (take far.begun (flat (c ∷ cs))))
                    ∙ ap (λ k. take far.begun (flat (c ∷ cs)) ++ take k b.items) (sym zero_read),
                ap (λ l. drop (far.begun + near.read) l) (blocks.flat_more (c ∷ cs) b) ∙ ap (λ k. drop k (flat (c ∷ cs) ++ b.items)) n
                    ∙ drop-append-le far.begun (flat (c ∷ cs)) b.items inside
                    ∙ ap (λ k. drop far.begun (flat (c ∷ cs)) ++ drop k b.items) (sym zero_read),
              )

  -- so many are of the first block
  pub fits_first : (bs : List (Block T)) (b : Block T) (n : ℕ) → slice_get bs 0 ≡ Some b → n ≤ length b.items → HasSoMany n bs
  fits_first [] b n first le = cc
  fits_first (c ∷ bs) b n first le = subst (λ (x : Block T). n ≤ length x.items) (sym (same_Some c b first)) le

  -- the parts of the first block that are not gone are no more than all
  pub first_within : (old waiting : List (Block T)) (b : Block T) (far : Far) → IsFar old waiting far → slice_get (first_blocks old waiting) 0 ≡ Some b
      → length b.items ≤ far.gone + length (held_of (far_of old waiting far))
  first_within old waiting b far is first =
      omega (
        arith,
        ap length (held_far old waiting far is),
        length-drop far.gone (flat old ++ flat waiting),
        length-append (flat old) (flat waiting),
        by_blocks old waiting first,
      )
    where
      by_blocks : (os ws : List (Block T)) → slice_get (first_blocks os ws) 0 ≡ Some b → length b.items ≤ length (flat os) + length (flat ws)
      by_blocks [] [] first = cc
      by_blocks [] (c ∷ cs) first =
          subst (λ (x : Block T). length x.items ≤ 0 + length (flat (c ∷ cs))) (same_Some c b first) (omega (arith, length-append c.items (flat cs)))
      by_blocks (c ∷ cs) ws first =
          subst (λ (x : Block T). length x.items ≤ length (flat (c ∷ cs)) + length (flat ws)) (same_Some c b first)
          (omega (arith, length-append c.items (flat cs)))

  -- how many lie in blocks
  pub length_far : (old waiting : List (Block T)) (far : Far) → IsFar old waiting far → length (held_of (far_of old waiting far)) ≡ far.seen + far.waits
  length_far old waiting far is =
      omega (
        arith,
        ap length (held_far old waiting far is),
        length-drop far.gone (flat old ++ flat waiting),
        length-append (flat old) (flat waiting),
        is.seen,
        is.waits,
      )

  -- what is at the front of a list of the pool
  pub front_at : (all : List (List (Block T))) (list i : ℕ) (o : Option (Block T)) → list ≡ i → o ≡ slice_get (get_or all list []) 0
      → slice_get (list_of all i) 0 ≡ o
  front_at all list i o same is = sym (is ∙ ap (λ k. slice_get (get_or all k []) 0) same)

  -- once a block of those that wait was read whole
  pub after_read_whole : (all all' : List (List (Block T))) (i from to : ℕ) (far : Far) → IsFarAt all i far → from ≡ waiting_list i → to ≡ seen_list i
      → all' ≡ set (set all from (drop 1 (get_or all from []))) to (get_or all to [] ++ take 1 (get_or all from []))
      → 0 < far.waits → IsWhole (list_of all (waiting_list i)) (far.begun + 1)
      → ((v : T) → slice_get (far_at all i far).fresh 0 ≡ Some v → far_at all' i (read_out far) ≡ with_read (far_at all i far) v)
      × IsFarAt all' i (read_out far) × HasMoved i all all'
  after_read_whole all all' i from to far at is_from is_to moved some whole =
      let set_is : all' ≡ set (set all (waiting_list i) (drop 1 (list_of all (waiting_list i)))) (seen_list i)
      (list_of all (seen_list i) ++ take 1 (list_of all (waiting_list i))) =
      subst (λ n. all' ≡ set (set all n (drop 1 (list_of all n))) (seen_list i) (list_of all (seen_list i) ++ take 1 (list_of all n))) is_from
      (subst (λ n. all' ≡ set (set all from (drop 1 (list_of all from))) n (list_of all n ++ take 1 (list_of all from))) is_to moved) in
      let apart = blocks.lists_apart i in
      let now = blocks.are_set all all' (waiting_list i) (seen_list i) _ _ set_is (λ h. apart.2 (sym h)) at.lists (omega (arith, at.lists)) in
      let it = read_whole (list_of all (seen_list i)) (list_of all (waiting_list i)) far at.is some whole in (
        λ v first. far_by all' i (read_out far) now.second now.first ∙ it.0 v first,
        is_far_by all' i (read_out far) (omega (arith, at.lists, now.lists)) at.fits now.second now.first it.1,
        record { lists = now.lists; others = λ k none not_seen not_waiting. now.others k not_waiting not_seen },
      )

  -- once a block that was read whole is gone
  pub after_seen_gone : (all all' : List (List (Block T))) (i from to n : ℕ) (far : Far) → IsFarAt all i far → from ≡ seen_list i → to ≡ 0
      → all' ≡ set (set all from (drop 1 (get_or all from []))) to (get_or all to [] ++ take 1 (get_or all from []))
      → 0 < length (list_of all (seen_list i)) → IsWhole (list_of all (seen_list i)) (far.gone + n)
      → (far_at all' i (gone_out far n) ≡ without n (far_at all i far)) × IsFarAt all' i (gone_out far n) × HasMoved i all all'
  after_seen_gone all all' i from to n far at is_from is_to moved some whole =
      let set_is : all' ≡ set (set all (seen_list i) (drop 1 (list_of all (seen_list i)))) 0 (list_of all 0 ++ take 1 (list_of all (seen_list i))) =
      subst (λ m. all' ≡ set (set all m (drop 1 (list_of all m))) 0 (list_of all 0 ++ take 1 (list_of all m))) is_from
      (subst (λ m. all' ≡ set (set all from (drop 1 (list_of all from))) m (list_of all m ++ take 1 (list_of all from))) is_to moved) in
      let apart = blocks.lists_apart i in
      let now = blocks.are_set all all' (seen_list i) 0 _ _ set_is apart.0 (omega (arith, at.lists)) (omega (arith, at.lists)) in
      let waiting = now.others (waiting_list i) (λ h. apart.2 (sym h)) apart.1 in
      let it = seen_gone_whole (list_of all (seen_list i)) (list_of all (waiting_list i)) far n at.is some whole in (
        far_by all' i (gone_out far n) now.first waiting ∙ it.0,
        is_far_by all' i (gone_out far n) (omega (arith, at.lists, now.lists)) at.fits now.first waiting it.1,
        record { lists = now.lists; others = λ k none not_seen not_waiting. now.others k not_seen none },
      )

  -- once a block that waits is gone
  pub after_waiting_gone : (all all' : List (List (Block T))) (i from to n : ℕ) (far : Far) → IsFarAt all i far → list_of all (seen_list i) ≡ []
      → from ≡ waiting_list i → to ≡ 0
      → all' ≡ set (set all from (drop 1 (get_or all from []))) to (get_or all to [] ++ take 1 (get_or all from []))
      → 0 < length (list_of all (waiting_list i)) → far.begun ≤ far.gone + n → IsWhole (list_of all (waiting_list i)) (far.gone + n)
      → (far_at all' i (gone_waiting far n) ≡ without n (far_at all i far)) × IsFarAt all' i (gone_waiting far n) × HasMoved i all all'
  after_waiting_gone all all' i from to n far at none is_from is_to moved some beyond whole =
      let set_is : all' ≡ set (set all (waiting_list i) (drop 1 (list_of all (waiting_list i)))) 0 (list_of all 0 ++ take 1 (list_of all (waiting_list i))) =
      subst (λ m. all' ≡ set (set all m (drop 1 (list_of all m))) 0 (list_of all 0 ++ take 1 (list_of all m))) is_from
      (subst (λ m. all' ≡ set (set all from (drop 1 (list_of all from))) m (list_of all m ++ take 1 (list_of all from))) is_to moved) in
      let apart = blocks.lists_apart i in
      let now = blocks.are_set all all' (waiting_list i) 0 _ _ set_is apart.1 at.lists (omega (arith, at.lists)) in
      let seen = now.others (seen_list i) apart.2 apart.0 ∙ none in
      let it = more_gone_whole (list_of all (waiting_list i)) far n (subst (λ l. IsFar l (list_of all (waiting_list i)) far) none at.is) some beyond whole in (
        far_by all' i (gone_waiting far n) seen now.first ∙ it.0
            ∙ ap (λ l. without n (far_of l (list_of all (waiting_list i)) far)) (sym none),
        is_far_by all' i (gone_waiting far n) (omega (arith, at.lists, now.lists)) at.fits seen now.first it.1,
        record { lists = now.lists; others = λ k none not_seen not_waiting. now.others k not_waiting none },
      )

module _ {T : Type 0} (old waiting : List (Block T)) (b : Block T) (far : Far) (is : IsFar old waiting far)
    (first : slice_get (first_blocks old waiting) 0 ≡ Some b) (upto : ℕ) (from : far.gone ≤ upto) (next : Edge T)
    (gone : next ≡ without (upto - far.gone) (far_of old waiting far)) where
  -- what is gone of the first block ends by a time
  pub block_gone : {part : PartOf T} (end : Rational) → upto ≤ length b.items
      → ((k : ℕ) → far.gone ≤ k → k < upto → IfSome (slice_get b.items k) (λ v. part.end v ≤ʳ end)) → HasGone part end (far_of old waiting far) next
  block_gone {part} end within ended = record {
    count = upto - far.gone;
    within = omega (arith, first_within old waiting b far is first, within, from);
    is = gone;
    ended = λ k below.
        let at : far.gone + k < length b.items = omega (arith, below, within, from) in
        let there = slice_get_there b.items (far.gone + k) at in
        subst (λ o. IfSome o (λ v. part.end v ≤ʳ end))
        (there.1 ∙ sym (first_held old waiting b far k there.0 is first there.1))
        (ended (far.gone + k) (omega arith) (omega (arith, below, from)));
  }

  -- and what is left of it begins with a part
  pub block_rest : (P : T → Type 0) → upto < length b.items → IfSome (slice_get b.items upto) P
      → (0 < length (held_of next)) × IfSome (slice_get (held_of next) 0) P
  block_rest P part at =
      let count = upto - far.gone in
      let place : far.gone + count ≡ upto = omega (arith, from) in
      let there = slice_get_there b.items upto part in
      let here : slice_get (held_of (far_of old waiting far)) count ≡ Some there.0 =
      first_held old waiting b far count there.0 is first (ap (slice_get b.items) place ∙ there.1) in
      let left : held_of next ≡ drop count (held_of (far_of old waiting far)) = ap held_of gone ∙ held_of-without count (far_of old waiting far) in (
        omega (arith, ap length left, length-drop count (held_of (far_of old waiting far)), first_within old waiting b far is first, part, from),
        subst (λ o. IfSome o P)
            (there.1 ∙ sym (ap (λ l. slice_get l 0) left ∙ slice_get-drop count (held_of (far_of old waiting far)) 0
            ∙ (let n : count + 0 ≡ count = omega arith in ap (slice_get (held_of (far_of old waiting far))) n) ∙ here)) at,
      )

module _ {T : Type 0} where
  -- the first part in blocks stands in the first block
  pub first_of_block : (old waiting : List (Block T)) (b : Block T) (far : Far) → IsFar old waiting far → slice_get (first_blocks old waiting) 0 ≡ Some b
      → slice_get b.items far.gone ≡ slice_get (held_of (far_of old waiting far)) 0
  first_of_block old waiting b far is first =
      let there = slice_get_there b.items far.gone (gone_below old waiting b far is first) in
      let n : far.gone + 0 ≡ far.gone = omega arith in
      there.1 ∙ sym (first_held old waiting b far 0 there.0 is first (ap (slice_get b.items) n ∙ there.1))

  -- a list of the pool by another name
  pub whole_at : (all : List (List (Block T))) (list i n : ℕ) → list ≡ i → IsWhole (list_of all list) n → IsWhole (list_of all i) n
  whole_at all list i n same whole = subst (λ k. IsWhole (list_of all k) n) same whole

  -- what is read of a block
  pub item_copied : (xs : List T) (n : ℕ) (o : Option (Bor T)) → (n < length xs → IsSome o) → IfSome o (λ v. v.now ≡ get_or xs n v.now)
      → n < length xs → option_copied o ≡ slice_get xs n
  item_copied xs n None some same below = absurd (false≢true (some below))
  item_copied xs n (Some v) some same below = sym (get_at xs n v.now below same)

  -- one more is so
  pub each_more : (P : T → Type 0) (xs : List T) (from n : ℕ) (v : T) → ((k : ℕ) → from ≤ k → k < n → IfSome (slice_get xs k) P)
      → slice_get xs n ≡ Some v → P v → (k : ℕ) → from ≤ k → k < n + 1 → IfSome (slice_get xs k) P
  each_more P xs from n v each here so k above below = by_place (cases_eq k n)
    where
      by_place : (k ≡ n) ⊎ (k ≢ n) → IfSome (slice_get xs k) P
      by_place (inl same) = subst (λ o. IfSome o P) (sym (ap (slice_get xs) same ∙ here)) so
      by_place (inr other) = each k above (omega (arith, below, other))

  -- beyond the end nothing is
  pub rest_past : (P : T → Type 0) (xs : List T) (n : ℕ) → length xs ≤ n → IfSome (slice_get xs n) P
  rest_past P [] n le = tt
  rest_past P (x ∷ xs) zero le = absurd (omega (arith, le))
  rest_past P (x ∷ xs) (suc n) le = rest_past P xs n (omega (arith, le))
