-- How a change of one edge, at hand or in blocks, shows in the edges that a caller sees.
use Rattle.std.proofs.Common.{◌≡◌, ◌≢◌, ◌⊎◌, inl, inr, ℕ, zero, suc, ◌+◌, ◌-◌, ◌*◌, ◌<◌, ◌≤◌, Bool, true, false, List, [], ◌∷◌, ◌++◌, take, drop, set}
use Rattle.std.proofs.Common.{get_or, length, replicate}
use Rattle.std.specs.Prelude.{IsOk, OnOk, vec_len}
use Rattle.std.specs.declared.vec.Vec.{Vec}
use Rattle.std.specs.declared.alloc.Global.{Global}
use Rattle.std.proofs.Common.{Result, Ok, Err}
use Rattle.std.proofs.Common.{slice_get, Some, IfSome, refl, sym, ap, subst, ◌∙◌, arith, append_assoc, length-append, length-drop, length-take}
use Rattle.std.specs.List.{All}
use Rattle.std.proofs.lemmas.Bool.{cases_eq, true≢false}
use Rattle.std.proofs.lemmas.List.Elements.{All-append}
use Rattle.std.proofs.lemmas.List.{append-nil, drop-append-le, drop_all, get_or-set_same, get_or-set_other, length-set, set-get_or}
use Rattle.rational.specs.Rational.{Rational, ◌≤ʳ◌}
use Rattle.node_edges.specs.Held.{Edge, HasMore, Stand, held_of, no_edge, with_more, with_read, without}
use Rattle.node_edges.specs.Lengthening.{CanLengthen}
use Rattle.node_edges.specs.declared.far.Far.{Far}
use Rattle.node_edges.specs.declared.far.Track.{Track}
use Rattle.node_edges.specs.declared.queue.Queue.{Queue}
use Rattle.node_edges.specs.Queues.{Block, behind, edge_of, edges_from, far_at, far_of, flat, list_of, seen_list, track_at, waiting_list, AreTracks}
use Rattle.node_edges.specs.Queues.{HasGone, HasKept, HasMoved, IsFar, IsFarAt, IsQueue, IsTrack}
use Rattle.node_edges.proofs.DroppingLemmas.{IsCutBy, cut_more}
use Rattle.node_edges.proofs.Stretches.{stand_behind}
use Rattle.rational.proofs.Lists.{slice_get-append_front}
use Rattle.node_edges.proofs.FarLemmas.{is_set, far_more_seen, far_more_waiting, lists_apart, none_far, some_of_not, waiting_none, zero_of}
use Rattle.node_edges.proofs.FarSteps.{far_by, is_far_by, length_far, seen_handed, waiting_handed}
use Rattle.node_edges.specs.Members.{PartOf}

module _ {T : Type 0} where
  behind_same : (F : Edge T) (x : Edge T) {seen fresh : List T} → F.seen ++ x.seen ≡ seen → F.fresh ++ x.fresh ≡ fresh
      → behind F x ≡ record { seen = seen; fresh = fresh; number = x.number; joins = x.joins }
  behind_same F x {seen} {fresh} s f =
      ap (λ l. record { seen = l; fresh = F.fresh ++ x.fresh; number = x.number; joins = x.joins }) s
      ∙ ap (λ l. record { seen = seen; fresh = l; number = x.number; joins = x.joins }) f

  -- more at the back is more at hand
  pub behind_more : (F x : Edge T) (more : List T) → behind F (with_more x more) ≡ with_more (behind F x) more
  behind_more F x more = behind_same F (with_more x more) refl (sym (append_assoc F.fresh x.fresh more))

  -- what is at hand is read, where nothing before it waits
  pub behind_read : (F x : Edge T) (v : T) → F.fresh ≡ [] → behind F (with_read x v) ≡ with_read (behind F x) v
  behind_read F x v none =
      behind_same F (with_read x v) (sym (append_assoc F.seen x.seen (v ∷ [])))
      (ap (λ l. l ++ drop 1 x.fresh) none ∙ ap (λ l. drop 1 (l ++ x.fresh)) (sym none))

  some_append : (xs ys : List T) (v : T) → slice_get xs 0 ≡ Some v → drop 1 xs ++ ys ≡ drop 1 (xs ++ ys)
  some_append [] ys v h = cc
  some_append (x ∷ xs) ys v h = refl

  -- what lies in blocks is read, before anything at hand was
  pub behind_far_read : (F x : Edge T) (v : T) → slice_get F.fresh 0 ≡ Some v → x.seen ≡ [] → behind (with_read F v) x ≡ with_read (behind F x) v
  behind_far_read F x v first none =
      behind_same (with_read F v) x
      (ap (λ l. (F.seen ++ v ∷ []) ++ l) none ∙ append-nil (F.seen ++ v ∷ []) ∙ ap (λ l. l ++ v ∷ []) (sym (append-nil F.seen) ∙ ap (λ l. F.seen ++ l)
      (sym none)))
      (some_append F.fresh x.fresh v first)

  -- some are gone of what lies in blocks, behind which nothing at hand was read, or behind which all is read
  pub behind_gone : (F x : Edge T) (n : ℕ) → n ≤ length (held_of F) → (F.fresh ≡ []) ⊎ (x.seen ≡ []) → behind (without n F) x ≡ without n (behind F x)
  behind_gone F x n within (inl none) =
      let fits : n ≤ length F.seen = omega (arith, within, length-append F.seen F.fresh, ap length none) in
      let zero_left : n - length F.seen ≡ 0 = omega (arith, fits) in
      let zero_all : n - length (F.seen ++ x.seen) ≡ 0 = omega (arith, fits, length-append F.seen x.seen) in
      behind_same (without n F) x (sym (drop-append-le n F.seen x.seen fits))
      (ap (λ k. drop k F.fresh ++ x.fresh) zero_left ∙ ap (λ k. drop k (F.fresh ++ x.fresh)) (sym zero_all))
  behind_gone F x n within (inr none) =
      let all : length (F.seen ++ x.seen) ≡ length F.seen = ap (λ l. length (F.seen ++ l)) none ∙ ap length (append-nil F.seen) in
      let fits : n - length F.seen ≤ length F.fresh = omega (arith, within, length-append F.seen F.fresh) in
      behind_same (without n F) x
      (ap (λ l. drop n F.seen ++ l) none ∙ append-nil (drop n F.seen) ∙ ap (drop n) (sym (append-nil F.seen) ∙ ap (λ l. F.seen ++ l) (sym none)))
      (sym (ap (λ m. drop (n - m) (F.fresh ++ x.fresh)) all ∙ drop-append-le (n - length F.seen) F.fresh x.fresh fits))

  -- what is held, by its two parts, where what waits comes before all that was read at hand
  pub held_behind : (F x : Edge T) → (F.fresh ≡ []) ⊎ (x.seen ≡ []) → held_of (behind F x) ≡ held_of F ++ held_of x
  held_behind F x (inl none) =
      ap (λ l. (F.seen ++ x.seen) ++ (l ++ x.fresh)) none ∙ append_assoc F.seen x.seen x.fresh
      ∙ ap (λ l. l ++ held_of x) (sym (ap (λ l. F.seen ++ l) none ∙ append-nil F.seen))
  held_behind F x (inr none) =
      ap (λ l. (F.seen ++ l) ++ (F.fresh ++ x.fresh)) none ∙ ap (λ l. l ++ (F.fresh ++ x.fresh)) (append-nil F.seen)
      ∙ sym (append_assoc F.seen F.fresh x.fresh) ∙ ap (λ l. (F.seen ++ F.fresh) ++ (l ++ x.fresh)) (sym none)

module _ {T : Type 0} {part : PartOf T} where
  -- the edge has more at its back where what is at hand has it
  pub behind_has_more : (F x y : Edge T) (more : List T) → HasMore part x y more → HasMore part (behind F x) (behind F y) more
  behind_has_more F x y more has = record {
    seen = ap (λ l. F.seen ++ l) has.seen;
    fresh = subst (λ l. Stand part x.joins l (F.fresh ++ y.fresh)) (sym (append_assoc F.fresh x.fresh more))
        (stand_behind part x.joins (x.fresh ++ more) y.fresh F.fresh has.fresh);
    number = has.number;
    joins = has.joins;
  }

module _ {T : Type 0} where
  -- the last of two lists is the last of the second, if that has any
  last_behind : (W ys before : List T) (last : T) → 0 < length ys → W ++ ys ≡ before ++ last ∷ []
      → (front : List T) × (ys ≡ front ++ last ∷ [])
  last_behind [] ys before last some same = (before, same)
  last_behind (w ∷ W) ys [] last some same =
      absurd (omega (arith, ap length same, length-append W ys, some))
  last_behind (w ∷ W) ys (b ∷ before) last some same = last_behind W ys before last some (let tail : W ++ ys ≡ before ++ last ∷ [] = ap (drop 1) same in tail)

module _ {T : Type 0} {part : PartOf T} where
  -- what lengthens the edge lengthens what is at hand, if not all of that was read
  pub can_lengthen_near : (F x : Edge T) (v : T) → 0 < length x.fresh → CanLengthen part (behind F x) v → CanLengthen part x v
  can_lengthen_near F x v some can =
      let it = last_behind F.fresh x.fresh can.before can.last some can.fresh in
      record { joins = can.joins; before = it.0; last = can.last; fresh = it.1; goes_on = can.goes_on }

-- the lists of one edge are not those of another
apart : (i j : ℕ) → j ≢ i
    → ((seen_list j ≢ 0) × (seen_list j ≢ seen_list i) × (seen_list j ≢ waiting_list i))
    × ((waiting_list j ≢ 0) × (waiting_list j ≢ seen_list i) × (waiting_list j ≢ waiting_list i))
apart i j differs = (
  (λ h. omega (arith, h), λ h. differs (omega (arith, h)), λ h. omega (arith, h)),
  (λ h. omega (arith, h), λ h. omega (arith, h), λ h. differs (omega (arith, h))),
)

module _ {T : Type 0} where
  -- an edge whose lists are the same is the same
  same_at : (all all' : List (List (Block T))) (i : ℕ) (t : Track T) → list_of all' (seen_list i) ≡ list_of all (seen_list i)
      → list_of all' (waiting_list i) ≡ list_of all (waiting_list i) → track_at all' i t ≡ track_at all i t
  same_at all all' i t s w =
      ap (λ l. behind (far_of l (list_of all' (waiting_list i)) t.far) (edge_of t.near)) s
      ∙ ap (λ l. behind (far_of (list_of all (seen_list i)) l t.far) (edge_of t.near)) w

  same_track : (all all' : List (List (Block T))) (i : ℕ) (t : Track T) → length all' ≡ length all → list_of all' (seen_list i) ≡ list_of all (seen_list i)
      → list_of all' (waiting_list i) ≡ list_of all (waiting_list i) → IsTrack all i t → IsTrack all' i t
  same_track all all' i t long s w is = record {
    far = record {
      lists = omega (arith, is.far.lists, long);
      fits = is.far.fits;
      is = subst (λ l. IsFar l (list_of all' (waiting_list i)) t.far) (sym s)
          (subst (λ l. IsFar (list_of all (seen_list i)) l t.far) (sym w) is.far.is);
    };
    near = is.near;
    apart = is.apart;
  }

  -- the edges from one on are the same by other lists, where these are the same
  edges_alike : (all all' : List (List (Block T))) (i : ℕ) (ts : List (Track T))
      → ((j : ℕ) → i ≤ j → (list_of all' (seen_list j) ≡ list_of all (seen_list j)) × (list_of all' (waiting_list j) ≡ list_of all (waiting_list j)))
      → edges_from all' i ts ≡ edges_from all i ts
  edges_alike all all' i [] same = refl
  edges_alike all all' i (t ∷ ts) same =
      let here = same i (omega arith) in
      ap (λ x. x ∷ edges_from all' (suc i) ts) (same_at all all' i t here.0 here.1)
      ∙ ap (λ es. track_at all i t ∷ es) (edges_alike all all' (suc i) ts (λ j le. same j (omega (arith, le))))

  edges_set : (all all' : List (List (Block T))) (i k : ℕ) (ts : List (Track T)) (t' : Track T)
      → ((j : ℕ) → j ≢ i + k → (list_of all' (seen_list j) ≡ list_of all (seen_list j)) × (list_of all' (waiting_list j) ≡ list_of all (waiting_list j)))
      → edges_from all' i (set ts k t') ≡ set (edges_from all i ts) k (track_at all' (i + k) t')
  edges_set all all' i k [] t' same = refl
  edges_set all all' i zero (t ∷ ts) t' same =
      let n : i ≡ i + 0 = omega arith in
      ap (λ m. track_at all' m t' ∷ edges_from all' (suc i) ts) n
      ∙ ap (λ es. track_at all' (i + 0) t' ∷ es) (edges_alike all all' (suc i) ts (λ j le. same j (λ h. omega (arith, h, le))))
  edges_set all all' i (suc k) (t ∷ ts) t' same =
      let here = same i (λ h. omega (arith, h)) in
      let n : suc i + k ≡ i + suc k = omega arith in
      ap (λ x. x ∷ edges_from all' (suc i) (set ts k t')) (same_at all all' i t here.0 here.1)
      ∙ ap (λ es. track_at all i t ∷ es)
      (edges_set all all' (suc i) k ts t' (λ j differs. same j (λ h. differs (h ∙ sym n)))
      ∙ ap (λ m. set (edges_from all (suc i) ts) k (track_at all' m t')) n)

  pub length_edges : (all : List (List (Block T))) (i : ℕ) (ts : List (Track T)) → length (edges_from all i ts) ≡ length ts
  length_edges all i [] = refl
  length_edges all i (t ∷ ts) = ap suc (length_edges all (suc i) ts)

  pub index_below : (all : List (List (Block T))) (v : Vec (Track T) Global) (i : ℕ) → i < length (edges_from all 0 v.items) → i < vec_len v
  index_below all v i within = omega (arith, within, length_edges all 0 v.items, v.ok.0)

  edge_from : (all : List (List (Block T))) (i k : ℕ) (ts : List (Track T)) (d : Track T) → k < length ts
      → get_or (edges_from all i ts) k no_edge ≡ track_at all (i + k) (get_or ts k d)
  edge_from all i k [] d lt = absurd (omega (arith, lt))
  edge_from all i zero (t ∷ ts) d lt = let n : i ≡ i + 0 = omega arith in ap (λ m. track_at all m t) n
  edge_from all i (suc k) (t ∷ ts) d lt =
      let n : suc i + k ≡ i + suc k = omega arith in
      edge_from all (suc i) k ts d (omega (arith, lt)) ∙ ap (λ m. track_at all m (get_or ts k d)) n

module _ {T : Type 0} (all : List (List (Block T))) (ts : List (Track T)) (i : ℕ) (t : Track T) (within : i < length (edges_from all 0 ts))
    (here : t ≡ get_or ts i t) where
  pub below : i < length ts
  below = omega (arith, within, length_edges all 0 ts)

  zero_more : 0 + i ≡ i
  zero_more = omega arith

  -- edge i is that of track i
  pub edge_at_track : get_or (edges_from all 0 ts) i no_edge ≡ track_at all i t
  edge_at_track = edge_from all 0 i ts t below ∙ ap (λ m. track_at all m (get_or ts i t)) zero_more ∙ ap (track_at all i) (sym here)

  -- track i is sound, and has the room that all have
  pub track_is : {spare : ℕ} → AreTracks all ts spare → IsTrack all i t
  track_is are = subst (IsTrack all i) (sym here) (are.each i t below)

  pub track_room : {spare : ℕ} → AreTracks all ts spare → IsQueue spare t.near
  track_room {spare} are = subst (λ (x : Track T). IsQueue spare x.near) (sym here) (are.room i t below)

  module _ (all' : List (List (Block T))) (t' : Track T) (moved : HasMoved i all all') where
    -- the edges once track i is another one
    pub edges_moved : edges_from all' 0 (set ts i t') ≡ set (edges_from all 0 ts) i (track_at all' i t')
    edges_moved =
        edges_set all all' 0 i ts t' (λ j differs.
        let a = apart i j (λ h. differs (h ∙ sym zero_more)) in
        (moved.others (seen_list j) a.0.0 a.0.1 a.0.2, moved.others (waiting_list j) a.1.0 a.1.1 a.1.2))
        ∙ ap (λ m. set (edges_from all 0 ts) i (track_at all' m t')) zero_more

    -- where it stands for a changed edge
    pub track_changed : (f : Edge T → Edge T) → track_at all' i t' ≡ f (track_at all i t)
        → edges_from all' 0 (set ts i t') ≡ set (edges_from all 0 ts) i (f (get_or (edges_from all 0 ts) i no_edge))
    track_changed f changed = edges_moved ∙ ap (set (edges_from all 0 ts) i) (changed ∙ ap f (sym edge_at_track))

    -- the edge that a caller then sees
    pub edge_after : get_or (edges_from all' 0 (set ts i t')) i no_edge ≡ track_at all' i t'
    edge_after = ap (λ es. get_or es i no_edge) edges_moved ∙ get_or-set_same (edges_from all 0 ts) i (track_at all' i t') no_edge within

    pub others_stay : edges_from all' 0 (set ts i t') ≡ set (edges_from all 0 ts) i (get_or (edges_from all' 0 (set ts i t')) i no_edge)
    others_stay = edges_moved ∙ ap (set (edges_from all 0 ts) i) (sym edge_after)

    -- or for the same one
    pub track_same : track_at all' i t' ≡ track_at all i t → edges_from all' 0 (set ts i t') ≡ edges_from all 0 ts
    track_same same =
        edges_moved ∙ ap (set (edges_from all 0 ts) i) (same ∙ sym edge_at_track) ∙ set-get_or (edges_from all 0 ts) i no_edge

    -- all are sound again
    pub tracks_kept : {spare spare' : ℕ} → AreTracks all ts spare → spare' ≤ spare → IsTrack all' i t' → IsQueue spare' t'.near
        → AreTracks all' (set ts i t') spare'
    tracks_kept {spare} {spare'} are less is room = record {
      lists = moved.lists ∙ are.lists ∙ ap (λ n. 2 * n + 1) (sym (length-set ts i t'));
      few = omega (arith, are.few, length-set ts i t');
      each = λ j d lt. one j d (omega (arith, lt, length-set ts i t')) (cases_eq j i);
      room = λ j d lt. one_room j d (omega (arith, lt, length-set ts i t')) (cases_eq j i);
    }
      where
        one : (j : ℕ) (d : Track T) → j < length ts → (j ≡ i) ⊎ (j ≢ i) → IsTrack all' j (get_or (set ts i t') j d)
        one j d lt (inl same) =
            subst (λ k. IsTrack all' k (get_or (set ts i t') k d)) (sym same)
            (subst (IsTrack all' i) (sym (get_or-set_same ts i t' d below)) is)
        one j d lt (inr differs) =
            let a = apart i j differs in
            subst (IsTrack all' j) (sym (get_or-set_other ts i j t' d differs))
            (same_track all all' j (get_or ts j d) moved.lists (moved.others (seen_list j) a.0.0 a.0.1 a.0.2)
            (moved.others (waiting_list j) a.1.0 a.1.1 a.1.2) (are.each j d lt))

        one_room : (j : ℕ) (d : Track T) → j < length ts → (j ≡ i) ⊎ (j ≢ i) → IsQueue spare' (get_or (set ts i t') j d).near
        one_room j d lt (inl same) =
            subst (λ k. IsQueue spare' (get_or (set ts i t') k d).near) (sym same)
            (subst (λ (x : Track T). IsQueue spare' x.near) (sym (get_or-set_same ts i t' d below)) room)
        one_room j d lt (inr differs) =
            let was = are.room j d lt in
            subst (λ (x : Track T). IsQueue spare' x.near) (sym (get_or-set_other ts i j t' d differs))
            (record { read = was.read; room = omega (arith, was.room, less) })

module _ {T : Type 0} where
  -- nothing moved
  pub moved_none : (i : ℕ) (all : List (List (Block T))) → HasMoved i all all
  moved_none i all = record { lists = refl; others = λ k a b c. refl }

  -- one after the other
  pub moved_twice : (i : ℕ) (all mid all' : List (List (Block T))) → HasMoved i all mid → HasMoved i mid all' → HasMoved i all all'
  moved_twice i all mid all' first second = record {
    lists = second.lists ∙ first.lists;
    others = λ k a b c. second.others k a b c ∙ first.others k a b c;
  }

  -- a sound track whose blocks have nothing that waits: all in blocks was read
  pub none_waits : {all : List (List (Block T))} {i : ℕ} {far : Far} → IsFarAt all i far → far.waits ≡ 0 → (far_at all i far).fresh ≡ []
  none_waits {all} {i} {far} at none =
      let w = waiting_none at.is none in
      drop_all far.begun (flat (list_of all (waiting_list i))) (omega (arith, ap (λ l. length (flat l)) w.0))

  -- what is at hand was not read where something in blocks waits
  pub waits_or_read : {all : List (List (Block T))} {i : ℕ} {t : Track T} → IsTrack all i t → ((far_at all i t.far).fresh ≡ []) ⊎ ((edge_of t.near).seen ≡ [])
  waits_or_read {all} {i} {t} is = by_count t.far.waits refl
    where
      by_count : (n : ℕ) → t.far.waits ≡ n → ((far_at all i t.far).fresh ≡ []) ⊎ ((edge_of t.near).seen ≡ [])
      by_count zero none = inl (none_waits is.far none)
      by_count (suc n) some =
          let unread : t.near.read ≡ 0 = (is.apart (omega (arith, some))).0 in
          inr (ap (λ r. take r t.near.items.items) unread)

  -- a track without parts in blocks is its queue
  pub no_far : {all : List (List (Block T))} {i : ℕ} {t : Track T} → IsTrack all i t → t.far.seen ≡ 0 → t.far.waits ≡ 0 → track_at all i t ≡ edge_of t.near
  no_far {all} {i} {t} is none_seen none_waiting =
      let n = none_far is.far.is none_seen none_waiting in
      let seen : (far_at all i t.far).seen ≡ [] =
      drop_all t.far.gone (flat (list_of all (seen_list i)) ++ take t.far.begun (flat (list_of all (waiting_list i))))
      (omega (
        arith,
        length-append (flat (list_of all (seen_list i))) (take t.far.begun (flat (list_of all (waiting_list i)))),
        length-take t.far.begun (flat (list_of all (waiting_list i))),
        ap (λ l. length (flat l)) n.0,
        ap (λ l. length (flat l)) n.1,
      )) in
      behind_same (far_at all i t.far) (edge_of t.near) (ap (λ l. l ++ (edge_of t.near).seen) seen)
      (ap (λ l. l ++ (edge_of t.near).fresh) (none_waits is.far none_waiting))

  -- a track of a new network
  pub record IsNew (t : Track T) : Type 0 where
    -- nothing is at hand
    pub edge : edge_of t.near ≡ no_edge
    -- it is sound
    pub room : IsQueue 0 t.near
    -- nothing lies in blocks
    pub far : t.far ≡ record { gone = 0; begun = 0; seen = 0; waits = 0 }

  -- one track more, behind the others
  pub all_new_more : (ts : List (Track T)) (t : Track T) → All IsNew ts → IsNew t → All IsNew (ts ++ t ∷ [])
  all_new_more ts t all is = All-append IsNew ts (t ∷ []) all (alone t is)
    where
      alone : (t : Track T) → IsNew t → All IsNew (t ∷ [])
      alone t is zero d below = is
      alone t is (suc k) d below = absurd (omega (arith, below))

  -- a list that is empty more, where each is
  pub blank_more : (all : List (List (Block T))) → ((k : ℕ) → list_of all k ≡ []) → (k : ℕ) → list_of (all ++ [] ∷ []) k ≡ []
  blank_more [] blank zero = refl
  blank_more [] blank (suc k) = refl
  blank_more (l ∷ all) blank zero = blank 0
  blank_more (l ∷ all) blank (suc k) = blank_more all (λ j. blank (suc j)) k

module _ {T : Type 0} (all : List (List (Block T))) (blank : (k : ℕ) → list_of all k ≡ []) where
  new_at : (i : ℕ) (t : Track T) → IsNew t → track_at all i t ≡ no_edge
  new_at i t is =
      ap (λ f. behind (far_at all i f) (edge_of t.near)) is.far
      ∙ ap (λ l. behind (far_of l (list_of all (waiting_list i)) (record { gone = 0; begun = 0; seen = 0; waits = 0 })) (edge_of t.near)) (blank (seen_list i))
      ∙ ap (λ l. behind (far_of [] l (record { gone = 0; begun = 0; seen = 0; waits = 0 })) (edge_of t.near)) (blank (waiting_list i))
      ∙ is.edge

  -- the edges of a new network
  pub new_edges : (i : ℕ) (ts : List (Track T)) → All IsNew ts → edges_from all i ts ≡ replicate (length ts) no_edge
  new_edges i [] new = refl
  new_edges i (t ∷ ts) new =
      ap (λ x. x ∷ edges_from all (suc i) ts) (new_at i t (new 0 t (omega arith)))
      ∙ ap (λ es. no_edge ∷ es) (new_edges (suc i) ts (λ k d lt. new (suc k) d (omega (arith, lt))))

  -- are sound
  pub new_tracks : (ts : List (Track T)) → All IsNew ts → length all ≡ 2 * length ts + 1 → length ts ≤ 2147483647 → AreTracks all ts 0
  new_tracks ts new lists few = record {
    lists = lists;
    few = few;
    each = λ i d lt. one i (get_or ts i d) lt (new i d lt);
    room = λ i d lt. (new i d lt).room;
  }
    where
      one : (i : ℕ) (t : Track T) → i < length ts → IsNew t → IsTrack all i t
      one i t lt is = record {
        far = record {
          lists = omega (arith, lists, lt);
          fits = omega (arith, few, lt);
          is = subst (IsFar (list_of all (seen_list i)) (list_of all (waiting_list i))) (sym is.far)
              (subst (λ l. IsFar l (list_of all (waiting_list i)) (record { gone = 0; begun = 0; seen = 0; waits = 0 })) (sym (blank (seen_list i)))
              (subst (λ l. IsFar [] l (record { gone = 0; begun = 0; seen = 0; waits = 0 })) (sym (blank (waiting_list i)))
              (record { begun = refl; gone = omega arith; seen = refl; waits = refl; few = omega arith; filled = (tt, tt) })));
        };
        near = is.room;
        apart = λ some. absurd (omega (arith, some, ap (λ (f : Far). f.waits) is.far));
      }

module _ {T : Type 0} where
  -- another ring at hand, of which as much was read, and which has some where there were some
  pub near_track : {all : List (List (Block T))} {i : ℕ} {t : Track T} → IsTrack all i t → (near' : Queue T) → IsQueue 0 near' → near'.read ≡ t.near.read
      → (0 < length t.near.items.items → 0 < length near'.items.items) → IsTrack all i (record { near = near'; far = t.far })
  near_track is near' room read some = record {
    far = is.far;
    near = room;
    apart = λ waits. let before = is.apart waits in (read ∙ before.0, some before.1);
  }

  -- another one where nothing in blocks waits
  pub near_alone : {all : List (List (Block T))} {i : ℕ} {t : Track T} → IsTrack all i t → t.far.waits ≡ 0 → (near' : Queue T) → IsQueue 0 near'
      → IsTrack all i (record { near = near'; far = t.far })
  near_alone is none near' room = record {
    far = is.far;
    near = room;
    apart = λ waits. absurd (omega (arith, none, waits));
  }

  -- other blocks, of which no more wait
  pub far_track : {all : List (List (Block T))} {i : ℕ} {t : Track T} (all' : List (List (Block T))) (far' : Far) → IsTrack all i t → IsFarAt all' i far'
      → far'.waits ≤ t.far.waits → IsTrack all' i (record { near = t.near; far = far' })
  far_track all' far' is far fewer = record {
    far = far;
    near = is.near;
    apart = λ waits. is.apart (omega (arith, waits, fewer));
  }

  -- the first part not read, where some in blocks wait
  pub first_waits : {all : List (List (Block T))} {i : ℕ} {far : Far} → IsFarAt all i far → 0 < far.waits → (x : Edge T)
      → slice_get (far_at all i far).fresh 0 ≡ slice_get (behind (far_at all i far) x).fresh 0
  first_waits {all} {i} {far} at some x =
      sym (slice_get-append_front (far_at all i far).fresh x.fresh 0
      (omega (arith, some, length-drop far.begun (flat (list_of all (waiting_list i))), at.is.waits)))

  -- and the first one where none does
  pub first_near : {all : List (List (Block T))} {i : ℕ} {far : Far} → IsFarAt all i far → far.waits ≡ 0 → (x : Edge T)
      → x.fresh ≡ (behind (far_at all i far) x).fresh
  first_near {all} {i} {far} at none x = ap (λ l. l ++ x.fresh) (sym (none_waits at none))

  -- what lies in blocks is held first
  pub held_first : {all : List (List (Block T))} {i : ℕ} {t : Track T} → IsTrack all i t → 0 < length (held_of (far_at all i t.far))
      → slice_get (held_of (far_at all i t.far)) 0 ≡ slice_get (held_of (track_at all i t)) 0
  held_first {all} {i} {t} is some =
      sym (ap (λ l. slice_get l 0) (held_behind (far_at all i t.far) (edge_of t.near) (waits_or_read is))
      ∙ slice_get-append_front (held_of (far_at all i t.far)) (held_of (edge_of t.near)) 0 some)

  -- how many an edge holds
  pub length_held : {all : List (List (Block T))} {i : ℕ} {t : Track T} → IsTrack all i t
      → length (held_of (track_at all i t)) ≡ t.far.seen + t.far.waits + length (held_of (edge_of t.near))
  length_held {all} {i} {t} is =
      omega (
        arith,
        ap length (held_behind (far_at all i t.far) (edge_of t.near) (waits_or_read is)),
        length-append (held_of (far_at all i t.far)) (held_of (edge_of t.near)),
        length_far (list_of all (seen_list i)) (list_of all (waiting_list i)) t.far is.far.is,
      )

-- the counts after all at hand became a block that was read whole, and one that waits
abbrev pub more_seen : Far → ℕ → Far
more_seen far n = record { gone = far.gone; begun = far.begun; seen = far.seen + n; waits = far.waits }

abbrev pub more_waiting : Far → ℕ → ℕ → Far
more_waiting far read left = record { gone = far.gone; begun = far.begun + read; seen = far.seen + read; waits = far.waits + left }

module _ {T : Type 0} where
  -- all lists but the idle one, once a block came to one of them
  pub record HasCome (all all' : List (List (Block T))) (a : ℕ) (b : Block T) : Type 0 where
    -- there are as many lists
    pub lists : length all' ≡ length all
    -- the one has the block
    pub here : list_of all' a ≡ list_of all a ++ b ∷ []
    -- the others are as they were
    pub others : (k : ℕ) → k ≢ 0 → k ≢ a → list_of all' k ≡ list_of all k

  pub has_come : (all mid all' : List (List (Block T))) (a to : ℕ) (b : Block T) → HasKept all mid → to ≡ a → a ≢ 0 → a < length all
      → all' ≡ set mid to (get_or mid to [] ++ b ∷ []) → HasCome all all' a b
  has_come all mid all' a to b kept is some within moved =
      let set_is : all' ≡ set mid a (list_of mid a ++ b ∷ []) = subst (λ n. all' ≡ set mid n (list_of mid n ++ b ∷ [])) is moved in
      let now = is_set mid all' a _ set_is (omega (arith, kept.lists, within)) in
      record {
        lists = now.lists ∙ kept.lists;
        here = now.here ∙ ap (λ l. l ++ b ∷ []) (kept.others a some);
        others = λ k not_zero other. now.others k other ∙ kept.others k not_zero;
      }

  module _ (all mid all' : List (List (Block T))) (i to : ℕ) (t : Track T) (near' : Queue T) (b : Block T) (is : IsTrack all i t) (kept : HasKept all mid)
      (items : t.near.items ≡ b) (some : 0 < length b.items) (moved : all' ≡ set mid to (get_or mid to [] ++ b ∷ []))
      (items' : near'.items.items ≡ []) (read' : near'.read ≡ 0) (number : near'.number ≡ t.near.number) (joins : near'.joins ≡ t.near.joins) where
    -- all at hand became a block that was read whole
    pub handed_seen : (read : ℕ) → to ≡ seen_list i → read ≡ t.near.read → read ≡ length b.items
        → t.far.seen + t.far.waits + length b.items ≤ 4611686018427387904
        → (track_at all' i (record { near = near'; far = more_seen t.far read }) ≡ track_at all i t)
        × IsFarAt all' i (more_seen t.far read) × HasMoved i all all'
    handed_seen read is_to is_read whole few =
        let apart = lists_apart i in
        let now = has_come all mid all' (seen_list i) to b kept is_to apart.0 (omega (arith, is.far.lists)) moved in
        let waiting_same = now.others (waiting_list i) apart.1 (λ h. apart.2 (sym h)) in
        let none_waits : t.far.waits ≡ 0 = zero_of t.far.waits (λ waits. omega (arith, (is.apart waits).0, is_read, whole, some)) in
        let none = waiting_none is.far.is none_waits in
        let waiting_now : list_of all' (waiting_list i) ≡ [] = waiting_same ∙ none.0 in
        let old = list_of all (seen_list i) in
        let sound : IsFar old [] t.far = subst (λ l. IsFar old l t.far) none.0 is.far.is in
        let edge : behind (far_of (old ++ b ∷ []) [] (more_seen t.far (length b.items))) (edge_of near') ≡ behind (far_of old [] t.far) (edge_of t.near) =
        seen_handed old b t.far t.near near' sound items (sym is_read ∙ whole) items' read' number joins in
        let counts : IsFar (old ++ b ∷ []) [] (more_seen t.far (length b.items)) = far_more_seen old b t.far sound some few in (
          ap (λ f. behind f (edge_of near')) (far_by all' i (more_seen t.far read) now.here waiting_now)
              ∙ ap (λ n. behind (far_of (old ++ b ∷ []) [] (more_seen t.far n)) (edge_of near')) whole ∙ edge
              ∙ ap (λ l. behind (far_of old l t.far) (edge_of t.near)) (sym none.0),
          is_far_by all' i (more_seen t.far read) (omega (arith, is.far.lists, now.lists)) is.far.fits now.here waiting_now
              (subst (λ n. IsFar (old ++ b ∷ []) [] (more_seen t.far n)) (sym whole) counts),
          record { lists = now.lists; others = λ k not_zero not_seen not_waiting. now.others k not_zero not_seen },
        )

    -- or one that waits
    pub handed_waiting : (read left : ℕ) → to ≡ waiting_list i → read ≡ t.near.read → read < length b.items → left ≡ length b.items - read
        → t.far.seen + t.far.waits + length b.items ≤ 4611686018427387904
        → (track_at all' i (record { near = near'; far = more_waiting t.far read left }) ≡ track_at all i t)
        × IsFarAt all' i (more_waiting t.far read left) × HasMoved i all all'
    handed_waiting read left is_to is_read part is_left few =
        let apart = lists_apart i in
        let now = has_come all mid all' (waiting_list i) to b kept is_to apart.1 is.far.lists moved in
        let seen_now = now.others (seen_list i) apart.0 apart.2 in
        let old = list_of all (seen_list i) in
        let waiting = list_of all (waiting_list i) in
        let unread : 0 < length waiting → read ≡ 0 =
        λ there. is_read ∙ (is.apart (some_of_not t.far.waits (λ none. omega (arith, there, ap length (waiting_none is.far.is none).0)))).0 in
        let edge : behind (far_of old (waiting ++ b ∷ []) (more_waiting t.far t.near.read (length b.items - t.near.read))) (edge_of near')
        ≡ behind (far_of old waiting t.far) (edge_of t.near) =
        waiting_handed old waiting b t.far t.near near' is.far.is items (omega (arith, part, is_read)) (λ there. sym is_read ∙ unread there) items' read'
        number joins in
        let counts : IsFar old (waiting ++ b ∷ []) (more_waiting t.far read (length b.items - read)) =
        far_more_waiting old waiting b t.far read is.far.is part unread few in (
          ap (λ f. behind f (edge_of near')) (far_by all' i (more_waiting t.far read left) seen_now now.here)
              ∙ ap (λ n. behind (far_of old (waiting ++ b ∷ []) (more_waiting t.far read n)) (edge_of near')) is_left
              ∙ ap (λ n. behind (far_of old (waiting ++ b ∷ []) (more_waiting t.far n (length b.items - n))) (edge_of near')) is_read ∙ edge,
          is_far_by all' i (more_waiting t.far read left) (omega (arith, is.far.lists, now.lists)) is.far.fits seen_now now.here
              (subst (λ n. IsFar old (waiting ++ b ∷ []) (more_waiting t.far read n)) (sym is_left) counts),
          record { lists = now.lists; others = λ k not_zero not_seen not_waiting. now.others k not_zero not_waiting },
        )

module _ {T : Type 0} {part : PartOf T} where
  -- what is gone of the blocks is gone of the edge
  pub gone_cut : {all : List (List (Block T))} {i : ℕ} {t : Track T} {end : Rational} {old : Edge T} (all' : List (List (Block T))) (far' : Far)
      → IsTrack all i t → HasGone part end (far_at all i t.far) (far_at all' i far') → IsCutBy part end old (track_at all i t)
      → IsCutBy part end old (track_at all' i (record { near = t.near; far = far' }))
  gone_cut {all} {i} {t} {end} {old} all' far' is gone cut =
      let F = far_at all i t.far in
      let x = edge_of t.near in
      cut_more (track_at all' i (record { near = t.near; far = far' })) gone.count cut
      (ap (λ f. behind f x) gone.is ∙ behind_gone F x gone.count gone.within (waits_or_read is))
      (λ j below. subst (λ o. IfSome o (λ v. part.end v ≤ʳ end))
      (sym (ap (λ l. slice_get l j) (held_behind F x (waits_or_read is))
      ∙ slice_get-append_front (held_of F) (held_of x) j (omega (arith, below, gone.within)))) (gone.ended j below))

module _ {T : Type 0} where
  -- what is left in blocks is left of the edge
  pub rest_of_far : {all : List (List (Block T))} {i : ℕ} {t : Track T} (P : T → Type 0) → IsTrack all i t → 0 < length (held_of (far_at all i t.far))
      → IfSome (slice_get (held_of (far_at all i t.far)) 0) P → IfSome (slice_get (held_of (track_at all i t)) 0) P
  rest_of_far P is some rest = subst (λ o. IfSome o P) (held_first is some) rest

-- none waits, as a test says
pub waits_none : {b : Bool} {n : ℕ} → (0 < n → b ≡ true) → b ≡ false → n ≡ 0
waits_none {b} {n} test fails = zero_of n (λ some. true≢false (sym (test some) ∙ fails))

module _ {T : Type 0} where
  -- nothing at hand was read, where something in blocks waits
  pub unread_near : {all : List (List (Block T))} {i : ℕ} {t : Track T} → IsTrack all i t → 0 < t.far.waits → (edge_of t.near).seen ≡ []
  unread_near {all} {i} {t} is some = ap (λ r. take r t.near.items.items) (is.apart some).0

-- nothing lies in blocks, as a test says
pub none_of_two : {b : Bool} {n m : ℕ} → (0 < n + m → b ≡ true) → b ≡ false → (n ≡ 0) × (m ≡ 0)
none_of_two {b} {n} {m} test fails =
    let none : n + m ≡ 0 = zero_of (n + m) (λ some. true≢false (sym (test some) ∙ fails)) in (omega (arith, none), omega (arith, none))

module _ {T : Type 0} where
  -- those before i have room, and so has the one that is put at i
  pub room_on : (ts : List (Track T)) (i room : ℕ) (next : Track T) → i < length ts → IsQueue room next.near
      → ((k : ℕ) (d : Track T) → k < i → IsQueue room (get_or ts k d).near) → (k : ℕ) (d : Track T) → k < i + 1 → IsQueue room (get_or (set ts i next) k d).near
  room_on ts i room next within here before k d below = by_place (cases_eq k i)
    where
      by_place : (k ≡ i) ⊎ (k ≢ i) → IsQueue room (get_or (set ts i next) k d).near
      by_place (inl same) = subst (λ (t : Track T). IsQueue room t.near)
          (sym (ap (λ m. get_or (set ts i next) m d) same ∙ get_or-set_same ts i next d within)) here
      by_place (inr other) = subst (λ (t : Track T). IsQueue room t.near) (sym (get_or-set_other ts i k next d other))
          (before k d (omega (arith, below, other)))

-- what follows from a result that is good
pub of_ok : {T E A : Type 0} (r : Result T E) → IsOk r → OnOk r A → A
of_ok (Ok x) is a = a
of_ok (Err e) is a = absurd (true≢false (sym is))

module _ {T : Type 0} {part : PartOf T} where
  -- what lengthens an edge lengthens what it has at hand
  pub near_can : {all : List (List (Block T))} {i : ℕ} {t : Track T} {v : T} → IsTrack all i t → CanLengthen part (track_at all i t) v
      → CanLengthen part (edge_of t.near) v
  near_can {all} {i} {t} {v} is can = by_count t.far.waits refl
    where
      by_count : (n : ℕ) → t.far.waits ≡ n → CanLengthen part (edge_of t.near) v
      by_count zero none = record {
        joins = can.joins;
        before = can.before;
        last = can.last;
        fresh = first_near is.far none (edge_of t.near) ∙ can.fresh;
        goes_on = can.goes_on;
      }
      by_count (suc n) some =
          let apart = is.apart (omega (arith, some)) in
          let long : 0 < length (edge_of t.near).fresh = omega (arith, length-drop t.near.read t.near.items.items, apart.0, apart.1) in
          can_lengthen_near (far_at all i t.far) (edge_of t.near) v long can

module _ {T : Type 0} where
  -- what waits is there
  pub waits_some : {all : List (List (Block T))} {i : ℕ} {far : Far} → IsFarAt all i far → 0 < far.waits → 0 < length (far_at all i far).fresh
  waits_some {all} {i} {far} at some = omega (arith, some, length-drop far.begun (flat (list_of all (waiting_list i))), at.is.waits)

  -- what lies in blocks is there
  pub held_some : {all : List (List (Block T))} {i : ℕ} {t : Track T} → IsTrack all i t → 0 < t.far.seen + t.far.waits
      → 0 < length (held_of (far_at all i t.far))
  held_some {all} {i} {t} is some = omega (arith, some, length_far (list_of all (seen_list i)) (list_of all (waiting_list i)) t.far is.far.is)

  -- a part more at hand, where nothing at hand was read or nothing in blocks waits
  pub pushed_track : (all : List (List (Block T))) (i : ℕ) (t : Track T) → IsFarAt all i t.far → (0 < t.far.waits → t.near.read ≡ 0) → (near' : Queue T)
      → IsQueue 0 near' → near'.read ≡ t.near.read → 0 < length near'.items.items → IsTrack all i (record { near = near'; far = t.far })
  pushed_track all i t at unread near' room read some = record {
    far = at;
    near = room;
    apart = λ waits. (read ∙ unread waits, some);
  }
