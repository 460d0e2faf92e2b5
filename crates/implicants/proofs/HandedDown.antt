-- What the nodes behind a place hand down to it, node by node, and the lists of cut times that stand so far.
use Rattle.std.proofs.Common.{◌≡◌, ℕ, suc, ◌+◌, ◌-◌, ◌*◌, ◌<◌, ◌≤◌, ◌⊎◌, inl, inr, List, [], ◌∷◌, ◌++◌, length, length-append}
use Rattle.std.proofs.Common.{map, Some, refl, sym, ap, subst, ◌∙◌, arith, get_or, ◌^◌, pos, Result, Ok, Err}
use Rattle.std.specs.Prelude.{slice_get, All, IfOk}
use Rattle.std.specs.declared.vec.Vec.{Vec}
use Rattle.std.specs.declared.alloc.Global.{Global}
use Rattle.std.proofs.lemmas.Option.{same_Some, slice_get_within}
use Rattle.std.proofs.lemmas.List.{get_or-map, get_or_append_left, get_or_push, length-map, map-append, get_or_default}
use Rattle.std.proofs.lemmas.List.Elements.{All-nil, All-cons, All-from_get_or}
use Rattle.rational.specs.Time.{Rational, whole, ◌≤ʳ◌, ◌≈◌}
use Rattle.rational.specs.Rational.{IsWithin}
use Rattle.rational.proofs.Order.{le_trans, le_of_same, ge_of_same, same_refl}
use Rattle.rational.proofs.Mixed.{within_between, tick_within}
use Rattle.frac128.specs.Value.{value}
use Rattle.frac128.specs.declared.frac.Frac.{Frac}
use Rattle.stl_syntax.specs.Trace.{Trace, IsTrace, start, stop, first_time, last_time}
use Rattle.stl_syntax.specs.PostOrder.{IsPostOrder}
use Rattle.stl_syntax.specs.Cells.{AreCuts, AreAllCut, IsChild, shifts}
use Rattle.stl_syntax.specs.Kept.{CellCount, none, more, IsTooMany, most_cells}
use Rattle.stl_syntax.specs.declared.node.Node.{Node}
use Rattle.stl_syntax.proofs.PostOrderLemmas.{placed, child_below}
use Rattle.stl_syntax.proofs.RowsLemmas.{first_to_last}
use Rattle.implicants.specs.Cuts.{times_of, cuts_at, list_times, Adds, AreNear, IsNearTime, IsNearList, AreCutsFrom, IsHandedDown, IsMovedBy}
use Rattle.implicants.specs.Explaining.{AreFewCells}
use Rattle.implicants.proofs.MovedCuts.{adds_none, adds_same, adds_then}
use Rattle.implicants.proofs.Certain.{cut_within, start_cut}

module _ (nodes : List Node) (from to : Rational) (cuts : ℕ → List Rational) (i : ℕ) where
  -- it is handed down by a parent before place `here`
  abbrev pub IsHandedBefore : ℕ → Rational → Type 0
  IsHandedBefore here t = (h : IsHandedDown nodes from to cuts i t) × (h.j < here)

  -- no node up to this one is a parent of it
  pub handed_none : (old : List Rational) → IsPostOrder nodes → Adds (IsHandedBefore (i + 1)) old old
  handed_none old post = adds_none (λ t h. by_parent h.0.j h.0.n h.0.at h.0.child h.1)
    where
      by_parent : (j : ℕ) (n : Node) → slice_get nodes j ≡ Some n → IsChild n i → j < i + 1 → ⊥
      by_parent j n at child early = let late = child_below j i n (placed nodes j n post at) child in omega (arith, early, late)

  at_or_before : (j here : ℕ) → j < here + 1 → (j < here) ⊎ (j ≡ here)
  at_or_before j here l = grind arith

  -- one node more: a parent
  pub handed_child : (here : ℕ) (n : Node) (old mid new : List Rational) → slice_get nodes here ≡ Some n → IsChild n i
      → Adds (IsHandedBefore here) old mid → Adds (IsMovedBy from to (cuts here) (shifts n)) mid new → Adds (IsHandedBefore (here + 1)) old new
  handed_child here n old mid new at child before step = adds_same join split (adds_then before step)
    where
      join : (t : Rational) → IsHandedBefore here t ⊎ IsMovedBy from to (cuts here) (shifts n) t → IsHandedBefore (here + 1) t
      join t (inl (h, l)) = (h, omega (arith, l))
      join t (inr m) = (record { j = here; n = n; at = at; child = child; moved = m }, omega arith)

      split : (t : Rational) → IsHandedBefore (here + 1) t → IsHandedBefore here t ⊎ IsMovedBy from to (cuts here) (shifts n) t
      split t (h, l) = by_place (at_or_before h.j here l)
        where
          by_place : (h.j < here) ⊎ (h.j ≡ here) → IsHandedBefore here t ⊎ IsMovedBy from to (cuts here) (shifts n) t
          by_place (inl k) = inl (h, k)
          by_place (inr e) =
              let same : h.n ≡ n = same_Some h.n n (sym h.at ∙ subst (λ j. slice_get nodes j ≡ Some n) (sym e) at) in
              inr (subst (λ j. IsMovedBy from to (cuts j) (shifts n) t) e (subst (λ m. IsMovedBy from to (cuts h.j) (shifts m) t) same h.moved))

  -- and one that is none
  pub handed_other : (here : ℕ) (n : Node) (old new : List Rational) → slice_get nodes here ≡ Some n → (¬ IsChild n i)
      → Adds (IsHandedBefore here) old new → Adds (IsHandedBefore (here + 1)) old new
  handed_other here n old new at other before = adds_same (λ t h. (h.0, let l = h.1 in omega (arith, l))) split before
    where
      split : (t : Rational) → IsHandedBefore (here + 1) t → IsHandedBefore here t
      split t (h, l) = by_place (at_or_before h.j here l)
        where
          by_place : (h.j < here) ⊎ (h.j ≡ here) → IsHandedBefore here t
          by_place (inl k) = (h, k)
          by_place (inr e) =
              let same : h.n ≡ n = same_Some h.n n (sym h.at ∙ subst (λ j. slice_get nodes j ≡ Some n) (sym e) at) in
              absurd (other (subst (λ m. IsChild m i) same h.child))

  -- behind the last node nothing more is handed down
  pub handed_all : (here : ℕ) (old new : List Rational) → length nodes ≤ here → Adds (IsHandedBefore here) old new
      → Adds (IsHandedDown nodes from to cuts i) old new
  handed_all here old new l before =
      adds_same (λ t h. h.0) (λ t h. (h, let k = slice_get_within nodes h.j h.n h.at in omega (arith, k, l))) before

-- the same domain by whichever pairs it is written
pub handed_alike : (nodes : List Node) (from to a b : Rational) (cuts : ℕ → List Rational) (i : ℕ) (old new : List Rational) → from ≈ a → to ≈ b
    → Adds (IsHandedDown nodes from to cuts i) old new → Adds (IsHandedDown nodes a b cuts i) old new
handed_alike nodes from to a b cuts i old new e f h = adds_same there back h
  where
    there : (t : Rational) → IsHandedDown nodes from to cuts i t → IsHandedDown nodes a b cuts i t
    there t h = let m = h.moved.2 in record {
      j = h.j;
      n = h.n;
      at = h.at;
      child = h.child;
      moved = (
        h.moved.0,
        h.moved.1,
        record {
          u = m.u;
          cut = m.cut;
          is = m.is;
          inside = record { above = le_trans (ge_of_same e) m.inside.above; below = le_trans m.inside.below (le_of_same f) };
        },
      );
    }

    back : (t : Rational) → IsHandedDown nodes a b cuts i t → IsHandedDown nodes from to cuts i t
    back t h = let m = h.moved.2 in record {
      j = h.j;
      n = h.n;
      at = h.at;
      child = h.child;
      moved = (
        h.moved.0,
        h.moved.1,
        record {
          u = m.u;
          cut = m.cut;
          is = m.is;
          inside = record { above = le_trans (le_of_same e) m.inside.above; below = le_trans m.inside.below (ge_of_same f) };
        },
      );
    }

-- the list of a node, by its place in the lists that stand
pub cuts_at_is : (count : ℕ) (done : List (Vec Frac Global)) (j k : ℕ) (v : Vec Frac Global) → k ≡ count - 1 - j → k < length done → get_or done k v ≡ v
    → cuts_at count done j ≡ times_of v.items
cuts_at_is count done j k v is l e =
    subst (λ m. get_or (map list_times done) m [] ≡ list_times v) is (get_or-map list_times done k v [] l ∙ ap list_times e)

module _ (nodes : List Node) (tr : Trace) where
  -- nothing stands yet
  pub cuts_none : AreCutsFrom nodes tr (length nodes) []
  cuts_none = record { count = omega arith; cuts = λ j a b. absurd (omega (arith, a, b)) }

  -- the cut times of one node more
  pub cuts_more : (i : ℕ) (done : List (Vec Frac Global)) (v : Vec Frac Global) → AreCutsFrom nodes tr (i + 1) done → AreCuts nodes tr i (times_of v.items)
      → AreCutsFrom nodes tr i (done ++ v ∷ [])
  cuts_more i done v behind here = record {
    count = let a = behind.count in let b = length-append done (v ∷ []) in omega (arith, a, b);
    cuts = λ j a b. by_place j b (first_or_later j a);
  }
    where
      first_or_later : (j : ℕ) → i ≤ j → (j ≡ i) ⊎ (i + 1 ≤ j)
      first_or_later j a = grind arith

      lists : List (List Rational)
      lists = map list_times done

      grown : map list_times (done ++ v ∷ []) ≡ lists ++ times_of v.items ∷ []
      grown = map-append list_times done (v ∷ [])

      by_place : (j : ℕ) → j < length nodes → (j ≡ i) ⊎ (i + 1 ≤ j) → AreCuts nodes tr j (cuts_at (length nodes) (done ++ v ∷ []) j)
      by_place j b (inr a) =
          let count = behind.count in
          let inside : length nodes - 1 - j < length lists = let e = length-map done list_times in omega (arith, a, b, count, e) in
          subst (AreCuts nodes tr j) (sym (ap (λ xs. get_or xs (length nodes - 1 - j) []) grown ∙ get_or_append_left lists (times_of v.items ∷ [])
          [] (length nodes - 1 - j) inside)) (behind.cuts j a b)
      by_place j b (inl e) =
          let count = behind.count in
          let place : length lists ≡ length nodes - 1 - j = let f = length-map done list_times in omega (arith, e, b, count, f) in
          subst (AreCuts nodes tr j) (sym (ap (λ xs. get_or xs (length nodes - 1 - j) []) grown ∙ get_or_push lists (times_of v.items) []
          (length nodes - 1 - j) place))
          (subst (λ k. AreCuts nodes tr k (times_of v.items)) (sym e) here)

  -- cut times are near
  near_cuts : (i : ℕ) (xs : List Frac) → start tr ≤ʳ stop tr → IsWithin (2 ^ 34) (start tr) → IsWithin (2 ^ 34) (stop tr)
      → AreAllCut nodes tr i (times_of xs) → AreNear xs
  near_cuts i [] o a b c = All-nil IsNearTime
  near_cuts i (x ∷ xs) o a b c =
      let w = cut_within nodes tr i (value x) o c.0 in
      All-cons IsNearTime x xs (within_between (2 ^ 34) a b w.above w.below) (near_cuts i xs o a b c.1)

  -- all cut times that were listed keep within the limits of times
  pub all_near : (here : ℕ) (done : List (Vec Frac Global)) → start tr ≤ʳ stop tr → IsWithin (2 ^ 34) (start tr) → IsWithin (2 ^ 34) (stop tr)
      → AreCutsFrom nodes tr here done
      → All IsNearList done
  all_near here done o a b all = by_list done refl
    where
      by_list : (vs : List (Vec Frac Global)) → vs ≡ done → All IsNearList done
      by_list [] e = subst (All IsNearList) e (All-nil (λ (v : Vec Frac Global). AreNear v.items))
      by_list (d ∷ vs) e = All-from_get_or IsNearList done d near_at
        where
          near_at : (k : ℕ) → k < length done → IsNearList (get_or done k d)
          near_at k l =
              let count = all.count in
              let here_or_later : here ≤ length nodes - 1 - k = omega (arith, count, l) in
              let inside : length nodes - 1 - k < length nodes = omega (arith, count, l) in
              let cuts = all.cuts (length nodes - 1 - k) here_or_later inside in
              let is = cuts_at_is (length nodes) done (length nodes - 1 - k) k (get_or done k d)
              (let e : k ≡ length nodes - 1 - (length nodes - 1 - k) = omega (arith, count, l) in e) l (own k l) in
              near_cuts (length nodes - 1 - k) (get_or done k d).items o a b (subst (AreAllCut nodes tr (length nodes - 1 - k)) is cuts.sound)
            where
              own : (k : ℕ) → k < length done → get_or done k (get_or done k d) ≡ get_or done k d
              own k l = get_or_default done k (get_or done k d) d l

  -- the running sum, one node more
  pub count_more : (i n m : ℕ) (times : List Rational) → CellCount nodes tr (i + 1) n → AreCuts nodes tr i times → m ≡ n + (2 * length times - 1)
      → CellCount nodes tr i m
  count_more i n m times before cuts e =
      subst (CellCount nodes tr i) (sym e) (more times (subst (λ k. CellCount nodes tr k n) (let s : i + 1 ≡ suc i = omega arith in s) before) cuts)

  -- there is a cut time
  pub some_cut : (i : ℕ) (times : List Rational) → i < length nodes → AreCuts nodes tr i times → 0 < length times
  some_cut i [] l cuts = absurd (cuts.complete (start tr) (start_cut nodes tr i l))
  some_cut i (t ∷ times) l cuts = omega arith

  -- the cut times of the first `depth` nodes from the last one on, and their count
  pub record AreCutsTo (depth : ℕ) (done : List (Vec Frac Global)) (count : ℕ) : Type 0 where
    -- the lists are the cut times of these nodes
    pub cuts : AreCutsFrom nodes tr (length nodes - depth) done
    -- their cells are that many
    pub counted : CellCount nodes tr (length nodes - depth) count
    -- and no more than the limit
    pub few : count ≤ most_cells

  -- before the first node there are no cells
  pub cuts_begin : (done : List (Vec Frac Global)) → done ≡ [] → AreCutsTo 0 done 0
  cuts_begin done e = record {
    cuts = subst (AreCutsFrom nodes tr (length nodes - 0)) (sym e)
        (subst (λ n. AreCutsFrom nodes tr n []) (let s : length nodes ≡ length nodes - 0 = omega arith in s) cuts_none);
    counted = subst (λ n. CellCount nodes tr n 0) (let s : length nodes ≡ length nodes - 0 = omega arith in s) none;
    few = omega arith;
  }

  -- what the next node adds
  pub record IsNextCount (depth count : ℕ) (done : List (Vec Frac Global)) (v : Vec Frac Global) (sum : ℕ) : Type 0 where
    -- there is a next node
    pub inside : depth < length nodes
    -- what stands so far
    pub before : AreCutsTo depth done count
    -- the next node has these cut times
    pub cuts : AreCuts nodes tr (length nodes - 1 - depth) (times_of v.items)
    -- its cells are added to the count
    pub is : sum ≡ count + (2 * length v.items - 1)

  module _ (depth count : ℕ) (done : List (Vec Frac Global)) (v : Vec Frac Global) (sum : ℕ) (next : IsNextCount depth count done v sum) where
    place_is : length nodes - depth ≡ length nodes - 1 - depth + 1
    place_is = let l = next.inside in omega (arith, l)

    counted_before : CellCount nodes tr (length nodes - 1 - depth + 1) count
    counted_before = subst (λ n. CellCount nodes tr n count) place_is next.before.counted

    counted_here : CellCount nodes tr (length nodes - 1 - depth) sum
    counted_here =
        let many = length-map v.items value in
        let is = next.is in
        count_more (length nodes - 1 - depth) count sum (times_of v.items) counted_before next.cuts (omega (arith, many, is))

    -- within the limit the next node's cut times are added
    pub cuts_on : sum ≤ most_cells → AreCutsTo (depth + 1) (done ++ v ∷ []) sum
    cuts_on few = record {
      cuts = subst (λ n. AreCutsFrom nodes tr n (done ++ v ∷ [])) here
          (cuts_more (length nodes - 1 - depth) done v (subst (λ n. AreCutsFrom nodes tr n done) place_is next.before.cuts) next.cuts);
      counted = subst (λ n. CellCount nodes tr n sum) here counted_here;
      few = few;
    }
      where
        here : length nodes - 1 - depth ≡ length nodes - (depth + 1)
        here = omega arith

    -- beyond the limit the count is refused
    pub passed : most_cells < sum → IsTooMany nodes tr most_cells sum
    passed above = record {
      place = length nodes - 1 - depth;
      before = count;
      within = next.before.few;
      passed = above;
      count_before = subst (λ n. CellCount nodes tr n count) (let s : length nodes - 1 - depth + 1 ≡ suc (length nodes - 1 - depth) = omega arith in
          s) counted_before;
      count_here = counted_here;
    }

  -- after the last node all are counted
  pub cuts_end : (depth count : ℕ) (done : List (Vec Frac Global)) → length nodes ≤ depth → AreCutsTo depth done count
      → AreCutsFrom nodes tr 0 done × AreFewCells nodes tr
  cuts_end depth count done l all = (
    subst (λ n. AreCutsFrom nodes tr n done) start_is all.cuts,
    record { cells = count; count = subst (λ n. CellCount nodes tr n count) start_is all.counted; few = all.few },
  )
    where
      start_is : length nodes - depth ≡ 0
      start_is = omega (arith, l)

-- the ends of a trace, as fractions
pub record AreEnds (tr : Trace) (from to : Frac) : Type 0 where
  -- the first is the start of the trace
  pub begin : value from ≈ start tr
  -- the second is its end
  pub end : value to ≈ stop tr
  -- the trace does not end before it starts
  pub rise : start tr ≤ʳ stop tr
  -- the start is within the limits
  pub early : IsWithin (2 ^ 34) (start tr)
  -- and the end
  pub late : IsWithin (2 ^ 34) (stop tr)

-- the first and the last time of rows, as fractions, are the ends of the trace
pub ends_of : (tr : Trace) (m n : ℕ) (from to : Frac) → value from ≈ whole (pos m) → value to ≈ whole (pos n) → m ≡ first_time tr.rows → n ≡ last_time 0 tr.rows
    → m < 2 ^ 32 → n < 2 ^ 32 → first_time tr.rows ≤ n → AreEnds tr from to
ends_of tr m n from to a b e f x y h = record {
  begin = subst (λ k. value from ≈ whole (pos k)) e a;
  end = subst (λ k. value to ≈ whole (pos k)) f b;
  rise = (let k : first_time tr.rows ≤ last_time 0 tr.rows = subst (λ z. first_time tr.rows ≤ z) f h in record { le = omega (arith, k) });
  early = tick_within m x (subst (λ k. start tr ≈ whole (pos k)) (sym e) (same_refl (start tr)));
  late = tick_within n y (subst (λ k. stop tr ≈ whole (pos k)) (sym f) (same_refl (stop tr)));
}

-- what three clauses say of one result
pub all_three : {T E : Type 0} {A B C Q : T → Type 0} (r : Result T E) → IfOk r A → IfOk r B → IfOk r C → ((x : T) → A x → B x → C x → Q x) → IfOk r Q
all_three (Ok x) a b c f = f x a b c
all_three (Err e) a b c f = tt

-- a trace ends no earlier than it starts
pub rise_of : (tr : Trace) → IsTrace tr → start tr ≤ʳ stop tr
rise_of tr is = let k = first_to_last tr is in record { le = omega (arith, k) }
