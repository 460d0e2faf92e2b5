-- The cells of one node, listed along its signal.
use Rattle.std.proofs.Common.{◌≡◌, ℕ, suc, ◌+◌, ◌-◌, ◌<◌, ◌≤◌, ◌⊎◌, inl, inr, Bool, true, false, List, [], ◌∷◌, ◌++◌}
use Rattle.std.proofs.Common.{length, take, drop, Some, None, refl, sym, ap, subst, ◌∙◌, arith, get_or, append_assoc}
use Rattle.value_laws.specs.Kinds.{truth_shape}
use Rattle.std.specs.Prelude.{slice_get, MatchBool}
use Rattle.std.specs.Option.{option_map}
use Rattle.std.proofs.lemmas.Option.{same_Some, slice_get_within, slice_get_cases, slice_get-get_or, slice_get-map}
use Rattle.std.proofs.lemmas.List.{take_more, map-append, get_or_default, drop_more, take-append-drop}
use Rattle.rational.specs.Time.{Rational, Interval, IsIn, BeginAlike, EndAlike, closed, gap, whole, ◌<ʳ◌, ◌≤ʳ◌, ◌≈◌}
use Rattle.std.specs.declared.cmp.Ordering.{Ordering}
use Rattle.std.specs.declared.cmp.Ordering.TheVariants.{Less, Equal, Greater}
use Rattle.std.specs.Ordering.{is_eq}
use Rattle.rational.specs.Rational.{IsOrder}
use Rattle.rational.specs.Extended.{value_at, finite, ◌≈ᵉ◌}
use Rattle.rational.specs.Affine.{level}
use Rattle.rational.proofs.AffineLemmas.{same_symᵉ, same_transᵉ}
use Rattle.rational.proofs.LevelLemmas.{level_is}
use Rattle.value_laws.specs.Values.{truth_value}
use Rattle.rational.proofs.Order.{le_trans, le_of_lt, le_of_same, ge_of_same, lt_of_le_of_lt, lt_of_lt_of_le, lt_irrefl}
use Rattle.rational.proofs.Order.{not_lt_of_le, same_refl, same_sym, same_trans, same_of_le, lt_or_same_or_gt}
use Rattle.frac128.specs.Spans.{interval}
use Rattle.frac128.specs.Value.{value}
use Rattle.frac128.specs.declared.frac.Frac.{Frac}
use Rattle.pl_signal.specs.declared.knot.Knot.{Knot}
use Rattle.pl_signal.specs.Knots as knots
use Rattle.pl_signal.specs.Knots.{IsSignal, IsWorth, time}
use Rattle.pl_signal.specs.Moves.{Tells}
use Rattle.pl_signal.proofs.Values.{worth_at, worth_between, worth_same, next_rises, stop_at}
use Rattle.value_laws.specs.declared.truth.Truth.{Truth}
use Rattle.stl_syntax.specs.Trace.{Trace, start, stop}
use Rattle.stl_syntax.specs.Formula.{subformula}
use Rattle.stl_syntax.specs.PostOrder.{IsPostOrder}
use Rattle.stl_syntax.specs.Truth.{Truth as Holds}
use Rattle.stl_syntax.specs.SupInf.{SupInf, HasValues, truth_setting}
use Rattle.stl_syntax.specs.Cells.{IsCut, AreCuts, AreRisingTimes, IsAmong, cells}
use Rattle.stl_syntax.specs.Kept.{ItemsOn}
use Rattle.stl_syntax.specs.declared.items.Item.{Item}
use Rattle.stl_syntax.specs.declared.node.Node.{Node}
use Rattle.implicants.specs.Cuts.{times_of}
use Rattle.implicants.specs.Runs.{IsPlaceOf, IsUpTo}
use Rattle.implicants.proofs.TruthSignals.{truth_of}
use Rattle.implicants.proofs.CutTimes.{knot_is_cut, root_cut_start}
use Rattle.implicants.proofs.Certain.{rising_first, first_cut, start_cut, cut_at, cut_within}
use Rattle.implicants.proofs.NodeCounts.{rising_rest}

-- the cells up to the next cut time
cells_on : (ts : List Rational) (t u : Rational) → cells (ts ++ t ∷ u ∷ []) ≡ cells (ts ++ t ∷ []) ++ gap t u ∷ closed u u ∷ []
cells_on [] t u = refl
cells_on (s ∷ []) t u = refl
cells_on (s ∷ r ∷ ts) t u = ap (λ c. closed s s ∷ gap s r ∷ c) (cells_on (r ∷ ts) t u)

-- behind two times that follow each other none of the others is between
adjacent : (ts : List Rational) (t u : Rational) (rest : List Rational) (v : Rational) → AreRisingTimes (ts ++ t ∷ u ∷ rest)
    → IsAmong (ts ++ t ∷ u ∷ rest) v → t <ʳ v → u ≤ʳ v
adjacent [] t u rest v r (inl e) l = absurd (lt_irrefl (lt_of_lt_of_le l (le_of_same e)))
adjacent [] t u rest v r (inr m) l = rising_first u rest v r.1 m
adjacent (s ∷ ts) t u rest v r (inl e) l =
    absurd (lt_irrefl (lt_of_lt_of_le l (le_trans (le_of_same e) (rising_first s (ts ++ t ∷ u ∷ rest) t r (inr (among_middle ts t (u ∷ rest)))))))
  where
    among_middle : (ts : List Rational) (t : Rational) (rest : List Rational) → IsAmong (ts ++ t ∷ rest) t
    among_middle [] t rest = inl (same_refl t)
    among_middle (s ∷ ts) t rest = inr (among_middle ts t rest)
adjacent (s ∷ ts) t u rest v r (inr m) l = adjacent ts t u rest v (rising_rest s (ts ++ t ∷ u ∷ rest) r) m l

rises_in : (ts : List Rational) (t u : Rational) (rest : List Rational) → AreRisingTimes (ts ++ t ∷ u ∷ rest) → t <ʳ u
rises_in [] t u rest r = r.0
rises_in (s ∷ ts) t u rest r = rises_in ts t u rest (rising_rest s (ts ++ t ∷ u ∷ rest) r)

-- a list about two of its elements
split_two : (xs : List Frac) (k : ℕ) (t u : Frac) → 0 < k → k < length xs → get_or xs (k - 1) t ≡ t → get_or xs k u ≡ u
    → times_of xs ≡ times_of (take (k - 1) xs) ++ value t ∷ value u ∷ times_of (drop (k + 1) xs)
split_two xs k t u some more is_t is_u =
    ap times_of (sym (take-append-drop (k - 1) xs)) ∙ map-append value (take (k - 1) xs) (drop (k - 1) xs)
    ∙ ap (λ ws. times_of (take (k - 1) xs) ++ times_of ws) first_two
  where
    second : drop k xs ≡ u ∷ drop (k + 1) xs
    second = drop_more xs k u more ∙ ap (λ w. w ∷ drop (k + 1) xs) is_u

    first_two : drop (k - 1) xs ≡ t ∷ u ∷ drop (k + 1) xs
    first_two =
        drop_more xs (k - 1) t (omega (arith, more)) ∙ ap (λ w. w ∷ drop (k - 1 + 1) xs) is_t
        ∙ ap (λ ws. t ∷ ws) (ap (λ m. drop m xs) (let e : k - 1 + 1 ≡ k = omega (arith, some) in e) ∙ second)

module _ (nodes : List Node) (tr : Trace) (i : ℕ) where
  items_join : (xs ys : List Interval) (es fs : List Item) → ItemsOn nodes tr i xs es → ItemsOn nodes tr i ys fs → ItemsOn nodes tr i (xs ++ ys) (es ++ fs)
  items_join [] ys [] fs h k = k
  items_join [] ys (e ∷ es) fs h k = absurd h
  items_join (x ∷ xs) ys [] fs h k = absurd h
  items_join (x ∷ xs) ys (e ∷ es) fs h k = (h.0, h.1, h.2, h.3, items_join xs ys es fs h.4 k)

  -- a truth at a time
  abbrev pub IsTruth : Bool → Rational → Type 0
  IsTruth b t = MatchBool b (Holds (subformula nodes i) tr t) (¬ Holds (subformula nodes i) tr t)

  -- an item of the node on that interval, with that truth
  pub record IsItem (on : Interval) (b : Bool) (e : Item) : Type 0 where
    -- it is the node's
    pub node : e.node ≡ i
    -- on that interval
    pub on_is : interval e.on ≡ on
    -- with that truth
    pub holds : e.holds ≡ b

  one_item : (on : Interval) (b : Bool) (e : Item) → IsItem on b e → ((t : Rational) → IsIn on t → IsTruth b t) → ItemsOn nodes tr i (on ∷ []) (e ∷ [])
  one_item on b e is told = (
    is.node,
    subst (λ o. BeginAlike o on) (sym is.on_is) (record { time = same_refl on.from; inside = refl }),
    subst (λ o. EndAlike o on) (sym is.on_is) (record { time = same_refl on.to; inside = refl }),
    (λ t inside. subst (λ n. MatchBool e.holds (Holds (subformula nodes n) tr t) (¬ Holds (subformula nodes n) tr t)) (sym is.node)
        (subst (λ b. IsTruth b t) (sym is.holds) (told t (subst (λ o. IsIn o t) is.on_is inside)))),
    tt,
  )

  -- the cells of the first k cut times, and the place of the last of these in the signal
  pub record IsListed (x : List (Knot Truth)) (times : List Frac) (old : List Item) (k place : ℕ) (new : List Item) : Type 0 where
    -- there is a first cut time
    pub some : 0 < k
    -- the items that were added
    pub here : List Item
    -- they stand behind the old ones
    pub all : new ≡ old ++ here
    -- they are the cells of the first k cut times
    pub cells_are : ItemsOn nodes tr i (cells (times_of (take k times))) here
    -- the place is one of the signal
    pub inside : place < length x
    -- and is where the last of these times lies
    pub place_of : (t : Frac) → get_or times (k - 1) t ≡ t → IsPlaceOf x place (value t)

  module _ (x : List (Knot Truth)) (values : HasValues (subformula nodes i) (truth_setting tr))
      (tells : Tells truth_shape (SupInf (subformula nodes i) (truth_setting tr)) (start tr) (stop tr) x) where
    truth_by : (t : Rational) (q : Truth) → IsWorth truth_shape x t (value_at (truth_shape.function q) t) → IsTruth q.holds t
    truth_by t q w = truth_of (subformula nodes i) tr x t q values tells w

    -- at one time
    pub at_instant : (u t : Rational) (q : Truth) → IsWorth truth_shape x u (value_at (truth_shape.function q) u) → IsIn (closed u u) t → IsTruth q.holds t
    at_instant u t q w inside =
        truth_by t q (worth_same truth_shape x (value_at (truth_shape.function q) u) (value_at (truth_shape.function q) t)
        (same_of_le inside.above inside.below) level_same w)
      where
        level_same : value_at (truth_shape.function q) u ≈ᵉ value_at (truth_shape.function q) t
        level_same =
            let c = truth_value q.holds in
            same_transᵉ (value_at (level c) u) (finite (whole c)) (value_at (level c) t) (level_is c u)
            (same_symᵉ (value_at (level c) t) (finite (whole c)) (level_is c t))

    -- where two cut times follow each other: the place in the signal at the first, and that no cut time is between
    pub record IsStep (place : ℕ) (t u : Rational) : Type 0 where
      -- the node is not the root
      pub below : suc i < length nodes
      -- the second is later
      pub rises : t <ʳ u
      -- the first lies at that place of the signal
      pub place_of : IsPlaceOf x place t
      -- each later cut time is no earlier than the second
      pub next : (v : Rational) → IsCut nodes tr i v → t <ʳ v → u ≤ʳ v
      -- the second is a time of the trace
      pub within : u ≤ʳ stop tr

    module _ (place : ℕ) (t u : Rational) (step : IsStep place t u) where
      -- the next knot is not before the next cut time
      next_knot : (n : Knot Truth) → slice_get x (place + 1) ≡ Some n → u ≤ʳ time n
      next_knot n h = step.next (time n) (knot_is_cut nodes tr i x step.below values tells (place + 1) n h) (step.place_of.next n h)

      -- up to the next cut time the signal has no knot but the next one
      pub step_up_to : IsUpTo x place u
      step_up_to = record { here = λ n h. le_trans (step.place_of.here n h) (le_of_lt step.rises); next = next_knot }

      -- the next cut time is one of the signal's times
      pub step_within : u ≤ʳ knots.stop x
      step_within = le_trans step.within (ge_of_same tells.ends)

      -- so the gap has one truth
      pub in_the_gap : (k : Knot Truth) (v : Rational) → slice_get x place ≡ Some k → IsIn (gap t u) v → IsTruth k.after.holds v
      in_the_gap k v at inside = by_next (slice_get_cases x (place + 1)).1
        where
          low : time k ≤ʳ t
          low = step.place_of.here k at

          by_next : ((n : Knot Truth) × (place + 1 < length x) × (slice_get x (place + 1) ≡ Some n) × (get_or x (place + 1) n ≡ n)) ⊎
              ((length x ≤ place + 1) × (slice_get x (place + 1) ≡ None))
              → IsTruth k.after.holds v
          by_next (inl (n, l, h, e)) =
              truth_by v k.after (worth_between truth_shape x place k n v at h (lt_of_le_of_lt low inside.above) (lt_of_lt_of_le inside.below (next_knot n h)))
          by_next (inr (l, none)) =
              let ends : knots.stop x ≡ time k = stop_at truth_shape x place k at none in
              let late : stop tr ≤ʳ time k = subst (λ s. stop tr ≤ʳ s) ends (ge_of_same tells.ends) in
              absurd (lt_irrefl (lt_of_le_of_lt (le_trans (le_trans step.within late) low) step.rises))

    module _ (times : List Frac) (old : List Item) where
      -- the first cell
      pub listed_first : (t : Frac) (k : Knot Truth) (e : Item) (new : List Item) → i < length nodes → start tr ≤ʳ stop tr → AreCuts nodes tr i (times_of times)
          → t ≡ get_or times 0 t → slice_get x 0 ≡ Some k → new ≡ old ++ e ∷ [] → IsItem (closed (value t) (value t)) k.point.holds e → IsListed x
          times old 1 0 new
      listed_first t k e new l o cuts is at grew item = record {
        some = omega arith;
        here = e ∷ [];
        all = grew;
        cells_are = subst (λ ts. ItemsOn nodes tr i (cells ts) (e ∷ [])) (sym (first_time times (some_times times cuts) is))
            (one_item (closed (value t) (value t)) k.point.holds e item
            (λ v inside. at_instant (value t) v k.point (worth_at truth_shape x 0 k (value t) at begin) inside));
        inside = slice_get_within x 0 k at;
        place_of = λ u e. subst (λ w. IsPlaceOf x 0 (value w)) (one_of times 0 t u (some_times times cuts) (sym is) e)
            (record { here = λ n h. same_knot n h; next = λ n h. later n h });
      }
        where
          some_times : (xs : List Frac) → AreCuts nodes tr i (times_of xs) → 0 < length xs
          some_times [] c = absurd (c.complete (start tr) (start_cut nodes tr i l))
          some_times (y ∷ xs) c = omega arith

          first_time : (xs : List Frac) → 0 < length xs → t ≡ get_or xs 0 t → times_of (take 1 xs) ≡ value t ∷ []
          first_time [] some h = absurd (omega (arith, some))
          first_time (y ∷ xs) some h = ap (λ w. value w ∷ []) (sym h)

          one_of : (xs : List Frac) (n : ℕ) (v w : Frac) → n < length xs → get_or xs n v ≡ v → get_or xs n w ≡ w → v ≡ w
          one_of xs n v w l a b = sym a ∙ get_or_default xs n v w l ∙ b

          cut : (u : Rational) × (slice_get (times_of times) 0 ≡ Some u) × (u ≈ start tr)
          cut = first_cut nodes tr i (times_of times) l o cuts

          first_of : (xs : List Frac) (u : Rational) → slice_get (times_of xs) 0 ≡ Some u → t ≡ get_or xs 0 t → u ≡ value t
          first_of [] u a b = absurd cc
          first_of (y ∷ xs) u a b = same_Some u (value y) (sym a) ∙ ap value (sym b)

          start_is : (ks : List (Knot Truth)) → slice_get ks 0 ≡ Some k → knots.start ks ≡ time k
          start_is [] h = absurd cc
          start_is (n ∷ ks) h = ap time (same_Some n k h)

          begin : value t ≈ time k
          begin =
              let here : value t ≈ start tr = subst (λ u. u ≈ start tr) (first_of times cut.0 cut.1 is) cut.2 in
              same_trans here (subst (λ u. start tr ≈ u) (start_is x at) (same_sym tells.begins))

          same_knot : (n : Knot Truth) → slice_get x 0 ≡ Some n → time n ≤ʳ value t
          same_knot n h = let e : k ≡ n = same_Some k n (sym at ∙ h) in subst (λ m. time m ≤ʳ value t) e (ge_of_same begin)

          later : (n : Knot Truth) → slice_get x (0 + 1) ≡ Some n → value t <ʳ time n
          later n h = lt_of_le_of_lt (le_of_same begin) (next_rises truth_shape x 0 k n tells.signal.each at h)

      -- two cut times that follow each other
      pub record ArePair (k : ℕ) (t u : Frac) : Type 0 where
        -- there is a cut time after the first k
        pub more : k < length times
        -- the last of the first k
        pub first_is : get_or times (k - 1) t ≡ t
        -- the one after it
        pub second_is : get_or times k u ≡ u

      -- the step from one cut time to the next
      pub step_of : (k place : ℕ) (mid : List Item) (t u : Frac) → IsPostOrder nodes → i < length nodes → start tr ≤ʳ stop tr
          → AreCuts nodes tr i (times_of times) → IsListed x times old k place mid → ArePair k t u → IsStep place (value t) (value u)
      step_of k place mid t u post l o cuts listed pair = record {
        below = below;
        rises = rises;
        place_of = listed.place_of t pair.first_is;
        next = λ v c lt. adjacent front (value t) (value u) rest v (subst AreRisingTimes parts cuts.rising)
            (subst (λ ts. IsAmong ts v) parts (cuts.complete v c)) lt;
        within = (cut_within nodes tr i (value u) o (cut_of u k pair.second_is pair.more)).below;
      }
        where
          some : 0 < k
          some = listed.some

          front : List Rational
          front = times_of (take (k - 1) times)

          rest : List Rational
          rest = times_of (drop (k + 1) times)

          parts : times_of times ≡ front ++ value t ∷ value u ∷ rest
          parts = split_two times k t u some pair.more pair.first_is pair.second_is

          rises : value t <ʳ value u
          rises = rises_in front (value t) (value u) rest (subst AreRisingTimes parts cuts.rising)

          cut_of : (w : Frac) (n : ℕ) → get_or times n w ≡ w → n < length times → IsCut nodes tr i (value w)
          cut_of w n e l = cut_at nodes tr i (times_of times) n (value w) cuts.sound
              (slice_get-map value times n ∙ ap (option_map value) (slice_get-get_or times n w l ∙ ap (λ f. Some f) e))

          below : suc i < length nodes
          below = by_place (last_or_less i (length nodes) l)
            where
              last_or_less : (m n : ℕ) → m < n → (suc m ≡ n) ⊎ (suc m < n)
              last_or_less m n h = grind arith

              by_place : (suc i ≡ length nodes) ⊎ (suc i < length nodes) → suc i < length nodes
              by_place (inr h) = h
              by_place (inl e) =
                  let a = root_cut_start nodes tr i (value t) post e (cut_of t (k - 1) pair.first_is (let more = pair.more in omega (arith, more))) in
                  let b = root_cut_start nodes tr i (value u) post e (cut_of u k pair.second_is pair.more) in
                  absurd (lt_irrefl (lt_of_lt_of_le rises (le_of_same (same_trans b (same_sym a)))))

      -- the items that are put: the gap with the truth after the knot, and the next cut time with its own
      pub record ArePut (place next : ℕ) (mid new : List Item) (t u : Frac) : Type 0 where
        -- the knot before the gap
        pub knot : Knot Truth
        -- the truth at the next cut time
        pub shape : Truth
        -- the item of the gap
        pub between : Item
        -- the item of the next cut time
        pub point : Item
        -- the knot stands at the place
        pub at : slice_get x place ≡ Some knot
        -- the next place is one of the signal
        pub inside : next < length x
        -- the next cut time lies there
        pub place_of : IsPlaceOf x next (value u)
        -- the gap has the truth after the knot
        pub gap_is : IsItem (gap (value t) (value u)) knot.after.holds between
        -- the signal is worth that truth at the next cut time
        pub worth : IsWorth truth_shape x (value u) (value_at (truth_shape.function shape) (value u))
        -- and its item says so
        pub point_is : IsItem (closed (value u) (value u)) shape.holds point
        -- both items are put at the end
        pub grew : new ≡ (mid ++ between ∷ []) ++ point ∷ []

      -- with them one more cut time is listed
      pub listed_on : (k place next : ℕ) (mid new : List Item) (t u : Frac) → ArePair k t u → IsStep place (value t) (value u)
          → IsListed x times old k place mid → ArePut place next mid new t u → IsListed x times old (k + 1) next new
      listed_on k place next mid new t u pair step listed put = record {
        some = omega arith;
        here = listed.here ++ e ∷ f ∷ [];
        all = put.grew ∙ append_assoc mid (e ∷ []) (f ∷ []) ∙ ap (λ xs. xs ++ e ∷ f ∷ []) listed.all ∙ append_assoc old listed.here (e ∷ f ∷ []);
        cells_are = subst (λ c. ItemsOn nodes tr i c (listed.here ++ e ∷ f ∷ [])) (sym cells_more)
            (items_join (cells (times_of (take k times))) (gap (value t) (value u) ∷ closed (value u) (value u) ∷ []) listed.here (e ∷ f ∷ []) listed.cells_are
            (items_join (gap (value t) (value u) ∷ []) (closed (value u) (value u) ∷ []) (e ∷ []) (f ∷ [])
            (one_item (gap (value t) (value u)) put.knot.after.holds e put.gap_is
            (λ v h. in_the_gap place (value t) (value u) step put.knot v put.at h))
            (one_item (closed (value u) (value u)) put.shape.holds f put.point_is (λ v h. at_instant (value u) v put.shape put.worth h))));
        inside = put.inside;
        place_of = λ w h. subst (λ v. IsPlaceOf x next (value v)) (same_at w h) put.place_of;
      }
        where
          e : Item
          e = put.between

          f : Item
          f = put.point

          some : 0 < k
          some = listed.some

          more : k < length times
          more = pair.more

          same_at : (w : Frac) → get_or times (k + 1 - 1) w ≡ w → u ≡ w
          same_at w h = sym pair.second_is ∙ get_or_default times k u w more ∙ subst (λ m. get_or times m w ≡ w) (let e : k + 1 - 1 ≡ k = omega arith in e) h

          first_ones : take k times ≡ take (k - 1) times ++ t ∷ []
          first_ones =
              subst (λ m. take m times ≡ take (k - 1) times ++ t ∷ []) (let e : k - 1 + 1 ≡ k = omega (arith, some) in e)
              (take_more times (k - 1) t (omega (arith, more)) ∙ ap (λ w. take (k - 1) times ++ w ∷ []) pair.first_is)

          all_ones : take (k + 1) times ≡ take (k - 1) times ++ t ∷ u ∷ []
          all_ones = take_more times k u more ∙ ap (λ w. take k times ++ w ∷ []) pair.second_is ∙ ap (λ ws. ws ++ u ∷ []) first_ones ∙ append_assoc
              (take (k - 1) times) (t ∷ []) (u ∷ [])

          cells_more : cells (times_of (take (k + 1) times)) ≡ cells (times_of (take k times)) ++ gap (value t) (value u) ∷ closed (value u) (value u) ∷ []
          cells_more =
              ap (λ ws. cells (times_of ws)) all_ones ∙ ap cells (map-append value (take (k - 1) times) (t ∷ u ∷ []))
              ∙ cells_on (times_of (take (k - 1) times)) (value t) (value u)
              ∙ ap (λ ts. cells ts ++ gap (value t) (value u) ∷ closed (value u) (value u) ∷ [])
              (sym (ap times_of first_ones ∙ map-append value (take (k - 1) times) (t ∷ [])))

-- the last knot that is not later than a time
pub place_next : (x : List (Knot Truth)) (place : ℕ) (t : Rational) (n : Knot Truth) → IsSignal truth_shape x → slice_get x (place + 1) ≡ Some n
    → time n ≈ t → IsPlaceOf x (place + 1) t
place_next x place t n signal at e = record {
  here = λ k h. let same : n ≡ k = same_Some n k (sym at ∙ h) in subst (λ m. time m ≤ʳ t) same (le_of_same e);
  next = λ k h. lt_of_le_of_lt (ge_of_same e) (next_rises truth_shape x (place + 1) n k signal.each at h);
}

-- where the next knot is not at that time, the time lies at the same place
pub place_stays : (x : List (Knot Truth)) (place : ℕ) (t : Rational) → IsUpTo x place t
    → ((n : Knot Truth) → slice_get x (place + 1) ≡ Some n → ¬ (time n ≈ t)) → IsPlaceOf x place t
place_stays x place t up other = record { here = up.here; next = λ n h. by_order n h (lt_or_same_or_gt t (time n)) }
  where
    by_order : (n : Knot Truth) → slice_get x (place + 1) ≡ Some n → (t <ʳ time n) ⊎ (t ≈ time n) ⊎ (time n <ʳ t) → t <ʳ time n
    by_order n h (inl l) = l
    by_order n h (inr (inl e)) = absurd (other n h (same_sym e))
    by_order n h (inr (inr l)) = absurd (not_lt_of_le (up.next n h) l)

-- what a signal is worth there
pub worth_here : (x : List (Knot Truth)) (place : ℕ) (t : Rational) (k : Knot Truth) → slice_get x place ≡ Some k → time k ≈ t
    → IsWorth truth_shape x t (value_at (truth_shape.function k.point) t)
worth_here x place t k at e = worth_at truth_shape x place k t at (same_sym e)

-- at a time behind a knot, with no other knot before it, the signal is worth the shape after the knot
pub worth_after : (x : List (Knot Truth)) (place : ℕ) (t : Rational) (k : Knot Truth) → slice_get x place ≡ Some k → (¬ (time k ≈ t))
    → IsPlaceOf x place t → t ≤ʳ knots.stop x
    → IsWorth truth_shape x t (value_at (truth_shape.function k.after) t)
worth_after x place t k at other place_of within = by_next (slice_get_cases x (place + 1)).1
  where
    early : time k <ʳ t
    early = by_order (lt_or_same_or_gt (time k) t)
      where
        by_order : (time k <ʳ t) ⊎ (time k ≈ t) ⊎ (t <ʳ time k) → time k <ʳ t
        by_order (inl l) = l
        by_order (inr (inl e)) = absurd (other e)
        by_order (inr (inr l)) = absurd (not_lt_of_le (place_of.here k at) l)

    by_next : ((n : Knot Truth) × (place + 1 < length x) × (slice_get x (place + 1) ≡ Some n) × (get_or x (place + 1) n ≡ n)) ⊎
        ((length x ≤ place + 1) × (slice_get x (place + 1) ≡ None))
        → IsWorth truth_shape x t (value_at (truth_shape.function k.after) t)
    by_next (inl (n, l, h, e)) = worth_between truth_shape x place k n t at h early (place_of.next n h)
    by_next (inr (l, none)) = absurd (not_lt_of_le (subst (λ s. t ≤ʳ s) (stop_at truth_shape x place k at none) within) early)

-- a test by an order
pub same_told : (o : Ordering) (b : Bool) {t u : Rational} → IsOrder o t u → b ≡ is_eq o → b ≡ true → t ≈ u
same_told Less b h e k = absurd (let x : false ≡ true = sym e ∙ k in cc)
same_told Equal b h e k = h
same_told Greater b h e k = absurd (let x : false ≡ true = sym e ∙ k in cc)

-- two times that do not come out as equal differ
pub other_told : (o : Ordering) (b : Bool) {t u : Rational} → IsOrder o t u → b ≡ is_eq o → b ≡ false → ¬ (t ≈ u)
other_told Less b h e k same = absurd (lt_irrefl (lt_of_lt_of_le h (ge_of_same same)))
other_told Equal b h e k same = absurd (let x : true ≡ false = sym e ∙ k in cc)
other_told Greater b h e k same = absurd (lt_irrefl (lt_of_lt_of_le h (le_of_same same)))
