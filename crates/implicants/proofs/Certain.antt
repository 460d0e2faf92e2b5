-- The three-valued signal of one atom grows along its cells.
use Rattle.std.proofs.Common.{◌≡◌, ℕ, zero, suc, ◌+◌, ◌<◌, ◌≤◌, ◌^◌, ◌⊎◌, inl, inr, Bool, true, false, List, [], ◌∷◌, ◌++◌}
use Rattle.std.proofs.Common.{length, Some, refl, sym, subst, ap, ◌∙◌, arith, pos, negsuc, get_or, lit≤, rules, length-append}
use Rattle.value_laws.specs.Kinds.{kleene_shape}
use Rattle.std.specs.Prelude.{slice_get, slice_index, MatchBool, IsTrue, IsFalse}
use Rattle.std.proofs.lemmas.Option.{slice_get_within, slice_get-get_or, get_or_from_slice_get}
use Rattle.rational.specs.Rational.{IsWithin}
use Rattle.rational.specs.Time.{Rational, IsIn, Precedes, Within, closed, gap, whole, ◌<ʳ◌, ◌≤ʳ◌, ◌≈◌}
use Rattle.rational.specs.Extended.{Extended, value_at, finite, ◌≈ᵉ◌, Passes}
use Rattle.rational.proofs.Order.{le_trans, le_of_lt, le_of_same, ge_of_same, lt_of_le_of_lt, lt_of_lt_of_le, lt_or_same_or_gt, lt_trans}
use Rattle.rational.proofs.Order.{same_refl, same_trans, same_of_le, not_lt_of_le}
use Rattle.rational.proofs.AffineLemmas.{bounded_same, same_symᵉ, same_transᵉ, same_reflᵉ}
use Rattle.rational.proofs.LevelLemmas.{level_is}
use Rattle.rational.specs.Affine.{IsBounded}
use Rattle.rational.proofs.Mixed.{within_between, tick_within, within_whole}
use Rattle.rational.proofs.Lists.{slice_get-append_left, slice_get-append_right, slice_get_there}
use Rattle.frac128.specs.Spans.{interval}
use Rattle.frac128.specs.Value.{value}
use Rattle.frac128.specs.declared.frac.Frac.{Frac}
use Rattle.pl_signal.specs.declared.knot.Knot.{Knot}
use Rattle.pl_signal.specs.Knots as knots
use Rattle.pl_signal.specs.Knots.{IsSignal, IsWorth}
use Rattle.pl_signal.specs.Building.{GoesOn}
use Rattle.pl_signal.proofs.Telling.{IsFunction, told}
use Rattle.pl_signal.proofs.Limits.{limited}
use Rattle.value_laws.specs.declared.kleene.Kleene.{Kleene}
use Rattle.value_laws.specs.Values.{kleene_value}
use Rattle.stl_syntax.specs.Trace.{Trace, start, stop, first_time, last_time}
use Rattle.stl_syntax.specs.Formula.{atom, subformula}
use Rattle.stl_syntax.specs.Truth.{Truth, holds_at}
use Rattle.stl_syntax.specs.Kleene.{IsCovered}
use Rattle.stl_syntax.specs.SupInf.{Gives, certainties, one, minus_one, zero_value}
use Rattle.stl_syntax.specs.Cells.{IsCut, AreCuts, AreAllCut, AreRisingTimes, IsAmong, cells, root_start, first, last, change, moved}
use Rattle.stl_syntax.specs.Kept.{IsSo, ItemsOn}
use Rattle.stl_syntax.specs.declared.atom.Atom.{Atom}
use Rattle.stl_syntax.specs.declared.items.Item.{Item}
use Rattle.stl_syntax.specs.declared.node.Node.{Node}
use Rattle.stl_syntax.specs.declared.node.Node.TheVariants.{Atom as Leaf}
use Rattle.stl_syntax.proofs.FormulaLemmas.{subformula-at}
use Rattle.stl_syntax.proofs.TimeLaw.{Gives-same}
use Rattle.stl_syntax.proofs.CoverLemmas.{certainties_give_one}
use Rattle.implicants.specs.Keeping.{remaining}
use Rattle.implicants.specs.Runs.{IsRun, begins, AreAllCells}
use Rattle.implicants.specs.Certainty.{stays, known_at, EndsAt, IsAtomCertainty}
use Rattle.implicants.specs.SameCells.{IsSameUntil, SaysSame}
use Rattle.implicants.proofs.Strips.{IsCellOn, point_at, gap_at, length_here, to_last, one_cell}
use Rattle.implicants.proofs.MarkedCover.{IsOver, to_remaining, from_remaining, from_at, to_covered, of_covered}

get_cases : (xs ys : List Item) (c : ℕ) (e : Item) → slice_get (xs ++ ys) c ≡ Some e
    → (slice_get xs c ≡ Some e) ⊎ ((k : ℕ) × (c ≡ length xs + k) × (slice_get ys k ≡ Some e))
get_cases [] ys c e h = inr (c, omega arith, h)
get_cases (x ∷ xs) ys zero e h = inl h
get_cases (x ∷ xs) ys (suc c) e h = elim (get_cases xs ys c e h) [ inl k ↦ inl k | inr k ↦ inr (k.0, (let f = k.1 in omega (arith, f)), k.2) ]

-- a value that is another is given where the other is
gives_alike : (tr : Trace) (items : List Item) (i : ℕ) (a : Atom) (t : Rational) (v w : Extended) → v ≈ᵉ w → Gives (certainties tr items) i a t w
    → Gives (certainties tr items) i a t v
gives_alike tr items i a t v w e (inl (h, c, f)) = inl (h, c, same_transᵉ v w one e f)
gives_alike tr items i a t v w e (inr (inl (h, c, f))) = inr (inl (h, c, same_transᵉ v w minus_one e f))
gives_alike tr items i a t v w e (inr (inr (n, f))) = inr (inr (n, same_transᵉ v w zero_value e f))

precedes_in : (b : Bool) {s t u : Rational} → s ≈ t → b ≡ true → t ≤ʳ u → Precedes b s u
precedes_in true e h p = le_trans (le_of_same e) p
precedes_in false e h p = absurd cc

precedes_to : (b : Bool) {s t u : Rational} → s ≈ t → b ≡ true → u ≤ʳ t → Precedes b u s
precedes_to true e h p = le_trans p (ge_of_same e)
precedes_to false e h p = absurd cc

precedes_off : (b : Bool) {s t u : Rational} → s ≈ t → b ≡ false → t <ʳ u → Precedes b s u
precedes_off true e h p = absurd cc
precedes_off false e h p = lt_of_le_of_lt (le_of_same e) p

precedes_before : (b : Bool) {s t u : Rational} → s ≈ t → b ≡ false → u <ʳ t → Precedes b u s
precedes_before true e h p = absurd cc
precedes_before false e h p = lt_of_lt_of_le p (ge_of_same e)

-- cut times lie in the domain, and the first one is its start
pub cut_within : (nodes : List Node) (tr : Trace) (i : ℕ) (t : Rational) → start tr ≤ʳ stop tr → IsCut nodes tr i t → Within (start tr) (stop tr) t
cut_within nodes tr i t o (root_start n e) = record { above = ge_of_same e; below = le_trans (le_of_same e) o }
cut_within nodes tr i t o (first n e) = record { above = ge_of_same e; below = le_trans (le_of_same e) o }
cut_within nodes tr i t o (last n e) = record { above = le_trans o (ge_of_same e); below = le_of_same e }
cut_within nodes tr i t o (change n e) = e.inside
cut_within nodes tr i t o (moved n k g c s d e w) = w

-- each listed time is a cut time
pub cut_at : (nodes : List Node) (tr : Trace) (i : ℕ) (times : List Rational) (k : ℕ) (t : Rational) → AreAllCut nodes tr i times
    → slice_get times k ≡ Some t → IsCut nodes tr i t
cut_at nodes tr i [] zero t h s = absurd cc
cut_at nodes tr i [] (suc k) t h s = absurd cc
cut_at nodes tr i (u ∷ times) zero t h s = let same : u ≡ t = cc in subst (IsCut nodes tr i) same h.0
cut_at nodes tr i (u ∷ times) (suc k) t h s = cut_at nodes tr i times k t h.1 s

-- the first of rising times is the least
pub rising_first : (u : Rational) (times : List Rational) (t : Rational) → AreRisingTimes (u ∷ times) → IsAmong (u ∷ times) t → u ≤ʳ t
rising_first u times t r (inl e) = ge_of_same e
rising_first u [] t r (inr m) = absurd m
rising_first u (v ∷ times) t r (inr m) = le_trans (le_of_lt r.0) (rising_first v times t r.1 m)

-- the start of the trace is a cut time of each node
pub start_cut : (nodes : List Node) (tr : Trace) (i : ℕ) → i < length nodes → IsCut nodes tr i (start tr)
start_cut nodes tr i l = by_place (suc_cases (suc i) (length nodes) (omega (arith, l)))
  where
    suc_cases : (m n : ℕ) → m ≤ n → (m ≡ n) ⊎ (m < n)
    suc_cases m n h = grind (arith)

    by_place : (suc i ≡ length nodes) ⊎ (suc i < length nodes) → IsCut nodes tr i (start tr)
    by_place (inl e) = root_start e (same_refl (start tr))
    by_place (inr e) = first e (same_refl (start tr))

-- the first cut time of a node is the start of the trace
pub first_cut : (nodes : List Node) (tr : Trace) (i : ℕ) (times : List Rational) → i < length nodes → start tr ≤ʳ stop tr → AreCuts nodes tr i times
    → (t : Rational) × (slice_get times 0 ≡ Some t) × (t ≈ start tr)
first_cut nodes tr i [] l o cuts = absurd (cuts.complete (start tr) (start_cut nodes tr i l))
first_cut nodes tr i (t ∷ times) l o cuts = (
  t,
  refl,
  same_of_le
      (rising_first t times (start tr) cuts.rising (cuts.complete (start tr) (start_cut nodes tr i l))) (cut_within nodes tr i t o cuts.sound.0).above,
)

module _ (nodes : List Node) (tr : Trace) (items : List Item) (left : ℕ) (marks : List Bool) (i from to : ℕ) where
  abbrev pub left_over : List Item
  left_over = remaining left marks items

  -- the time lies in the cell
  pub in_cut_cell : (e : Item) (t u : Rational) → IsCellOn nodes tr i (closed t t) e → u ≈ t → IsIn (interval e.on) u
  in_cut_cell e t u c h = record {
    above = precedes_in (interval e.on).from_in c.begin.time c.begin.inside (ge_of_same h);
    below = precedes_to (interval e.on).to_in c.end.time c.end.inside (le_of_same h);
  }

  -- the cell of a gap holds each time between its ends
  pub in_gap_cell : (e : Item) (t u x : Rational) → IsCellOn nodes tr i (gap t u) e → t <ʳ x → x <ʳ u → IsIn (interval e.on) x
  in_gap_cell e t u x c h k = record {
    above = precedes_off (interval e.on).from_in c.begin.time c.begin.inside h;
    below = precedes_before (interval e.on).to_in c.end.time c.end.inside k;
  }

  -- a cell of the run is an item, and each item of the node that has a time is one
  pub run_item : (run : IsRun nodes tr items i from to) (c : ℕ) (e : Item) → slice_get run.here c ≡ Some e → slice_get items (from + c) ≡ Some e
  run_item run c e s = subst (λ xs. slice_get xs (from + c) ≡ Some e) (sym run.all)
      (subst (λ n. slice_get (run.front ++ (run.here ++ run.back)) (n + c) ≡ Some e) run.begin
      (slice_get-append_right run.front (run.here ++ run.back) c ∙ slice_get-append_left run.here run.back c e s))

  -- an item of the node at place i stands in its run
  pub in_run : (run : IsRun nodes tr items i from to) (c : ℕ) (e : Item) (t : Rational) → slice_get items c ≡ Some e → IsOver i t e
      → (k : ℕ) × (c ≡ from + k) × (slice_get run.here k ≡ Some e)
  in_run run c e t s over = by_part (get_cases run.front (run.here ++ run.back) c e (subst (λ xs. slice_get xs c ≡ Some e) run.all s))
    where
      Goal : Type 0
      Goal = (k : ℕ) × (c ≡ from + k) × (slice_get run.here k ≡ Some e)

      by_rest : (k : ℕ) → c ≡ length run.front + k
          → (slice_get run.here k ≡ Some e) ⊎ ((j : ℕ) × (k ≡ length run.here + j) × (slice_get run.back j ≡ Some e)) → Goal
      by_rest k at (inl h) = (k, (let b = run.begin in omega (arith, at, b)), h)
      by_rest k at (inr h) = absurd (run.none_behind t (to_covered run.back i t (from_at (IsOver i t) run.back h.0 e h.2 over)))

      by_part : (slice_get run.front c ≡ Some e) ⊎ ((k : ℕ) × (c ≡ length run.front + k) × (slice_get (run.here ++ run.back) k ≡ Some e)) → Goal
      by_part (inl h) = absurd (run.none_before t (to_covered run.front i t (from_at (IsOver i t) run.front c e h over)))
      by_part (inr h) = by_rest h.0 h.1 (get_cases run.here run.back h.0 e h.2)

  -- what covers the time stands in the run
  covered_in_run : (run : IsRun nodes tr items i from to) (t : Rational) → IsCovered left_over i t
      → (k : ℕ) × (e : Item) × (slice_get run.here k ≡ Some e) × IsIn (interval e.on) t × (stays left marks (from + k) ≡ true)
  covered_in_run run t h =
      let x = to_remaining (IsOver i t) left marks items (of_covered left_over i t h) in
      let y = in_run run x.0 x.1.item t x.1.at x.1.is in
      (y.0, x.1.item, y.2, x.1.is.1, subst (λ c. stays left marks c ≡ true) y.1 x.2)

  -- a time of a cell is covered exactly where the cell stays
  stays_covered : (run : IsRun nodes tr items i from to) (c : ℕ) (e : Item) (t : Rational) → slice_get run.here c ≡ Some e → IsOver i t e
      → stays left marks (from + c) ≡ true → IsCovered left_over i t
  stays_covered run c e t s over m = to_covered left_over i t (from_remaining (IsOver i t) left marks items (from + c) e (run_item run c e s) over m)

  gone_uncovered : (run : IsRun nodes tr items i from to) (c : ℕ) (e : Item) (t : Rational) → slice_get run.here c ≡ Some e → IsOver i t e
      → stays left marks (from + c) ≡ false → ¬ IsCovered left_over i t
  gone_uncovered run c e t s over m h =
      let x = covered_in_run run t h in
      let same : x.0 ≡ c = one_cell nodes tr i run.times run.here x.0 c run.cuts.rising run.cells x.2 s x.3 over.1 in
      let clash : true ≡ false = sym (subst (λ k. stays left marks (from + k) ≡ true) same x.4) ∙ m in
      absurd (cc)

  -- what the cell says is what the items leave certain
  gives_cell : (run : IsRun nodes tr items i from to) (a : Atom) (c : ℕ) (e : Item) (t : Rational) (p : Kleene) → subformula nodes i ≡ atom i a
      → slice_get run.here c ≡ Some e → e.node ≡ i → IsSo nodes tr e
      → IsIn (interval e.on) t → p.known ≡ known_at (stays left marks (from + c)) e → Gives (certainties tr left_over) i a t
      (value_at (kleene_shape.function p) t)
  gives_cell run a c e t p tree s n so inside known =
      gives_alike tr left_over i a t (value_at (kleene_shape.function p) t) (finite (whole (kleene_value p.known))) (level_is (kleene_value p.known) t)
      (subst (λ o. Gives (certainties tr left_over) i a t (finite (whole (kleene_value o)))) (sym known) (by_stay (stays left marks (from + c)) refl))
    where
      truth : MatchBool e.holds (IsTrue (holds_at a tr t)) (¬ IsTrue (holds_at a tr t))
      truth = subst (λ q. MatchBool e.holds (Truth q tr t) (¬ Truth q tr t)) (ap (subformula nodes) n ∙ tree) (so t inside)

      not_true : (b : Bool) → ¬ IsTrue b → IsFalse b
      not_true true h = absurd (h refl)
      not_true false h = refl

      by_truth : (b : Bool) → MatchBool b (IsTrue (holds_at a tr t)) (¬ IsTrue (holds_at a tr t)) → IsCovered left_over i t
          → Gives (certainties tr left_over) i a t (finite (whole (kleene_value (Some b))))
      by_truth true h k = inl (h, k, same_reflᵉ one)
      by_truth false h k = inr (inl (not_true (holds_at a tr t) h, k, same_reflᵉ minus_one))

      by_stay : (b : Bool) → stays left marks (from + c) ≡ b → Gives (certainties tr left_over) i a t (finite (whole (kleene_value (known_at b e))))
      by_stay true m = by_truth e.holds truth (stays_covered run c e t s (n, inside) m)
      by_stay false m = inr (inr (gone_uncovered run c e t s (n, inside) m, same_reflᵉ zero_value))

  -- the signal so far: up to the cut time at place k of the run, whose cell stands before place c
  pub record IsGrown (c : ℕ) (s : List (Knot Kleene)) : Type 0 where
    -- the cells of the node, one after the other
    pub run : IsRun nodes tr items i from to
    -- which cut time the signal has come to
    pub k : ℕ
    -- that time
    pub t : Rational
    -- its cell stands just before place c
    pub at : c ≡ from + suc (k + k)
    -- it is one of the cut times
    pub cut : slice_get run.times k ≡ Some t
    -- the signal is well formed
    pub signal : IsSignal kleene_shape s
    -- it begins at the start of the trace
    pub begins : knots.start s ≈ start tr
    -- and ends at that cut time
    pub ends : knots.stop s ≈ t
    -- at each time it is worth what the cells that are left make certain
    pub worth : (a : Atom) → subformula nodes i ≡ atom i a → (u : Rational) (v : Extended) → IsWorth kleene_shape s u v
        → Gives (certainties tr left_over) i a u v

  -- the item at a place is the cell of the run there
  pub is_cell : (run : IsRun nodes tr items i from to) (c : ℕ) (e f : Item) → slice_get run.here c ≡ Some e → f ≡ get_or items (from + c) f → f ≡ e
  is_cell run c e f s h = h ∙ get_or_from_slice_get items (from + c) e f (run_item run c e s)

  run_some : (run : IsRun nodes tr items i from to) → i < length nodes → 0 < length run.times
  run_some run l = by_list run.times (run.cuts.complete (start tr) (start_cut nodes tr i l))
    where
      by_list : (times : List Rational) → IsAmong times (start tr) → 0 < length times
      by_list [] m = absurd m
      by_list (t ∷ times) m = omega arith

  -- the run has cells, and they are items
  pub run_within : (run : IsRun nodes tr items i from to) → i < length nodes → (from < to) × (to ≤ length items)
  run_within run l =
      let two = length_here nodes tr i run.times run.here (run_some run l) run.cells in
      let some = run_some run l in
      let end = run.end in
      let begin = run.begin in
      let all : length items ≡ length run.front + (length run.here + length run.back) = ap length run.all ∙ length-append run.front
      (run.here ++ run.back) ∙ ap (λ n. length run.front + n) (length-append run.here run.back) in
      (omega (arith, two, some, end), omega (arith, all, end, begin))

  -- a signal of one knot, made of the first cell, is such
  pub grown_first : (run : IsRun nodes tr items i from to) (s : List (Knot Kleene)) (at : Frac) (p : Kleene) (f : Item) → i < length nodes → start tr ≤ʳ stop tr
      → f ≡ get_or items from f → at ≡ f.on.from → ((e : Item) → slice_get items from ≡ Some e → p.known ≡ known_at (stays left marks from) e)
      → s ≡ record { time = at; point = p; after = p } ∷ [] → IsSignal kleene_shape s → IsGrown (from + 1) s
  grown_first run s at p f l o is_f is_at known made signal = record {
    run = run;
    k = 0;
    t = t;
    at = omega arith;
    cut = cut.1;
    signal = signal;
    begins = subst (λ x. knots.start x ≈ start tr) (sym made) (same_trans time cut.2);
    ends = subst (λ x. knots.stop x ≈ t) (sym made) time;
    worth = λ a tree u v w. by_worth a tree u v (subst (λ x. IsWorth kleene_shape x u v) made w);
  }
    where
      cut : (t : Rational) × (slice_get run.times 0 ≡ Some t) × (t ≈ start tr)
      cut = first_cut nodes tr i run.times l o run.cuts

      t : Rational
      t = cut.0

      cell : (e : Item) × (slice_get run.here 0 ≡ Some e) × IsCellOn nodes tr i (closed cut.0 cut.0) e
      cell = point_at nodes tr i run.times run.here 0 cut.0 run.cells cut.1

      place : from + 0 ≡ from
      place = omega arith

      same : f ≡ cell.0
      same = is_cell run 0 cell.0 f cell.1 (subst (λ n. f ≡ get_or items n f) (sym place) is_f)

      time : value at ≈ cut.0
      time = subst (λ x. value x ≈ cut.0) (sym (is_at ∙ ap (λ x. x.on.from) same)) cell.2.begin.time

      by_worth : (a : Atom) → subformula nodes i ≡ atom i a → (u : Rational) (v : Extended)
          → IsWorth kleene_shape (record { time = at; point = p; after = p } ∷ []) u v → Gives (certainties tr left_over) i a u v
      by_worth a tree u v (inl w) =
          gives_alike tr left_over i a u v (value_at (kleene_shape.function p) u) w.worth
          (gives_cell run a 0 cell.0 u p tree cell.1 cell.2.node cell.2.so (in_cut_cell cell.0 cut.0 u cell.2 (same_trans w.when time))
          (subst (λ n. p.known ≡ known_at (stays left marks n) cell.0) (sym place)
          (known cell.0 (subst (λ n. slice_get items n ≡ Some cell.0) place (run_item run 0 cell.0 cell.1)))))
      by_worth a tree u v (inr (inl w)) = absurd w
      by_worth a tree u v (inr (inr w)) = absurd w

  rising_next : (times : List Rational) (k : ℕ) (t u : Rational) → AreRisingTimes times → slice_get times k ≡ Some t → slice_get times (suc k) ≡ Some u → t <ʳ u
  rising_next [] zero t u r s q = absurd cc
  rising_next [] (suc k) t u r s q = absurd cc
  rising_next (v ∷ []) zero t u r s q = absurd cc
  rising_next (v ∷ []) (suc zero) t u r s q = absurd cc
  rising_next (v ∷ []) (suc (suc k)) t u r s q = absurd cc
  rising_next (v ∷ w ∷ times) zero t u r s q = let a : v ≡ t = cc in let b : w ≡ u = cc in subst (λ x. x <ʳ u) a (subst (λ x. v <ʳ x) b r.0)
  rising_next (v ∷ w ∷ times) (suc k) t u r s q = rising_next (w ∷ times) k t u r.1 s q

  rising_later : (times : List Rational) (k m : ℕ) (t u : Rational) → AreRisingTimes times → slice_get times k ≡ Some t
      → slice_get times (suc (k + m)) ≡ Some u → t <ʳ u
  rising_later times k zero t u r s q = rising_next times k t u r s (subst (λ n. slice_get times n ≡ Some u) (let e : suc (k + 0) ≡ suc k = omega arith in e) q)
  rising_later times k (suc m) t u r s q =
      let inside : suc (k + m) < length times = let w = slice_get_within times (suc (k + suc m)) u q in omega (arith, w) in
      let (v, there) = slice_get_there times (suc (k + m)) inside in
      lt_trans (rising_later times k m t v r s there) (rising_next times (suc (k + m)) v u r there
      (subst (λ n. slice_get times n ≡ Some u) (let e : suc (k + suc m) ≡ suc (suc (k + m)) = omega arith in e) q))

  -- a later cut time, behind so many gaps more
  pub record IsNext (c : ℕ) (s : List (Knot Kleene)) (g : IsGrown c s) (gaps : ℕ) : Type 0 where
    -- that time
    pub u : Rational
    -- it stands behind the last one
    pub cut : slice_get g.run.times (suc (g.k + gaps)) ≡ Some u
    -- and is later
    pub rises : g.t <ʳ u
    -- the cell of the time
    pub point_cell : Item
    -- it stands in the run at its even place
    pub point_here : slice_get g.run.here (suc (g.k + gaps) + suc (g.k + gaps)) ≡ Some point_cell
    -- and is the cell of that time
    pub point_is : IsCellOn nodes tr i (closed u u) point_cell

  -- where the run goes on so far there is one
  pub next_of : (c : ℕ) (s : List (Knot Kleene)) (g : IsGrown c s) (gaps : ℕ) → i < length nodes → c + 1 + (gaps + gaps) < to → IsNext c s g gaps
  next_of c s g gaps l m =
      let (u, cut) = slice_get_there g.run.times (suc (g.k + gaps)) more in
      let point = point_at nodes tr i g.run.times g.run.here (suc (g.k + gaps)) u g.run.cells cut in
      record {
        u = u;
        cut = cut;
        rises = rising_later g.run.times g.k gaps g.t u g.run.cuts.rising g.cut cut;
        point_cell = point.0;
        point_here = point.1;
        point_is = point.2;
      }
    where
      more : suc (g.k + gaps) < length g.run.times
      more =
          let two = length_here nodes tr i g.run.times g.run.here (run_some g.run l) g.run.cells in
          let end = g.run.end in
          let at = g.at in
          omega (arith, two, end, at, m)

  -- the next cut time is that of the item at its place
  pub next_time : (c e : ℕ) (s : List (Knot Kleene)) (g : IsGrown c s) (gaps : ℕ) (n : IsNext c s g gaps) (f : Item) → e ≡ c + 1 + (gaps + gaps)
      → f ≡ get_or items e f → value f.on.from ≈ n.u
  next_time c e s g gaps n f is h =
      let place : e ≡ from + (suc (g.k + gaps) + suc (g.k + gaps)) = let at = g.at in omega (arith, at, is) in
      let same = is_cell g.run (suc (g.k + gaps) + suc (g.k + gaps)) n.point_cell f n.point_here (subst (λ m. f ≡ get_or items m f) place h) in
      subst (λ e. value e.on.from ≈ n.u) (sym same) n.point_is.begin.time

  -- and begins after the signal so far
  pub next_later : (c e : ℕ) (s : List (Knot Kleene)) (g : IsGrown c s) (gaps : ℕ) (n : IsNext c s g gaps) (f : Item) → e ≡ c + 1 + (gaps + gaps)
      → f ≡ get_or items e f → knots.stop s <ʳ value f.on.from
  next_later c e s g gaps n f is h = lt_of_le_of_lt (le_of_same g.ends) (lt_of_lt_of_le n.rises (ge_of_same (next_time c e s g gaps n f is h)))

  -- between two cut times a value is certain that all cells there say
  gives_between : (run : IsRun nodes tr items i from to) (a : Atom) (k gaps : ℕ) (t u x : Rational) (p : Kleene) → subformula nodes i ≡ atom i a
      → slice_get run.times k ≡ Some t → slice_get run.times (suc (k + gaps)) ≡ Some u → t <ʳ x → x <ʳ u
      → ((j : ℕ) (e : Item) → suc (k + k) ≤ j → j < suc (suc (k + k)) + (gaps + gaps) → slice_get run.here j ≡ Some e
      → p.known ≡ known_at (stays left marks (from + j)) e)
      → Gives (certainties tr left_over) i a x (value_at (kleene_shape.function p) x)
  gives_between run a k zero t u x p tree at_t at_u above below says =
      let next = subst (λ n. slice_get run.times n ≡ Some u) (let e : suc (k + 0) ≡ suc k = omega arith in e) at_u in
      let (e, here, is) = gap_at nodes tr i run.times run.here k t u run.cells at_t next in
      gives_cell run a (suc (k + k)) e x p tree here is.node is.so (in_gap_cell e t u x is above below) (says (suc (k + k)) e (omega arith) (omega arith) here)
  gives_between run a k (suc gaps) t u x p tree at_t at_u above below says = by_order
      (λ h. gives_between run a k gaps t v x p tree at_t cut above h (λ j e low high here. says j e low (let c = high in omega (arith, c)) here))
      (lt_or_same_or_gt x v)
    where
      inside : suc (k + gaps) < length run.times
      inside = let w = slice_get_within run.times (suc (k + suc gaps)) u at_u in omega (arith, w)

      v : Rational
      v = (slice_get_there run.times (suc (k + gaps)) inside).0

      cut : slice_get run.times (suc (k + gaps)) ≡ Some v
      cut = (slice_get_there run.times (suc (k + gaps)) inside).1

      next : slice_get run.times (suc (suc (k + gaps))) ≡ Some u
      next = subst (λ n. slice_get run.times n ≡ Some u) (let e : suc (k + suc gaps) ≡ suc (suc (k + gaps)) = omega arith in e) at_u

      point : (e : Item) × (slice_get run.here (suc (k + gaps) + suc (k + gaps)) ≡ Some e) × IsCellOn nodes tr i (closed v v) e
      point = point_at nodes tr i run.times run.here (suc (k + gaps)) v run.cells cut

      behind : (e : Item) × (slice_get run.here (suc (suc (k + gaps) + suc (k + gaps))) ≡ Some e) × IsCellOn nodes tr i (gap v u) e
      behind = gap_at nodes tr i run.times run.here (suc (k + gaps)) v u run.cells cut next

      by_order : (x <ʳ v → Gives (certainties tr left_over) i a x (value_at (kleene_shape.function p) x)) → (x <ʳ v) ⊎ (x ≈ v) ⊎ (v <ʳ x)
          → Gives (certainties tr left_over) i a x (value_at (kleene_shape.function p) x)
      by_order before (inl h) = before h
      by_order before (inr (inl h)) = gives_cell run a (suc (k + gaps) + suc (k + gaps)) point.0 x p tree point.1 point.2.node point.2.so
          (in_cut_cell point.0 v x point.2 h) (says (suc (k + gaps) + suc (k + gaps)) point.0 (omega arith) (omega arith) point.1)
      by_order before (inr (inr h)) = gives_cell run a (suc (suc (k + gaps) + suc (k + gaps))) behind.0 x p tree behind.1 behind.2.node behind.2.so
          (in_gap_cell behind.0 v u x behind.2 h below) (says (suc (suc (k + gaps) + suc (k + gaps))) behind.0 (omega arith) (omega arith) behind.1)

  -- gaps and a knot more, made of the next cells, of which all but the last say the same, go on telling what is certain
  pub grown_more : (c e : ℕ) (s x : List (Knot Kleene)) (g : IsGrown c s) (p q : Kleene) (more : IsSameUntil items left marks p c to e)
      (n : IsNext c s g more.gaps) (f : Item) → f ≡ get_or items e f → SaysSame items left marks q e → GoesOn kleene_shape s p f.on.from q x
      → IsGrown (e + 1) x
  grown_more c e s x g p q more n f h known_next on = record {
    run = g.run;
    k = suc (g.k + more.gaps);
    t = n.u;
    at = (let at = g.at in let is = more.at in omega (arith, at, is));
    cut = n.cut;
    signal = on.signal;
    begins = subst (λ y. y ≈ start tr) (sym on.begins) g.begins;
    ends = subst (λ y. y ≈ n.u) (sym on.ends) time;
    worth = λ a tree u v w. by_part a tree u v ((on.worth u v).0 w);
  }
    where
      time : value f.on.from ≈ n.u
      time = next_time c e s g more.gaps n f more.at h

      place : e ≡ from + (suc (g.k + more.gaps) + suc (g.k + more.gaps))
      place = let at = g.at in let is = more.at in omega (arith, at, is)

      says : (j : ℕ) (d : Item) → suc (g.k + g.k) ≤ j → j < suc (suc (g.k + g.k)) + (more.gaps + more.gaps) → slice_get g.run.here j ≡ Some d
          → p.known ≡ known_at (stays left marks (from + j)) d
      says j d low high here =
          let at = g.at in let is = more.at in
          more.same (from + j) (omega (arith, at, low)) (omega (arith, at, is, high)) d (run_item g.run j d here)

      by_part : (a : Atom) → subformula nodes i ≡ atom i a → (u : Rational) (v : Extended)
          → IsWorth kleene_shape s u v ⊎ ((knots.stop s <ʳ u) × (u <ʳ value f.on.from) × Passes (kleene_shape.function p) u v) ⊎
          ((u ≈ value f.on.from) × Passes (kleene_shape.function q) u v)
          → Gives (certainties tr left_over) i a u v
      by_part a tree u v (inl w) = g.worth a tree u v w
      by_part a tree u v (inr (inl w)) =
          gives_alike tr left_over i a u v (value_at (kleene_shape.function p) u) w.2
          (gives_between g.run a g.k more.gaps g.t n.u u p tree g.cut n.cut (lt_of_le_of_lt (ge_of_same g.ends) w.0) (lt_of_lt_of_le w.1 (le_of_same time)) says)
      by_part a tree u v (inr (inr w)) =
          gives_alike tr left_over i a u v (value_at (kleene_shape.function q) u) w.1
          (gives_cell g.run a (suc (g.k + more.gaps) + suc (g.k + more.gaps)) n.point_cell u q tree n.point_here n.point_is.node n.point_is.so
          (in_cut_cell n.point_cell n.u u n.point_is (same_trans w.0 time))
          (subst (λ m. q.known ≡ known_at (stays left marks m) n.point_cell) place
          (known_next n.point_cell (subst (λ m. slice_get items m ≡ Some n.point_cell) (sym place)
          (run_item g.run (suc (g.k + more.gaps) + suc (g.k + more.gaps)) n.point_cell n.point_here)))))

  -- the signal so far ends within the domain
  pub grown_within : (c : ℕ) (s : List (Knot Kleene)) (g : IsGrown c s) → start tr ≤ʳ stop tr → Within (start tr) (stop tr) (knots.stop s)
  grown_within c s g o =
      let w = cut_within nodes tr i g.t o (cut_at nodes tr i g.run.times g.k g.t g.run.cuts.sound g.cut) in
      record { above = le_trans w.above (ge_of_same g.ends); below = le_trans (le_of_same g.ends) w.below }

  -- the times of the signal so far keep within the limits of times
  pub grown_limited : (c : ℕ) (s : List (Knot Kleene)) (g : IsGrown c s) → start tr ≤ʳ stop tr → first_time tr.rows < 2 ^ 32
      → last_time 0 tr.rows < 2 ^ 32 → IsWithin (2 ^ 34) (knots.stop s)
  grown_limited c s g o a b =
      let w = grown_within c s g o in
      within_between (2 ^ 34) (tick_within (first_time tr.rows) a (same_refl (start tr)))
      (tick_within (last_time 0 tr.rows) b (same_refl (stop tr))) w.above w.below

  -- no further than the last cell
  pub grown_to : (c : ℕ) (s : List (Knot Kleene)) (g : IsGrown c s) → i < length nodes → c ≤ to
  grown_to c s g l =
      let two = length_here nodes tr i g.run.times g.run.here (run_some g.run l) g.run.cells in
      let end = g.run.end in
      let at = g.at in
      let within = slice_get_within g.run.times g.k g.t g.cut in
      omega (arith, two, end, at, within)

  -- at the last cell no time behind it is covered
  end_uncovered : (c : ℕ) (s : List (Knot Kleene)) (g : IsGrown c s) → i < length nodes → to ≤ c + 1 → (u : Rational) → knots.stop s <ʳ u
      → ¬ IsCovered left_over i u
  end_uncovered c s g l m u late h =
      let two = length_here nodes tr i g.run.times g.run.here (run_some g.run l) g.run.cells in
      let end = g.run.end in
      let at = g.at in
      let within = slice_get_within g.run.times g.k g.t g.cut in
      let count : length g.run.times ≡ suc g.k = omega (arith, two, end, at, m, within) in
      let x = covered_in_run g.run u h in
      not_lt_of_le (le_trans (last_of g.run.times g.run.here x.0 g.k x.1 g.t u g.run.cuts.rising g.run.cells x.2 x.3 g.cut count) (ge_of_same g.ends)) late
    where
      last_of : (times : List Rational) (here : List Item) (c k : ℕ) (e : Item) (t x : Rational) → AreRisingTimes times → ItemsOn nodes tr i (cells times) here
          → slice_get here c ≡ Some e → IsIn (interval e.on) x → slice_get times k ≡ Some t → length times ≡ suc k → x ≤ʳ t
      last_of [] here c k e t x r h s m at n = absurd (omega (arith, n))
      last_of (v ∷ times) here c k e t x r h s m at n = to_last nodes tr i v times here c k r h s m at n

  is_function : (a : Atom) → IsFunction (Gives (certainties tr left_over) i a)
  is_function a = record {
    alike = λ t u v w e f h. Gives-same (certainties tr left_over) i a w e (gives_alike tr left_over i a t w v (same_symᵉ v w f) h);
    one = λ t v w h k. record { at_most = certainties_give_one tr left_over i a t v w h k; at_least = certainties_give_one tr left_over i a t w v k h };
  }

  bounded_gives : (a : Atom) (t : Rational) (v : Extended) → Gives (certainties tr left_over) i a t v → IsBounded (2 ^ 31) v
  bounded_gives a t v (inl h) = bounded_same (2 ^ 31) v one h.2 (within_whole (2 ^ 31) (pos 1) (lit≤ tt))
  bounded_gives a t v (inr (inl h)) = bounded_same (2 ^ 31) v minus_one h.2 (within_whole (2 ^ 31) (negsuc 0) (lit≤ tt))
  bounded_gives a t v (inr (inr h)) = bounded_same (2 ^ 31) v zero_value h.1 (within_whole (2 ^ 31) (pos 0) (lit≤ tt))

  -- a signal over the domain that says nothing else
  made_certain : (a : Atom) (s : List (Knot Kleene)) → slice_get nodes i ≡ Some (Leaf a) → subformula nodes i ≡ atom i a
      → first_time tr.rows < 2 ^ 32 → last_time 0 tr.rows < 2 ^ 32
      → IsSignal kleene_shape s → knots.start s ≈ start tr → knots.stop s ≈ stop tr
      → ((a : Atom) → subformula nodes i ≡ atom i a → (u : Rational) (v : Extended) → IsWorth kleene_shape s u v → Gives (certainties tr left_over) i a u v)
      → IsAtomCertainty kleene_shape nodes tr left_over i s
  made_certain a s at tree x y signal begins ends worth = record {
    begins = begins;
    ends = ends;
    tells = λ b same. told kleene_shape (Gives (certainties tr left_over) i b) (start tr) (stop tr) s (is_function b)
        (record { signal = signal; worth = worth b (subst (λ z. subformula nodes i ≡ atom i z) (leaf_same a b (sym at ∙ same)) tree) }) begins ends;
    bases = λ p h. (record { le = tt }, search rules);
    limited = limited kleene_shape s signal (λ t v w. bounded_gives a t v (worth a tree t v w))
        (tick_within (first_time tr.rows) x begins) (tick_within (last_time 0 tr.rows) y ends);
  }
    where
      leaf_same : (a b : Atom) → Some (Leaf a) ≡ Some (Leaf b) → a ≡ b
      leaf_same a b e = cc

  -- once the cells are used up the signal tells what is certain of the atom over the whole trace
  pub grown_end : {a : Atom} (c : ℕ) (s x : List (Knot Kleene)) (g : IsGrown c s) → slice_get nodes i ≡ Some (Leaf a)
      → subformula nodes i ≡ atom i a → i < length nodes → to ≤ c + 1
      → start tr ≤ʳ stop tr → first_time tr.rows < 2 ^ 32 → last_time 0 tr.rows < 2 ^ 32 → EndsAt kleene_shape (last_time 0 tr.rows) s x
      → IsAtomCertainty kleene_shape nodes tr left_over i x
  grown_end {a} c s x g at tree l m o y z (inl (late, same)) =
      subst (IsAtomCertainty kleene_shape nodes tr left_over i) (sym same)
      (made_certain a s at tree y z g.signal g.begins (same_of_le (grown_within c s g o).below late) g.worth)
  grown_end {a} c s x g at tree l m o y z (inr (early, (t, p, time, none, on))) =
      made_certain a x at tree y z on.signal (subst (λ r. r ≈ start tr) (sym on.begins) g.begins) (subst (λ r. r ≈ stop tr) (sym on.ends) time)
      (λ b same u v w. by_part b same u v ((on.worth u v).0 w))
    where
      unknown : (b : Atom) (u : Rational) (v : Extended) → knots.stop s <ʳ u → v ≈ᵉ value_at (kleene_shape.function p) u
          → Gives (certainties tr left_over) i b u v
      unknown b u v late e =
          inr (inr (
            end_uncovered c s g l m u late,
            subst (λ k. v ≈ᵉ finite (whole (kleene_value k))) none
                (same_transᵉ v (value_at (kleene_shape.function p) u) (finite (whole (kleene_value p.known))) e (level_is (kleene_value p.known) u)),
          ))

      by_part : (b : Atom) → subformula nodes i ≡ atom i b → (u : Rational) (v : Extended)
          → IsWorth kleene_shape s u v ⊎ ((knots.stop s <ʳ u) × (u <ʳ value t) × Passes (kleene_shape.function p) u v) ⊎
          ((u ≈ value t) × Passes (kleene_shape.function p) u v)
          → Gives (certainties tr left_over) i b u v
      by_part b same u v (inl w) = g.worth b same u v w
      by_part b same u v (inr (inl w)) = unknown b u v w.0 w.2
      by_part b same u v (inr (inr w)) = unknown b u v (lt_of_lt_of_le early (le_trans (ge_of_same time) (ge_of_same w.0))) w.1

-- one knot is a signal
pub one_knot : (at : Frac) (p : Kleene) (s : List (Knot Kleene)) → s ≡ record { time = at; point = p; after = p } ∷ [] → IsSignal kleene_shape s
one_knot at p s h = subst (IsSignal kleene_shape) (sym h) (record { some = omega arith; each = (record { rising = tt; needed = tt; ends = refl }, tt) })

-- an atom of the formula, and the ends of the trace
pub record IsGround (nodes : List Node) (tr : Trace) (i : ℕ) : Type 0 where
  -- the atom
  pub atom_is : Atom
  -- it is the node at place i
  pub at : slice_get nodes i ≡ Some (Leaf atom_is)
  -- and the formula there
  pub tree : subformula nodes i ≡ atom i atom_is
  -- the place is one of the list
  pub inside : i < length nodes
  -- the trace does not end before it starts
  pub order : start tr ≤ʳ stop tr
  -- its first time is within the limits
  pub early : first_time tr.rows < 2 ^ 32
  -- and its last
  pub late : last_time 0 tr.rows < 2 ^ 32

-- a node that is an atom, with the ends of a trace within the limits
pub ground : (nodes : List Node) (tr : Trace) (i m n : ℕ) → (a : Atom) × (slice_get nodes i ≡ Some (Leaf a)) → m ≡ first_time tr.rows
    → n ≡ last_time 0 tr.rows → m < 2 ^ 32 → n < 2 ^ 32 → first_time tr.rows ≤ n
    → IsGround nodes tr i
ground nodes tr i m n (a, at) e f x y h = record {
  atom_is = a;
  at = at;
  tree = subformula-at nodes i (Leaf a) at tt;
  inside = slice_get_within nodes i (Leaf a) at;
  order = (let k : first_time tr.rows ≤ last_time 0 tr.rows = subst (λ z. first_time tr.rows ≤ z) f h in record { le = omega (arith, k) });
  early = subst (λ z. z < 2 ^ 32) e x;
  late = subst (λ z. z < 2 ^ 32) f y;
}

-- a number that was read is that at its place
pub read_number : (xs : List ℕ) (k n : ℕ) → n ≡ get_or xs k n → k < length xs → n ≡ slice_index xs k
read_number xs k n h l = h ∙ sym (get_or_from_slice_get xs k (get_or xs k n) 0 (slice_get-get_or xs k n l))

-- the run of an atom, by the numbers that were read
pub read_run : (nodes : List Node) (tr : Trace) (items : List Item) (ends : List ℕ) (i m n : ℕ) → AreAllCells nodes tr items ends
    → (a : Atom) × (slice_get nodes i ≡ Some (Leaf a))
    → m ≡ begins ends i → n ≡ get_or ends i n → IsRun nodes tr items i m n
read_run nodes tr items ends i m n all (a, at) e f =
    let inside : i < length ends = let c = all.count in let l = slice_get_within nodes i (Leaf a) at in omega (arith, c, l) in
    subst (λ x. IsRun nodes tr items i x n) (sym e) (subst (λ x. IsRun nodes tr items i (begins ends i) x) (sym (read_number ends i n f inside))
    (all.runs i a at))
