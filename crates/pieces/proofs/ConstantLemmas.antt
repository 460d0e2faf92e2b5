-- Constants that a window has met: those that are gone, the best of those that count, and one more that comes.
use Rattle.std.proofs.Common.{◌≡◌, ◌⊎◌, inl, inr, ℕ, zero, suc, ◌^◌, ◌<◌, ◌≤◌, ◌+◌, ◌-◌, List, [], ◌∷◌, ◌++◌, drop, length, None, Some, false}
use Rattle.std.proofs.Common.{refl, sym, ◌∙◌, subst, ap, arith, length-append}
use Rattle.std.specs.Prelude.{slice_get}
use Rattle.std.proofs.lemmas.Bool.{false≢true}
use Rattle.std.proofs.lemmas.List.{length-drop, nil_from_length}
use Rattle.std.proofs.lemmas.Option.{none-some, slice_get_within}
use Rattle.rational.specs.Rational.{IsWithin}
use Rattle.rational.specs.Time.{Rational}
use Rattle.rational.specs.Extended.{Extended, value_at, ◌≈ᵉ◌}
use Rattle.rational.specs.Affine.{HasBoundedLevel, IsSteady}
use Rattle.rational.specs.Places.{Place, After, AtMost, Before, Upto}
use Rattle.rational.proofs.Lists.{drop_none, slice_get-append_here, slice_get-append_left, slice_get-drop, slice_get-push_cases, slice_get_there}
use Rattle.rational.proofs.Mixed.{within_between}
use Rattle.rational.proofs.Order.{lt_of_le_of_lt, same_refl}
use Rattle.rational.proofs.Sames.{symᵉ}
use Rattle.rational.proofs.PlaceLemmas.{after_at_most, before_of_at_most, before_trans, le_of_at_most, not_both}
use Rattle.frac128.specs.Cuts.{place}
use Rattle.frac128.specs.declared.cut.Cut.{Cut}
use Rattle.value_laws.specs.Members.{ShapeOf, ShapeLaws}
use Rattle.window_extrema.specs.Range.{IsGreatestOf, Range}
use Rattle.pl_signal.specs.declared.joining.Side.{Side}
use Rattle.pl_signal.proofs.Values.{some_is}
use Rattle.pieces.specs.declared.reach.Way.{Way}
use Rattle.pieces.specs.declared.sliding.Sliding.{Sliding}
use Rattle.pieces.specs.declared.steps.Step.{Step}
use Rattle.pieces.specs.Best.{IsNoWorse}
use Rattle.pieces.specs.Building.{GoesOn}
use Rattle.pieces.specs.Chains.{Chain, Rise, stop}
use Rattle.pieces.specs.Constants.{AreAsked, AreConstantSteps, CountsAll, HasAbove, HasSettled, IsConstantStep, IsCounted, IsFirstBest}
use Rattle.pieces.specs.Levels.{IsTurned}
use Rattle.pieces.specs.Over.{IsMovedTo}
use Rattle.pieces.specs.Sliding.{last_end}
use Rattle.pieces.specs.Steps.{AreSteps, IsOther, step_end, steps_end}
use Rattle.pieces.specs.Windows.{Best, BestTo, CanSlide}
use Rattle.pieces.proofs.Bests.{best_value, nw_same, nw_trans}
use Rattle.pieces.proofs.Ends.{at_most_itself, at_most_of_before, at_most_trans}
use Rattle.pieces.proofs.LevelsLemmas.{below_or_not, turned_no_worse}
use Rattle.pieces.proofs.OverWindow.{best_is_function}
use Rattle.pieces.proofs.SeenBest.{floor, high, low, none, none_seen}
use Rattle.pieces.proofs.StepLemmas.{to_end}
use Rattle.pieces.proofs.WindowGoesOn.{of_best, to_best}

module _ {P : Type 0} (shape : ShapeOf P) (side : Side) where
  -- each step ends behind where the steps begin
  pub step_later : (b : Place) (ls : List (Step P)) (i : ℕ) (l : Step P) → AreSteps shape side b ls → slice_get ls i ≡ Some l → Before b (step_end l)
  step_later b [] i l h e = absurd (cc)
  step_later b (s ∷ ss) zero l h e = subst (λ x. Before b (step_end x)) (some_is e) h.0.later
  step_later b (s ∷ ss) (suc i) l h e = before_trans b (step_end s) (step_end l) h.0.later (step_later (step_end s) ss i l h.1 e)

  -- no later one ends earlier
  pub ends_rise : (b : Place) (ls : List (Step P)) (i j : ℕ) (l m : Step P) → AreSteps shape side b ls → i ≤ j → slice_get ls i ≡ Some l
      → slice_get ls j ≡ Some m → AtMost (step_end l) (step_end m)
  ends_rise b [] i j l m h o e f = absurd (cc)
  ends_rise b (s ∷ ss) zero zero l m h o e f = subst (λ x. AtMost (step_end l) (step_end x)) (some_is (sym e ∙ f)) (at_most_itself (step_end l))
  ends_rise b (s ∷ ss) zero (suc j) l m h o e f = subst (λ x. AtMost (step_end x) (step_end m)) (some_is e)
      (at_most_of_before (step_end s) (step_end m) (step_later (step_end s) ss j m h.1 f))
  ends_rise b (s ∷ ss) (suc i) zero l m h o e f = absurd (omega (arith, o))
  ends_rise b (s ∷ ss) (suc i) (suc j) l m h o e f = ends_rise (step_end s) ss i j l m h.1 (omega (arith, o)) e f

  -- and each no later than the last
  pub ends_within : (b : Place) (ls : List (Step P)) (i : ℕ) (l : Step P) → AreSteps shape side b ls → slice_get ls i ≡ Some l
      → AtMost (step_end l) (steps_end b ls)
  ends_within b [] i l h e = absurd (cc)
  ends_within b (s ∷ ss) zero l h e = subst (λ x. AtMost (step_end x) (steps_end (step_end s) ss)) (some_is e) (to_end shape side (step_end s) ss h.1)
  ends_within b (s ∷ ss) (suc i) l h e = ends_within (step_end s) ss i l h.1 e

  -- constants may begin earlier
  pub begins_earlier : (b c : Place) (xs : List (Step P)) → AtMost b c → ((x : Step P) → slice_get xs 0 ≡ Some x → IsConstantStep shape x)
      → AreSteps shape side c xs → AreSteps shape side b xs
  begins_earlier b c [] m a h = tt
  begins_earlier b c (x ∷ xs) m a h = let k = a x refl in (
    record {
      later = before_of_at_most b c (step_end x) m h.0.later;
      within = h.0.within;
      falls = λ t u i j l. nw_same side (k.1 t u);
      level = h.0.level;
      other = subst (IsOther shape side b (step_end x)) (sym k.0) tt;
    },
    h.1,
  )

  -- those that are left begin where all did
  pub steps_dropped : (b : Place) (n : ℕ) (ls : List (Step P)) → AreConstantSteps shape ls → AreSteps shape side b ls → AreSteps shape side b (drop n ls)
  steps_dropped b zero ls a h = h
  steps_dropped b (suc n) [] a h = tt
  steps_dropped b (suc n) (s ∷ ss) a h = begins_earlier b (step_end s) (drop n ss) (at_most_of_before b (step_end s) h.0.later)
      (λ x e. a (suc (n + 0)) x (sym (slice_get-drop n ss 0) ∙ e)) (steps_dropped (step_end s) n ss (λ i l e. a (suc i) l e) h.1)

  -- they end where all did
  pub end_dropped : (b : Place) (n : ℕ) (ls : List (Step P)) → n < length ls → steps_end b (drop n ls) ≡ steps_end b ls
  end_dropped b zero ls h = refl
  end_dropped b (suc n) [] h = absurd (omega (arith, h))
  end_dropped b (suc n) (s ∷ ss) h = end_of_some b (step_end s) (drop n ss) (let e = length-drop n ss in omega (arith, h, e))
      ∙ end_dropped (step_end s) n ss (omega (arith, h))
    where
      end_of_some : (b c : Place) (xs : List (Step P)) → 0 < length xs → steps_end b xs ≡ steps_end c xs
      end_of_some b c [] h = absurd (omega (arith, h))
      end_of_some b c (x ∷ xs) h = refl

module _ {P : Type 0} (shape : ShapeOf P) (side : Side) (ls : List (Step P)) (r : Range P) (asked : AreAsked shape side ls r)
    (constant : AreConstantSteps shape ls) (from : ℕ) (new : List (Step P)) where
  -- a greatest of the items is a best of the constants
  pub settled_best : (n : ℕ) → IsGreatestOf shape.function r.items from (length ls) n → new ≡ drop n ls → HasSettled shape side from ls new
  settled_best n g e = record {
    n = n;
    more = g.from;
    is = e;
    best = λ l m j at o f t u.
        let (y, h) = slice_get_there r.items n (let b = g.below in let c = asked.count in omega (arith, b, c)) in
        let inside = slice_get_within ls j m f in
        let (x, k) = slice_get_there r.items j (let c = asked.count in omega (arith, inside, c)) in
        turned_no_worse shape side l.shape m.shape x y (constant n l at).1 (constant j m f).1 (asked.each j m x f k) (asked.each n l y at h)
        (g.greatest j x y o inside k h) t u;
    none = λ k. absurd (let b = g.below in omega (arith, k, b));
  }

  -- where none is left all go
  pub settled_none : from ≡ length ls → new ≡ drop from ls → HasSettled shape side from ls new
  settled_none none e = record {
    n = from;
    more = omega arith;
    is = e;
    best = λ l m j at o f. absurd (let inside = slice_get_within ls j m f in omega (arith, inside, o, none));
    none = λ k. omega (arith, none);
  }

module _ {P : Type 0} (shape : ShapeOf P) (side : Side) (old new : List (Step P)) (q r : Range P) (n : ℕ) where
  -- what is left was asked
  pub asked_dropped : AreAsked shape side old q → new ≡ drop n old → r.items ≡ drop n q.items → r.low ≡ 0 → r.high ≤ length new
      → AreAsked shape side new r
  asked_dropped asked steps items low high = record {
    count = ap length items ∙ length-drop n q.items ∙ ap (λ k. k - n) asked.count ∙ sym (ap length steps ∙ length-drop n old);
    each = λ i l x e f. asked.each (n + i) l x (sym (slice_get-drop n old i) ∙ subst (λ xs. slice_get xs i ≡ Some l) steps e)
        (sym (slice_get-drop n q.items i) ∙ subst (λ xs. slice_get xs i ≡ Some x) items f);
    low = low;
    high = high;
  }

-- what comes behind the others is asked too
pub asked_more : {P : Type 0} (shape : ShapeOf P) (side : Side) (old : List (Step P)) (l : Step P) (q r : Range P) (x : P) → AreAsked shape side old q
    → IsTurned shape side l.shape x → r.items ≡ q.items ++ x ∷ [] → r.low ≡ q.low → r.high ≡ q.high → AreAsked shape side (old ++ l ∷ []) r
asked_more shape side old l q r x asked turned items low high = record {
  count = ap length items ∙ length-append q.items (x ∷ []) ∙ ap (λ n. n + 1) asked.count ∙ sym (length-append old (l ∷ []));
  each = λ i m y e f. elim (slice_get-push_cases old l i m e) [
    | inl k ↦ elim (slice_get-push_cases q.items x i y (subst (λ xs. slice_get xs i ≡ Some y) items f)) [
      | inl h ↦ asked.each i m y k h
      | inr h ↦ absurd (let inside = slice_get_within old i m k in let c = asked.count in let n = h.0 in omega (arith, inside, c, n))
    ]
    | inr k ↦ elim (slice_get-push_cases q.items x i y (subst (λ xs. slice_get xs i ≡ Some y) items f)) [
      | inl h ↦ absurd (let inside = slice_get_within q.items i y h in let c = asked.count in let n = k.0 in omega (arith, inside, c, n))
      | inr h ↦ subst (λ z. IsTurned shape side m.shape z) (sym h.1) (subst (λ z. IsTurned shape side z.shape x) (sym k.1) turned)
    ]
  ];
  low = low ∙ asked.low;
  high = let h = asked.high in let n = length-append old (l ∷ []) in omega (arith, h, high, n);
}

module _ {P : Type 0} (shape : ShapeOf P) (side : Side) {from : ℕ} {old new : List (Step P)} (settled : HasSettled shape side from old new) where
  -- what is left stood further behind
  pub settled_at : (i : ℕ) (l : Step P) → slice_get new i ≡ Some l → slice_get old (settled.n + i) ≡ Some l
  settled_at i l e = sym (slice_get-drop settled.n old i) ∙ subst (λ xs. slice_get xs i ≡ Some l) settled.is e

  -- the first that is left is the best of them
  pub settled_first : IsFirstBest shape side new
  settled_first l m j e f = settled.best l m (settled.n + j) (subst (λ k. slice_get old k ≡ Some l) (omega arith) (settled_at 0 l e))
      (let o = settled.more in omega (arith, o)) (settled_at j m f)

module _ {P : Type 0} (shape : ShapeOf P) (chain : Chain P) (way : Way) {from : ℕ} {old new : List (Step P)}
    (settled : HasSettled shape way.side from old new) (b : Place) (steps : AreSteps shape way.side b old) where
  -- and one of them is as good as one that went
  pub settled_above : (t : Rational) (v : Extended) → ((j : ℕ) (l : Step P) → j < from → slice_get old j ≡ Some l → ¬ Upto (step_end l) t)
      → HasAbove shape chain way old t v → HasAbove shape chain way new t v
  settled_above t v gone a = by_place (below_or_not a.i settled.n)
    where
      new_at : (k i : ℕ) (l : Step P) → k ≡ settled.n + i → slice_get old k ≡ Some l → slice_get new i ≡ Some l
      new_at k i l e f = subst (λ xs. slice_get xs i ≡ Some l) (sym settled.is) (slice_get-drop settled.n old i ∙ subst (λ n. slice_get old n ≡ Some l) e f)

      inside : a.i < length old
      inside = slice_get_within old a.i a.level a.at

      by_best : from ≤ a.i → a.i < settled.n → HasAbove shape chain way new t v
      by_best o h =
          let here : settled.n < length old = elim (below_or_not settled.n (length old)) [
            | inl k ↦ k
            | inr k ↦ (let m = settled.none k in let w = inside in absurd (omega (arith, m, w, o)))
          ] in
          let (l, e) = slice_get_there old settled.n here in record {
            i = 0;
            level = l;
            at = new_at settled.n 0 l (omega arith) e;
            upto = ends_rise shape way.side b old a.i settled.n a.level l steps (omega (arith, h)) a.at e t a.upto;
            above = nw_trans (settled.best l a.level a.i e o a.at t t) a.above;
          }

      by_place : (a.i < settled.n) ⊎ (settled.n ≤ a.i) → HasAbove shape chain way new t v
      by_place (inr h) = record {
        i = a.i - settled.n;
        level = a.level;
        at = new_at a.i (a.i - settled.n) a.level (omega (arith, h)) a.at;
        upto = a.upto;
        above = a.above;
      }
      by_place (inl h) = elim (below_or_not a.i from) [
        | inl k ↦ absurd (gone a.i a.level k a.at a.upto)
        | inr k ↦ by_best k h
      ]

module _ {P : Type 0} (shape : ShapeOf P) (laws : ShapeLaws shape) (chain : Chain P) (way : Way) (rising : Rise chain.from chain.pieces) where
  -- a constant that counts from a place on counts from each later one on
  pub counted_later : (met b c : Place) (l : Step P) → AtMost b c → IsCounted shape chain way met b l → IsCounted shape chain way met c l
  counted_later met b c l m h = record {
    constant = h.constant;
    upto = h.upto;
    moved = h.moved;
    seen = λ t a u. h.seen t (after_at_most b c t m a) u;
    in_play = λ tau a k. h.in_play tau (lt_of_le_of_lt (le_of_at_most b c m) a) k;
  }

  -- and where more was met
  pub counted_more : (met more b : Place) (l : Step P) → AtMost met more → IsCounted shape chain way met b l → IsCounted shape chain way more b l
  counted_more met more b l m h = record {
    constant = h.constant;
    upto = h.upto;
    moved = h.moved;
    seen = λ t a u. let x = h.seen t a u in (x.0, x.1, m x.0 x.2, x.3);
    in_play = h.in_play;
  }

  module _ (met : Place) (s : Sliding P) (all : CountsAll shape chain way met s) where
    -- all are constants
    pub all_constant : AreConstantSteps shape s.steps.items
    all_constant i l e = (all.each i l e).constant

    -- one that is no worse than each that counts gives the best of what was met
    pub best_of_counted : (i : ℕ) (l : Step P) (t : Rational) → slice_get s.steps.items i ≡ Some l → After (stop s.out) t → Upto (step_end l) t
        → ((j : ℕ) (m : Step P) → slice_get s.steps.items j ≡ Some m → Upto (step_end m) t
        → IsNoWorse way.side (value_at (shape.function l.shape) t) (value_at (shape.function m.shape) t))
        → BestTo shape chain way met t (value_at (shape.function l.shape) t)
    best_of_counted i l t e a u best = let c = all.each i l e in
        of_best shape laws chain way rising met t (value_at (shape.function l.shape) t) (record {
          floor = floor shape laws chain way rising l.shape t;
          bound = λ y m. let x = all.above t m.0 y a (c.upto t u) m.1.0 m.1.1 m.2 in nw_trans (best x.i x.level x.at x.upto) x.above;
          reached = λ w k o. let x = c.seen t a u in (value_at (shape.function l.shape) t, (x.0, (x.1, x.2), x.3), o);
        })

    -- the first does
    pub best_of_first : IsFirstBest shape way.side s.steps.items → (l : Step P) (t : Rational) → slice_get s.steps.items 0 ≡ Some l → After (stop s.out) t
        → Upto (step_end l) t → BestTo shape chain way met t (value_at (shape.function l.shape) t)
    best_of_first first l t e a u = best_of_counted 0 l t e a u (λ j m f k. first l m j e f t t)

    -- where none counts, nothing is seen of what was met
    pub best_of_no_constant : (t : Rational) → After (last_end s) t → Upto (place way.to) t
        → BestTo shape chain way met t (none shape laws chain way rising)
    best_of_no_constant t a u = of_best shape laws chain way rising met t (none shape laws chain way rising)
        (none_seen shape laws chain way rising met t (λ x y see k w.
        let h = all.above t x y (after_at_most (stop s.out) (last_end s) t (to_end shape way.side (stop s.out) s.steps.items all.steps) a) u see k w in
        not_both (step_end h.level) t h.upto (after_at_most (step_end h.level) (last_end s) t
        (ends_within shape way.side (stop s.out) s.steps.items h.i h.level all.steps h.at) a)))

  -- the window has told more, and some constants are left
  pub told_on : (met : Place) (old new : Sliding P) (e : Cut) (p : P) → CountsAll shape chain way met old → GoesOn shape old.out e p new.out
      → Before (stop old.out) (place e) → AtMost (place e) (stop chain) → IsMovedTo shape chain way.over (place way.to) p
      → ((t : Rational) → After (stop old.out) t → Upto (place e) t → Best shape chain way t (value_at (shape.function p) t))
      → AreSteps shape way.side (place e) new.steps.items
      → ((i : ℕ) (l : Step P) → slice_get new.steps.items i ≡ Some l → (j : ℕ) × (slice_get old.steps.items j ≡ Some l))
      → ((t : Rational) (v : Extended) → After (place e) t → HasAbove shape chain way old.steps.items t v → HasAbove shape chain way new.steps.items t v)
      → CountsAll shape chain way met new
  told_on met old new e p all goes later inside moved best steps fewer above = record {
    normal = goes.normal;
    on = subst (λ x. AtMost chain.from x) (sym goes.ends) (at_most_trans chain.from (stop old.out) (place e) all.on on);
    upto = subst (λ x. AtMost x (stop chain)) (sym goes.ends) inside;
    told = λ t v w. elim ((goes.worth t v).0 w) [
      | inl k ↦ all.told t v k
      | inr (a, u, x) ↦ (best_is_function shape laws chain way rising).alike t t (value_at (shape.function p) t) v (same_refl t) (symᵉ x) (best t a u)
    ];
    moved = λ q h. elim (goes.shapes q h) [
      | inl k ↦ all.moved q k
      | inr k ↦ subst (λ x. IsMovedTo shape chain way.over (place way.to) x) (sym k) moved
    ];
    steps = subst (λ x. AreSteps shape way.side x new.steps.items) (sym goes.ends) steps;
    each = λ i l k. let f = fewer i l k in subst (λ x. IsCounted shape chain way met x l) (sym goes.ends)
        (counted_later met (stop old.out) (place e) l on (all.each f.0 l f.1));
    above = λ t u v a k see m w. let x = subst (λ x. After x t) goes.ends a in
        above t v x (all.above t u v (after_at_most (stop old.out) (place e) t on x) k see m w);
  }
    where
      on : AtMost (stop old.out) (place e)
      on = at_most_of_before (stop old.out) (place e) later

module _ {P : Type 0} (shape : ShapeOf P) (side : Side) where
  -- behind the first step
  pub steps_behind : (b : Place) (f : Step P) (rest : List (Step P)) (n : ℕ) → 1 ≤ n → AreConstantSteps shape (f ∷ rest) → AreSteps shape side b (f ∷ rest)
      → AreSteps shape side (step_end f) (drop n (f ∷ rest))
  steps_behind b f rest zero o a h = absurd (omega (arith, o))
  steps_behind b f rest (suc n) o a h = steps_dropped shape side (step_end f) n rest (λ i l e. a (suc i) l e) h.1

  -- they end where all do, or with the first, which was the last
  pub end_behind : (b : Place) (f : Step P) (rest : List (Step P)) (n : ℕ) → 1 ≤ n → (length (f ∷ rest) ≤ n → length (f ∷ rest) ≤ 1)
      → steps_end (step_end f) (drop n (f ∷ rest)) ≡ steps_end b (f ∷ rest)
  end_behind b f rest zero o none = absurd (omega (arith, o))
  end_behind b f rest (suc n) o none = elim (below_or_not n (length rest)) [
    | inl h ↦ end_dropped shape side (step_end f) n rest h
    | inr h ↦ (let e : rest ≡ [] = nil_from_length rest (let k = none (omega (arith, h)) in omega (arith, k)) in
        subst (λ xs. steps_end (step_end f) (drop n xs) ≡ steps_end (step_end f) xs) (sym e)
        (subst (λ xs. steps_end (step_end f) xs ≡ step_end f) (sym (drop_none n [] refl)) refl))
  ]

  -- a constant that goes on past a place may begin there
  pub begins_later : (b c : Place) (f : Step P) (rest : List (Step P)) → Before c (step_end f) → IsConstantStep shape f → AreSteps shape side b (f ∷ rest)
      → AreSteps shape side c (f ∷ rest)
  begins_later b c f rest later k h = (
    record {
      later = later;
      within = h.0.within;
      falls = λ t u i j l. nw_same side (k.1 t u);
      level = h.0.level;
      other = subst (IsOther shape side c (step_end f)) (sym k.0) tt;
    },
    h.1,
  )

-- what a window tells by its constants, up to a place
module _ {P : Type 0} (shape : ShapeOf P) (laws : ShapeLaws shape) (chain : Chain P) (way : Way) (rising : Rise chain.from chain.pieces) (met until : Place)
    (old new : Sliding P) (all : CountsAll shape chain way met old) (e : Cut) (later : Before (stop old.out) (place e)) (most : AtMost (place e) until)
    (inside : AtMost until (stop chain)) (to : AtMost (stop chain) (place way.to))
    (best : (t : Rational) (v : Extended) → Upto until t → BestTo shape chain way met t v → Best shape chain way t v) where
  -- where none counts
  pub told_none : (p : P) → GoesOn shape old.out e p new.out → old.steps.items ≡ [] → new.steps.items ≡ [] → shape.moves p ≡ false
      → ((t : Rational) → value_at (shape.function p) t ≈ᵉ none shape laws chain way rising) → CountsAll shape chain way met new
  told_none p goes nothing left still is = told_on shape laws chain way rising met old new e p all goes later
      (at_most_trans (place e) until (stop chain) most inside) (λ m. absurd (false≢true (sym still ∙ m)))
      (λ t a u. best t (value_at (shape.function p) t) (most t u) (of_best shape laws chain way rising met t (value_at (shape.function p) t)
      (best_value (symᵉ (is t)) (to_best shape laws chain way rising met t (none shape laws chain way rising)
      (best_of_no_constant shape laws chain way rising met old all t (subst (λ xs. After (steps_end (stop old.out) xs) t) (sym nothing) a)
      (to t (inside t (most t u))))))))
      (subst (AreSteps shape way.side (place e)) (sym left) tt)
      (λ i l k. absurd (none-some l (subst (λ xs. slice_get xs i ≡ Some l) left k)))
      (λ t v a h. absurd (none-some h.level (subst (λ xs. slice_get xs h.i ≡ Some h.level) nothing h.at)))

  module _ (f : Step P) (rest : List (Step P)) (items : old.steps.items ≡ f ∷ rest) (first : IsFirstBest shape way.side old.steps.items)
      (goes : GoesOn shape old.out e f.shape new.out) where
    at_first : slice_get old.steps.items 0 ≡ Some f
    at_first = ap (λ xs. slice_get xs 0) items

    steps : AreSteps shape way.side (stop old.out) (f ∷ rest)
    steps = subst (AreSteps shape way.side (stop old.out)) items all.steps

    told_first : AtMost (place e) (step_end f) → AreSteps shape way.side (place e) new.steps.items
        → ((i : ℕ) (l : Step P) → slice_get new.steps.items i ≡ Some l → (j : ℕ) × (slice_get old.steps.items j ≡ Some l))
        → ((t : Rational) (v : Extended) → After (place e) t → HasAbove shape chain way old.steps.items t v → HasAbove shape chain way new.steps.items t v)
        → CountsAll shape chain way met new
    told_first ends = told_on shape laws chain way rising met old new e f.shape all goes later (at_most_trans (place e) until (stop chain) most inside)
        (all.each 0 f at_first).moved (λ t a u. best t (value_at (shape.function f.shape) t) (most t u)
        (best_of_first shape laws chain way rising met old all first f t at_first a (ends t u)))

    -- a part of the first
    pub told_part : new.steps.items ≡ old.steps.items → Before (place e) (step_end f) → CountsAll shape chain way met new
    told_part same ends = told_first (at_most_of_before (place e) (step_end f) ends)
        (subst (AreSteps shape way.side (place e)) (sym (same ∙ items))
        (begins_later shape way.side (stop old.out) (place e) f rest ends (all.each 0 f at_first).constant steps))
        (λ i l k. (i, subst (λ xs. slice_get xs i ≡ Some l) same k))
        (λ t v a h. subst (λ xs. HasAbove shape chain way xs t v) (sym same) h)

    -- the first to its end
    pub told_whole : e ≡ f.until → HasSettled shape way.side 1 old.steps.items new.steps.items → CountsAll shape chain way met new
    told_whole at settled = told_first (subst (λ c. AtMost (place e) (place c)) at (at_most_itself (place e)))
        (subst (λ c. AreSteps shape way.side (place c) new.steps.items) (sym at) (subst (AreSteps shape way.side (step_end f)) (sym settled.is)
        (subst (λ xs. AreSteps shape way.side (step_end f) (drop settled.n xs)) (sym items)
        (steps_behind shape way.side (stop old.out) f rest settled.n settled.more
        (subst (AreConstantSteps shape) items (all_constant shape laws chain way rising met old all)) steps))))
        (λ i l k. (settled.n + i, settled_at shape way.side settled i l k))
        (λ t v a h. settled_above shape chain way settled (stop old.out) all.steps t v (λ j l k at_j u. not_both (place e) t
        (subst (λ c. Upto (place c) t) (sym at) (subst (λ x. Upto (step_end x) t) (some_is (sym at_j ∙ subst (λ n. slice_get old.steps.items n ≡ Some f)
        (omega (arith, k)) at_first)) u)) a) h)

-- with one more they are constants still
pub constant_more : {P : Type 0} (shape : ShapeOf P) (old new : List (Step P)) (l : Step P) → new ≡ old ++ l ∷ [] → AreConstantSteps shape old
    → l.other ≡ None → IsSteady (shape.function l.shape) → AreConstantSteps shape new
constant_more shape old new l e a none steady i x at = elim (slice_get-push_cases old l i x (subst (λ xs. slice_get xs i ≡ Some x) e at)) [
  | inl h ↦ a i x h
  | inr h ↦ subst (IsConstantStep shape) (sym h.1) (none, steady)
]

-- each has a level
pub level_of : {P : Type 0} (shape : ShapeOf P) (side : Side) (b : Place) (ls : List (Step P)) (i : ℕ) (l : Step P) → AreSteps shape side b ls
    → slice_get ls i ≡ Some l → HasBoundedLevel (2 ^ 31) (shape.function l.shape) × IsWithin (2 ^ 34) (step_end l).at
level_of shape side b [] i l h e = absurd (cc)
level_of shape side b (s ∷ ss) zero l h e = subst (λ x. HasBoundedLevel (2 ^ 31) (shape.function x.shape) × IsWithin (2 ^ 34) (step_end x).at) (some_is e)
    (h.0.level, h.0.within)
level_of shape side b (s ∷ ss) (suc i) l h e = level_of shape side (step_end s) ss i l h.1 e

-- what was told ends within limits
pub told_in_limits : {P : Type 0} (shape : ShapeOf P) (chain : Chain P) (way : Way) (met : Place) (s : Sliding P) → CanSlide shape chain way.over
    → CountsAll shape chain way met s → IsWithin (2 ^ 34) (stop s.out).at
told_in_limits shape chain way met s can all = within_between (2 ^ 34) can.limited.begins can.limited.ends (le_of_at_most chain.from (stop s.out) all.on)
    (le_of_at_most (stop s.out) (stop chain) all.upto)

-- the last may end elsewhere
pub asked_ended : {P : Type 0} (shape : ShapeOf P) (side : Side) (old new front : List (Step P)) (last l : Step P) (r : Range P) → AreAsked shape side old r
    → old ≡ front ++ last ∷ [] → new ≡ front ++ l ∷ [] → l.shape ≡ last.shape → AreAsked shape side new r
asked_ended shape side old new front last l r asked before after same = record {
  count = asked.count ∙ many;
  each = λ i x q e f. elim (slice_get-push_cases front l i x (subst (λ xs. slice_get xs i ≡ Some x) after e)) [
    | inl h ↦ asked.each i x q (subst (λ xs. slice_get xs i ≡ Some x) (sym before) (slice_get-append_left front (last ∷ []) i x h)) f
    | inr h ↦ subst (λ y. IsTurned shape side y q) (sym (ap (λ y. y.shape) h.1 ∙ same)) (asked.each i last q
        (subst (λ n. slice_get old n ≡ Some last) (sym h.0) (subst (λ xs. slice_get xs (length front) ≡ Some last) (sym before)
        (slice_get-append_here front last []))) f)
  ];
  low = asked.low;
  high = let h = asked.high in omega (arith, h, many);
}
  where
    many : length old ≡ length new
    many = ap length before ∙ length-append front (last ∷ []) ∙ sym (ap length after ∙ length-append front (l ∷ []))
