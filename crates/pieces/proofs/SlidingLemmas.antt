-- A chain that goes on with the better of what a step gives and of a shape, and a window that tells more.
use Rattle.std.proofs.Common.{◌≡◌, ◌⊎◌, inl, inr, List, [], ◌∷◌, Option, Some, None, Result, Ok, refl, sym, ap, ◌∙◌, subst}
use Rattle.std.specs.Prelude.{IfSome, MatchResult}
use Rattle.std.proofs.lemmas.Option.{IfSome_then}
use Rattle.rational.specs.Time.{Rational, ◌≤ʳ◌, ◌<ʳ◌}
use Rattle.rational.specs.Extended.{Extended, value_at, Passes}
use Rattle.rational.specs.Affine.{MeetAlone}
use Rattle.rational.specs.Places.{Place, After, Upto, Before, AtMost}
use Rattle.rational.proofs.Order.{le_refl, le_trans, lt_of_le_of_lt, lt_of_lt_of_le}
use Rattle.rational.proofs.AffineLemmas.{same_reflᵉ}
use Rattle.rational.proofs.PlaceLemmas.{upto_of_before, after_of_before, after_at_most, le_of_before, le_of_at_most}
use Rattle.frac128.specs.Value.{value}
use Rattle.frac128.specs.Cuts.{place}
use Rattle.frac128.specs.declared.cut.Cut.{Cut}
use Rattle.frac128.specs.declared.frac.Frac.{Frac}
use Rattle.value_laws.specs.Members.{ShapeOf}
use Rattle.pl_signal.specs.declared.joining.Side.{Side}
use Rattle.pl_signal.specs.declared.faults.WidePair.{WidePair}
use Rattle.pl_signal.specs.declared.faults.WidePair.TheVariants.{Cross, Value}
use Rattle.pl_signal.specs.declared.faults.OpFault.{OpFault}
use Rattle.pl_signal.specs.declared.faults.OpFault.TheVariants as F
use Rattle.pl_signal.proofs.Kept.{good_of}
use Rattle.pl_signal.specs.Joining.{IsChosen, IsGapFault}
use Rattle.pieces.specs.declared.steps.Step.{Step}
use Rattle.pieces.specs.declared.sliding.Sliding.{Sliding}
use Rattle.pieces.specs.Best.{IsNoWorse, IsBetter, FallsFrom, RisesFrom}
use Rattle.pieces.specs.Chains.{Chain, stop, HasShape, IsNormal, IsWorth}
use Rattle.pieces.specs.Building.{GoesOn}
use Rattle.pieces.specs.Joining.{Joins}
use Rattle.pieces.specs.Steps.{IsOfSteps, step_end, steps_end, IsOfStep, IsWorthWith, CountsInside, Gives, StepsGive, AreSteps, IsOther}
use Rattle.pieces.specs.Sliding.{last_end, IsCross, IsCrossFault, IsWritten, IsBestWith, HasTold, IsToldFault}
use Rattle.pieces.proofs.Bests.{nw_trans, better_of_chosen, better_some, better_is_first}
use Rattle.pieces.proofs.Ends.{after_le, upto_le, at_most_of_before, at_most_itself, at_most_trans}
use Rattle.pieces.proofs.StepLemmas.{level_on}

module _ {P : Type 0} (shape : ShapeOf P) where
  -- what a join refuses is a crossing of two shapes that count
  pub cross_of_gap : (Has : Rational → P → Type 0) (lo hi : Rational) (p q : P) (from to : Frac) (pair : WidePair P)
      → IsGapFault shape p q from to (F.Wide pair) → ((t : Rational) → value from <ʳ t → t <ʳ value to → Has t p × Has t q)
      → lo ≤ʳ value from → value to ≤ʳ hi → IsCrossFault shape Has lo hi pair
  cross_of_gap Has lo hi p q from to (Cross x y c d den) (e, f, i, j, m) has above below =
      let Wide = λ (x y : P) (c d : Frac). IsCross shape Has lo hi x y (value c) (value d) den in
      subst (λ x. Wide x y c d) (sym e) (subst (λ y. Wide p y c d) (sym f) (subst (λ c. Wide p q c d) (sym i) (subst (λ d. Wide p q from d) (sym j)
      (record {
        time = m.0;
        meet = m.1;
        above = above;
        below = below;
        first = (has m.0 m.1.after m.1.before).0;
        second = (has m.0 m.1.after m.1.before).1;
        denominator = m.2;
        wide = m.3;
      }))))
  cross_of_gap Has lo hi p q from to (Value x c den) h has above below = absurd h

  -- so for what a join keeps of it
  pub cross_of_join : (Has : Rational → P → Type 0) (lo hi start : Rational) (p q : P) (until : Frac) (kept : Option (WidePair P))
      → IfSome kept (λ pair. (from : Frac) × (value from ≡ start) × IsGapFault shape p q from until (F.Wide pair))
      → ((t : Rational) → start <ʳ t → t <ʳ value until → Has t p × Has t q) → lo ≤ʳ start → value until ≤ʳ hi → IfSome kept (IsCrossFault shape Has lo hi)
  cross_of_join Has lo hi start p q until kept some has above below = IfSome_then kept some (λ pair (from, at, fault).
      cross_of_gap Has lo hi p q from until pair fault (λ t a u. has t (subst (λ x. x <ʳ t) at a) u) (subst (λ x. lo ≤ʳ x) (sym at) above) below)

  -- where a crossing that was found lies
  pub meet_of : (p q : P) (from to : Frac) (done : Result Frac (OpFault P)) (x : Frac) → done ≡ Ok x
      → MatchResult done (λ t. MeetAlone (shape.function p) (shape.function q) (value from) (value to) (value t)) (IsGapFault shape p q from to)
      → MeetAlone (shape.function p) (shape.function q) (value from) (value to) (value x)
  meet_of p q from to done x is h =
      good_of (λ t. MeetAlone (shape.function p) (shape.function q) (value from) (value to) (value t)) (IsGapFault shape p q from to) done x is h

  -- by less that counts, and less between
  pub cross_more : (Has Has' : Rational → P → Type 0) (lo hi lo' hi' : Rational) (pair : WidePair P) → lo' ≤ʳ lo → hi ≤ʳ hi'
      → ((t : Rational) (p : P) → lo <ʳ t → t <ʳ hi → Has t p → Has' t p) → IsCrossFault shape Has lo hi pair → IsCrossFault shape Has' lo' hi' pair
  cross_more Has Has' lo hi lo' hi' (Cross p q a b den) l h f x = record {
    time = x.time;
    meet = x.meet;
    above = le_trans l x.above;
    below = le_trans x.below h;
    first = f x.time p (lt_of_le_of_lt x.above x.meet.after) (lt_of_lt_of_le x.meet.before x.below) x.first;
    second = f x.time q (lt_of_le_of_lt x.above x.meet.after) (lt_of_lt_of_le x.meet.before x.below) x.second;
    denominator = x.denominator;
    wide = x.wide;
  }
  cross_more Has Has' lo hi lo' hi' (Value p at den) l h f x = absurd x

module _ {P : Type 0} (shape : ShapeOf P) (side : Side) where
  -- what is chosen of three
  abbrev pub OfThree : P → P → P → Rational → Extended → Type 0
  OfThree slope other gap t v = (x : Extended) × IsBetter side (value_at (shape.function slope) t) (value_at (shape.function other) t) x
      × IsBetter side x (value_at (shape.function gap) t) v

  module _ (slope other gap : P) (t : Rational) (v : Extended) where
    -- where the slope is no worse than the gap, of it and the other
    pub by_slope : IsNoWorse side (value_at (shape.function slope) t) (value_at (shape.function gap) t)
        → IsBetter side (value_at (shape.function slope) t) (value_at (shape.function other) t) v → OfThree slope other gap t v
    by_slope h c = (v, c, better_is_first side v (value_at (shape.function gap) t) (nw_trans c.left h))

    -- and where the gap is no worse, of the other and the gap
    pub by_gap : IsNoWorse side (value_at (shape.function gap) t) (value_at (shape.function slope) t)
        → IsBetter side (value_at (shape.function other) t) (value_at (shape.function gap) t) v → OfThree slope other gap t v
    by_gap h c =
        let x = better_some side (value_at (shape.function slope) t) (value_at (shape.function other) t) in (
          x.0,
          x.1,
          record {
            left = elim x.1.one_of [ inl k ↦ nw_trans c.right (nw_trans h k) | inr k ↦ nw_trans c.left k ];
            right = c.right;
            one_of = elim c.one_of [ inl k ↦ inl (nw_trans x.1.right k) | inr k ↦ inr k ];
          },
        )

  -- a chain that goes on with the better of two shapes, where that is what is asked
  pub written_by : (old new : Chain P) (s : Step P) (gap p q : P) (until : Cut) → Joins shape side old p q until new
      → IsOfStep s p ⊎ (p ≡ gap) → IsOfStep s q ⊎ (q ≡ gap)
      → ((t : Rational) (v : Extended) → After (stop old) t → Upto (place until) t
      → IsBetter side (value_at (shape.function p) t) (value_at (shape.function q) t) v
      → (x : Extended) × Gives shape side s t x × IsBetter side x (value_at (shape.function gap) t) v)
      → IsWritten shape side old s gap until new
  written_by old new s gap p q until j first second here = record {
    normal = j.normal;
    begins = j.begins;
    ends = j.ends;
    worth = λ t v w. elim ((j.worth t v).0 w) [
      | inl k ↦ inl k
      | inr k ↦ inr (
        k.0,
        k.1,
        here t v k.0 k.1
            (better_of_chosen side (value_at (shape.function p) t) (value_at (shape.function q) t) v k.2),
      )
    ];
    shapes = λ r h. by_shape r (j.shapes r h);
  }
    where
      by_shape : (r : P) → HasShape old r ⊎ (r ≡ p) ⊎ (r ≡ q) → HasShape old r ⊎ IsOfStep s r ⊎ (r ≡ gap)
      by_shape r (inl h) = inl h
      by_shape r (inr (inl e)) = inr (subst (λ x. IsOfStep s x ⊎ (x ≡ gap)) (sym e) first)
      by_shape r (inr (inr e)) = inr (subst (λ x. IsOfStep s x ⊎ (x ≡ gap)) (sym e) second)

  -- a step of one shape
  pub written_alone : (old new : Chain P) (s : Step P) (gap : P) (until : Cut) → s.other ≡ None → Joins shape side old s.shape gap until new
      → IsWritten shape side old s gap until new
  written_alone old new s gap until none j = written_by old new s gap s.shape gap until j (inl (inl refl)) (inr refl)
      (λ t v a u c. (value_at (shape.function s.shape) t, gives t s.other none, c))
    where
      gives : (t : Rational) (o : Option P) → o ≡ None
          → IsWorthWith shape side s.shape o t (value_at (shape.function s.shape) t)
      gives t None e = same_reflᵉ (value_at (shape.function s.shape) t)
      gives t (Some q) e = absurd (cc)

  module _ (old : Chain P) (slope other gap : P) (until : Cut) (falls : FallsFrom side (stop old).at (place until).at (shape.function slope))
      (rises : RisesFrom side (stop old).at (place until).at (shape.function gap)) where
    abbrev step : Step P
    step = record { until = until; shape = slope; other = Some other }

    -- the slope is no worse to the end
    pub three_by_slope : (new : Chain P) (e : Cut) → (place e).at ≤ʳ (place until).at
        → IsNoWorse side (value_at (shape.function slope) (place e).at) (value_at (shape.function gap) (place e).at)
        → Joins shape side old slope other e new → IsWritten shape side old step gap e new
    three_by_slope new e most h j = written_by old new step gap slope other e j (inl (inl refl)) (inl (inr refl))
        (λ t v a u c. by_slope slope other gap t v
        (nw_trans (falls t (place e).at (after_le (stop old) t a) (upto_le (place e) t u) most)
        (nw_trans h (rises t (place e).at (after_le (stop old) t a) (upto_le (place e) t u) most))) c)

    -- the gap is no worse from the begin on
    pub three_by_gap : (begin : Rational) (new : Chain P) → (stop old).at ≡ begin
        → IsNoWorse side (value_at (shape.function gap) begin) (value_at (shape.function slope) begin)
        → Joins shape side old other gap until new → IsWritten shape side old step gap until new
    three_by_gap begin new at h j = written_by old new step gap other gap until j (inl (inr refl)) (inr refl)
        (λ t v a u c. let l = subst (λ b. b ≤ʳ t) at (after_le (stop old) t a) in
        by_gap slope other gap t v (nw_trans (rises begin t (subst (λ b. (stop old).at ≤ʳ b) at (le_refl (stop old).at)) l (upto_le (place until) t u))
        (nw_trans h (falls begin t (subst (λ b. (stop old).at ≤ʳ b) at (le_refl (stop old).at)) l (upto_le (place until) t u)))) c)

    -- they meet on the way
    pub three_by_both : (half new : Chain P) (middle : Cut) → Before (stop old) (place middle) → Before (place middle) (place until)
        → IsNoWorse side (value_at (shape.function slope) (place middle).at) (value_at (shape.function gap) (place middle).at)
        → IsNoWorse side (value_at (shape.function gap) (place middle).at) (value_at (shape.function slope) (place middle).at)
        → Joins shape side old slope other middle half → Joins shape side half other gap until new → IsWritten shape side old step gap until new
    three_by_both half new middle before after h k j j' = record {
      normal = j'.normal;
      begins = j'.begins ∙ j.begins;
      ends = j'.ends;
      worth = λ t v w. by_half t v ((j'.worth t v).0 w);
      shapes = λ r m. by_shape r (j'.shapes r m);
    }
      where
        first : IsWritten shape side old step gap middle half
        first = three_by_slope half middle (le_of_before (place middle) (place until) after) h j

        by_half : (t : Rational) (v : Extended) → IsWorth shape half t v ⊎ (After (stop half) t × Upto (place until) t
            × IsChosen side (value_at (shape.function other) t) (value_at (shape.function gap) t) v)
            → IsWorth shape old t v ⊎ (After (stop old) t × Upto (place until) t
            × ((x : Extended) × Gives shape side step t x × IsBetter side x (value_at (shape.function gap) t) v))
        by_half t v (inl w) = elim (first.worth t v w) [ inl m ↦ inl m | inr m ↦ inr (m.0, upto_of_before (place middle) (place until) t after m.1, m.2) ]
        by_half t v (inr w) =
            let a = subst (λ s. After s t) j.ends w.0 in
            let l = after_le (place middle) t a in
            inr (
              after_of_before (stop old) (place middle) t before a,
              w.1,
              by_gap slope other gap t v
                  (nw_trans (rises (place middle).at t (le_of_before (stop old) (place middle) before) l (upto_le (place until) t w.1))
                  (nw_trans k (falls (place middle).at t (le_of_before (stop old) (place middle) before) l (upto_le (place until) t w.1))))
                  (better_of_chosen side (value_at (shape.function other) t) (value_at (shape.function gap) t) v w.2),
            )

        by_shape : (r : P) → HasShape half r ⊎ (r ≡ other) ⊎ (r ≡ gap) → HasShape old r ⊎ IsOfStep step r ⊎ (r ≡ gap)
        by_shape r (inl m) = first.shapes r m
        by_shape r (inr (inl e)) = inr (inl (inr (ap (λ x. Some x) (sym e))))
        by_shape r (inr (inr e)) = inr (inr e)

  -- a step of two shapes, by its two
  pub written_like : (old new : Chain P) (s : Step P) (gap other : P) (until : Cut) → s.other ≡ Some other
      → IsWritten shape side old (record { until = until; shape = s.shape; other = Some other }) gap until new → IsWritten shape side old s gap until new
  written_like old new s gap other until e w = record {
    normal = w.normal;
    begins = w.begins;
    ends = w.ends;
    worth = λ t v h. elim (w.worth t v h) [
      | inl k ↦ inl k
      | inr (a, u, (x, g, c)) ↦ inr (a, u, (x, subst (λ o. IsWorthWith shape side s.shape o t x) (sym e) g, c))
    ];
    shapes = λ r h. elim (w.shapes r h) [
      | inl k ↦ inl k
      | inr o ↦ elim o [ inl k ↦ inr (inl (elim k [ inl m ↦ inl m | inr m ↦ inr (e ∙ m) ])) | inr k ↦ inr (inr k) ]
    ];
  }

  -- a window that has told nothing more
  pub told_none : (gap : P) (s : Sliding P) → IsNormal shape s.out → AreSteps shape side (stop s.out) s.steps.items → HasTold shape side gap s s
  told_none gap s normal steps = record {
    normal = normal;
    begins = refl;
    on = at_most_itself (stop s.out);
    worth = λ t v w. inl w;
    steps = steps;
    gives = λ t v g. g;
    left = λ t a. a;
    last = inl refl;
    shapes = λ p h. inl h;
    fewer = λ p h. h;
    counts = λ tau p h. h;
  }

  module _ (gap : P) (old mid : Sliding P) (told : HasTold shape side gap old mid) where
    -- no step is left: the shape is told
    pub told_rest : (new : Sliding P) (until : Cut) → mid.steps.items ≡ [] → new.steps.items ≡ [] → Before (stop mid.out) (place until)
        → GoesOn shape mid.out until gap new.out → HasTold shape side gap old new
    told_rest new until none none' later goes = record {
      normal = goes.normal;
      begins = goes.begins ∙ told.begins;
      on = at_most_trans (stop old.out) (stop mid.out) (stop new.out) told.on (subst (λ s. AtMost (stop mid.out) s) (sym goes.ends) on);
      worth = λ t v w. by_part t v ((goes.worth t v).0 w);
      steps = subst (AreSteps shape side (stop new.out)) (sym none') tt;
      gives = λ t v g. absurd (subst (λ xs. StepsGive shape side (stop new.out) xs t v) none' g);
      left = λ t a. told.left t (left_mid t (after_of_before (stop mid.out) (place until) t later
          (subst (λ s. After s t) goes.ends (subst (λ xs. After (steps_end (stop new.out) xs) t) none' a))));
      last = inr none';
      shapes = λ p h. by_shape p (goes.shapes p h);
      fewer = λ p h. absurd (subst (λ xs. IsOfSteps xs p) none' h);
      counts = λ tau p h. absurd (subst (λ xs. CountsInside (stop new.out) xs tau p) none' h);
    }
      where
        on : AtMost (stop mid.out) (place until)
        on = at_most_of_before (stop mid.out) (place until) later

        left_mid : (t : Rational) → After (stop mid.out) t → After (last_end mid) t
        left_mid t a = subst (λ xs. After (steps_end (stop mid.out) xs) t) (sym none) a

        by_part : (t : Rational) (v : Extended) → IsWorth shape mid.out t v ⊎ (After (stop mid.out) t × Upto (place until) t × Passes (shape.function gap) t v)
            → IsWorth shape old.out t v ⊎ (After (stop old.out) t × Upto (stop new.out) t × IsBestWith shape side old gap t v)
        by_part t v (inl w) = elim (told.worth t v w) [
          | inl m ↦ inl m
          | inr m ↦ inr (m.0, subst (λ s. Upto s t) (sym goes.ends) (on t m.1), m.2)
        ]
        by_part t v (inr w) = inr (
          after_at_most (stop old.out) (stop mid.out) t told.on w.0,
          subst (λ s. Upto s t) (sym goes.ends) w.1,
          inr (told.left t (left_mid t w.0), w.2),
        )

        by_shape : (p : P) → HasShape mid.out p ⊎ (p ≡ gap) → HasShape old.out p ⊎ IsOfSteps old.steps.items p ⊎ (p ≡ gap)
        by_shape p (inl h) = told.shapes p h
        by_shape p (inr e) = inr (inr e)

    -- what is refused as the first step is told
    pub told_fault : (first : Step P) (rest : List (Step P)) (e : Cut) (until : Place) (kept : Option (WidePair P)) → mid.steps.items ≡ first ∷ rest
        → AtMost (place e) (step_end first) → AtMost (place e) until
        → IfSome kept (IsCrossFault shape (λ _ p. IsOfStep first p ⊎ (p ≡ gap)) (stop mid.out).at (place e).at)
        → IfSome kept (IsToldFault shape side gap until old)
    told_fault first rest e until kept items most below some = IfSome_then kept some (λ pair x. cross_more shape (λ _ p. IsOfStep first p ⊎ (p ≡ gap))
        (λ tau p. CountsInside (stop old.out) old.steps.items tau p ⊎ (p ≡ gap)) (stop mid.out).at (place e).at (stop old.out).at until.at pair
        (le_of_at_most (stop old.out) (stop mid.out) told.on) (le_of_at_most (place e) until below) by_part x)
      where
        by_part : (t : Rational) (p : P) → (stop mid.out).at <ʳ t → t <ʳ (place e).at → IsOfStep first p ⊎ (p ≡ gap)
            → CountsInside (stop old.out) old.steps.items t p ⊎ (p ≡ gap)
        by_part t p a u (inl h) = inl (told.counts t p (subst (λ xs. CountsInside (stop mid.out) xs t p) (sym items)
            (inl (a, lt_of_lt_of_le u (le_of_at_most (place e) (step_end first) most), h))))
        by_part t p a u (inr h) = inr h

    module _ (new : Sliding P) (first : Step P) (rest : List (Step P)) (e : Cut) (items : mid.steps.items ≡ first ∷ rest)
        (later : Before (stop mid.out) (place e)) (most : AtMost (place e) (step_end first))
        (written : IsWritten shape side mid.out first gap e new.out) where
      on_mid : AtMost (stop mid.out) (stop new.out)
      on_mid = subst (λ s. AtMost (stop mid.out) s) (sym written.ends) (at_most_of_before (stop mid.out) (place e) later)

      gives_first : (t : Rational) (x : Extended) → After (stop mid.out) t → Upto (place e) t → Gives shape side first t x
          → StepsGive shape side (stop mid.out) mid.steps.items t x
      gives_first t x a u g = subst (λ xs. StepsGive shape side (stop mid.out) xs t x) (sym items) (inl (a, most t u, g))

      told_worth : (t : Rational) (v : Extended) → IsWorth shape new.out t v
          → IsWorth shape old.out t v ⊎ (After (stop old.out) t × Upto (stop new.out) t × IsBestWith shape side old gap t v)
      told_worth t v w = by_part (written.worth t v w)
        where
          by_part : IsWorth shape mid.out t v ⊎ (After (stop mid.out) t × Upto (place e) t
              × ((x : Extended) × Gives shape side first t x × IsBetter side x (value_at (shape.function gap) t) v))
              → IsWorth shape old.out t v ⊎ (After (stop old.out) t × Upto (stop new.out) t × IsBestWith shape side old gap t v)
          by_part (inl k) = elim (told.worth t v k) [ inl m ↦ inl m | inr m ↦ inr (m.0, on_mid t m.1, m.2) ]
          by_part (inr (a, u, (x, g, c))) = inr (
            after_at_most (stop old.out) (stop mid.out) t told.on a,
            subst (λ s. Upto s t) (sym written.ends) u,
            inl (x, told.gives t x (gives_first t x a u g), c),
          )

      told_shapes : (p : P) → HasShape new.out p → HasShape old.out p ⊎ IsOfSteps old.steps.items p ⊎ (p ≡ gap)
      told_shapes p h = by_part (written.shapes p h)
        where
          by_part : HasShape mid.out p ⊎ IsOfStep first p ⊎ (p ≡ gap) → HasShape old.out p ⊎ IsOfSteps old.steps.items p ⊎ (p ≡ gap)
          by_part (inl k) = told.shapes p k
          by_part (inr (inl k)) = inr (inl (told.fewer p (subst (λ xs. IsOfSteps xs p) (sym items) (inl k))))
          by_part (inr (inr k)) = inr (inr k)

      -- the first step was told to its end
      pub told_step : new.steps.items ≡ rest → e ≡ first.until → AreSteps shape side (stop mid.out) mid.steps.items → HasTold shape side gap old new
      told_step is at steps = record {
        normal = written.normal;
        begins = written.begins ∙ told.begins;
        on = at_most_trans (stop old.out) (stop mid.out) (stop new.out) told.on on_mid;
        worth = told_worth;
        steps = subst (λ s. AreSteps shape side s new.steps.items) (sym ends) (subst (AreSteps shape side (step_end first)) (sym is)
            (subst (AreSteps shape side (stop mid.out)) items steps).1);
        gives = λ t v g. told.gives t v (subst (λ xs. StepsGive shape side (stop mid.out) xs t v) (sym items) (inr (in_rest t v g)));
        left = λ t a. told.left t (subst (λ s. After s t) same a);
        last = elim told.last [ inl k ↦ inl (same ∙ k) | inr k ↦ absurd (none_first k) ];
        shapes = told_shapes;
        fewer = λ p h. told.fewer p (subst (λ xs. IsOfSteps xs p) (sym items) (inr (subst (λ xs. IsOfSteps xs p) is h)));
        counts = λ tau p h. told.counts tau p (subst (λ xs. CountsInside (stop mid.out) xs tau p) (sym items)
            (inr (subst (λ xs. CountsInside (step_end first) xs tau p) is (subst (λ s. CountsInside s new.steps.items tau p) ends h))));
      }
        where
          ends : stop new.out ≡ step_end first
          ends = written.ends ∙ ap (λ u. place u) at

          same : last_end new ≡ last_end mid
          same = ap (λ s. steps_end s new.steps.items) ends ∙ ap (λ xs. steps_end (step_end first) xs) is
              ∙ sym (ap (λ xs. steps_end (stop mid.out) xs) items)

          none_first : mid.steps.items ≡ [] → ⊥
          none_first k = let x : first ∷ rest ≡ [] = sym items ∙ k in cc

          in_rest : (t : Rational) (v : Extended) → StepsGive shape side (stop new.out) new.steps.items t v → StepsGive shape side (step_end first) rest t v
          in_rest t v g = subst (λ xs. StepsGive shape side (step_end first) xs t v) is (subst (λ s. StepsGive shape side s new.steps.items t v) ends g)

      -- or up to a place before
      pub told_part : new.steps.items ≡ first ∷ rest → Before (place e) (step_end first) → AreSteps shape side (stop mid.out) mid.steps.items
          → HasTold shape side gap old new
      told_part is before steps = record {
        normal = written.normal;
        begins = written.begins ∙ told.begins;
        on = at_most_trans (stop old.out) (stop mid.out) (stop new.out) told.on on_mid;
        worth = told_worth;
        steps = subst (AreSteps shape side (stop new.out)) (sym is) (
          record {
            later = subst (λ s. Before s (step_end first)) (sym written.ends) before;
            within = whole.0.within;
            falls = λ t u a k m. whole.0.falls t u (le_trans nearer a) k m;
            level = whole.0.level;
            other = others first.other whole.0.other;
          },
          whole.1,
        );
        gives = λ t v g. told.gives t v (subst (λ xs. StepsGive shape side (stop mid.out) xs t v) (sym items)
            (in_first t v (subst (λ xs. StepsGive shape side (stop new.out) xs t v) is g)));
        left = λ t a. told.left t (subst (λ s. After s t) same a);
        last = elim told.last [ inl k ↦ inl (same ∙ k) | inr k ↦ absurd (none_first k) ];
        shapes = told_shapes;
        fewer = λ p h. told.fewer p (subst (λ xs. IsOfSteps xs p) (is ∙ sym items) h);
        counts = λ tau p h. told.counts tau p (subst (λ xs. CountsInside (stop mid.out) xs tau p) (sym items)
            (count_first tau p (subst (λ xs. CountsInside (stop new.out) xs tau p) is h)));
      }
        where
          whole : AreSteps shape side (stop mid.out) (first ∷ rest)
          whole = subst (AreSteps shape side (stop mid.out)) items steps

          nearer : (stop mid.out).at ≤ʳ (stop new.out).at
          nearer = le_of_at_most (stop mid.out) (stop new.out) on_mid

          others : (o : Option P) → IsOther shape side (stop mid.out) (step_end first) o → IsOther shape side (stop new.out) (step_end first) o
          others None h = tt
          others (Some q) h = level_on shape side q nearer (le_refl (step_end first).at) h

          same : last_end new ≡ last_end mid
          same = ap (λ xs. steps_end (stop new.out) xs) is ∙ sym (ap (λ xs. steps_end (stop mid.out) xs) items)

          none_first : mid.steps.items ≡ [] → ⊥
          none_first k = let x : first ∷ rest ≡ [] = sym items ∙ k in cc

          in_first : (t : Rational) (v : Extended) → StepsGive shape side (stop new.out) (first ∷ rest) t v
              → StepsGive shape side (stop mid.out) (first ∷ rest) t v
          in_first t v (inl g) = inl (after_at_most (stop mid.out) (stop new.out) t on_mid g.0, g.1, g.2)
          in_first t v (inr g) = inr g

          count_first : (tau : Rational) (p : P) → CountsInside (stop new.out) (first ∷ rest) tau p → CountsInside (stop mid.out) (first ∷ rest) tau p
          count_first tau p (inl h) = inl (lt_of_le_of_lt (le_of_at_most (stop mid.out) (stop new.out) on_mid) h.0, h.1, h.2)
          count_first tau p (inr h) = inr h
