-- Steps one after another, and a constant that counts with them.
use Rattle.std.proofs.Common.{◌≡◌, ◌⊎◌, inl, inr, List, [], ◌∷◌, ◌++◌, Option, Some, None, ◌^◌, refl, sym, ap, subst, append_assoc, append-nil}
use Rattle.rational.specs.Rational.{IsWithin}
use Rattle.rational.specs.Time.{Rational, ◌≤ʳ◌, ◌<ʳ◌}
use Rattle.rational.specs.Extended.{Extended, value_at, Passes}
use Rattle.rational.specs.Affine.{HasBoundedLevel, IsSteady}
use Rattle.rational.specs.Places.{Place, After, Upto, Before, AtMost, Same}
use Rattle.rational.proofs.Order.{le_refl, le_trans, lt_of_le_of_lt, lt_of_lt_of_le}
use Rattle.rational.proofs.AffineLemmas.{same_reflᵉ}
use Rattle.rational.proofs.Sames.{symᵉ}
use Rattle.rational.proofs.PlaceLemmas.{between, sides, not_both, upto_of_before, after_of_before, after_at_most, le_through, le_of_at_most, place_order}
use Rattle.rational.proofs.PlaceLemmas.{not_before_itself, before_at_most, le_of_before, at_most_of_not_before}
use Rattle.frac128.specs.Cuts.{place}
use Rattle.frac128.specs.declared.cut.Cut.{Cut}
use Rattle.value_laws.specs.Members.{ShapeOf}
use Rattle.pl_signal.specs.declared.joining.Side.{Side}
use Rattle.pieces.specs.declared.steps.Step.{Step}
use Rattle.pieces.specs.Best.{IsNoWorse, IsWorse, IsBetter, FallsFrom}
use Rattle.pieces.specs.Steps.{step_end, steps_end, IsOfStep, IsOfSteps, CountsInside, IsWorthWith, Gives, StepsGive, IsLevel, IsOther, IsStep, AreSteps}
use Rattle.pieces.specs.Steps.{FallOff, HideTo, IsHidden, Outlasts, IsCapped, HasCounted, HasSlid}
use Rattle.pieces.proofs.Bests.{nw_trans, nw_same, nw_back, nw_of_worse, near_place}
use Rattle.pieces.proofs.Bests.{better_some, better_is_first, better_is_second, better_alike}
use Rattle.pieces.proofs.Ends.{after_le, upto_le, at_most_trans, same_place}

module _ {P : Type 0} where
  -- where joined lists end
  pub steps_end_append : (b : Place) (xs ys : List (Step P)) → steps_end b (xs ++ ys) ≡ steps_end (steps_end b xs) ys
  steps_end_append b [] ys = refl
  steps_end_append b (x ∷ xs) ys = steps_end_append (step_end x) xs ys

  -- what counts in joined lists
  pub counts_in : (b : Place) (xs ys : List (Step P)) (tau : Rational) (q : P) → CountsInside b (xs ++ ys) tau q
      → CountsInside b xs tau q ⊎ CountsInside (steps_end b xs) ys tau q
  counts_in b [] ys tau q h = inr h
  counts_in b (x ∷ xs) ys tau q (inl h) = inl (inl h)
  counts_in b (x ∷ xs) ys tau q (inr h) = elim (counts_in (step_end x) xs ys tau q h) [ inl k ↦ inl (inr k) | inr k ↦ inr k ]

  -- what counts in the first list counts in both
  pub counts_front : (b : Place) (xs ys : List (Step P)) (tau : Rational) (q : P) → CountsInside b xs tau q → CountsInside b (xs ++ ys) tau q
  counts_front b [] ys tau q h = absurd h
  counts_front b (x ∷ xs) ys tau q (inl h) = inl h
  counts_front b (x ∷ xs) ys tau q (inr h) = inr (counts_front (step_end x) xs ys tau q h)

  -- and so what counts in the second, which begins where the first ends
  pub counts_back : (b : Place) (xs ys : List (Step P)) (tau : Rational) (q : P) → CountsInside (steps_end b xs) ys tau q → CountsInside b (xs ++ ys) tau q
  counts_back b [] ys tau q h = h
  counts_back b (x ∷ xs) ys tau q h = inr (counts_back (step_end x) xs ys tau q h)

  -- the shapes of joined lists are those of both
  pub of_in : (xs ys : List (Step P)) (q : P) → IsOfSteps (xs ++ ys) q → IsOfSteps xs q ⊎ IsOfSteps ys q
  of_in [] ys q h = inr h
  of_in (x ∷ xs) ys q (inl h) = inl (inl h)
  of_in (x ∷ xs) ys q (inr h) = elim (of_in xs ys q h) [ inl k ↦ inl (inr k) | inr k ↦ inr k ]

  -- a shape of the first is one of both
  pub of_front : (xs ys : List (Step P)) (q : P) → IsOfSteps xs q → IsOfSteps (xs ++ ys) q
  of_front [] ys q h = absurd h
  of_front (x ∷ xs) ys q (inl h) = inl h
  of_front (x ∷ xs) ys q (inr h) = inr (of_front xs ys q h)

  -- and so is one of the second
  pub of_back : (xs ys : List (Step P)) (q : P) → IsOfSteps ys q → IsOfSteps (xs ++ ys) q
  of_back [] ys q h = h
  of_back (x ∷ xs) ys q h = inr (of_back xs ys q h)

module _ {P : Type 0} (shape : ShapeOf P) (side : Side) where
  -- what joined lists give
  pub give_in : (b : Place) (xs ys : List (Step P)) (t : Rational) (v : Extended) → StepsGive shape side b (xs ++ ys) t v
      → StepsGive shape side b xs t v ⊎ StepsGive shape side (steps_end b xs) ys t v
  give_in b [] ys t v h = inr h
  give_in b (x ∷ xs) ys t v (inl h) = inl (inl h)
  give_in b (x ∷ xs) ys t v (inr h) = elim (give_in (step_end x) xs ys t v h) [ inl k ↦ inl (inr k) | inr k ↦ inr k ]

  -- joined lists give what the first gives
  pub give_front : (b : Place) (xs ys : List (Step P)) (t : Rational) (v : Extended) → StepsGive shape side b xs t v
      → StepsGive shape side b (xs ++ ys) t v
  give_front b [] ys t v h = absurd h
  give_front b (x ∷ xs) ys t v (inl h) = inl h
  give_front b (x ∷ xs) ys t v (inr h) = inr (give_front (step_end x) xs ys t v h)

  -- and what the second gives, which begins where the first ends
  pub give_back : (b : Place) (xs ys : List (Step P)) (t : Rational) (v : Extended) → StepsGive shape side (steps_end b xs) ys t v
      → StepsGive shape side b (xs ++ ys) t v
  give_back b [] ys t v h = h
  give_back b (x ∷ xs) ys t v h = inr (give_back (step_end x) xs ys t v h)

  -- the first of two lists that are steps joined is steps
  pub steps_front : (b : Place) (xs ys : List (Step P)) → AreSteps shape side b (xs ++ ys) → AreSteps shape side b xs
  steps_front b [] ys h = tt
  steps_front b (x ∷ xs) ys h = (h.0, steps_front (step_end x) xs ys h.1)

  -- so the second
  pub steps_back : (b : Place) (xs ys : List (Step P)) → AreSteps shape side b (xs ++ ys) → AreSteps shape side (steps_end b xs) ys
  steps_back b [] ys h = h
  steps_back b (x ∷ xs) ys h = steps_back (step_end x) xs ys h.1

  -- both are joined
  pub steps_append : (b : Place) (xs ys : List (Step P)) → AreSteps shape side b xs → AreSteps shape side (steps_end b xs) ys
      → AreSteps shape side b (xs ++ ys)
  steps_append b [] ys h k = k
  steps_append b (x ∷ xs) ys h k = (h.0, steps_append (step_end x) xs ys h.1 k)

  -- where steps begin is at most where they end
  pub to_end : (b : Place) (xs : List (Step P)) → AreSteps shape side b xs → AtMost b (steps_end b xs)
  to_end b [] h t u = u
  to_end b (x ∷ xs) h t u = to_end (step_end x) xs h.1 t (upto_of_before b (step_end x) t h.0.later u)

  -- steps give something only behind where they begin
  pub give_after : (b : Place) (xs : List (Step P)) (t : Rational) (v : Extended) → AreSteps shape side b xs → StepsGive shape side b xs t v → After b t
  give_after b [] t v h g = absurd g
  give_after b (x ∷ xs) t v h (inl g) = g.0
  give_after b (x ∷ xs) t v h (inr g) = after_of_before b (step_end x) t h.0.later (give_after (step_end x) xs t v h.1 g)

  -- and only up to where they end
  pub give_upto : (b : Place) (xs : List (Step P)) (t : Rational) (v : Extended) → AreSteps shape side b xs → StepsGive shape side b xs t v
      → Upto (steps_end b xs) t
  give_upto b [] t v h g = absurd g
  give_upto b (x ∷ xs) t v h (inl g) = to_end (step_end x) xs h.1 t g.1
  give_upto b (x ∷ xs) t v h (inr g) = give_upto (step_end x) xs t v h.1 g

  -- a shape with another, or without, is worth something at each time
  some_with : (p : P) (o : Option P) (t : Rational) → (v : Extended) × IsWorthWith shape side p o t v
  some_with p None t = (value_at (shape.function p) t, same_reflᵉ (value_at (shape.function p) t))
  some_with p (Some q) t = better_some side (value_at (shape.function p) t) (value_at (shape.function q) t)

  -- a step gives something at each time
  pub gives_some : (s : Step P) (t : Rational) → (v : Extended) × Gives shape side s t v
  gives_some s t = some_with s.shape s.other t

  -- steps give something at each time from where they begin to where they end
  pub give_some : (b : Place) (xs : List (Step P)) (t : Rational) → After b t → Upto (steps_end b xs) t → (v : Extended) × StepsGive shape side b xs t v
  give_some b [] t a u = absurd (not_both b t u a)
  give_some b (x ∷ xs) t a u = elim (sides (step_end x) t) [
    | inl k ↦ (let g = gives_some x t in (g.0, inl (a, k, g.1)))
    | inr k ↦ (let g = give_some (step_end x) xs t k u in (g.0, inr g.1))
  ]

  -- what a step gives is no worse than its shape, and one of its two is no worse than it
  pub with_no_worse : (p : P) (o : Option P) (t : Rational) (v : Extended) → IsWorthWith shape side p o t v → IsNoWorse side v (value_at (shape.function p) t)
  with_no_worse p None t v g = nw_same side g
  with_no_worse p (Some q) t v g = g.left

  -- what a step gives is no worse than its other shape
  pub with_other : (p q : P) (o : Option P) (t : Rational) (v : Extended) → o ≡ Some q → IsWorthWith shape side p o t v
      → IsNoWorse side v (value_at (shape.function q) t)
  with_other p q None t v e g = absurd (cc)
  with_other p q (Some r) t v e g = let same : r ≡ q = cc in subst (λ r. IsNoWorse side v (value_at (shape.function r) t)) same g.right

  -- what is constant between two places is so between places nearer
  pub level_on : {b e b' e' : Place} (p : P) → b.at ≤ʳ b'.at → e'.at ≤ʳ e.at → IsLevel shape side b e p → IsLevel shape side b' e' p
  level_on p f l h = record { steady = λ t u a k m n. h.steady t u (le_trans f a) (le_trans k l) (le_trans f m) (le_trans n l); level = h.level }

  module _ (b : Place) (s : Step P) (p : P) (is : IsStep shape side b s) (level : IsLevel shape side b (step_end s) p) where
    order : b.at ≤ʳ (step_end s).at
    order = le_of_before b (step_end s) is.later

    -- the constant and the other one between the places
    at_begin : (t : Rational) (q : P) → After b t → Upto (step_end s) t → IsLevel shape side b (step_end s) q
        → IsNoWorse side (value_at (shape.function q) t) (value_at (shape.function q) b.at)
    at_begin t q a u h = nw_same side (h.steady t b.at (after_le b t a) (upto_le (step_end s) t u) (le_refl b.at) order)

    of_begin : (t : Rational) (q : P) → After b t → Upto (step_end s) t → IsLevel shape side b (step_end s) q
        → IsNoWorse side (value_at (shape.function q) b.at) (value_at (shape.function q) t)
    of_begin t q a u h = nw_same side (h.steady b.at t (le_refl b.at) order (after_le b t a) (upto_le (step_end s) t u))

    -- a constant that is no worse where the step begins is so throughout
    pub hidden_of : IsNoWorse side (value_at (shape.function p) b.at) (value_at (shape.function s.shape) b.at)
        → ((q : P) → s.other ≡ Some q → IsNoWorse side (value_at (shape.function p) b.at) (value_at (shape.function q) b.at)) → IsHidden shape side b s p
    hidden_of first second t v a u g = by_other s.other is.other second g
      where
        over_shape : IsNoWorse side (value_at (shape.function p) t) (value_at (shape.function s.shape) t)
        over_shape = nw_trans (at_begin t p a u level) (nw_trans first (is.falls b.at t (le_refl b.at) (after_le b t a) (upto_le (step_end s) t u)))

        by_other : (o : Option P) → IsOther shape side b (step_end s) o
            → ((q : P) → o ≡ Some q → IsNoWorse side (value_at (shape.function p) b.at) (value_at (shape.function q) b.at))
            → IsWorthWith shape side s.shape o t v → IsNoWorse side (value_at (shape.function p) t) v
        by_other None h k g = nw_trans over_shape (nw_back side g)
        by_other (Some q) h k g = elim g.one_of [
          | inl m ↦ nw_trans over_shape m
          | inr m ↦ nw_trans (at_begin t p a u level) (nw_trans (k q refl) (nw_trans (of_begin t q a u h) m))
        ]

    -- a step that is no worse than the constant at each of its times stays as it is
    stays : ((t : Rational) (x : Extended) → After b t → Upto (step_end s) t → Gives shape side s t x → IsNoWorse side x (value_at (shape.function p) t))
        → Outlasts shape side b s p s
    stays h =
        let t = between b (step_end s) is.later in
        let g = gives_some s t.0 in
        record {
          until = refl;
          is = is;
          gives = λ u v a k m. (v, m, better_is_first side v (value_at (shape.function p) u) (h u v a k m));
          above = (t.0, g.0, t.1, t.2, g.1, h t.0 g.0 t.1 t.2 g.1);
          shapes = λ q m. inl m;
        }

    -- so one whose constant is better
    pub stays_by_other : (q : P) → s.other ≡ Some q → IsWorse side (value_at (shape.function p) b.at) (value_at (shape.function q) b.at)
        → Outlasts shape side b s p s
    stays_by_other q e better = stays (λ t x a u g. by_other s.other e is.other t x a u g)
      where
        by_other : (o : Option P) → o ≡ Some q → IsOther shape side b (step_end s) o → (t : Rational) (x : Extended) → After b t → Upto (step_end s) t
            → IsWorthWith shape side s.shape o t x → IsNoWorse side x (value_at (shape.function p) t)
        by_other None f h t x a u g = absurd (cc)
        by_other (Some r) f h t x a u g =
            let same : r ≡ q = cc in
            nw_trans g.right (nw_trans (at_begin t r a u h)
            (subst (λ r. IsNoWorse side (value_at (shape.function r) b.at) (value_at (shape.function p) t)) (sym same)
            (nw_trans (nw_of_worse better) (of_begin t p a u level))))

    -- and one whose shape is steady, and better where it begins
    pub stays_by_shape : IsSteady (shape.function s.shape) → IsWorse side (value_at (shape.function p) b.at) (value_at (shape.function s.shape) b.at)
        → Outlasts shape side b s p s
    stays_by_shape steady better = stays (λ t x a u g. nw_trans (with_no_worse s.shape s.other t x g)
        (nw_trans (nw_same side (steady t b.at)) (nw_trans (nw_of_worse better) (of_begin t p a u level))))

    -- one whose shape is better where it begins goes on with the constant
    pub goes_on_with : IsWorse side (value_at (shape.function p) b.at) (value_at (shape.function s.shape) b.at)
        → ((q : P) → s.other ≡ Some q → IsNoWorse side (value_at (shape.function p) b.at) (value_at (shape.function q) b.at))
        → Outlasts shape side b s p (record { until = s.until; shape = s.shape; other = Some p })
    goes_on_with first second =
        let t = near_place side (shape.function s.shape) b (step_end s) (value_at (shape.function p) b.at) is.later (inl first) in
        let g = gives_some s t.0 in
        record {
          until = refl;
          is = record { later = is.later; within = is.within; falls = is.falls; level = is.level; other = level };
          gives = λ u v a k m. by_other u v a k s.other is.other second m;
          above = (
            t.0,
            g.0,
            t.1,
            t.2,
            g.1,
            nw_trans (with_no_worse s.shape s.other t.0 g.0 g.1) (nw_trans (nw_of_worse t.3) (of_begin t.0 p t.1 t.2 level)),
          );
          shapes = λ q m. of_two q m;
        }
      where
        of_two : (q : P) → (q ≡ s.shape) ⊎ (Some p ≡ Some q) → IsOfStep s q ⊎ (q ≡ p)
        of_two q (inl e) = inl (inl e)
        of_two q (inr e) = inr (cc)

        by_other : (u : Rational) (v : Extended) → After b u → Upto (step_end s) u → (o : Option P) → IsOther shape side b (step_end s) o
            → ((q : P) → o ≡ Some q → IsNoWorse side (value_at (shape.function p) b.at) (value_at (shape.function q) b.at))
            → IsBetter side (value_at (shape.function s.shape) u) (value_at (shape.function p) u) v
            → (x : Extended) × IsWorthWith shape side s.shape o u x × IsBetter side x (value_at (shape.function p) u) v
        by_other u v a z None h k m = (value_at (shape.function s.shape) u, same_reflᵉ (value_at (shape.function s.shape) u), m)
        by_other u v a z (Some q) h k m =
            let c = better_some side (value_at (shape.function s.shape) u) (value_at (shape.function q) u) in
            let over : IsNoWorse side (value_at (shape.function p) u) (value_at (shape.function q) u) =
            nw_trans (at_begin u p a z level) (nw_trans (k q refl) (of_begin u q a z h)) in (
              c.0,
              c.1,
              record {
                left = elim c.1.one_of [ inl n ↦ nw_trans m.left n | inr n ↦ nw_trans m.right (nw_trans over n) ];
                right = m.right;
                one_of = elim m.one_of [ inl n ↦ inl (nw_trans c.1.left n) | inr n ↦ inr n ];
              },
            )

  -- the constant as a step of its own
  pub constant_step : (b c : Place) (until : Cut) (p : P) → AtMost b c → Before c (place until) → IsWithin (2 ^ 34) (place until).at
      → IsLevel shape side b (place until) p → IsStep shape side c (record { until = until; shape = p; other = None })
  constant_step b c until p on later within level = record {
    later = later;
    within = within;
    falls = λ t u a k m. nw_same side (level.steady t u (le_trans (le_of_at_most b c on) a) (le_trans k m)
        (le_trans (le_trans (le_of_at_most b c on) a) k) m);
    level = level.level;
    other = tt;
  }

  -- the steps at the end that were taken away: the constant is no worse
  pub record Capping (b : Place) (old : List (Step P)) (p : P) (left : List (Step P)) : Type 0 where
    -- what was taken away
    pub gone : List (Step P)
    -- stood behind what is left
    pub same : old ≡ left ++ gone
    -- and is no better than the constant
    pub hidden : (t : Rational) (x : Extended) → StepsGive shape side (steps_end b left) gone t x → IsNoWorse side (value_at (shape.function p) t) x

  -- none was taken away yet
  pub capping_none : (b : Place) (old : List (Step P)) (p : P) → Capping b old p old
  capping_none b old p = record { gone = []; same = sym (append-nil old); hidden = λ t x g. absurd g }

  -- steps end within limits
  pub steps_within : (b : Place) (xs : List (Step P)) → AreSteps shape side b xs → IsWithin (2 ^ 34) b.at → IsWithin (2 ^ 34) (steps_end b xs).at
  steps_within b [] h k = k
  steps_within b (x ∷ xs) h k = steps_within (step_end x) xs h.1 h.0.within

  module _ (b : Place) (old : List (Step P)) (p : P) (steps : AreSteps shape side b old) (falls : FallOff shape side b old)
      (level : IsLevel shape side b (steps_end b old) p) where
    -- one more is taken away
    pub capping_on : (cur rest : List (Step P)) (last : Step P) → Capping b old p cur → cur ≡ rest ++ last ∷ [] → IsHidden shape side (steps_end b rest) last p
        → Capping b old p rest
    capping_on cur rest last c e hides = record {
      gone = last ∷ c.gone;
      same = subst (λ xs. old ≡ xs) all c.same;
      hidden = λ t x g. by_part t x g;
    }
      where
        all : cur ++ c.gone ≡ rest ++ (last ∷ c.gone)
        all = subst (λ xs. xs ++ c.gone ≡ rest ++ (last ∷ c.gone)) (sym e) (append_assoc rest (last ∷ []) c.gone)

        ends : steps_end b cur ≡ step_end last
        ends = subst (λ xs. steps_end b xs ≡ step_end last) (sym e) (steps_end_append b rest (last ∷ []))

        by_part : (t : Rational) (x : Extended) → StepsGive shape side (steps_end b rest) (last ∷ c.gone) t x → IsNoWorse side (value_at (shape.function p) t) x
        by_part t x (inl g) = hides t x g.0 g.1 g.2
        by_part t x (inr g) = c.hidden t x (subst (λ s. StepsGive shape side s c.gone t x) (sym ends) g)

    -- the last step that is left, where it begins
    pub last_step : (cur rest : List (Step P)) (last : Step P) → Capping b old p cur → cur ≡ rest ++ last ∷ []
        → IsStep shape side (steps_end b rest) last × AtMost b (steps_end b rest) × AtMost (step_end last) (steps_end b old) × AreSteps shape side b rest
    last_step cur rest last c e =
        let all = subst (λ xs. old ≡ xs) (append_assoc rest (last ∷ []) c.gone) (subst (λ xs. old ≡ xs ++ c.gone) e c.same) in
        let whole = subst (AreSteps shape side b) all steps in
        let back = steps_back b rest (last ∷ c.gone) whole in (
          back.0,
          to_end b rest (steps_front b rest (last ∷ c.gone) whole),
          subst (λ s. AtMost (step_end last) s) (sym (subst (λ xs. steps_end b xs ≡ steps_end (step_end last) c.gone) (sym all)
              (steps_end_append b rest (last ∷ c.gone)))) (to_end (step_end last) c.gone back.1),
          steps_front b rest (last ∷ c.gone) whole,
        )

    -- until none is left
    pub capped_none : Capping b old p [] → IsCapped shape side b old p []
    capped_none c = record {
      steps = tt;
      upto = to_end b old steps;
      gives = λ t v g. absurd g;
      hidden = λ t x a g. c.hidden t x (subst (λ xs. StepsGive shape side b xs t x) c.same g);
      shapes = λ tau q h. absurd h;
      of = λ q h. absurd h;
    }

    -- or one is better somewhere
    pub capped_at : (cur rest : List (Step P)) (last left : Step P) → Capping b old p cur → cur ≡ rest ++ last ∷ []
        → Outlasts shape side (steps_end b rest) last p left → IsCapped shape side b old p (rest ++ left ∷ [])
    capped_at cur rest last left c e out = record {
      steps = steps_append b rest (left ∷ []) front (out.is, tt);
      upto = subst (λ s. AtMost s (steps_end b old)) (sym ends_left) last_most;
      gives = λ t v g. by_part t v (give_in b rest (left ∷ []) t v g);
      hidden = λ t x a g. by_old t x (subst (λ s. After s t) ends_left a) (give_in b rest (last ∷ c.gone) t x (in_parts t x g));
      shapes = λ tau q h. by_count tau q (counts_in b rest (left ∷ []) tau q h);
      of = λ q h. by_shape q (of_in rest (left ∷ []) q h);
    }
      where
        all : old ≡ rest ++ (last ∷ c.gone)
        all = subst (λ xs. old ≡ xs) (append_assoc rest (last ∷ []) c.gone) (subst (λ xs. old ≡ xs ++ c.gone) e c.same)

        whole : AreSteps shape side b (rest ++ (last ∷ c.gone))
        whole = subst (AreSteps shape side b) all steps

        front : AreSteps shape side b rest
        front = steps_front b rest (last ∷ c.gone) whole

        back : AreSteps shape side (steps_end b rest) (last ∷ c.gone)
        back = steps_back b rest (last ∷ c.gone) whole

        until : step_end left ≡ step_end last
        until = ap (λ u. place u) out.until

        ends_left : steps_end b (rest ++ left ∷ []) ≡ step_end last
        ends_left = subst (λ s. steps_end b (rest ++ left ∷ []) ≡ s) until (steps_end_append b rest (left ∷ []))

        ends_old : steps_end b old ≡ steps_end (step_end last) c.gone
        ends_old = subst (λ xs. steps_end b xs ≡ steps_end (step_end last) c.gone) (sym all) (steps_end_append b rest (last ∷ c.gone))

        last_most : AtMost (step_end last) (steps_end b old)
        last_most = subst (λ s. AtMost (step_end last) s) (sym ends_old) (to_end (step_end last) c.gone back.1)

        ends_cur : steps_end b cur ≡ step_end last
        ends_cur = subst (λ xs. steps_end b xs ≡ step_end last) (sym e) (steps_end_append b rest (last ∷ []))

        in_parts : (t : Rational) (x : Extended) → StepsGive shape side b old t x → StepsGive shape side b (rest ++ (last ∷ c.gone)) t x
        in_parts t x g = subst (λ xs. StepsGive shape side b xs t x) all g

        of_parts : (t : Rational) (x : Extended) → StepsGive shape side b (rest ++ (last ∷ c.gone)) t x → StepsGive shape side b old t x
        of_parts t x g = subst (λ xs. StepsGive shape side b xs t x) (sym all) g

        of_last : (t : Rational) (x : Extended) → After (steps_end b rest) t → Upto (step_end last) t → Gives shape side last t x
            → StepsGive shape side b old t x
        of_last t x a u g = of_parts t x (give_back b rest (last ∷ c.gone) t x (inl (a, u, g)))

        high : (t : Rational) (v : Extended) → StepsGive shape side b rest t v → IsNoWorse side v (value_at (shape.function p) t)
        high t v g =
            let (u, x, a, k, m, n) = out.above in
            let to_u = le_through (steps_end b rest) t u (give_upto b rest t v front g) a in
            let from_t = after_le b t (give_after b rest t v front g) in
            let last_u = le_trans (upto_le (step_end last) u k) (le_of_at_most (step_end last) (steps_end b old) last_most) in
            nw_trans (falls t u v x to_u (of_parts t v (give_front b rest (last ∷ c.gone) t v g)) (of_last u x a k m))
            (nw_trans n (nw_same side (level.steady u t (le_trans from_t to_u) last_u from_t (le_trans to_u last_u))))

        by_part : (t : Rational) (v : Extended) → StepsGive shape side b rest t v ⊎ StepsGive shape side (steps_end b rest) (left ∷ []) t v
            → (x : Extended) × StepsGive shape side b old t x × IsBetter side x (value_at (shape.function p) t) v
        by_part t v (inl g) =
            (v, of_parts t v (give_front b rest (last ∷ c.gone) t v g), better_is_first side v (value_at (shape.function p) t) (high t v g))
        by_part t v (inr (inl g)) =
            let u = subst (λ s. Upto s t) until g.1 in
            let m = out.gives t v g.0 u g.2 in
            (m.0, of_last t m.0 g.0 u m.1, m.2)
        by_part t v (inr (inr g)) = absurd g

        by_old : (t : Rational) (x : Extended) → After (step_end last) t
            → StepsGive shape side b rest t x ⊎ StepsGive shape side (steps_end b rest) (last ∷ c.gone) t x → IsNoWorse side (value_at (shape.function p) t) x
        by_old t x a (inl g) = absurd (not_both (step_end last) t
            (upto_of_before (steps_end b rest) (step_end last) t back.0.later (give_upto b rest t x front g)) a)
        by_old t x a (inr (inl g)) = absurd (not_both (step_end last) t g.1 a)
        by_old t x a (inr (inr g)) = c.hidden t x (subst (λ s. StepsGive shape side s c.gone t x) (sym ends_cur) g)

        by_count : (tau : Rational) (q : P) → CountsInside b rest tau q ⊎ CountsInside (steps_end b rest) (left ∷ []) tau q
            → CountsInside b old tau q ⊎ ((q ≡ p) × (b.at <ʳ tau) × (tau <ʳ (steps_end b old).at))
        by_count tau q (inl h) = inl (subst (λ xs. CountsInside b xs tau q) (sym all) (counts_front b rest (last ∷ c.gone) tau q h))
        by_count tau q (inr (inr h)) = absurd h
        by_count tau q (inr (inl h)) =
            let before = subst (λ s. tau <ʳ s.at) until h.1 in
            elim (out.shapes q h.2) [
              | inl m ↦ inl (subst (λ xs. CountsInside b xs tau q) (sym all) (counts_back b rest (last ∷ c.gone) tau q (inl (h.0, before, m))))
              | inr m ↦ inr (
                m,
                lt_of_le_of_lt (le_of_at_most b (steps_end b rest) (to_end b rest front)) h.0,
                lt_of_lt_of_le before (le_of_at_most (step_end last) (steps_end b old) last_most),
              )
            ]

        by_shape : (q : P) → IsOfSteps rest q ⊎ IsOfSteps (left ∷ []) q → IsOfSteps old q ⊎ (q ≡ p)
        by_shape q (inl h) = inl (subst (λ xs. IsOfSteps xs q) (sym all) (of_front rest (last ∷ c.gone) q h))
        by_shape q (inr (inr h)) = absurd h
        by_shape q (inr (inl h)) = elim (out.shapes q h) [
          | inl m ↦ inl (subst (λ xs. IsOfSteps xs q) (sym all) (of_back rest (last ∷ c.gone) q (inl m)))
          | inr m ↦ inr m
        ]

    module _ (capped : List (Step P)) (e : Place) (c : IsCapped shape side b old p capped) (last : AtMost (steps_end b old) e) where
      in_old : (tau : Rational) (q : P) → CountsInside b old tau q ⊎ ((q ≡ p) × (b.at <ʳ tau) × (tau <ʳ (steps_end b old).at))
          → CountsInside b old tau q ⊎ ((q ≡ p) × (b.at <ʳ tau) × (tau <ʳ e.at))
      in_old tau q (inl h) = inl h
      in_old tau q (inr (m, a, u)) = inr (m, a, lt_of_lt_of_le u (le_of_at_most (steps_end b old) e last))

      -- the steps that are left go on to the place
      pub counted_whole : ¬ Before (steps_end b capped) e → HasCounted shape side b old p e capped
      counted_whole n = record {
        steps = c.steps;
        ends = by_order (place_order (steps_end b capped) e);
        gives = λ t v g. inl (c.gives t v g);
        shapes = λ tau q h. in_old tau q (c.shapes tau q h);
        of = c.of;
      }
        where
          by_order : Before (steps_end b capped) e ⊎ Same (steps_end b capped) e ⊎ Before e (steps_end b capped) → Same (steps_end b capped) e
          by_order (inl h) = absurd (n h)
          by_order (inr (inl h)) = h
          by_order (inr (inr h)) =
              absurd (not_before_itself e (before_at_most e (steps_end b capped) e h (at_most_trans (steps_end b capped) (steps_end b old) e c.upto last)))

      -- or the constant does
      pub counted_on : (s : Step P) → s.shape ≡ p → s.other ≡ None → step_end s ≡ e → IsStep shape side (steps_end b capped) s
          → HasCounted shape side b old p e (capped ++ s ∷ [])
      counted_on s is none until step = record {
        steps = steps_append b capped (s ∷ []) c.steps (step, tt);
        ends = subst (λ x. Same x e) (sym (steps_end_append b capped (s ∷ []))) (subst (λ x. Same x e) (sym until) (same_place e));
        gives = λ t v g. by_part t v (give_in b capped (s ∷ []) t v g);
        shapes = λ tau q h. by_count tau q (counts_in b capped (s ∷ []) tau q h);
        of = λ q h. by_shape q (of_in capped (s ∷ []) q h);
      }
        where
          of_two : (q : P) → (q ≡ s.shape) ⊎ (s.other ≡ Some q) → q ≡ p
          of_two q (inl m) = subst (λ x. q ≡ x) is m
          of_two q (inr m) = absurd (cc)

          worth : (t : Rational) (v : Extended) → Gives shape side s t v → Passes (shape.function p) t v
          worth t v g = subst (λ q. Passes (shape.function q) t v) is (subst (λ o. IsWorthWith shape side s.shape o t v) none g)

          by_side : (t : Rational) (v : Extended) → After (steps_end b capped) t → Upto e t → Passes (shape.function p) t v
              → Upto (steps_end b old) t ⊎ After (steps_end b old) t
              → ((x : Extended) × StepsGive shape side b old t x × IsBetter side x (value_at (shape.function p) t) v)
              ⊎ (After (steps_end b old) t × Upto e t × Passes (shape.function p) t v)
          by_side t v a u w (inr k) = inr (k, u, w)
          by_side t v a u w (inl k) =
              let x = give_some b old t (after_at_most b (steps_end b capped) t (to_end b capped c.steps) a) k in
              inl (
                x.0,
                x.1,
                better_alike (same_reflᵉ x.0) (same_reflᵉ (value_at (shape.function p) t)) (symᵉ w)
                    (better_is_second side x.0 (value_at (shape.function p) t) (c.hidden t x.0 a x.1)),
              )

          by_part : (t : Rational) (v : Extended) → StepsGive shape side b capped t v ⊎ StepsGive shape side (steps_end b capped) (s ∷ []) t v
              → ((x : Extended) × StepsGive shape side b old t x × IsBetter side x (value_at (shape.function p) t) v)
              ⊎ (After (steps_end b old) t × Upto e t × Passes (shape.function p) t v)
          by_part t v (inl g) = inl (c.gives t v g)
          by_part t v (inr (inl g)) =
              by_side t v g.0 (subst (λ x. Upto x t) until g.1) (worth t v g.2) (sides (steps_end b old) t)
          by_part t v (inr (inr g)) = absurd g

          by_count : (tau : Rational) (q : P) → CountsInside b capped tau q ⊎ CountsInside (steps_end b capped) (s ∷ []) tau q
              → CountsInside b old tau q ⊎ ((q ≡ p) × (b.at <ʳ tau) × (tau <ʳ e.at))
          by_count tau q (inl h) = in_old tau q (c.shapes tau q h)
          by_count tau q (inr (inr h)) = absurd h
          by_count tau q (inr (inl h)) = inr (
            of_two q h.2,
            lt_of_le_of_lt (le_of_at_most b (steps_end b capped) (to_end b capped c.steps)) h.0,
            subst (λ x. tau <ʳ x.at) until h.1,
          )

          by_shape : (q : P) → IsOfSteps capped q ⊎ IsOfSteps (s ∷ []) q → IsOfSteps old q ⊎ (q ≡ p)
          by_shape q (inl h) = c.of q h
          by_shape q (inr (inl h)) = inr (of_two q h)
          by_shape q (inr (inr h)) = absurd h

  -- where the last step is no worse than a value, and nothing that they give is better later, all that they give is no worse
  pub all_above : (b : Place) (ss : List (Step P)) (v : Extended) (e : Place) → AreSteps shape side b ss → FallOff shape side b ss
      → HideTo shape side ss v e → (t : Rational) (x : Extended) → StepsGive shape side b ss t x → IsNoWorse side x v
  all_above b ss v e steps falls hides t x g = by_part (give_in b hides.front (hides.last ∷ []) t x (subst (λ xs. StepsGive shape side b xs t x) hides.are g))
    where
      parts : AreSteps shape side b (hides.front ++ hides.last ∷ [])
      parts = subst (AreSteps shape side b) hides.are steps

      last : IsStep shape side (steps_end b hides.front) hides.last
      last = (steps_back b hides.front (hides.last ∷ []) parts).0

      of_last : (t : Rational) (x : Extended) → After (steps_end b hides.front) t → Upto (step_end hides.last) t → Gives shape side hides.last t x
          → IsNoWorse side x v
      of_last t x a u g = elim hides.above [
        | inl h ↦ h t x g
        | inr h ↦ nw_trans (with_no_worse hides.last.shape hides.last.other t x g) (nw_trans (last.falls t (step_end hides.last).at
            (after_le (steps_end b hides.front) t a) (upto_le (step_end hides.last) t u) (le_refl (step_end hides.last).at)) h)
      ]

      by_part : StepsGive shape side b hides.front t x ⊎ StepsGive shape side (steps_end b hides.front) (hides.last ∷ []) t x → IsNoWorse side x v
      by_part (inl h) =
          let u = between (steps_end b hides.front) (step_end hides.last) last.later in
          let y = gives_some hides.last u.0 in
          nw_trans (falls t u.0 x y.0 (le_through (steps_end b hides.front) t u.0
          (give_upto b hides.front t x (steps_front b hides.front (hides.last ∷ []) parts) h) u.1) g
          (subst (λ xs. StepsGive shape side b xs u.0 y.0) (sym hides.are)
          (give_back b hides.front (hides.last ∷ []) u.0 y.0 (inl (u.1, u.2, y.1))))) (of_last u.0 y.0 u.1 u.2 y.1)
      by_part (inr (inl h)) = of_last t x h.0 h.1 h.2
      by_part (inr (inr h)) = absurd h

  -- steps that hide a value up to a place go on to that place
  pub hide_upto : (b : Place) (ss : List (Step P)) (v : Extended) (e : Place) → HideTo shape side ss v e → AtMost e (steps_end b ss)
  hide_upto b ss v e hides = subst (λ s. AtMost e s) (sym (subst (λ xs. steps_end b xs ≡ step_end hides.last) (sym hides.are)
      (steps_end_append b hides.front (hides.last ∷ [])))) hides.upto

  -- a shape that gets no better as a step of its own
  pub slope_step : (b c : Place) (until : Cut) (p : P) → AtMost b c → Before c (place until) → IsWithin (2 ^ 34) (place until).at
      → FallsFrom side b.at (place until).at (shape.function p) → HasBoundedLevel (2 ^ 31) (shape.function p)
      → IsStep shape side c (record { until = until; shape = p; other = None })
  slope_step b c until p on later within falls level = record {
    later = later;
    within = within;
    falls = λ t u a k m. falls t u (le_trans (le_of_at_most b c on) a) k m;
    level = level;
    other = tt;
  }

  module _ (b : Place) (old : List (Step P)) (p : P) (e : Place) (steps : AreSteps shape side b old) where
    -- nothing follows steps that end no earlier
    pub slid_none : ¬ Before (steps_end b old) e → HasSlid shape side b old p e old
    slid_none n = record {
      steps = steps;
      gives = λ t v g. inl g;
      past = λ t a. (after_at_most e (steps_end b old) t (at_most_of_not_before e (steps_end b old) n) a, a);
      shapes = λ tau q h. inl h;
      of = λ q h. inl h;
    }

    -- a step follows
    pub slid_on : (s : Step P) → s.shape ≡ p → s.other ≡ None → step_end s ≡ e → IsStep shape side (steps_end b old) s
        → HasSlid shape side b old p e (old ++ s ∷ [])
    slid_on s is none until step = record {
      steps = steps_append b old (s ∷ []) steps (step, tt);
      gives = λ t v g. by_part t v (give_in b old (s ∷ []) t v g);
      past = λ t a. let k = subst (λ x. After x t) (steps_end_append b old (s ∷ [])) a in
          (subst (λ x. After x t) until k, after_of_before (steps_end b old) (step_end s) t step.later k);
      shapes = λ tau q h. by_count tau q (counts_in b old (s ∷ []) tau q h);
      of = λ q h. by_shape q (of_in old (s ∷ []) q h);
    }
      where
        of_two : (q : P) → (q ≡ s.shape) ⊎ (s.other ≡ Some q) → q ≡ p
        of_two q (inl m) = subst (λ x. q ≡ x) is m
        of_two q (inr m) = absurd (cc)

        by_part : (t : Rational) (v : Extended) → StepsGive shape side b old t v ⊎ StepsGive shape side (steps_end b old) (s ∷ []) t v
            → StepsGive shape side b old t v ⊎ (After (steps_end b old) t × Upto e t × Passes (shape.function p) t v)
        by_part t v (inl g) = inl g
        by_part t v (inr (inl g)) = inr (
          g.0,
          subst (λ x. Upto x t) until g.1,
          subst (λ q. Passes (shape.function q) t v) is
              (subst (λ o. IsWorthWith shape side s.shape o t v) none g.2),
        )
        by_part t v (inr (inr g)) = absurd g

        by_count : (tau : Rational) (q : P) → CountsInside b old tau q ⊎ CountsInside (steps_end b old) (s ∷ []) tau q
            → CountsInside b old tau q ⊎ ((q ≡ p) × ((steps_end b old).at <ʳ tau) × (tau <ʳ e.at))
        by_count tau q (inl h) = inl h
        by_count tau q (inr (inr h)) = absurd h
        by_count tau q (inr (inl h)) = inr (of_two q h.2, h.0, subst (λ x. tau <ʳ x.at) until h.1)

        by_shape : (q : P) → IsOfSteps old q ⊎ IsOfSteps (s ∷ []) q → IsOfSteps old q ⊎ ((q ≡ p) × Before (steps_end b old) e)
        by_shape q (inl h) = inl h
        by_shape q (inr (inl h)) = inr (of_two q h, subst (Before (steps_end b old)) until step.later)
        by_shape q (inr (inr h)) = absurd h
