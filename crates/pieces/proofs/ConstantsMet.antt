-- A window that has met constants alone takes one more up, or counts the one at hand further; and it tells the best of those that count.
use Rattle.std.proofs.Common.{◌≡◌, ◌⊎◌, inl, inr, ℕ, ◌^◌, ◌≤◌, ◌+◌, ◌-◌, List, [], ◌∷◌, ◌++◌, length, Some}
use Rattle.std.proofs.Common.{sym, ◌∙◌, subst, arith, length-append}
use Rattle.std.specs.Prelude.{slice_get}
use Rattle.rational.specs.Time.{Rational, add, whole}
use Rattle.rational.specs.Extended.{Extended, value_at, ◌≈ᵉ◌}
use Rattle.rational.specs.Affine.{IsSteady}
use Rattle.rational.specs.InPlay.{IsBreakpoint}
use Rattle.rational.specs.Places.{Place, After, AtMost, Before, Upto}
use Rattle.rational.proofs.Lists.{slice_get-drop, slice_get-append_here, slice_get-append_left, slice_get-push_cases}
use Rattle.rational.proofs.AffineLemmas.{bounded_same}
use Rattle.rational.proofs.Order.{same_refl}
use Rattle.rational.proofs.Sames.{symᵉ, transᵉ}
use Rattle.rational.proofs.PlaceLemmas.{after_at_most, before_through, before_trans, between, sides, upto_of_before}
use Rattle.frac128.specs.Cuts.{place}
use Rattle.value_laws.specs.Members.{ShapeOf, ShapeLaws}
use Rattle.pieces.specs.declared.piece.Piece.{Piece}
use Rattle.pieces.specs.declared.reach.Way.{Way}
use Rattle.pieces.specs.declared.sliding.Sliding.{Sliding}
use Rattle.pieces.specs.declared.steps.Step.{Step}
use Rattle.pieces.specs.Best.{IsNoWorse}
use Rattle.pieces.specs.Chains.{Chain, HasShape, IsNormal, IsWorth, end, stop}
use Rattle.pieces.specs.Constants.{AreConstantSteps, CountsAll, Fits, HasAbove, HasSettled, IsConstantStep, IsCounted}
use Rattle.pieces.specs.Steps.{AreSteps, IsOther, IsStep, step_end, steps_end}
use Rattle.pieces.specs.Sliding.{last_end}
use Rattle.pieces.specs.Windows.{CanSlide, HasEntered, IsNonEmpty, IsPieceFrom}
use Rattle.pieces.proofs.Bests.{nw_same}
use Rattle.pieces.proofs.ChainLemmas.{worth_same}
use Rattle.pieces.proofs.ChainsTell.{rising_is_function}
use Rattle.pieces.proofs.ConstantLemmas.{counted_more, settled_above, settled_at, steps_dropped}
use Rattle.pieces.proofs.CountsInPlay.{steady_plays}
use Rattle.pieces.proofs.LevelsLemmas.{below_or_not}
use Rattle.pieces.proofs.StepLemmas.{steps_append, steps_back, steps_front}
use Rattle.pieces.proofs.SeenBest.{earlier_place, high, later_place, low}
use Rattle.pieces.proofs.WindowEnds.{room_in}

-- a window has met more of a constant, from where that begins to where it ends
module _ {P : Type 0} (shape : ShapeOf P) (laws : ShapeLaws shape) (chain : Chain P) (way : Way) (can : CanSlide shape chain way.over) (met begin : Place)
    (old : Sliding P) (all : CountsAll shape chain way met old) (p : Piece P) (is : IsPieceFrom shape chain begin p) (more : AtMost met (end p)) where
  -- nothing of it is seen any more
  pub past_more : ((t : Rational) → After (stop old.out) t → Upto (place way.to) t → ¬ Before (low shape laws chain way can.rising t) (end p))
      → CountsAll shape chain way (end p) old
  past_more past = record {
    normal = all.normal;
    on = all.on;
    upto = all.upto;
    told = all.told;
    moved = all.moved;
    steps = all.steps;
    each = λ i l e. counted_more shape laws chain way can.rising met (end p) (stop old.out) l more (all.each i l e);
    above = λ t u v a k see m w. absurd (past t a k (before_through (low shape laws chain way can.rising t) (end p) u see.0 m));
  }

  -- one of those that count has its value, and the others counted before
  module _ (begun : AtMost begin met) (l : Step P) (value : (t u : Rational) → value_at (shape.function l.shape) t ≈ᵉ value_at (shape.function p.shape) u)
      (short : (t : Rational) → After (stop old.out) t → After (step_end l) t → Upto (place way.to) t
      → ¬ Before (low shape laws chain way can.rising t) (end p)) where
    -- so the best of those that count is the best of what was met by the end of the piece
    pub grown : (new : Sliding P) → new.out ≡ old.out → AreSteps shape way.side (stop old.out) new.steps.items → (k : ℕ)
        → slice_get new.steps.items k ≡ Some l
        → ((i : ℕ) (x : Step P) → slice_get new.steps.items i ≡ Some x
        → ((j : ℕ) × (slice_get old.steps.items j ≡ Some x)) ⊎ IsCounted shape chain way (end p) (stop old.out) x)
        → ((t : Rational) (v : Extended) → HasAbove shape chain way old.steps.items t v → HasAbove shape chain way new.steps.items t v)
        → CountsAll shape chain way (end p) new
    grown new out steps k at which keep = record {
      normal = subst (λ o. IsNormal shape o) (sym out) all.normal;
      on = subst (λ o. AtMost chain.from (stop o)) (sym out) all.on;
      upto = subst (λ o. AtMost (stop o) (stop chain)) (sym out) all.upto;
      told = λ t v w. all.told t v (subst (λ o. IsWorth shape o t v) out w);
      moved = λ q h. all.moved q (subst (λ o. HasShape o q) out h);
      steps = subst (λ o. AreSteps shape way.side (stop o) new.steps.items) (sym out) steps;
      each = λ i x e. subst (λ o. IsCounted shape chain way (end p) (stop o) x) (sym out) (elim (which i x e) [
        | inl f ↦ counted_more shape laws chain way can.rising met (end p) (stop old.out) x more (all.each f.0 x f.1)
        | inr f ↦ f
      ]);
      above = λ t u v a h see m w. let here = subst (λ o. After (stop o) t) out a in elim (sides met u) [
        | inl y ↦ keep t v (all.above t u v here h see y w)
        | inr y ↦ record {
          i = k;
          level = l;
          at = at;
          upto = elim (sides (step_end l) t) [
            | inl z ↦ z
            | inr z ↦ absurd (short t here z h (before_through (low shape laws chain way can.rising t) (end p) u see.0 m))
          ];
          above = nw_same way.side (transᵉ (value t u) (symᵉ ((rising_is_function shape chain can.rising).one u v (value_at (shape.function p.shape) u) w
              (is.worth u (after_at_most begin met u begun y) m))));
        }
      ];
    }

  module _ (some : IsNonEmpty way.over) (begun : AtMost begin met) (steady : IsSteady (shape.function p.shape))
      (breaks : IsBreakpoint (IsWorth shape chain) chain.from.at (stop chain).at begin.at) (entered : HasEntered shape chain way begin old)
      (l : Step P) (fits : Fits shape chain way p l) where
    -- a constant with its value counts
    counted : IsCounted shape chain way (end p) (stop old.out) l
    counted = record {
      constant = fits.constant;
      upto = λ t u. (fits.left.upto t u).1;
      moved = fits.moved;
      seen = λ t a u.
          let k = fits.left.upto t u in
          let (b, later) = later_place begin (low shape laws chain way can.rising t) in
          let (e, earlier) = earlier_place (end p) (high shape laws chain way can.rising t) in
          let (x, j, h) = between b e (later.before e (earlier.after begin is.order (entered t a k.1)) (earlier.after (low shape laws chain way can.rising t) k.0
          (room_in way.over.low way.over.high way.over.low_in way.over.high_in t some))) in (
            x,
            ((later.both x j).1, (earlier.both x h).1),
            (earlier.both x h).0,
            worth_same shape chain.from chain.pieces (value_at (shape.function p.shape) x) (value_at (shape.function l.shape) t) (same_refl x)
                (symᵉ (fits.value t x)) (is.worth x (later.both x j).0 (earlier.both x h).0),
          );
      in_play = steady_plays shape chain way.over can.rising can.small some begin p is (stop old.out) (step_end l) breaks steady
          (λ t a u. entered t a (fits.left.upto t u).1) (λ t a u. (fits.left.upto t u).0) (shape.function l.shape)
          (λ t. fits.value t (add t (whole way.over.high)));
    }

    step : {b : Place} → Before b (step_end l) → IsStep shape way.side b l
    step {b} later = record {
      later = later;
      within = fits.left.within;
      falls = λ t u i j h. nw_same way.side (fits.constant.1 t u);
      level = λ k t. let m = between begin (end p) is.order in bounded_same (2 ^ 31) (value_at (shape.function l.shape) t)
          (value_at (shape.function p.shape) m.0) (fits.value t m.0) (can.limited.values m.0 (value_at (shape.function p.shape) m.0) (is.worth m.0 m.1 m.2));
      other = subst (IsOther shape way.side b (step_end l)) (sym fits.constant.0) tt;
    }

    -- so it is where that one comes behind the others, and some of these go
    pub grown_pushed : (new : Sliding P) → new.out ≡ old.out → HasSettled shape way.side 0 (old.steps.items ++ l ∷ []) new.steps.items
        → Before (last_end old) (step_end l) → CountsAll shape chain way (end p) new
    grown_pushed new out settled later = grown begun l fits.value (λ t a z h. fits.left.after t z h) new out
        (subst (AreSteps shape way.side (stop old.out)) (sym settled.is) (steps_dropped shape way.side (stop old.out) settled.n more_items constants steps))
        (length old.steps.items - settled.n) at which keep
      where
        more_items : List (Step P)
        more_items = old.steps.items ++ l ∷ []

        steps : AreSteps shape way.side (stop old.out) more_items
        steps = steps_append shape way.side (stop old.out) old.steps.items (l ∷ []) all.steps (step later, tt)

        constants : AreConstantSteps shape more_items
        constants i x e = elim (slice_get-push_cases old.steps.items l i x e) [
          | inl f ↦ (all.each i x f).constant
          | inr f ↦ subst (IsConstantStep shape) (sym f.1) fits.constant
        ]

        count : length more_items ≡ length old.steps.items + 1
        count = length-append old.steps.items (l ∷ [])

        inside : settled.n ≤ length old.steps.items
        inside = elim (below_or_not settled.n (length more_items)) [
          | inl h ↦ omega (arith, h, count)
          | inr h ↦ absurd (let n = settled.none h in omega (arith, n, count))
        ]

        at : slice_get new.steps.items (length old.steps.items - settled.n) ≡ Some l
        at = subst (λ xs. slice_get xs (length old.steps.items - settled.n) ≡ Some l) (sym settled.is)
            (slice_get-drop settled.n more_items (length old.steps.items - settled.n)
            ∙ subst (λ n. slice_get more_items n ≡ Some l) (omega (arith, inside)) (slice_get-append_here old.steps.items l []))

        which : (i : ℕ) (x : Step P) → slice_get new.steps.items i ≡ Some x
            → ((j : ℕ) × (slice_get old.steps.items j ≡ Some x)) ⊎ IsCounted shape chain way (end p) (stop old.out) x
        which i x e = elim (slice_get-push_cases old.steps.items l (settled.n + i) x (settled_at shape way.side settled i x e)) [
          | inl f ↦ inl (settled.n + i, f)
          | inr f ↦ inr (subst (λ y. IsCounted shape chain way (end p) (stop old.out) y) (sym f.1) counted)
        ]

        keep : (t : Rational) (v : Extended) → HasAbove shape chain way old.steps.items t v → HasAbove shape chain way new.steps.items t v
        keep t v h = settled_above shape chain way settled (stop old.out) steps t v (λ j x k. absurd (omega (arith, k))) (record {
          i = h.i;
          level = h.level;
          at = slice_get-append_left old.steps.items (l ∷ []) h.i h.level h.at;
          upto = h.upto;
          above = h.above;
        })

    -- or in the place of the last, which has its value and ends earlier
    pub grown_further : (new : Sliding P) (front : List (Step P)) (last : Step P) → new.out ≡ old.out → old.steps.items ≡ front ++ last ∷ []
        → new.steps.items ≡ front ++ l ∷ [] → l.shape ≡ last.shape → Before (step_end last) (step_end l) → CountsAll shape chain way (end p) new
    grown_further new front last out before items same later = grown begun l fits.value (λ t a z h. fits.left.after t z h) new out
        (subst (AreSteps shape way.side (stop old.out)) (sym items) steps) (length front)
        (subst (λ xs. slice_get xs (length front) ≡ Some l) (sym items) (slice_get-append_here front l []))
        (λ i x e. elim (slice_get-push_cases front l i x (subst (λ xs. slice_get xs i ≡ Some x) items e)) [
          | inl f ↦ inl (i, subst (λ xs. slice_get xs i ≡ Some x) (sym before) (slice_get-append_left front (last ∷ []) i x f))
          | inr f ↦ inr (subst (λ y. IsCounted shape chain way (end p) (stop old.out) y) (sym f.1) counted)
        ])
        (λ t v h. elim (slice_get-push_cases front last h.i h.level (subst (λ xs. slice_get xs h.i ≡ Some h.level) before h.at)) [
          | inl f ↦ record {
            i = h.i;
            level = h.level;
            at = subst (λ xs. slice_get xs h.i ≡ Some h.level) (sym items) (slice_get-append_left front (l ∷ []) h.i h.level f);
            upto = h.upto;
            above = h.above;
          }
          | inr f ↦ record {
            i = length front;
            level = l;
            at = subst (λ xs. slice_get xs (length front) ≡ Some l) (sym items) (slice_get-append_here front l []);
            upto = upto_of_before (step_end last) (step_end l) t later (subst (λ y. Upto (step_end y) t) f.1 h.upto);
            above = subst (λ q. IsNoWorse way.side (value_at (shape.function q) t) v) (sym same)
                (subst (λ y. IsNoWorse way.side (value_at (shape.function y.shape) t) v) f.1 h.above);
          }
        ])
      where
        whole : AreSteps shape way.side (stop old.out) (front ++ last ∷ [])
        whole = subst (AreSteps shape way.side (stop old.out)) before all.steps

        back : AreSteps shape way.side (steps_end (stop old.out) front) (last ∷ [])
        back = steps_back shape way.side (stop old.out) front (last ∷ []) whole

        steps : AreSteps shape way.side (stop old.out) (front ++ l ∷ [])
        steps = steps_append shape way.side (stop old.out) front (l ∷ []) (steps_front shape way.side (stop old.out) front (last ∷ []) whole)
            (step (before_trans (steps_end (stop old.out) front) (step_end last) (step_end l) back.0.later later), tt)
