-- A window that has met constants alone has the next one at hand, or has counted the one at hand further; and its constants become steps.
use Rattle.std.proofs.Common.{◌≡◌, ◌⊎◌, inl, inr, ℕ, zero, suc, ◌<◌, ◌≤◌, ◌+◌, List, [], ◌∷◌, ◌++◌, drop, length, Some}
use Rattle.std.proofs.Common.{refl, sym, ◌∙◌, subst, ap, arith, length-append}
use Rattle.std.specs.Prelude.{slice_get}
use Rattle.std.proofs.lemmas.List.{length-drop}
use Rattle.std.proofs.lemmas.Option.{none-some, slice_get_within}
use Rattle.rational.specs.Time.{Rational}
use Rattle.rational.specs.Extended.{value_at, ◌≈ᵉ◌}
use Rattle.rational.specs.Places.{Place, After, AtMost, Before, Same, Upto}
use Rattle.rational.proofs.Lists.{drop_none, slice_get-append_here, slice_get-append_left, slice_get-push_cases, slice_get_there}
use Rattle.rational.proofs.Sames.{symᵉ, transᵉ}
use Rattle.rational.proofs.PlaceLemmas.{after_at_most, at_most_of_not_before, before_trans, not_both, same_places, upto_same}
use Rattle.frac128.specs.Cuts.{place}
use Rattle.frac128.specs.declared.cut.Cut.{Cut}
use Rattle.value_laws.specs.Members.{ShapeOf, ShapeLaws}
use Rattle.pl_signal.specs.declared.joining.Side.{Side}
use Rattle.pl_signal.proofs.Values.{some_is}
use Rattle.pieces.specs.declared.piece.Piece.{Piece}
use Rattle.pieces.specs.declared.reach.Way.{Way}
use Rattle.pieces.specs.declared.sliding.Sliding.{Sliding}
use Rattle.pieces.specs.declared.steps.Step.{Step}
use Rattle.pieces.specs.Best.{IsNoWorse}
use Rattle.pieces.specs.Chains.{Chain, end, stop}
use Rattle.pieces.specs.Constants.{AreConstantSteps, CountsAll, Fits, GivesFirst, HasReached, HasSettled, IsFirstBest}
use Rattle.pieces.specs.ConstantsMet.{GoesOnConstant, HasReachedPast, IsLeftOver, TakesUp}
use Rattle.pieces.specs.Sliding.{last_end}
use Rattle.pieces.specs.Steps.{AreSteps, CountsInside, HasCounted, IsOfSteps, StepsGive, step_end, steps_end}
use Rattle.pieces.specs.Streaming.{CountsConstant}
use Rattle.pieces.specs.Windows.{IsLeft, IsPieceFrom, high_place}
use Rattle.pieces.proofs.Bests.{nw_refl, nw_same, nw_trans, same_of_nw}
use Rattle.pieces.proofs.ConstantLemmas.{end_behind, end_dropped, ends_rise, settled_at, settled_first, step_later}
use Rattle.pieces.proofs.ConstantsMet.{grown, grown_further, grown_pushed, past_more}
use Rattle.pieces.proofs.Ends.{at_most_itself, at_most_of_before}
use Rattle.pieces.proofs.FollowedConstants.{end_at, last_left}
use Rattle.pieces.proofs.Hands.{piece_joined}
use Rattle.pieces.proofs.LevelsLemmas.{below_or_not}
use Rattle.pieces.proofs.StepLemmas.{give_upto, steps_end_append}
use Rattle.pieces.proofs.StepsToTell.{counted_falls, none_falls}

-- a list has a last item or none
last_or_none : {X : Type 0} (xs : List X) → (xs ≡ []) ⊎ ((i : ℕ) × (x : X) × (slice_get xs i ≡ Some x) × (suc i ≡ length xs))
last_or_none [] = inl refl
last_or_none (x ∷ xs) = let (y, e) = slice_get_there (x ∷ xs) (length xs) (omega arith) in inr (length xs, y, e, refl)

module _ {P : Type 0} (shape : ShapeOf P) (chain : Chain P) (way : Way) where
  -- as far as it has told it has reached no further place either
  pub reached_more : (met further : Place) (old new : Sliding P) → new.out ≡ old.out → Before met further → HasReached shape chain way met old
      → HasReached shape chain way further new
  reached_more met further old new out later h = subst (λ o. AtMost (stop o) chain.from
      ⊎ ((t : Rational) → Upto (stop o) t → ¬ Before further (high_place way.over.high way.over.high_in t))) (sym out) (elim h [
        | inl k ↦ inl k
        | inr k ↦ inr (λ t u b. k t u (before_trans met further (high_place way.over.high way.over.high_in t) later b))
      ])

  -- where constants are left, the last of them ends where it did
  pub end_left : (old new : Sliding P) → IsLeftOver old new → (new.steps.items ≡ []) ⊎ (last_end new ≡ last_end old)
  end_left old new left = elim (last_or_none new.steps.items) [
    | inl e ↦ inl e
    | inr k ↦ (let (i, l, e, h) = k in let x = last_left shape chain way (stop old.out) old new left i l e h in
        inr (end_at (stop new.out) new.steps.items i l h e ∙ sym (end_at (stop old.out) old.steps.items (left.n + i) l x.1 x.0)))
  ]

module _ {P : Type 0} (shape : ShapeOf P) (laws : ShapeLaws shape) (chain : Chain P) (way : Way) (met until : Place) (p : Piece P) (old mid : Sliding P)
    (known : TakesUp shape chain way met p until old) (past : HasReachedPast shape chain way met mid) where
  is : IsPieceFrom shape chain met p
  is = known.piece

  more : AtMost met (end p)
  more = at_most_of_before met (end p) is.order

  -- the next constant counts with the others
  pub taken_pushed : (l : Step P) (new : Sliding P) → Fits shape chain way p l → step_end l ≡ until → Before (last_end mid) until → new.out ≡ mid.out
      → HasSettled shape way.side 0 (mid.steps.items ++ l ∷ []) new.steps.items → CountsConstant shape chain way p new
  taken_pushed l new fits at later out settled = record {
    begin = met;
    hand = record { is = is; breaks = known.breaks };
    steady = known.steady;
    all = grown_pushed shape laws chain way past.has.can met met mid past.has.all p is more known.some (at_most_itself met) known.steady known.breaks
        past.entered l fits new out settled (subst (λ e. Before (last_end mid) e) (sym at) later);
    first = settled_first shape way.side settled;
    entered = λ t a u. past.entered t (subst (λ o. After (stop o) t) out a) u;
    past = λ t a u. fits.left.after t (subst (λ e. After e t) ends a) u;
    last = λ i x e k. elim (slice_get-push_cases mid.steps.items l (settled.n + i) x (settled_at shape way.side settled i x e)) [
      | inl f ↦ absurd (let m = slice_get_within mid.steps.items (settled.n + i) x f in
          let c = ap length settled.is ∙ length-drop settled.n (mid.steps.items ++ l ∷ []) in omega (arith, m, k, c, count))
      | inr f ↦ (λ t u. subst (λ y. value_at (shape.function y.shape) t ≈ᵉ value_at (shape.function p.shape) u) (sym f.1) (fits.value t u))
    ];
    reached = reached_more shape chain way met (end p) mid new out is.order past.reached;
  }
    where
      count : length (mid.steps.items ++ l ∷ []) ≡ length mid.steps.items + 1
      count = length-append mid.steps.items (l ∷ [])

      inside : settled.n < length (mid.steps.items ++ l ∷ [])
      inside = elim (below_or_not settled.n (length (mid.steps.items ++ l ∷ []))) [
        | inl h ↦ h
        | inr h ↦ absurd (let n = settled.none h in omega (arith, n, count))
      ]

      ends : last_end new ≡ step_end l
      ends = ap (λ o. steps_end (stop o) new.steps.items) out ∙ ap (λ xs. steps_end (stop mid.out) xs) settled.is
          ∙ end_dropped shape way.side (stop mid.out) settled.n (mid.steps.items ++ l ∷ []) inside
          ∙ steps_end_append (stop mid.out) mid.steps.items (l ∷ [])

  -- or the window has left it already, and none counts
  pub taken_left : IsLeftOver old mid → ¬ Before (last_end mid) until → CountsConstant shape chain way p mid
  taken_left left n = record {
    begin = met;
    hand = record { is = is; breaks = known.breaks };
    steady = known.steady;
    all = past_more shape laws chain way past.has.can met met mid past.has.all p is more
        (λ t a u. known.left.after t (behind t (subst (λ xs. After (steps_end (stop mid.out) xs) t) (sym none) a)) u);
    first = λ l m j e. absurd (none-some l (subst (λ xs. slice_get xs 0 ≡ Some l) none e));
    entered = past.entered;
    past = λ t a u. known.left.after t (behind t a) u;
    last = λ i l e. absurd (none-some l (subst (λ xs. slice_get xs i ≡ Some l) none e));
    reached = reached_more shape chain way met (end p) mid mid refl is.order past.reached;
  }
    where
      behind : (t : Rational) → After (last_end mid) t → After until t
      behind t a = after_at_most until (last_end mid) t (at_most_of_not_before until (last_end mid) n) a

      by_end : (mid.steps.items ≡ []) ⊎ (last_end mid ≡ last_end old) → (old.steps.items ≡ []) ⊎ Before (last_end old) until → mid.steps.items ≡ []
      by_end (inl e) k = e
      by_end (inr e) (inr b) = absurd (n (subst (λ c. Before c until) (sym e) b))
      by_end (inr e) (inl k) = left.is ∙ drop_none left.n old.steps.items k

      none : mid.steps.items ≡ []
      none = by_end (end_left shape chain way old mid left) known.longer

-- the constant at hand counts further
module _ {P : Type 0} (shape : ShapeOf P) (laws : ShapeLaws shape) (chain : Chain P) (way : Way) (met : Cut) (p : Piece P) (until : Place) (old : Sliding P)
    (known : GoesOnConstant shape chain way met p old) (left : IsLeft way (end p) until) where
  hand : CountsConstant shape chain way (record { until = met; shape = p.shape }) old
  hand = known.hand

  as_whole : IsPieceFrom shape chain hand.begin p
  as_whole = piece_joined shape chain hand.begin (record { until = met; shape = p.shape }) p refl hand.hand.is known.more

  onwards : AtMost (place met) (end p)
  onwards = at_most_of_before (place met) (end p) known.more.order

  begun : AtMost hand.begin (place met)
  begun = at_most_of_before hand.begin (place met) hand.hand.is.order

  with_all : (new : Sliding P) → new.out ≡ old.out → CountsAll shape chain way (end p) new → IsFirstBest shape way.side new.steps.items
      → ((t : Rational) → After (last_end new) t → After until t)
      → ((i : ℕ) (l : Step P) → slice_get new.steps.items i ≡ Some l → suc i ≡ length new.steps.items
      → (t u : Rational) → value_at (shape.function l.shape) t ≈ᵉ value_at (shape.function p.shape) u)
      → CountsConstant shape chain way p new
  with_all new out all first past last = record {
    begin = hand.begin;
    hand = record { is = as_whole; breaks = hand.hand.breaks };
    steady = hand.steady;
    all = all;
    first = first;
    entered = λ t a u. hand.entered t (subst (λ o. After (stop o) t) out a) u;
    past = λ t a u. left.after t (past t a) u;
    last = last;
    reached = reached_more shape chain way (place met) (end p) old new out known.more.order hand.reached;
  }

  -- the last goes on as far already, or none counts
  pub further_left : ¬ Before (last_end old) until → CountsConstant shape chain way p old
  further_left n = with_all old refl all hand.first behind hand.last
    where
      behind : (t : Rational) → After (last_end old) t → After until t
      behind t a = after_at_most until (last_end old) t (at_most_of_not_before until (last_end old) n) a

      all : CountsAll shape chain way (end p) old
      all = elim (last_or_none old.steps.items) [
        | inl none ↦ past_more shape laws chain way known.can (place met) hand.begin old hand.all p as_whole onwards
            (λ t a u. left.after t (behind t (subst (λ xs. After (steps_end (stop old.out) xs) t) (sym none) a)) u)
        | inr k ↦ (let (i, l, e, h) = k in grown shape laws chain way known.can (place met) hand.begin old hand.all p as_whole onwards begun l
            (hand.last i l e h)
            (λ t b a u. left.after t (behind t (subst (λ c. After c t) (sym (end_at (stop old.out) old.steps.items i l h e)) a)) u) old refl hand.all.steps i e
            (λ j x f. inl (j, f)) (λ t v a. a))
      ]

  -- none counts, and it comes anew
  pub further_pushed : (l : Step P) (new : Sliding P) → Fits shape chain way p l → step_end l ≡ until → Before (last_end old) until → new.out ≡ old.out
      → HasSettled shape way.side 0 (old.steps.items ++ l ∷ []) new.steps.items → old.steps.items ≡ [] → CountsConstant shape chain way p new
  further_pushed l new fits at later out settled none = with_all new out
      (grown_pushed shape laws chain way known.can (place met) hand.begin old hand.all p as_whole onwards known.some begun hand.steady hand.hand.breaks
      hand.entered l fits new out settled (subst (λ e. Before (last_end old) e) (sym at) later))
      (settled_first shape way.side settled)
      (λ t a. subst (λ e. After e t) (ends ∙ at) a)
      (λ i x e k t u. elim (slice_get-push_cases old.steps.items l (settled.n + i) x (settled_at shape way.side settled i x e)) [
        | inl f ↦ absurd (none-some x (subst (λ xs. slice_get xs (settled.n + i) ≡ Some x) none f))
        | inr f ↦ subst (λ y. value_at (shape.function y.shape) t ≈ᵉ value_at (shape.function p.shape) u) (sym f.1) (fits.value t u)
      ])
    where
      count : length (old.steps.items ++ l ∷ []) ≡ length old.steps.items + 1
      count = length-append old.steps.items (l ∷ [])

      inside : settled.n < length (old.steps.items ++ l ∷ [])
      inside = elim (below_or_not settled.n (length (old.steps.items ++ l ∷ []))) [
        | inl h ↦ h
        | inr h ↦ absurd (let n = settled.none h in omega (arith, n, count))
      ]

      ends : last_end new ≡ step_end l
      ends = ap (λ o. steps_end (stop o) new.steps.items) out ∙ ap (λ xs. steps_end (stop old.out) xs) settled.is
          ∙ end_dropped shape way.side (stop old.out) settled.n (old.steps.items ++ l ∷ []) inside
          ∙ steps_end_append (stop old.out) old.steps.items (l ∷ [])

  -- or the last goes on
  pub further_ended : (front : List (Step P)) (last : Step P) (e : Cut) (new : Sliding P) → place e ≡ until → Before (last_end old) until → new.out ≡ old.out
      → old.steps.items ≡ front ++ last ∷ [] → new.steps.items ≡ front ++ record last { until = e } ∷ [] → CountsConstant shape chain way p new
  further_ended front last e new at later out before items = with_all new out
      (grown_further shape laws chain way known.can (place met) hand.begin old hand.all p as_whole onwards known.some begun hand.steady hand.hand.breaks
      hand.entered l fits new front last out before items refl (subst (λ c. Before (step_end last) c) (sym at) (subst (λ c. Before c until) ends_old later)))
      first (λ t a. subst (λ c. After c t) (ends_new ∙ at) a)
      (λ i x f k t u. elim (slice_get-push_cases front l i x (subst (λ xs. slice_get xs i ≡ Some x) items f)) [
        | inl h ↦ absurd (let m = slice_get_within front i x h in let c = ap length items ∙ length-append front (l ∷ []) in omega (arith, m, k, c))
        | inr h ↦ subst (λ y. value_at (shape.function y.shape) t ≈ᵉ value_at (shape.function p.shape) u) (sym h.1) (value t u)
      ])
    where
      l : Step P
      l = record last { until = e }

      at_last : slice_get old.steps.items (length front) ≡ Some last
      at_last = subst (λ xs. slice_get xs (length front) ≡ Some last) (sym before) (slice_get-append_here front last [])

      value : (t u : Rational) → value_at (shape.function last.shape) t ≈ᵉ value_at (shape.function p.shape) u
      value = hand.last (length front) last at_last (let c = ap length before ∙ length-append front (last ∷ []) in omega (arith, c))

      fits : Fits shape chain way p l
      fits = record {
        constant = (hand.all.each (length front) last at_last).constant;
        left = subst (λ c. IsLeft way (end p) c) (sym at) left;
        value = value;
        moved = (hand.all.each (length front) last at_last).moved;
      }

      ends_old : last_end old ≡ step_end last
      ends_old = ap (λ xs. steps_end (stop old.out) xs) before ∙ steps_end_append (stop old.out) front (last ∷ [])

      ends_new : last_end new ≡ place e
      ends_new = ap (λ xs. steps_end (stop new.out) xs) items ∙ steps_end_append (stop new.out) front (l ∷ [])

      -- each has the shape of one that stood in its place
      old_at : (i : ℕ) (x : Step P) → slice_get new.steps.items i ≡ Some x → (y : Step P) × (slice_get old.steps.items i ≡ Some y) × (y.shape ≡ x.shape)
      old_at i x f = elim (slice_get-push_cases front l i x (subst (λ xs. slice_get xs i ≡ Some x) items f)) [
        | inl h ↦ (x, subst (λ xs. slice_get xs i ≡ Some x) (sym before) (slice_get-append_left front (last ∷ []) i x h), refl)
        | inr h ↦ (last, subst (λ n. slice_get old.steps.items n ≡ Some last) (sym h.0) at_last, ap (λ y. y.shape) (sym h.1))
      ]

      first : IsFirstBest shape way.side new.steps.items
      first x y j f h t u = let (a, b, c) = old_at 0 x f in let (d, k, m) = old_at j y h in
          subst (λ q. IsNoWorse way.side (value_at (shape.function q) t) (value_at (shape.function y.shape) u)) c
          (subst (λ q. IsNoWorse way.side (value_at (shape.function a.shape) t) (value_at (shape.function q) u)) m (hand.first a d j b k t u))

-- one constant more counts with the steps
module _ {P : Type 0} (shape : ShapeOf P) (side : Side) (b : Place) (ls : List (Step P)) (are : AreSteps shape side b ls) (constant : AreConstantSteps shape ls)
    (n : ℕ) (old new : List (Step P)) (l : Step P) (at : slice_get ls n ≡ Some l) (gives : GivesFirst shape side b ls n old) where
  -- the steps so far end no later than it
  pub ends_before : AtMost (steps_end b old) (step_end l)
  ends_before = by_number n refl
    where
      by_number : (k : ℕ) → k ≡ n → AtMost (steps_end b old) (step_end l)
      by_number zero e = subst (λ xs. AtMost (steps_end b xs) (step_end l)) (sym (gives.begins (sym e)))
          (at_most_of_before b (step_end l) (step_later shape side b ls n l are at))
      by_number (suc k) e =
          let (m, f) = slice_get_there ls k (let h = slice_get_within ls n l at in omega (arith, h, e)) in
          λ t u. ends_rise shape side b ls k n m l are (omega (arith, e)) f at t (upto_same (steps_end b old) (step_end m) t (gives.ends k m e f) u)

  -- with it they give the best of one constant more
  pub gives_more : HasCounted shape side b old l.shape (step_end l) new → GivesFirst shape side b ls (n + 1) new
  gives_more counted = record {
    are = counted.steps;
    falls = counted_falls shape side b old new l.shape (step_end l) gives.are gives.falls (λ t u i j h k. (constant n l at).1 t u) counted;
    begins = λ e. absurd (omega (arith, e));
    ends = λ i x e f. subst (λ y. Same (steps_end b new) (step_end y)) (some_is (sym at ∙ subst (λ k. slice_get ls k ≡ Some x) (omega (arith, e)) f))
        counted.ends;
    bound = λ t v i x g below f u. elim (counted.gives t v g) [
      | inl (y, h, c) ↦ elim (below_or_not i n) [
        | inl k ↦ nw_trans c.left (gives.bound t y i x h k f u)
        | inr k ↦ nw_trans c.right (same_step i x t f (omega (arith, below, k)))
      ]
      | inr (a, k, w) ↦ elim (below_or_not i n) [
        | inl h ↦ absurd (not_both (step_end x) t u (after_at_most (step_end x) (steps_end b old) t (earlier i x h f) a))
        | inr h ↦ nw_trans (nw_same side w) (same_step i x t f (omega (arith, below, h)))
      ]
    ];
    one = λ t v g. elim (counted.gives t v g) [
      | inl (y, h, c) ↦ elim c.one_of [
        | inl k ↦ (let (i, x, below, f, u, e) = gives.one t y h in (i, x, omega (arith, below), f, u, transᵉ (symᵉ (same_of_nw k c.left)) e))
        | inr k ↦ (n, l, omega arith, at, ends_before t (give_upto shape side b old t y gives.are h), symᵉ (same_of_nw k c.right))
      ]
      | inr (a, k, w) ↦ (n, l, omega arith, at, k, w)
    ];
    of = λ q h. elim (counted.of q h) [ inl k ↦ gives.of q k | inr e ↦ (n, l, at, e) ];
    counts = λ tau q h. elim (counted.shapes tau q h) [ inl k ↦ gives.counts tau q k | inr (e, a, k) ↦ (n, l, at, e, a, k) ];
  }
    where
      same_step : (i : ℕ) (x : Step P) (t : Rational) → slice_get ls i ≡ Some x → i ≡ n
          → IsNoWorse side (value_at (shape.function l.shape) t) (value_at (shape.function x.shape) t)
      same_step i x t f e = subst (λ y. IsNoWorse side (value_at (shape.function l.shape) t) (value_at (shape.function y.shape) t))
          (some_is (sym at ∙ subst (λ k. slice_get ls k ≡ Some x) e f)) (nw_refl side (value_at (shape.function l.shape) t))

      earlier : (i : ℕ) (x : Step P) → i < n → slice_get ls i ≡ Some x → AtMost (step_end x) (steps_end b old)
      earlier i x h f = by_number n refl
        where
          by_number : (k : ℕ) → k ≡ n → AtMost (step_end x) (steps_end b old)
          by_number zero e = absurd (omega (arith, h, e))
          by_number (suc k) e =
              let (m, g) = slice_get_there ls k (let w = slice_get_within ls n l at in omega (arith, w, e)) in
              λ t u. upto_same (step_end m) (steps_end b old) t (same_places (gives.ends k m e g))
              (ends_rise shape side b ls i k x m are (omega (arith, h, e)) f g t u)

-- no steps give the best of no constants
pub gives_none : {P : Type 0} (shape : ShapeOf P) (side : Side) (b : Place) (ls steps : List (Step P)) → steps ≡ [] → GivesFirst shape side b ls 0 steps
gives_none shape side b ls steps none = record {
  are = subst (AreSteps shape side b) (sym none) tt;
  falls = none_falls shape side b steps none;
  begins = λ e. none;
  ends = λ i l e. absurd (omega (arith, e));
  bound = λ t v i l g k. absurd (omega (arith, k));
  one = λ t v g. absurd (subst (λ xs. StepsGive shape side b xs t v) none g);
  of = λ q h. absurd (subst (λ xs. IsOfSteps xs q) none h);
  counts = λ tau q h. absurd (subst (λ xs. CountsInside b xs tau q) none h);
}

-- what is dropped after others is dropped with them
drop_twice : {X : Type 0} (n k : ℕ) (xs : List X) → drop k (drop n xs) ≡ drop (n + k) xs
drop_twice zero k xs = let e : k ≡ 0 + k = omega arith in ap (λ m. drop m xs) e
drop_twice (suc n) k [] = drop_none k [] refl ∙ sym (drop_none (suc n + k) [] refl)
drop_twice (suc n) k (x ∷ xs) = let e : suc (n + k) ≡ suc n + k = omega arith in drop_twice n k xs ∙ ap (λ m. drop m (x ∷ xs)) e

-- what is left once more was told
module _ {P : Type 0} (shape : ShapeOf P) (side : Side) (begin cur new : Sliding P) (left : IsLeftOver begin cur) where
  -- where none counts
  pub left_none : cur.steps.items ≡ [] → new.steps.items ≡ cur.steps.items → AtMost (stop cur.out) (stop new.out) → IsLeftOver begin new
  left_none none same on = record {
    n = left.n;
    is = same ∙ left.is;
    left = λ t a. left.left t (subst (λ xs. After (steps_end (stop cur.out) xs) t) (sym none)
        (after_at_most (stop cur.out) (stop new.out) t on (subst (λ xs. After (steps_end (stop new.out) xs) t) (same ∙ none) a)));
  }

  module _ (f : Step P) (rest : List (Step P)) (items : cur.steps.items ≡ f ∷ rest) where
    -- of a part of the first
    pub left_part : new.steps.items ≡ cur.steps.items → IsLeftOver begin new
    left_part same = record {
      n = left.n;
      is = same ∙ left.is;
      left = λ t a. left.left t (subst (λ xs. After (steps_end (stop cur.out) xs) t) (sym items)
          (subst (λ xs. After (steps_end (stop new.out) xs) t) (same ∙ items) a));
    }

    -- of the first to its end
    pub left_whole : stop new.out ≡ step_end f → HasSettled shape side 1 cur.steps.items new.steps.items → IsLeftOver begin new
    left_whole ends settled = record {
      n = left.n + settled.n;
      is = settled.is ∙ ap (λ xs. drop settled.n xs) left.is ∙ drop_twice left.n settled.n begin.steps.items;
      left = λ t a. left.left t (subst (λ c. After c t) (ap (λ o. steps_end o new.steps.items) ends
          ∙ ap (λ xs. steps_end (step_end f) xs) (settled.is ∙ ap (λ xs. drop settled.n xs) items)
          ∙ end_behind shape side (stop cur.out) f rest settled.n settled.more
          (subst (λ xs. length xs ≤ settled.n → length xs ≤ 1) items settled.none)
          ∙ ap (λ xs. steps_end (stop cur.out) xs) (sym items)) a);
    }
