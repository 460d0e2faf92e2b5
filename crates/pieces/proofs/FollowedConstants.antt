-- A window that has met constants alone, as a stream: how it stands for a chain once it has met more, told more, and made steps of them.
use Rattle.std.proofs.Common.{◌≡◌, ◌⊎◌, ◌^◌, inl, inr, ℕ, zero, suc, ◌+◌, ◌<ℤ◌, List, [], ◌∷◌, length, Option, None, Some, false}
use Rattle.std.proofs.Common.{refl, sym, ◌∙◌, subst, ap, arith}
use Rattle.std.specs.Prelude.{slice_get, IfSome}
use Rattle.std.specs.declared.cmp.Ordering.TheVariants.{Equal, Greater}
use Rattle.std.proofs.lemmas.Bool.{false≢true}
use Rattle.std.proofs.lemmas.List.{length-drop}
use Rattle.std.proofs.lemmas.Option.{none-some, slice_get_within}
use Rattle.rational.specs.Rational.{IsWithin, add, whole}
use Rattle.rational.specs.Time.{Rational, ◌≤ʳ◌, ◌<ʳ◌, ◌≈◌}
use Rattle.rational.specs.Extended.{Extended, value_at, ◌≈ᵉ◌}
use Rattle.rational.specs.Affine.{IsSteady}
use Rattle.rational.specs.InPlay.{IsBreakpoint}
use Rattle.rational.specs.Places.{Place, After, AtMost, Before, Same, Upto}
use Rattle.rational.proofs.Lists.{slice_get-drop, slice_get_there}
use Rattle.rational.proofs.Mixed.{within_between}
use Rattle.rational.proofs.Order.{le_of_same, le_refl, le_trans, not_lt_of_le, same_refl}
use Rattle.rational.proofs.Sames.{symᵉ}
use Rattle.rational.proofs.PlaceLemmas.{after_at_most, after_same, before_through, le_of_at_most, not_before_itself, not_both, same_before, same_places}
use Rattle.frac128.specs.Cuts.{place}
use Rattle.value_laws.specs.Members.{ShapeOf, ShapeLaws}
use Rattle.window_extrema.specs.Range.{Range}
use Rattle.pl_signal.specs.declared.joining.Side.{Side}
use Rattle.pl_signal.proofs.Values.{some_is}
use Rattle.pieces.specs.declared.piece.Piece.{Piece}
use Rattle.pieces.specs.declared.reach.Way.{Way}
use Rattle.pieces.specs.declared.sliding.Sliding.{Sliding}
use Rattle.pieces.specs.declared.steps.Step.{Step}
use Rattle.pieces.specs.declared.stream.Stream.{Stream}
use Rattle.pieces.specs.Best.{none_of}
use Rattle.pieces.specs.Chains.{Chain, HasShape, IsNormal, IsWorth, Rise, Tells, end, stop}
use Rattle.pieces.specs.Constants.{AreAsked, AreConstantSteps, CountsAll, GivesFirst, HasReached, IsFirstBest}
use Rattle.pieces.specs.ConstantsMet.{GoesOnConstant, HasConstants, IsLeftOver, TakesUp, TellsBest}
use Rattle.pieces.specs.Hands.{FirstGives, GoesOnAs}
use Rattle.pieces.specs.Over.{InPlay, IsMovedTo, Plays}
use Rattle.pieces.specs.Sliding.{last_end}
use Rattle.pieces.specs.Steps.{AreSteps, CountsInside, IsOfSteps, IsWorthWith, StepsGive, step_end, steps_end}
use Rattle.pieces.specs.Streaming.{CanFollow, ComesNext, CountsConstant, CountsConstants, CountsSoFar, Follows, FollowsConstants, FollowsSteps}
use Rattle.pieces.specs.Streaming.{HasAll, IsAt, IsAtSteps, before_time}
use Rattle.pieces.specs.Windows.{Best, BestOver, BestTo, IsLeft, IsNonEmpty, IsPieceFrom, Stands, high_place}
use Rattle.pieces.proofs.BuildingLemmas.{chain_of}
use Rattle.pieces.proofs.ChainLemmas.{to_stop, worth_after}
use Rattle.pieces.proofs.Bests.{best_value, nw_same, nw_trans}
use Rattle.pieces.proofs.ConstantLemmas.{all_constant, best_of_counted, best_of_first, best_of_no_constant, ends_within, step_later}
use Rattle.pieces.proofs.Ends.{at_most_itself, at_most_of_same, earlier_upto, same_place}
use Rattle.pieces.proofs.FollowedWindows.{follows_first, follows_on, follows_restarted, goes_behind, goes_on_piece, high_before_time}
use Rattle.pieces.proofs.Hands.{breaks_between, stands_counts}
use Rattle.pieces.proofs.ChainsTell.{told as tells}
use Rattle.pieces.proofs.OverWindow.{all_met, best_is_function}
use Rattle.pieces.proofs.PieceEnds.{piece_begun}
use Rattle.pieces.proofs.SeenBest.{all_seen, low}
use Rattle.pieces.proofs.StepLemmas.{give_after, to_end}
use Rattle.pieces.proofs.WindowGoesOn.{of_best, to_best}

module _ {P : Type 0} where
  -- the steps end where the last of them does
  pub end_at : (b : Place) (ls : List (Step P)) (i : ℕ) (l : Step P) → suc i ≡ length ls → slice_get ls i ≡ Some l → steps_end b ls ≡ step_end l
  end_at b [] i l h e = absurd (omega (arith, h))
  end_at b (s ∷ []) zero l h e = ap (λ x. step_end x) (some_is e)
  end_at b (s ∷ x ∷ xs) zero l h e = absurd (omega (arith, h))
  end_at b (s ∷ ss) (suc i) l h e = end_at (step_end s) ss i l (omega (arith, h)) e

module _ {P : Type 0} (shape : ShapeOf P) (side : Side) (b : Place) (ls zs : List (Step P)) (gives : GivesFirst shape side b ls (length ls) zs) where
  -- steps that give all constants end where these do
  pub ends_alike : Same (steps_end b zs) (steps_end b ls)
  ends_alike = by_list ls refl
    where
      by_list : (xs : List (Step P)) → xs ≡ ls → Same (steps_end b zs) (steps_end b ls)
      by_list [] e = subst (λ ys. Same (steps_end b ys) (steps_end b ls)) (sym (gives.begins (ap length (sym e))))
          (subst (λ ys. Same b (steps_end b ys)) e (same_place b))
      by_list (x ∷ xs) e =
          let n : suc (length xs) ≡ length ls = ap length e in
          let (l, f) = slice_get_there ls (length xs) (omega (arith, n)) in
          subst (λ c. Same (steps_end b zs) c) (sym (end_at b ls (length xs) l n f)) (gives.ends (length xs) l n f)

module _ {P : Type 0} (shape : ShapeOf P) (laws : ShapeLaws shape) (chain : Chain P) (way : Way) (rising : Rise chain.from chain.pieces) (met : Place)
    (old new : Sliding P) (out : new.out ≡ old.out) (all : CountsAll shape chain way met old)
    (gives : GivesFirst shape way.side (stop old.out) old.steps.items (length old.steps.items) new.steps.items) where
  in_old : (t : Rational) (v : Extended) → StepsGive shape way.side (stop new.out) new.steps.items t v
      → StepsGive shape way.side (stop old.out) new.steps.items t v
  in_old t v g = subst (λ o. StepsGive shape way.side (stop o) new.steps.items t v) out g

  -- the steps that were made end where the constants do
  pub end_same : Same (last_end new) (last_end old)
  end_same = subst (λ o. Same (steps_end (stop o) new.steps.items) (last_end old)) (sym out)
      (ends_alike shape way.side (stop old.out) old.steps.items new.steps.items gives)

  -- steps that give the best of the constants give the best of what was met
  pub keeps_constants : HasReached shape chain way met old → Stands shape chain way met met new
  keeps_constants reached = record {
    normal = subst (λ o. IsNormal shape o) (sym out) all.normal;
    on = subst (λ o. AtMost chain.from (stop o)) (sym out) all.on;
    upto = subst (λ o. AtMost (stop o) (stop chain)) (sym out) all.upto;
    told = λ t v w. all.told t v (subst (λ o. IsWorth shape o t v) out w);
    steps = subst (λ o. AreSteps shape way.side (stop o) new.steps.items) (sym out) gives.are;
    gives = λ t v h. let g = in_old t v h in let (i, l, inside, at, u, e) = gives.one t v g in
        of_best shape laws chain way rising met t v (best_value (symᵉ e) (to_best shape laws chain way rising met t (value_at (shape.function l.shape) t)
        (best_of_counted shape laws chain way rising met old all i l t at (give_after shape way.side (stop old.out) new.steps.items t v gives.are g) u
        (λ j m f k. nw_trans (nw_same way.side (symᵉ e)) (gives.bound t v j m g (slice_get_within old.steps.items j m f) f k)))));
    sees = λ t v h. let g = in_old t v h in let (i, l, inside, at, u, e) = gives.one t v g in let c = all.each i l at in
        let x = c.seen t (give_after shape way.side (stop old.out) new.steps.items t v gives.are g) u in
        (before_through (low shape laws chain way rising t) met x.0 x.1.0 x.2, c.upto t u);
    none = λ t a u x y see k w. let b = after_same (last_end new) (last_end old) t end_same a in
        let h = all.above t x y (after_at_most (stop old.out) (last_end old) t (to_end shape way.side (stop old.out) old.steps.items all.steps) b) u see k w in
        not_both (step_end h.level) t h.upto (after_at_most (step_end h.level) (last_end old) t
        (ends_within shape way.side (stop old.out) old.steps.items h.i h.level all.steps h.at) b);
    reached = subst (λ o. AtMost (stop o) chain.from ⊎ ((t : Rational) → Upto (stop o) t
        → ¬ Before met (high_place way.over.high way.over.high_in t))) (sym out) reached;
  }

  -- and they are in play
  pub plays_constants : Plays shape chain way.over (place way.to) new
  plays_constants = record {
    told = λ p h. all.moved p (subst (λ o. HasShape o p) out h);
    moved = λ p h. let (i, l, at, e) = gives.of p h in
        subst (λ q. IsMovedTo shape chain way.over (place way.to) q) (sym e) (all.each i l at).moved;
    in_play = λ tau p h. let (i, l, at, e, a, k) = gives.counts tau p (subst (λ o. CountsInside (stop o) new.steps.items tau p) out h) in
        subst (λ q. InPlay shape chain way.over tau (shape.function q)) (sym e) ((all.each i l at).in_play tau a k);
  }

module _ {P : Type 0} (shape : ShapeOf P) (laws : ShapeLaws shape) (chain : Chain P) (w : Stream P) (range : Range P) (known : Follows shape chain w)
    (is : w.range ≡ Some range) (behind : Before (place w.met) (stop chain)) (new : Sliding P) (out : new.out ≡ w.sliding.out)
    (gives : GivesFirst shape w.way.side (stop w.sliding.out) w.sliding.steps.items (length w.sliding.steps.items) new.steps.items) where
  by_constants : FollowsConstants shape chain w range
  by_constants = known.by_constants range is

  not_up : ¬ (w.trend ≡ Greater)
  not_up e = let k : Equal ≡ Greater = sym by_constants.still ∙ e in cc

  -- the steps that were made of the constants stand for the chain
  pub follows_made : FollowsSteps shape chain (record w { sliding = new; range = None })
  follows_made = by_hand w.piece refl by_constants.hand
    where
      by_all : CountsAll shape chain w.way (place w.met) w.sliding → CountsSoFar shape chain w.way w.met new w.piece w.trend
          → FollowsSteps shape chain (record w { sliding = new; range = None })
      by_all all hand = record {
        can = known.can;
        to = known.to;
        within = known.within;
        begins = known.begins;
        ends = known.ends;
        plays = plays_constants shape laws chain w.way known.can.rising (place w.met) w.sliding new out all gives;
        hand = hand;
      }

      by_hand : (o : Option P) → w.piece ≡ o → CountsConstants shape chain w.way w.met w.sliding o
          → FollowsSteps shape chain (record w { sliding = new; range = None })
      by_hand None e h = by_all h.all (subst (λ o. CountsSoFar shape chain w.way w.met new o w.trend) (sym e) (
        record {
          reach = place w.met;
          keeps = keeps_constants shape laws chain w.way known.can.rising (place w.met) w.sliding new out h.all gives (h.early behind);
          early = λ b. at_most_itself (place w.met);
        },
        not_up,
        λ some. h.ended,
      ))
      by_hand (Some p) e h = by_all h.all (subst (λ o. CountsSoFar shape chain w.way w.met new o w.trend) (sym e) (
        inl by_constants.wide,
        stands_counts w.trend not_up (record {
          begin = h.begin;
          hand = h.hand;
          falls = λ t u k. nw_same w.way.side (h.steady t u);
          stands = keeps_constants shape laws chain w.way known.can.rising (place w.met) w.sliding new out h.all gives h.reached;
          past = λ t a u. h.past t (after_same (last_end new) (last_end w.sliding) t
              (end_same shape laws chain w.way known.can.rising (place w.met) w.sliding new out h.all gives) a) u;
        }),
      ))

module _ {P : Type 0} (shape : ShapeOf P) (chain : Chain P) (way : Way) (met : Place) (old new : Sliding P) (left : IsLeftOver old new) where
  -- what stood last before does so still
  pub last_left : (i : ℕ) (l : Step P) → slice_get new.steps.items i ≡ Some l → suc i ≡ length new.steps.items
      → (slice_get old.steps.items (left.n + i) ≡ Some l) × (suc (left.n + i) ≡ length old.steps.items)
  last_left i l e h = (
    at,
    (let m = slice_get_within old.steps.items (left.n + i) l at in
        let k = h ∙ ap length left.is ∙ length-drop left.n old.steps.items in omega (arith, m, k)),
  )
    where
      at : slice_get old.steps.items (left.n + i) ≡ Some l
      at = sym (slice_get-drop left.n old.steps.items i) ∙ subst (λ xs. slice_get xs i ≡ Some l) left.is e

module _ {P : Type 0} (shape : ShapeOf P) (laws : ShapeLaws shape) (chain : Chain P) (w : Stream P) (range : Range P) (known : Follows shape chain w)
    (is : w.range ≡ Some range) where
  -- what it keeps
  pub has_constants : HasConstants shape chain w.way (place w.met) w.sliding
  has_constants = by_hand w.piece (known.by_constants range is).hand
    where
      by_hand : (o : Option P) → CountsConstants shape chain w.way w.met w.sliding o → HasConstants shape chain w.way (place w.met) w.sliding
      by_hand None h = record { can = known.can; to = known.to; within = known.within; all = h.all; first = h.first }
      by_hand (Some p) h = record { can = known.can; to = known.to; within = known.within; all = h.all; first = h.first }

  some_seen : IsNonEmpty w.way.over
  some_seen = inl (known.by_constants range is).wide

  reached_so_far : Before (place w.met) (stop chain) → HasReached shape chain w.way (place w.met) w.sliding
  reached_so_far b = by_hand w.piece (known.by_constants range is).hand
    where
      by_hand : (o : Option P) → CountsConstants shape chain w.way w.met w.sliding o → HasReached shape chain w.way (place w.met) w.sliding
      by_hand None h = h.early b
      by_hand (Some p) h = h.reached

  hand_of : (p : P) → w.piece ≡ Some p → CountsConstant shape chain w.way (record { until = w.met; shape = p }) w.sliding
  hand_of p e = subst (λ o. CountsConstants shape chain w.way w.met w.sliding o) e (known.by_constants range is).hand

  module _ (piece : Piece P) (next : ComesNext shape chain w piece) where
    -- the constant at hand goes on
    pub goes_on_constant : (p : P) → w.piece ≡ Some p → GoesOnAs shape p (place w.met) piece
        → GoesOnConstant shape chain w.way w.met (record { until = piece.until; shape = p }) w.sliding
    goes_on_constant p e goes = record {
      can = known.can;
      within = known.within;
      some = some_seen;
      hand = hand_of p e;
      more = goes_on_piece shape chain (place w.met) p piece next.piece (hand_of p e).hand.is.has goes;
    }

    -- or the next one comes
    pub takes_up : (until : Place) → ((p : P) → w.piece ≡ Some p → ¬ GoesOnAs shape p (place w.met) piece) → IsSteady (shape.function piece.shape)
        → IsLeft w.way (end piece) until → (w.sliding.steps.items ≡ []) ⊎ Before (last_end w.sliding) until
        → TakesUp shape chain w.way (place w.met) piece until w.sliding
    takes_up until differs steady left longer = record {
      past = record {
        has = has_constants;
        begins = known.begins;
        ends = known.ends;
        reached = reached_so_far (goes_behind shape chain w piece next);
        ahead = inr next.comes;
      };
      some = some_seen;
      piece = next.piece;
      breaks = by_hand w.piece refl (known.by_constants range is).hand;
      steady = steady;
      left = left;
      longer = longer;
    }
      where
        F : Place → Type 0
        F c = IsBreakpoint (IsWorth shape chain) chain.from.at (stop chain).at c.at

        by_hand : (o : Option P) → w.piece ≡ o → CountsConstants shape chain w.way w.met w.sliding o → F (place w.met)
        by_hand None e h = elim h.ended [
          | inl begins ↦ IsBreakpoint.start (subst (λ c. c.at ≈ chain.from.at) (sym begins) (same_refl chain.from.at))
          | inr ends ↦ absurd (not_before_itself (stop chain) (subst (λ c. Before c (stop chain)) ends (goes_behind shape chain w piece next)))
        ]
        by_hand (Some p) e h = breaks_between shape chain known.can.rising h.begin (record { until = w.met; shape = p }) piece h.hand.is h.hand.breaks
            next.piece (differs p e)

    -- so that the window has met it
    pub follows_constant : (new : Sliding P) (r : Range P) (p : P) → AreAsked shape w.way.side new.steps.items r
        → CountsConstant shape chain w.way (record { until = piece.until; shape = p }) new
        → Follows shape chain (record { way = w.way; sliding = new; range = Some r; piece = Some p; trend = w.trend; met = piece.until })
    follows_constant new r p asked hand = record {
      can = known.can;
      to = known.to;
      within = known.within;
      begins = piece_begun next.piece;
      ends = next.piece.ends;
      by_steps = λ e. absurd (none-some r (sym e));
      by_constants = λ x e. record {
        wide = (known.by_constants range is).wide;
        still = (known.by_constants range is).still;
        asked = subst (λ y. AreAsked shape w.way.side new.steps.items y) (some_is e) asked;
        hand = hand;
      };
    }

  module _ (to : Rational) (all : HasAll shape chain w to) (order : AtMost (stop w.sliding.out) (before_time to)) where
    -- what was met is all that is seen up to there
    pub tells_constants : TellsBest shape chain w.way (place w.met) (before_time to) w.sliding
    tells_constants = record {
      has = has_constants;
      order = order;
      inside = all.inside;
      best = λ t v u b. elim all.counted [
        | inl h ↦ all_seen shape laws chain w.way known.can.rising (place w.met) t v (high_before_time shape chain w.way (place w.met) to h t u) b
        | inr e ↦ all_met shape laws chain w.way known.can.rising t v (subst (λ c. BestTo shape chain w.way c t v) e b)
      ];
    }

    module _ (new : Sliding P) (r : Range P) (told : CountsAll shape chain w.way (place w.met) new) (first : IsFirstBest shape w.way.side new.steps.items)
        (asked : AreAsked shape w.way.side new.steps.items r) (left : IsLeftOver w.sliding new) (ends : Same (stop new.out) (before_time to)) where
      at_hand : (o : Option P) → CountsConstants shape chain w.way w.met new o
          → IsAt shape chain (record { way = w.way; sliding = new; range = Some r; piece = o; trend = w.trend; met = w.met }) to
      at_hand o hand = record {
        follows = record {
          can = known.can;
          to = known.to;
          within = known.within;
          begins = known.begins;
          ends = known.ends;
          by_steps = λ e. absurd (none-some r (sym e));
          by_constants = λ x e. record {
            wide = (known.by_constants range is).wide;
            still = (known.by_constants range is).still;
            asked = subst (λ y. AreAsked shape w.way.side new.steps.items y) (some_is e) asked;
            hand = hand;
          };
        };
        at = ends;
        all = record { counted = all.counted; inside = all.inside };
        climbs = λ k. absurd (equal-greater (sym (known.by_constants range is).still ∙ k));
      }
        where
          equal-greater : ¬ (Equal ≡ Greater)
          equal-greater k = cc

      -- the piece at hand ends with the chain
      pub at_ended_constant : (place w.met).at <ʳ add to (whole w.way.over.high)
          → IsAt shape chain (record { way = w.way; sliding = new; range = Some r; piece = None; trend = w.trend; met = w.met }) to
      at_ended_constant comes = at_hand None (record {
        all = told;
        first = first;
        early = λ b. absurd (not_before_itself (stop chain) (subst (λ c. Before c (stop chain)) at_stop b));
        ended = inr at_stop;
      })
        where
          at_stop : place w.met ≡ stop chain
          at_stop = elim all.counted [ inl h ↦ absurd (not_lt_of_le h comes) | inr s ↦ s ]

      -- or it counts on
      pub at_constant : add to (whole w.way.over.high) ≤ʳ (place w.met).at
          → IsAt shape chain (record { way = w.way; sliding = new; range = Some r; piece = w.piece; trend = w.trend; met = w.met }) to
      at_constant most = at_hand w.piece (by_hand w.piece (known.by_constants range is).hand)
        where
          on : AtMost (stop w.sliding.out) (stop new.out)
          on t u = at_most_of_same (before_time to) (stop new.out) (same_places ends) t (order t u)

          reached : HasReached shape chain w.way (place w.met) new
          reached = inr (λ t u. high_before_time shape chain w.way (place w.met) to most t (at_most_of_same (stop new.out) (before_time to) ends t u))

          by_hand : (o : Option P) → CountsConstants shape chain w.way w.met w.sliding o → CountsConstants shape chain w.way w.met new o
          by_hand None h = record { all = told; first = first; early = λ b. reached; ended = h.ended }
          by_hand (Some p) h = record {
            begin = h.begin;
            hand = h.hand;
            steady = h.steady;
            all = told;
            first = first;
            entered = λ t a u. h.entered t (after_at_most (stop w.sliding.out) (stop new.out) t on a) u;
            past = λ t a u. h.past t (left.left t a) u;
            last = λ i l e k. let x = last_left shape chain w.way (place w.met) w.sliding new left i l e k in h.last (left.n + i) l x.0 x.1;
            reached = reached;
          }

module _ {P : Type 0} (shape : ShapeOf P) (side : Side) where
  -- of steps that are constants alone each shape is that of one of them
  pub of_constants : (ls : List (Step P)) (q : P) → AreConstantSteps shape ls → IsOfSteps ls q
      → (i : ℕ) × (l : Step P) × (slice_get ls i ≡ Some l) × (q ≡ l.shape)
  of_constants [] q a h = absurd h
  of_constants (s ∷ ss) q a (inl (inl e)) = (0, s, refl, e)
  of_constants (s ∷ ss) q a (inl (inr e)) = absurd (none-some q (sym (a 0 s refl).0 ∙ e))
  of_constants (s ∷ ss) q a (inr h) = let x = of_constants ss q (λ i l e. a (suc i) l e) h in (suc x.0, x.1, x.2, x.3)

  -- at a time of the first step, this is what they give
  pub first_of_gives : (b : Place) (ls : List (Step P)) (t : Rational) (v : Extended) → AreSteps shape side b ls → AreConstantSteps shape ls
      → StepsGive shape side b ls t v → ((i : ℕ) (l : Step P) → slice_get ls i ≡ Some l → Upto (step_end l) t)
      → (l : Step P) × (slice_get ls 0 ≡ Some l) × (v ≈ᵉ value_at (shape.function l.shape) t)
  first_of_gives b [] t v h a g near = absurd g
  first_of_gives b (s ∷ ss) t v h a (inl (after, u, g)) near = (s, refl, subst (λ o. IsWorthWith shape side s.shape o t v) (a 0 s refl).0 g)
  first_of_gives b (s ∷ ss) t v h a (inr g) near = absurd (not_both (step_end s) t (near 0 s refl) (give_after shape side (step_end s) ss t v h.1 g))

module _ {P : Type 0} (shape : ShapeOf P) (laws : ShapeLaws shape) (chain : Chain P) (w : Stream P) (range : Range P) (to : Rational)
    (known : IsAt shape chain w to) (is : w.range ≡ Some range) where
  has : HasConstants shape chain w.way (place w.met) w.sliding
  has = has_constants shape laws chain w range known.follows is

  -- its constants are steps
  pub at_constant_steps : AreSteps shape w.way.side (stop w.sliding.out) w.sliding.steps.items
  at_constant_steps = has.all.steps

  -- what the first of the constants gives is the best of what was met
  pub best_constant : Upto (place w.way.to) to → (v : Extended) → FirstGives shape w.way.side (stop w.sliding.out) w.sliding.steps.items to v
      → BestTo shape chain w.way (place w.met) to v
  best_constant inside v gives = by_steps gives
    where
      here : After (stop w.sliding.out) to
      here = after_same (before_time to) (stop w.sliding.out) to (same_places known.at) (le_refl to)

      near : (i : ℕ) (l : Step P) → slice_get w.sliding.steps.items i ≡ Some l → Upto (step_end l) to
      near i l e = earlier_upto (before_time to) (step_end l) (same_before (before_time to) (stop w.sliding.out) (step_end l) (same_places known.at)
          (step_later shape w.way.side (stop w.sliding.out) w.sliding.steps.items i l has.all.steps e))

      alike : (x : Extended) → x ≈ᵉ v → BestTo shape chain w.way (place w.met) to x → BestTo shape chain w.way (place w.met) to v
      alike x e b = of_best shape laws chain w.way known.follows.can.rising (place w.met) to v
          (best_value e (to_best shape laws chain w.way known.follows.can.rising (place w.met) to x b))

      by_steps : FirstGives shape w.way.side (stop w.sliding.out) w.sliding.steps.items to v → BestTo shape chain w.way (place w.met) to v
      by_steps (inl (nothing, e)) = alike (none_of w.way.side shape.lowest shape.highest) (symᵉ e)
          (best_of_no_constant shape laws chain w.way known.follows.can.rising (place w.met) w.sliding has.all to
          (subst (λ xs. After (steps_end (stop w.sliding.out) xs) to) (sym nothing) here) inside)
      by_steps (inr g) =
          let (l, e, k) = first_of_gives shape w.way.side (stop w.sliding.out) w.sliding.steps.items to v has.all.steps
          (all_constant shape laws chain w.way known.follows.can.rising (place w.met) w.sliding has.all) g near in
          alike (value_at (shape.function l.shape) to) (symᵉ k) (best_of_first shape laws chain w.way known.follows.can.rising (place w.met) w.sliding has.all
          has.first l to e here (near 0 l e))

  -- and moved by an offset
  pub moved_constant : (p : P) → IsOfSteps w.sliding.steps.items p ⊎ (shape.moves p ≡ false) → IsMovedTo shape chain w.way.over (place w.way.to) p
  moved_constant p (inl h) = let (i, l, e, k) = of_constants shape w.way.side w.sliding.steps.items p
      (all_constant shape laws chain w.way known.follows.can.rising (place w.met) w.sliding has.all) h in
      subst (λ q. IsMovedTo shape chain w.way.over (place w.way.to) q) (sym k) (has.all.each i l e).moved
  moved_constant p (inr still) = λ m. absurd (false≢true (sym still ∙ m))

-- before any piece was met
module _ {P : Type 0} (shape : ShapeOf P) (laws : ShapeLaws shape) (chain : Chain P) where
  -- a window that keeps a range stands for the chain
  pub follows_begun : (w : Stream P) (range : Range P) → CanFollow shape chain w.way (place w.met) → w.sliding.out ≡ chain_of (place w.met) []
      → w.sliding.steps.items ≡ [] → w.piece ≡ None → w.trend ≡ Equal → w.way.over.low <ℤ w.way.over.high → range.items ≡ [] → range.low ≡ 0 → range.high ≡ 0
      → FollowsConstants shape chain w range
  follows_begun w range can out nothing none still wide items low high = record {
    wide = wide;
    still = still;
    asked = record {
      count = ap length items ∙ sym (ap length nothing);
      each = λ i l q e. absurd (none-some l (subst (λ xs. slice_get xs i ≡ Some l) nothing e));
      low = low;
      high = omega (arith, high);
    };
    hand = subst (λ o. CountsConstants shape chain w.way w.met w.sliding o) (sym none) (record {
      all = subst (λ c. CountsAll shape chain w.way c w.sliding) (sym can.begins) all;
      first = λ l m j e. absurd (none-some l (subst (λ xs. slice_get xs 0 ≡ Some l) nothing e));
      early = λ b. inl (subst (λ o. AtMost (stop o) chain.from) (sym begun) (at_most_itself chain.from));
      ended = inl can.begins;
    });
  }
    where
      begun : w.sliding.out ≡ chain_of chain.from []
      begun = subst (λ c. w.sliding.out ≡ chain_of c []) can.begins out

      all : CountsAll shape chain w.way chain.from w.sliding
      all = record {
        normal = subst (λ o. IsNormal shape o) (sym begun) (record { rising = tt; each = tt });
        on = subst (λ o. AtMost chain.from (stop o)) (sym begun) (at_most_itself chain.from);
        upto = subst (λ o. AtMost (stop o) (stop chain)) (sym begun) (to_stop chain.from chain.pieces can.can.rising);
        told = λ t v h. absurd (subst (λ o. IsWorth shape o t v) begun h);
        moved = λ p h. absurd (subst (λ o. HasShape o p) begun h);
        steps = subst (AreSteps shape w.way.side (stop w.sliding.out)) (sym nothing) tt;
        each = λ i l e. absurd (none-some l (subst (λ xs. slice_get xs i ≡ Some l) nothing e));
        above = λ t u v a k see m h. absurd (not_both chain.from u m (worth_after shape chain.from chain.pieces u v can.can.rising h));
      }

module _ {P : Type 0} (shape : ShapeOf P) (chain : Chain P) where
  -- a window whose told begins anew keeps its constants
  pub follows_anew : (w : Stream P) (range : Range P) → FollowsConstants shape chain w range
      → FollowsConstants shape chain (record w { sliding = record { out = chain_of (stop w.sliding.out) []; steps = w.sliding.steps } }) range
  follows_anew w range known = record {
    wide = known.wide;
    still = known.still;
    asked = known.asked;
    hand = by_hand w.piece known.hand;
  }
    where
      anew : Sliding P
      anew = record { out = chain_of (stop w.sliding.out) []; steps = w.sliding.steps }

      all_anew : (met : Place) → CountsAll shape chain w.way met w.sliding → CountsAll shape chain w.way met anew
      all_anew met h = record {
        normal = record { rising = tt; each = tt };
        on = h.on;
        upto = h.upto;
        told = λ t v k. absurd k;
        moved = λ p k. absurd k;
        steps = h.steps;
        each = h.each;
        above = h.above;
      }

      by_hand : (o : Option P) → CountsConstants shape chain w.way w.met w.sliding o → CountsConstants shape chain w.way w.met anew o
      by_hand None h = record { all = all_anew (place w.met) h.all; first = h.first; early = h.early; ended = h.ended }
      by_hand (Some p) h = record {
        begin = h.begin;
        hand = h.hand;
        steady = h.steady;
        all = all_anew (place w.met) h.all;
        first = h.first;
        entered = h.entered;
        past = h.past;
        last = h.last;
        reached = h.reached;
      }

-- a window by its steps or by constants
module _ {P : Type 0} (shape : ShapeOf P) (chain : Chain P) (w : Stream P) where
  -- with no range, by its steps
  pub follows_of_steps : w.range ≡ None → FollowsSteps shape chain w → Follows shape chain w
  follows_of_steps none f = record {
    can = f.can;
    to = f.to;
    within = f.within;
    begins = f.begins;
    ends = f.ends;
    by_steps = λ e. f;
    by_constants = λ r e. absurd (none-some r (sym none ∙ e));
  }

  -- so at the time before which it has told all
  pub at_of_steps : (to : Rational) → w.range ≡ None → IsAtSteps shape chain w to → IsAt shape chain w to
  at_of_steps to none k = record { follows = follows_of_steps none k.follows; at = k.at; all = k.all; climbs = k.climbs }

  -- and the other way
  pub steps_of_at : (to : Rational) → w.range ≡ None → IsAt shape chain w to → IsAtSteps shape chain w to
  steps_of_at to none k = record { follows = k.follows.by_steps none; at = k.at; all = k.all; climbs = k.climbs }

  -- it has told from no earlier than where the chain begins
  pub begun : ShapeLaws shape → Follows shape chain w → AtMost chain.from (stop w.sliding.out)
  begun laws known = by_range w.range refl
    where
      by_range : (o : Option (Range P)) → w.range ≡ o → AtMost chain.from (stop w.sliding.out)
      by_range None e = follows_on shape chain w (known.by_steps e)
      by_range (Some r) e = (has_constants shape laws chain w r known e).all.on

  -- the time before which it has told all lies within limits
  pub at_within_limits : ShapeLaws shape → (to : Rational) → IsAt shape chain w to → IsWithin (2 ^ 34) to
  at_within_limits laws to known = within_between (2 ^ 34) known.follows.can.limited.begins known.follows.can.limited.ends
      (le_trans (le_of_at_most chain.from (stop w.sliding.out) (begun laws known.follows)) (le_of_same known.at.0))
      (le_of_at_most (before_time to) (stop chain) known.all.inside)

  -- a window whose told begins anew follows the chain as before
  pub follows_restart : (out : Chain P) → out ≡ chain_of (stop w.sliding.out) [] → Follows shape chain w
      → Follows shape chain (record w { sliding = record { out = out; steps = w.sliding.steps } })
  follows_restart out e known = record {
    can = known.can;
    to = known.to;
    within = known.within;
    begins = known.begins;
    ends = known.ends;
    by_steps = λ none. follows_restarted shape chain w out e (known.by_steps none);
    by_constants = λ r is. subst (λ o. FollowsConstants shape chain (record w { sliding = record { out = o; steps = w.sliding.steps } }) r) (sym e)
        (follows_anew shape chain w r (known.by_constants r is));
  }

-- a window that has met nothing follows a chain that begins there
pub follows_at_first : {P : Type 0} (shape : ShapeOf P) (laws : ShapeLaws shape) (chain : Chain P) (w : Stream P) → CanFollow shape chain w.way (place w.met)
    → w.sliding.out ≡ chain_of (place w.met) [] → w.sliding.steps.items ≡ [] → w.piece ≡ None → w.trend ≡ Equal
    → IfSome w.range (λ r. w.way.over.low <ℤ w.way.over.high) → IfSome w.range (λ r. r.items ≡ []) → IfSome w.range (λ r. r.low ≡ 0)
    → IfSome w.range (λ r. r.high ≡ 0) → Follows shape chain w
follows_at_first shape laws chain w can out nothing none still wide items low high = record {
  can = f.can;
  to = f.to;
  within = f.within;
  begins = f.begins;
  ends = f.ends;
  by_steps = λ e. f;
  by_constants = λ r e. follows_begun shape laws chain w r can out nothing none still (subst (λ o. IfSome o (λ r. w.way.over.low <ℤ w.way.over.high)) e wide)
      (subst (λ o. IfSome o (λ r. r.items ≡ [])) e items) (subst (λ o. IfSome o (λ r. r.low ≡ 0)) e low) (subst (λ o. IfSome o (λ r. r.high ≡ 0)) e high);
}
  where
    f : FollowsSteps shape chain w
    f = follows_first shape chain laws w can out nothing none still

-- what was told by constants is the best from where it began
pub told_by_constants : {P : Type 0} (shape : ShapeOf P) (laws : ShapeLaws shape) (chain : Chain P) (way : Way) (rising : Rise chain.from chain.pieces)
    (met from to : Place) (s : Sliding P) → CountsAll shape chain way met s → s.out.from ≡ from → Same (stop s.out) to
    → Tells shape (BestOver shape chain way.over way.side) from to s.out
told_by_constants shape laws chain way rising met from to s all begins ends =
    tells shape (Best shape chain way) from to s.out (best_is_function shape laws chain way rising)
    (record { normal = all.normal; worth = all.told }) (subst (λ c. Same s.out.from c) begins (same_place s.out.from)) ends

-- the same piece comes next for a window that has met as much
pub comes_same : {P : Type 0} (shape : ShapeOf P) (chain : Chain P) (w v : Stream P) (piece : Piece P) → v.met ≡ w.met → v.way ≡ w.way
    → ComesNext shape chain w piece → ComesNext shape chain v piece
comes_same shape chain w v piece met way next = record {
  piece = subst (λ m. IsPieceFrom shape chain (place m) piece) (sym met) next.piece;
  comes = subst (λ m. (place m).at <ʳ add (stop chain).at (whole v.way.over.high)) (sym met)
      (subst (λ x. (place w.met).at <ʳ add (stop chain).at (whole x.over.high)) (sym way) next.comes);
}
