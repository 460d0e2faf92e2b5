-- A window that follows a function piece by piece: how it stands for a chain once it has met more, and once it has told more.
use Rattle.std.proofs.Common.{◌≡◌, ◌⊎◌, ◌^◌, inl, inr, refl, sym, ◌∙◌, subst, [], Option, Some, None, false}
use Rattle.std.proofs.Common.{Result, Ok, Err}
use Rattle.std.specs.Prelude.{OnOk}
use Rattle.std.proofs.lemmas.Bool.{false≢true}
use Rattle.std.specs.declared.cmp.Ordering.{Ordering}
use Rattle.std.specs.declared.cmp.Ordering.TheVariants.{Less, Equal, Greater}
use Rattle.rational.specs.Rational.{IsWithin, add, whole}
use Rattle.rational.specs.Time.{Rational, ◌≤ʳ◌, ◌<ʳ◌, ◌≈◌}
use Rattle.rational.specs.Extended.{Extended, value_at, ◌≈ᵉ◌}
use Rattle.rational.specs.InPlay.{IsBreakpoint}
use Rattle.rational.specs.Places.{Place, After, Upto, Before, AtMost, Same}
use Rattle.rational.proofs.Order.{le_of_lt, le_of_same, le_refl, le_trans, lt_of_le_of_lt, lt_of_lt_of_le, not_lt_of_le, same_refl, same_sym, same_trans}
use Rattle.rational.proofs.AffineLemmas.{value_same}
use Rattle.rational.proofs.Mixed.{within_between}
use Rattle.rational.proofs.Shift.{le_shift, lt_shift}
use Rattle.rational.proofs.Sames.{symᵉ, transᵉ}
use Rattle.rational.proofs.PlaceLemmas.{after_same, before_at_most, le_of_at_most, le_of_before, not_before_itself, same_places}
use Rattle.frac128.specs.Cuts.{place}
use Rattle.frac128.specs.declared.cut.Cut.{Cut}
use Rattle.value_laws.specs.Members.{ShapeOf, ShapeLaws}
use Rattle.pieces.specs.declared.piece.Piece.{Piece}
use Rattle.pieces.specs.declared.reach.Way.{Way}
use Rattle.pieces.specs.declared.sliding.Sliding.{Sliding}
use Rattle.pieces.specs.declared.stream.Stream.{Stream}
use Rattle.pieces.specs.Chains.{Chain, HasShape, Rise, end, stop, IsWorth}
use Rattle.pieces.specs.Hands.{ClimbsAt, FirstGives}
use Rattle.pieces.specs.Hands.{EndsHand, GoesFurther, GoesOnAs, HasClimbed, HasLeft, HasRested, IsOnWay, IsTaken, Leaves, TellsClimb, TellsRest, TurnsTo}
use Rattle.pieces.specs.Meeting.{HasMet, HasToldTo, IsBelow, Meets}
use Rattle.pieces.specs.Over.{IsMovedTo}
use Rattle.pieces.specs.Steps.{AreSteps, IsOfSteps}
use Rattle.pieces.specs.Streaming.{CanFollow, ComesNext, Counts, CountsSoFar, FollowsSteps, HasAll, IsAtSteps, IsAtHand, Rests, StandsBy, before_time}
use Rattle.pieces.specs.Windows.{Best, BestTo, CanSlide, HasEntered, IsNonEmpty, IsPieceFrom, Keeps, Sees, Stands, high_place}
use Rattle.pieces.proofs.BuildingLemmas.{chain_of}
use Rattle.pieces.proofs.ChainLemmas.{to_stop, worth_same}
use Rattle.pieces.proofs.Ends.{at_most_itself, at_most_of_before, only_time}
use Rattle.pieces.proofs.Hands.{breaks_between, counts_of, first_best, rests_on, stands_counts}
use Rattle.pieces.proofs.PieceEnds.{high_upto, lt_of_moved, piece_begun}
use Rattle.pieces.proofs.Bests.{best_alike, best_over}
use Rattle.pieces.proofs.WindowGoesOn.{keeps_further, to_best}
use Rattle.pieces.proofs.OverWindow.{all_met, stands_blind, stands_none}
use Rattle.pieces.proofs.SeenBest.{all_seen}
use Rattle.pieces.proofs.InPlayCauses.{plays_none}

-- what follows from three things holds where a result is good, if all do
pub on_ok_three : {T E A B C D : Type 0} (r : Result T E) → (A → B → C → D) → OnOk r A → OnOk r B → OnOk r C → OnOk r D
on_ok_three (Ok x) f a b c = f a b c
on_ok_three (Err x) f a b c = tt

-- a window that has told no further than to where its high end comes to a place has told no later time than those at which that counts
pub told_below : {P : Type 0} (way : Way) (met : Place) (old new : Sliding P) (limit : Rational) → HasToldTo way met old new
    → AtMost (stop old.out) (before_time limit) → met.at <ʳ add limit (whole way.over.high) → AtMost (stop new.out) (before_time limit)
told_below way met old new limit (inl same) most comes = subst (λ c. AtMost c (before_time limit)) (sym same) most
told_below way met old new limit (inr upto) most comes = λ t u.
    lt_of_moved t limit way.over.high (lt_of_le_of_lt (high_upto way.over met t (upto t u)) comes)

module _ {P : Type 0} (shape : ShapeOf P) (chain : Chain P) where
  -- a window that has met nothing follows a chain that begins there
  pub follows_first : ShapeLaws shape → (w : Stream P) → CanFollow shape chain w.way (place w.met) → w.sliding.out ≡ chain_of (place w.met) []
      → w.sliding.steps.items ≡ [] → w.piece ≡ None → w.trend ≡ Equal → FollowsSteps shape chain w
  follows_first laws w can out nothing none still = record {
    can = can.can;
    to = can.to;
    within = can.within;
    begins = subst (λ c. AtMost chain.from c) (sym can.begins) (at_most_itself chain.from);
    ends = subst (λ c. AtMost c (stop chain)) (sym can.begins) (to_stop chain.from chain.pieces can.can.rising);
    plays = plays_none shape chain w.way.over (place w.way.to) w.sliding (place w.met) out nothing;
    hand = subst (λ p. CountsSoFar shape chain w.way w.met w.sliding p w.trend) (sym none) (rests, not_up, λ some. inl can.begins);
  }
    where
      stands : Stands shape chain w.way chain.from chain.from w.sliding
      stands = stands_none shape laws chain w.way can.can.rising w.sliding (subst (λ c. w.sliding.out ≡ chain_of c []) can.begins out) nothing

      rests : Rests shape chain w.way (place w.met) w.sliding
      rests = subst (λ c. Rests shape chain w.way c w.sliding) (sym can.begins)
          (record { reach = chain.from; keeps = stands; early = λ b. at_most_itself chain.from })

      not_up : ¬ (w.trend ≡ Greater)
      not_up e = by_both (sym still ∙ e)
        where
          by_both : ¬ (Equal ≡ Greater)
          by_both k = cc

  -- a window whose told begins anew where it ends keeps what it kept
  module _ (way : Way) (old : Sliding P) where
    abbrev anew : Sliding P
    anew = record { out = chain_of (stop old.out) []; steps = old.steps }

    keeps_anew : (met reach left : Place) → Keeps shape chain way met reach left old → Keeps shape chain way met reach left anew
    keeps_anew met reach left k = record {
      normal = record { rising = tt; each = tt };
      on = k.on;
      upto = k.upto;
      told = λ t v w. absurd w;
      steps = k.steps;
      gives = k.gives;
      sees = k.sees;
      none = k.none;
      reached = k.reached;
    }

    counts_anew : (piece : Piece P) → Counts shape chain way piece old → Counts shape chain way piece anew
    counts_anew piece h = record {
      begin = h.begin;
      hand = h.hand;
      falls = h.falls;
      stands = keeps_anew (end piece) (end piece) (end piece) h.stands;
      past = h.past;
    }

    stands_anew : (piece : Piece P) (trend : Ordering) → StandsBy shape chain way piece trend old → StandsBy shape chain way piece trend anew
    stands_anew piece Less h = counts_anew piece h
    stands_anew piece Equal h = counts_anew piece h
    stands_anew piece Greater h = record {
      begin = h.begin;
      hand = h.hand;
      rises = h.rises;
      keeps = keeps_anew h.begin (end piece) h.begin h.keeps;
      entered = h.entered;
    }

    so_far_anew : (met : Cut) (piece : Option P) (trend : Ordering) → CountsSoFar shape chain way met old piece trend
        → CountsSoFar shape chain way met anew piece trend
    so_far_anew met None trend (rests, up, one) =
        (record { reach = rests.reach; keeps = keeps_anew (place met) rests.reach (place met) rests.keeps; early = rests.early }, up, one)
    so_far_anew met (Some p) trend h = (h.0, stands_anew (record { until = met; shape = p }) trend h.1)

  -- so it follows the chain as before
  pub follows_restarted : (w : Stream P) (out : Chain P) → out ≡ chain_of (stop w.sliding.out) [] → FollowsSteps shape chain w
      → FollowsSteps shape chain (record w { sliding = record { out = out; steps = w.sliding.steps } })
  follows_restarted w out e known = subst (λ o. FollowsSteps shape chain (record w { sliding = record { out = o; steps = w.sliding.steps } })) (sym e) (record {
    can = known.can;
    to = known.to;
    within = known.within;
    begins = known.begins;
    ends = known.ends;
    plays = record { told = λ p h. absurd h; moved = known.plays.moved; in_play = known.plays.in_play };
    hand = so_far_anew w.way w.sliding w.met w.piece w.trend known.hand;
  })

  -- where the piece at hand begins
  pub hand_at : (way : Way) (piece : Piece P) (s : Sliding P) (trend : Ordering) → StandsBy shape chain way piece trend s
      → (begin : Place) × IsAtHand shape chain way piece begin
  hand_at way piece s Less h = (h.begin, h.hand)
  hand_at way piece s Equal h = (h.begin, h.hand)
  hand_at way piece s Greater h = (h.begin, h.hand)

  -- as far as it has told, or where the chain begins
  hand_on : (way : Way) (piece : Piece P) (s : Sliding P) (trend : Ordering) → StandsBy shape chain way piece trend s → AtMost chain.from (stop s.out)
  hand_on way piece s Less h = h.stands.on
  hand_on way piece s Equal h = h.stands.on
  hand_on way piece s Greater h = h.keeps.on

  so_far_on : (way : Way) (met : Cut) (s : Sliding P) (piece : Option P) (trend : Ordering) → CountsSoFar shape chain way met s piece trend
      → AtMost chain.from (stop s.out)
  so_far_on way met s None trend h = h.0.keeps.on
  so_far_on way met s (Some p) trend h = hand_on way (record { until = met; shape = p }) s trend h.1

  pub follows_on : (w : Stream P) → FollowsSteps shape chain w → AtMost chain.from (stop w.sliding.out)
  follows_on w known = so_far_on w.way w.met w.sliding w.piece w.trend known.hand

  on_way : (w : Stream P) → FollowsSteps shape chain w → IsOnWay shape chain w.way w.sliding
  on_way w known = record { can = known.can; to = known.to; within = known.within; plays = known.plays }

  -- what was met lies within limits
  pub follows_met_within : (w : Stream P) → CanSlide shape chain w.way.over → AtMost chain.from (place w.met) → AtMost (place w.met) (stop chain)
      → IsWithin (2 ^ 34) (place w.met).at
  follows_met_within w can begins ends = within_between (2 ^ 34) can.limited.begins can.limited.ends (le_of_at_most chain.from (place w.met) begins)
      (le_of_at_most (place w.met) (stop chain) ends)

  pub follows_within : (w : Stream P) → FollowsSteps shape chain w → IsWithin (2 ^ 34) (place w.met).at
  follows_within w known = follows_met_within w known.can known.begins known.ends

  -- a shape that goes on as the next piece is a piece of the chain
  pub goes_on_piece : (met : Place) (p : P) (piece : Piece P) → IsPieceFrom shape chain met piece → HasShape chain p → GoesOnAs shape p met piece
      → IsPieceFrom shape chain met (record { until = piece.until; shape = p })
  goes_on_piece met p piece next has goes = record {
    order = next.order;
    begins = next.begins;
    ends = next.ends;
    worth = λ t a u. worth_same shape chain.from chain.pieces (value_at (shape.function piece.shape) t) (value_at (shape.function p) t)
        (same_refl t) (symᵉ (alike t a u goes)) (next.worth t a u);
    has = has;
  }
    where
      alike : (t : Rational) → After met t → Upto (end piece) t → GoesOnAs shape p met piece
          → value_at (shape.function p) t ≈ᵉ value_at (shape.function piece.shape) t
      alike t a u (inr same) = same t
      alike t a u (inl (at, here)) =
          let now = same_trans (only_time met (end piece) t at a u) (same_sym at) in
          transᵉ (value_same (shape.function p) now) (transᵉ here (value_same (shape.function piece.shape) (same_sym now)))

  -- before a time from which all that counts was met, the window's high end does not lie behind that
  pub high_before_time : (way : Way) (met : Place) (to : Rational) → add to (whole way.over.high) ≤ʳ met.at → (t : Rational) → Upto (before_time to) t
      → ¬ Before met (high_place way.over.high way.over.high_in t)
  high_before_time way met to most t u b = not_lt_of_le most (lt_of_le_of_lt (le_of_before met (high_place way.over.high way.over.high_in t) b)
      (lt_shift way.over.high u))

  module _ (w : Stream P) (piece : Piece P) where
    -- a limit at which the window reaches past what was met
    pub next_below : (limit : Rational) → chain.from.at <ʳ limit → limit ≤ʳ (stop chain).at
        → (place w.met).at <ʳ add limit (whole w.way.over.high) → IsBelow shape chain w.way limit (place w.met).at
    next_below limit after inside comes = (inside, inr (after, comes))

    -- where it does so from where the chain begins on, no later time is told
    pub next_narrow : (limit : Rational) → FollowsSteps shape chain w → limit ≤ʳ chain.from.at → (place w.met).at <ʳ add limit (whole w.way.over.high)
        → (place w.met).at ≤ʳ add (stop w.sliding.out).at (whole w.way.over.high)
    next_narrow limit known before comes = le_trans (le_of_lt comes) (le_shift w.way.over.high
        (le_trans before (le_of_at_most chain.from (stop w.sliding.out) (follows_on w known))))

    -- the chain goes on behind what was met
    pub goes_behind : ComesNext shape chain w piece → Before (place w.met) (stop chain)
    goes_behind next = before_at_most (place w.met) (end piece) (stop chain) next.piece.order next.piece.ends

    -- a window that sees nothing has met more
    pub follows_blind : ShapeLaws shape → FollowsSteps shape chain w → ComesNext shape chain w piece → ((t u : Rational) → ¬ Sees w.way.over t u)
        → ¬ IsNonEmpty w.way.over → FollowsSteps shape chain (record w { met = piece.until })
    follows_blind laws known next blind none = record {
      can = known.can;
      to = known.to;
      within = known.within;
      begins = piece_begun next.piece;
      ends = next.piece.ends;
      plays = known.plays;
      hand = by_hand w.piece known.hand;
    }
      where
        by_hand : (o : Option P) → CountsSoFar shape chain w.way w.met w.sliding o w.trend
            → CountsSoFar shape chain w.way piece.until w.sliding o w.trend
        by_hand (Some p) h = absurd (none h.0)
        by_hand None (rests, up, _) = (
          record {
            reach = end piece;
            keeps = stands_blind shape laws chain w.way known.can.rising (place w.met) (end piece) w.sliding
                (at_most_of_before (place w.met) (end piece) next.piece.order) blind (keeps_further shape laws chain w.way known.can.rising
                (place w.met) rests.reach (place w.met) (place w.met) w.sliding (rests.early (goes_behind next)) rests.keeps);
            early = λ b. at_most_itself (end piece);
          },
          up,
          λ some. absurd (none some),
        )

    -- the piece at hand goes on
    pub follows_further : (p : P) → w.piece ≡ Some p → FollowsSteps shape chain w → IsNonEmpty w.way.over → ComesNext shape chain w piece
        → GoesOnAs shape p (place w.met) piece → GoesFurther shape chain w.way w.met (record { until = piece.until; shape = p }) w.trend w.sliding
    follows_further p e known some next goes = record {
      on = on_way w known;
      some = some;
      hand = hand;
      more = goes_on_piece (place w.met) p piece next.piece (hand_at w.way (record { until = w.met; shape = p }) w.sliding w.trend hand).1.is.has goes;
    }
      where
        hand : StandsBy shape chain w.way (record { until = w.met; shape = p }) w.trend w.sliding
        hand = (subst (λ o. CountsSoFar shape chain w.way w.met w.sliding o w.trend) e known.hand).1

    -- it has met it then
    pub follows_longer : (p : P) → w.piece ≡ Some p → FollowsSteps shape chain w → IsNonEmpty w.way.over → ComesNext shape chain w piece → (new : Sliding P)
        → IsTaken shape chain w.way (record { until = piece.until; shape = p }) w.trend new
        → FollowsSteps shape chain (record w { sliding = new; met = piece.until })
    follows_longer p e known some next new taken = record {
      can = known.can;
      to = known.to;
      within = known.within;
      begins = piece_begun next.piece;
      ends = next.piece.ends;
      plays = taken.plays;
      hand = subst (λ o. CountsSoFar shape chain w.way piece.until new o w.trend) (sym e) (some, taken.hand);
    }

    -- or it ends, and the chain has a breakpoint there
    pub follows_turns : FollowsSteps shape chain w → IsNonEmpty w.way.over → ComesNext shape chain w piece
        → ((p : P) → w.piece ≡ Some p → ¬ GoesOnAs shape p (place w.met) piece) → TurnsTo shape chain w piece
    follows_turns known some next differs = record { follows = known; next = next; some = some; last = by_hand w.piece refl known.hand }
      where
        F : Place → Type 0
        F c = IsBreakpoint (IsWorth shape chain) chain.from.at (stop chain).at c.at

        by_hand : (o : Option P) → w.piece ≡ o → CountsSoFar shape chain w.way w.met w.sliding o w.trend → F (place w.met)
        by_hand None e (rests, up, one) = elim (one some) [
          | inl begins ↦ IsBreakpoint.start (subst (λ c. c.at ≈ chain.from.at) (sym begins) (same_refl chain.from.at))
          | inr ends ↦ absurd (not_before_itself (stop chain) (subst (λ c. Before c (stop chain)) ends (goes_behind next)))
        ]
        by_hand (Some p) e h =
            let (begin, hand) = hand_at w.way (record { until = w.met; shape = p }) w.sliding w.trend h.1 in
            breaks_between shape chain known.can.rising begin (record { until = w.met; shape = p }) piece hand.is hand.breaks next.piece (differs p e)

    -- what lies before it was met
    pub turn_leaves : TurnsTo shape chain w piece → Leaves shape chain w.way w.piece w.trend w.met w.sliding
    turn_leaves t = record {
      on = on_way w t.follows;
      some = t.some;
      counts = t.follows.hand;
      last = t.last;
      ahead = inr t.next.comes;
      begins = t.follows.begins;
      ends = t.follows.ends;
      goes = goes_behind t.next;
    }

    -- and it comes
    pub turn_meets : TurnsTo shape chain w piece → (new : Sliding P) → HasMet shape chain w.way (place w.met) new
        → HasEntered shape chain w.way (place w.met) new → Meets shape chain w.way (place w.met) piece new
    turn_meets t new met entered = record {
      can = met.can;
      to = met.to;
      within = met.within;
      some = t.some;
      piece = t.next.piece;
      breaks = t.last;
      stands = met.stands;
      entered = entered;
      plays = met.plays;
    }

    -- so that the window has met it
    pub turn_follows : TurnsTo shape chain w piece → (new : Sliding P) (trend : Ordering) → IsTaken shape chain w.way piece trend new
        → FollowsSteps shape chain (record { way = w.way; sliding = new; range = w.range; piece = Some piece.shape; trend = trend; met = piece.until })
    turn_follows t new trend taken = record {
      can = t.follows.can;
      to = t.follows.to;
      within = t.follows.within;
      begins = piece_begun t.next.piece;
      ends = t.next.piece.ends;
      plays = taken.plays;
      hand = (t.some, taken.hand);
    }

  -- what is told
  module _ (w : Stream P) (to : Rational) (known : FollowsSteps shape chain w) (all : HasAll shape chain w to)
      (order : AtMost (stop w.sliding.out) (before_time to)) where
    -- the time lies within limits
    pub to_within : IsWithin (2 ^ 34) to
    to_within = within_between (2 ^ 34) known.can.limited.begins known.can.limited.ends
        (le_trans (le_of_at_most chain.from (stop w.sliding.out) (follows_on w known)) (le_of_at_most (stop w.sliding.out) (before_time to) order))
        (le_of_at_most (before_time to) (stop chain) all.inside)

    -- in a domain of one time none is later than what was told
    pub to_narrow : (stop chain).at ≤ʳ chain.from.at → (out : Place) → AtMost chain.from out → to ≤ʳ out.at
    to_narrow one out on = le_trans (le_of_at_most (before_time to) (stop chain) all.inside) (le_trans one (le_of_at_most chain.from out on))

    seen : ((t : Rational) → Upto (before_time to) t → ¬ Before (place w.met) (high_place w.way.over.high w.way.over.high_in t))
        ⊎ (place w.met ≡ stop chain)
    seen = elim all.counted [ inl h ↦ inl (high_before_time w.way (place w.met) to h) | inr e ↦ inr e ]

    -- with no piece at hand
    pub rests_none : w.piece ≡ None → (reach : Place) × TellsRest shape chain w.way (place w.met) reach (before_time to) w.sliding
    rests_none e =
        let (rests, up, one) = subst (λ o. CountsSoFar shape chain w.way w.met w.sliding o w.trend) e known.hand in
        (rests.reach, record { on = on_way w known; keeps = rests.keeps; order = order; inside = all.inside; all = seen })

    pub at_none : (e : w.piece ≡ None) (new : Sliding P) → HasRested shape chain w.way (place w.met) (before_time to) new → Same (stop new.out) (before_time to)
        → IsAtSteps shape chain (record w { sliding = new }) to
    at_none e new rested ends =
        let (rests, up, one) = subst (λ o. CountsSoFar shape chain w.way w.met w.sliding o w.trend) e known.hand in
        record {
          follows = record {
            can = known.can;
            to = known.to;
            within = known.within;
            begins = known.begins;
            ends = known.ends;
            plays = rested.plays;
            hand = subst (λ o. CountsSoFar shape chain w.way w.met new o w.trend) (sym e) (rests_on (rests_none e).1 rested, up, one);
          };
          at = ends;
          all = record { counted = all.counted; inside = all.inside };
          climbs = λ g. absurd (up g);
        }

    module _ (p : P) (e : w.piece ≡ Some p) where
      abbrev pub piece : Piece P
      piece = record { until = w.met; shape = p }

      so_far : IsNonEmpty w.way.over × StandsBy shape chain w.way piece w.trend w.sliding
      so_far = subst (λ o. CountsSoFar shape chain w.way w.met w.sliding o w.trend) e known.hand

      -- the chain ends where what counts before the time was not all met
      pub at_stop : (place w.met).at <ʳ add to (whole w.way.over.high) → place w.met ≡ stop chain
      at_stop comes = elim all.counted [ inl h ↦ absurd (not_lt_of_le h comes) | inr s ↦ s ]

      pub ends_hand : (place w.met).at <ʳ add to (whole w.way.over.high) → EndsHand shape chain w.way piece w.trend w.sliding
      ends_hand comes = record {
        on = on_way w known;
        some = so_far.0;
        hand = so_far.1;
        last = IsBreakpoint.stop (subst (λ c. (place w.met).at ≈ c.at) (at_stop comes) (same_refl (place w.met).at));
        ahead = inr (lt_of_lt_of_le comes (le_shift w.way.over.high (le_of_at_most (before_time to) (stop chain) all.inside)));
      }

      -- and the piece at hand has ended
      pub rests_ended : (comes : (place w.met).at <ʳ add to (whole w.way.over.high)) (new : Sliding P) → HasMet shape chain w.way (place w.met) new
          → AtMost (stop new.out) (before_time to) → TellsRest shape chain w.way (place w.met) (place w.met) (before_time to) new
      rests_ended comes new met most = record {
        on = record { can = met.can; to = met.to; within = met.within; plays = met.plays };
        keeps = met.stands;
        order = most;
        inside = all.inside;
        all = inr (at_stop comes);
      }

      pub at_ended : (comes : (place w.met).at <ʳ add to (whole w.way.over.high)) (mid new : Sliding P) → HasMet shape chain w.way (place w.met) mid
          → AtMost (stop mid.out) (before_time to) → HasRested shape chain w.way (place w.met) (before_time to) new → Same (stop new.out) (before_time to)
          → IsAtSteps shape chain (record { way = w.way; sliding = new; range = w.range; piece = None; trend = Equal; met = w.met }) to
      at_ended comes mid new met most rested ends = record {
        follows = record {
          can = known.can;
          to = known.to;
          within = known.within;
          begins = known.begins;
          ends = known.ends;
          plays = rested.plays;
          hand = (rests_on (rests_ended comes mid met most) rested, (λ k. let z : Equal ≡ Greater = k in cc), λ some. inr (at_stop comes));
        };
        at = ends;
        all = record { counted = inr (at_stop comes); inside = all.inside };
        climbs = λ k. let z : Equal ≡ Greater = k in cc;
      }

      -- or it goes on
      module _ (most : add to (whole w.way.over.high) ≤ʳ (place w.met).at) where
        pub tells_climb : w.trend ≡ Greater → TellsClimb shape chain w.way piece (before_time to) w.sliding
        tells_climb g = record {
          on = on_way w known;
          some = so_far.0;
          hand = subst (λ t. StandsBy shape chain w.way piece t w.sliding) g so_far.1;
          order = order;
          inside = all.inside;
          all = high_before_time w.way (place w.met) to most;
        }

        pub at_climb : w.trend ≡ Greater → (new : Sliding P) → HasClimbed shape chain w.way piece new → Same (stop new.out) (before_time to)
            → IsAtSteps shape chain (record w { sliding = new }) to
        at_climb g new climbed ends = record {
          follows = record {
            can = known.can;
            to = known.to;
            within = known.within;
            begins = known.begins;
            ends = known.ends;
            plays = climbed.plays;
            hand = subst (λ o. CountsSoFar shape chain w.way w.met new o w.trend) (sym e) (
              so_far.0,
              subst (λ t. StandsBy shape chain w.way piece t new) (sym g) climbed.hand,
            );
          };
          at = ends;
          all = record { counted = all.counted; inside = all.inside };
          climbs = λ k. most;
        }

        pub rests_counts : ¬ (w.trend ≡ Greater) → TellsRest shape chain w.way (place w.met) (place w.met) (before_time to) w.sliding
        rests_counts n = record {
          on = on_way w known;
          keeps = (counts_of w.trend n so_far.1).stands;
          order = order;
          inside = all.inside;
          all = inl (high_before_time w.way (place w.met) to most);
        }

        pub at_counts : (n : ¬ (w.trend ≡ Greater)) (new : Sliding P) → HasRested shape chain w.way (place w.met) (before_time to) new
            → HasLeft w.sliding new → Same (stop new.out) (before_time to) → IsAtSteps shape chain (record w { sliding = new }) to
        at_counts n new rested left ends =
            let counts : Counts shape chain w.way piece w.sliding = counts_of w.trend n so_far.1 in
            record {
              follows = record {
                can = known.can;
                to = known.to;
                within = known.within;
                begins = known.begins;
                ends = known.ends;
                plays = rested.plays;
                hand = subst (λ o. CountsSoFar shape chain w.way w.met new o w.trend) (sym e) (
                  so_far.0,
                  stands_counts w.trend n (record {
                    begin = counts.begin;
                    hand = counts.hand;
                    falls = counts.falls;
                    stands = rested.near (high_before_time w.way (place w.met) to most);
                    past = λ t a u. counts.past t (left t a) u;
                  }),
                );
              };
              at = ends;
              all = record { counted = all.counted; inside = all.inside };
              climbs = λ k. most;
            }

  -- at the time before which it has told all
  module _ (laws : ShapeLaws shape) (w : Stream P) (to : Rational) (known : IsAtSteps shape chain w to) where
    -- that lies within limits
    pub at_within : IsWithin (2 ^ 34) to
    at_within = within_between (2 ^ 34) known.follows.can.limited.begins known.follows.can.limited.ends
        (le_trans (le_of_at_most chain.from (stop w.sliding.out) (follows_on w known.follows)) (le_of_same known.at.0))
        (le_of_at_most (before_time to) (stop chain) known.all.inside)

    steps_by : (o : Option P) → CountsSoFar shape chain w.way w.met w.sliding o w.trend
        → AreSteps shape w.way.side (stop w.sliding.out) w.sliding.steps.items
    steps_by None h = h.0.keeps.steps
    steps_by (Some p) h = by_trend w.trend h.1
      where
        by_trend : (trend : Ordering) → StandsBy shape chain w.way (record { until = w.met; shape = p }) trend w.sliding
            → AreSteps shape w.way.side (stop w.sliding.out) w.sliding.steps.items
        by_trend Less h = h.stands.steps
        by_trend Equal h = h.stands.steps
        by_trend Greater h = h.keeps.steps

    pub at_steps : AreSteps shape w.way.side (stop w.sliding.out) w.sliding.steps.items
    at_steps = steps_by w.piece known.follows.hand

    -- what its first step gives is the best of what was met, where it climbs nothing
    module _ (inside : Upto (place w.way.to) to) (v : Extended) (gives : FirstGives shape w.way.side (stop w.sliding.out) w.sliding.steps.items to v) where
      pub best_none : w.piece ≡ None → BestTo shape chain w.way (place w.met) to v
      best_none e =
          let h = subst (λ o. CountsSoFar shape chain w.way w.met w.sliding o w.trend) e known.follows.hand in
          first_best shape laws chain w.way known.follows.can.rising (place w.met) h.0.reach (place w.met) w.sliding to v h.0.keeps
          (at_most_itself (place w.met)) known.at inside gives

      module _ (p : P) (e : w.piece ≡ Some p) where
        at_hand : IsNonEmpty w.way.over × StandsBy shape chain w.way (record { until = w.met; shape = p }) w.trend w.sliding
        at_hand = subst (λ o. CountsSoFar shape chain w.way w.met w.sliding o w.trend) e known.follows.hand

        pub best_counts : ¬ (w.trend ≡ Greater) → BestTo shape chain w.way (place w.met) to v
        best_counts n = first_best shape laws chain w.way known.follows.can.rising (place w.met) (place w.met) (place w.met) w.sliding to v
            (counts_of w.trend n at_hand.1).stands (at_most_itself (place w.met)) known.at inside gives

        -- and the best of what lies before the piece that it climbs
        pub climbs_at : (g : w.trend ≡ Greater) → (c : Place) × ClimbsAt shape chain w.way (record { until = w.met; shape = p }) c to
            × BestTo shape chain w.way c to v
        climbs_at g =
            let h = subst (λ t. StandsBy shape chain w.way (record { until = w.met; shape = p }) t w.sliding) g at_hand.1 in (
              h.begin,
              record {
                can = known.follows.can;
                within = known.follows.within;
                some = at_hand.0;
                is = h.hand.is;
                rises = h.rises;
                entered = h.entered to (after_same (before_time to) (stop w.sliding.out) to (same_places known.at) (le_refl to)) inside;
                near = known.climbs g;
                inside = inside;
                time = at_within;
              },
              first_best shape laws chain w.way known.follows.can.rising h.begin (place w.met) h.begin w.sliding to v h.keeps (at_most_itself h.begin)
                  known.at inside gives,
            )

    -- what is moved in a step is moved by an offset
    pub at_moved : (p : P) → IsOfSteps w.sliding.steps.items p ⊎ (shape.moves p ≡ false) → IsMovedTo shape chain w.way.over (place w.way.to) p
    at_moved p (inl h) = known.follows.plays.moved p h
    at_moved p (inr still) = λ m. absurd (false≢true (sym still ∙ m))

  -- the best of what was met is the best of what is seen
  module _ (laws : ShapeLaws shape) (rising : Rise chain.from chain.pieces) (w : Stream P) (to : Rational) where
    -- all was met that is seen
    pub best_all : (v : Extended) → (¬ Before (place w.met) (high_place w.way.over.high w.way.over.high_in to)) ⊎ (place w.met ≡ stop chain)
        → BestTo shape chain w.way (place w.met) to v → Best shape chain w.way to v
    best_all v (inl n) best = all_seen shape laws chain w.way rising (place w.met) to v n best
    best_all v (inr e) best =
        all_met shape laws chain w.way rising to v (subst (λ c. BestTo shape chain w.way c to v) e best)

    -- or nothing is seen
    pub best_blind : (v : Extended) → ((t u : Rational) → ¬ Sees w.way.over t u) → BestTo shape chain w.way (place w.met) to v → Best shape chain w.way to v
    best_blind v blind best = best_over w.way.side shape.lowest shape.highest (Sees w.way.over to) (IsWorth shape chain) v
        (best_alike (λ x m. absurd (blind to m.0 m.1.0)) (λ x m. absurd (blind to m.0 m.1))
        (to_best shape laws chain w.way rising (place w.met) to v best))
