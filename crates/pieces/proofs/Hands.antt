-- A window over a function that comes piece by piece: where the piece at hand ends, how it counts further, and what is told.
use Rattle.std.proofs.Common.{◌≡◌, ◌⊎◌, inl, inr, refl, sym, subst, IsTrue, ◌∷◌, List, Some, None}
use Rattle.std.specs.Prelude.{◌-ℤ◌, MatchBool}
use Rattle.std.proofs.lemmas.Bool.{false≢true}
use Rattle.std.specs.declared.cmp.Ordering.{Ordering}
use Rattle.std.specs.declared.cmp.Ordering.TheVariants.{Less, Equal, Greater}
use Rattle.rational.specs.Rational.{add, whole}
use Rattle.rational.specs.Time.{Rational, ◌≤ʳ◌, ◌<ʳ◌, ◌≈◌}
use Rattle.rational.specs.Extended.{Affine, Extended, value_at, ◌≈ᵉ◌}
use Rattle.rational.specs.Affine.{AreSame}
use Rattle.rational.specs.InPlay.{IsBreakpoint, IsPart}
use Rattle.rational.specs.Places.{Place, After, Upto, Before, AtMost, Same}
use Rattle.rational.proofs.Order.{ge_of_same, le_of_lt, le_of_same, le_refl, le_trans, lt_of_le_of_lt, lt_of_lt_of_le, not_lt_of_le, same_of_le}
use Rattle.rational.proofs.Order.{same_sym, same_trans}
use Rattle.rational.proofs.Shift.{le_shift}
use Rattle.rational.proofs.AffineLemmas.{same_reflᵉ, value_same}
use Rattle.rational.proofs.LimitLemmas.{HasOneValue, earlier_end, later_end, line_on_part, lines_same}
use Rattle.rational.proofs.Sames.{symᵉ, transᵉ}
use Rattle.rational.proofs.PlaceLemmas.{after_at_most, after_same, at_most_of_not_before, before_of_at_most, before_trans, le_of_at_most}
use Rattle.rational.proofs.PlaceLemmas.{before_same, between, le_of_before, not_before_itself, place_order, same_before, same_places, sides, upto_of_before}
use Rattle.frac128.specs.Cuts.{place}
use Rattle.frac128.specs.declared.cut.Cut.{Cut}
use Rattle.value_laws.specs.Members.{ShapeOf, ShapeLaws}
use Rattle.pl_signal.specs.declared.joining.Side.{Side}
use Rattle.pieces.specs.declared.piece.Piece.{Piece}
use Rattle.pieces.specs.declared.reach.Way.{Way}
use Rattle.pieces.specs.declared.sliding.Sliding.{Sliding}
use Rattle.pieces.specs.declared.steps.Step.{Step}
use Rattle.pieces.specs.Best.{GetsNoBetter, IsBetter, IsNoWorse, none_of}
use Rattle.pieces.specs.Chains.{Chain, IsWorth, Rise, Tells, end, stop}
use Rattle.pieces.specs.Hands.{ClimbsAt, EndsHand, FirstGives, GoesFurther, GoesOnAs, HasClimbed, HasRested, IsTaken, Leaves}
use Rattle.pieces.specs.Hands.{TellsClimb, TellsRest, far_place}
use Rattle.pieces.specs.Meeting.{HasMet, Meets, Rises}
use Rattle.pieces.specs.Over.{IsMovedTo}
use Rattle.pieces.specs.Sliding.{HasTold, last_end}
use Rattle.pieces.specs.Steps.{AreSteps, Gives, HasSlid, StepsGive, step_end, steps_end}
use Rattle.pieces.specs.Causes.{HasPassed}
use Rattle.pieces.specs.Streaming.{Climbs, Counts, Rests, StandsBy, before_time}
use Rattle.pieces.specs.Windows.{Best, BestOver, BestTo, IsLeft, IsNonEmpty, IsPieceFrom, Keeps, MayClimb, Sees, Stands, high_place, low_place}
use Rattle.pieces.proofs.Bests.{IsBest, Values, best_alike, best_over, best_union, best_value, better_alike, better_is_first, nw_same, nw_trans}
use Rattle.pieces.proofs.Ends.{after_le, after_of_lt, after_time_same, at_most_itself, at_most_of_before, at_most_of_same, at_most_trans, here_after}
use Rattle.pieces.proofs.Ends.{here_upto, upto_le}
use Rattle.pieces.proofs.Ends.{earlier_upto, same_place, upto_of_lt, upto_time_same}
use Rattle.pieces.proofs.CountsInPlay.{fall_plays, low_comes}
use Rattle.pieces.proofs.PieceEnds.{keeps_climbed}
use Rattle.pieces.proofs.WindowGoesOn.{best_with_none, keeps_further, keeps_told, of_best, stands_slid, to_best}
use Rattle.pieces.proofs.OverWindow.{all_met, best_is_function}
use Rattle.pieces.proofs.InPlayCauses.{plays_slid, plays_told}
use Rattle.pieces.proofs.SeenBest.{BestOf, OfPiece, all_seen, falling_before, floor, later_place, met_more, met_nothing, none, none_seen, rising_past}
use Rattle.pieces.proofs.SeenBest.{rising_within}
use Rattle.pieces.proofs.ChainsTell.{rising_is_function}
use Rattle.pieces.proofs.ChainsTell.{told as tells}
use Rattle.pieces.proofs.WindowEnds.{room_in}

-- a place comes before another, or not
pub before_or_not : (c d : Place) → Before c d ⊎ (¬ Before c d)
before_or_not c d = by_order (place_order c d)
  where
    by_order : Before c d ⊎ Same c d ⊎ Before d c → Before c d ⊎ (¬ Before c d)
    by_order (inl h) = inl h
    by_order (inr (inl h)) = inr (λ b. not_before_itself c (before_same c d c b (same_places h)))
    by_order (inr (inr h)) = inr (λ b. not_before_itself c (before_trans c d c b h))

-- a place that just before a time does not come before has passed at the time
pub before_here : (t : Rational) (e : Place) → ¬ Before (before_time t) e → After e t
before_here t e n = after_at_most e (before_time t) t (at_most_of_not_before e (before_time t) n) (le_refl t)

part_at : (F : Rational → Extended → Type 0) {u v : Rational} (line : Affine) → u ≈ v → IsPart F v line → IsPart F u line
part_at F line same part = record {
  a = part.a;
  b = part.b;
  above = lt_of_lt_of_le part.above (ge_of_same same);
  below = lt_of_le_of_lt (le_of_same same) part.below;
  on = part.on;
}

-- a breakpoint, by another way to write its time
pub breakpoint_at_time : (F : Rational → Extended → Type 0) (from to : Rational) {u v : Rational} → u ≈ v → IsBreakpoint F from to u
    → IsBreakpoint F from to v
breakpoint_at_time F from to same (IsBreakpoint.start h) = IsBreakpoint.start (same_trans (same_sym same) h)
breakpoint_at_time F from to same (IsBreakpoint.stop h) = IsBreakpoint.stop (same_trans (same_sym same) h)
breakpoint_at_time F from to same (IsBreakpoint.inner inside never) = IsBreakpoint.inner
    (record { above = le_trans inside.above (le_of_same same); below = le_trans (ge_of_same same) inside.below })
    (λ line part. never line (part_at F line same part))

module _ {P : Type 0} (shape : ShapeOf P) (chain : Chain P) (rising : Rise chain.from chain.pieces) where
  -- a chain has a breakpoint where a piece does not go on as the next
  pub breaks_between : (c : Place) (p q : Piece P) → IsPieceFrom shape chain c p
      → IsBreakpoint (IsWorth shape chain) chain.from.at (stop chain).at c.at → IsPieceFrom shape chain (end p) q
      → ¬ GoesOnAs shape p.shape (end p) q → IsBreakpoint (IsWorth shape chain) chain.from.at (stop chain).at (end p).at
  breaks_between c p q is breaks next differs = by_order is.order
    where
      F : Rational → Extended → Type 0
      F = IsWorth shape chain

      m : Rational
      m = (end p).at

      one : HasOneValue F
      one t v w a b = (rising_is_function shape chain rising).one t v w a b

      left : c.at <ʳ m → (line : Affine) → IsPart F m line → AreSame (shape.function p.shape) line
      left g line part =
          let l = later_end part.above g in
          lines_same F (shape.function p.shape) line one l.1
          (line_on_part F (shape.function p.shape) l.3 (le_refl m) (λ t x y. (
            value_at (shape.function p.shape) t,
            is.worth t (after_of_lt c t x) (upto_of_lt (end p) t y),
            same_reflᵉ (value_at (shape.function p.shape) t),
          )))
          (line_on_part F line l.2 (le_of_lt part.below) part.on)

      right : m <ʳ (end q).at → (line : Affine) → IsPart F m line → AreSame line (shape.function q.shape)
      right g line part =
          let l = earlier_end part.below g in
          lines_same F line (shape.function q.shape) one l.1
          (line_on_part F line (le_of_lt part.above) l.2 part.on)
          (line_on_part F (shape.function q.shape) (le_refl m) l.3 (λ t x y. (
            value_at (shape.function q.shape) t,
            next.worth t (after_of_lt (end p) t x) (upto_of_lt (end q) t y),
            same_reflᵉ (value_at (shape.function q.shape) t),
          )))

      by_next : c.at <ʳ m → Before (end p) (end q) → (line : Affine) → ¬ IsPart F m line
      by_next g (inl h) line part = differs (inr (λ t. transᵉ (left g line part t) (right h line part t)))
      by_next g (inr (s, x, y)) line part = differs (inl (s, transᵉ (left g line part m) (here (part.on m part.above part.below))))
        where
          here : ((v : Extended) × F m v × (v ≈ᵉ value_at line m)) → value_at line m ≈ᵉ value_at (shape.function q.shape) m
          here (v, w, e) = transᵉ (symᵉ e) (one m v (value_at (shape.function q.shape) m) w
              (next.worth m (here_after (end p) x) (upto_time_same (end q) (end q).at m (same_sym s) (here_upto (end q) y))))

      by_order : Before c (end p) → IsBreakpoint F chain.from.at (stop chain).at m
      by_order (inr (s, x, y)) = breakpoint_at_time F chain.from.at (stop chain).at s breaks
      by_order (inl g) = IsBreakpoint.inner (record {
        above = le_trans (le_of_at_most chain.from c is.begins) (le_of_lt g);
        below = le_of_at_most (end p) (stop chain) is.ends;
      }) (by_next g next.order)

-- a piece that goes on is one
pub piece_joined : {P : Type 0} (shape : ShapeOf P) (chain : Chain P) (c : Place) (p q : Piece P) → q.shape ≡ p.shape → IsPieceFrom shape chain c p
    → IsPieceFrom shape chain (end p) q → IsPieceFrom shape chain c q
piece_joined shape chain c p q same is more = record {
  order = before_trans c (end p) (end q) is.order more.order;
  begins = is.begins;
  ends = more.ends;
  worth = λ t a u. elim (sides (end p) t) [
    | inl k ↦ subst (λ s. IsWorth shape chain t (value_at (shape.function s) t)) (sym same) (is.worth t a k)
    | inr k ↦ more.worth t k u
  ];
  has = more.has;
}

-- what does not climb counts
pub counts_of : {P : Type 0} {shape : ShapeOf P} {chain : Chain P} {way : Way} {piece : Piece P} {s : Sliding P} (trend : Ordering) → ¬ (trend ≡ Greater)
    → StandsBy shape chain way piece trend s → Counts shape chain way piece s
counts_of Less n h = h
counts_of Equal n h = h
counts_of Greater n h = absurd (n refl)

pub stands_counts : {P : Type 0} {shape : ShapeOf P} {chain : Chain P} {way : Way} {piece : Piece P} {s : Sliding P} (trend : Ordering)
    → ¬ (trend ≡ Greater) → Counts shape chain way piece s → StandsBy shape chain way piece trend s
stands_counts Less n h = h
stands_counts Equal n h = h
stands_counts Greater n h = absurd (n refl)

module _ {P : Type 0} {shape : ShapeOf P} {chain : Chain P} {way : Way} {piece : Piece P} {s : Sliding P} where
  -- a piece that counts and ends was met
  pub ends_met : (trend : Ordering) → ¬ (trend ≡ Greater) → EndsHand shape chain way piece trend s → HasMet shape chain way (end piece) s
  ends_met trend n known =
      let counts : Counts shape chain way piece s = counts_of trend n known.hand in
      let is = counts.hand.is in
      record {
        can = known.on.can;
        to = known.on.to;
        within = known.on.within;
        begins = at_most_trans chain.from counts.begin (end piece) is.begins (at_most_of_before counts.begin (end piece) is.order);
        ends = is.ends;
        stands = counts.stands;
        plays = known.on.plays;
      }

  -- one that is climbed rises to its end
  pub ends_rises : (known : EndsHand shape chain way piece Greater s) → Rises shape chain way known.hand.begin piece s
  ends_rises known = record {
    can = known.on.can;
    to = known.on.to;
    within = known.on.within;
    some = known.some;
    piece = known.hand.hand.is;
    breaks = known.last;
    ahead = known.ahead;
    keeps = known.hand.keeps;
    entered = known.hand.entered;
    plays = known.on.plays;
  }

-- the piece at hand ends where another comes
pub leaves_ends : {P : Type 0} {shape : ShapeOf P} {chain : Chain P} {way : Way} {met : Cut} {trend : Ordering} {s : Sliding P} (p : P)
    → Leaves shape chain way (Some p) trend met s → EndsHand shape chain way (record { until = met; shape = p }) trend s
leaves_ends p known = record { on = known.on; some = known.some; hand = known.counts.1; last = known.last; ahead = known.ahead }

-- before a piece comes the window has met nothing
pub leaves_met : {P : Type 0} {shape : ShapeOf P} {chain : Chain P} {way : Way} {met : Cut} {trend : Ordering} {s : Sliding P} → ShapeLaws shape
    → Leaves shape chain way None trend met s → HasMet shape chain way (place met) s
leaves_met {shape = shape} {chain} {way} {met} {trend} {s} laws known =
    let rests = known.counts.0 in
    record {
      can = known.on.can;
      to = known.on.to;
      within = known.on.within;
      begins = known.begins;
      ends = known.ends;
      stands = keeps_further shape laws chain way known.on.can.rising (place met) rests.reach (place met) (place met) s (rests.early known.goes)
          rests.keeps;
      plays = known.on.plays;
    }

-- what comes next is at hand: it counts
pub taken_counts : {P : Type 0} {shape : ShapeOf P} {chain : Chain P} {way : Way} {c : Place} {p : Piece P} {old new : Sliding P}
    → Meets shape chain way c p old → GetsNoBetter way.side (shape.function p.shape) → HasMet shape chain way (end p) new → HasPassed way (end p) new
    → Counts shape chain way p new
taken_counts {c = c} known falls met past = record {
  begin = c;
  hand = record { is = known.piece; breaks = known.breaks };
  falls = falls;
  stands = met.stands;
  past = past;
}

-- or it is climbed
pub taken_climbs : {P : Type 0} {shape : ShapeOf P} {chain : Chain P} {way : Way} {c : Place} {p : Piece P} {old : Sliding P} → ShapeLaws shape
    → Meets shape chain way c p old → MayClimb way.over way.side (shape.function p.shape) → Climbs shape chain way p old
taken_climbs {shape = shape} {chain} {way} {c} {p} {old} laws known rises = record {
  begin = c;
  hand = record { is = known.piece; breaks = known.breaks };
  rises = rises;
  keeps = keeps_further shape laws chain way known.can.rising c c (end p) c old (at_most_of_before c (end p) known.piece.order) known.stands;
  entered = known.entered;
}

-- a piece at hand goes on
module _ {P : Type 0} {shape : ShapeOf P} {chain : Chain P} {way : Way} {met : Cut} {piece : Piece P} {old : Sliding P} (laws : ShapeLaws shape) where
  pub further_climbs : GoesFurther shape chain way met piece Greater old → IsTaken shape chain way piece Greater old
  further_climbs known =
      let h = known.hand in
      record {
        hand = record {
          begin = h.begin;
          hand = record {
            is = piece_joined shape chain h.begin (record { until = met; shape = piece.shape }) piece refl h.hand.is known.more;
            breaks = h.hand.breaks;
          };
          rises = h.rises;
          keeps = keeps_further shape laws chain way known.on.can.rising h.begin (place met) (end piece) h.begin old
              (at_most_of_before (place met) (end piece) known.more.order) h.keeps;
          entered = h.entered;
        };
        plays = known.on.plays;
      }

  module _ (trend : Ordering) (n : ¬ (trend ≡ Greater)) (known : GoesFurther shape chain way met piece trend old) where
    counts : Counts shape chain way (record { until = met; shape = piece.shape }) old
    counts = counts_of trend n known.hand

    -- where it was seen, what comes of it is no better
    more_alike : (t : Rational) (v : Extended) → Before (low_place way.over.low way.over.low_in t) (place met) → BestTo shape chain way (place met) t v
        → BestTo shape chain way (end piece) t v
    more_alike t v l best = of_best shape laws chain way known.on.can.rising (end piece) t v (by_order (before_or_not (place met) high))
      where
        high : Place
        high = high_place way.over.high way.over.high_in t

        low : Place
        low = low_place way.over.low way.over.low_in t

        old_best : BestOf shape laws chain way known.on.can.rising (λ u. Sees way.over t u × Upto (place met) u) v
        old_best = to_best shape laws chain way known.on.can.rising (place met) t v best

        -- a time at which the piece was seen before
        seen : Before (place met) high → (u : Rational) × Sees way.over t u × Upto (place met) u × IsWorth shape chain u (value_at (shape.function piece.shape) u)
        seen h =
            let (b, later) = later_place counts.begin low in
            let (u, a, k) = between b (place met) (later.before (place met) counts.hand.is.order l) in
            let both = later.both u a in
            (u, (both.1, upto_of_before (place met) high u h k), k, counts.hand.is.worth u both.0 k)

        by_order : Before (place met) high ⊎ (¬ Before (place met) high)
            → BestOf shape laws chain way known.on.can.rising (λ u. Sees way.over t u × Upto (end piece) u) v
        by_order (inl h) = met_more shape laws chain way known.on.can.rising known.some (place met) piece known.more t old_best
            (falling_before shape laws chain way known.on.can.rising known.some (place met) piece known.more t counts.falls h l)
            (better_is_first way.side v (value_at (shape.function piece.shape) (place met).at) above)
          where
            above : IsNoWorse way.side v (value_at (shape.function piece.shape) (place met).at)
            above = let (u, s, k, w) = seen h in
                nw_trans (old_best.bound (value_at (shape.function piece.shape) u) (u, (s, k), w)) (counts.falls u (place met).at (upto_le (place met) u k))
        by_order (inr h) = best_alike
            (λ x m. (m.0, (m.1.0, upto_of_before (place met) (end piece) m.0 known.more.order m.1.1), m.2))
            (λ x m. (m.0, (m.1.0, at_most_of_not_before high (place met) h m.0 m.1.0.1), m.2)) old_best

    -- its steps give the best of what it comes to
    stands_more : Stands shape chain way (end piece) (place met) old
    stands_more = let st = counts.stands in record {
      normal = st.normal;
      on = st.on;
      upto = st.upto;
      told = st.told;
      steps = st.steps;
      gives = λ t v g. more_alike t v (st.sees t v g).0 (st.gives t v g);
      sees = st.sees;
      none = st.none;
      reached = elim st.reached [
        | inl h ↦ inl h
        | inr h ↦ inr (λ t u b. h t u (before_trans (place met) (end piece) (high_place way.over.high way.over.high_in t) known.more.order b))
      ];
    }

    begun : (t : Rational) → After (last_end old) t → Upto (place way.to) t → Before (place met) (high_place way.over.high way.over.high_in t)
    begun t a u = before_of_at_most (place met) (low_place way.over.low way.over.low_in t) (high_place way.over.high way.over.high_in t)
        (at_most_of_not_before (place met) (low_place way.over.low way.over.low_in t) (counts.past t a u))
        (room_in way.over.low way.over.high way.over.low_in way.over.high_in t known.some)

    pub further_counts : (new : Sliding P) → new.out ≡ old.out → (slope : P) (e : Place) → IsLeft way (end piece) e
        → ((t : Rational) → value_at (shape.function slope) t ≈ᵉ value_at (shape.function piece.shape) (add t (whole way.over.low)))
        → (Before (last_end old) e → IsMovedTo shape chain way.over (place way.to) slope)
        → HasSlid shape way.side (stop old.out) old.steps.items slope e new.steps.items → IsTaken shape chain way piece trend new
    further_counts new out slope e left moved base slid = record {
      hand = stands_counts trend n (record {
        begin = counts.begin;
        hand = record {
          is = piece_joined shape chain counts.begin (record { until = met; shape = piece.shape }) piece refl counts.hand.is known.more;
          breaks = counts.hand.breaks;
        };
        falls = counts.falls;
        stands = stands_slid shape laws chain way known.on.can.rising known.some (place met) piece known.more old new stands_more out begun
            counts.past slope e counts.falls moved slid left.upto left.after;
        past = λ t a u. left.after t (slid.past t (subst (λ o. After (steps_end (stop o) new.steps.items) t) out a)).0 u;
      });
      plays = plays_slid shape chain way.over (place way.to) way.side old new known.on.plays out slope e base
          (fall_plays shape chain way.over known.on.can.rising known.on.can.small known.some (place met) piece known.more (last_end old) e
          (λ t a u. counts.past t a (left.upto t u).1) (λ t a u. (left.upto t u).0) (shape.function slope) moved) slid;
    }

    -- the base of the slope that follows
    pub further_base : (slope : P) (e : Place) → IsLeft way (end piece) e
        → (IsTrue (shape.moves slope) → IsTrue (shape.moves piece.shape) × (shape.base slope ≡ shape.base piece.shape -ℤ way.over.low))
        → Before (last_end old) e → IsMovedTo shape chain way.over (place way.to) slope
    further_base slope e left base order m = let b = base m in (
      piece.shape,
      known.more.has,
      b.0,
      inr (
        b.1,
        low_comes shape chain way.over (place way.to) (place met) (last_end old) e (le_of_at_most chain.from (place met) known.more.begins) order
            (λ t u. (left.upto t u).1) counts.past,
      ),
    )

-- what is told
module _ {P : Type 0} {shape : ShapeOf P} {chain : Chain P} {way : Way} {upto : Place} {old new : Sliding P} (laws : ShapeLaws shape)
    (gap : P) (told : HasTold shape way.side gap old new) (ends : Same (stop new.out) upto) where
  -- by its steps alone
  module _ (met reach : Place) (known : TellsRest shape chain way met reach upto old)
      (is : (t : Rational) → value_at (shape.function gap) t ≈ᵉ none_of way.side shape.lowest shape.highest) (still : IsMovedTo shape chain way.over (place way.to) gap) where
    in_way : (t : Rational) → Upto (stop new.out) t → Upto (place way.to) t
    in_way t u = known.on.to t (known.inside t (at_most_of_same (stop new.out) upto ends t u))

    tells_best : (t : Rational) (v : Extended) → IsWorth shape new.out t v → Best shape chain way t v
    tells_best t v w = elim (told.worth t v w) [
      | inl k ↦ known.keeps.told t v k
      | inr (a, u, b) ↦ (let best = best_with_none shape laws chain way known.on.can.rising met reach met gap old known.keeps (at_most_itself met) is t v
          (in_way t u) b in
          elim known.all [
            | inl n ↦ all_seen shape laws chain way known.on.can.rising met t v (n t (at_most_of_same (stop new.out) upto ends t u)) best
            | inr e ↦ all_met shape laws chain way known.on.can.rising t v (subst (λ c. BestTo shape chain way c t v) e best)
          ])
    ]

    upto_end : AtMost (stop new.out) (stop chain)
    upto_end t u = known.inside t (at_most_of_same (stop new.out) upto ends t u)

    -- as far as it has told its high end has come no further than there
    far : (t : Rational) → Upto (stop new.out) t → ¬ Before (far_place way upto) (high_place way.over.high way.over.high_in t)
    far t u (inl l) = not_lt_of_le (le_shift way.over.high (upto_le upto t (at_most_of_same (stop new.out) upto ends t u))) l
    far t u (inr (e, x, y)) = false≢true (sym x)

    pub has_rested : HasRested shape chain way met upto new
    has_rested = record {
      keeps = keeps_told shape laws chain way known.on.can.rising met reach met gap old new known.keeps told (far_place way upto) upto_end tells_best
          (inr far);
      near = λ n. keeps_told shape laws chain way known.on.can.rising met reach met gap old new known.keeps told met upto_end tells_best
          (inr (λ t u. n t (at_most_of_same (stop new.out) upto ends t u)));
      plays = plays_told shape chain way.over (place way.to) way.side old new known.on.plays gap still told;
    }

  -- and under the piece that is climbed
  pub has_climbed : (piece : Piece P) (known : TellsClimb shape chain way piece upto old)
      → ((t : Rational) → value_at (shape.function gap) t ≈ᵉ value_at (shape.function piece.shape) (add t (whole way.over.high)))
      → IsMovedTo shape chain way.over (place way.to) gap → HasClimbed shape chain way piece new
  has_climbed piece known moved base = let h = known.hand in record {
    hand = record {
      begin = h.begin;
      hand = h.hand;
      rises = h.rises;
      keeps = keeps_climbed shape laws chain way known.on.can.rising known.some h.begin piece h.hand.is old h.keeps h.entered h.rises gap new moved told
          (λ t u. known.inside t (at_most_of_same (stop new.out) upto ends t u)) (λ t u. known.on.to t (known.inside t (at_most_of_same (stop new.out) upto ends t u))) (λ t u. known.all t (at_most_of_same (stop new.out) upto ends t u));
      entered = λ t a u. h.entered t (after_at_most (stop old.out) (stop new.out) t told.on a) u;
    };
    plays = plays_told shape chain way.over (place way.to) way.side old new known.on.plays gap base told;
  }

-- what a window has told since it was restarted is the best from there on
pub tells_from : {P : Type 0} (shape : ShapeOf P) (laws : ShapeLaws shape) (chain : Chain P) (way : Way) (rising : Rise chain.from chain.pieces)
    (met reach left from to : Place) (s : Sliding P) → Keeps shape chain way met reach left s → s.out.from ≡ from → Same (stop s.out) to
    → Tells shape (BestOver shape chain way.over way.side) from to s.out
tells_from shape laws chain way rising met reach left from to s keeps begins ends =
    tells shape (Best shape chain way) from to s.out (best_is_function shape laws chain way rising)
    (record { normal = keeps.normal; worth = keeps.told }) (subst (λ c. Same s.out.from c) begins (same_place s.out.from)) ends

-- a window that has told up to a place rests there
pub rests_on : {P : Type 0} {shape : ShapeOf P} {chain : Chain P} {way : Way} {met reach upto : Place} {old new : Sliding P}
    → TellsRest shape chain way met reach upto old → HasRested shape chain way met upto new → Rests shape chain way met new
rests_on {way = way} {met} {reach} {upto} known has = elim known.all [
  | inl n ↦ record { reach = met; keeps = has.near n; early = λ b. at_most_itself met }
  | inr e ↦ record { reach = far_place way upto; keeps = has.keeps; early = λ b. absurd (not_before_itself met (subst (λ c. Before met c) (sym e) b)) }
]

-- what the first step gives, steps give
pub first_gives : {P : Type 0} (shape : ShapeOf P) (side : Side) (from : Place) (xs rest : List (Step P)) (first : Step P) (t : Rational) (v : Extended)
    → xs ≡ first ∷ rest → AreSteps shape side from xs → Same from (before_time t) → Gives shape side first t v → FirstGives shape side from xs t v
first_gives shape side from xs rest first t v are steps at gives = inr (subst (λ ys. StepsGive shape side from ys t v) (sym are) (inl (
  after_same (before_time t) from t (same_places at) (le_refl t),
  earlier_upto (before_time t) (step_end first) (same_before (before_time t) from (step_end first) (same_places at)
      (subst (AreSteps shape side from) are steps).0.later),
  gives,
)))

-- the best at the time just before which the steps begin
module _ {P : Type 0} (shape : ShapeOf P) (laws : ShapeLaws shape) (chain : Chain P) (way : Way) (rising : Rise chain.from chain.pieces) where
  pub first_best : (met reach left : Place) (s : Sliding P) (t : Rational) (v : Extended) → Keeps shape chain way met reach left s → AtMost met left
      → Same (stop s.out) (before_time t) → Upto (place way.to) t → FirstGives shape way.side (stop s.out) s.steps.items t v
      → BestTo shape chain way met t v
  first_best met reach left s t v keeps most at inside (inr g) = keeps.gives t v g
  first_best met reach left s t v keeps most at inside (inl (nothing, is)) = of_best shape laws chain way rising met t v
      (best_value (symᵉ is) (none_seen shape laws chain way rising met t (λ x y see k. keeps.none t after inside x y see (most x k))))
    where
      after : After (last_end s) t
      after = subst (λ xs. After (steps_end (stop s.out) xs) t) (sym nothing) (after_same (before_time t) (stop s.out) t (same_places at) (le_refl t))

  -- with what is seen of a piece that is climbed
  module _ (piece : Piece P) (c : Place) (t : Rational) (known : ClimbsAt shape chain way piece c t) where
    -- which is its value at the high end
    seen_climb : Before (low_place way.over.low way.over.low_in t) (end piece)
        → BestOf shape laws chain way rising (OfPiece shape laws chain way rising known.some c piece known.is t) (value_at (shape.function piece.shape) (add t (whole way.over.high)))
    seen_climb l = elim (before_or_not (end piece) (high_place way.over.high way.over.high_in t)) [
      | inl h ↦ best_value (value_same (shape.function piece.shape) (same_of_le (le_of_before (end piece) (high_place way.over.high way.over.high_in t) h) known.near))
          (rising_past shape laws chain way rising known.some c piece known.is t known.rises l h)
      | inr n ↦ rising_within shape laws chain way rising known.some c piece known.is t known.rises known.entered n
    ]

    pub climbed_best : (v w : Extended) (gap : P) → Before (low_place way.over.low way.over.low_in t) (end piece)
        → ((t : Rational) → value_at (shape.function gap) t ≈ᵉ value_at (shape.function piece.shape) (add t (whole way.over.high)))
        → IsBetter way.side v (value_at (shape.function gap) t) w → BestTo shape chain way c t v → BestTo shape chain way (end piece) t w
    climbed_best v w gap l moved better best = of_best shape laws chain way rising (end piece) t w
        (met_more shape laws chain way rising known.some c piece known.is t (to_best shape laws chain way rising c t v best) (seen_climb l)
        (better_alike (same_reflᵉ v) (moved t) (same_reflᵉ w) better))

    pub climbed_past : (v : Extended) → ¬ Before (low_place way.over.low way.over.low_in t) (end piece) → BestTo shape chain way c t v
        → BestTo shape chain way (end piece) t v
    climbed_past v n best = of_best shape laws chain way rising (end piece) t v
        (met_nothing shape laws chain way rising known.some c piece known.is t n (to_best shape laws chain way rising c t v best))

  -- with the one time that was not met
  pub last_best : (some : IsNonEmpty way.over) (met : Place) (t : Rational) (p : P) (v w : Extended) → Same met (before_time (add t (whole way.over.high)))
      → IsTrue way.over.high_in → IsWorth shape chain (add t (whole way.over.high)) (value_at (shape.function p) (add t (whole way.over.high)))
      → BestTo shape chain way met t v → IsBetter way.side v (value_at (shape.function p) (add t (whole way.over.high))) w
      → Best shape chain way t w
  last_best some met t p v w here inside worth best better = best_over way.side shape.lowest shape.highest (Sees way.over t) (IsWorth shape chain) w
      (best_union split (λ x m. (m.0, m.1.0, m.2)) (λ x m. (m.0, m.1.0, m.2)) (to_best shape laws chain way rising met t v best) one better)
    where
      u : Rational
      u = add t (whole way.over.high)

      x : Extended
      x = value_at (shape.function p) u

      Last : Rational → Type 0
      Last z = Sees way.over t z × After met z

      at_last : (z : Rational) → Last z → u ≈ z
      at_last z (see, a) = same_of_le (after_le (before_time u) z (after_same met (before_time u) z here a))
          (upto_le (high_place way.over.high way.over.high_in t) z see.1)

      is_worth : (z : Rational) (y : Extended) → Last z → IsWorth shape chain z y → x ≈ᵉ y
      is_worth z y m k = let F = rising_is_function shape chain rising in F.one z x y (F.alike u z x x (at_last z m) (same_reflᵉ x) worth) k

      sees_last : Last u
      sees_last = (
        (
          after_low (low_high_order some),
          subst (λ b. MatchBool b (u ≤ʳ u) (u <ʳ u)) (sym inside) (le_refl u),
        ),
        after_same (before_time u) met u (same_places here) (le_refl u),
      )
        where
          after_low : Before (low_place way.over.low way.over.low_in t) (high_place way.over.high way.over.high_in t) → After (low_place way.over.low way.over.low_in t) u
          after_low (inl l) = after_of_lt (low_place way.over.low way.over.low_in t) u l
          after_low (inr (s, a, b)) = after_time_same (low_place way.over.low way.over.low_in t) (add t (whole way.over.low)) u s
              (here_after (low_place way.over.low way.over.low_in t) a)

          low_high_order : IsNonEmpty way.over → Before (low_place way.over.low way.over.low_in t) (high_place way.over.high way.over.high_in t)
          low_high_order some = room_in way.over.low way.over.high way.over.low_in way.over.high_in t some

      one : IsBest way.side (none shape laws chain way rising) (Values Last (IsWorth shape chain)) x
      one = record {
        floor = floor shape laws chain way rising p u;
        bound = λ y m. nw_same way.side (is_worth m.0 y m.1 m.2);
        reached = λ y k l. (x, (u, sees_last, worth), l);
      }

      split : (y : Extended) → Values (Sees way.over t) (IsWorth shape chain) y
          → Values (λ z. Sees way.over t z × Upto met z) (IsWorth shape chain) y ⊎ Values Last (IsWorth shape chain) y
      split y (z, s, k) = elim (sides met z) [ inl m ↦ inl (z, (s, m), k) | inr m ↦ inr (z, (s, m), k) ]
