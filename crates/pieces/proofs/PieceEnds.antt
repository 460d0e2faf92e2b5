-- A window that meets a piece: where the piece and what was told lie, and what holds of that end of the piece at which it is best.
use Rattle.std.proofs.Common.{◌≡◌, ◌^◌, ℤ, pos, inl, inr, [], refl, sym, subst}
use Rattle.rational.specs.Rational.{IsWithin, middle}
use Rattle.rational.specs.Time.{Rational, ◌≤ʳ◌, ◌<ʳ◌, add, whole}
use Rattle.rational.specs.Extended.{value_at, ◌≈ᵉ◌}
use Rattle.rational.specs.Affine.{IsBounded}
use Rattle.rational.specs.Places.{Place, Upto, Before, Same, AtMost}
use Rattle.rational.proofs.Mixed.{within_between}
use Rattle.rational.proofs.Order.{le_of_lt, le_or_lt, le_refl, le_trans, left_of_middle, lt_of_le_of_lt, not_lt_of_le, right_of_middle}
use Rattle.rational.proofs.Shift.{le_shift, lt_shift}
use Rattle.rational.proofs.PlaceLemmas.{after_at_most, after_same, before_of_at_most, le_of_at_most, le_of_before}
use Rattle.frac128.specs.Value.{value}
use Rattle.frac128.specs.Cuts.{place}
use Rattle.frac128.specs.declared.frac.Frac.{Frac}
use Rattle.value_laws.specs.Members.{ShapeOf, ShapeLaws}
use Rattle.courses.specs.Courses.{IsValueFault}
use Rattle.pl_signal.specs.declared.faults.WidePair.{WidePair}
use Rattle.pl_signal.specs.declared.faults.OpFault.TheVariants as F
use Rattle.pieces.specs.declared.piece.Piece.{Piece}
use Rattle.pieces.specs.declared.reach.Reach.{Reach}
use Rattle.pieces.specs.declared.reach.Way.{Way}
use Rattle.pieces.specs.declared.sliding.Sliding.{Sliding}
use Rattle.pieces.specs.Best.{GetsNoBetter, GetsNoWorse}
use Rattle.pieces.specs.Chains.{Chain, Rise, end, stop}
use Rattle.pieces.specs.Meeting.{GoesPast, HasMet, HeldBetween, Holds, IsBelow, IsHeldFault, Meets, Passes, Reaches, Rises}
use Rattle.pieces.specs.Over.{IsMovedTo, Plays}
use Rattle.pieces.specs.Sliding.{HasTold}
use Rattle.pieces.specs.Steps.{FallOff}
use Rattle.pieces.specs.Windows.{CanSlide, HasEntered, IsLeft, IsNonEmpty, IsPieceFrom, IsReached, Keeps, MayClimb, Stands, high_place, low_place}
use Rattle.pieces.proofs.CountsInPlay.{best_plays}
use Rattle.pieces.proofs.Ends.{at_most_of_before, at_most_of_same, at_most_trans, upto_of_lt}
use Rattle.pieces.proofs.BestEnd.{best_begins, best_bounded, best_ends, best_with_rise, best_within, limit_before}
use Rattle.pieces.proofs.WindowGoesOn.{falls_off, keeps_further, keeps_told, tells_more}
use Rattle.pieces.proofs.Ones.{no_steps, stands_one}
use Rattle.pieces.proofs.InPlayCauses.{plays_told}

-- what is earlier once both are moved is earlier
pub lt_of_moved : (a b : Rational) (k : ℤ) → add a (whole k) <ʳ add b (whole k) → a <ʳ b
lt_of_moved a b k h = elim (le_or_lt b a) [ inl l ↦ absurd (not_lt_of_le (le_shift k l) h) | inr l ↦ l ]

module _ {P : Type 0} {shape : ShapeOf P} {chain : Chain P} {c : Place} {p : Piece P} where
  -- a piece ends in the domain
  pub piece_begun : IsPieceFrom shape chain c p → AtMost chain.from (end p)
  piece_begun is = at_most_trans chain.from c (end p) is.begins (at_most_of_before c (end p) is.order)

  -- at a time from 0 on
  pub piece_first : {over : Reach} → CanSlide shape chain over → IsPieceFrom shape chain c p → whole (pos 0) ≤ʳ (end p).at
  piece_first can is = le_trans can.first (le_of_at_most chain.from (end p) (piece_begun is))

  -- and up to 2^32
  pub piece_last : {over : Reach} → CanSlide shape chain over → IsPieceFrom shape chain c p → (end p).at ≤ʳ whole (pos (2 ^ 32))
  piece_last can is = le_trans (le_of_at_most (end p) (stop chain) is.ends) can.last

-- where a window's high end does not lie behind a place, it is no later
pub high_upto : (over : Reach) (c : Place) (t : Rational) → ¬ Before c (high_place over.high over.high_in t) → add t (whole over.high) ≤ʳ c.at
high_upto over c t n = elim (le_or_lt (add t (whole over.high)) c.at) [ inl h ↦ h | inr h ↦ absurd (n (inl h)) ]

-- the place up to which a window does not reach past another is no later than a time from which it reaches as far
pub reached_narrow : (way : Way) (c e : Place) (out : Rational) → IsReached way c e → c.at ≤ʳ add out (whole way.over.high) → e.at ≤ʳ out
reached_narrow way c e out reached narrow = elim (le_or_lt e.at out) [
  | inl h ↦ h
  | inr h ↦ (let m = middle out e.at in
      absurd (not_lt_of_le (le_trans (high_upto way.over c m (reached.before m (upto_of_lt e m (right_of_middle h)))) narrow)
      (lt_shift way.over.high (left_of_middle h))))
]

module _ {P : Type 0} (shape : ShapeOf P) (chain : Chain P) (way : Way) (c e : Place) (reached : IsReached way c e) where
  -- the place up to which a window does not reach past another lies in a chain that goes past that
  pub reach_within : Reaches shape chain way c → AtMost e (stop chain)
  reach_within ahead t u = elim ahead [
    | inl most ↦ most t (reached.upto t u)
    | inr early ↦ upto_of_lt (stop chain) t (lt_of_moved t (stop chain).at way.over.high
        (lt_of_le_of_lt (high_upto way.over c t (reached.before t u)) early))
  ]

  -- and lies no later than a time at which the window reaches past that
  pub reach_below : (limit : Rational) → IsBelow shape chain way limit c.at → e.at ≤ʳ limit
  reach_below limit below = elim below.1 [
    | inl h ↦ le_trans (le_of_at_most e (place way.to) reached.upto) h
    | inr h ↦ le_of_lt (lt_of_moved e.at limit way.over.high (lt_of_le_of_lt (limit_before c.at e.at way.over.high
        (λ t l. high_upto way.over c t (reached.before t (upto_of_lt e t l)))) h.1))
  ]

module _ {P : Type 0} (shape : ShapeOf P) (chain : Chain P) (way : Way) where
  -- a chain that goes past a place goes on to where the window reaches past it
  pub reaches_past : (c : Place) → GoesPast shape chain way c → Reaches shape chain way c
  reaches_past c (inl h) = inl h
  reaches_past c (inr h) = inr h.1

  -- and to a time that is later than its begin
  pub stop_below : (c : Place) → GoesPast shape chain way c → IsBelow shape chain way (stop chain).at c.at
  stop_below c past = (le_refl (stop chain).at, elim past [ inl h ↦ inl (le_of_at_most (place way.to) (stop chain) h) | inr h ↦ inr h ])

  -- so it is of what is no later
  pub below_sooner : (limit a b : Rational) → a ≤ʳ b → IsBelow shape chain way limit b → IsBelow shape chain way limit a
  below_sooner limit a b order below = (below.0, elim below.1 [ inl h ↦ inl h | inr h ↦ inr (h.0, lt_of_le_of_lt order h.1) ])

module _ {P : Type 0} {shape : ShapeOf P} {chain : Chain P} {way : Way} {met reach left : Place} {s : Sliding P} where
  -- where a window has told up to lies within limits
  pub told_within : CanSlide shape chain way.over → Keeps shape chain way met reach left s → IsWithin (2 ^ 34) (stop s.out).at
  told_within can keeps = within_between (2 ^ 34) can.limited.begins can.limited.ends (le_of_at_most chain.from (stop s.out) keeps.on)
      (le_of_at_most (stop s.out) (stop chain) keeps.upto)

  -- at a time from 0 on
  pub told_first : CanSlide shape chain way.over → Keeps shape chain way met reach left s → whole (pos 0) ≤ʳ (stop s.out).at
  told_first can keeps = le_trans can.first (le_of_at_most chain.from (stop s.out) keeps.on)

  -- and up to 2^32
  pub told_last : CanSlide shape chain way.over → Keeps shape chain way met reach left s → (stop s.out).at ≤ʳ whole (pos (2 ^ 32))
  told_last can keeps = le_trans (le_of_at_most (stop s.out) (stop chain) keeps.upto) can.last

module _ {P : Type 0} {shape : ShapeOf P} {chain : Chain P} {way : Way} {c : Place} {p : Piece P} {best : Place} {s : Sliding P}
    (laws : ShapeLaws shape) (known : Holds shape chain way c p best s) where
  -- the best end does not lie before the piece
  pub held_begins : AtMost c best
  held_begins = best_begins shape laws chain way known.can.rising c p known.piece best known.is_best

  -- nor behind it
  pub held_ends : AtMost best (end p)
  held_ends = best_ends shape laws chain way known.can.rising c p known.piece best known.is_best

  -- it lies in the domain
  pub held_after : AtMost chain.from best
  held_after = at_most_trans chain.from c best known.piece.begins held_begins

  pub held_before : AtMost best (stop chain)
  held_before = at_most_trans best (end p) (stop chain) held_ends known.piece.ends

  -- and within limits, as does the value there
  pub held_within : IsWithin (2 ^ 34) best.at
  held_within = best_within shape laws chain way known.can.rising c p known.piece best known.is_best known.can.limited

  pub held_bounded : IsBounded (2 ^ 31) (value_at (shape.function p.shape) best.at)
  held_bounded = best_bounded shape laws chain way known.can.rising c p known.piece best known.is_best known.can.limited

  -- later what the steps give is no better
  pub held_falls : FallOff shape way.side (stop s.out) s.steps.items
  held_falls = falls_off shape laws chain way known.can.rising c best c s known.keeps
      (λ t a u. before_of_at_most c best (high_place way.over.high way.over.high_in t) held_begins (known.entered t a u))

  module _ (until : Place) (left : IsLeft way best until) where
    -- meanwhile its constant is in play
    pub held_plays : HeldBetween shape chain way.over (stop s.out).at until.at best.at (value_at (shape.function p.shape) best.at)
    held_plays = best_plays shape chain way.over known.can.rising known.can.small known.some c p known.piece (stop s.out) until
        way.side best known.breaks known.is_best (λ t a u. known.entered t a (left.upto t u).1) (λ t a u. (left.upto t u).0)

    -- where its value is refused
    pub held_fault : (time : Frac) → value time ≡ best.at → (stop s.out).at <ʳ until.at → (pair : WidePair P)
        → IsValueFault shape p.shape time (F.Wide pair) → IsHeldFault shape chain way best.at pair
    held_fault time at order pair is = record {
      part = p.shape;
      time = time;
      a = (stop s.out).at;
      b = until.at;
      begins = le_of_at_most chain.from (stop s.out) known.keeps.on;
      order = order;
      early = elim known.keeps.reached [
        | inl h ↦ inl (le_of_at_most (stop s.out) chain.from h)
        | inr h ↦ inr (limit_before best.at (stop s.out).at way.over.high
            (λ t l. high_upto way.over best t (h t (upto_of_lt (stop s.out) t l))))
      ];
      upto = le_of_at_most until (place way.to) (λ t u. (left.upto t u).1);
      seen = λ tau a b. le_of_before (low_place way.over.low way.over.low_in tau) best (left.upto tau (upto_of_lt until tau b)).0;
      is = is;
      plays = subst (λ x. HeldBetween shape chain way.over (stop s.out).at until.at best.at (value_at (shape.function p.shape) x)) (sym at) held_plays;
    }

-- under a piece that it climbs the window tells the best, as far as its high end lies on the piece
module _ {P : Type 0} (shape : ShapeOf P) (laws : ShapeLaws shape) (chain : Chain P) (way : Way) (rising : Rise chain.from chain.pieces)
    (some : IsNonEmpty way.over) (c : Place) (p : Piece P) (is : IsPieceFrom shape chain c p) (old : Sliding P)
    (keeps : Keeps shape chain way c (end p) c old) (entered : HasEntered shape chain way c old)
    (trend : MayClimb way.over way.side (shape.function p.shape)) where
  pub keeps_climbed : (gap : P) (new : Sliding P)
      → ((t : Rational) → value_at (shape.function gap) t ≈ᵉ value_at (shape.function p.shape) (add t (whole way.over.high)))
      → HasTold shape way.side gap old new → AtMost (stop new.out) (stop chain) → AtMost (stop new.out) (place way.to)
      → ((t : Rational) → Upto (stop new.out) t → ¬ Before (end p) (high_place way.over.high way.over.high_in t))
      → Keeps shape chain way c (end p) c new
  keeps_climbed gap new moved told upto_end upto_way before =
      keeps_told shape laws chain way rising c (end p) c gap old new keeps told (end p) upto_end
      (tells_more shape laws chain way rising c (end p) c gap old new keeps told (end p) (λ t a u. before t u)
      (λ t v a u b. best_with_rise shape laws chain way rising c p is some gap old keeps entered trend moved
      t v a (upto_way t u) (before t u) b)) (inr before)

-- once it counts the window has met the pieces up to where it ends
pub met_piece : {P : Type 0} {shape : ShapeOf P} {chain : Chain P} {way : Way} {c : Place} {p : Piece P} {old new : Sliding P}
    → Meets shape chain way c p old → Stands shape chain way (end p) (end p) new → Plays shape chain way.over (place way.to) new
    → HasMet shape chain way (end p) new
met_piece known stands plays = record {
  can = known.can;
  to = known.to;
  within = known.within;
  begins = piece_begun known.piece;
  ends = known.piece.ends;
  stands = stands;
  plays = plays;
}

-- also one that it has climbed
pub met_climbed : {P : Type 0} {shape : ShapeOf P} {chain : Chain P} {way : Way} {c : Place} {p : Piece P} {old new : Sliding P}
    → Rises shape chain way c p old → Stands shape chain way (end p) (end p) new → Plays shape chain way.over (place way.to) new
    → HasMet shape chain way (end p) new
met_climbed known stands plays = record {
  can = known.can;
  to = known.to;
  within = known.within;
  begins = piece_begun known.piece;
  ends = known.piece.ends;
  stands = stands;
  plays = plays;
}

-- a piece that gets no better is held at its begin
pub holds_first : {P : Type 0} {shape : ShapeOf P} {chain : Chain P} {way : Way} {c : Place} {p : Piece P} {s : Sliding P}
    → GetsNoBetter way.side (shape.function p.shape) → Meets shape chain way c p s → Holds shape chain way c p c s
holds_first trend known = record {
  can = known.can;
  to = known.to;
  within = known.within;
  some = known.some;
  piece = known.piece;
  breaks = known.breaks;
  is_best = inl (refl, trend);
  keeps = known.stands;
  entered = known.entered;
  plays = known.plays;
}

-- what comes next is met
pub met_next : {P : Type 0} {shape : ShapeOf P} {chain : Chain P} {way : Way} {c : Place} {p : Piece P} {old new : Sliding P}
    → Passes shape chain way c p old → Stands shape chain way (end p) (end p) new → Plays shape chain way.over (place way.to) new
    → HasMet shape chain way (end p) new
met_next known stands plays = record {
  can = known.met.can;
  to = known.met.to;
  within = known.met.within;
  begins = piece_begun known.piece;
  ends = known.piece.ends;
  stands = stands;
  plays = plays;
}

-- where what comes next begins
module _ {P : Type 0} {shape : ShapeOf P} {chain : Chain P} {way : Way} {c : Place} {p : Piece P} {old : Sliding P}
    (known : Passes shape chain way c p old) where
  -- the chain goes past there
  pub ahead_here : Reaches shape chain way c
  ahead_here = elim known.ahead [
    | inl h ↦ inl h
    | inr h ↦ inr (lt_of_le_of_lt (le_of_before c (end p) known.piece.order) h.1)
  ]

  pub below_here : IsBelow shape chain way (stop chain).at c.at
  below_here = below_sooner shape chain way (stop chain).at c.at (end p).at (le_of_before c (end p) known.piece.order)
      (stop_below shape chain way (end p) known.ahead)

  -- a place within limits
  pub within_here : IsWithin (2 ^ 34) c.at
  within_here = within_between (2 ^ 34) known.met.can.limited.begins known.met.can.limited.ends (le_of_at_most chain.from c known.met.begins)
      (le_of_at_most c (stop chain) known.met.ends)

  -- once the window has told on, and reaches past there, it may count
  pub meets_entered : {new : Sliding P} → HasMet shape chain way c new → HasEntered shape chain way c new → Meets shape chain way c p new
  meets_entered {new} met entered = record {
    can = met.can;
    to = met.to;
    within = met.within;
    some = known.some;
    piece = known.piece;
    breaks = known.breaks.first;
    stands = met.stands;
    entered = entered;
    plays = met.plays;
  }

  -- or be climbed
  pub rises_entered : {new : Sliding P} → ShapeLaws shape → HasMet shape chain way c new → HasEntered shape chain way c new → Rises shape chain way c p new
  rises_entered {new} laws met entered = record {
    can = met.can;
    to = met.to;
    within = met.within;
    some = known.some;
    piece = known.piece;
    breaks = known.breaks.last;
    ahead = reaches_past shape chain way (end p) known.ahead;
    keeps = keeps_further shape laws chain way met.can.rising c c (end p) c new (at_most_of_before c (end p) known.piece.order) met.stands;
    entered = entered;
    plays = met.plays;
  }

  -- or held at its end, where the window reaches past that already
  pub holds_reached : ShapeLaws shape → GetsNoWorse way.side (shape.function p.shape) → HasEntered shape chain way (end p) old
      → Holds shape chain way c p (end p) old
  holds_reached laws trend entered = record {
    can = known.met.can;
    to = known.met.to;
    within = known.met.within;
    some = known.some;
    piece = known.piece;
    breaks = known.breaks.last;
    is_best = inr (refl, trend);
    keeps = keeps_further shape laws chain way known.met.can.rising c c (end p) c old (at_most_of_before c (end p) known.piece.order) known.met.stands;
    entered = entered;
    plays = known.met.plays;
  }

-- a piece that gets no worse is held at its end, once the window reaches past that
module _ {P : Type 0} {shape : ShapeOf P} {chain : Chain P} {way : Way} {c : Place} {p : Piece P} {old : Sliding P} (laws : ShapeLaws shape)
    (trend : GetsNoWorse way.side (shape.function p.shape)) (known : Rises shape chain way c p old) where
  -- as it may do already
  pub holds_past : HasEntered shape chain way (end p) old → Holds shape chain way c p (end p) old
  holds_past entered = record {
    can = known.can;
    to = known.to;
    within = known.within;
    some = known.some;
    piece = known.piece;
    breaks = known.breaks;
    is_best = inr (refl, trend);
    keeps = known.keeps;
    entered = entered;
    plays = known.plays;
  }

  module _ (gap : P) (new : Sliding P) (next : Place)
      (moved : (t : Rational) → value_at (shape.function gap) t ≈ᵉ value_at (shape.function p.shape) (add t (whole way.over.high)))
      (base : IsMovedTo shape chain way.over (place way.to) gap) (reached : IsReached way (end p) next) (told : HasTold shape way.side gap old new)
      (ends : Same (stop new.out) next) where
    upto_next : AtMost (stop new.out) next
    upto_next = at_most_of_same (stop new.out) next ends

    upto_end : AtMost (stop new.out) (stop chain)
    upto_end = at_most_trans (stop new.out) next (stop chain) upto_next (reach_within shape chain way (end p) next reached known.ahead)

    before : (t : Rational) → Upto (stop new.out) t → ¬ Before (end p) (high_place way.over.high way.over.high_in t)
    before t u = reached.before t (upto_next t u)

    -- or after it has told up to there
    pub moved_entered : HasEntered shape chain way (end p) new
    moved_entered t a u = reached.after t (after_same (stop new.out) next t ends a) u

    pub holds_moved : Holds shape chain way c p (end p) new
    holds_moved = record {
      can = known.can;
      to = known.to;
      within = known.within;
      some = known.some;
      piece = known.piece;
      breaks = known.breaks;
      is_best = inr (refl, trend);
      keeps = keeps_climbed shape laws chain way known.can.rising known.some c p known.piece old known.keeps known.entered (inl trend) gap new moved told
          upto_end (λ t u. reached.upto t (upto_next t u)) before;
      entered = moved_entered;
      plays = plays_told shape chain way.over (place way.to) way.side old new known.plays gap base told;
    }

-- a piece of which the window sees one time after another was met, once it has told up to where it has left it
module _ {P : Type 0} {shape : ShapeOf P} {chain : Chain P} {way : Way} {c : Place} {p : Piece P} {old : Sliding P} (laws : ShapeLaws shape)
    (one : way.over.low ≡ way.over.high) (known : Rises shape chain way c p old) where
  pub met_one : (gap : P) (new : Sliding P) (next : Place)
      → ((t : Rational) → value_at (shape.function gap) t ≈ᵉ value_at (shape.function p.shape) (add t (whole way.over.high)))
      → IsMovedTo shape chain way.over (place way.to) gap → IsReached way (end p) next → HasTold shape way.side gap old new
      → Same (stop new.out) next → HasMet shape chain way (end p) new
  met_one gap new next moved base reached told ends = met_climbed known (stands_one shape chain way one c p new keeps none entered)
      (plays_told shape chain way.over (place way.to) way.side old new known.plays gap base told)
    where
      upto_next : AtMost (stop new.out) next
      upto_next = at_most_of_same (stop new.out) next ends

      keeps : Keeps shape chain way c (end p) c new
      keeps = keeps_climbed shape laws chain way known.can.rising known.some c p known.piece old known.keeps known.entered (inr one) gap new moved told
          (at_most_trans (stop new.out) next (stop chain) upto_next (reach_within shape chain way (end p) next reached known.ahead))
          (λ t u. reached.upto t (upto_next t u)) (λ t u. reached.before t (upto_next t u))

      entered : HasEntered shape chain way (end p) new
      entered t a u = reached.after t (after_same (stop new.out) next t ends a) u

      none : new.steps.items ≡ []
      none = no_steps shape chain way one c (end p) c new keeps
          (λ t a u. known.entered t (after_at_most (stop old.out) (stop new.out) t told.on a) u)
