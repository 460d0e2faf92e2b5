-- What a window sees of a chain: the best of a piece, and the best when one more piece is met.
use Rattle.std.proofs.Common.{◌⊎◌, inl, inr}
use Rattle.rational.specs.Time.{Rational}
use Rattle.rational.specs.Extended.{Extended, value_at, Passes}
use Rattle.rational.specs.Affine.{IsSteady}
use Rattle.rational.specs.Places.{Place, After, Upto, Before}
use Rattle.rational.specs.Windows.{Window}
use Rattle.rational.proofs.PlaceLemmas.{sides, place_order, upto_of_before, after_of_before, after_same, upto_same}
use Rattle.rational.proofs.PlaceLemmas.{before_through, at_most_of_not_before, after_at_most, between}
use Rattle.rational.proofs.AffineLemmas.{value_same}
use Rattle.rational.proofs.Order.{same_sym, same_trans}
use Rattle.rational.proofs.Sames.{symᵉ, transᵉ}
use Rattle.value_laws.specs.Members.{ShapeOf, ShapeLaws}
use Rattle.pl_signal.specs.declared.joining.Side.{Side}
use Rattle.pl_signal.specs.declared.joining.Side.TheVariants.{Least, Greatest}
use Rattle.pieces.proofs.WindowEnds.{room_in}
use Rattle.pieces.specs.declared.piece.Piece.{Piece}
use Rattle.pieces.specs.declared.reach.Way.{Way}
use Rattle.pieces.specs.Best.{IsNoWorse, IsBetter, none_of, GetsNoBetter}
use Rattle.pieces.specs.Chains.{Chain, end, IsWorth, Rise}
use Rattle.pieces.specs.Windows.{low_place, high_place, Sees, IsNonEmpty, IsPieceFrom, Best, BestTo, MayClimb}
use Rattle.pieces.proofs.Bests.{IsBest, Values, nw_same, best_alike, best_value, best_union, best_at_end, best_at_begin, best_none, best_over, over_best}
use Rattle.pieces.proofs.Ones.{one_clash, sees_one}
use Rattle.pieces.proofs.ChainsTell.{rising_is_function}

-- the later of two places
pub record IsLaterOf (c d b : Place) : Type 0 where
  -- what lies behind it lies behind both
  pub both : (u : Rational) → After b u → After c u × After d u
  -- what lies behind both lies behind it
  pub of_both : (u : Rational) → After c u → After d u → After b u
  -- and it comes before what both come before
  pub before : (e : Place) → Before c e → Before d e → Before b e

pub later_place : (c d : Place) → (b : Place) × IsLaterOf c d b
later_place c d = elim (place_order c d) as (λ o. (b : Place) × IsLaterOf c d b) [
  | inl h ↦ (d, record { both = λ u a. (after_of_before c d u h a, a); of_both = λ u a k. k; before = λ e h k. k })
  | inr o ↦ elim o as (λ o. (b : Place) × IsLaterOf c d b) [
    | inl s ↦ (c, record { both = λ u a. (a, after_same c d u s a); of_both = λ u a k. a; before = λ e h k. h })
    | inr h ↦ (c, record { both = λ u a. (a, after_of_before d c u h a); of_both = λ u a k. a; before = λ e h k. h })
  ]
]

-- the earlier of two places
pub record IsEarlierOf (c d e : Place) : Type 0 where
  -- what lies before it lies before both
  pub both : (u : Rational) → Upto e u → Upto c u × Upto d u
  -- what lies before both lies before it
  pub of_both : (u : Rational) → Upto c u → Upto d u → Upto e u
  -- and what comes before both comes before it
  pub after : (b : Place) → Before b c → Before b d → Before b e

pub earlier_place : (c d : Place) → (e : Place) × IsEarlierOf c d e
earlier_place c d = elim (place_order c d) as (λ o. (e : Place) × IsEarlierOf c d e) [
  | inl h ↦ (c, record { both = λ u a. (a, upto_of_before c d u h a); of_both = λ u a k. a; after = λ b h k. h })
  | inr o ↦ elim o as (λ o. (e : Place) × IsEarlierOf c d e) [
    | inl s ↦ (c, record { both = λ u a. (a, upto_same c d u s a); of_both = λ u a k. a; after = λ b h k. h })
    | inr h ↦ (d, record { both = λ u a. (upto_of_before d c u h a, a); of_both = λ u a k. k; after = λ b h k. k })
  ]
]

module _ {P : Type 0} (shape : ShapeOf P) (laws : ShapeLaws shape) (chain : Chain P) (way : Way) (rising : Rise chain.from chain.pieces) where
  -- where the window begins and ends from a time
  abbrev pub low : Rational → Place
  low t = low_place way.over.low way.over.low_in t

  abbrev pub high : Rational → Place
  high t = high_place way.over.high way.over.high_in t

  -- the value of no values
  abbrev pub none : Extended
  none = none_of way.side shape.lowest shape.highest

  -- the best of the chain over a window
  abbrev pub BestOf : Window → Extended → Type 0
  BestOf W r = IsBest way.side none (Values W (IsWorth shape chain)) r

  -- no value is worse than that of none
  pub floor : (p : P) (t : Rational) → IsNoWorse way.side (value_at (shape.function p) t) none
  floor p t = by_side way.side
    where
      by_side : (side : Side) → IsNoWorse side (value_at (shape.function p) t) (none_of side shape.lowest shape.highest)
      by_side Greatest = record { order = laws.lowest_is_least p t }
      by_side Least = record { order = laws.highest_is_greatest p t }

  module _ (some : IsNonEmpty way.over) (c : Place) (p : Piece P) (is : IsPieceFrom shape chain c p) (t : Rational) where
    -- what is seen of the piece
    abbrev pub OfPiece : Window
    OfPiece u = Sees way.over t u × After c u × Upto (end p) u

    low_high : Before (low t) (high t)
    low_high = room_in way.over.low way.over.high way.over.low_in way.over.high_in t some

    worth_of : (u : Rational) (v : Extended) → OfPiece u → IsWorth shape chain u v → Passes (shape.function p.shape) u v
    worth_of u v m w = (rising_is_function shape chain rising).one u v (value_at (shape.function p.shape) u) w (is.worth u m.1 m.2)

    inner : (u : Rational) → After c u → Upto (end p) u → After (low t) u → Upto (high t) u
        → OfPiece u × IsWorth shape chain u (value_at (shape.function p.shape) u)
    inner u a k l h = (((l, h), a, k), is.worth u a k)

    -- a piece that gets no worse, up to where the window ends
    pub rising_within : MayClimb way.over way.side (shape.function p.shape) → Before c (high t) → ¬ Before (end p) (high t)
        → BestOf OfPiece (value_at (shape.function p.shape) (high t).at)
    rising_within (inr one) h n =
        let (z, a, k) = between (low t) (high t) low_high in
        let f = shape.function p.shape in
        let after = after_at_most c (low t) z (at_most_of_not_before c (low t) (λ l. one_clash way.over t c one l h)) a in
        let upto = at_most_of_not_before (high t) (end p) n z k in
        best_value (value_same f (sees_one way.over t z one (a, k))) (record {
          floor = floor p.shape z;
          bound = λ v m. nw_same way.side (transᵉ (value_same f (same_trans (sees_one way.over t z one (a, k)) (same_sym (sees_one way.over t m.0 one m.1.0))))
              (symᵉ (worth_of m.0 v m.1 m.2)));
          reached = λ w o l. (value_at f z, (z, ((a, k), after, upto), is.worth z after upto), l);
        })
    rising_within (inl rises) h n =
        let (b, later) = later_place c (low t) in
        best_at_end way.side none OfPiece (IsWorth shape chain) (shape.function p.shape) b (high t) (later.before (high t) h low_high) (floor p.shape) rises
        (λ u a k. inner u (later.both u a).0 (at_most_of_not_before (high t) (end p) n u k) (later.both u a).1 k) (λ u v m w. (m.0.1, worth_of u v m w))

    -- and past its end
    pub rising_past : MayClimb way.over way.side (shape.function p.shape) → Before (low t) (end p) → Before (end p) (high t)
        → BestOf OfPiece (value_at (shape.function p.shape) (end p).at)
    rising_past (inr one) l h = absurd (one_clash way.over t (end p) one l h)
    rising_past (inl rises) l h =
        let (b, later) = later_place c (low t) in
        best_at_end way.side none OfPiece (IsWorth shape chain) (shape.function p.shape) b (end p) (later.before (end p) is.order l) (floor p.shape) rises
        (λ u a k. inner u (later.both u a).0 k (later.both u a).1 (upto_of_before (end p) (high t) u h k)) (λ u v m w. (m.2, worth_of u v m w))

    -- a piece that gets no better, from where the window begins
    pub falling_within : GetsNoBetter way.side (shape.function p.shape) → Before c (high t) → ¬ Before (low t) c → Before (low t) (end p)
        → BestOf OfPiece (value_at (shape.function p.shape) (low t).at)
    falling_within falls h n l =
        let (e, earlier) = earlier_place (end p) (high t) in
        best_at_begin way.side none OfPiece (IsWorth shape chain) (shape.function p.shape) (low t) e (earlier.after (low t) l low_high) (floor p.shape) falls
        (λ u a k. inner u (after_at_most c (low t) u (at_most_of_not_before c (low t) n) a) (earlier.both u k).0 a (earlier.both u k).1)
        (λ u v m w. (m.0.0, worth_of u v m w))

    -- and before its begin
    pub falling_before : GetsNoBetter way.side (shape.function p.shape) → Before c (high t) → Before (low t) c
        → BestOf OfPiece (value_at (shape.function p.shape) c.at)
    falling_before falls h l =
        let (e, earlier) = earlier_place (end p) (high t) in
        best_at_begin way.side none OfPiece (IsWorth shape chain) (shape.function p.shape) c e (earlier.after c is.order h) (floor p.shape) falls
        (λ u a k. inner u a (earlier.both u k).0 (after_of_before (low t) c u l a) (earlier.both u k).1) (λ u v m w. (m.1, worth_of u v m w))

    -- a steady piece, at any time
    pub steady_met : IsSteady (shape.function p.shape) → Before c (high t) → Before (low t) (end p) → (u : Rational)
        → BestOf OfPiece (value_at (shape.function p.shape) u)
    steady_met steady h l u =
        let (b, later) = later_place c (low t) in
        let (e, earlier) = earlier_place (end p) (high t) in
        best_value (steady e.at u)
        (best_at_end way.side none OfPiece (IsWorth shape chain) (shape.function p.shape) b e
        (later.before e (earlier.after c is.order h) (earlier.after (low t) l low_high)) (floor p.shape)
        (λ t u k. nw_same way.side (steady u t))
        (λ u a k. inner u (later.both u a).0 (earlier.both u k).0 (later.both u a).1 (earlier.both u k).1)
        (λ u v m w. (earlier.of_both u m.2 m.0.1, worth_of u v m w)))

    -- what is seen up to the end of the piece is what is seen before it, and of it
    pub met_more : {x y r : Extended} → BestOf (λ u. Sees way.over t u × Upto c u) x → BestOf OfPiece y → IsBetter way.side x y r
        → BestOf (λ u. Sees way.over t u × Upto (end p) u) r
    met_more h k chosen = best_union split
        (λ v m. (m.0, (m.1.0, upto_of_before c (end p) m.0 is.order m.1.1), m.2)) (λ v m. (m.0, (m.1.0, m.1.2), m.2)) h k chosen
      where
        split : (v : Extended) → Values (λ u. Sees way.over t u × Upto (end p) u) (IsWorth shape chain) v
            → Values (λ u. Sees way.over t u × Upto c u) (IsWorth shape chain) v ⊎ Values OfPiece (IsWorth shape chain) v
        split v (u, (s, k), w) = elim (sides c u) [ inl m ↦ inl (u, (s, m), w) | inr m ↦ inr (u, (s, m, k), w) ]

    -- nothing of the piece is seen once the window begins behind it
    pub met_nothing : {x : Extended} → ¬ Before (low t) (end p) → BestOf (λ u. Sees way.over t u × Upto c u) x
        → BestOf (λ u. Sees way.over t u × Upto (end p) u) x
    met_nothing n h = best_alike (λ v m. (m.0, (m.1.0, upto_of_before c (end p) m.0 is.order m.1.1), m.2))
        (λ v m. absurd (n (before_through (low t) (end p) m.0 m.1.0.0 m.1.1))) h

  -- all is seen that ends no later than the window
  pub all_seen : (met : Place) (t : Rational) (r : Extended) → ¬ Before met (high t) → BestTo shape chain way met t r → Best shape chain way t r
  all_seen met t r n h = best_over way.side shape.lowest shape.highest (Sees way.over t) (IsWorth shape chain) r
      (best_alike (λ v m. (m.0, m.1.0, m.2)) (λ v m. (m.0, (m.1, at_most_of_not_before (high t) met n m.0 m.1.1), m.2))
      (over_best way.side shape.lowest shape.highest (λ u. Sees way.over t u × Upto met u) (IsWorth shape chain) r h))

  -- where nothing is seen, the best is that of none
  pub none_seen : (met : Place) (t : Rational) → ((u : Rational) (v : Extended) → Sees way.over t u → Upto met u → ¬ IsWorth shape chain u v)
      → BestOf (λ u. Sees way.over t u × Upto met u) none
  none_seen met t n = best_none way.side none (Values (λ u. Sees way.over t u × Upto met u) (IsWorth shape chain))
      (λ v m. n m.0 v m.1.0 m.1.1 m.2)
