-- Which pieces of a chain of constants a window sees, and the best of these.
use Rattle.std.proofs.Common.{◌≡◌, ◌⊎◌, inl, inr, ℕ, zero, suc, ◌^◌, ◌<◌, ◌≤◌, ◌+◌, List, pos, [], ◌∷◌, ◌++◌, Option, None, Some, IsTrue}
use Rattle.std.proofs.Common.{ap, length, length-append, refl, sym, ◌∙◌, subst, arith}
use Rattle.std.specs.Prelude.{slice_get, IfSome, IsNone}
use Rattle.rational.specs.Rational.{IsWithin}
use Rattle.rational.specs.Time.{Rational, add, whole, ◌≤ʳ◌}
use Rattle.rational.specs.Extended.{Extended, Passes, opposite, value_at, ◌≤ᵉ◌}
use Rattle.rational.specs.Affine.{IsSteady}
use Rattle.rational.specs.Places.{Place, After, AtMost, Before, Same, Upto}
use Rattle.rational.proofs.ExtendedLemmas.{le_transᵉ, opposite_le}
use Rattle.rational.proofs.Mixed.{within_between}
use Rattle.rational.proofs.Order.{le_trans, same_refl}
use Rattle.rational.proofs.Sames.{symᵉ}
use Rattle.rational.proofs.PlaceLemmas.{after_at_most, at_most_of_not_before, before_at_most, before_through, le_of_at_most, le_of_before}
use Rattle.rational.proofs.PlaceLemmas.{same_of_at_most, sides, upto_of_before}
use Rattle.frac128.specs.Cuts.{place}
use Rattle.frac128.specs.declared.cut.Cut.{Cut}
use Rattle.pl_signal.specs.declared.joining.Side.{Side}
use Rattle.pl_signal.specs.declared.joining.Side.TheVariants.{Least, Greatest}
use Rattle.window_extrema.specs.Range.{IsAtMost, IsGreatestOf}
use Rattle.value_laws.specs.Members.{ShapeOf, ShapeLaws}
use Rattle.pl_signal.proofs.Values.{some_is}
use Rattle.pieces.specs.declared.levels.Seen.{Seen}
use Rattle.pieces.specs.declared.next.Next.{Next}
use Rattle.pieces.specs.declared.piece.Piece.{Piece}
use Rattle.pieces.specs.declared.reach.Reach.{Reach}
use Rattle.pieces.specs.declared.reach.Way.{Way}
use Rattle.pieces.specs.Best.{IsNoWorse, none_of}
use Rattle.pieces.specs.Chains.{Chain, HasShapeIn, IsLimited, IsWorth, IsWorthFrom, Rise, begin_at, end, stop}
use Rattle.pieces.specs.Levels.{AreLevels, AreTurned, Counts, IsBestOf, IsNextOf, IsTurned, TellsOn}
use Rattle.pieces.specs.Over.{BasesOver, IsMovedOver}
use Rattle.pieces.specs.Windows.{BestOver, CanSlide, IsLeft, IsNonEmpty, IsReached, Sees, high_place, low_place}
use Rattle.pieces.proofs.Bests.{Values, best_none, best_over, nw_back, nw_same, nw_trans}
use Rattle.pieces.proofs.Ends.{at_most_itself, at_most_of_before, at_most_of_same, at_most_trans, same_place}
use Rattle.pieces.proofs.OverWindow.{best_is_function, piece_from}
use Rattle.pieces.proofs.SeenBest.{floor, high, low, none, steady_met}
use Rattle.pieces.proofs.ReadUpTo.{begin_most, end_most, is_inside, next_begin, rises_at, shape_at}
use Rattle.pieces.proofs.ChainsTell.{TellsSoFar, tells_on}
use Rattle.pieces.proofs.WindowEnds.{room_in}

-- a number is below another or not
pub below_or_not : (a b : ℕ) → (a < b) ⊎ (b ≤ a)
below_or_not zero zero = inr (omega arith)
below_or_not zero (suc b) = inl (omega arith)
below_or_not (suc a) zero = inr (omega arith)
below_or_not (suc a) (suc b) = elim (below_or_not a b) [ inl h ↦ inl (omega (arith, h)) | inr h ↦ inr (omega (arith, h)) ]

-- there is an item at each place below the length of the list
pub item_at : {X : Type 0} (xs : List X) (i : ℕ) → i < length xs → (x : X) × (slice_get xs i ≡ Some x)
item_at [] i h = absurd (omega (arith, h))
item_at (x ∷ xs) zero h = (x, refl)
item_at (x ∷ xs) (suc i) h = item_at xs i (omega (arith, h))

-- an item of a list with one more is one of the list, or that one
pub item_of_more : {X : Type 0} (xs : List X) (x : X) (j : ℕ) (y : X) → slice_get (xs ++ x ∷ []) j ≡ Some y
    → ((j < length xs) × (slice_get xs j ≡ Some y)) ⊎ ((j ≡ length xs) × (x ≡ y))
item_of_more [] x zero y h = inr (refl, some_is h)
item_of_more [] x (suc j) y h = absurd (cc)
item_of_more (z ∷ xs) x zero y h = inl (omega arith, h)
item_of_more (z ∷ xs) x (suc j) y h = elim (item_of_more xs x j y h) [
  | inl k ↦ inl ((let b = k.0 in omega (arith, b)), k.1)
  | inr k ↦ inr (ap (λ n. suc n) k.0, k.1)
]

module _ {P : Type 0} where
  -- no later piece begins earlier
  pub begin_later : (c : Place) (ps : List (Piece P)) (j k : ℕ) → Rise c ps → j ≤ k → AtMost (begin_at c ps j) (begin_at c ps k)
  begin_later c ps zero k h o = begin_most c ps k h
  begin_later c ps (suc j) zero h o = absurd (omega (arith, o))
  begin_later c [] (suc j) (suc k) h o = λ t u. u
  begin_later c (q ∷ ps) (suc j) (suc k) h o = begin_later (end q) ps j k h.1 (omega (arith, o))

  -- a shape of the list is that of a piece at some place
  pub place_of_shape : (ps : List (Piece P)) (q : P) → HasShapeIn ps q → (i : ℕ) × (p : Piece P) × (slice_get ps i ≡ Some p) × (q ≡ p.shape)
  place_of_shape [] q h = absurd h
  place_of_shape (p ∷ ps) q (inl e) = (0, p, refl, e)
  place_of_shape (p ∷ ps) q (inr h) = let (i, r, e, k) = place_of_shape ps q h in (suc i, r, e, k)

module _ {P : Type 0} (shape : ShapeOf P) (chain : Chain P) (over : Reach) (can : CanSlide shape chain over) where
  -- a piece begins within the domain
  pub begin_from : (i : ℕ) → whole (pos 0) ≤ʳ (begin_at chain.from chain.pieces i).at
  begin_from i = le_trans can.first (le_of_at_most chain.from (begin_at chain.from chain.pieces i) (begin_most chain.from chain.pieces i can.rising))

  pub begin_to : (i : ℕ) (p : Piece P) → slice_get chain.pieces i ≡ Some p → (begin_at chain.from chain.pieces i).at ≤ʳ whole (pos (2 ^ 32))
  begin_to i p e = le_trans (le_of_before (begin_at chain.from chain.pieces i) (end p) (rises_at chain.from chain.pieces i p can.rising e))
      (le_trans (le_of_at_most (end p) (stop chain) (end_most chain.from chain.pieces i p can.rising e)) can.last)

  -- and ends there
  pub end_from : (i : ℕ) (p : Piece P) → slice_get chain.pieces i ≡ Some p → whole (pos 0) ≤ʳ (end p).at
  end_from i p e = le_trans (begin_from i) (le_of_before (begin_at chain.from chain.pieces i) (end p) (rises_at chain.from chain.pieces i p can.rising e))

  pub end_to : (i : ℕ) (p : Piece P) → slice_get chain.pieces i ≡ Some p → (end p).at ≤ʳ whole (pos (2 ^ 32))
  end_to i p e = le_trans (le_of_at_most (end p) (stop chain) (end_most chain.from chain.pieces i p can.rising e)) can.last

module _ {P : Type 0} (shape : ShapeOf P) (side : Side) (p q x y : P) where
  -- of two constants whose items are in order the one is no worse than the other
  pub turned_no_worse : IsSteady (shape.function p) → IsSteady (shape.function q) → IsTurned shape side q x → IsTurned shape side p y
      → IsAtMost shape.function x y → (s r : Rational) → IsNoWorse side (value_at (shape.function p) s) (value_at (shape.function q) r)
  turned_no_worse f h k l o s r =
      nw_trans (nw_same side (f s (whole (pos 0)))) (nw_trans (by_side side k l) (nw_same side (h (whole (pos 0)) r)))
    where
      here : P → Extended
      here z = value_at (shape.function z) (whole (pos 0))

      by_side : (side : Side) → IsTurned shape side q x → IsTurned shape side p y → IsNoWorse side (here p) (here q)
      by_side Greatest e g = record { order = subst (λ z. here z ≤ᵉ here p) e (subst (λ z. here x ≤ᵉ here z) g o) }
      by_side Least e g = record {
        order = opposite_le (here p) (here q) (le_transᵉ (opposite (here q)) (here x) (opposite (here p))
            (e (whole (pos 0))).at_least (le_transᵉ (here x) (here y) (opposite (here p)) o (g (whole (pos 0))).at_most));
      }

-- the piece at a time of which a chain tells, by its place in the list
pub record IsAtPiece {P : Type 0} (shape : ShapeOf P) (c : Place) (ps : List (Piece P)) (t : Rational) (v : Extended) : Type 0 where
  pub i : ℕ
  pub piece : Piece P
  pub at : slice_get ps i ≡ Some piece
  pub after : After (begin_at c ps i) t
  pub upto : Upto (end piece) t
  pub passes : Passes (shape.function piece.shape) t v

pub at_piece : {P : Type 0} (shape : ShapeOf P) (c : Place) (ps : List (Piece P)) (t : Rational) (v : Extended) → IsWorthFrom shape c ps t v
    → IsAtPiece shape c ps t v
at_piece shape c [] t v w = absurd w
at_piece shape c (p ∷ ps) t v (inl (a, u, w)) = record { i = 0; piece = p; at = refl; after = a; upto = u; passes = w }
at_piece shape c (p ∷ ps) t v (inr w) = let x = at_piece shape (end p) ps t v w in
    record { i = suc x.i; piece = x.piece; at = x.at; after = x.after; upto = x.upto; passes = x.passes }

module _ {P : Type 0} (shape : ShapeOf P) (chain : Chain P) (way : Way) where
  -- what counts from a place on counts from each later one on
  pub counts_later : (x y : Place) (c : Seen) → Counts shape chain way x c → AtMost x y → Counts shape chain way y c
  counts_later x y c h m = record {
    order = h.order;
    within = h.within;
    gone = λ j p t k e a u. h.gone j p t k e (after_at_most x y t m a) u;
    came = λ j t k a u. h.came j t k (after_at_most x y t m a) u;
    comes = h.comes;
    no_more = h.no_more;
    goes = h.goes;
    all_gone = h.all_gone;
    comes_upto = h.comes_upto;
    goes_upto = h.goes_upto;
  }

  -- one piece more comes
  pub counts_come : (y : Place) (c : Seen) (comes : Cut) → Counts shape chain way y c → AtMost (place c.comes) y → c.high < length chain.pieces
      → AtMost (place comes) (place way.to) → (length chain.pieces ≤ c.high + 1 → comes ≡ way.to)
      → ((p : Piece P) → slice_get chain.pieces (c.high + 1) ≡ Some p → IsReached way (begin_at chain.from chain.pieces (c.high + 1)) (place comes))
      → Counts shape chain way y (record { low = c.low; high = c.high + 1; comes = comes; goes = c.goes })
  counts_come y c comes h m more upto none some = record {
    order = let o = h.order in omega (arith, o);
    within = omega (arith, more);
    gone = h.gone;
    came = λ j t k a u. elim (below_or_not j c.high) [
      | inl l ↦ h.came j t l a u
      | inr l ↦ (let (p, e) = item_at chain.pieces c.high more in
          subst (λ n. Before (begin_at chain.from chain.pieces n) (high_place way.over.high way.over.high_in t)) (omega (arith, k, l))
          ((h.comes p e).after t (after_at_most (place c.comes) y t m a) u))
    ];
    comes = some;
    no_more = none;
    goes = h.goes;
    all_gone = h.all_gone;
    comes_upto = upto;
    goes_upto = h.goes_upto;
  }

  -- one piece goes
  pub counts_go : (y : Place) (c : Seen) (goes : Cut) → Counts shape chain way y c → AtMost (place c.goes) y → c.low < c.high
      → AtMost (place goes) (place way.to) → (length chain.pieces ≤ c.low + 1 → goes ≡ way.to)
      → ((p : Piece P) → slice_get chain.pieces (c.low + 1) ≡ Some p → IsLeft way (end p) (place goes))
      → Counts shape chain way y (record { low = c.low + 1; high = c.high; comes = c.comes; goes = goes })
  counts_go y c goes h m more upto none some = record {
    order = omega (arith, more);
    within = h.within;
    gone = λ j p t k e a u. elim (below_or_not j c.low) [
      | inl l ↦ h.gone j p t l e a u
      | inr l ↦ (h.goes p (subst (λ n. slice_get chain.pieces n ≡ Some p) (omega (arith, k, l)) e)).after t (after_at_most (place c.goes) y t m a) u
    ];
    came = h.came;
    comes = h.comes;
    no_more = h.no_more;
    goes = some;
    all_gone = none;
    comes_upto = h.comes_upto;
    goes_upto = upto;
  }

  module _ (rising : Rise chain.from chain.pieces) (some : IsNonEmpty way.over) (x : Place) (c : Seen) (h : Counts shape chain way x c)
      (more : c.low < length chain.pieces) where
    -- where no piece counts, the next one comes no later than it goes
    pub comes_first : c.low ≡ c.high → AtMost (place c.comes) (place c.goes)
    comes_first e =
        let (p, at) = item_at chain.pieces c.high (omega (arith, e, more)) in
        let goes = h.goes p (subst (λ n. slice_get chain.pieces n ≡ Some p) (sym e) at) in
        λ t u. elim (sides (place c.goes) t) [
          | inl k ↦ k
          | inr a ↦ absurd (goes.after t a (h.comes_upto t u) (before_at_most (low_place way.over.low way.over.low_in t)
              (begin_at chain.from chain.pieces c.high) (end p)
              (before_at_most (low_place way.over.low way.over.low_in t) (high_place way.over.high way.over.high_in t) (begin_at chain.from chain.pieces c.high)
              (room_in way.over.low way.over.high way.over.low_in way.over.high_in t some)
              (at_most_of_not_before (high_place way.over.high way.over.high_in t) (begin_at chain.from chain.pieces c.high) ((h.comes p at).before t u)))
              (at_most_of_before (begin_at chain.from chain.pieces c.high) (end p) (rises_at chain.from chain.pieces c.high p rising at))))
        ]

    module _ (next : Next) (is : IsNextOf c next) where
      -- so where one goes and none counts one comes
      pub left_of_right : c.low ≡ c.high → IsTrue next.right → IsTrue next.left
      left_of_right e k = is.left.1 (same_of_at_most (place c.comes) (place next.until)
          (at_most_trans (place c.comes) (place c.goes) (place next.until) (comes_first e) (at_most_of_same (place c.goes) (place next.until) (is.right.0 k)))
          is.before_left)

      -- and where none goes, one comes
      pub comes_one : ¬ IsTrue next.right → IsTrue next.left × (c.high < length chain.pieces)
      comes_one n = (by_one is.one, by_place (below_or_not c.high (length chain.pieces)))
        where
          by_one : (next.until ≡ c.comes) ⊎ (next.until ≡ c.goes) → IsTrue next.left
          by_one (inl e) = is.left.1 (subst (λ u. Same (place c.comes) (place u)) (sym e) (same_place (place c.comes)))
          by_one (inr e) = absurd (n (is.right.1 (subst (λ u. Same (place c.goes) (place u)) (sym e) (same_place (place c.goes)))))

          by_place : (c.high < length chain.pieces) ⊎ (length chain.pieces ≤ c.high) → c.high < length chain.pieces
          by_place (inl k) = k
          by_place (inr k) = absurd (n (is.right.1 (same_of_at_most (place c.goes) (place next.until)
              (at_most_trans (place c.goes) (place way.to) (place next.until) h.goes_upto
              (subst (λ u. AtMost (place u) (place next.until)) (h.no_more k)
              (at_most_of_same (place c.comes) (place next.until) (is.left.0 (by_one is.one))))) is.before_right)))

module _ {P : Type 0} (shape : ShapeOf P) (laws : ShapeLaws shape) (chain : Chain P) (way : Way) (rising : Rise chain.from chain.pieces)
    (x : Place) (c : Seen) (counts : Counts shape chain way x c) (until : Place) (comes : AtMost until (place c.comes)) (goes : AtMost until (place c.goes))
    (t : Rational) (a : After x t) (u : Upto until t) where
  on_way : Upto (place way.to) t
  on_way = counts.comes_upto t (comes t u)

  -- what is seen is of one of the pieces that count
  pub record IsOfSeen (w : Rational) (v : Extended) : Type 0 where
    pub i : ℕ
    pub piece : Piece P
    pub at : slice_get chain.pieces i ≡ Some piece
    pub from : c.low ≤ i
    pub below : i < c.high
    pub passes : Passes (shape.function piece.shape) w v

  of_seen : (w : Rational) (v : Extended) → Sees way.over t w → IsWorth shape chain w v → IsOfSeen w v
  of_seen w v s h = let o = at_piece shape chain.from chain.pieces w v h in record {
    i = o.i;
    piece = o.piece;
    at = o.at;
    from = from o (below_or_not o.i c.low);
    below = below o (below_or_not o.i c.high);
    passes = o.passes;
  }
    where
      from : (o : IsAtPiece shape chain.from chain.pieces w v) → (o.i < c.low) ⊎ (c.low ≤ o.i) → c.low ≤ o.i
      from o (inr k) = k
      from o (inl k) = absurd (counts.gone o.i o.piece t k o.at a on_way (before_through (low shape laws chain way rising t) (end o.piece) w s.0 o.upto))

      below : (o : IsAtPiece shape chain.from chain.pieces w v) → (o.i < c.high) ⊎ (c.high ≤ o.i) → o.i < c.high
      below o (inl k) = k
      below o (inr k) =
          let more : c.high < length chain.pieces = let l = is_inside chain.pieces o.i o.piece o.at in omega (arith, k) in
          let (p, e) = item_at chain.pieces c.high more in
          absurd ((counts.comes p e).before t (comes t u) (before_through (begin_at chain.from chain.pieces c.high) (high shape laws chain way rising t) w
          (after_at_most (begin_at chain.from chain.pieces c.high) (begin_at chain.from chain.pieces o.i) w
          (begin_later chain.from chain.pieces c.high o.i rising k) o.after) s.1))

  -- where no piece counts, the best is that of no values
  pub best_of_nothing : c.low ≡ c.high → BestOver shape chain way.over way.side t (none_of way.side shape.lowest shape.highest)
  best_of_nothing e = best_over way.side shape.lowest shape.highest (Sees way.over t) (IsWorth shape chain) (none shape laws chain way rising)
      (best_none way.side (none shape laws chain way rising) (Values (Sees way.over t) (IsWorth shape chain))
      (λ v m. let o = of_seen m.0 v m.1 m.2 in let from = o.from in let below = o.below in absurd (omega (arith, e))))

  module _ (some : IsNonEmpty way.over) (levels : AreLevels shape chain) (i : ℕ) (p : Piece P) (at : slice_get chain.pieces i ≡ Some p) (from : c.low ≤ i)
      (below : i < c.high) where
    -- the window begins before the piece ends
    ends_behind : Before (low shape laws chain way rising t) (end p)
    ends_behind = by_place (below_or_not c.low i)
      where
        first : (q : Piece P) → slice_get chain.pieces c.low ≡ Some q → Before (low shape laws chain way rising t) (end q)
        first q e = ((counts.goes q e).upto t (goes t u)).0

        by_place : (c.low < i) ⊎ (i ≤ c.low) → Before (low shape laws chain way rising t) (end p)
        by_place (inr k) = first p (subst (λ n. slice_get chain.pieces n ≡ Some p) (omega (arith, from, k)) at)
        by_place (inl k) =
            let (q, e) = item_at chain.pieces c.low (let l = is_inside chain.pieces i p at in omega (arith, k)) in
            before_at_most (low shape laws chain way rising t) (begin_at chain.from chain.pieces i) (end p)
            (before_at_most (low shape laws chain way rising t) (end q) (begin_at chain.from chain.pieces i) (first q e)
            (subst (λ b. AtMost b (begin_at chain.from chain.pieces i)) (next_begin chain.from chain.pieces c.low q e)
            (begin_later chain.from chain.pieces (suc c.low) i rising k)))
            (λ r h. upto_of_before (begin_at chain.from chain.pieces i) (end p) r (rises_at chain.from chain.pieces i p rising at) h)

    -- a piece that is no worse than each that counts has the best value
    pub best_of_pieces : ((j : ℕ) (q : Piece P) → c.low ≤ j → j < c.high → slice_get chain.pieces j ≡ Some q → (s r : Rational)
        → IsNoWorse way.side (value_at (shape.function p.shape) s) (value_at (shape.function q.shape) r)) → (s : Rational)
        → BestOver shape chain way.over way.side t (value_at (shape.function p.shape) s)
    best_of_pieces least s =
        let is = piece_from shape laws chain way rising i p at in
        let met = steady_met shape laws chain way rising some (begin_at chain.from chain.pieces i) p is t (levels p.shape is.has)
        (counts.came i t below a on_way) ends_behind s in
        best_over way.side shape.lowest shape.highest (Sees way.over t) (IsWorth shape chain) (value_at (shape.function p.shape) s) (record {
          floor = floor shape laws chain way rising p.shape s;
          bound = λ v m. let o = of_seen m.0 v m.1 m.2 in
              nw_trans (least o.i o.piece o.from o.below o.at s m.0) (nw_back way.side o.passes);
          reached = λ w k l. let y = met.reached w k l in (y.0, (y.1.0, y.1.1.0, y.1.2), y.2);
        })

  module _ (some : IsNonEmpty way.over) (levels : AreLevels shape chain) (items : List P) (turned : AreTurned shape way.side chain.pieces items) where
    -- what is asked of the items is the best of what is seen
    pub best_told : (top : Option ℕ) (r : P) → IsBestOf shape chain way top r → (IsNone top → c.low ≡ c.high)
        → IfSome top (IsGreatestOf shape.function items c.low c.high) → BestOver shape chain way.over way.side t (value_at (shape.function r) t)
    best_told None r is none some' = (best_is_function shape laws chain way rising).alike t t (none_of way.side shape.lowest shape.highest)
        (value_at (shape.function r) t) (same_refl t) (symᵉ (is.0 t)) (best_of_nothing (none refl))
    best_told (Some i) r is none greatest =
        let (p, e) = item_at chain.pieces i (let b = greatest.below in let w = counts.within in omega (arith, b, w)) in
        let (y, f) = item_at items i (let b = greatest.below in let w = counts.within in let l = turned.count in omega (arith, b, w, l)) in
        let u = add t (whole way.over.high) in
        (best_is_function shape laws chain way rising).alike t t (value_at (shape.function p.shape) u) (value_at (shape.function r) t) (same_refl t)
        (symᵉ (is.0 p t e))
        (best_of_pieces some levels i p e greatest.from greatest.below (λ j q from below at.
        let (x, k) = item_at items j (let w = counts.within in let l = turned.count in omega (arith, below, w, l)) in
        turned_no_worse shape way.side p.shape q.shape x y (levels p.shape (shape_at chain.pieces i p e))
        (levels q.shape (shape_at chain.pieces j q at)) (turned.each j q x at k)
        (turned.each i p y e f) (greatest.greatest j x y from below k f)) u)

-- where the best moves, it is a shape of the chain moved
pub moved_of_best : {P : Type 0} (shape : ShapeOf P) (chain : Chain P) (way : Way) (top : Option ℕ) (r : P) → IsBestOf shape chain way top r
    → IsMovedOver shape chain way.over r
moved_of_best shape chain way None r h = h.1
moved_of_best shape chain way (Some i) r h = h.1

-- a chain that goes on with the best tells the best, and its shapes are those of the chain moved
module _ {P : Type 0} (shape : ShapeOf P) (laws : ShapeLaws shape) (chain : Chain P) (way : Way) (rising : Rise chain.from chain.pieces) where
  pub record IsFurther (old : Chain P) (until : Place) (new : Chain P) : Type 0 where
    -- what it tells, and its shapes
    pub tells : TellsSoFar shape (BestOver shape chain way.over way.side) old → TellsSoFar shape (BestOver shape chain way.over way.side) new
    pub bases : BasesOver shape chain way.over old → BasesOver shape chain way.over new
    -- where it begins and ends
    pub begins : new.from ≡ old.from
    pub later : AtMost (stop old) (stop new)
    pub upto : AtMost until (stop new)
    pub below : AtMost until (stop chain) → AtMost (stop old) (stop chain) → AtMost (stop new) (stop chain)

  pub further : (old new : Chain P) (until : Cut) → TellsOn shape chain way old until new → IsFurther old (place until) new
  further old new until (inl (m, e)) = subst (λ x. IsFurther old (place until) x) (sym e) (record {
    tells = λ h. h;
    bases = λ h. h;
    begins = refl;
    later = at_most_itself (stop old);
    upto = m;
    below = λ h k. k;
  })
  further old new until (inr (b, best)) = record {
    tells = λ h. tells_on shape (BestOver shape chain way.over way.side) (best_is_function shape laws chain way rising) h best.goes best.is;
    bases = λ h p k. elim (best.goes.shapes p k) [ inl m ↦ h p m | inr e ↦ subst (λ q. IsMovedOver shape chain way.over q) (sym e) best.moved ];
    begins = best.goes.begins;
    later = subst (λ x. AtMost (stop old) x) (sym best.goes.ends) (at_most_of_before (stop old) (place until) b);
    upto = subst (λ x. AtMost (place until) x) (sym best.goes.ends) (at_most_itself (place until));
    below = λ h k. subst (λ x. AtMost x (stop chain)) (sym best.goes.ends) h;
  }

  -- a place of the chain is within limits
  pub place_within : IsLimited shape chain → (x : Place) → AtMost chain.from x → AtMost x (stop chain) → IsWithin (2 ^ 34) x.at
  place_within limited x from to = within_between (2 ^ 34) limited.begins limited.ends (le_of_at_most chain.from x from) (le_of_at_most x (stop chain) to)

-- the items of the pieces before a place, in their order
pub record AreTurnedTo {P : Type 0} (shape : ShapeOf P) (side : Side) (ps : List (Piece P)) (i : ℕ) (qs : List P) : Type 0 where
  pub count : length qs ≡ i
  pub each : (j : ℕ) (p : Piece P) (q : P) → slice_get ps j ≡ Some p → slice_get qs j ≡ Some q → IsTurned shape side p.shape q

-- and with one more
pub turned_more : {P : Type 0} (shape : ShapeOf P) (side : Side) (ps : List (Piece P)) (i : ℕ) (qs : List P) (p : Piece P) (q : P)
    → AreTurnedTo shape side ps i qs → slice_get ps i ≡ Some p → IsTurned shape side p.shape q → AreTurnedTo shape side ps (i + 1) (qs ++ q ∷ [])
turned_more shape side ps i qs p q h e is = record {
  count = length-append qs (q ∷ []) ∙ ap (λ n. n + 1) h.count;
  each = λ j r x at k. elim (item_of_more qs q j x k) [
    | inl m ↦ h.each j r x at m.1
    | inr m ↦ subst (λ y. IsTurned shape side r.shape y) m.1 (subst (λ y. IsTurned shape side y.shape q)
        (some_is (sym e ∙ subst (λ n. slice_get ps n ≡ Some r) (m.0 ∙ h.count) at)) is)
  ];
}
