-- Chains with time running back, and an until as a since that runs back.
use Rattle.std.proofs.Common.{◌≡◌, ◌⊎◌, inl, inr, ℕ, zero, suc, List, [], ◌∷◌, ◌++◌, ◌^◌, ◌≤◌, Some, Bool, true, false, not, IsTrue, ℤ, pos, ◌-ℤ◌}
use Rattle.std.proofs.Common.{arith, ap, refl, sym, subst}
use Rattle.std.specs.Prelude.{slice_get, MatchBool}
use Rattle.std.proofs.lemmas.Int.{ints}
use Rattle.std.specs.Int.RustNames.{unsigned_abs}
use Rattle.rational.specs.Rational.{Rational, negate, subtract, whole, IsWithin, ◌≤ʳ◌, ◌<ʳ◌, ◌≈◌}
use Rattle.rational.specs.Extended.{Affine, Extended, ◌≈ᵉ◌, value_at}
use Rattle.rational.specs.Affine.{AreSame}
use Rattle.rational.specs.Places.{Place, After, Upto, Before, Same}
use Rattle.rational.specs.Windows.{Function}
use Rattle.rational.proofs.Order.{same_refl, same_sym, same_trans}
use Rattle.rational.proofs.Field.{le_negate, lt_negate, same_negate}
use Rattle.rational.proofs.Mixed.{within_between, within_negate, within_same}
use Rattle.rational.proofs.AffineLemmas.{same_reflᵉ, value_same}
use Rattle.rational.proofs.Sames.{symᵉ, transᵉ}
use Rattle.rational.proofs.PlaceLemmas.{after_same, before_same, le_of_at_most, upto_same, same_before, same_places, same_trans_places}
use Rattle.rational.proofs.TimeFunctions.{IsFunction, until_is_function}
use Rattle.rational.proofs.UntilBounds.{since_bounded}
use Rattle.rational.proofs.RunningBack.{RunsBack, about_zero, turned_of, until_runs_back}
use Rattle.rational.proofs.PlayBack.{AreBack}
use Rattle.frac128.specs.Cuts.{place}
use Rattle.frac128.specs.declared.cut.Cut.{Cut}
use Rattle.value_laws.specs.Members.{ShapeOf, ShapeLaws}
use Rattle.pieces.specs.declared.piece.Piece.{Piece}
use Rattle.pl_signal.proofs.Values.{some_is}
use Rattle.pieces.specs.Chains.{CanBeLeftOut, Chain, Each, HasShape, IsLimited, IsNormal, IsPiece, IsWorth, Rise, Tells, begin_at, end, stop}
use Rattle.pieces.specs.Building.{GoesOn, IsNew}
use Rattle.pieces.specs.Negating.{BasesFrom}
use Rattle.pieces.specs.Sinces.{BasesOfTwo, SinceOf, UntilOf}
use Rattle.pieces.specs.Turning.{RunBack, turned}
use Rattle.pieces.proofs.ChainLemmas.{worth_after, worth_upto, worth_same}
use Rattle.pieces.proofs.ChainsTell.{TellsSoFar, tells_on, told}
use Rattle.pieces.proofs.Ends.{at_most_of_before, at_most_trans}
use Rattle.pieces.proofs.Lasts.{last_of_two, none_last, snoc, snoc_last}
use Rattle.pieces.proofs.ReadUpTo.{begin_most, end_most, next_begin, rises_at, worth_place}

-- a time within the limits stays so
pub about_within : (t : Rational) → IsWithin (2 ^ 34) t → IsWithin (2 ^ 34) (subtract (whole (pos 0)) t)
about_within t h = within_same (2 ^ 34) (same_sym (about_zero t)) (within_negate (2 ^ 34) h)

-- and so does a base
pub base_within : {P : Type 0} (shape : ShapeOf P) → ShapeLaws shape → (p : P) → unsigned_abs (pos 0 -ℤ shape.base p) ≤ 2 ^ 34
base_within {P} shape laws p = size (shape.base p) (laws.base_within p)
  where
    size : (b : ℤ) → unsigned_abs b ≤ 2 ^ 34 → unsigned_abs (pos 0 -ℤ b) ≤ 2 ^ 34
    size b h = omega (arith, ints, h)

negated_le : {a b : Rational} → negate a ≤ʳ b → negate b ≤ʳ a
negated_le {a} {b} h = omega (arith, h.le)

negated_lt : {a b : Rational} → negate a <ʳ b → negate b <ʳ a
negated_lt {a} {b} h = lt_negate h

le_negated : {a b : Rational} → a ≤ʳ negate b → b ≤ʳ negate a
le_negated {a} {b} h = omega (arith, h.le)

lt_negated : {a b : Rational} → a <ʳ negate b → b <ʳ negate a
lt_negated {a} {b} h = lt_negate h

negate_twice : (t : Rational) → t ≈ negate (negate t)
negate_twice t = omega arith

-- what lies behind a place that is turned lies before the place, at minus the time, and likewise before it
after_turned : (c : Place) (t : Rational) → After (turned c) t → Upto c (negate t)
after_turned c t = by_side c.after
  where
    by_side : (b : Bool) → MatchBool (not b) (negate c.at <ʳ t) (negate c.at ≤ʳ t) → MatchBool b (negate t ≤ʳ c.at) (negate t <ʳ c.at)
    by_side true h = negated_le h
    by_side false h = negated_lt h

upto_turned : (c : Place) (t : Rational) → Upto (turned c) t → After c (negate t)
upto_turned c t = by_side c.after
  where
    by_side : (b : Bool) → MatchBool (not b) (t ≤ʳ negate c.at) (t <ʳ negate c.at) → MatchBool b (c.at <ʳ negate t) (c.at ≤ʳ negate t)
    by_side true h = lt_negated h
    by_side false h = le_negated h

-- and the other way round
turned_after : (c : Place) (t : Rational) → Upto c t → After (turned c) (negate t)
turned_after c t = by_side c.after
  where
    by_side : (b : Bool) → MatchBool b (t ≤ʳ c.at) (t <ʳ c.at) → MatchBool (not b) (negate c.at <ʳ negate t) (negate c.at ≤ʳ negate t)
    by_side true h = le_negate h
    by_side false h = lt_negate h

turned_upto : (c : Place) (t : Rational) → After c t → Upto (turned c) (negate t)
turned_upto c t = by_side c.after
  where
    by_side : (b : Bool) → MatchBool b (c.at <ʳ t) (c.at ≤ʳ t) → MatchBool (not b) (negate t ≤ʳ negate c.at) (negate t <ʳ negate c.at)
    by_side true h = lt_negate h
    by_side false h = le_negate h

-- the later of two places is turned to the earlier
pub turned_before : (c d : Place) → Before c d → Before (turned d) (turned c)
turned_before c d (inl l) = inl (lt_negate l)
turned_before c d (inr (s, e, f)) = inr (same_negate (same_sym s), ap not f, ap not e)

-- places of one time and side are so too once time runs back
pub turned_same : {c d : Place} → Same c d → Same (turned c) (turned d)
turned_same (s, e) = (same_negate s, ap not e)

twice_same : (c : Place) → Same (turned (turned c)) c
twice_same c = (same_sym (negate_twice c.at), not_twice c.after)
  where
    not_twice : (b : Bool) → not (not b) ≡ b
    not_twice true = refl
    not_twice false = refl

-- where a piece begins lies within 2^34
pub begin_within : {P : Type 0} (shape : ShapeOf P) (chain : Chain P) (i : ℕ) (p : Piece P) → IsNormal shape chain → IsLimited shape chain
    → slice_get chain.pieces i ≡ Some p → IsWithin (2 ^ 34) (begin_at chain.from chain.pieces i).at
begin_within shape chain i p normal limited e = within_between (2 ^ 34) limited.begins limited.ends
    (le_of_at_most chain.from (begin_at chain.from chain.pieces i) (begin_most chain.from chain.pieces i normal.rising))
    (le_of_at_most (begin_at chain.from chain.pieces i) (stop chain)
    (at_most_trans (begin_at chain.from chain.pieces i) (end p) (stop chain)
    (at_most_of_before (begin_at chain.from chain.pieces i) (end p) (rises_at chain.from chain.pieces i p normal.rising e))
    (end_most chain.from chain.pieces i p normal.rising e)))

-- what runs back is a function of time
pub back_is_function : (A : Function) → IsFunction A → IsFunction (RunBack A)
back_is_function A is = record {
  alike = λ t u v w e s h. is.alike (negate t) (negate u) v w (same_negate e) s h;
  one = λ t v w a b. is.one (negate t) v w a b;
}

module _ {P : Type 0} (shape : ShapeOf P) where
  -- the chain goes on with a piece of the other that runs back
  pub tells_back : {old new : Chain P} {until : Cut} {more : P} (chain : Chain P) (i : ℕ) (p : Piece P) → IsFunction (RunBack (IsWorth shape chain))
      → slice_get chain.pieces i ≡ Some p → TellsSoFar shape (RunBack (IsWorth shape chain)) old → Same (stop old) (turned (end p))
      → Same (place until) (turned (begin_at chain.from chain.pieces i))
      → ((t : Rational) → value_at (shape.function more) t ≈ᵉ value_at (shape.function p.shape) (subtract (whole (pos 0)) t))
      → GoesOn shape old until more new → TellsSoFar shape (RunBack (IsWorth shape chain)) new
  tells_back {old} {new} {until} {more} chain i p is e s from to value on =
      tells_on shape (RunBack (IsWorth shape chain)) is s on (λ t a u.
      worth_same shape chain.from chain.pieces (value_at (shape.function p.shape) (negate t)) (value_at (shape.function more) t) (same_refl (negate t))
      (symᵉ (turned_of (shape.function p.shape) (shape.function more) value t))
      (worth_place shape chain.from chain.pieces i p (negate t) e
      (upto_turned (begin_at chain.from chain.pieces i) t (upto_same (place until) (turned (begin_at chain.from chain.pieces i)) t to u))
      (after_turned (end p) t (after_same (stop old) (turned (end p)) t from a))))

  -- with its base
  pub bases_back : {old new : Chain P} {until : Cut} {more : P} (chain : Chain P) (p : P) → HasShape chain p → BasesFrom shape (λ b. pos 0 -ℤ b) chain old
      → (IsTrue (shape.moves more) → IsTrue (shape.moves p) × (shape.base more ≡ pos 0 -ℤ shape.base p)) → GoesOn shape old until more new
      → BasesFrom shape (λ b. pos 0 -ℤ b) chain new
  bases_back {old} {new} {until} {more} chain p has bases base on = λ x h m. by_shape x m (on.shapes x h)
    where
      by_shape : (x : P) → IsTrue (shape.moves x) → HasShape old x ⊎ (x ≡ more)
          → (q : P) × HasShape chain q × IsTrue (shape.moves q) × (shape.base x ≡ pos 0 -ℤ shape.base q)
      by_shape x m (inl h) = bases x h m
      by_shape x m (inr e) = let b = base (subst (λ x. IsTrue (shape.moves x)) e m) in
          (p, has, b.0, subst (λ y. shape.base y ≡ pos 0 -ℤ shape.base p) (sym e) b.1)

-- what is f at minus each time is g there: so the other way round
unturned : (f g : Affine) → ((t : Rational) → value_at g t ≈ᵉ value_at f (negate t)) → (t : Rational) → value_at f t ≈ᵉ value_at g (negate t)
unturned f g h t = transᵉ (value_same f (negate_twice t)) (symᵉ (h (negate t)))

-- two functions that are one with time running back are one
same_unturned : (f g f' g' : Affine) → ((t : Rational) → value_at f' t ≈ᵉ value_at f (negate t)) → ((t : Rational) → value_at g' t ≈ᵉ value_at g (negate t))
    → AreSame g' f' → AreSame f g
same_unturned f g f' g' h k same t = transᵉ (unturned f f' h t) (transᵉ (symᵉ (same (negate t))) (symᵉ (unturned g g' k t)))

-- times that are one with time running back are one
time_unturned : {a b x y : Rational} → x ≈ negate a → y ≈ negate b → x ≈ y → b ≈ a
time_unturned {a} {b} h k e = same_trans (negate_twice b) (same_trans (same_negate (same_trans (same_sym k) (same_trans (same_sym e) h)))
    (same_sym (negate_twice a)))

module _ {P : Type 0} (shape : ShapeOf P) where
  -- the next piece is of another function
  next_differs : (ps : List (Piece P)) (i : ℕ) (p q : Piece P) → Each (IsPiece shape) ps → slice_get ps i ≡ Some p → slice_get ps (suc i) ≡ Some q
      → ¬ AreSame (shape.function p.shape) (shape.function q.shape)
  next_differs [] i p q h e k = absurd (cc)
  next_differs (x ∷ []) zero p q h e k = absurd (cc)
  next_differs (x ∷ y ∷ ps) zero p q h e k = subst (λ z. ¬ AreSame (shape.function z.shape) (shape.function q.shape)) (some_is e)
      (subst (λ z. ¬ AreSame (shape.function x.shape) (shape.function z.shape)) (some_is k) h.0.differs)
  next_differs (x ∷ ps) (suc i) p q h e k = next_differs ps i p q h.1 e k

  -- and cannot be left out
  next_needed : (ps : List (Piece P)) (i : ℕ) (p q r : Piece P) → Each (IsPiece shape) ps → slice_get ps i ≡ Some p → slice_get ps (suc i) ≡ Some q
      → slice_get ps (suc (suc i)) ≡ Some r → ¬ CanBeLeftOut shape p q r.shape
  next_needed [] i p q r h e k l = absurd (cc)
  next_needed (x ∷ []) zero p q r h e k l = absurd (cc)
  next_needed (x ∷ y ∷ []) zero p q r h e k l = absurd (cc)
  next_needed (x ∷ y ∷ z ∷ ps) zero p q r h e k l = subst (λ a. ¬ CanBeLeftOut shape a q r.shape) (some_is e)
      (subst (λ b. ¬ CanBeLeftOut shape x b r.shape) (some_is k) (subst (λ c. ¬ CanBeLeftOut shape x y c.shape) (some_is l) h.0.needed))
  next_needed (x ∷ ps) (suc i) p q r h e k l = next_needed ps i p q r h.1 e k l

  -- the one piece, which ends where the other begins, at the place, is that one with time running back
  pub record IsTurnedPiece (begin : Place) (p x : Piece P) : Type 0 where
    -- where it ends
    pub ends : Same (end x) (turned begin)
    -- what it is
    pub value : (t : Rational) → value_at (shape.function x.shape) t ≈ᵉ value_at (shape.function p.shape) (negate t)

  -- the last two pieces that were built are those of the chain from the place i of the list on, with time running back
  pub record EndsTurned (chain : Chain P) (i : ℕ) (built : List (Piece P)) : Type 0 where
    -- the last piece
    pub last : (front : List (Piece P)) (x : Piece P) → built ≡ front ++ x ∷ []
        → (p : Piece P) × (slice_get chain.pieces i ≡ Some p) × IsTurnedPiece (begin_at chain.from chain.pieces i) p x
    -- and the one before it
    pub before : (front : List (Piece P)) (x y : Piece P) → built ≡ front ++ x ∷ y ∷ []
        → (p : Piece P) × (slice_get chain.pieces (suc i) ≡ Some p) × IsTurnedPiece (begin_at chain.from chain.pieces (suc i)) p x

  -- nothing was built yet
  pub none_turned : (chain : Chain P) (i : ℕ) → EndsTurned chain i []
  none_turned chain i = record {
    last = λ front x e. absurd (none_last [] front x refl e);
    before = λ front x y e. absurd (none_last [] (front ++ x ∷ []) y refl (last_of_two [] front x y e));
  }

  module _ (chain : Chain P) (i : ℕ) (p : Piece P) (built : List (Piece P)) (more : P) (at : slice_get chain.pieces i ≡ Some p)
      (ends : EndsTurned chain (suc i) built) (value : (t : Rational) → value_at (shape.function more) t ≈ᵉ value_at (shape.function p.shape) (negate t)) where
    -- the piece before comes next
    pub ends_turned : (until : Cut) → Same (place until) (turned (begin_at chain.from chain.pieces i))
        → EndsTurned chain i (built ++ record { until = until; shape = more } ∷ [])
    ends_turned until to = record {
      last = λ front x e. (p, at, subst (IsTurnedPiece (begin_at chain.from chain.pieces i) p) (snoc_last built front z x e) (record { ends = to; value = value }));
      before = λ front x y e. ends.last front x (snoc built (front ++ x ∷ []) z y (last_of_two (built ++ z ∷ []) front x y e));
    }
      where
        z : Piece P
        z = record { until = until; shape = more }

    -- it is new behind what was built
    pub new_turned : Each (IsPiece shape) chain.pieces → IsNew shape built more
    new_turned each = record {
      differs = λ front x e same. let (q, k, is) = ends.last front x e in
          next_differs chain.pieces i p q each at k
          (same_unturned (shape.function p.shape) (shape.function q.shape) (shape.function more) (shape.function x.shape) value is.value same);
      needed = λ front x y e out. let (q, k, is) = ends.last (front ++ x ∷ []) y (last_of_two built front x y e) in let (r, l, has) = ends.before front x y e in
          next_needed chain.pieces i p q r each at k l (left_out x y q r k is has out);
    }
      where
        left_out : (x y q r : Piece P) → slice_get chain.pieces (suc i) ≡ Some q → IsTurnedPiece (begin_at chain.from chain.pieces (suc i)) q y
            → IsTurnedPiece (begin_at chain.from chain.pieces (suc (suc i))) r x → CanBeLeftOut shape x y more → CanBeLeftOut shape p q r.shape
        left_out x y q r k is has out = record { instant = time_unturned x_at y_at out.instant; around = around; here = here }
          where
            x_at : (end x).at ≈ negate (end q).at
            x_at = subst (λ b. (end x).at ≈ negate b.at) (next_begin chain.from chain.pieces (suc i) q k) has.ends.0

            y_at : (end y).at ≈ negate (end p).at
            y_at = subst (λ b. (end y).at ≈ negate b.at) (next_begin chain.from chain.pieces i p at) is.ends.0

            around : AreSame (shape.function p.shape) (shape.function r.shape)
            around = same_unturned (shape.function p.shape) (shape.function r.shape) (shape.function more) (shape.function x.shape) value has.value out.around

            there : negate (end q).at ≈ (end y).at
            there = same_trans (same_sym x_at) out.instant

            here : value_at (shape.function p.shape) (end q).at ≈ᵉ value_at (shape.function q.shape) (end q).at
            here = transᵉ (around (end q).at) (transᵉ (unturned (shape.function r.shape) (shape.function x.shape) has.value (end q).at)
                (transᵉ (value_same (shape.function x.shape) there) (transᵉ out.here (transᵉ (value_same (shape.function y.shape) (same_sym there))
                (symᵉ (unturned (shape.function q.shape) (shape.function y.shape) is.value (end q).at))))))

-- where a piece begins comes later, with time running back, than where it ends
pub later_turned : {P : Type 0} (chain : Chain P) (i : ℕ) (p : Piece P) (b until : Place) → Rise chain.from chain.pieces → slice_get chain.pieces i ≡ Some p
    → Same b (turned (end p)) → Same until (turned (begin_at chain.from chain.pieces i)) → Before b until
later_turned chain i p b until rising at ends to =
    same_before b (turned (end p)) until ends (before_same (turned (end p)) (turned (begin_at chain.from chain.pieces i)) until
    (turned_before (begin_at chain.from chain.pieces i) (end p) (rises_at chain.from chain.pieces i p rising at)) (same_places to))

-- the one chain, which is limited, is the other with time running back
pub record IsBackOf {P : Type 0} (shape : ShapeOf P) (chain new : Chain P) : Type 0 where
  -- it is normal
  pub normal : IsNormal shape chain
  -- and within the limits
  pub limited : IsLimited shape chain
  -- the other tells at each time what it tells at minus the time
  pub tells : Tells shape (RunBack (IsWorth shape chain)) (turned (stop chain)) (turned chain.from) new

module _ {P : Type 0} {shape : ShapeOf P} {chain new : Chain P} (m : IsBackOf shape chain new) where
  -- where the chain begins and ends, by the one that runs back
  pub begins_back : Same chain.from (turned (stop new))
  begins_back = same_trans_places (same_places (twice_same chain.from)) (turned_same (same_places m.tells.ends))

  pub ends_back : Same (stop chain) (turned new.from)
  ends_back = same_trans_places (same_places (twice_same (stop chain))) (turned_same (same_places m.tells.begins))

  pub runs_back : RunsBack (IsWorth shape chain) (IsWorth shape new)
  runs_back = record {
    out = λ t v w. ((m.tells.worth t v).0 w).2;
    back = λ t v w. (m.tells.worth (negate t) v).1 (
      turned_after (stop chain) t (worth_upto shape chain.from chain.pieces t v m.normal.rising w),
      turned_upto chain.from t (worth_after shape chain.from chain.pieces t v m.normal.rising w),
      worth_same shape chain.from chain.pieces v v (negate_twice t) (same_reflᵉ v) w,
    );
  }

  -- it stays limited
  pub back_limited : IsLimited shape new
  back_limited = record {
    begins = within_same (2 ^ 34) (same_sym m.tells.begins.0) (within_negate (2 ^ 34) m.limited.ends);
    ends = within_same (2 ^ 34) (same_sym m.tells.ends.0) (within_negate (2 ^ 34) m.limited.begins);
    values = λ t v w. m.limited.values (negate t) v ((m.tells.worth t v).0 w).2;
  }

-- both sides with time running back
pub record AreBackward {P : Type 0} (shape : ShapeOf P) (a b left right : Chain P) : Type 0 where
  -- the laws of the kind of value
  pub laws : ShapeLaws shape
  -- the left side
  pub of_left : IsBackOf shape a left
  -- and the right side
  pub of_right : IsBackOf shape b right

module _ {P : Type 0} {shape : ShapeOf P} {a b left right : Chain P} (m : AreBackward shape a b left right) where
  -- the until is the since of both with time running back
  pub since_back : RunsBack (UntilOf shape a b) (SinceOf shape left right)
  since_back = until_runs_back shape.lowest shape.highest (IsWorth shape a) (IsWorth shape left) (IsWorth shape b) (IsWorth shape right)
      (runs_back m.of_left) (runs_back m.of_right) (stop a).at left.from.at (ends_back m.of_left).0

  -- so all three run back
  pub are_back : AreBack (IsWorth shape a) (IsWorth shape left) (IsWorth shape b) (IsWorth shape right) (UntilOf shape a b) (SinceOf shape left right)
      a.from.at (stop a).at left.from.at (stop left).at
  are_back = record {
    left = runs_back m.of_left;
    right = runs_back m.of_right;
    made = since_back;
    first = (begins_back m.of_left).0;
    last = (ends_back m.of_left).0;
  }

  -- the since is limited
  pub since_limited : (since : Chain P) → Tells shape (SinceOf shape left right) left.from (stop left) since → IsLimited shape since
  since_limited since tells =
      let l = back_limited m.of_left in let r = back_limited m.of_right in
      record {
        begins = within_same (2 ^ 34) (same_sym tells.begins.0) l.begins;
        ends = within_same (2 ^ 34) (same_sym tells.ends.0) l.ends;
        values = λ t v w. since_bounded (2 ^ 31) shape.lowest shape.highest left.from.at m.laws.lowest_bounded m.laws.highest_bounded l.values r.values t v
            ((tells.worth t v).0 w).2;
      }

  -- and with time running back it is the until
  pub until_told : (since new : Chain P) → Tells shape (SinceOf shape left right) left.from (stop left) since → IsBackOf shape since new
      → Tells shape (UntilOf shape a b) a.from (stop a) new
  until_told since new tells back = told shape (UntilOf shape a b) a.from (stop a) new
      (until_is_function shape.lowest shape.highest (stop a).at (IsWorth shape a) (IsWorth shape b))
      (record {
        normal = back.tells.normal;
        worth = λ t v w. by_twice t v (since_back.out (negate t) v ((tells.worth (negate t) v).0 ((back.tells.worth t v).0 w).2).2);
      })
      (same_trans_places back.tells.begins (same_trans_places (turned_same tells.ends) (same_places (begins_back m.of_left))))
      (same_trans_places back.tells.ends (same_trans_places (turned_same tells.begins) (same_places (ends_back m.of_left))))
    where
      by_twice : (t : Rational) (v : Extended) → UntilOf shape a b (negate (negate t)) v → UntilOf shape a b t v
      by_twice t v h = (until_is_function shape.lowest shape.highest (stop a).at (IsWorth shape a) (IsWorth shape b)).alike (negate (negate t)) t v v
          (same_sym (negate_twice t)) (same_reflᵉ v) h

-- the bases, turned twice
pub until_bases : {P : Type 0} (shape : ShapeOf P) (a b left right since new : Chain P)
    → BasesFrom shape (λ b. pos 0 -ℤ b) a left → BasesFrom shape (λ b. pos 0 -ℤ b) b right
    → BasesOfTwo shape left right since → BasesFrom shape (λ b. pos 0 -ℤ b) since new → BasesOfTwo shape a b new
until_bases {P} shape a b left right since new from_a from_b of_two from_since = λ x h m.
    let y = from_since x h m in
    let z = of_two y.0 y.1 y.2 in
    by_side x y.0 y.3 z.0 z.2 z.3 z.1
  where
    twice : (a b c d : ℤ) → a ≡ pos 0 -ℤ b → b ≡ c → c ≡ pos 0 -ℤ d → a ≡ d
    twice a b c d e f h = omega (arith, ints)

    by_side : (x y : P) → shape.base x ≡ pos 0 -ℤ shape.base y → (z : P) → IsTrue (shape.moves z) → shape.base y ≡ shape.base z
        → HasShape left z ⊎ HasShape right z → (o : P) × (HasShape a o ⊎ HasShape b o) × IsTrue (shape.moves o) × (shape.base x ≡ shape.base o)
    by_side x y e z n f (inl k) = let o = from_a z k n in (o.0, inl o.1, o.2, twice (shape.base x) (shape.base y) (shape.base z) (shape.base o.0) e f o.3)
    by_side x y e z n f (inr k) = let o = from_b z k n in (o.0, inr o.1, o.2, twice (shape.base x) (shape.base y) (shape.base z) (shape.base o.0) e f o.3)
