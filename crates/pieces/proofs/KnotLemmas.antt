-- A chain as a signal of knots, and a signal as a chain.
use Rattle.std.proofs.Common.{◌≡◌, ◌⊎◌, inl, inr, ℕ, zero, suc, ap, ◌+◌, ◌<◌, List, [], ◌∷◌, Some, true, false, length, refl, sym, ◌∙◌, subst, arith}
use Rattle.std.specs.Prelude.{slice_get}
use Rattle.std.specs.declared.cmp.Ordering.{Ordering}
use Rattle.std.specs.declared.cmp.Ordering.TheVariants.{Less, Equal, Greater}
use Rattle.rational.specs.Rational.{IsOrder}
use Rattle.std.proofs.Math.Nat.{eq-or-lt_of_le}
use Rattle.std.proofs.lemmas.Bool.{false≢true}
use Rattle.rational.specs.Time.{Rational, ◌≤ʳ◌, ◌<ʳ◌, ◌≈◌}
use Rattle.rational.specs.Extended.{value_at}
use Rattle.rational.specs.Windows.{Function}
use Rattle.rational.specs.Places.{Place, After, Upto, Before, Same}
use Rattle.rational.proofs.Order.{le_of_same, ge_of_same, same_of_le, same_refl, same_sym, same_trans, lt_or_same_or_gt, not_lt_of_le, le_of_lt}
use Rattle.rational.proofs.Order.{lt_of_le_of_lt}
use Rattle.rational.proofs.AffineLemmas.{value_same}
use Rattle.rational.proofs.Sames.{transᵉ}
use Rattle.rational.proofs.TimeFunctions.{IsFunction}
use Rattle.rational.proofs.PlaceLemmas.{after_same}
use Rattle.frac128.specs.Value.{value}
use Rattle.frac128.specs.Cuts.{place, is_after}
use Rattle.frac128.specs.declared.cut.Cut.{Cut}
use Rattle.frac128.specs.declared.frac.Frac.{Frac}
use Rattle.value_laws.specs.Members.{ShapeOf}
use Rattle.pl_signal.specs.declared.knot.Knot.{Knot}
use Rattle.pieces.specs.declared.piece.Piece.{Piece}
use Rattle.pieces.specs.Chains.{Chain, end, stop, HasShape, IsWorth, IsNormal}
use Rattle.pieces.specs.Building.{GoesOn}
use Rattle.pl_signal.specs.Knots as knots
use Rattle.pl_signal.proofs.Telling as so_far
use Rattle.pieces.specs.Knots.{before, after, GoesOnBy, IsAdded}
use Rattle.pieces.proofs.ChainsTell.{TellsSoFar, tells_on, worth_is_function}
use Rattle.pieces.proofs.Ends.{upto_of_lt, after_of_lt, here_after, here_upto, earlier_upto, later_after}
use Rattle.pieces.proofs.ReadUpTo.{begin_at, next_begin, last_begin, rises_at, is_inside, shape_at, worth_place}

-- just before a time comes before just after it
pub just_later : (c : Place) (t : Rational) → Same c (before t) → Before c (after t)
just_later c t (s, e) = inr (s, e, refl)

-- what is not less by a comparison
pub not_less : (o : Ordering) (a b : Rational) → IsOrder o a b → (o ≡ Less → ⊥) → a <ʳ b → ⊥
not_less Less a b h n l = absurd (n refl)
not_less Equal a b h n l = absurd (not_lt_of_le (ge_of_same h) l)
not_less Greater a b h n l = absurd (not_lt_of_le (le_of_lt h) l)

-- a cut whose side is not 0 lies just after its time
pub side_after : (n : ℕ) → (n ≡ 0 → ⊥) → is_after n ≡ true
side_after zero h = absurd (h refl)
side_after (suc n) h = refl

-- the side 0 is that just before the time
pub side_before : (n : ℕ) → n ≡ 0 → is_after n ≡ false
side_before zero h = refl
side_before (suc n) h = absurd (omega (arith, h))

module _ {P : Type 0} (shape : ShapeOf P) where
  -- a piece of a chain that ends just after a time has its value there
  pub own_worth : (chain : Chain P) (i : ℕ) (p : Piece P) → IsNormal shape chain → slice_get chain.pieces i ≡ Some p → (end p).after ≡ true
      → IsWorth shape chain (end p).at (value_at (shape.function p.shape) (end p).at)
  own_worth chain i p s e after = worth_place shape chain.from chain.pieces i p (end p).at e
      (later_after (begin_at chain.from chain.pieces i) (end p) (rises_at chain.from chain.pieces i p s.rising e)) (here_upto (end p) after)

  -- and where one ends just before a time, the next one has its value there
  pub next_worth : (chain : Chain P) (i : ℕ) (p q : Piece P) → IsNormal shape chain → slice_get chain.pieces i ≡ Some p
      → slice_get chain.pieces (i + 1) ≡ Some q → (end p).after ≡ false
      → IsWorth shape chain (end p).at (value_at (shape.function q.shape) (end p).at)
  next_worth chain i p q s e f before = worth_place shape chain.from chain.pieces (i + 1) q (end p).at f
      (subst (λ c. After c (end p).at) (sym begins) (here_after (end p) before))
      (earlier_upto (end p) (end q) (subst (λ c. Before c (end q)) begins (rises_at chain.from chain.pieces (i + 1) q s.rising f)))
    where
      place : suc i ≡ i + 1
      place = omega arith

      begins : begin_at chain.from chain.pieces (i + 1) ≡ end p
      begins = subst (λ n. begin_at chain.from chain.pieces n ≡ end p) place (next_begin chain.from chain.pieces i p e)

  -- a piece that ends just before a time is not the last of a chain that ends just after one
  pub has_next : (chain : Chain P) (i : ℕ) (p : Piece P) → slice_get chain.pieces i ≡ Some p → (end p).after ≡ false → (stop chain).after ≡ true
      → i + 1 < length chain.pieces
  has_next chain i p e before after = by_count (eq-or-lt_of_le (let k = is_inside chain.pieces i p e in omega arith))
    where
      by_count : (suc i ≡ length chain.pieces) ⊎ (suc i < length chain.pieces) → i + 1 < length chain.pieces
      by_count (inr k) = omega (arith, k)
      by_count (inl k) = let last : stop chain ≡ end p = sym (last_begin chain.from chain.pieces)
          ∙ subst (λ n. begin_at chain.from chain.pieces n ≡ end p) k (next_begin chain.from chain.pieces i p e) in
          absurd (false≢true (sym before ∙ ap (λ c. c.after) (sym last) ∙ after))

  -- a chain that goes on by a knot goes on telling what has the knot's point, and the gap behind it
  pub tells_knot : {old new : Chain P} (F : Function) (k : Knot P) (to : Frac) → IsFunction F → TellsSoFar shape F old
      → Same (stop old) (before (value k.time)) → F (value k.time) (value_at (shape.function k.point) (value k.time))
      → ((t : Rational) → value k.time <ʳ t → t <ʳ value to → F t (value_at (shape.function k.after) t))
      → GoesOnBy shape old k to new → TellsSoFar shape F new
  tells_knot {old} {new} F k to is s begins point gap (inl one) = tells_on shape F is s one.1 (λ t a u. by_order t u
      (lt_or_same_or_gt (value k.time) t) (after_same (stop old) (before (value k.time)) t begins a))
    where
      by_order : (t : Rational) → t <ʳ value to → (value k.time <ʳ t) ⊎ (value k.time ≈ t) ⊎ (t <ʳ value k.time) → value k.time ≤ʳ t
          → F t (value_at (shape.function k.after) t)
      by_order t u (inl l) a = gap t l u
      by_order t u (inr (inl e)) a = is.alike (value k.time) t (value_at (shape.function k.point) (value k.time)) (value_at (shape.function k.after) t) e
          (transᵉ one.0 (value_same (shape.function k.after) e)) point
      by_order t u (inr (inr l)) a = absurd (not_lt_of_le a l)
  tells_knot {old} {new} F k to is s begins point gap (inr two) = tells_on shape F is half two.2 (λ t a u. gap t (subst (λ e. After e t) two.1.ends a) u)
    where
      there : (t : Rational) → value k.time ≤ʳ t → t ≤ʳ value k.time → F t (value_at (shape.function k.point) t)
      there t a u = let e = same_of_le a u in
          is.alike (value k.time) t (value_at (shape.function k.point) (value k.time)) (value_at (shape.function k.point) t) e
          (value_same (shape.function k.point) e) point

      half : TellsSoFar shape F two.0
      half = tells_on shape F is s two.1 (λ t a u. there t (after_same (stop old) (before (value k.time)) t begins a) u)

  -- where it ends then
  pub ends_knot : {old new : Chain P} (k : Knot P) (to : Frac) → GoesOnBy shape old k to new
      → (stop new ≡ place (record { time = to; side = 0 })) × (new.from ≡ old.from)
      × ((p : P) → HasShape new p → HasShape old p ⊎ (p ≡ k.point) ⊎ (p ≡ k.after))
  ends_knot k to (inl one) = (one.1.ends, one.1.begins, λ p h. elim (one.1.shapes p h) [ inl x ↦ inl x | inr x ↦ inr (inr x) ])
  ends_knot {old} k to (inr two) = (two.2.ends, two.2.begins ∙ two.1.begins, λ p h. by_part p (two.2.shapes p h))
    where
      by_half : (p : P) → HasShape old p ⊎ (p ≡ k.point) → HasShape old p ⊎ (p ≡ k.point) ⊎ (p ≡ k.after)
      by_half p (inl x) = inl x
      by_half p (inr x) = inr (inl x)

      by_part : (p : P) → HasShape two.0 p ⊎ (p ≡ k.after) → HasShape old p ⊎ (p ≡ k.point) ⊎ (p ≡ k.after)
      by_part p (inl x) = by_half p (two.1.shapes p x)
      by_part p (inr x) = inr (inr x)

  -- what the chain is worth at its first time
  pub first_worth : (chain : Chain P) (p : Piece P) → IsNormal shape chain → slice_get chain.pieces 0 ≡ Some p → chain.from.after ≡ false
      → IsWorth shape chain chain.from.at (value_at (shape.function p.shape) chain.from.at)
  first_worth chain p s e before = worth_place shape chain.from chain.pieces 0 p chain.from.at e (here_after chain.from before)
      (earlier_upto chain.from (end p) (rises_at chain.from chain.pieces 0 p s.rising e))

  -- and on the gap of a piece
  pub gap_worth : (chain : Chain P) (i : ℕ) (p : Piece P) (t : Rational) → slice_get chain.pieces i ≡ Some p
      → (begin_at chain.from chain.pieces i).at <ʳ t → t <ʳ (end p).at → IsWorth shape chain t (value_at (shape.function p.shape) t)
  gap_worth chain i p t e a u = worth_place shape chain.from chain.pieces i p t e (after_of_lt (begin_at chain.from chain.pieces i) t a)
      (upto_of_lt (end p) t u)

  -- where a signal goes that a piece is added to
  pub added_begins : (chain : Chain P) (at : Rational) (p : Piece P) (old new : List (Knot P)) → IsAdded shape chain at p old new
      → knots.start new ≡ knots.start old
  added_begins chain at p old new (inl h) = ap (λ ks. knots.start ks) h.1
  added_begins chain at p old new (inr h) = h.4.begins

  pub added_ends : (chain : Chain P) (at : Rational) (p : Piece P) (old new : List (Knot P)) → IsAdded shape chain at p old new
      → at ≈ knots.stop old → at ≤ʳ (end p).at → knots.stop new ≈ (end p).at
  added_ends chain at p old new (inl h) here le = subst (λ ks. knots.stop ks ≈ (end p).at) (sym h.1)
      (same_trans (same_sym here) (by_order (lt_or_same_or_gt at (end p).at)))
    where
      by_order : (at <ʳ (end p).at) ⊎ (at ≈ (end p).at) ⊎ ((end p).at <ʳ at) → at ≈ (end p).at
      by_order (inl l) = absurd (h.0 l)
      by_order (inr (inl e)) = e
      by_order (inr (inr l)) = absurd (not_lt_of_le le l)
  added_ends chain at p old new (inr h) here le = subst (λ s. s ≈ (end p).at) (sym h.4.ends) (same_refl (end p).at)

  -- it goes on telling what the chain is worth, in shapes of it
  pub added_tells : (chain : Chain P) (at : Rational) (p : Piece P) (old new : List (Knot P)) → IsNormal shape chain
      → so_far.TellsSoFar shape (IsWorth shape chain) old → at ≈ knots.stop old
      → ((t : Rational) → at <ʳ t → t <ʳ (end p).at → IsWorth shape chain t (value_at (shape.function p.shape) t)) → IsAdded shape chain at p old new
      → so_far.TellsSoFar shape (IsWorth shape chain) new
  added_tells chain at p old new s tells here gap (inl h) = subst (λ ks. so_far.TellsSoFar shape (IsWorth shape chain) ks) (sym h.1) tells
  added_tells chain at p old new s tells here gap (inr h) = so_far.tells_on shape (IsWorth shape chain) old new p.shape h.1 p.until.time
      (worth_is_function shape chain s) tells h.4 (λ t a u. gap t (lt_of_le_of_lt (le_of_same here) a) u) h.3

  pub added_shapes : (chain : Chain P) (at : Rational) (p : Piece P) (old new : List (Knot P)) → HasShape chain p.shape
      → ((r : P) → knots.HasShape old r → HasShape chain r) → IsAdded shape chain at p old new → (r : P) → knots.HasShape new r → HasShape chain r
  added_shapes chain at p old new has is (inl h) r m = is r (subst (λ ks. knots.HasShape ks r) h.1 m)
  added_shapes chain at p old new has is (inr h) r m = by_part (h.4.shapes r m)
    where
      by_part : knots.HasShape old r ⊎ (r ≡ p.shape) ⊎ (r ≡ h.1) → HasShape chain r
      by_part (inl k) = is r k
      by_part (inr (inl e)) = subst (λ s. HasShape chain s) (sym e) has
      by_part (inr (inr e)) = subst (λ s. HasShape chain s) (sym e) h.2

  -- the last knot of a signal ends the chain with its point
  pub tells_last : {old new : Chain P} (F : Function) (k : Knot P) (until : Cut) → until ≡ record { time = k.time; side = 1 } → IsFunction F
      → TellsSoFar shape F old → Same (stop old) (before (value k.time)) → F (value k.time) (value_at (shape.function k.point) (value k.time))
      → GoesOn shape old until k.point new → TellsSoFar shape F new
  tells_last {old} {new} F k until e is s begins point on =
      tells_on shape F is s on (λ t a u. there t (after_same (stop old) (before (value k.time)) t begins a)
      (subst (λ u. Upto (place u) t) e u))
    where
      there : (t : Rational) → value k.time ≤ʳ t → t ≤ʳ value k.time → F t (value_at (shape.function k.point) t)
      there t a u = let e = same_of_le a u in
          is.alike (value k.time) t (value_at (shape.function k.point) (value k.time)) (value_at (shape.function k.point) t) e
          (value_same (shape.function k.point) e) point

  -- the signal of the chain's first time
  pub signal_first : (chain : Chain P) (p : Piece P) (at : Frac) (built : List (Knot P)) → IsNormal shape chain → slice_get chain.pieces 0 ≡ Some p
      → chain.from.after ≡ false → value at ≡ chain.from.at → built ≡ record { time = at; point = p.shape; after = p.shape } ∷ []
      → so_far.TellsSoFar shape (IsWorth shape chain) built
  signal_first chain p at built s e before is made = so_far.tells_first shape (IsWorth shape chain) built p.shape at (worth_is_function shape chain s)
      (subst (λ t. IsWorth shape chain t (value_at (shape.function p.shape) t)) (sym is) (first_worth chain p s e before)) made

  pub signal_first_shapes : (chain : Chain P) (p : Piece P) (at : Frac) (built : List (Knot P)) → slice_get chain.pieces 0 ≡ Some p
      → built ≡ record { time = at; point = p.shape; after = p.shape } ∷ [] → (r : P) → knots.HasShape built r → HasShape chain r
  signal_first_shapes chain p at built e made r h = by_part (subst (λ ks. knots.HasShape ks r) made h)
    where
      here : r ≡ p.shape → HasShape chain r
      here f = subst (λ s. HasShape chain s) (sym f) (shape_at chain.pieces 0 p e)

      by_part : knots.HasShape (record { time = at; point = p.shape; after = p.shape } ∷ []) r → HasShape chain r
      by_part (inl f) = here f
      by_part (inr (inl f)) = here f
      by_part (inr (inr f)) = absurd f
