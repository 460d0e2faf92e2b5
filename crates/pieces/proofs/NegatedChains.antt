-- A chain negated piece by piece.
use Rattle.std.proofs.Common.{◌≡◌, inl, inr, ℕ, zero, suc, ◌^◌, List, [], ◌∷◌, Some, length, set, refl, sym, ap, subst, arith, IsTrue}
use Rattle.std.specs.Prelude.{slice_get}
use Rattle.rational.specs.Time.{Rational, ◌≈◌}
use Rattle.rational.specs.Extended.{Extended, ◌≈ᵉ◌, opposite, value_at, Affine}
use Rattle.rational.specs.Affine.{AreSame, HasBoundedLevel, IsBounded}
use Rattle.rational.specs.Places.{Place, Upto, Before, Same}
use Rattle.rational.proofs.AffineLemmas.{opposite_back, same_reflᵉ}
use Rattle.rational.proofs.Bounds.{level_bounded}
use Rattle.rational.proofs.PlaceLemmas.{between}
use Rattle.rational.proofs.ExtendedLemmas.{opposite_twice}
use Rattle.rational.proofs.Sames.{symᵉ, transᵉ}
use Rattle.frac128.specs.Cuts.{place}
use Rattle.value_laws.specs.Laws.{IsOpposite}
use Rattle.value_laws.specs.Members.{ShapeOf}
use Rattle.pl_signal.proofs.Values.{some_is}
use Rattle.pieces.specs.declared.piece.Piece.{Piece}
use Rattle.pieces.specs.Chains.{end, stop_from, HasShapeIn, Each, Rise, IsWorth, IsWorthFrom, CanBeLeftOut, IsPiece, IsNormal, Tells}
use Rattle.pieces.specs.Negating.{AreLevel, AreOpposite, IsOppositePiece, Negated}
use Rattle.pieces.proofs.Ends.{same_place}
use Rattle.pieces.proofs.ChainLemmas.{worth_after, worth_upto}
use Rattle.pieces.proofs.ReadUpTo.{shape_at}

from_opposites : (v w : Extended) → opposite v ≈ᵉ opposite w → v ≈ᵉ w
from_opposites v w h = let e = opposite_back (opposite v) w h in symᵉ (rw opposite_twice at e)

-- two functions are one where those that are minus them are
same_of_opposites : (f g h k : Affine) → IsOpposite f h → IsOpposite g k → AreSame h k → AreSame f g
same_of_opposites f g h k a b same t =
    from_opposites (value_at f t) (value_at g t) (transᵉ (symᵉ (a t)) (transᵉ (same t) (b t)))

module _ {P : Type 0} (shape : ShapeOf P) where
  end_is : (p q : Piece P) → IsOppositePiece shape p q → end q ≡ end p
  end_is p q h = ap (λ u. place u) h.until

  -- the ends are the same
  pub stop_opposite : (c : Place) (ps qs : List (Piece P)) → AreOpposite shape ps qs → stop_from c qs ≡ stop_from c ps
  stop_opposite c [] [] h = refl
  stop_opposite c [] (q ∷ qs) h = absurd h
  stop_opposite c (p ∷ ps) [] h = absurd h
  stop_opposite c (p ∷ ps) (q ∷ qs) h = subst (λ e. stop_from e qs ≡ stop_from (end p) ps) (sym (end_is p q h.0)) (stop_opposite (end p) ps qs h.1)

  -- opposite pieces rise where the pieces do
  pub rise_opposite : (c : Place) (ps qs : List (Piece P)) → AreOpposite shape ps qs → Rise c ps → Rise c qs
  rise_opposite c [] [] h k = tt
  rise_opposite c [] (q ∷ qs) h k = absurd h
  rise_opposite c (p ∷ ps) [] h k = absurd h
  rise_opposite c (p ∷ ps) (q ∷ qs) h k =
      subst (λ e. Before c e × Rise e qs) (sym (end_is p q h.0)) (k.0, rise_opposite (end p) ps qs h.1 k.1)

  -- no piece is needless that was needed
  left_out : (p p' q q' : Piece P) (r r' : P) → IsOppositePiece shape p p' → IsOppositePiece shape q q' → IsOpposite (shape.function r) (shape.function r')
      → CanBeLeftOut shape p' q' r' → CanBeLeftOut shape p q r
  left_out p p' q q' r r' a b c out = record {
    instant = subst (λ e. e.at ≈ (end q).at) (end_is p p' a) (subst (λ e. (end p').at ≈ e.at) (end_is q q' b) out.instant);
    around = same_of_opposites (shape.function p.shape) (shape.function r) (shape.function p'.shape) (shape.function r') a.value c out.around;
    here = subst (λ e. value_at (shape.function p.shape) e.at ≈ᵉ value_at (shape.function q.shape) e.at) (end_is q q' b)
        (from_opposites (value_at (shape.function p.shape) (end q').at) (value_at (shape.function q.shape) (end q').at)
        (transᵉ (symᵉ (a.value (end q').at)) (transᵉ out.here (b.value (end q').at))));
  }

  piece_opposite : (p q : Piece P) (ps qs : List (Piece P)) → IsOppositePiece shape p q → AreOpposite shape ps qs → IsPiece shape p ps → IsPiece shape q qs
  piece_opposite p q [] [] a h is = record { differs = tt; needed = tt }
  piece_opposite p q [] (q' ∷ qs) a h is = absurd h
  piece_opposite p q (p' ∷ ps) [] a h is = absurd h
  piece_opposite p q (p' ∷ []) (q' ∷ []) a h is = record {
    differs = λ same. is.differs
        (same_of_opposites (shape.function p.shape) (shape.function p'.shape) (shape.function q.shape) (shape.function q'.shape) a.value h.0.value same);
    needed = tt;
  }
  piece_opposite p q (p' ∷ []) (q' ∷ s ∷ qs) a h is = absurd h.1
  piece_opposite p q (p' ∷ r ∷ ps) (q' ∷ []) a h is = absurd h.1
  piece_opposite p q (p' ∷ r ∷ ps) (q' ∷ s ∷ qs) a h is = record {
    differs = λ same. is.differs
        (same_of_opposites (shape.function p.shape) (shape.function p'.shape) (shape.function q.shape) (shape.function q'.shape) a.value h.0.value same);
    needed = λ out. is.needed (left_out p q p' q' r.shape s.shape a h.0 h.1.0.value out);
  }

  -- opposite pieces differ, and are needed, where the pieces do and are
  pub each_opposite : (ps qs : List (Piece P)) → AreOpposite shape ps qs → Each (IsPiece shape) ps → Each (IsPiece shape) qs
  each_opposite [] [] h k = tt
  each_opposite [] (q ∷ qs) h k = absurd h
  each_opposite (p ∷ ps) [] h k = absurd h
  each_opposite (p ∷ ps) (q ∷ qs) h k = (piece_opposite p q ps qs h.0 h.1 k.0, each_opposite ps qs h.1 k.1)

  -- what is worth v is minus what is worth minus v
  pub worth_opposite : (c : Place) (ps qs : List (Piece P)) (t : Rational) (v : Extended) → AreOpposite shape ps qs → IsWorthFrom shape c qs t v
      → IsWorthFrom shape c ps t (opposite v)
  worth_opposite c [] [] t v h w = absurd w
  worth_opposite c [] (q ∷ qs) t v h w = absurd h
  worth_opposite c (p ∷ ps) [] t v h w = absurd h
  worth_opposite c (p ∷ ps) (q ∷ qs) t v h (inl w) = inl (
    w.0,
    subst (λ e. Upto e t) (end_is p q h.0) w.1,
    symᵉ (opposite_back v (value_at (shape.function p.shape) t) (transᵉ w.2 (h.0.value t))),
  )
  worth_opposite c (p ∷ ps) (q ∷ qs) t v h (inr w) =
      inr (worth_opposite (end p) ps qs t v h.1 (subst (λ e. IsWorthFrom shape e qs t v) (end_is p q h.0) w))

  -- opposite pieces are worth minus what the pieces are worth
  pub opposite_worth : (c : Place) (ps qs : List (Piece P)) (t : Rational) (v : Extended) → AreOpposite shape ps qs → IsWorthFrom shape c ps t (opposite v)
      → IsWorthFrom shape c qs t v
  opposite_worth c [] [] t v h w = absurd w
  opposite_worth c [] (q ∷ qs) t v h w = absurd h
  opposite_worth c (p ∷ ps) [] t v h w = absurd h
  opposite_worth c (p ∷ ps) (q ∷ qs) t v h (inl w) = inl (
    w.0,
    subst (λ e. Upto e t) (sym (end_is p q h.0)) w.1,
    transᵉ (opposite_back (value_at (shape.function p.shape) t) v (symᵉ w.2)) (symᵉ (h.0.value t)),
  )
  opposite_worth c (p ∷ ps) (q ∷ qs) t v h (inr w) =
      inr (subst (λ e. IsWorthFrom shape e qs t v) (sym (end_is p q h.0)) (opposite_worth (end p) ps qs t v h.1 w))

  -- the bases are those of the shapes before
  pub bases_opposite : (ps qs : List (Piece P)) (r : P) → AreOpposite shape ps qs → HasShapeIn qs r → IsTrue (shape.moves r)
      → (q : P) × HasShapeIn ps q × IsTrue (shape.moves q) × (shape.base r ≡ shape.base q)
  bases_opposite [] [] r h k m = absurd k
  bases_opposite [] (q ∷ qs) r h k m = absurd h
  bases_opposite (p ∷ ps) [] r h k m = absurd h
  bases_opposite (p ∷ ps) (q ∷ qs) r h (inl e) m =
      let b = h.0.base (subst (λ s. IsTrue (shape.moves s)) e m) in
      (p.shape, inl refl, b.0, subst (λ s. shape.base s ≡ shape.base p.shape) (sym e) b.1)
  bases_opposite (p ∷ ps) (q ∷ qs) r h (inr k) m = let x = bases_opposite ps qs r h.1 k m in (x.0, inr x.1, x.2, x.3)

  -- the first i pieces are negated, and the others stand as they were
  abbrev pub AreOppositeTo : ℕ → List (Piece P) → List (Piece P) → Type 0
  AreOppositeTo zero ps qs = qs ≡ ps
  AreOppositeTo (suc i) [] qs = ⊥
  AreOppositeTo (suc i) (p ∷ ps) [] = ⊥
  AreOppositeTo (suc i) (p ∷ ps) (q ∷ qs) = IsOppositePiece shape p q × AreOppositeTo i ps qs

  -- one more
  pub opposite_step : (i : ℕ) (ps qs : List (Piece P)) (x y : Piece P) → AreOppositeTo i ps qs → slice_get qs i ≡ Some x → IsOppositePiece shape x y
      → AreOppositeTo (suc i) ps (set qs i y)
  opposite_step zero [] qs x y h e o = absurd (let f : slice_get [] 0 ≡ Some x = subst (λ l. slice_get l 0 ≡ Some x) h e in cc)
  opposite_step zero (p ∷ ps) [] x y h e o = absurd (cc)
  opposite_step zero (p ∷ ps) (q ∷ qs) x y h e o =
      (subst (λ p. IsOppositePiece shape p y) (let f : q ≡ x = some_is e in let k : q ≡ p = cc in cc) o, let k : qs ≡ ps = cc in k)
  opposite_step (suc i) [] qs x y h e o = absurd h
  opposite_step (suc i) (p ∷ ps) [] x y h e o = absurd h
  opposite_step (suc i) (p ∷ ps) (q ∷ qs) x y h e o = (h.0, opposite_step i ps qs x y h.1 e o)

  -- all of them
  pub opposite_all : (i : ℕ) (ps qs : List (Piece P)) → AreOppositeTo i ps qs → i ≡ length ps → AreOpposite shape ps qs
  opposite_all zero [] qs h e = subst (λ l. AreOpposite shape [] l) (sym h) tt
  opposite_all zero (p ∷ ps) qs h e = absurd (omega (arith, e))
  opposite_all (suc i) [] qs h e = absurd h
  opposite_all (suc i) (p ∷ ps) [] h e = absurd h
  opposite_all (suc i) (p ∷ ps) (q ∷ qs) h e = (h.0, opposite_all i ps qs h.1 (omega (arith, e)))

  -- their number stays
  pub opposite_length : (i : ℕ) (ps qs : List (Piece P)) → AreOppositeTo i ps qs → length qs ≡ length ps
  opposite_length zero ps qs h = ap (λ l. length l) h
  opposite_length (suc i) [] qs h = absurd h
  opposite_length (suc i) (p ∷ ps) [] h = absurd h
  opposite_length (suc i) (p ∷ ps) (q ∷ qs) h = let e = opposite_length i ps qs h.1 in omega (arith, e)

  -- a piece that was not come to is one of those before
  pub opposite_here : (i : ℕ) (ps qs : List (Piece P)) (x : Piece P) → AreOppositeTo i ps qs → slice_get qs i ≡ Some x → HasShapeIn ps x.shape
  opposite_here zero ps qs x h e = shape_at ps 0 x (subst (λ l. slice_get l 0 ≡ Some x) h e)
  opposite_here (suc i) [] qs x h e = absurd h
  opposite_here (suc i) (p ∷ ps) [] x h e = absurd h
  opposite_here (suc i) (p ∷ ps) (q ∷ qs) x h e = inr (opposite_here i ps qs x h.1 e)

  -- the shapes of a limited chain have bounded levels
  pub levels_of : (c : Place) (ps : List (Piece P)) → Rise c ps → ((t : Rational) (v : Extended) → IsWorthFrom shape c ps t v → IsBounded (2 ^ 31) v)
      → AreLevel shape ps
  levels_of c [] h values p m = absurd m
  levels_of c (q ∷ ps) h values p (inl e) = let t = between c (end q) h.0 in
      subst (λ s. HasBoundedLevel (2 ^ 31) (shape.function s)) (sym e) (level_bounded (2 ^ 31) (shape.function q.shape) t.0
      (values t.0 (value_at (shape.function q.shape) t.0) (inl (t.1, t.2, same_reflᵉ (value_at (shape.function q.shape) t.0)))))
  levels_of c (q ∷ ps) h values p (inr m) = levels_of (end q) ps h.1 (λ t v w. values t v (inr w)) p m

  -- the chain of the negated pieces is normal, and tells minus the chain
  pub negated_normal : (c : Place) (ps qs : List (Piece P)) → AreOpposite shape ps qs → IsNormal shape (record { from = c; pieces = ps })
      → IsNormal shape (record { from = c; pieces = qs })
  negated_normal c ps qs h s = record { rising = rise_opposite c ps qs h s.rising; each = each_opposite ps qs h s.each }

  -- so a chain of opposite pieces tells minus what the chain is worth
  pub negated_tells : (c : Place) (ps qs : List (Piece P)) → AreOpposite shape ps qs → IsNormal shape (record { from = c; pieces = ps })
      → Tells shape (Negated (IsWorth shape (record { from = c; pieces = ps }))) c (stop_from c ps) (record { from = c; pieces = qs })
  negated_tells c ps qs h s = record {
    normal = negated_normal c ps qs h s;
    begins = same_place c;
    ends = subst (λ e. Same e (stop_from c ps)) (sym (stop_opposite c ps qs h)) (same_place (stop_from c ps));
    worth = λ t v. (
      λ w. let x = worth_opposite c ps qs t v h w in (
        worth_after shape c ps t (opposite v) s.rising x,
        worth_upto shape c ps t (opposite v) s.rising x,
        x,
      ),
      λ w. opposite_worth c ps qs t v h w.2,
    );
  }
