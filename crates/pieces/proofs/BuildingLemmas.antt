-- What becomes of a chain that goes on with a shape.
use Rattle.std.proofs.Common.{◌≡◌, ◌⊎◌, inl, inr, List, [], ◌∷◌, ◌++◌, refl, sym, ap, subst}
use Rattle.rational.specs.Time.{Rational}
use Rattle.rational.specs.Extended.{Extended, Passes}
use Rattle.rational.specs.Affine.{AreSame}
use Rattle.rational.specs.Places.{Place, After, Upto, Before, AtMost}
use Rattle.rational.proofs.AffineLemmas.{value_same}
use Rattle.rational.proofs.Sames.{symᵉ, transᵉ}
use Rattle.rational.proofs.Order.{same_refl}
use Rattle.rational.proofs.PlaceLemmas.{sides, upto_of_before, after_at_most, before_of_at_most}
use Rattle.frac128.specs.Cuts.{place}
use Rattle.frac128.specs.declared.cut.Cut.{Cut}
use Rattle.value_laws.specs.Members.{ShapeOf}
use Rattle.pieces.specs.declared.piece.Piece.{Piece}
use Rattle.pieces.specs.Chains.{Chain, end, stop_from, HasShapeIn, Each, Rise, IsWorthFrom, CanBeLeftOut, IsPiece, IsNormal}
use Rattle.pieces.specs.Building.{GoesOn, IsNew}
use Rattle.pieces.proofs.Ends.{only_time}
use Rattle.pieces.proofs.ChainLemmas.{stop_append, rise_front, rise_back, rise_append, shape_in, shape_front, shape_back, to_stop}
use Rattle.pieces.proofs.ChainLemmas.{worth_in, worth_front, worth_back, worth_after, worth_upto, every_time, worth_same}

module _ {P : Type 0} where
  -- the piece with another end
  abbrev pub longer : Piece P → Cut → Piece P
  longer p until = record { until = until; shape = p.shape }

  abbrev pub chain_of : Place → List (Piece P) → Chain P
  chain_of c ps = record { from = c; pieces = ps }

  -- where the list ends that a piece is put behind
  stop_put : (c : Place) (xs : List (Piece P)) (p : Piece P) → stop_from c (xs ++ p ∷ []) ≡ end p
  stop_put c xs p = stop_append c xs (p ∷ [])

module _ {P : Type 0} (shape : ShapeOf P) where
  -- the pieces up to one that ends elsewhere now
  each_longer : (xs : List (Piece P)) (p : Piece P) (rest : List (Piece P)) (until : Cut) → Each (IsPiece shape) (xs ++ p ∷ rest)
      → Each (IsPiece shape) (xs ++ longer p until ∷ [])
  each_longer [] p rest until h = (record { differs = tt; needed = tt }, tt)
  each_longer (x ∷ []) p rest until (h, hs) = (record { differs = h.differs; needed = tt }, each_longer [] p rest until hs)
  each_longer (x ∷ y ∷ []) p rest until (h, hs) = (record { differs = h.differs; needed = h.needed }, each_longer (y ∷ []) p rest until hs)
  each_longer (x ∷ y ∷ z ∷ xs) p rest until (h, hs) = (record { differs = h.differs; needed = h.needed }, each_longer (y ∷ z ∷ xs) p rest until hs)

  new_behind : (x : Piece P) (xs : List (Piece P)) (more : P) → IsNew shape (x ∷ xs) more → IsNew shape xs more
  new_behind x xs more h = record {
    differs = λ front last e. h.differs (x ∷ front) last (ap (λ ps. x ∷ ps) e);
    needed = λ front p q e. h.needed (x ∷ front) p q (ap (λ ps. x ∷ ps) e);
  }

  each_put : (xs : List (Piece P)) (q : Piece P) → IsNew shape xs q.shape → Each (IsPiece shape) xs → Each (IsPiece shape) (xs ++ q ∷ [])
  each_put [] q new h = (record { differs = tt; needed = tt }, tt)
  each_put (x ∷ []) q new (h, hs) = (record { differs = new.differs [] x refl; needed = tt }, each_put [] q (new_behind x [] q.shape new) hs)
  each_put (x ∷ y ∷ []) q new (h, hs) =
      (record { differs = h.differs; needed = new.needed [] x y refl }, each_put (y ∷ []) q (new_behind x (y ∷ []) q.shape new) hs)
  each_put (x ∷ y ∷ z ∷ xs) q new (h, hs) =
      (record { differs = h.differs; needed = h.needed }, each_put (y ∷ z ∷ xs) q (new_behind x (y ∷ z ∷ xs) q.shape new) hs)

  -- a new piece is put behind the others
  pub goes_on_new : (c : Place) (ps : List (Piece P)) (until : Cut) (more : P) → IsNormal shape (chain_of c ps) → IsNew shape ps more
      → Before (stop_from c ps) (place until) → GoesOn shape (chain_of c ps) until more (chain_of c (ps ++ record { until = until; shape = more } ∷ []))
  goes_on_new c ps until more normal new later = record {
    normal = record { rising = rise_append c ps (q ∷ []) normal.rising (later, tt); each = each_put ps q new normal.each };
    begins = refl;
    ends = stop_put c ps q;
    worth = λ t v. (λ w. into t v (worth_in shape c ps (q ∷ []) t v w), λ w. back t v w);
    shapes = λ r h. by_shape r (shape_in ps (q ∷ []) r h);
  }
    where
      q : Piece P
      q = record { until = until; shape = more }

      into : (t : Rational) (v : Extended) → IsWorthFrom shape c ps t v ⊎ IsWorthFrom shape (stop_from c ps) (q ∷ []) t v
          → IsWorthFrom shape c ps t v ⊎ (After (stop_from c ps) t × Upto (place until) t × Passes (shape.function more) t v)
      into t v (inl w) = inl w
      into t v (inr (inl w)) = inr w
      into t v (inr (inr w)) = absurd w

      back : (t : Rational) (v : Extended) → IsWorthFrom shape c ps t v ⊎ (After (stop_from c ps) t × Upto (place until) t × Passes (shape.function more) t v)
          → IsWorthFrom shape c (ps ++ q ∷ []) t v
      back t v (inl w) = worth_front shape c ps (q ∷ []) t v w
      back t v (inr w) = worth_back shape c ps (q ∷ []) t v (inl w)

      by_shape : (r : P) → HasShapeIn ps r ⊎ HasShapeIn (q ∷ []) r → HasShapeIn ps r ⊎ (r ≡ more)
      by_shape r (inl h) = inl h
      by_shape r (inr (inl e)) = inr e
      by_shape r (inr (inr e)) = absurd e

  -- a piece goes on over the rest, which lies on it
  goes_on_over : (c : Place) (xs : List (Piece P)) (p : Piece P) (rest : List (Piece P)) (until : Cut) (more : P)
      → IsNormal shape (chain_of c (xs ++ p ∷ rest)) → Before (stop_from c (xs ++ p ∷ rest)) (place until)
      → AreSame (shape.function p.shape) (shape.function more)
      → ((t : Rational) (v : Extended) → IsWorthFrom shape (end p) rest t v → Passes (shape.function p.shape) t v)
      → GoesOn shape (chain_of c (xs ++ p ∷ rest)) until more (chain_of c (xs ++ longer p until ∷ []))
  goes_on_over c xs p rest until more normal later same on = record {
    normal = record {
      rising = rise_append c xs (longer p until ∷ []) (rise_front c xs (p ∷ rest) normal.rising) (begin_later, tt);
      each = each_longer xs p rest until normal.each;
    };
    begins = refl;
    ends = stop_put c xs (longer p until);
    worth = λ t v. (λ w. into t v (worth_in shape c xs (longer p until ∷ []) t v w), λ w. back t v w);
    shapes = λ r h. by_shape r (shape_in xs (longer p until ∷ []) r h);
  }
    where
      tail : Rise (stop_from c xs) (p ∷ rest)
      tail = rise_back c xs (p ∷ rest) normal.rising

      at_end : Before (stop_from (end p) rest) (place until)
      at_end = subst (λ s. Before s (place until)) (stop_append c xs (p ∷ rest)) later

      end_most : AtMost (end p) (stop_from (end p) rest)
      end_most = to_stop (end p) rest tail.1

      begin_most : AtMost (stop_from c xs) (stop_from (end p) rest)
      begin_most = to_stop (stop_from c xs) (p ∷ rest) tail

      begin_later : Before (stop_from c xs) (place until)
      begin_later = before_of_at_most (stop_from c xs) (stop_from (end p) rest) (place until) begin_most at_end

      Old : Rational → Extended → Type 0
      Old t v = IsWorthFrom shape c (xs ++ p ∷ rest) t v
          ⊎ (After (stop_from c (xs ++ p ∷ rest)) t × Upto (place until) t × Passes (shape.function more) t v)

      in_rest : (t : Rational) (v : Extended) → After (end p) t → Upto (stop_from (end p) rest) t → Passes (shape.function p.shape) t v
          → IsWorthFrom shape (end p) rest t v
      in_rest t v a u w = let x = every_time shape (end p) rest t a u in
          worth_same shape (end p) rest x.0 v (same_refl t) (transᵉ (on t x.0 x.1) (symᵉ w)) x.1

      in_tail : (t : Rational) (v : Extended) → After (stop_from c xs) t → Upto (stop_from (end p) rest) t → Passes (shape.function p.shape) t v
          → IsWorthFrom shape (stop_from c xs) (p ∷ rest) t v
      in_tail t v a u w = elim (sides (end p) t) [ inl k ↦ inl (a, k, w) | inr k ↦ inr (in_rest t v k u w) ]

      by_side : (t : Rational) (v : Extended) → After (stop_from c xs) t → Upto (place until) t → Passes (shape.function p.shape) t v
          → Upto (stop_from (end p) rest) t ⊎ After (stop_from (end p) rest) t → Old t v
      by_side t v a u w (inl k) = inl (worth_back shape c xs (p ∷ rest) t v (in_tail t v a k w))
      by_side t v a u w (inr k) = inr (subst (λ s. After s t) (sym (stop_append c xs (p ∷ rest))) k, u, transᵉ w (same t))

      into : (t : Rational) (v : Extended) → IsWorthFrom shape c xs t v ⊎ IsWorthFrom shape (stop_from c xs) (longer p until ∷ []) t v → Old t v
      into t v (inl w) = inl (worth_front shape c xs (p ∷ rest) t v w)
      into t v (inr (inl w)) = by_side t v w.0 w.1 w.2 (sides (stop_from (end p) rest) t)
      into t v (inr (inr w)) = absurd w

      of_tail : (t : Rational) (v : Extended) → IsWorthFrom shape (stop_from c xs) (p ∷ rest) t v → IsWorthFrom shape c (xs ++ longer p until ∷ []) t v
      of_tail t v w = worth_back shape c xs (longer p until ∷ []) t v (inl (
        worth_after shape (stop_from c xs) (p ∷ rest) t v tail w,
        upto_of_before (stop_from (end p) rest) (place until) t at_end (worth_upto shape (stop_from c xs) (p ∷ rest) t v tail w),
        of_piece w,
      ))
        where
          of_piece : IsWorthFrom shape (stop_from c xs) (p ∷ rest) t v → Passes (shape.function p.shape) t v
          of_piece (inl x) = x.2
          of_piece (inr x) = on t v x

      of_old : (t : Rational) (v : Extended) → IsWorthFrom shape c xs t v ⊎ IsWorthFrom shape (stop_from c xs) (p ∷ rest) t v
          → IsWorthFrom shape c (xs ++ longer p until ∷ []) t v
      of_old t v (inl w) = worth_front shape c xs (longer p until ∷ []) t v w
      of_old t v (inr w) = of_tail t v w

      back : (t : Rational) (v : Extended) → Old t v → IsWorthFrom shape c (xs ++ longer p until ∷ []) t v
      back t v (inl w) = of_old t v (worth_in shape c xs (p ∷ rest) t v w)
      back t v (inr w) = worth_back shape c xs (longer p until ∷ []) t v (inl (
        after_at_most (stop_from c xs) (stop_from (end p) rest) t begin_most (subst (λ s. After s t) (stop_append c xs (p ∷ rest)) w.0),
        w.1,
        transᵉ w.2 (symᵉ (same t)),
      ))

      by_shape : (r : P) → HasShapeIn xs r ⊎ HasShapeIn (longer p until ∷ []) r → HasShapeIn (xs ++ p ∷ rest) r ⊎ (r ≡ more)
      by_shape r (inl h) = inl (shape_front xs (p ∷ rest) r h)
      by_shape r (inr (inl e)) = inl (shape_back xs (p ∷ rest) r (inl e))
      by_shape r (inr (inr e)) = absurd e

  -- the last piece goes on
  pub goes_on_same : (c : Place) (xs : List (Piece P)) (p : Piece P) (until : Cut) (more : P)
      → IsNormal shape (chain_of c (xs ++ p ∷ [])) → Before (stop_from c (xs ++ p ∷ [])) (place until)
      → AreSame (shape.function p.shape) (shape.function more)
      → GoesOn shape (chain_of c (xs ++ p ∷ [])) until more (chain_of c (xs ++ longer p until ∷ []))
  goes_on_same c xs p until more normal later same = goes_on_over c xs p [] until more normal later same (λ t v w. absurd w)

  -- the last piece but one does, and the last one leaves
  pub goes_on_left : (c : Place) (xs : List (Piece P)) (p q : Piece P) (until : Cut) (more : P)
      → IsNormal shape (chain_of c (xs ++ p ∷ q ∷ [])) → Before (stop_from c (xs ++ p ∷ q ∷ [])) (place until) → CanBeLeftOut shape p q more
      → GoesOn shape (chain_of c (xs ++ p ∷ q ∷ [])) until more (chain_of c (xs ++ longer p until ∷ []))
  goes_on_left c xs p q until more normal later out = goes_on_over c xs p (q ∷ []) until more normal later out.around by_part
    where
      by_part : (t : Rational) (v : Extended) → IsWorthFrom shape (end p) (q ∷ []) t v → Passes (shape.function p.shape) t v
      by_part t v (inl w) = let e = only_time (end p) (end q) t out.instant w.0 w.1 in
          transᵉ w.2 (transᵉ (value_same (shape.function q.shape) e) (transᵉ (symᵉ out.here) (symᵉ (value_same (shape.function p.shape) e))))
      by_part t v (inr w) = absurd w
