-- The lines of an input as pieces: they tell it from where the pieces before them end.
use Rattle.std.proofs.Common.{◌≡◌, ◌⊎◌, inl, inr, ℕ, ◌^◌, Bool, true, false, List, [], ◌∷◌, ◌++◌, refl, sym, subst}
use Rattle.std.specs.Prelude.{MatchBool}
use Rattle.rational.specs.Time.{Rational, ◌≈◌, ◌≤ʳ◌, ◌<ʳ◌}
use Rattle.rational.specs.Extended.{Extended, value_at, ◌≈ᵉ◌}
use Rattle.rational.specs.Affine.{IsBounded}
use Rattle.rational.specs.Places.{Place, After, Same}
use Rattle.rational.specs.Windows.{Function}
use Rattle.rational.proofs.AffineLemmas.{bounded_same, value_same}
use Rattle.rational.proofs.Bounds.{bounded_between}
use Rattle.rational.proofs.Order.{le_of_same, le_trans, lt_of_le_of_lt, same_of_le, same_refl, same_sym}
use Rattle.rational.proofs.Sames.{symᵉ, transᵉ}
use Rattle.rational.proofs.TimeFunctions.{IsFunction}
use Rattle.frac128.specs.Value.{value}
use Rattle.frac128.specs.Cuts.{place}
use Rattle.frac128.specs.declared.frac.Frac.{Frac}
use Rattle.value_laws.specs.Kinds.{margin_shape}
use Rattle.value_laws.specs.Margins.{margin_function}
use Rattle.value_laws.specs.declared.margin.Margin.{Margin}
use Rattle.pieces.specs.declared.piece.Piece.{Piece}
use Rattle.pieces.specs.Chains.{HasShape, IsWorth, stop_from}
use Rattle.pieces.specs.Streaming.{before_time}
use Rattle.pieces.proofs.ChainLemmas.{rise_append, shape_in, worth_in}
use Rattle.pieces.proofs.Ends.{after_le}
use Rattle.online_robust.specs.Slides.{AreFrom, ArePart, AreToCome, after_time, chain_of, cut_of, piece_of}
use Rattle.online_robust.specs.Told.{AreFit, AreJoined, AreTold, IsFitLine, IsMovedBy, IsToldLine}
use Rattle.online_robust.specs.declared.line.MarginLine.{MarginLine}
use Rattle.online_robust.specs.declared.line.MarginLine.TheVariants.{Point, Gap}

-- what lies behind a place just after a time is later than that
open_after : (c : Place) (t : Rational) → c.after ≡ true → After c t → c.at <ʳ t
open_after c t = by_side c.after
  where
    by_side : (b : Bool) → b ≡ true → MatchBool b (c.at <ʳ t) (c.at ≤ʳ t) → c.at <ʳ t
    by_side true e h = h
    by_side false e h = absurd (let z : false ≡ true = e in cc)

-- lines that go on from one another go on from just after where they begin
pub from_joined : (F : Function) (u to : Rational) (lines : List MarginLine) → AreTold F lines → AreJoined u to lines → AreFrom (after_time u) to lines
from_joined F u to [] told joined = (joined, refl)
from_joined F u to (Gap a b p ∷ []) told joined = absurd joined
from_joined F u to (Gap a b p ∷ Gap c d q ∷ lines) told joined = absurd joined
from_joined F u to (Gap a b p ∷ Point v q ∷ lines) told joined =
    (refl, le_of_same joined.0, lt_of_le_of_lt (le_of_same (same_sym joined.0)) told.0.0, joined.1, joined.2)
from_joined F u to (Point v q ∷ lines) told joined = absurd joined

module _ (F : Function) (is : IsFunction F) (reach : ℕ) where
  -- one piece more
  pub part_next : (from : Place) (ps : List (Piece Margin)) (p : Piece Margin) → ArePart F reach from ps → ArePart F reach (stop_from from ps) (p ∷ [])
      → ArePart F reach from (ps ++ p ∷ [])
  part_next from ps p a b = record {
    rise = rise_append from ps (p ∷ []) a.rise b.rise;
    worth = λ t v w. by_part t v (worth_in margin_shape from ps (p ∷ []) t v w);
    moved = λ q h. by_shape q (shape_in ps (p ∷ []) q h);
  }
    where
      by_part : (t : Rational) (v : Extended) → IsWorth margin_shape (chain_of from ps) t v ⊎ IsWorth margin_shape (chain_of (stop_from from ps) (p ∷ [])) t v
          → F t v × IsBounded (2 ^ 31) v
      by_part t v (inl h) = a.worth t v h
      by_part t v (inr h) = b.worth t v h

      by_shape : (q : Margin) → HasShape (chain_of from ps) q ⊎ HasShape (chain_of (stop_from from ps) (p ∷ [])) q → IsMovedBy reach q
      by_shape q (inl h) = a.moved q h
      by_shape q (inr h) = b.moved q h

  -- a gap, of which a front part may be missing
  gap_part : (c : Place) (a b : Frac) (p : Margin) → IsToldLine F (Gap a b p) → IsFitLine reach (Gap a b p) → c.after ≡ true → value a ≤ʳ c.at → c.at <ʳ value b
      → ArePart F reach c (piece_of (Gap a b p) ∷ [])
  gap_part c a b p told fit after le lt = record {
    rise = (inl lt, tt);
    worth = by_worth;
    moved = by_shape;
  }
    where
      here : (t : Rational) (v : Extended) → value a <ʳ t → t <ʳ value b → v ≈ᵉ value_at (margin_function p) t → F t v × IsBounded (2 ^ 31) v
      here t v x y e = (
        is.alike t t (value_at (margin_function p) t) v (same_refl t) (symᵉ e) (told.1 t x y),
        bounded_same (2 ^ 31) v (value_at (margin_function p) t) e
            (bounded_between (2 ^ 31) (margin_function p) (value a) t (value b) x y fit.2 fit.3),
      )

      by_worth : (t : Rational) (v : Extended) → IsWorth margin_shape (chain_of c (piece_of (Gap a b p) ∷ [])) t v → F t v × IsBounded (2 ^ 31) v
      by_worth t v (inl (x, y, e)) = here t v (lt_of_le_of_lt le (open_after c t after x)) y e
      by_worth t v (inr h) = absurd h

      by_shape : (q : Margin) → HasShape (chain_of c (piece_of (Gap a b p) ∷ [])) q → IsMovedBy reach q
      by_shape q (inl e) = subst (IsMovedBy reach) (sym e) fit.4
      by_shape q (inr h) = absurd h

  -- a point
  point_part : (c : Place) (u : Frac) (p : Margin) → IsToldLine F (Point u p) → IsFitLine reach (Point u p) → c.after ≡ false → value u ≈ c.at
      → ArePart F reach c (piece_of (Point u p) ∷ [])
  point_part c u p told fit before same = record {
    rise = (inr (same_sym same, before, refl), tt);
    worth = by_worth;
    moved = by_shape;
  }
    where
      here : (t : Rational) (v : Extended) → t ≈ value u → v ≈ᵉ value_at (margin_function p) t → F t v × IsBounded (2 ^ 31) v
      here t v s e =
          let at_u : v ≈ᵉ value_at (margin_function p) (value u) = transᵉ e (value_same (margin_function p) s) in (
            is.alike (value u) t (value_at (margin_function p) (value u)) v (same_sym s) (symᵉ at_u) told,
            bounded_same (2 ^ 31) v (value_at (margin_function p) (value u)) at_u fit.1,
          )

      by_worth : (t : Rational) (v : Extended) → IsWorth margin_shape (chain_of c (piece_of (Point u p) ∷ [])) t v → F t v × IsBounded (2 ^ 31) v
      by_worth t v (inl (x, y, e)) = here t v (same_of_le y (le_trans (le_of_same same) (after_le c t x))) e
      by_worth t v (inr h) = absurd h

      by_shape : (q : Margin) → HasShape (chain_of c (piece_of (Point u p) ∷ [])) q → IsMovedBy reach q
      by_shape q (inl e) = subst (IsMovedBy reach) (sym e) fit.2
      by_shape q (inr h) = absurd h

  -- the first of the lines that go on from a place, and the others behind it
  pub line_part : (c : Place) (to : Rational) (x : MarginLine) (lines : List MarginLine) → AreTold F (x ∷ lines) → AreFit reach (x ∷ lines)
      → AreFrom c to (x ∷ lines) → ArePart F reach c (piece_of x ∷ []) × AreFrom (place (cut_of x)) to lines
  line_part c to (Gap a b p) [] told fit from = absurd from
  line_part c to (Gap a b p) (Gap d e q ∷ lines) told fit from = absurd from
  line_part c to (Gap a b p) (Point u q ∷ lines) told fit (after, le, lt, same, joined) =
      (gap_part c a b p told.0 fit.0 after le lt, (refl, same_sym same, joined))
  line_part c to (Point u q) lines told fit (before, same, joined) =
      (point_part c u q told.0 fit.0 before same, from_joined F (value u) to lines told.1 joined)

  -- so it is with what is to come
  pub come_next : (begin front : Rational) (c : Place) (x : MarginLine) (lines : List MarginLine) → AreToCome F reach begin front c (x ∷ lines)
      → ArePart F reach c (piece_of x ∷ []) × AreToCome F reach begin front (place (cut_of x)) lines
  come_next begin front c x lines come = by_on come.go_on
    where
      by_on : AreFrom c front (x ∷ lines) ⊎ ((x ∷ lines ≡ []) × (front <ʳ begin) × Same c (before_time begin))
          → ArePart F reach c (piece_of x ∷ []) × AreToCome F reach begin front (place (cut_of x)) lines
      by_on (inl from) = let h = line_part c front x lines come.told come.fit from in
          (h.0, record { told = come.told.1; fit = come.fit.1; go_on = inl h.1 })
      by_on (inr (none, lt, same)) = absurd (let z = none in cc)
