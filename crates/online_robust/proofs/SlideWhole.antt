-- The chain of all that a window's input has told: it has the input's values, and a window may go over it.
use Rattle.std.proofs.Common.{◌⊎◌, inl, inr, ℕ, ◌≤◌, ◌^◌, List, [], ◌∷◌, ◌++◌, arith, pos}
use Rattle.std.specs.Prelude.{neg_ℤ, ◌≤ℤ◌}
use Rattle.std.proofs.lemmas.Int.{ints}
use Rattle.rational.specs.Time.{Rational}
use Rattle.rational.specs.Extended.{Extended}
use Rattle.rational.specs.Affine.{IsBounded}
use Rattle.rational.specs.Places.{Place, After, Same, Upto}
use Rattle.rational.specs.Windows.{Function}
use Rattle.rational.proofs.TimeFunctions.{IsFunction}
use Rattle.frac128.specs.Cuts.{place}
use Rattle.frac128.specs.declared.cut.Cut.{Cut}
use Rattle.value_laws.specs.Kinds.{margin_shape}
use Rattle.value_laws.specs.Margins.{margin_base}
use Rattle.value_laws.specs.declared.margin.Margin.{Margin}
use Rattle.value_laws.specs.declared.margin.Margin.TheVariants.{Low}
use Rattle.pieces.specs.declared.piece.Piece.{Piece}
use Rattle.pieces.specs.Chains.{HasShape, IsWorth, stop_from}
use Rattle.pieces.proofs.ChainLemmas.{every_time, rise_append, shape_in, worth_in, worth_same}
use Rattle.rational.proofs.Order.{same_refl}
use Rattle.online_robust.specs.Slides.{AreFrom, ArePart, after_time, chain_of, cut_of, piece_of, pieces_of}
use Rattle.online_robust.specs.Told.{AreFit, AreTold, IsMovedBy}
use Rattle.online_robust.specs.declared.line.MarginLine.{MarginLine}
use Rattle.online_robust.proofs.SlideParts.{line_part}

module _ (F : Function) (is : IsFunction F) (reach : ℕ) where
  -- pieces that go on from others
  pub parts_join : (from : Place) (ps qs : List (Piece Margin)) → ArePart F reach from ps → ArePart F reach (stop_from from ps) qs
      → ArePart F reach from (ps ++ qs)
  parts_join from ps qs a b = record {
    rise = rise_append from ps qs a.rise b.rise;
    worth = λ t v w. by_part t v (worth_in margin_shape from ps qs t v w);
    moved = λ q h. by_shape q (shape_in ps qs q h);
  }
    where
      by_part : (t : Rational) (v : Extended) → IsWorth margin_shape (chain_of from ps) t v ⊎ IsWorth margin_shape (chain_of (stop_from from ps) qs) t v
          → F t v × IsBounded (2 ^ 31) v
      by_part t v (inl h) = a.worth t v h
      by_part t v (inr h) = b.worth t v h

      by_shape : (q : Margin) → HasShape (chain_of from ps) q ⊎ HasShape (chain_of (stop_from from ps) qs) q → IsMovedBy reach q
      by_shape q (inl h) = a.moved q h
      by_shape q (inr h) = b.moved q h

  -- no pieces
  pub parts_none : (from : Place) → ArePart F reach from []
  parts_none from = record { rise = tt; worth = λ t v w. absurd w; moved = λ q h. absurd h }

  -- the lines of an input from a place on are pieces that tell it, up to its front
  pub lines_part : (c : Place) (front : Rational) (lines : List MarginLine) → AreTold F lines → AreFit reach lines → AreFrom c front lines
      → ArePart F reach c (pieces_of lines) × Same (stop_from c (pieces_of lines)) (after_time front)
  lines_part c front [] told fit from = (parts_none c, from)
  lines_part c front (x ∷ lines) told fit from =
      let first = line_part F is reach c front x lines told fit from in
      let later = lines_part (place (cut_of x)) front lines told.1 fit.1 first.1 in
      (parts_join c (piece_of x ∷ []) (pieces_of lines) first.0 later.0, later.1)

  -- where a chain has the function's values it has all of them
  pub part_back : (from : Place) (ps : List (Piece Margin)) → ArePart F reach from ps → (t : Rational) (v : Extended) → After from t
      → Upto (stop_from from ps) t → F t v → IsWorth margin_shape (chain_of from ps) t v
  part_back from ps part t v after upto f =
      let (u, w) = every_time margin_shape from ps t after upto in
      worth_same margin_shape from ps u v (same_refl t) (is.one t u v (part.worth t u w).0 f) w

-- ---- the piece without values behind

-- a margin without values
abbrev pub nothing_up_to : Cut → Piece Margin
nothing_up_to c = record { until = c; shape = Low }

-- the bases of moved margins are near
pub near_moved : (reach : ℕ) (p : Margin) → reach ≤ 4294967295 → IsMovedBy reach p → (neg_ℤ (pos (2 ^ 32)) ≤ℤ margin_base p) × (margin_base p ≤ℤ pos (2 ^ 33))
near_moved reach p small (low, high) = (omega (arith, ints, small, low), omega (arith, ints, small, high))

-- a margin without values is moved by nothing
pub low_moved : (reach : ℕ) → IsMovedBy reach Low
low_moved reach = (omega (arith, ints), omega (arith, ints))
