-- The best over the window of the one time: the chain itself.
use Rattle.std.proofs.Common.{arith, inl, inr, pos, true, List, [], ◌∷◌}
use Rattle.std.proofs.lemmas.Int.{ints}
use Rattle.rational.specs.Time.{Rational, ◌≈◌}
use Rattle.rational.specs.Extended.{Extended, value_at}
use Rattle.rational.specs.Places.{Place, After, Upto}
use Rattle.rational.proofs.Order.{le_trans, le_of_same, ge_of_same, same_of_le, same_refl}
use Rattle.rational.proofs.Field.{add_zero}
use Rattle.rational.proofs.AffineLemmas.{same_reflᵉ}
use Rattle.value_laws.specs.Members.{ShapeOf, ShapeLaws}
use Rattle.pl_signal.specs.declared.joining.Side.{Side}
use Rattle.pl_signal.specs.declared.joining.Side.TheVariants.{Least, Greatest}
use Rattle.pieces.specs.declared.piece.Piece.{Piece}
use Rattle.pieces.specs.declared.reach.Reach.{Reach}
use Rattle.pieces.specs.Best.{IsNoWorse, none_of}
use Rattle.pieces.specs.Chains.{Chain, end, IsNormal, IsWorth, IsWorthFrom, Tells, stop}
use Rattle.pieces.specs.Over.{BasesOver}
use Rattle.pieces.specs.Windows.{BestOver, Sees}
use Rattle.pieces.proofs.Bests.{best_once, best_over, nw_same, nw_trans, over_best}
use Rattle.pieces.proofs.ChainLemmas.{every_time, worth_after, worth_same, worth_upto}
use Rattle.pieces.proofs.Ends.{same_place}
use Rattle.pieces.proofs.ChainsTell.{worth_is_function}

-- the window of the one time
abbrev pub now : Reach
now = record { low = pos 0; high = pos 0; low_in = true; high_in = true }

only_now : (t u : Rational) → Sees now t u → u ≈ t
only_now t u m = same_of_le (le_trans m.1 (le_of_same (add_zero t))) (le_trans (ge_of_same (add_zero t)) m.0)

module _ {P : Type 0} (shape : ShapeOf P) (laws : ShapeLaws shape) where
  shape_floor : (side : Side) (p : P) (t : Rational) → IsNoWorse side (value_at (shape.function p) t) (none_of side shape.lowest shape.highest)
  shape_floor Greatest p t = record { order = laws.lowest_is_least p t }
  shape_floor Least p t = record { order = laws.highest_is_greatest p t }

  -- no value of a chain is worse than that of none
  worth_floor : (side : Side) (c : Place) (ps : List (Piece P)) (t : Rational) (v : Extended) → IsWorthFrom shape c ps t v
      → IsNoWorse side v (none_of side shape.lowest shape.highest)
  worth_floor side c [] t v h = absurd h
  worth_floor side c (p ∷ ps) t v (inl h) = nw_trans (nw_same side h.2) (shape_floor side p.shape t)
  worth_floor side c (p ∷ ps) t v (inr h) = worth_floor side (end p) ps t v h

  module _ (chain : Chain P) (normal : IsNormal shape chain) (side : Side) where
    -- its value is the best of what is seen
    best_here : (t : Rational) (v : Extended) → IsWorth shape chain t v → BestOver shape chain now side t v
    best_here t v here = best_over side shape.lowest shape.highest (Sees now t) (IsWorth shape chain) v (record {
      floor = worth_floor side chain.from chain.pieces t v here;
      bound = λ w (u, m, h). nw_same side ((worth_is_function shape chain normal).one t v w here
          ((worth_is_function shape chain normal).alike u t w w (only_now t u m) (same_reflᵉ w) h));
      reached = λ w l k. (v, (t, (le_of_same (add_zero t), ge_of_same (add_zero t)), here), k);
    })

    -- a chain tells its own best over the one time
    pub tells_now : Tells shape (BestOver shape chain now side) chain.from (stop chain) chain
    tells_now = record {
      normal = normal;
      begins = same_place chain.from;
      ends = same_place (stop chain);
      worth = λ t v. (
        λ w. (
          worth_after shape chain.from chain.pieces t v normal.rising w,
          worth_upto shape chain.from chain.pieces t v normal.rising w,
          best_here t v w,
        ),
        λ h. back t v h.0 h.1 h.2,
      );
    }
      where
        back : (t : Rational) (v : Extended) → After chain.from t → Upto (stop chain) t → BestOver shape chain now side t v → IsWorth shape chain t v
        back t v a u b =
            let x = every_time shape chain.from chain.pieces t a u in
            worth_same shape chain.from chain.pieces x.0 v (same_refl t)
            (best_once (over_best side shape.lowest shape.highest (Sees now t) (IsWorth shape chain) x.0 (best_here t x.0 x.1))
            (over_best side shape.lowest shape.highest (Sees now t) (IsWorth shape chain) v b)) x.1

-- a chain has its own bases over the one time
pub bases_now : {P : Type 0} (shape : ShapeOf P) (chain : Chain P) → BasesOver shape chain now chain
bases_now shape chain p has moves = (p, has, moves, inl (omega (arith, ints)))
