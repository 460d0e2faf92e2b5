-- A list of knots gives at most one value at a time.
use Rattle.std.proofs.Common.{◌≡◌, ℕ, inl, inr, List, [], ◌∷◌}
use Rattle.std.specs.Prelude.{Option, Some, slice_get}
use Rattle.rational.specs.Rational.{Rational, ◌≤ʳ◌}
use Rattle.rational.proofs.Order.{le_of_same, ge_of_same, le_trans, le_of_lt, not_lt_of_le}
use Rattle.rational.specs.Extended.{Extended, ◌≤ᵉ◌, value_at}
use Rattle.stl_syntax.specs.Knots.{Knot, Piece, Knots, ReadsFrom, AreKnotsFrom, AreKnots}
use Rattle.stl_syntax.specs.SupInf.{signals}
use Rattle.rational.proofs.AffineLemmas.{affine_unique, same_symᵉ, same_transᵉ}
use Rattle.rational.proofs.ExtendedLemmas.{le_transᵉ}
use Rattle.stl_syntax.proofs.SupInfLemmas.{GivesOne}

-- what is read from a knot on is read at its time or later
reads_after : (k : Knot) (pieces : List Piece) (t : Rational) (v : Extended) → AreKnotsFrom k pieces → ReadsFrom k pieces t v → k.time ≤ʳ t
reads_after k [] t v ok h = ge_of_same h.0
reads_after k (p ∷ pieces) t v ok (inl h) = ge_of_same h.0
reads_after k (p ∷ pieces) t v ok (inr (inl h)) = le_of_lt h.after
reads_after k (p ∷ pieces) t v ok (inr (inr h)) = le_trans (le_of_lt ok.0) (reads_after p.next pieces t v ok.1 h)

-- rising knots have at most one value at a time
pub reads_one : (k : Knot) (pieces : List Piece) (t : Rational) (v w : Extended) → AreKnotsFrom k pieces → ReadsFrom k pieces t v
    → ReadsFrom k pieces t w → v ≤ᵉ w
reads_one k [] t v w ok h j = le_transᵉ v k.value w h.1.at_most j.1.at_least
reads_one k (p ∷ pieces) t v w ok (inl h) (inl j) = le_transᵉ v k.value w h.1.at_most j.1.at_least
reads_one k (p ∷ pieces) t v w ok (inl h) (inr (inl j)) = absurd (not_lt_of_le (le_of_same h.0) j.after)
reads_one k (p ∷ pieces) t v w ok (inl h) (inr (inr j)) = absurd (not_lt_of_le (le_trans (reads_after p.next pieces t w ok.1 j) (le_of_same h.0)) ok.0)
reads_one k (p ∷ pieces) t v w ok (inr (inl h)) (inl j) = absurd (not_lt_of_le (le_of_same j.0) h.after)
reads_one k (p ∷ pieces) t v w ok (inr (inl h)) (inr (inl j)) =
    le_transᵉ v (value_at h.through t) w h.value.at_most
    (le_transᵉ (value_at h.through t) (value_at j.through t) w
    (affine_unique h.through j.through k.time p.next.time t ok.0
    (same_transᵉ _ p.from _ (same_symᵉ p.from _ h.from) j.from) (same_transᵉ _ p.to _ (same_symᵉ p.to _ h.to) j.to))
    j.value.at_least)
reads_one k (p ∷ pieces) t v w ok (inr (inl h)) (inr (inr j)) = absurd (not_lt_of_le (reads_after p.next pieces t w ok.1 j) h.before)
reads_one k (p ∷ pieces) t v w ok (inr (inr h)) (inl j) = absurd (not_lt_of_le (le_trans (reads_after p.next pieces t v ok.1 h) (le_of_same j.0)) ok.0)
reads_one k (p ∷ pieces) t v w ok (inr (inr h)) (inr (inl j)) = absurd (not_lt_of_le (reads_after p.next pieces t v ok.1 h) j.before)
reads_one k (p ∷ pieces) t v w ok (inr (inr h)) (inr (inr j)) = reads_one p.next pieces t v w ok.1 h j

-- lists of knots give one value for each atom
pub signals_give_one : (lists : List (Option Knots))
    → ((i : ℕ) (knots : Knots) → slice_get lists i ≡ Some (Some knots) → AreKnots knots) → GivesOne (signals lists)
signals_give_one lists ok i a t r r' (knots, e, h) (others, f, j) =
    let same : others ≡ knots = cc in reads_one knots.first knots.pieces t r r' (ok i knots e) h (rw same at j)
