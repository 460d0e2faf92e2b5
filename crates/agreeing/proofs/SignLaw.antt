-- A margin above 0 is a true verdict, and one below 0 a false one.
use Rattle.std.proofs.Common.{◌≡◌, ◌⊎◌, inl, inr, refl, ◌∙◌, ℕ, zero, suc, Bool, true, false, Some, List, [], ◌∷◌, ◌++◌, pos, subst, ap, arith}
use Rattle.std.specs.Prelude.{MatchBool, slice_get}
use Rattle.rational.specs.Time.{Rational, Within, IsIn, closed, whole, ◌≤ʳ◌, ◌<ʳ◌, ◌≈◌}
use Rattle.rational.specs.Places.{Place, begins, ends, After, Upto}
use Rattle.rational.specs.Extended.{Extended, ◌<ᵉ◌, ◌≈ᵉ◌}
use Rattle.rational.proofs.Order.{le_refl, le_of_same, ge_of_same, le_trans, le_or_lt, same_of_le, same_sym}
use Rattle.rational.proofs.ExtendedLemmas.{lt_of_lt_of_leᵉ, lt_of_le_of_ltᵉ}
use Rattle.rational.proofs.AffineLemmas.{same_reflᵉ}
use Rattle.rational.proofs.PlaceLemmas.{sides, not_both, after_same}
use Rattle.frac128.specs.Spans.{interval}
use Rattle.stl_syntax.specs.Formula.{Subformula, root, constant, atom, negation, conjunction, disjunction}
use Rattle.stl_syntax.specs.Formula.{implication, until, eventually, always, since, once, historically}
use Rattle.stl_syntax.specs.Trace.{Trace, start, stop}
use Rattle.stl_syntax.specs.Truth.{Truth}
use Rattle.stl_syntax.specs.Closeness.{AreClose}
use Rattle.stl_syntax.specs.Knots.{Knot, Piece, Knots, ReadsFrom, Reads}
use Rattle.stl_syntax.specs.SupInf.{Robustness, margin_setting, zero_value}
use Rattle.stl_syntax.specs.Verdicts.{IsTold, Describes, IsRobust, DescribesMargins}
use Rattle.stl_syntax.specs.declared.items.Verdict.{Verdict}
use Rattle.stl_syntax.proofs.KnotsLemmas.{reads_one}
use Rattle.stl_syntax.proofs.LawProofs.{values_are_of_times}
use Rattle.values_exist.proofs.LawProofs.{margins_hold}
use Rattle.online_nodes.specs.Laws.{AreTold, AreTiles}
use Rattle.online_nodes.proofs.StayLaw.{described}
use Rattle.online_nodes.proofs.EmittedLaw.{describes_tiles}
use Rattle.online_nodes.proofs.HeldLaw.{is_in}
use Rattle.agreeing.proofs.KnotsFrom.{TellFrom, go_on, all_tell, rise}
use Rattle.agreeing.specs.Signs.{AgreeInSign, LinesAgreeInSign, RowsAgreeInSign, ReportsAgreeInSign}
use Rattle.stl_syntax.specs.Scaling.{nodes_for}

-- ---- verdicts

-- verdicts that lead from one place to another have each time between in a span
tile_at : (c : Place) (vs : List Verdict) (d : Place) (t : Rational) → AreTiles c vs d → After c t → Upto d t
    → (i : ℕ) × (v : Verdict) × (slice_get vs i ≡ Some v) × IsIn (interval v.on) t
tile_at c [] d t tiles after upto = absurd (not_both d t upto (after_same c d t tiles after))
tile_at c (v ∷ vs) d t (s, b, rest) after upto = elim (sides (ends (interval v.on)) t) [
  | inl u ↦ (0, v, refl, is_in (interval v.on) t (after_same c (begins (interval v.on)) t s after) u)
  | inr a ↦ let (i, w, at, inside) = tile_at (ends (interval v.on)) vs d t rest a upto in (suc i, w, at, inside)
]

-- each of verdicts that are told is told
pub told_at : (p : Subformula) (tr : Trace) (vs : List Verdict) (i : ℕ) (v : Verdict) → AreTold p tr vs → slice_get vs i ≡ Some v → IsTold p tr v
told_at p tr [] i v a e = absurd (let k = e in cc)
told_at p tr (w ∷ vs) zero v a e = let same : w ≡ v = (let k = e in cc) in subst (λ (x : Verdict). IsTold p tr x) same a.0
told_at p tr (w ∷ vs) (suc i) v a e = told_at p tr vs i v a.1 e

-- ---- knots

-- a trace is close to itself
pub close_to_itself : (tr : Trace) (p : Subformula) → AreClose (whole (pos 0)) tr tr p
close_to_itself tr (constant b) = tt
close_to_itself tr (atom i a) = λ t w. record { low = record { le = omega arith }; high = record { le = omega arith } }
close_to_itself tr (negation p) = close_to_itself tr p
close_to_itself tr (conjunction p q) = (close_to_itself tr p, close_to_itself tr q)
close_to_itself tr (disjunction p q) = (close_to_itself tr p, close_to_itself tr q)
close_to_itself tr (implication p q) = (close_to_itself tr p, close_to_itself tr q)
close_to_itself tr (until a b p q) = (close_to_itself tr p, close_to_itself tr q)
close_to_itself tr (eventually a b a_in b_in p) = close_to_itself tr p
close_to_itself tr (always a b a_in b_in p) = close_to_itself tr p
close_to_itself tr (since a b p q) = (close_to_itself tr p, close_to_itself tr q)
close_to_itself tr (once a b a_in b_in p) = close_to_itself tr p
close_to_itself tr (historically a b a_in b_in p) = close_to_itself tr p

module _ (p : Subformula) (tr : Trace) where
  -- at each time from k on they give the robustness
  value_from : (k : Knot) (pieces : List Piece) → TellFrom p tr (stop tr) k pieces → IsRobust p tr k → (t : Rational) → Within k.time (stop tr) t
      → (r : Extended) × ReadsFrom k pieces t r × Robustness p tr t r
  value_from k [] h is t w =
      let e : t ≈ k.time = same_of_le (le_trans w.below (ge_of_same h)) w.above in
      (k.value, (e, same_reflᵉ k.value), values_are_of_times p (margin_setting tr) k.time t k.value (same_sym e) is)
  value_from k (q ∷ pieces) h is t w =
      by_begin (λ b. value_from q.next pieces (go_on p tr (stop tr) k q pieces h.2) h.1 t (record { above = b; below = w.below })) (le_or_lt t k.time)
    where
      by_next : (q.next.time ≤ʳ t → (r : Extended) × ReadsFrom q.next pieces t r × Robustness p tr t r) → k.time <ʳ t
          → (q.next.time ≤ʳ t) ⊎ (t <ʳ q.next.time) → (r : Extended) × ReadsFrom k (q ∷ pieces) t r × Robustness p tr t r
      by_next on a (inl b) = let (r, reads, told) = on b in (r, inr (inr reads), told)
      by_next on a (inr b) = let (r, told, at) = h.0.1 t a b in (r, inr (inl at), told)

      by_begin : (q.next.time ≤ʳ t → (r : Extended) × ReadsFrom q.next pieces t r × Robustness p tr t r) → (t ≤ʳ k.time) ⊎ (k.time <ʳ t)
          → (r : Extended) × ReadsFrom k (q ∷ pieces) t r × Robustness p tr t r
      by_begin on (inl a) =
          let e : t ≈ k.time = same_of_le a w.above in
          (k.value, inl (e, same_reflᵉ k.value), values_are_of_times p (margin_setting tr) k.time t k.value (same_sym e) is)
      by_begin on (inr a) = by_next on a (le_or_lt q.next.time t)

  module _ (knots : Knots) (margins : DescribesMargins knots p tr) where
    tell : TellFrom p tr (stop tr) knots.first knots.pieces
    tell = all_tell p tr (stop tr) (start tr) knots.first knots.pieces margins.0 margins.2

    -- at each time of the domain the knots give the robustness
    value_in : (t : Rational) → Within (start tr) (stop tr) t → (r : Extended) × Reads knots t r × Robustness p tr t r
    value_in t w =
        value_from knots.first knots.pieces tell margins.1 t (record { above = le_trans (le_of_same margins.0) w.above; below = w.below })

    -- and nothing else
    read_once : (t : Rational) (r v : Extended) → Reads knots t r → Reads knots t v → r ≈ᵉ v
    read_once t r v a b = record {
      at_most = reads_one knots.first knots.pieces t r v (rise p tr (stop tr) knots.first knots.pieces tell) a b;
      at_least = reads_one knots.first knots.pieces t v r (rise p tr (stop tr) knots.first knots.pieces tell) b a;
    }

    -- above 0 the formula holds, and below 0 it fails
    sign : (t : Rational) (r : Extended) → Within (start tr) (stop tr) t → Reads knots t r
        → (zero_value <ᵉ r → Truth p tr t) × (r <ᵉ zero_value → ¬ Truth p tr t)
    sign t r w reads =
        let (v, there, told) = value_in t w in
        let same = read_once t r v reads there in
        let law = margins_hold p tr tr (whole (pos 0)) (le_refl (whole (pos 0)))
        (record { header = refl; start_same = refl; stop_same = refl }) (close_to_itself tr p) t v w told in (
          λ h. law.0 (lt_of_lt_of_leᵉ zero_value r v h same.at_most),
          λ h. law.1 (lt_of_le_of_ltᵉ v r zero_value same.at_least h),
        )

-- ---- both

-- a truth that is so is true, and one that is not is false
true_of : (P : Type 0) (b : Bool) → MatchBool b P (¬ P) → P → b ≡ true
true_of P true h k = refl
true_of P false h k = absurd (h k)

false_of : (P : Type 0) (b : Bool) → MatchBool b P (¬ P) → (¬ P) → b ≡ false
false_of P true h k = absurd (k h)
false_of P false h k = refl

-- verdicts and knots of one formula over one trace agree in sign
pub agree_in_sign : (p : Subformula) (tr : Trace) (vs : List Verdict) (knots : Knots) → Describes vs p tr (closed (start tr) (stop tr))
    → DescribesMargins knots p tr → AgreeInSign tr vs knots
agree_in_sign p tr vs knots d margins = record {
  truth = λ t w.
      let (i, v, at, inside) = tile_at (begins (closed (start tr) (stop tr))) vs (ends (closed (start tr) (stop tr))) t
      (describes_tiles p tr (closed (start tr) (stop tr)) vs d) w.above w.below in
      (v.holds, (i, v, at, inside, refl));
  margin = λ t w. let (r, reads, told) = value_in p tr knots margins t w in (r, reads);
  above = λ t r holds w (i, v, at, inside, same) reads h.
      subst (λ (b : Bool). b ≡ true) same
      (true_of (Truth p tr t) v.holds ((told_at p tr vs i v told at).truth t inside) ((sign p tr knots margins t r w reads).0 h));
  below = λ t r holds w (i, v, at, inside, same) reads h.
      subst (λ (b : Bool). b ≡ false) same
      (false_of (Truth p tr t) v.holds ((told_at p tr vs i v told at).truth t inside) ((sign p tr knots margins t r w reads).1 h));
}
  where
    told : AreTold p tr vs
    told = described p tr tr (closed (start tr) (stop tr)) vs (λ t a b. (λ x. x, λ x. x)) d

-- the lines of `check` and those of `robust` agree
pub lines_agree_in_sign : LinesAgreeInSign
lines_agree_in_sign f tr checked measured (vs, body, line, d, lines, (holds, truth, line_is), is) (knots, margins, others) = (
  record { verdicts = vs; knots = knots; items = []; holds = holds },
  (body, lines, is ∙ ap (λ l. body ++ l) line_is),
  others,
  agree_in_sign (root (nodes_for f tr)) tr vs knots d margins,
)

-- the lines of `check` and the rows of `table` agree
pub rows_agree_in_sign : RowsAgreeInSign
rows_agree_in_sign f tr checked tabled (vs, body, line, d, lines, (holds, truth, line_is), is) (knots, margins, rows) = (
  record { verdicts = vs; knots = knots; items = []; holds = holds },
  (body, lines, is ∙ ap (λ l. body ++ l) line_is),
  rows,
  agree_in_sign (root (nodes_for f tr)) tr vs knots d margins,
)

-- the two parts of a report agree
pub reports_agree_in_sign : ReportsAgreeInSign
reports_agree_in_sign f tr reported (vs, knots, items, holds, report, d, margins, explained, truth, members, is) = (
  record { verdicts = vs; knots = knots; items = items; holds = holds },
  (report, members, is),
  agree_in_sign (root (nodes_for f tr)) tr vs knots d margins,
)
