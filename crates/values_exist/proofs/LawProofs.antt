-- The laws of values, from those of `stl_syntax` and the values that there are.
use Rattle.std.proofs.Common.{◌⊎◌, inl, inr, lit<}
use Rattle.rational.specs.Extended.{Extended, ◌<ᵉ◌}
use Rattle.rational.proofs.ExtendedLemmas.{not_twoᵉ}
use Rattle.stl_syntax.specs.Formula.{Subformula}
use Rattle.stl_syntax.specs.Truth.{Truth}
use Rattle.stl_syntax.specs.Kleene.{Must, MustNot}
use Rattle.stl_syntax.specs.SupInf.{Setting, margin_setting, truth_setting, certainty_setting, one, minus_one, zero_value}
use Rattle.stl_syntax.specs.Laws.{IsToldByValue, IsToldCertain}
use Rattle.stl_syntax.proofs.LawProofs.{one_value, truth_by_values as truth_law, certainty_by_values as certainty_law, margins_hold as margin_law}
use Rattle.stl_syntax.proofs.DecideLaw.{answered_is_settled as settled_law, rows_decide as decide_law}
use Rattle.values_exist.specs.Laws.{HasAll, MarginsExist, TruthsExist, CertaintiesExist, OneRobustness, TruthIsDecided, CertaintyIsDecided}
use Rattle.values_exist.specs.Laws.{TruthByValues, CertaintyByValues, AnsweredIsSettled, RowsDecide, MarginsHold}
use Rattle.values_exist.proofs.Formulas.{AtomsAreDrawn, has_values, has_sup, has_inf, has_infs, has_value}
use Rattle.values_exist.proofs.AtomsDrawn.{margins_drawn, truths_drawn, certainties_drawn}

has_all : (p : Subformula) (s : Setting) → AtomsAreDrawn s → HasAll p s
has_all p s atoms = record { values = has_values p s atoms; sup = has_sup p s atoms; inf = has_inf p s atoms; infs = has_infs p s atoms }

-- values for margins
pub margins_exist : MarginsExist
margins_exist p tr = has_all p (margin_setting tr) (margins_drawn tr)

-- for truth
pub truths_exist : TruthsExist
truths_exist p tr = has_all p (truth_setting tr) (truths_drawn tr)

-- for certainty
pub certainties_exist : CertaintiesExist
certainties_exist p tr items = has_all p (certainty_setting tr items) (certainties_drawn tr items)

-- one robustness at each time
pub one_robustness : OneRobustness
one_robustness p tr t w =
    let v = has_value p (margin_setting tr) (margins_drawn tr) t w in
    (v.0, v.1, λ r h. one_value p (margin_setting tr) t r v.0 tt h v.1)

-- truth by values
pub truth_by_values : TruthByValues
truth_by_values p tr t r w h = truth_law p tr (truths_exist p tr).values t r w h

-- certainty by values
pub certainty_by_values : CertaintyByValues
certainty_by_values p items tr t r w h =
    let all = certainties_exist p tr items in certainty_law p items tr all.values all.infs t r w h

-- truth is decided
pub truth_is_decided : TruthIsDecided
truth_is_decided p tr t w =
    let v = has_value p (truth_setting tr) (truths_drawn tr) t w in by_told v.0 (truth_by_values p tr t v.0 w v.1)
  where
    by_told : (r : Extended) → IsToldByValue p tr t r → Truth p tr t ⊎ (¬ Truth p tr t)
    by_told r h = elim h.told [ inl e ↦ inl (h.holds.0 e) | inr e ↦ inr (h.fails.0 e) ]

-- certainty is decided
pub certainty_is_decided : CertaintyIsDecided
certainty_is_decided p items tr t w =
    let v = has_value p (certainty_setting tr items) (certainties_drawn tr items) t w in by_told v.0 (certainty_by_values p items tr t v.0 w v.1)
  where
    zero_one : zero_value <ᵉ one
    zero_one = record { lt = lit< tt }

    minus_zero : minus_one <ᵉ zero_value
    minus_zero = record { lt = lit< tt }

    by_told : (r : Extended) → IsToldCertain p items tr t r → Must p items tr t ⊎ MustNot p items tr t ⊎ ((¬ Must p items tr t) × (¬ MustNot p items tr t))
    by_told r h = elim h.told [
      | inl e ↦ inl (h.certain.0 e)
      | inr k ↦ elim k [
        | inl e ↦ inr (inl (h.certain_not.0 e))
        | inr e ↦ inr (inr (
          λ m. not_twoᵉ r one zero_value (h.certain.1 m) e zero_one,
          λ m. not_twoᵉ r zero_value minus_one e (h.certain_not.1 m) minus_zero,
        ))
      ]
    ]

-- what is answered is settled
pub answered_is_settled : AnsweredIsSettled
answered_is_settled p tr t a = let all = truths_exist p tr in settled_law p tr t a all.values all.infs

-- rows decide
pub rows_decide : RowsDecide
rows_decide p tr h = let all = truths_exist p tr in decide_law p tr h all.values all.infs

-- margins hold
pub margins_hold : MarginsHold
margins_hold p tr tr' e positive like close = let all = margins_exist p tr in margin_law p tr tr' e positive like close all.values all.infs
