-- The laws of values without premises: each formula has values over each trace, so what the values tell holds of every formula and every trace.
use Rattle.std.specs.Prelude.{◌⊎◌, List, true, false, pos}
use Rattle.rational.specs.Time.{Rational, Within, whole, later, negate, ◌≤ʳ◌}
use Rattle.rational.specs.Extended.{Extended, finite, ◌<ᵉ◌, ◌≈ᵉ◌}
use Rattle.rational.specs.Windows.{IsSupOver}
use Rattle.stl_syntax.specs.Trace.{Trace, IsLike, start, stop}
use Rattle.stl_syntax.specs.Formula.{Subformula, horizon}
use Rattle.stl_syntax.specs.Truth.{Truth}
use Rattle.stl_syntax.specs.Kleene.{Must, MustNot}
use Rattle.stl_syntax.specs.SupInf.{Setting, SupInf, HasValues, HasInf, HasInfs, Robustness, margin_setting, truth_setting, certainty_setting}
use Rattle.stl_syntax.specs.Early.{Settled, SettledNot, Decides}
use Rattle.stl_syntax.specs.Closeness.{AreClose}
use Rattle.stl_syntax.specs.Verdicts.{IsAnswered}
use Rattle.stl_syntax.specs.Laws.{IsToldByValue, IsToldCertain}
use Rattle.stl_syntax.specs.declared.items.Item.{Item}

-- between each two times of the domain the formula has a Sup
abbrev pub HasSup : Subformula → Setting → Type 0
HasSup p s = (t u : Rational) → Within s.from s.to t → Within s.from s.to u → (y : Extended) × IsSupOver s.lowest (Within t u) (SupInf p s) y

-- the formula and each formula below it has a value at each time of the domain; the formula has a Sup and an Inf between each two times, and
-- the left side of each until and since in it an Inf
pub record HasAll (p : Subformula) (s : Setting) : Type 0 where
  pub values : HasValues p s
  pub sup : HasSup p s
  pub inf : HasInf p s
  pub infs : HasInfs p s

-- each formula over each trace, with atoms read as their margins
abbrev pub MarginsExist : Type 0
MarginsExist = (p : Subformula) (tr : Trace) → HasAll p (margin_setting tr)

-- with atoms read as 1 and -1
abbrev pub TruthsExist : Type 0
TruthsExist = (p : Subformula) (tr : Trace) → HasAll p (truth_setting tr)

-- with atoms read as 1 and -1 where items cover them, and as 0 elsewhere
abbrev pub CertaintiesExist : Type 0
CertaintiesExist = (p : Subformula) (tr : Trace) (items : List Item) → HasAll p (certainty_setting tr items)

-- the robustness is one number, -inf or inf at each time of the domain
abbrev pub OneRobustness : Type 0
OneRobustness =
    (p : Subformula) (tr : Trace) (t : Rational) → Within (start tr) (stop tr) t
    → (r : Extended) × Robustness p tr t r × ((v : Extended) → Robustness p tr t v → v ≈ᵉ r)

-- a formula holds at a time of the domain, or does not
abbrev pub TruthIsDecided : Type 0
TruthIsDecided = (p : Subformula) (tr : Trace) (t : Rational) → Within (start tr) (stop tr) t → Truth p tr t ⊎ (¬ Truth p tr t)

-- by items it is certainly true there, certainly false, or neither
abbrev pub CertaintyIsDecided : Type 0
CertaintyIsDecided =
    (p : Subformula) (items : List Item) (tr : Trace) (t : Rational) → Within (start tr) (stop tr) t
    → Must p items tr t ⊎ MustNot p items tr t ⊎ ((¬ Must p items tr t) × (¬ MustNot p items tr t))

-- with atoms read as 1 and -1 the value is the truth
abbrev pub TruthByValues : Type 0
TruthByValues =
    (p : Subformula) (tr : Trace) (t : Rational) (r : Extended) → Within (start tr) (stop tr) t → SupInf p (truth_setting tr) t r
    → IsToldByValue p tr t r

-- with 0 where no item covers an atom, it is what is certain
abbrev pub CertaintyByValues : Type 0
CertaintyByValues =
    (p : Subformula) (items : List Item) (tr : Trace) (t : Rational) (r : Extended) → Within (start tr) (stop tr) t
    → SupInf p (certainty_setting tr items) t r → IsToldCertain p items tr t r

-- rows that reach a time and the horizon after it settle the formula there
abbrev pub AnsweredIsSettled : Type 0
AnsweredIsSettled =
    (p : Subformula) (tr : Trace) (t : Rational) → IsAnswered p tr (stop tr) t
    → (Settled p tr t × Truth p tr t) ⊎ (SettledNot p tr t × (¬ Truth p tr t))

-- rows up to the start and the horizon after it decide
abbrev pub RowsDecide : Type 0
RowsDecide = (p : Subformula) (tr : Trace) → later (start tr) (horizon p) ≤ʳ stop tr → Decides p tr true ⊎ Decides p tr false

-- where the robustness is above e, the formula holds in every trace whose atoms' expressions differ by at most e, and where it is
-- below -e the formula fails there
abbrev pub MarginsHold : Type 0
MarginsHold =
    (p : Subformula) (tr tr' : Trace) (e : Rational) → whole (pos 0) ≤ʳ e → IsLike tr' tr → AreClose e tr tr' p
    → (t : Rational) (r : Extended) → Within (start tr) (stop tr) t → Robustness p tr t r
    → (finite e <ᵉ r → Truth p tr' t) × (r <ᵉ finite (negate e) → ¬ Truth p tr' t)
