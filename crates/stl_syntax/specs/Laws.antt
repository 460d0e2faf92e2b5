-- The laws of the definitions: what holds of every formula, trace and time by what the words mean.
use Rattle.std.specs.Prelude.{◌≡◌, ◌⊎◌, ◌↔◌, ℕ, ◌<◌, List, ◌∷◌, length, pos, slice_get, Some, Option, Bool, true, false, MatchBool}
use Rattle.rational.specs.Time.{Rational, Within, Interval, whole, later, negate, ◌≈◌, ◌≤ʳ◌}
use Rattle.rational.specs.Extended.{Extended, finite, ◌<ᵉ◌, ◌≈ᵉ◌}
use Rattle.stl_syntax.specs.Trace.{Header, Row, Trace, IsTrace, Continues, IsLike, start, stop}
use Rattle.stl_syntax.specs.Formula.{Formula, Subformula, until, since, horizon, root}
use Rattle.stl_syntax.specs.Print.{IsPrintedFormula}
use Rattle.stl_syntax.specs.PostOrder.{IsPostOrder, IsTreeFrom}
use Rattle.stl_syntax.specs.WellFormed.{IsWellFormed}
use Rattle.stl_syntax.specs.Truth.{Truth}
use Rattle.stl_syntax.specs.Knots.{Knots, AreKnots}
use Rattle.stl_syntax.specs.SupInf.{Reading, margins, truths, certainties, signals, Gives, Setting, margin_setting, SupInf}
use Rattle.stl_syntax.specs.SupInf.{Robustness, one, zero_value, minus_one, HasValues, HasInfs, truth_setting}
use Rattle.stl_syntax.specs.SupInf.{certainty_setting}
use Rattle.stl_syntax.specs.Kleene.{Must, MustNot}
use Rattle.stl_syntax.specs.Kept.{AreSo, Agree}
use Rattle.stl_syntax.specs.Early.{OpenAhead, OpenBehind, IsSure, Settled, SettledNot, Decides}
use Rattle.stl_syntax.specs.Closeness.{AreClose}
use Rattle.stl_syntax.specs.Verdicts.{Describes, DescribesMargins, AreAlike, KnotsAlike, PiecesAlike, IsAnswered}
use Rattle.stl_syntax.specs.declared.atom.Atom.{Atom}
use Rattle.stl_syntax.specs.declared.items.Item.{Item}
use Rattle.stl_syntax.specs.declared.items.Verdict.{Verdict}
use Rattle.stl_syntax.specs.declared.node.Node.{Node}

-- truth does not depend on the pair by which a time is written
abbrev pub TruthIsOfTimes : Type 0
TruthIsOfTimes = (p : Subformula) (tr : Trace) (t u : Rational) → t ≈ u → Truth p tr t → Truth p tr u

-- nor does the Sup-Inf value
abbrev pub ValuesAreOfTimes : Type 0
ValuesAreOfTimes = (p : Subformula) (s : Setting) (t u : Rational) (r : Extended) → t ≈ u → SupInf p s t r → SupInf p s u r

-- nor does certainty
abbrev pub CertaintyIsOfTimes : Type 0
CertaintyIsOfTimes =
    (p : Subformula) (items : List Item) (tr : Trace) (t u : Rational) → t ≈ u
    → (Must p items tr t → Must p items tr u) × (MustNot p items tr t → MustNot p items tr u)

-- the knots of each list rise; a trace needs no such premise
abbrev pub IsReadable : Reading → Type 0
IsReadable (margins tr) = Unit {0}
IsReadable (truths tr) = Unit {0}
IsReadable (certainties tr items) = Unit {0}
IsReadable (signals lists) = (i : ℕ) (knots : Knots) → slice_get lists i ≡ Some (Some knots) → AreKnots knots

-- a formula has at most one value at a time
abbrev pub OneValue : Type 0
OneValue =
    (p : Subformula) (s : Setting) (t : Rational) (r r' : Extended) → IsReadable s.atoms → SupInf p s t r → SupInf p s t r' → r ≈ᵉ r'

-- a trace with items gives each atom occurrence a value at each time
abbrev pub CertaintyHasValues : Type 0
CertaintyHasValues = (tr : Trace) (items : List Item) (i : ℕ) (a : Atom) (t : Rational) → (r : Extended) × Gives (certainties tr items) i a t r

-- with atoms read as 1 and -1 the value is 1 or -1: 1 exactly where the formula holds, and -1 exactly where it does not
pub record IsToldByValue (p : Subformula) (tr : Trace) (t : Rational) (r : Extended) : Type 0 where
  pub told : (r ≈ᵉ one) ⊎ (r ≈ᵉ minus_one)
  pub holds : (r ≈ᵉ one) ↔ Truth p tr t
  pub fails : (r ≈ᵉ minus_one) ↔ (¬ Truth p tr t)

abbrev pub TruthByValues : Type 0
TruthByValues =
    (p : Subformula) (tr : Trace) → HasValues p (truth_setting tr) → (t : Rational) (r : Extended) → Within (start tr) (stop tr) t
    → SupInf p (truth_setting tr) t r → IsToldByValue p tr t r

-- with atoms read as 1 and -1 where items cover them, and as 0 elsewhere, the value is 1 exactly on what is certainly true, -1
-- exactly on what is certainly false, and 0 on the rest
pub record IsToldCertain (p : Subformula) (items : List Item) (tr : Trace) (t : Rational) (r : Extended) : Type 0 where
  pub told : (r ≈ᵉ one) ⊎ (r ≈ᵉ minus_one) ⊎ (r ≈ᵉ zero_value)
  pub certain : (r ≈ᵉ one) ↔ Must p items tr t
  pub certain_not : (r ≈ᵉ minus_one) ↔ MustNot p items tr t

abbrev pub CertaintyByValues : Type 0
CertaintyByValues =
    (p : Subformula) (items : List Item) (tr : Trace) → HasValues p (certainty_setting tr items) → HasInfs p (certainty_setting tr items)
    → (t : Rational) (r : Extended) → Within (start tr) (stop tr) t → SupInf p (certainty_setting tr items) t r → IsToldCertain p items tr t r

-- what is certainly true holds, and what is certainly false does not
abbrev pub CertaintyIsTruth : Type 0
CertaintyIsTruth = (p : Subformula) (items : List Item) (tr : Trace) (t : Rational)
    → (Must p items tr t → Truth p tr t) × (MustNot p items tr t → ¬ Truth p tr t)

-- what is certainly false at the start is false there in every trace that agrees on the items
abbrev pub ExplanationsHold : Type 0
ExplanationsHold =
    (nodes : List Node) (items : List Item) (tr tr' : Trace) → IsPostOrder nodes → 0 < length nodes → AreSo nodes tr items
    → MustNot (root nodes) items tr (start tr) → Agree nodes tr' tr items → ¬ Truth (root nodes) tr' (start tr')

-- an answered truth is the truth in every trace that goes on from the rows
abbrev pub AnswersStay : Type 0
AnswersStay =
    (p : Subformula) (header : Header) (r : Row) (rows : List Row) (tr : Trace) (ended : Bool) (t : Rational) →
    let so_far : Trace = record { header = header; rows = r ∷ rows } in
    IsTrace tr → Continues tr header (r ∷ rows) ended → IsAnswered p so_far (stop so_far) t → Truth p so_far t ↔ Truth p tr t

-- an answered robustness is the robustness in every trace that goes on from the rows
abbrev pub AnsweredMarginsStay : Type 0
AnsweredMarginsStay =
    (p : Subformula) (header : Header) (r : Row) (rows : List Row) (tr : Trace) (ended : Bool) (t : Rational) (v : Extended) →
    let so_far : Trace = record { header = header; rows = r ∷ rows } in
    IsTrace tr → Continues tr header (r ∷ rows) ended → IsAnswered p so_far (stop so_far) t → Robustness p so_far t v ↔ Robustness p tr t v

-- what is answered is settled: rows that reach a time and the horizon after it leave no third value there
abbrev pub AnsweredIsSettled : Type 0
AnsweredIsSettled =
    (p : Subformula) (tr : Trace) (t : Rational) → IsAnswered p tr (stop tr) t → HasValues p (truth_setting tr) → HasInfs p (truth_setting tr)
    → (Settled p tr t × Truth p tr t) ⊎ (SettledNot p tr t × (¬ Truth p tr t))

-- rows up to the start and the horizon after it decide
abbrev pub RowsDecide : Type 0
RowsDecide =
    (p : Subformula) (tr : Trace) → later (start tr) (horizon p) ≤ʳ stop tr → HasValues p (truth_setting tr) → HasInfs p (truth_setting tr)
    → Decides p tr true ⊎ Decides p tr false

-- what is settled does not depend on the pair by which a time is written
abbrev pub SettledIsOfTimes : Type 0
SettledIsOfTimes =
    (p : Subformula) (tr : Trace) (t u : Rational) → t ≈ u → (Settled p tr t → Settled p tr u) × (SettledNot p tr t → SettledNot p tr u)

-- from t on the times are of Z without a break, up to a later or equal time of Y that counts at t
abbrev pub GoesOnTo : (Rational → Type 0) → (Rational → Type 0) → (Rational → Rational → Type 0) → Rational → Type 0
GoesOnTo Z Y Counts t = (w : Rational) × (t ≤ʳ w) × Counts t w × Y w × ((v : Rational) → Within t w v → Z v)

-- back from t the times are of Z without a break, down to an earlier or equal time of Y
abbrev pub ComesFrom : Rational → (Rational → Type 0) → (Rational → Type 0) → Rational → Type 0
ComesFrom from Z Y t = (w : Rational) × (from ≤ʳ w) × (w ≤ʳ t) × Y w × ((v : Rational) → Within w t v → Z v)

-- until is settled true exactly where q is at some sure time of the window, and from each time up to the window's begin p goes on to a sure
-- time of q
abbrev pub UntilIsSettledByParts : Type 0
UntilIsSettledByParts =
    (p q : Subformula) (a b : ℕ) (tr : Trace) (t : Rational) → start tr ≤ʳ t → Settled (until a b p q) tr t
    ↔ (((u : Rational) × OpenAhead (start tr) a b true true t u × IsSure tr t u × Settled q tr u)
    × ((v : Rational) → Within t (later t a) v → GoesOnTo (Settled p tr) (Settled q tr) (IsSure tr) v))

-- until is settled false where q is all over the window, or where from some time up to the window's begin on p or q is, up to a time
-- where p is
abbrev pub UntilFailsByParts : Type 0
UntilFailsByParts =
    (p q : Subformula) (a b : ℕ) (tr : Trace) (t : Rational) → start tr ≤ʳ t
    → (((u : Rational) → OpenAhead (start tr) a b true true t u → SettledNot q tr u)
    ⊎ ((v : Rational) × Within t (later t a) v × GoesOnTo (λ x. SettledNot p tr x ⊎ SettledNot q tr x) (SettledNot p tr) (λ x w. Unit {0}) v))
    → SettledNot (until a b p q) tr t

-- since is settled true exactly where q is at some sure time of the window, and from each time that is in the window or after it, and in the
-- domain up to t, p goes back to a time of q
abbrev pub SinceIsSettledByParts : Type 0
SinceIsSettledByParts =
    (p q : Subformula) (a : ℕ) (b : Option ℕ) (tr : Trace) (t : Rational) → start tr ≤ʳ t → Settled (since a b p q) tr t
    ↔ (((u : Rational) × OpenBehind (start tr) a b true true t u × IsSure tr t u × Settled q tr u)
    × ((v : Rational) → start tr ≤ʳ v → t ≤ʳ later v a → v ≤ʳ t → ComesFrom (start tr) (Settled p tr) (Settled q tr) v))

-- since is settled false where q is all over the window, or where back from some time at or after the window's end p or q is, down to a
-- time where p is
abbrev pub SinceFailsByParts : Type 0
SinceFailsByParts =
    (p q : Subformula) (a : ℕ) (b : Option ℕ) (tr : Trace) (t : Rational) → start tr ≤ʳ t
    → (((u : Rational) → OpenBehind (start tr) a b true true t u → SettledNot q tr u)
    ⊎ ((v : Rational) × (t ≤ʳ later v a) × (v ≤ʳ t) × ComesFrom (start tr) (λ x. SettledNot p tr x ⊎ SettledNot q tr x) (SettledNot p tr) v))
    → SettledNot (since a b p q) tr t

-- what rows decide is the truth at the start of every trace that goes on from them, and stays decided
abbrev pub DecisionsStay : Type 0
DecisionsStay =
    (p : Subformula) (header : Header) (r : Row) (rows : List Row) (tr : Trace) (ended holds : Bool) →
    let so_far : Trace = record { header = header; rows = r ∷ rows } in
    IsTrace tr → Continues tr header (r ∷ rows) ended → Decides p so_far holds
    → MatchBool holds (Truth p tr (start tr)) (¬ Truth p tr (start tr)) × Decides p tr holds

-- where the robustness is above e, the formula holds in every trace whose atoms' expressions differ by at most e, and where it is
-- below -e the formula fails there; with e = 0 and the trace itself this is the law of signs
abbrev pub MarginsHold : Type 0
MarginsHold =
    (p : Subformula) (tr tr' : Trace) (e : Rational)
    → whole (pos 0) ≤ʳ e → IsLike tr' tr → AreClose e tr tr' p → HasValues p (margin_setting tr) → HasInfs p (margin_setting tr)
    → (t : Rational) (r : Extended) → Within (start tr) (stop tr) t → Robustness p tr t r
    → (finite e <ᵉ r → Truth p tr' t) × (r <ᵉ finite (negate e) → ¬ Truth p tr' t)

-- at most one list of verdicts describes the formula on a stretch
abbrev pub OneListOfVerdicts : Type 0
OneListOfVerdicts =
    (p : Subformula) (tr : Trace) (stretch : Interval) (verdicts others : List Verdict) → Describes verdicts p tr stretch → Describes others p tr stretch
    → AreAlike verdicts others

-- at most one list of knots describes its robustness
abbrev pub OneListOfMargins : Type 0
OneListOfMargins =
    (p : Subformula) (tr : Trace) (knots others : Knots) → DescribesMargins knots p tr → DescribesMargins others p tr
    → KnotsAlike knots.first others.first × PiecesAlike knots.pieces others.pieces

-- a formula has at most one printed text
abbrev pub OnePrintedText : Type 0
OnePrintedText = (f : Formula) (t u : List ℕ) → IsPrintedFormula f t → IsPrintedFormula f u → t ≡ u

-- the nodes of a formula are one tree in post-order
abbrev pub FormulasAreTrees : Type 0
FormulasAreTrees = (f : Formula) → IsWellFormed f → IsTreeFrom 0 f.nodes
