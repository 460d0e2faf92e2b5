-- Objects of one list of JSON that are printed together.
use Rattle.std.specs.Prelude.{◌≡◌, ℕ, List, [], ◌∷◌, ◌++◌, codes}
use Rattle.serde_json.specs.View.{view}
use Rattle.serde_json.specs.Written.{compact_text}
use Rattle.serde_json.specs.declared.value.Value.{Value}
use Rattle.stl_syntax.specs.declared.scale.Scale.{Scale}
use Rattle.report.specs.Forms.{IsKnotForm, IsPieceForm, IsVerdictForm}
use Rattle.report.specs.Json.{IsKnotData, IsPieceData}
use Rattle.answer_lines.specs.Steps.{Step}

-- the texts of objects, each after a comma
abbrev pub after_commas : List Value → List ℕ
after_commas [] = []
after_commas (v ∷ vs) = (codes "," ++ compact_text (view v)) ++ after_commas vs

-- the texts of objects, each before a comma
abbrev pub before_commas : List Value → List ℕ
before_commas [] = []
before_commas (v ∷ vs) = (compact_text (view v) ++ codes ",") ++ before_commas vs

-- objects for verdicts
abbrev pub AreVerdictForms : List Value → Type 0
AreVerdictForms [] = Unit {0}
AreVerdictForms (v ∷ vs) = IsVerdictForm (view v) × AreVerdictForms vs

-- objects for steps: one for a piece and one for the knot after it, in turn
abbrev pub AreStepForms : List Value → Type 0
AreStepForms [] = Unit {0}
AreStepForms (p ∷ []) = ⊥
AreStepForms (p ∷ k ∷ vs) = IsPieceForm (view p) × IsKnotForm (view k) × AreStepForms vs

-- two objects, for a step
abbrev pub IsStepForm : List Value → Type 0
IsStepForm vs = (p k : Value) × (vs ≡ p ∷ k ∷ []) × IsPieceForm (view p) × IsKnotForm (view k)

-- the objects of a step
abbrev pub IsStepData : Scale → Step → List Value → Type 0
IsStepData scale s vs = (p k : Value) × (vs ≡ p ∷ k ∷ []) × IsPieceData scale s.knot s.piece (view p) × IsKnotData scale s.piece.next (view k)
