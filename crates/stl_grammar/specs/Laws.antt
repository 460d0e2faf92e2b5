-- The laws of the grammar: what holds of every text by what the words mean.
use Rattle.std.specs.Prelude.{◌≡◌, ◌⊎◌, ◌%◌, ℕ, nat_abs, List, [], ◌∷◌, Option, Some, None}
use Rattle.stl_syntax.specs.Print.{IsPrintedFormula}
use Rattle.stl_syntax.specs.WellFormed.{IsWellFormed}
use Rattle.stl_syntax.specs.declared.node.Node.{Node}
use Rattle.stl_syntax.specs.declared.node.Node.TheVariants.{Atom as Leaf, Until, Eventually, Always, Since, Once, Historically}
use Rattle.stl_syntax.specs.Formula.{Formula}
use Rattle.stl_grammar.specs.Grammar.{FormulaText}
use Rattle.stl_grammar.specs.FormulaRefusals.{IsFormulaFault}
use Rattle.stl_grammar.specs.declared.fault.FormulaFault.{FormulaFault}
use Rattle.stl_grammar.specs.declared.fault.FormulaFault.TheVariants.{TooLong, TooDeep}

-- a text is that of at most one formula
abbrev pub OneFormula : Type 0
OneFormula = (text : List ℕ) (f g : Formula) → FormulaText text f → FormulaText text g → f ≡ g

-- a text has at most one first refusal
abbrev pub OneRefusal : Type 0
OneRefusal = (text : List ℕ) (r s : FormulaFault) → IsFormulaFault text r → IsFormulaFault text s → r ≡ s

-- the numbers of a node's bound, and its constant, in ticks
abbrev pub with_upper : ℕ → Option ℕ → List ℕ
with_upper a None = a ∷ []
with_upper a (Some b) = a ∷ b ∷ []

abbrev pub bounds_of : Node → List ℕ
bounds_of (Until p q a b) = a ∷ b ∷ []
bounds_of (Eventually p a b a_in b_in) = a ∷ b ∷ []
bounds_of (Always p a b a_in b_in) = a ∷ b ∷ []
bounds_of (Since p q a b) = with_upper a b
bounds_of (Once p a b a_in b_in) = with_upper a b
bounds_of (Historically p a b a_in b_in) = with_upper a b
bounds_of n = []

abbrev pub constants_of : Node → List ℕ
constants_of (Leaf a) = nat_abs a.limit ∷ []
constants_of n = []

-- one of them is so
abbrev pub Any : {X : Type 0} → (X → Type 0) → List X → Type 0
Any P [] = ⊥
Any P (x ∷ xs) = P x ⊎ Any P xs

-- no multiple of ten
abbrev pub IsUneven : ℕ → Type 0
IsUneven x = ¬ (x % 10 ≡ 0)

-- fewer digits would not do: there are none, or some number is no multiple of ten ticks
abbrev pub NeedsDigits : ℕ → (Node → List ℕ) → List Node → Type 0
NeedsDigits digits numbers nodes = (digits ≡ 0) ⊎ Any (λ n. Any IsUneven (numbers n)) nodes

-- the scale is the least that holds the formula's numbers
pub record HasLeastScale (f : Formula) : Type 0 where
  pub time : NeedsDigits f.scale.time bounds_of f.nodes
  pub value : NeedsDigits f.scale.value constants_of f.nodes

-- the scale of a formula that was read is the least
abbrev pub ReadScalesAreLeast : Type 0
ReadScalesAreLeast = (f : Formula) (text : List ℕ) → FormulaText text f → HasLeastScale f

-- the printed text of a formula is a text of it
abbrev pub PrintedTextsAreRead : Type 0
PrintedTextsAreRead = (f : Formula) (text : List ℕ) → IsWellFormed f → HasLeastScale f → IsPrintedFormula f text → FormulaText text f

-- the refusal of a text that has too many bytes, or that leaves too much pending
abbrev pub IsTooLongOrDeep : FormulaFault → Type 0
IsTooLongOrDeep r = ((n : ℕ) × (r ≡ TooLong n)) ⊎ ((p : ℕ) × (r ≡ TooDeep p))

-- the printed text of a formula is refused for its length or its depth alone
abbrev pub PrintedTextsAreFormulas : Type 0
PrintedTextsAreFormulas =
    (f : Formula) (text : List ℕ) (r : FormulaFault) → IsWellFormed f → HasLeastScale f → IsPrintedFormula f text → IsFormulaFault text r → IsTooLongOrDeep r
