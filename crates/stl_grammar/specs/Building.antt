-- The nodes of a formula that may be built. A helper for the contracts of the code.
use Rattle.std.specs.Prelude.{◌≡◌, ℕ, ◌<◌, ◌≤◌, nat_lt, nat_abs, max, Bool, false, List, [], ◌∷◌, length, All, ℤ, pos, neg_ℤ, if◌then◌else◌}
use Rattle.stl_syntax.specs.Formula.{Formula}
use Rattle.stl_syntax.specs.Limits.{own_reach, IsTooLarge}
use Rattle.stl_syntax.specs.declared.scale.Scale.{Scale}
use Rattle.stl_grammar.specs.declared.fault.FormulaFault.{FormulaFault}
use Rattle.stl_grammar.specs.declared.fault.FormulaFault.TheVariants.{ConstantTooLarge, ReachTooLarge}
use Rattle.stl_syntax.specs.PostOrder.{children, IsPostOrder}
use Rattle.stl_syntax.specs.WellFormed.{HasBounds, HasOneRoot}
use Rattle.stl_syntax.specs.declared.node.Node.{Node}
use Rattle.stl_syntax.specs.declared.node.Node.TheVariants.{Atom as Leaf}
use Rattle.stl_grammar.specs.declared.token.Token.{Token}
use Rattle.stl_grammar.specs.declared.token.Token.TheVariants.{Number, Relation, Comma, Plus, Minus}

-- one to four terms
abbrev pub HasFewTerms : Node → Type 0
HasFewTerms (Leaf a) = (0 < length a.terms) × (length a.terms ≤ 4)
HasFewTerms n = Unit {0}

-- the constant passes its limit
abbrev pub is_large : Node → Bool
is_large (Leaf a) = nat_lt 1073741824 (nat_abs a.limit)
is_large n = false

-- a number with its sign
abbrev pub signed_size : Bool → ℕ → ℤ
signed_size negative n = if negative then neg_ℤ (pos n) else pos n

-- a node that may be made
pub record IsBuildable (n : Node) : Type 0 where
  pub bounds : HasBounds n
  pub reach : own_reach n ≤ 4294967295
  pub terms : HasFewTerms n
  pub constant : is_large n ≡ false
  pub children : All (λ p. p < 4294967296) (children n)

-- the nodes of a formula, whose constants and reach may be too large
pub record AreNodes (ns : List Node) : Type 0 where
  pub few : length ns ≤ 256
  pub order : IsPostOrder ns
  pub root : HasOneRoot ns
  pub bounds : All HasBounds ns
  pub terms : All HasFewTerms ns

-- the formula of these nodes, of which none is too large
pub record IsBuilt (s : Scale) (ns : List Node) (f : Formula) : Type 0 where
  pub nodes : f.nodes ≡ ns
  pub scale : f.scale ≡ s
  pub small : (r : FormulaFault) → ¬ IsTooLarge ConstantTooLarge ReachTooLarge ns r

-- the decimals of the number with which the tokens begin, after a sign or without one
abbrev pub decimals_of : List Token → ℕ
decimals_of (Number d ∷ _) = d.decimals
decimals_of _ = 0

abbrev pub decimals_first : List Token → ℕ
decimals_first (Plus ∷ tokens) = decimals_of tokens
decimals_first (Minus ∷ tokens) = decimals_of tokens
decimals_first tokens = decimals_of tokens

-- the greatest number of decimals of the constants
abbrev pub value_decimals : List Token → ℕ
value_decimals [] = 0
value_decimals (Relation r ∷ tokens) = max (decimals_first tokens) (value_decimals tokens)
value_decimals (_ ∷ tokens) = value_decimals tokens

-- and of the bounds
abbrev pub about_comma : ℕ → List Token → ℕ
about_comma k (Comma ∷ tokens) = max k (decimals_first tokens)
about_comma k _ = 0

abbrev pub time_decimals : List Token → ℕ
time_decimals [] = 0
time_decimals (Number d ∷ tokens) = max (about_comma d.decimals tokens) (time_decimals tokens)
time_decimals (_ ∷ tokens) = time_decimals tokens
