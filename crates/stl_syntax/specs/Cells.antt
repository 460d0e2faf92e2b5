-- Where the truth of a node changes, and the cells into which an explanation cuts time.
use Rattle.std.specs.Prelude.{◌≡◌, ◌⊎◌, ℕ, suc, ◌<◌, List, [], ◌∷◌, length, pos, neg_ℤ, ℤ, Option, Some, None, slice_get, Contains}
use Rattle.rational.specs.Time.{Rational, Within, Interval, closed, gap, shifted, add, whole, ◌<ʳ◌, ◌≈◌}
use Rattle.stl_syntax.specs.Trace.{Trace, start, stop}
use Rattle.stl_syntax.specs.Formula.{Subformula, subformula}
use Rattle.stl_syntax.specs.Truth.{Truth}
use Rattle.stl_syntax.specs.declared.node.Node.{Node}
use Rattle.stl_syntax.specs.declared.node.Node.TheVariants.{Const, Atom as Leaf, Not, And, Or, Implies, Until, Eventually, Always, Since, Once, Historically}

-- u is closer to t than e
pub record IsNear (e t u : Rational) : Type 0 where
  pub above : t <ʳ add u e
  pub below : u <ʳ add t e

-- however close to t, two times of the domain differ in truth
pub record IsChange (p : Subformula) (tr : Trace) (t : Rational) : Type 0 where
  pub inside : Within (start tr) (stop tr) t
  pub differ : (e : Rational) → whole (pos 0) <ʳ e
      → (u v : Rational) × IsNear e t u × IsNear e t v × Within (start tr) (stop tr) u × Within (start tr) (stop tr) v
      × Truth p tr u × (¬ Truth p tr v)

-- the node at a place is a child of node n
abbrev pub IsChild : Node → ℕ → Type 0
IsChild (Const b) i = ⊥
IsChild (Leaf a) i = ⊥
IsChild (Not p) i = p ≡ i
IsChild (And p q) i = (p ≡ i) ⊎ (q ≡ i)
IsChild (Or p q) i = (p ≡ i) ⊎ (q ≡ i)
IsChild (Implies p q) i = (p ≡ i) ⊎ (q ≡ i)
IsChild (Until p q a b) i = (p ≡ i) ⊎ (q ≡ i)
IsChild (Eventually p a b a_in b_in) i = p ≡ i
IsChild (Always p a b a_in b_in) i = p ≡ i
IsChild (Since p q a b) i = (p ≡ i) ⊎ (q ≡ i)
IsChild (Once p a b a_in b_in) i = p ≡ i
IsChild (Historically p a b a_in b_in) i = p ≡ i

-- the move back by a bound, where it is finite
abbrev pub back : Option ℕ → List ℤ
back None = []
back (Some b) = neg_ℤ (pos b) ∷ []

-- by how much a node's cut times are moved for its children
abbrev pub shifts : Node → List ℤ
shifts (Until p q a b) = pos 0 ∷ pos a ∷ pos b ∷ []
shifts (Eventually p a b a_in b_in) = pos a ∷ pos b ∷ []
shifts (Always p a b a_in b_in) = pos a ∷ pos b ∷ []
shifts (Since p q a b) = pos 0 ∷ neg_ℤ (pos a) ∷ back b
shifts (Once p a b a_in b_in) = neg_ℤ (pos a) ∷ back b
shifts (Historically p a b a_in b_in) = neg_ℤ (pos a) ∷ back b
shifts _ = pos 0 ∷ []

-- t is a cut time of the node at a place
pub data IsCut (nodes : List Node) (tr : Trace) : ℕ → Rational → Type 0 where
  root_start : {i : ℕ} {t : Rational} → suc i ≡ length nodes → t ≈ start tr → IsCut nodes tr i t
  first : {i : ℕ} {t : Rational} → suc i < length nodes → t ≈ start tr → IsCut nodes tr i t
  last : {i : ℕ} {t : Rational} → suc i < length nodes → t ≈ stop tr → IsCut nodes tr i t
  change : {i : ℕ} {t : Rational} → suc i < length nodes → IsChange (subformula nodes i) tr t → IsCut nodes tr i t
  moved : {i j : ℕ} {t u : Rational} (n : Node) (k : ℤ) → slice_get nodes j ≡ Some n → IsChild n i → Contains (shifts n) k
      → IsCut nodes tr j u → t ≈ shifted u k → Within (start tr) (stop tr) t → IsCut nodes tr i t

-- the times rise strictly
abbrev pub AreRisingTimes : List Rational → Type 0
AreRisingTimes [] = Unit {0}
AreRisingTimes (t ∷ []) = Unit {0}
AreRisingTimes (t ∷ u ∷ times) = (t <ʳ u) × AreRisingTimes (u ∷ times)

-- each is a cut time
abbrev pub AreAllCut : List Node → Trace → ℕ → List Rational → Type 0
AreAllCut nodes tr i [] = Unit {0}
AreAllCut nodes tr i (t ∷ times) = IsCut nodes tr i t × AreAllCut nodes tr i times

-- t is one of the times
abbrev pub IsAmong : List Rational → Rational → Type 0
IsAmong [] t = ⊥
IsAmong (u ∷ times) t = (t ≈ u) ⊎ IsAmong times t

-- the cut times of a node, in order
pub record AreCuts (nodes : List Node) (tr : Trace) (i : ℕ) (times : List Rational) : Type 0 where
  pub rising : AreRisingTimes times
  pub sound : AreAllCut nodes tr i times
  pub complete : (t : Rational) → IsCut nodes tr i t → IsAmong times t

-- each cut time, and the open gaps between them
abbrev pub cells : List Rational → List Interval
cells [] = []
cells (t ∷ []) = closed t t ∷ []
cells (t ∷ u ∷ times) = closed t t ∷ gap t u ∷ cells (u ∷ times)
