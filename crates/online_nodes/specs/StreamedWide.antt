-- When a streamed robustness may refuse for a denominator: by what the rows have settled; and which formulas are streamed.
use Rattle.std.specs.Prelude.{◌⊎◌, ℕ, Bool, true, ℤ, pos, ◌-ℤ◌, if◌then◌else◌, List, Option, IfSome}
use Rattle.rational.specs.Time.{Rational, whole, shifted, ◌<ʳ◌, ◌≈◌}
use Rattle.rational.specs.Extended.{Affine}
use Rattle.rational.specs.Windows.{Ahead, Behind}
use Rattle.stl_syntax.specs.Formula.{Subformula, eventually, always, once, historically, subformula, horizon, IsFirst}
use Rattle.stl_syntax.specs.SupInf.{Setting, SupInf}
use Rattle.rational.specs.InPlay.{IsValueWithin, IsLimitWithin, IsWideCrossing, IsWideValue}
use Rattle.stl_syntax.specs.WideCause.{IsInPlayAt}
use Rattle.stl_syntax.specs.declared.node.Node.{Node}
use Rattle.stl_syntax.specs.declared.node.Node.TheVariants.{Until, Since}

-- the node is until or since
abbrev pub IsUnstreamed : Node → Type 0
IsUnstreamed (Until p q a b) = Unit {0}
IsUnstreamed (Since p q a b) = Unit {0}
IsUnstreamed n = ⊥

-- the first node that is until or since
abbrev pub IsFirstUnstreamed : List Node → ℕ → Type 0
IsFirstUnstreamed nodes i = IsFirst IsUnstreamed nodes i

-- the front number of a node after a row at time s, where each node below it stands at its own; at the end of the input all stand at s
abbrev pub front_at : Bool → ℤ → Subformula → ℤ
front_at ended s p = if ended then s else s -ℤ pos (horizon p)

-- the value of the input, or a limit of it, at a breakpoint of the window ahead before the input's own front
abbrev pub AheadConstant : Bool → ℤ → Subformula → Setting → ℕ → ℕ → Bool → Bool → Rational → Affine → Type 0
AheadConstant ended now p s a b a_in b_in tau line =
    IsValueWithin (SupInf p s) s.from s.to (λ u. Ahead s.from s.to a b a_in b_in tau u × (u <ʳ whole (front_at ended now p))) line
    ⊎ IsLimitWithin (SupInf p s) s.from s.to (λ u. Ahead s.from s.to a b true true tau u × (u <ʳ whole (front_at ended now p)))
    (λ u. shifted tau (pos a) <ʳ u) (λ u. u <ʳ shifted tau (pos b)) line

-- the same of the window behind
abbrev pub BehindConstant : Bool → ℤ → Subformula → Setting → ℕ → Option ℕ → Bool → Bool → Rational → Affine → Type 0
BehindConstant ended now p s a b a_in b_in tau line =
    IsValueWithin (SupInf p s) s.from s.to (λ u. Behind s.from s.to a b a_in b_in tau u × (u <ʳ whole (front_at ended now p))) line
    ⊎ IsLimitWithin (SupInf p s) s.from s.to (λ u. Behind s.from s.to a b true true tau u × (u <ʳ whole (front_at ended now p)))
    (λ u. IfSome b (λ b. tau <ʳ shifted u (pos b))) (λ u. shifted u (pos a) <ʳ tau) line

-- a constant that the input of a window has at a breakpoint before its own front is in play at tau
abbrev pub IsSettledConstant : Bool → ℤ → Subformula → Setting → Rational → Affine → Type 0
IsSettledConstant ended now (eventually a b a_in b_in p) s tau line = AheadConstant ended now p s a b a_in b_in tau line
IsSettledConstant ended now (always a b a_in b_in p) s tau line = AheadConstant ended now p s a b a_in b_in tau line
IsSettledConstant ended now (once a b a_in b_in p) s tau line = BehindConstant ended now p s a b a_in b_in tau line
IsSettledConstant ended now (historically a b a_in b_in p) s tau line = BehindConstant ended now p s a b a_in b_in tau line
IsSettledConstant ended now _ s tau line = ⊥

-- the node at place i may refuse for the crossing of p and q between a and b, after rows up to the time `now`
abbrev pub IsStreamedCrossing : List Node → Setting → Bool → ℤ → ℕ → Affine → Affine → Rational → Rational → ℕ → Type 0
IsStreamedCrossing nodes s ended now i p q a b den =
    IsWideCrossing (λ tau line. IsInPlayAt (subformula nodes i) s tau line × (tau <ʳ whole (front_at ended now (subformula nodes i)))) s.from s.to p q a b den

-- the node at place i may refuse for the value of p at u
abbrev pub IsStreamedValue : List Node → Setting → Bool → ℤ → ℕ → Affine → Rational → ℕ → Type 0
IsStreamedValue nodes s ended now i p u den =
    IsWideValue (λ tau line. IsInPlayAt (subformula nodes i) s tau line × (tau <ʳ whole (front_at ended now (subformula nodes i)))) s.from s.to p u den
    ⊎ ((whole (front_at ended now (subformula nodes i)) ≈ s.from) × IsWideValue (IsSettledConstant ended now (subformula nodes i) s) s.from s.to p u den)
