-- When an evaluation may refuse for a denominator: a pair of functions, or a constant, that is in play at a node.
use Rattle.std.specs.Prelude.{◌⊎◌, ℕ, true, Option, Some, List}
use Rattle.rational.specs.Time.{Rational}
use Rattle.rational.specs.Extended.{opposite, Affine}
use Rattle.rational.specs.Windows.{Function, Ahead, Behind, IsSupOver, IsInfOver, UntilToEnd, SinceFromStart}
use Rattle.stl_syntax.specs.Formula.{Subformula, constant, atom, negation, conjunction, disjunction, implication}
use Rattle.stl_syntax.specs.Formula.{until, eventually, always, since, once, historically, subformula}
use Rattle.stl_syntax.specs.SupInf.{Setting, SupInf}
use Rattle.rational.specs.InPlay.{Step, of_two, window_ahead, window_behind, until_end, since_start, IsInPlay, IsWideCrossing, IsWideValue}
use Rattle.stl_syntax.specs.declared.node.Node.{Node}

-- P until Q, where Q counts up to the end of the domain
abbrev pub until_to_end : Setting → Function → Function → Function
until_to_end s P Q = UntilToEnd s.lowest s.highest s.to P Q

-- P since Q, where Q counts from the start of the domain on
abbrev pub since_from_start : Setting → Function → Function → Function
since_from_start s P Q = SinceFromStart s.lowest s.highest s.from P Q

-- the Inf of P over the window ahead
abbrev pub inf_ahead : Setting → ℕ → ℕ → Function → Function
inf_ahead s a b P = λ t. IsInfOver s.highest (Ahead s.from s.to a b true true t) P

-- the Sup of P over the window ahead
abbrev pub sup_ahead : Setting → ℕ → ℕ → Function → Function
sup_ahead s a b P = λ t. IsSupOver s.lowest (Ahead s.from s.to a b true true t) P

-- the Inf of P over the window behind
abbrev pub inf_behind : Setting → ℕ → Option ℕ → Function → Function
inf_behind s a b P = λ t. IsInfOver s.highest (Behind s.from s.to a b true true t) P

-- the Sup of P over the window behind
abbrev pub sup_behind : Setting → ℕ → Option ℕ → Function → Function
sup_behind s a b P = λ t. IsSupOver s.lowest (Behind s.from s.to a b true true t) P

-- minus the function
abbrev pub negative : Function → Function
negative P = λ t v. P t (opposite v)

-- the step is one of those by which the node's value is made of its children's
abbrev pub IsStepOf : Subformula → Setting → (Step → Type 0) → Type 0
IsStepOf (constant b) s C = ⊥
IsStepOf (atom i a) s C = ⊥
IsStepOf (negation p) s C = ⊥
IsStepOf (conjunction p q) s C = C (of_two (SupInf p s) (SupInf q s))
IsStepOf (disjunction p q) s C = C (of_two (SupInf p s) (SupInf q s))
IsStepOf (implication p q) s C = C (of_two (negative (SupInf p s)) (SupInf q s))
IsStepOf (eventually a b a_in b_in p) s C = C (window_ahead (SupInf p s) a b a_in b_in)
IsStepOf (always a b a_in b_in p) s C = C (window_ahead (SupInf p s) a b a_in b_in)
IsStepOf (once a b a_in b_in p) s C = C (window_behind (SupInf p s) a b a_in b_in)
IsStepOf (historically a b a_in b_in p) s C = C (window_behind (SupInf p s) a b a_in b_in)
IsStepOf (until a b p q) s C =
    C (window_ahead (SupInf q s) a b true true)
    ⊎ C (until_end (SupInf p s) (SupInf q s) (until_to_end s (SupInf p s) (SupInf q s)))
    ⊎ C (window_ahead (until_to_end s (SupInf p s) (SupInf q s)) 0 a true true)
    ⊎ C (of_two (sup_ahead s a b (SupInf q s)) (inf_ahead s 0 a (until_to_end s (SupInf p s) (SupInf q s))))
IsStepOf (since a b p q) s C =
    C (window_behind (SupInf q s) a b true true)
    ⊎ C (since_start (SupInf p s) (SupInf q s) (since_from_start s (SupInf p s) (SupInf q s)))
    ⊎ C (window_behind (since_from_start s (SupInf p s) (SupInf q s)) 0 (Some a) true true)
    ⊎ C (of_two (sup_behind s a b (SupInf q s)) (inf_behind s 0 (Some a) (since_from_start s (SupInf p s) (SupInf q s))))

-- the line is in play at tau in one of the node's steps
abbrev pub IsInPlayAt : Subformula → Setting → Rational → Affine → Type 0
IsInPlayAt p s tau line = IsStepOf p s (λ step. IsInPlay step s.from s.to tau line)

-- the node at place i may refuse for the crossing of p and q between a and b
abbrev pub IsCrossingCause : List Node → Setting → ℕ → Affine → Affine → Rational → Rational → ℕ → Type 0
IsCrossingCause nodes s i p q a b den = IsWideCrossing (IsInPlayAt (subformula nodes i) s) s.from s.to p q a b den

-- the node at place i may refuse for the value of p at u
abbrev pub IsValueCause : List Node → Setting → ℕ → Affine → Rational → ℕ → Type 0
IsValueCause nodes s i p u den = IsWideValue (IsInPlayAt (subformula nodes i) s) s.from s.to p u den
