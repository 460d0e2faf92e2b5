-- The printed text of a formula, piece by piece as it is written.
use Rattle.std.specs.Prelude.{ℕ, zero, suc, ◌+◌, ◌/◌, ◌%◌, ◌^◌, ◌&&◌, Bool, true, false, List, [], ◌∷◌, ◌++◌, ℤ}
use Rattle.std.specs.Prelude.{pos, negsuc, nat_abs, codes, decimal, if◌then◌else◌, ◌==◌, Option, Some, None}
use Rattle.stl_syntax.specs.Characters.{without_zeros}
use Rattle.stl_syntax.specs.Formula.{Subformula, constant, atom, negation, conjunction, disjunction}
use Rattle.stl_syntax.specs.Formula.{implication, until, eventually, always, since, once, historically}
use Rattle.stl_syntax.specs.Print.{after_point, relation_text, scaled_text, opening, closing, has_two}
use Rattle.stl_syntax.specs.Texts.{bool_text}
use Rattle.stl_syntax.specs.declared.scale.Scale.{Scale}
use Rattle.stl_syntax.specs.declared.atom.Atom.{Atom}
use Rattle.stl_syntax.specs.declared.atom.Term.{Term}
use Rattle.stl_syntax.specs.declared.node.Node.{Node}
use Rattle.stl_syntax.specs.declared.node.Node.TheVariants.{Const, Atom as Leaf, Not, And, Or, Implies, Until, Eventually, Always, Since, Once, Historically}
use Rattle.stl_syntax.specs.declared.operator.Window.{Window}
use Rattle.stl_syntax.specs.declared.operator.Operands.{Operands}
use Rattle.stl_syntax.specs.declared.operator.Operands.TheVariants.{Nothing, One, Two}

-- the last k digits of n
abbrev pub last_digits : ℕ → ℕ → List ℕ
last_digits zero n = []
last_digits (suc k) n = last_digits k (n / 10) ++ (48 + n % 10) ∷ []

-- n ticks of 1 / 10^digits
unfoldable pub decimal_text : ℕ → ℕ → List ℕ
decimal_text digits n = decimal (n / 10 ^ digits) ++ after_point (without_zeros (last_digits digits (n % 10 ^ digits)))

-- a minus before what is negative
abbrev pub minus_text : ℤ → List ℕ
minus_text (pos n) = []
minus_text (negsuc n) = codes "-"

-- a sign between terms
abbrev pub sign_text : ℤ → List ℕ
sign_text (pos n) = codes " + "
sign_text (negsuc n) = codes " - "

-- the terms after the first
abbrev pub later_terms : List Term → List ℕ
later_terms [] = []
later_terms (t ∷ terms) = sign_text t.coef ++ scaled_text (nat_abs t.coef) t.name ++ later_terms terms

-- all terms
abbrev pub sum_text : List Term → List ℕ
sum_text [] = []
sum_text (t ∷ terms) = minus_text t.coef ++ scaled_text (nat_abs t.coef) t.name ++ later_terms terms

-- a constant
abbrev pub constant_text : ℕ → ℤ → List ℕ
constant_text digits z = minus_text z ++ decimal_text digits (nat_abs z)

-- an atom
abbrev pub atom_text : Scale → Atom → List ℕ
atom_text s a = sum_text a.terms ++ codes " " ++ relation_text a.rel ++ codes " " ++ constant_text s.value a.limit

-- an upper bound
abbrev pub upper_text : Scale → Option ℕ → List ℕ
upper_text s None = codes "inf"
upper_text s (Some b) = decimal_text s.time b

-- a window with its brackets
abbrev pub bound_text : Scale → Window → List ℕ
bound_text s w = opening w.low_in ++ decimal_text s.time w.low ++ codes "," ++ upper_text s w.high ++ closing w.high_in

-- the window is all that is past
abbrev pub is_whole_past : Window → Bool
is_whole_past w = no_upper w.high && (w.low == 0) && w.low_in
  where
    no_upper : Option ℕ → Bool
    no_upper None = true
    no_upper (Some b) = false

-- a window, which is left out where it is all that is past
abbrev pub window_text : Scale → Option Window → List ℕ
window_text s None = []
window_text s (Some w) = if is_whole_past w then [] else bound_text s w

-- the window of a node that has one
abbrev pub window_of : Node → Option Window
window_of (Until p q a b) = Some (record { low = a; high = Some b; low_in = true; high_in = true })
window_of (Eventually p a b a_in b_in) = Some (record { low = a; high = Some b; low_in = a_in; high_in = b_in })
window_of (Always p a b a_in b_in) = Some (record { low = a; high = Some b; low_in = a_in; high_in = b_in })
window_of (Since p q a b) = Some (record { low = a; high = b; low_in = true; high_in = true })
window_of (Once p a b a_in b_in) = Some (record { low = a; high = b; low_in = a_in; high_in = b_in })
window_of (Historically p a b a_in b_in) = Some (record { low = a; high = b; low_in = a_in; high_in = b_in })
window_of n = None

-- the operator's word
abbrev pub word_of : Node → List ℕ
word_of (Const b) = bool_text b
word_of (Leaf a) = []
word_of (Not p) = codes "not"
word_of (And p q) = codes "and"
word_of (Or p q) = codes "or"
word_of (Implies p q) = codes "implies"
word_of (Until p q a b) = codes "until"
word_of (Eventually p a b a_in b_in) = codes "eventually"
word_of (Always p a b a_in b_in) = codes "always"
word_of (Since p q a b) = codes "since"
word_of (Once p a b a_in b_in) = codes "once"
word_of (Historically p a b a_in b_in) = codes "historically"

-- the operands of a node, by their places
abbrev pub operands_of : Node → Operands
operands_of (Const b) = Nothing
operands_of (Leaf a) = Nothing
operands_of (Not p) = One p
operands_of (And p q) = Two p q
operands_of (Or p q) = Two p q
operands_of (Implies p q) = Two p q
operands_of (Until p q a b) = Two p q
operands_of (Eventually p a b a_in b_in) = One p
operands_of (Always p a b a_in b_in) = One p
operands_of (Since p q a b) = Two p q
operands_of (Once p a b a_in b_in) = One p
operands_of (Historically p a b a_in b_in) = One p

-- there are two
abbrev pub are_two : Operands → Bool
are_two Nothing = false
are_two (One p) = false
are_two (Two p q) = true

-- the operator's word with its window
abbrev pub operator_text : Scale → Node → List ℕ
operator_text s n = word_of n ++ window_text s (window_of n)

-- a node without operands
abbrev pub leaf_text : Scale → Node → List ℕ
leaf_text s (Leaf a) = atom_text s a
leaf_text s n = word_of n

-- in parentheses where it is asked for
abbrev pub in_parens : Bool → List ℕ → List ℕ
in_parens parens text = if parens then codes "(" ++ text ++ codes ")" else text

-- a node by the texts of its operands
abbrev pub node_text : Scale → Node → (ℕ → List ℕ) → Operands → List ℕ
node_text s n at Nothing = leaf_text s n
node_text s n at (One p) = operator_text s n ++ codes " " ++ at p
node_text s n at (Two p q) = at p ++ codes " " ++ operator_text s n ++ codes " " ++ at q

-- a tree
abbrev pub printed : Scale → Subformula → List ℕ
printed s (constant b) = bool_text b
printed s (atom i a) = atom_text s a
printed s (negation p) = codes "not" ++ codes " " ++ in_parens (has_two p) (printed s p)
printed s (conjunction p q) = in_parens (has_two p) (printed s p) ++ codes " " ++ codes "and" ++ codes " " ++ in_parens (has_two q) (printed s q)
printed s (disjunction p q) = in_parens (has_two p) (printed s p) ++ codes " " ++ codes "or" ++ codes " " ++ in_parens (has_two q) (printed s q)
printed s (implication p q) = in_parens (has_two p) (printed s p) ++ codes " " ++ codes "implies" ++ codes " " ++ in_parens (has_two q) (printed s q)
printed s (until a b p q) =
    in_parens (has_two p) (printed s p) ++ codes " " ++ (codes "until" ++ bound_text s (record { low = a; high = Some b; low_in = true; high_in = true }))
    ++ codes " " ++ in_parens (has_two q) (printed s q)
printed s (since a b p q) =
    in_parens (has_two p) (printed s p) ++ codes " "
    ++ (codes "since" ++ window_text s (Some (record { low = a; high = b; low_in = true; high_in = true }))) ++ codes " "
    ++ in_parens (has_two q) (printed s q)
printed s (eventually a b a_in b_in p) =
    (codes "eventually" ++ bound_text s (record { low = a; high = Some b; low_in = a_in; high_in = b_in })) ++ codes " " ++ in_parens (has_two p) (printed s p)
printed s (always a b a_in b_in p) =
    (codes "always" ++ bound_text s (record { low = a; high = Some b; low_in = a_in; high_in = b_in })) ++ codes " " ++ in_parens (has_two p) (printed s p)
printed s (once a b a_in b_in p) =
    (codes "once" ++ window_text s (Some (record { low = a; high = b; low_in = a_in; high_in = b_in }))) ++ codes " " ++ in_parens (has_two p) (printed s p)
printed s (historically a b a_in b_in p) =
    (codes "historically" ++ window_text s (Some (record { low = a; high = b; low_in = a_in; high_in = b_in }))) ++ codes " "
    ++ in_parens (has_two p) (printed s p)
