-- The truth of a formula at each rational time of a trace.
use Rattle.std.specs.Prelude.{◌⊎◌, Bool, List, [], ◌∷◌, pos, nat_lt, nat_le, IsTrue, true}
use Rattle.rational.specs.Time.{Rational, Within, whole, add, subtract, times}
use Rattle.rational.specs.Windows.{Ahead, Behind}
use Rattle.stl_syntax.specs.Trace.{Trace, start, stop, value_of}
use Rattle.stl_syntax.specs.Formula.{Subformula, constant, atom, negation, conjunction, disjunction}
use Rattle.stl_syntax.specs.Formula.{implication, until, eventually, always, since, once, historically}
use Rattle.stl_syntax.specs.declared.atom.Atom.{Atom}
use Rattle.stl_syntax.specs.declared.atom.Term.{Term}
use Rattle.stl_syntax.specs.declared.rel.Rel.{Rel}
use Rattle.stl_syntax.specs.declared.rel.Rel.TheVariants.{AtLeast, Above, AtMost, Below}

-- the sum of the terms at t
abbrev pub sum_at : List Term → Trace → Rational → Rational
sum_at [] tr t = whole (pos 0)
sum_at (k ∷ terms) tr t = add (times k.coef (value_of tr k.name t)) (sum_at terms tr t)

-- the sum of an atom's terms at t, minus its constant
unfoldable pub expression : Atom → Trace → Rational → Rational
expression a tr t = subtract (sum_at a.terms tr t) (whole a.limit)

-- the comparison with 0, as a test
abbrev pub compares : Rel → Rational → Bool
compares AtLeast e = nat_le e.down e.up
compares Above e = nat_lt e.down e.up
compares AtMost e = nat_le e.up e.down
compares Below e = nat_lt e.up e.down

-- the atom holds at t, as a test
abbrev pub holds_at : Atom → Trace → Rational → Bool
holds_at a tr t = compares a.rel (expression a tr t)

-- the formula holds at t
abbrev pub Truth : Subformula → Trace → Rational → Type 0
Truth (constant b) tr t = IsTrue b
Truth (atom i a) tr t = IsTrue (holds_at a tr t)
Truth (negation p) tr t = ¬ Truth p tr t
Truth (conjunction p q) tr t = Truth p tr t × Truth q tr t
Truth (disjunction p q) tr t = Truth p tr t ⊎ Truth q tr t
Truth (implication p q) tr t = Truth p tr t → Truth q tr t
Truth (eventually a b a_in b_in p) tr t = (u : Rational) × Ahead (start tr) (stop tr) a b a_in b_in t u × Truth p tr u
Truth (always a b a_in b_in p) tr t = (u : Rational) → Ahead (start tr) (stop tr) a b a_in b_in t u → Truth p tr u
Truth (once a b a_in b_in p) tr t = (u : Rational) × Behind (start tr) (stop tr) a b a_in b_in t u × Truth p tr u
Truth (historically a b a_in b_in p) tr t = (u : Rational) → Behind (start tr) (stop tr) a b a_in b_in t u → Truth p tr u
Truth (until a b p q) tr t =
    (u : Rational) × Ahead (start tr) (stop tr) a b true true t u × Truth q tr u × ((v : Rational) → Within t u v → Truth p tr v)
Truth (since a b p q) tr t =
    (u : Rational) × Behind (start tr) (stop tr) a b true true t u × Truth q tr u × ((v : Rational) → Within u t v → Truth p tr v)
