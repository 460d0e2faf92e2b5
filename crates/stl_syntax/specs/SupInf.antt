-- The Sup-Inf value of a formula, over any reading of its atoms.
use Rattle.std.specs.Prelude.{◌⊎◌, ℕ, true, false, List, pos, negsuc, IsTrue, IsFalse, slice_get, Option, Some, None, [], ◌∷◌, ◌≡◌}
use Rattle.rational.specs.Windows.{Ahead, Behind, IsSupOver, IsInfOver, IsUntil, IsSince}
use Rattle.rational.specs.Time.{Rational, Within, whole, negate}
use Rattle.stl_syntax.specs.Trace.{Trace, start, stop}
use Rattle.rational.specs.Extended.{Extended, minus_infinity, finite, infinity, opposite, ◌≈ᵉ◌, IsLeast, IsGreatest}
use Rattle.stl_syntax.specs.Knots.{Knots, Reads}
use Rattle.stl_syntax.specs.Formula.{Subformula, constant, atom, negation, conjunction, disjunction}
use Rattle.stl_syntax.specs.Formula.{implication, until, eventually, always, since, once, historically}
use Rattle.stl_syntax.specs.Truth.{expression, holds_at}
use Rattle.stl_syntax.specs.Kleene.{IsCovered}
use Rattle.stl_syntax.specs.declared.atom.Atom.{Atom}
use Rattle.stl_syntax.specs.declared.items.Item.{Item}
use Rattle.stl_syntax.specs.declared.node.Node.{Node}
use Rattle.stl_syntax.specs.declared.node.Node.TheVariants.{Atom as Leaf}
use Rattle.stl_syntax.specs.declared.rel.Rel.{Rel}
use Rattle.stl_syntax.specs.declared.rel.Rel.TheVariants.{AtLeast, Above, AtMost, Below}

-- what gives each atom occurrence a value at each time: a trace read as margins, or as 1 and -1; a trace read as 1 and -1 where
-- items cover it, and as 0 elsewhere; or the knots of each atom occurrence, at its place
pub data Reading : Type 0 where
  margins : Trace → Reading
  truths : Trace → Reading
  certainties : Trace → List Item → Reading
  signals : List (Option Knots) → Reading

-- lists of knots, one for each atom in post-order, each at the place of its atom
abbrev pub placed : List Node → List Knots → List (Option Knots)
placed [] lists = []
placed (Leaf a ∷ nodes) [] = None ∷ placed nodes []
placed (Leaf a ∷ nodes) (knots ∷ lists) = Some knots ∷ placed nodes lists
placed (_ ∷ nodes) lists = None ∷ placed nodes lists

-- by how far the comparison holds
abbrev pub margin : Rel → Rational → Rational
margin AtLeast e = e
margin Above e = e
margin AtMost e = negate e
margin Below e = negate e

-- the value of true
abbrev pub one : Extended
one = finite (whole (pos 1))

-- the value of neither
abbrev pub zero_value : Extended
zero_value = finite (whole (pos 0))

-- the value of false
abbrev pub minus_one : Extended
minus_one = finite (whole (negsuc 0))

-- the reading gives the atom occurrence at place i the value r at t
abbrev pub Gives : Reading → ℕ → Atom → Rational → Extended → Type 0
Gives (margins tr) i a t r = r ≈ᵉ finite (margin a.rel (expression a tr t))
Gives (truths tr) i a t r = (IsTrue (holds_at a tr t) × (r ≈ᵉ one)) ⊎ (IsFalse (holds_at a tr t) × (r ≈ᵉ minus_one))
Gives (certainties tr items) i a t r =
    (IsTrue (holds_at a tr t) × IsCovered items i t × (r ≈ᵉ one))
    ⊎ (IsFalse (holds_at a tr t) × IsCovered items i t × (r ≈ᵉ minus_one))
    ⊎ ((¬ IsCovered items i t) × (r ≈ᵉ zero_value))
Gives (signals lists) i a t r = (knots : Knots) × (slice_get lists i ≡ Some (Some knots)) × Reads knots t r

-- how atoms are read, the lowest and the highest value, and the domain
pub record Setting : Type 0 where
  pub atoms : Reading
  pub lowest : Extended
  pub highest : Extended
  pub from : Rational
  pub to : Rational

-- r is the value of the formula at t
abbrev pub SupInf : Subformula → Setting → Rational → Extended → Type 0
SupInf (constant true) s t r = r ≈ᵉ s.highest
SupInf (constant false) s t r = r ≈ᵉ s.lowest
SupInf (atom i a) s t r = Gives s.atoms i a t r
SupInf (negation p) s t r = SupInf p s t (opposite r)
SupInf (conjunction p q) s t r = (v w : Extended) × SupInf p s t v × SupInf q s t w × IsLeast v w r
SupInf (disjunction p q) s t r = (v w : Extended) × SupInf p s t v × SupInf q s t w × IsGreatest v w r
SupInf (implication p q) s t r = (v w : Extended) × SupInf p s t v × SupInf q s t w × IsGreatest (opposite v) w r
SupInf (eventually a b a_in b_in p) s t r = IsSupOver s.lowest (Ahead s.from s.to a b a_in b_in t) (SupInf p s) r
SupInf (always a b a_in b_in p) s t r = IsInfOver s.highest (Ahead s.from s.to a b a_in b_in t) (SupInf p s) r
SupInf (once a b a_in b_in p) s t r = IsSupOver s.lowest (Behind s.from s.to a b a_in b_in t) (SupInf p s) r
SupInf (historically a b a_in b_in p) s t r = IsInfOver s.highest (Behind s.from s.to a b a_in b_in t) (SupInf p s) r
SupInf (until a b p q) s t r = IsUntil s.lowest s.highest (Ahead s.from s.to a b true true t) (SupInf p s) (SupInf q s) t r
SupInf (since a b p q) s t r = IsSince s.lowest s.highest (Behind s.from s.to a b true true t) (SupInf p s) (SupInf q s) t r

-- the setting in which atoms have their margins
abbrev pub margin_setting : Trace → Setting
margin_setting tr = record { atoms = margins tr; lowest = minus_infinity; highest = infinity; from = start tr; to = stop tr }

-- r is the robustness at t
abbrev pub Robustness : Subformula → Trace → Rational → Extended → Type 0
Robustness p tr t r = SupInf p (margin_setting tr) t r

-- the formula has a value at each time of the domain
abbrev pub HasValue : Subformula → Setting → Type 0
HasValue p s = (t : Rational) → Within s.from s.to t → (r : Extended) × SupInf p s t r

-- so have it and each formula below it
abbrev pub HasValues : Subformula → Setting → Type 0
HasValues (constant b) s = HasValue (constant b) s
HasValues (atom i a) s = HasValue (atom i a) s
HasValues (negation p) s = HasValue (negation p) s × HasValues p s
HasValues (conjunction p q) s = HasValue (conjunction p q) s × HasValues p s × HasValues q s
HasValues (disjunction p q) s = HasValue (disjunction p q) s × HasValues p s × HasValues q s
HasValues (implication p q) s = HasValue (implication p q) s × HasValues p s × HasValues q s
HasValues (until a b p q) s = HasValue (until a b p q) s × HasValues p s × HasValues q s
HasValues (eventually a b a_in b_in p) s = HasValue (eventually a b a_in b_in p) s × HasValues p s
HasValues (always a b a_in b_in p) s = HasValue (always a b a_in b_in p) s × HasValues p s
HasValues (since a b p q) s = HasValue (since a b p q) s × HasValues p s × HasValues q s
HasValues (once a b a_in b_in p) s = HasValue (once a b a_in b_in p) s × HasValues p s
HasValues (historically a b a_in b_in p) s = HasValue (historically a b a_in b_in p) s × HasValues p s

-- the setting in which atoms are 1 where they hold, and -1 elsewhere
abbrev pub truth_setting : Trace → Setting
truth_setting tr = record { atoms = truths tr; lowest = minus_one; highest = one; from = start tr; to = stop tr }

-- between each two times of the domain the formula has an Inf
abbrev pub HasInf : Subformula → Setting → Type 0
HasInf p s = (t u : Rational) → Within s.from s.to t → Within s.from s.to u
    → (y : Extended) × IsInfOver s.highest (Within t u) (SupInf p s) y

-- so does the left child of each until and since
abbrev pub HasInfs : Subformula → Setting → Type 0
HasInfs (constant b) s = Unit {0}
HasInfs (atom i a) s = Unit {0}
HasInfs (negation p) s = HasInfs p s
HasInfs (conjunction p q) s = HasInfs p s × HasInfs q s
HasInfs (disjunction p q) s = HasInfs p s × HasInfs q s
HasInfs (implication p q) s = HasInfs p s × HasInfs q s
HasInfs (until a b p q) s = HasInf p s × HasInfs p s × HasInfs q s
HasInfs (eventually a b a_in b_in p) s = HasInfs p s
HasInfs (always a b a_in b_in p) s = HasInfs p s
HasInfs (since a b p q) s = HasInf p s × HasInfs p s × HasInfs q s
HasInfs (once a b a_in b_in p) s = HasInfs p s
HasInfs (historically a b a_in b_in p) s = HasInfs p s

-- the setting in which atoms are 1 and -1 where items cover them, and 0 elsewhere
abbrev pub certainty_setting : Trace → List Item → Setting
certainty_setting tr items =
    record { atoms = certainties tr items; lowest = minus_one; highest = one; from = start tr; to = stop tr }
