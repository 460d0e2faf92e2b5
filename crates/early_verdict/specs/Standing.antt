-- What the sets of all nodes keep from entry to entry.
use Rattle.std.specs.Prelude.{◌≡◌, ◌↔◌, ◌⊎◌, ℕ, ◌+◌, ◌≤◌, Bool, false, Option, Some, None}
use Rattle.std.specs.Prelude.{List, [], ◌∷◌, length, IfSome, MatchOption, MatchBool, IsSome, slice_get, slice_index_or}
use Rattle.rational.specs.Time.{Rational, later, ◌≤ʳ◌}
use Rattle.stl_syntax.specs.Trace.{Row, Trace, start}
use Rattle.stl_syntax.specs.declared.node.Node.{Node}
use Rattle.stl_syntax.specs.declared.node.Node.TheVariants.{Atom as Leaf, Until, Eventually, Always, Since, Once, Historically}
use Rattle.stl_syntax.specs.Views.{first_of, second_of, view_of}
use Rattle.growing_sets.specs.Spans.{Lies}
use Rattle.early_verdict.specs.Fitting.{AtomFits, Fits, AreSetsTidy, AreEmpty, HasStepped, HasFailBounds, Lists, lists_at}
use Rattle.atom_lines.specs.Binding.{Binding, IsFor, IsAtomNode}
use Rattle.early_verdict.specs.Adding.{IsNextRow}
use Rattle.early_verdict.specs.Changing.{ChangedTo, ChangesAt}
use Rattle.early_verdict.specs.Happening.{Was, Had, Happens}
use Rattle.early_verdict.specs.declared.entry.Entry.{Entry}
use Rattle.stl_syntax.specs.declared.atom.Atom.{Atom}
use Rattle.growing_sets.specs.declared.stretch.Stretch.{Stretch}
use Rattle.early_verdict.specs.declared.sets.Sets.{Sets}
use Rattle.early_verdict.specs.declared.sets.Parts.{Parts}
use Rattle.early_verdict.specs.declared.sets.Net.{Net}

-- the stretch has the times from `from` on, up to `top` ticks later
abbrev pub IsFrom : Rational → ℕ → Stretch → Type 0
IsFrom from top s = (t : Rational) → Lies s t ↔ ((from ≤ʳ t) × (t ≤ʳ later from top))

-- how far ahead of a time the node looks at its children
abbrev pub looks_ahead : Node → ℕ
looks_ahead (Until p q a b) = b
looks_ahead (Eventually p a b a_in b_in) = b
looks_ahead (Always p a b a_in b_in) = b
looks_ahead n = 0

-- where the node is asked up to `top`, its children are asked as far as it looks
pub record AsksBelow (tops : ℕ → ℕ) (top : ℕ) (n : Node) : Type 0 where
  pub first : IfSome (first_of (view_of n)) (λ p. top + looks_ahead n ≤ tops p)
  pub second : IfSome (second_of (view_of n)) (λ q. top + looks_ahead n ≤ tops q)

-- the ticks up to which each node is asked
abbrev pub top_at : List ℕ → ℕ → ℕ
top_at tops i = slice_index_or tops i 0

-- the sets between are looked at as far as the node looks
pub record ArePartsAsked (from : Rational) (top wide : ℕ) (x : Parts) : Type 0 where
  pub some : IsFrom from top x.holding.some.bounds
  pub each : IsFrom from top x.holding.each.bounds
  pub never : IsFrom from top x.failing.never.bounds
  pub broken : IsFrom from top x.failing.broken.bounds
  pub both : IsFrom from wide x.holding.both.bounds
  pub run : IsFrom from wide x.holding.run.bounds
  pub fail : IsFrom from wide x.failing.fail.bounds
  pub stop : IsFrom from wide x.failing.stop.bounds

-- so are the node's own
pub record AreAsked (from : Rational) (top wide : ℕ) (s : Sets) : Type 0 where
  pub yes : IsFrom from top s.yes.bounds
  pub no : IsFrom from top s.no.bounds
  pub parts : MatchOption s.parts (Unit {0}) (ArePartsAsked from top wide)

-- of until and since the place of the left operand
abbrev pub left_of : Node → Option ℕ
left_of (Until p q a b) = Some p
left_of (Since p q a b) = Some p
left_of n = None

-- a node's sets are asked as far as `tops` says; until and since have sets between, as wide as those of the left operand
pub record HasSets (from : Rational) (tops : List ℕ) (sets : List Sets) (i : ℕ) (n : Node) (s : Sets) : Type 0 where
  pub wide : ℕ
  pub asked : AreAsked from (top_at tops i) wide s
  pub left : MatchOption (left_of n) (s.parts ≡ None)
      (λ p. (top_at tops p ≡ wide) × ((l : Sets) → slice_get sets p ≡ Some l → HasFailBounds s l) × (s.parts ≡ None → ⊥))

-- each node has sets, and asks its children
pub record HaveSets (nodes : List Node) (from : Rational) (tops : List ℕ) (sets : List Sets) : Type 0 where
  pub count : length sets ≡ length nodes
  pub has : (i : ℕ) (n : Node) (s : Sets) → slice_get nodes i ≡ Some n → slice_get sets i ≡ Some s → HasSets from tops sets i n s
  pub asks : (i : ℕ) (n : Node) → slice_get nodes i ≡ Some n → AsksBelow (top_at tops) (top_at tops i) n

-- what a node goes on from: an atom from what it shows, an operator from sets of its own
abbrev pub own_sets : Node → Sets → Sets → Sets
own_sets (Leaf a) own shown = shown
own_sets n own shown = own

abbrev pub own_list : List Node → List Sets → List Sets → List Sets
own_list (n ∷ nodes) (s ∷ live) (x ∷ shown) = own_sets n s x ∷ own_list nodes live shown
own_list nodes live shown = []

abbrev pub own_of : List Node → Net → List Sets
own_of nodes net = own_list nodes net.live.items net.shown.items

-- what each node goes on from fits what its children show
abbrev pub AllFit : List Node → Bool → Trace → List Sets → List Sets → Type 0
AllFit nodes ended tr live shown = (i : ℕ) (n : Node) (s : Sets) → slice_get nodes i ≡ Some n → slice_get live i ≡ Some s → Fits n ended tr (lists_at shown) s

-- the lists of all sets rise
abbrev pub AllTidy : List Sets → Type 0
AllTidy sets = (i : ℕ) (s : Sets) → slice_get sets i ≡ Some s → AreSetsTidy s

-- the lists that all sets had before what is fresh in them
abbrev pub HadAll : Option Trace → Trace → (ℕ → Lists) → List Sets → Type 0
HadAll old tr was sets = (p : ℕ) (s : Sets) → slice_get sets p ≡ Some s → Had old tr (was p) s

-- until and since have sets between
abbrev pub HasParts : Node → Sets → List Sets → Type 0
HasParts n s below = MatchOption (left_of n) (Unit {0}) (λ p. IsSome s.parts × ((l : Sets) → slice_get below p ≡ Some l → HasFailBounds s l))

-- an atom's sets go on with the row, and stay at the end of the input
abbrev pub GoesOnWith : Entry → Option Trace → Trace → Option Row → Row → Atom → Type 0
GoesOnWith e old tr before r a = MatchBool e.ended (old ≡ Some tr) (IsNextRow a old tr before r)

-- so does an atom among the nodes
abbrev pub LeafGoes : Binding → ℕ → Entry → Option Trace → Trace → Option Row → Row → Sets → Node → Type 0
LeafGoes b i e old tr before r s (Leaf a) =
    IsFor b i a tr × GoesOnWith e old tr before r a × ((t : Rational) → Lies s.yes.bounds t ⊎ Lies s.no.bounds t → start tr ≤ʳ t)
LeafGoes b i e old tr before r s n = Unit {0}

-- an atom's sets at a node go on to fit, or stay as they are
abbrev pub LeafFits : Binding → ℕ → Entry → Option Row → Row → Sets → Sets → Type 0
LeafFits b i e before r own new =
    (a : Atom) (old : Option Trace) (tr : Trace) → LeafGoes b i e old tr before r own (Leaf a) → Was old (λ o. AtomFits a o) own → AtomFits a tr new

-- the columns of an atom are bound
abbrev pub LeafIsBound : Binding → ℕ → Node → Type 0
LeafIsBound b i (Leaf a) = IsAtomNode b i
LeafIsBound b i n = Unit {0}

-- an operator's sets go on by those of its children
abbrev pub IsOperator : Node → Type 0
IsOperator (Leaf a) = ⊥
IsOperator n = Unit {0}

-- the node at the place is an operator
abbrev pub IsOperatorAt : List Node → ℕ → Type 0
IsOperatorAt nodes i = (n : Node) × (slice_get nodes i ≡ Some n) × IsOperator n

-- the operators with one operand that is looked at ahead, and those with one that is looked at behind
abbrev pub LooksAhead : Node → Type 0
LooksAhead (Eventually p a b i j) = Unit {0}
LooksAhead (Always p a b i j) = Unit {0}
LooksAhead n = ⊥

abbrev pub LooksBehind : Node → Type 0
LooksBehind (Once p a b i j) = Unit {0}
LooksBehind (Historically p a b i j) = Unit {0}
LooksBehind n = ⊥

-- the sets of an operator go on from fitting the trace before to fitting the trace now, by what those of its children gained
abbrev pub GoesBy : Node → Entry → List Sets → Sets → Sets → Type 0
GoesBy n e below own new =
    (old : Option Trace) (tr : Trace) (was : ℕ → Lists) → Happens e old tr → HadAll old tr was below → HasParts n own below
    → Was old (λ o. Fits n false o was) own → Fits n e.ended tr (lists_at below) new

-- the sets at one place stepped, and those at the others are as they were
abbrev pub StepsAt : ℕ → List Sets → List Sets → Type 0
StepsAt i old new = ChangesAt i old new HasStepped

-- those before a place stepped, and those from it on are as they were
abbrev pub SteppedTo : ℕ → List Sets → List Sets → Type 0
SteppedTo n old new = ChangedTo n old new (λ j s r. HasStepped s r)

-- no set has a time
abbrev pub AllEmpty : List Sets → Type 0
AllEmpty sets = (i : ℕ) (s : Sets) → slice_get sets i ≡ Some s → AreEmpty s

-- each atom goes on with the row, or stays at the end of the input
abbrev pub AllGo : List Node → Binding → Entry → Option Trace → Trace → Option Row → Row → Type 0
AllGo nodes b e old tr before r =
    (i : ℕ) (a : Atom) → slice_get nodes i ≡ Some (Leaf a) → IsFor b i a tr × GoesOnWith e old tr before r a

-- the sets fitted the trace before, or were empty
abbrev pub AllWere : Option Trace → List Node → List Sets → List Sets → Type 0
AllWere old nodes live shown = MatchOption old (AllEmpty live × AllEmpty shown) (λ o. AllFit nodes false o live shown)
