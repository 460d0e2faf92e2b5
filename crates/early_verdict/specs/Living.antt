-- The sets of a net: what each node goes on from, and what it shows the node above it; both only from the times on that are still needed.
use Rattle.std.specs.Prelude.{◌≡◌, ◌⊎◌, ℕ, zero, suc, ◌-◌, ◌<◌, Bool, true, false, Option, Some, List, [], ◌∷◌, length, take, MatchOption, slice_get}
use Rattle.rational.specs.Time.{Rational, Within, later, ◌≤ʳ◌}
use Rattle.stl_syntax.specs.Trace.{Row, Trace, start}
use Rattle.stl_syntax.specs.Formula.{subformula}
use Rattle.stl_syntax.specs.Early.{OpenAhead, OpenBehind, Settled, SettledNot}
use Rattle.stl_syntax.specs.declared.node.Node.{Node}
use Rattle.stl_syntax.specs.declared.node.Node.TheVariants.{Const, Atom as Leaf, Not, And, Or, Implies, Until, Eventually, Always, Since, Once, Historically}
use Rattle.growing_sets.specs.Spans.{IsOn, Lies}
use Rattle.growing_sets.specs.Steps.{Gains}
use Rattle.early_verdict.specs.Fitting.{Fits, HasStepped, Lists, lists_at, no_of, yes_of, AreSetsTidy}
use Rattle.atom_lines.specs.Binding.{Binding}
use Rattle.early_verdict.specs.Changing.{ChangedTo, ChangesAt}
use Rattle.early_verdict.specs.Happening.{Happens, Was}
use Rattle.early_verdict.specs.declared.entry.Entry.{Entry}
use Rattle.early_verdict.specs.Standing.{AllFit, AllGo, AllTidy, AllWere, HadAll, HasParts, LeafGoes, StepsAt, SteppedTo, own_list}
use Rattle.growing_sets.specs.Showing.{TakesIn}
use Rattle.growing_sets.specs.declared.stretch.Stretch.{Stretch}
use Rattle.early_verdict.specs.declared.sets.Sets.{Sets}
use Rattle.early_verdict.specs.declared.sets.Parts.{Parts}

-- the time is one that the node at the place shows
abbrev pub IsShown : List Sets → ℕ → Rational → Type 0
IsShown [] p u = ⊥
IsShown (x ∷ shown) zero u = Lies x.no.bounds u
IsShown (x ∷ shown) (suc p) u = IsShown shown p u

-- how far the sets between reach: those of until at a time and ahead of it, those of since at it and back from it
pub record ReachesAhead (from : Rational) (b : ℕ) (own : Stretch) (x : Parts) : Type 0 where
  pub some : (t : Rational) → Lies own t → Lies x.holding.some.bounds t × Lies x.holding.each.bounds t
  pub never : (t : Rational) → Lies own t → Lies x.failing.never.bounds t × Lies x.failing.broken.bounds t
  pub both : (t u : Rational) → Lies own t → t ≤ʳ u → u ≤ʳ later t b → Lies x.holding.both.bounds u × Lies x.holding.run.bounds u
  pub fail : (t u : Rational) → Lies own t → t ≤ʳ u → u ≤ʳ later t b → Lies x.failing.fail.bounds u × Lies x.failing.stop.bounds u

pub record ReachesBack (from : Rational) (b : Option ℕ) (p : ℕ) (shown : List Sets) (own : Stretch) (x : Parts) : Type 0 where
  pub some : (t : Rational) → Lies own t → Lies x.holding.some.bounds t × Lies x.holding.each.bounds t
  pub never : (t : Rational) → Lies own t → Lies x.failing.never.bounds t × Lies x.failing.broken.bounds t
  pub both : (t u : Rational) → Lies own t → OpenBehind from 0 b true true t u → IsShown shown p u
      → Lies x.holding.both.bounds u × Lies x.holding.run.bounds u
  pub fail : (t u : Rational) → Lies own t → OpenBehind from 0 b true true t u → IsShown shown p u
      → Lies x.failing.fail.bounds u × Lies x.failing.stop.bounds u

-- looking back from t since is shown each time of its window up to now; or each from some time of it on that decides it, at which both operands
-- are true, or the left one is false
abbrev pub LooksAlong : Rational → ℕ → ℕ → ℕ → Option ℕ → List Sets → Rational → Type 0
LooksAlong from p q a b shown t =
    ((u : Rational) → OpenBehind from 0 b true true t u → IsShown shown p u × IsShown shown q u)
    ⊎ ((w : Rational) × OpenBehind from a b true true t w × ((v : Rational) → Within w t v → IsShown shown p v × IsShown shown q v)
    × ((IsOn (lists_at shown p).yes w × IsOn (lists_at shown q).yes w) ⊎ IsOn (lists_at shown p).no w))

-- looking back from its own times a node is shown each time of the window; or some that is in the list on that side, which decides it
abbrev pub LooksBack : (Lists → List Stretch) → Rational → ℕ → Option ℕ → Bool → Bool → ℕ → List Sets → Stretch → Type 0
LooksBack side from a b a_in b_in p shown own =
    (t u : Rational) → Lies own t → OpenBehind from a b a_in b_in t u
    → IsShown shown p u ⊎ ((w : Rational) × OpenBehind from a b a_in b_in t w × IsShown shown p w × IsOn (side (lists_at shown p)) w)

-- whatever the node looks at from one of its own times its children show
abbrev pub LooksAt : Node → Rational → List Sets → Stretch → Option Parts → Type 0
LooksAt (Const b) from shown own parts = Unit {0}
LooksAt (Leaf a) from shown own parts = Unit {0}
LooksAt (Not p) from shown own parts = (t : Rational) → Lies own t → IsShown shown p t
LooksAt (And p q) from shown own parts = (t : Rational) → Lies own t → IsShown shown p t × IsShown shown q t
LooksAt (Or p q) from shown own parts = (t : Rational) → Lies own t → IsShown shown p t × IsShown shown q t
LooksAt (Implies p q) from shown own parts = (t : Rational) → Lies own t → IsShown shown p t × IsShown shown q t
LooksAt (Until p q a b) from shown own parts =
    ((t u : Rational) → Lies own t → t ≤ʳ u → u ≤ʳ later t b → IsShown shown p u × IsShown shown q u)
    × MatchOption parts (Unit {0}) (ReachesAhead from b own)
LooksAt (Eventually p a b a_in b_in) from shown own parts = (t u : Rational) → Lies own t → OpenAhead from a b a_in b_in t u → IsShown shown p u
LooksAt (Always p a b a_in b_in) from shown own parts = (t u : Rational) → Lies own t → OpenAhead from a b a_in b_in t u → IsShown shown p u
LooksAt (Since p q a b) from shown own parts =
    ((t : Rational) → Lies own t → LooksAlong from p q a b shown t) × MatchOption parts (Unit {0}) (ReachesBack from b p shown own)
LooksAt (Once p a b a_in b_in) from shown own parts = LooksBack yes_of from a b a_in b_in p shown own
LooksAt (Historically p a b a_in b_in) from shown own parts = LooksBack no_of from a b a_in b_in p shown own

-- what a node goes on from, and what it shows: both lie from the start on, the children show what it looks at, and it shows what it has;
-- of the times that it shows and does not go on from it tells whether it is true
pub record IsLive (from : Rational) (shown : List Sets) (n : Node) (s x : Sets) : Type 0 where
  pub own : Stretch
  pub yes : s.yes.bounds ≡ own
  pub no : s.no.bounds ≡ own
  pub starts : (t : Rational) → Lies own t → from ≤ʳ t
  pub looks : LooksAt n from shown own s.parts
  pub left : HasParts n s shown
  pub shown_yes : x.yes.bounds ≡ x.no.bounds
  pub shown_starts : (t : Rational) → Lies x.no.bounds t → from ≤ʳ t
  pub yes_within : (t : Rational) → IsOn x.yes.spans.items t → Lies x.no.bounds t
  pub no_within : (t : Rational) → IsOn x.no.spans.items t → Lies x.no.bounds t
  pub shows_yes : (t : Rational) → IsOn s.yes.spans.items t → Lies x.no.bounds t → IsOn x.yes.spans.items t
  pub shows_no : (t : Rational) → IsOn s.no.spans.items t → Lies x.no.bounds t → IsOn x.no.spans.items t
  pub early : (t : Rational) → Lies x.no.bounds t → Lies own t ⊎ IsOn x.yes.spans.items t ⊎ IsOn x.no.spans.items t

-- so all nodes
pub record AreLive (nodes : List Node) (from : Rational) (live shown : List Sets) : Type 0 where
  pub count : length live ≡ length nodes
  pub shown_count : length shown ≡ length nodes
  pub has : (i : ℕ) (n : Node) (s x : Sets) → slice_get nodes i ≡ Some n → slice_get live i ≡ Some s → slice_get shown i ≡ Some x → IsLive from shown n s x

-- lists tell, of the times of In, those of Y and those of N; and no others
pub record Known (In : Rational → Type 0) (l : Lists) (Y N : Rational → Type 0) : Type 0 where
  pub yes_in : (u : Rational) → In u → Y u → IsOn l.yes u
  pub yes_out : (u : Rational) → IsOn l.yes u → Y u
  pub no_in : (u : Rational) → In u → N u → IsOn l.no u
  pub no_out : (u : Rational) → IsOn l.no u → N u

-- the nodes show what the rows settle
abbrev pub AllKnown : List Node → Trace → List Sets → Type 0
AllKnown nodes tr shown =
    (i : ℕ) → i < length nodes → Known (IsShown shown i) (lists_at shown i) (Settled (subformula nodes i) tr) (SettledNot (subformula nodes i) tr)

-- the sets tell what the rows settle
pub record NetStands (nodes : List Node) (tr : Trace) (live shown : List Sets) : Type 0 where
  pub have : AreLive nodes (start tr) live shown
  pub tidy : AllTidy live
  pub shown_tidy : AllTidy shown
  pub fit : AllFit nodes false tr live shown
  pub known : AllKnown nodes tr shown
  pub root : IsShown shown (length nodes - 1) (start tr)

-- so do those that are stored, where an atom goes on from what it shows
abbrev pub NetIs : List Node → Trace → List Sets → List Sets → Type 0
NetIs nodes tr live shown = NetStands nodes tr (own_list nodes live shown) shown

-- what a node shows after an entry, by what its sets gained
pub record HasShown (old new s : Sets) : Type 0 where
  pub tidy : AreSetsTidy new
  pub yes : new.yes.bounds ≡ old.yes.bounds
  pub no : new.no.bounds ≡ old.no.bounds
  pub gains_yes : Gains old.yes.spans.items new.yes.spans.items new.yes.fresh.items
  pub gains_no : Gains old.no.spans.items new.no.spans.items new.no.fresh.items
  pub takes_yes : TakesIn old.yes.bounds old.yes.spans.items new.yes.spans.items s.yes.fresh.items
  pub takes_no : TakesIn old.no.bounds old.no.spans.items new.no.spans.items s.no.fresh.items

-- by what those at the place gained
pub record ShowsBy (live : List Sets) (i : ℕ) (old new : Sets) : Type 0 where
  pub own : Sets
  pub at_live : slice_get live i ≡ Some own
  pub shown : HasShown old new own

-- so the node at one place, and the others show what they did
abbrev pub ShowsAt : ℕ → List Sets → List Sets → List Sets → Type 0
ShowsAt i live old new = ChangesAt i old new (ShowsBy live i)

-- so the nodes before a place
abbrev pub ShownTo : ℕ → List Sets → List Sets → List Sets → Type 0
ShownTo n live old new = ChangedTo n old new (λ j x r. (s : Sets) → slice_get live j ≡ Some s → HasShown x r s)

-- an atom steps, and shows what it gained
abbrev pub LeafSteps : Sets → Sets → Type 0
LeafSteps old new = HasStepped old new × HasShown old new new

-- one entry over the node at a place: it steps, shows what it gained, and fits then what its children show
pub record ComesAt (nodes : List Node) (b : Binding) (e : Entry) (before : Option Row) (r : Row) (i : ℕ) (own new shown new_shown : List Sets) : Type 0 where
  pub n : Node
  pub here : slice_get nodes i ≡ Some n
  pub at : StepsAt i own new
  pub shows : ShowsAt i new shown new_shown
  pub fits : (old : Option Trace) (tr : Trace) (was : ℕ → Lists) → Happens e old tr → HadAll old tr was (take i shown)
      → HasParts n at.was (take i shown) → LeafGoes b i e old tr before r at.was n
      → Was old (λ o. Fits n false o was) at.was → Fits n e.ended tr (lists_at (take i shown)) at.is

-- one entry over all nodes: each steps, shows what it gained, and fits then what its children show
pub record ComesOn (nodes : List Node) (b : Binding) (e : Entry) (before : Option Row) (r : Row) (live new shown new_shown : List Sets) : Type 0 where
  pub stepped : SteppedTo (length nodes) live new
  pub shows : ShownTo (length nodes) new shown new_shown
  pub tidy : AllTidy new × AllTidy new_shown
  pub fits : (old : Option Trace) (tr : Trace) → Happens e old tr → AreLive nodes (start tr) live shown → AllGo nodes b e old tr before r
      → AllWere old nodes live shown → AllFit nodes e.ended tr new new_shown

-- sets that let go of the times outside of narrower bounds
pub record IsNarrowed (bounds : Stretch) (old new : Sets) : Type 0 where
  pub tidy : AreSetsTidy new
  pub parts : new.parts ≡ old.parts
  pub yes_bounds : new.yes.bounds ≡ bounds
  pub no_bounds : new.no.bounds ≡ bounds
  pub yes_in : (t : Rational) → Lies bounds t → IsOn old.yes.spans.items t → IsOn new.yes.spans.items t
  pub yes_out : (t : Rational) → IsOn new.yes.spans.items t → IsOn old.yes.spans.items t × Lies bounds t
  pub no_in : (t : Rational) → Lies bounds t → IsOn old.no.spans.items t → IsOn new.no.spans.items t
  pub no_out : (t : Rational) → IsOn new.no.spans.items t → IsOn old.no.spans.items t × Lies bounds t
