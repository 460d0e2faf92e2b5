-- What nodes show and go on from, once they let go of times.
use Rattle.std.specs.Prelude.{◌≡◌, ◌⊎◌, ℕ, pos, neg_ℤ, Bool, true, false, IsTrue, IsFalse, MatchBool, Option, Some, None, MatchOption}
use Rattle.std.specs.Prelude.{List, [], ◌∷◌, length, slice_get}
use Rattle.rational.specs.Time.{Rational, add, later, whole, ◌≤ʳ◌, ◌<ʳ◌}
use Rattle.stl_syntax.specs.declared.node.Node.{Node}
use Rattle.stl_syntax.specs.declared.node.Node.TheVariants.{Until, Since}
use Rattle.stl_syntax.specs.declared.operator.Asks.{Asks}
use Rattle.stl_syntax.specs.declared.operator.Asks.TheVariants.{Any, Each}
use Rattle.stl_syntax.specs.declared.operator.Offsets.{Offsets}
use Rattle.stl_syntax.specs.declared.operator.View.{View}
use Rattle.stl_syntax.specs.declared.operator.View.TheVariants as V
use Rattle.stl_syntax.specs.declared.operator.Way.{Way}
use Rattle.stl_syntax.specs.declared.operator.Way.TheVariants as W
use Rattle.stl_syntax.specs.Cells.{IsChild}
use Rattle.stl_syntax.specs.Trace.{Trace}
use Rattle.stl_syntax.specs.WellFormed.{AreWellFormed}
use Rattle.rational.specs.Places.{Place, After, AtMost, Before, Upto}
use Rattle.frac128.specs.Cuts.{place}
use Rattle.growing_sets.specs.Spans.{IsAmong, IsOn, Lies}
use Rattle.growing_sets.specs.Steps.{HoldsFrom}
use Rattle.growing_sets.specs.Showing.{IsCutAt, IsGrownInside}
use Rattle.early_verdict.specs.Changing.{ChangesAt}
use Rattle.early_verdict.specs.Fitting.{AreSetsTidy, IsTidy}
use Rattle.early_verdict.specs.Living.{IsNarrowed, IsShown, LooksAt, NetIs}
use Rattle.growing_sets.specs.declared.stretch.Stretch.{Stretch}
use Rattle.growing_sets.specs.declared.grown.Grown.{Grown}
use Rattle.early_verdict.specs.declared.sets.Holding.{Holding}
use Rattle.early_verdict.specs.declared.sets.Failing.{Failing}
use Rattle.early_verdict.specs.declared.sets.Sets.{Sets}
use Rattle.early_verdict.specs.declared.sets.Parts.{Parts}

-- the times of the sets lie within their bounds
pub record IsInside (x : Sets) : Type 0 where
  pub yes : (t : Rational) → IsOn x.yes.spans.items t → Lies x.no.bounds t
  pub no : (t : Rational) → IsOn x.no.spans.items t → Lies x.no.bounds t

abbrev pub AreInside : List Sets → Type 0
AreInside shown = (p : ℕ) (x : Sets) → slice_get shown p ≡ Some x → IsInside x

-- a node goes on from fewer times: of those that it shows, the others are told
pub record HasShed (shown old new : Sets) : Type 0 where
  pub bounds : Stretch
  pub narrowed : IsNarrowed bounds old new
  pub less : (t : Rational) → Lies bounds t → Lies old.no.bounds t
  pub told : (t : Rational) → Lies shown.no.bounds t → Lies old.no.bounds t
      → Lies bounds t ⊎ IsOn old.yes.spans.items t ⊎ IsOn old.no.spans.items t

-- by what is shown at the place
pub record ShedBy (shown : List Sets) (i : ℕ) (old new : Sets) : Type 0 where
  pub x : Sets
  pub at_shown : slice_get shown i ≡ Some x
  pub shed : HasShed x old new

-- so the node at a place
abbrev pub HasShedAt : ℕ → List Sets → List Sets → List Sets → Type 0
HasShedAt i shown old new = ChangesAt i old new (ShedBy shown i)

-- a node shows no times before that one any more
pub record AskedFrom (from : Rational) (old new : Sets) : Type 0 where
  pub bounds : Stretch
  pub narrowed : IsNarrowed bounds old new
  pub less : (t : Rational) → Lies bounds t → Lies old.no.bounds t
  pub left : (t : Rational) → Lies old.no.bounds t → Lies bounds t ⊎ (t <ʳ from)
  pub after : (t : Rational) → Lies old.no.bounds t → from ≤ʳ t → (u : Rational) → Lies bounds u → from ≤ʳ u
  pub ends : AtMost (place old.no.bounds.to) (place bounds.to)

-- so the node at a place
abbrev pub IsAskedFrom : ℕ → Rational → List Sets → List Sets → Type 0
IsAskedFrom p from old new = ChangesAt p old new (AskedFrom from)

-- the lists of what nodes show have no time in common
abbrev pub AreApart : List Sets → Type 0
AreApart shown = (p : ℕ) (x : Sets) → slice_get shown p ≡ Some x → (t : Rational) → IsOn x.yes.spans.items t → ¬ (IsOn x.no.spans.items t)

-- of a set one stretch is left, which begins before the place, and the other set is empty
pub record IsFirstLeft (limit : Place) (old new other : Grown) : Type 0 where
  pub part : Stretch
  pub among : IsAmong part old.spans.items
  pub begins : Before (place part.from) limit
  pub left : new.spans.items ≡ part ∷ []
  pub none : other.spans.items ≡ []
  pub bounds : new.bounds ≡ part
  pub other_bounds : other.bounds ≡ part

-- a node's times of one truth and those of the other are as they were; or it shows one stretch of those alone, of which some time lies so far
-- before the one given
abbrev pub IsFirstShown : ℕ → Rational → Grown → Grown → Grown → Grown → Type 0
IsFirstShown low at old other new new_other =
    ((new ≡ old) × (new_other ≡ other))
    ⊎ ((limit : Place) × (later limit.at low ≤ʳ at) × (limit.after ≡ false) × IsFirstLeft limit old new new_other)

-- so with its true times or with its false ones
pub record AskedFirst (holds : Bool) (low : ℕ) (at : Rational) (old new : Sets) : Type 0 where
  pub parts : new.parts ≡ old.parts
  pub shows : MatchBool holds (IsFirstShown low at old.yes old.no new.yes new.no) (IsFirstShown low at old.no old.yes new.no new.yes)

-- so the node at a place
abbrev pub IsAskedFirst : ℕ → Bool → ℕ → Rational → List Sets → List Sets → Type 0
IsAskedFirst p holds low at old new = ChangesAt p old new (AskedFirst holds low at)

-- the truth of its operand that decides an operator
abbrev pub decides : Asks → Bool
decides Any = true
decides Each = false

-- the operand of a window is asked, where its node goes on from that time: from where the window begins, or else about its first times of
-- the truth that decides
abbrev pub IsAskedOver : Asks → Offsets → ℕ → Rational → List Sets → List Sets → Type 0
IsAskedOver asks w p at old new =
    MatchOption w.low ((a : ℕ) → w.high ≡ neg_ℤ (pos a) → IsAskedFirst p (decides asks) a at old new)
    (λ k. (from : Rational) × (from ≤ʳ add at (whole k)) × IsAskedFrom p from old new)

-- how those of an until are asked; a since asks for its own by itself
abbrev pub IsAskedReach : Way → ℕ → ℕ → Rational → List Sets → List Sets → Type 0
IsAskedReach W.Until p q at old new = (mid : List Sets) × IsAskedFrom p at old mid × IsAskedFrom q at mid new
IsAskedReach W.Since p q at old new = new ≡ old

-- how the operands of a view are asked
abbrev pub AreAskedAs : View → Rational → List Sets → List Sets → Type 0
AreAskedAs (V.Not p) at old new = IsAskedFrom p at old new
AreAskedAs (V.Two join p q) at old new = (mid : List Sets) × IsAskedFrom p at old mid × IsAskedFrom q at mid new
AreAskedAs (V.Reach way w p q) at old new = IsAskedReach way p q at old new
AreAskedAs (V.Over asks w p) at old new = IsAskedOver asks w p at old new
AreAskedAs v at old new = new ≡ old

-- a set lets go of the times outside of narrower bounds
pub record IsCutTo (bounds : Stretch) (old new : Grown) : Type 0 where
  pub tidy : IsTidy new
  pub bounds_are : new.bounds ≡ bounds
  pub has : (t : Rational) → Lies bounds t → IsOn old.spans.items t → IsOn new.spans.items t
  pub only : (t : Rational) → IsOn new.spans.items t → IsOn old.spans.items t × Lies bounds t

-- whether the set has the first times of its bounds
pub record BeginsAtOnce (begins : Bool) (x : Grown) : Type 0 where
  pub yes : IsTrue begins → (s : Stretch) × IsAmong s x.spans.items × HoldsFrom s (place x.bounds.from)
  pub no : IsFalse begins → (s : Stretch) → IsAmong s x.spans.items → ¬ (HoldsFrom s (place x.bounds.from))

-- so do the sets between those of until or since and those of its operands: the ones that its windows look at from one time on, those of its
-- operands from the first, and its failures as far as the left one shows times
pub record IsHoldingCut (first from : Rational) (old new : Holding) : Type 0 where
  pub both : IsCutAt first old.both new.both
  pub run : IsCutAt first old.run new.run
  pub some : IsCutAt from old.some new.some
  pub each : IsCutAt from old.each new.each
  pub carried : BeginsAtOnce new.carried new.run

pub record IsFailingCut (from : Rational) (wide : Stretch) (old new : Failing) : Type 0 where
  pub fail : IsCutTo wide old.fail new.fail
  pub stop : IsCutTo wide old.stop new.stop
  pub never : IsCutAt from old.never new.never
  pub broken : IsCutAt from old.broken new.broken
  pub carried : BeginsAtOnce new.carried new.stop

-- of both or of none
abbrev pub ArePartsCut : Rational → Rational → Stretch → Option Parts → Option Parts → Type 0
ArePartsCut first from wide old new =
    MatchOption old (new ≡ None) (λ x. MatchOption new ⊥ (λ y. IsHoldingCut first from x.holding y.holding × IsFailingCut from wide x.failing y.failing))

pub record IsRunCut (first from : Rational) (wide : Stretch) (old new : Sets) : Type 0 where
  pub yes : new.yes ≡ old.yes
  pub no : new.no ≡ old.no
  pub parts : ArePartsCut first from wide old.parts new.parts

-- a set keeps the times that see one of the list, so far before them
pub record IsSeeing (a : ℕ) (xs : List Stretch) (old new : Grown) : Type 0 where
  pub tidy : IsTidy new
  pub bounds : new.bounds ≡ old.bounds
  pub kept : (t : Rational) → IsOn new.spans.items t → IsOn old.spans.items t × ((u : Rational) × IsOn xs u × (later u a ≤ʳ t))
  pub left : (t : Rational) → IsOn old.spans.items t → (u : Rational) → IsOn xs u → later u a ≤ʳ t → IsOn new.spans.items t

-- of the sets between of a since without a bound, those of windows that reach to the start: one sees the times that are left, one has none
pub record IsEndlessPart (a : ℕ) (xs : List Stretch) (x y : Parts) : Type 0 where
  pub some : IsSeeing a xs x.holding.some y.holding.some
  pub both : y.holding.both ≡ x.holding.both
  pub run : y.holding.run ≡ x.holding.run
  pub each : y.holding.each ≡ x.holding.each
  pub runs : y.holding.carried ≡ x.holding.carried
  pub never : y.failing.never.spans.items ≡ []
  pub never_bounds : y.failing.never.bounds ≡ x.failing.never.bounds
  pub fail : y.failing.fail ≡ x.failing.fail
  pub stop : y.failing.stop ≡ x.failing.stop
  pub broken : y.failing.broken ≡ x.failing.broken
  pub stops : y.failing.carried ≡ x.failing.carried

pub record IsEndlessCut (a : ℕ) (xs : List Stretch) (old new : Sets) : Type 0 where
  pub yes : new.yes ≡ old.yes
  pub no : new.no ≡ old.no
  pub parts : MatchOption old.parts (new.parts ≡ None) (λ x. MatchOption new.parts ⊥ (IsEndlessPart a xs x))

abbrev pub IsEndlessCutAt : ℕ → ℕ → List Stretch → List Sets → List Sets → Type 0
IsEndlessCutAt i a xs old new = ChangesAt i old new (IsEndlessCut a xs)

-- a since without a bound begins anew at that time: it lies behind the first that its operands show, and both are true then, or the left one false
pub record IsDecisive (d : Rational) (own left right : Sets) : Type 0 where
  pub after_left : After (place left.no.bounds.from) d
  pub after_right : After (place right.no.bounds.from) d
  pub first : (m : Rational) × Lies left.no.bounds m × (m <ʳ d)
  pub decides : MatchOption own.parts (Unit {0}) (λ x. IsOn x.holding.both.spans.items d) ⊎ IsOn left.no.spans.items d

-- so of what the node at place i goes on from, and of what its operands show
pub record AreDecisive (d : Rational) (live shown : List Sets) (i p q : ℕ) : Type 0 where
  pub own : Sets
  pub left : Sets
  pub right : Sets
  pub at_own : slice_get live i ≡ Some own
  pub at_left : slice_get shown p ≡ Some left
  pub at_right : slice_get shown q ≡ Some right
  pub decides : IsDecisive d own left right

-- the times of the sets between lie within their bounds
pub record IsHoldingInside (x : Holding) : Type 0 where
  pub both : IsGrownInside x.both
  pub run : IsGrownInside x.run
  pub some : IsGrownInside x.some
  pub each : IsGrownInside x.each

pub record IsFailingInside (wide : Stretch) (x : Failing) : Type 0 where
  pub fail : (t : Rational) → IsOn x.fail.spans.items t → Upto (place wide.to) t
  pub stop : (t : Rational) → IsOn x.stop.spans.items t → Upto (place wide.to) t
  pub never : IsGrownInside x.never
  pub broken : IsGrownInside x.broken

abbrev pub ArePartsInside : Stretch → Sets → Type 0
ArePartsInside wide s = MatchOption s.parts (Unit {0}) (λ x. IsHoldingInside x.holding × IsFailingInside wide x.failing)

-- so the node at a place
abbrev pub IsRunCutAt : ℕ → Rational → Rational → Stretch → List Sets → List Sets → Type 0
IsRunCutAt i first from wide old new = ChangesAt i old new (IsRunCut first from wide)

-- sets that show fewer times
pub record IsLess (old new : Sets) : Type 0 where
  pub tidy : AreSetsTidy old → AreSetsTidy new
  pub inside : IsInside old → IsInside new
  pub same : old.yes.bounds ≡ old.no.bounds → new.yes.bounds ≡ new.no.bounds
  pub less : (t : Rational) → Lies new.no.bounds t → Lies old.no.bounds t
  pub yes_in : (t : Rational) → Lies new.no.bounds t → IsOn old.yes.spans.items t → IsOn new.yes.spans.items t
  pub yes_out : (t : Rational) → IsOn new.yes.spans.items t → IsOn old.yes.spans.items t
  pub no_in : (t : Rational) → Lies new.no.bounds t → IsOn old.no.spans.items t → IsOn new.no.spans.items t
  pub no_out : (t : Rational) → IsOn new.no.spans.items t → IsOn old.no.spans.items t

-- so nodes show
pub record AreLess (old new : List Sets) : Type 0 where
  pub count : length new ≡ length old
  pub each : (p : ℕ) (x : Sets) → slice_get new p ≡ Some x → (w : Sets) × (slice_get old p ≡ Some w) × IsLess w x

abbrev pub IsUntil : Node → Type 0
IsUntil (Until p q a b) = Unit {0}
IsUntil n = ⊥

-- since
abbrev pub IsRun : Node → Type 0
IsRun (Since p q a b) = Unit {0}
IsRun n = ⊥

-- what a node shows goes on from that time on, and ends where it did
pub record ShowsFrom (from : Rational) (old new : Sets) : Type 0 where
  pub left : (t : Rational) → Lies old.no.bounds t → from ≤ʳ t → Lies new.no.bounds t
  pub after : (t : Rational) → Lies old.no.bounds t → from ≤ʳ t → (u : Rational) → Lies new.no.bounds u → from ≤ʳ u
  pub ends : AtMost (place old.no.bounds.to) (place new.no.bounds.to)

-- the children of a node that goes on from that time on show no more than what it looks at from there
pub record AreAskedBy (n : Node) (from : Rational) (old new : List Sets) : Type 0 where
  pub less : AreLess old new
  pub others : (p : ℕ) → ¬ (IsChild n p) → slice_get new p ≡ slice_get old p
  pub run : IsRun n → new ≡ old
  pub looks : (start : Rational) (own : Stretch) (parts : Option Parts) → ((p : ℕ) (u : Rational) → IsShown old p u → start ≤ʳ u)
      → ((t : Rational) → Lies own t → from ≤ʳ t) → LooksAt n start old own parts → LooksAt n start new own parts
  pub cut : IsUntil n → (p : ℕ) (w x : Sets) → IsChild n p → slice_get old p ≡ Some w → slice_get new p ≡ Some x → ShowsFrom from w x

-- a net of nodes of which the one at the place is n
pub record NetHas (nodes : List Node) (tr : Trace) (live shown : List Sets) (i : ℕ) (n : Node) : Type 0 where
  pub formed : AreWellFormed nodes
  pub here : slice_get nodes i ≡ Some n
  pub stands : NetIs nodes tr live shown
