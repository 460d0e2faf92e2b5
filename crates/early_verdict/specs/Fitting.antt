-- What the sets of a node tell of those of its children.
use Rattle.std.specs.Prelude.{◌≡◌, ◌⊎◌, ℕ, zero, suc, Bool, true, false, IsTrue, IsFalse, Option, Some, None, List, [], ◌∷◌, MatchOption}
use Rattle.rational.specs.Time.{Rational, ◌≤ʳ◌}
use Rattle.stl_syntax.specs.Trace.{Trace, start, stop}
use Rattle.stl_syntax.specs.Truth.{holds_at}
use Rattle.stl_syntax.specs.Early.{OpenAhead}
use Rattle.stl_syntax.specs.declared.atom.Atom.{Atom}
use Rattle.stl_syntax.specs.declared.node.Node.{Node}
use Rattle.stl_syntax.specs.declared.node.Node.TheVariants.{Const, Atom as Leaf, Not, And, Or, Implies, Until, Eventually, Always, Since, Once, Historically}
use Rattle.rational.specs.Places.{Place}
use Rattle.frac128.specs.Cuts.{place}
use Rattle.growing_sets.specs.Spans.{IsOn, AreTidy}
use Rattle.growing_sets.specs.Steps.{Tells, Gains}
use Rattle.growing_sets.specs.Reaching.{GoesOn, GoesTo, GoesBackBy}
use Rattle.early_verdict.specs.Readings.{SomeAhead, OnlyAhead, SomeBehind, OnlyBehind}
use Rattle.growing_sets.specs.declared.stretch.Stretch.{Stretch}
use Rattle.growing_sets.specs.declared.grown.Grown.{Grown}
use Rattle.early_verdict.specs.declared.sets.Sets.{Sets}
use Rattle.early_verdict.specs.declared.sets.Parts.{Parts}
use Rattle.early_verdict.specs.declared.sets.Holding.{Holding}
use Rattle.early_verdict.specs.declared.sets.Failing.{Failing}

-- the lists of a node's two sets
pub record Lists : Type 0 where
  pub yes : List Stretch
  pub no : List Stretch

abbrev pub lists_of : Sets → Lists
lists_of s = record { yes = s.yes.spans.items; no = s.no.spans.items }

abbrev pub nothing : Lists
nothing = record { yes = []; no = [] }

-- those of its times of one truth
abbrev pub yes_of : Lists → List Stretch
yes_of l = l.yes

abbrev pub no_of : Lists → List Stretch
no_of l = l.no

-- those of the node at a place
abbrev pub lists_at : List Sets → ℕ → Lists
lists_at [] i = nothing
lists_at (s ∷ sets) zero = lists_of s
lists_at (s ∷ sets) (suc i) = lists_at sets i

-- a set tells P within its bounds
abbrev pub Says : Grown → (Rational → Type 0) → Type 0
Says x P = Tells x.bounds x.spans.items P

-- the two sets tell where the node is certainly true, and where certainly false
pub record SayBoth (s : Sets) (P N : Rational → Type 0) : Type 0 where
  pub yes : Says s.yes P
  pub no : Says s.no N

-- the place up to which times are sure
abbrev pub sure_place : Trace → Place
sure_place tr = record { at = stop tr; after = true }

abbrev pub start_place : Trace → Place
start_place tr = record { at = start tr; after = false }

-- the sets between that of until and those of its operands p and q, where it is certainly true and where certainly false
pub record UntilHolding (tr : Trace) (a b : ℕ) (p q : Lists) (x : Holding) : Type 0 where
  pub both : Says x.both (λ t. IsOn p.yes t × IsOn q.yes t)
  pub run : Says x.run (GoesOn p.yes x.both.spans.items (sure_place tr))
  pub some : Says x.some (SomeAhead tr a b true true (IsOn q.yes))
  pub each : Says x.each (OnlyAhead false tr 0 a true true (IsOn x.run.spans.items))

pub record UntilFailing (ended : Bool) (tr : Trace) (a b : ℕ) (p q : Lists) (x : Failing) : Type 0 where
  pub fail : Says x.fail (λ t. IsOn p.no t ⊎ IsOn q.no t)
  pub stop : Says x.stop (GoesTo x.fail.spans.items p.no)
  pub never : Says x.never (OnlyAhead ended tr a b true true (IsOn q.no))
  pub broken : Says x.broken (λ t. (v : Rational) × OpenAhead (start tr) 0 a true true t v × IsOn x.stop.spans.items v)

-- the same of since, whose runs may be carried on from before the times that are kept
pub record SinceHolding (tr : Trace) (a : ℕ) (b : Option ℕ) (p q : Lists) (x : Holding) : Type 0 where
  pub both : Says x.both (λ t. IsOn p.yes t × IsOn q.yes t)
  pub run : Says x.run (GoesBackBy x.carried (place x.run.bounds.from) p.yes x.both.spans.items)
  pub some : Says x.some (SomeBehind tr a b true true (IsOn q.yes))
  pub each : Says x.each (OnlyBehind tr 0 (Some a) true true (IsOn x.run.spans.items))

pub record SinceFailing (tr : Trace) (a : ℕ) (b : Option ℕ) (p q : Lists) (x : Failing) : Type 0 where
  pub fail : Says x.fail (λ t. IsOn p.no t ⊎ IsOn q.no t)
  pub stop : Says x.stop (GoesBackBy x.carried (place x.stop.bounds.from) x.fail.spans.items p.no)
  pub never : Says x.never (OnlyBehind tr a b true true (IsOn q.no))
  pub broken : Says x.broken (SomeBehind tr 0 (Some a) true true (IsOn x.stop.spans.items))

-- the node's sets tell what those between say
abbrev pub SayOfParts : Sets → Parts → Type 0
SayOfParts s x =
    SayBoth s (λ t. IsOn x.holding.some.spans.items t × IsOn x.holding.each.spans.items t)
    (λ t. IsOn x.failing.never.spans.items t ⊎ IsOn x.failing.broken.spans.items t)

abbrev pub UntilFits : Bool → Trace → ℕ → ℕ → Lists → Lists → Sets → Type 0
UntilFits ended tr a b p q s = MatchOption s.parts ⊥ (λ x. UntilHolding tr a b p q x.holding × UntilFailing ended tr a b p q x.failing × SayOfParts s x)

abbrev pub SinceFits : Trace → ℕ → Option ℕ → Lists → Lists → Sets → Type 0
SinceFits tr a b p q s = MatchOption s.parts ⊥ (λ x. SinceHolding tr a b p q x.holding × SinceFailing tr a b p q x.failing × SayOfParts s x)

-- a node's sets tell what those of its children make of it
abbrev pub ConstantFits : Bool → Sets → Type 0
ConstantFits holds s = SayBoth s (λ t. IsTrue holds) (λ t. IsFalse holds)

abbrev pub AtomFits : Atom → Trace → Sets → Type 0
AtomFits a tr s = SayBoth s (λ t. (t ≤ʳ stop tr) × IsTrue (holds_at a tr t)) (λ t. (t ≤ʳ stop tr) × IsFalse (holds_at a tr t))

abbrev pub NegationFits : Lists → Sets → Type 0
NegationFits p s = SayBoth s (IsOn p.no) (IsOn p.yes)

abbrev pub ConjunctionFits : Lists → Lists → Sets → Type 0
ConjunctionFits p q s = SayBoth s (λ t. IsOn p.yes t × IsOn q.yes t) (λ t. IsOn p.no t ⊎ IsOn q.no t)

abbrev pub DisjunctionFits : Lists → Lists → Sets → Type 0
DisjunctionFits p q s = SayBoth s (λ t. IsOn p.yes t ⊎ IsOn q.yes t) (λ t. IsOn p.no t × IsOn q.no t)

abbrev pub ImplicationFits : Lists → Lists → Sets → Type 0
ImplicationFits p q s = SayBoth s (λ t. IsOn p.no t ⊎ IsOn q.yes t) (λ t. IsOn p.yes t × IsOn q.no t)

abbrev pub EventuallyFits : Bool → Trace → ℕ → ℕ → Bool → Bool → Lists → Sets → Type 0
EventuallyFits ended tr a b a_in b_in p s = SayBoth s (SomeAhead tr a b a_in b_in (IsOn p.yes)) (OnlyAhead ended tr a b a_in b_in (IsOn p.no))

abbrev pub AlwaysFits : Bool → Trace → ℕ → ℕ → Bool → Bool → Lists → Sets → Type 0
AlwaysFits ended tr a b a_in b_in p s = SayBoth s (OnlyAhead ended tr a b a_in b_in (IsOn p.yes)) (SomeAhead tr a b a_in b_in (IsOn p.no))

abbrev pub OnceFits : Trace → ℕ → Option ℕ → Bool → Bool → Lists → Sets → Type 0
OnceFits tr a b a_in b_in p s = SayBoth s (SomeBehind tr a b a_in b_in (IsOn p.yes)) (OnlyBehind tr a b a_in b_in (IsOn p.no))

abbrev pub HistoricallyFits : Trace → ℕ → Option ℕ → Bool → Bool → Lists → Sets → Type 0
HistoricallyFits tr a b a_in b_in p s = SayBoth s (OnlyBehind tr a b a_in b_in (IsOn p.yes)) (SomeBehind tr a b a_in b_in (IsOn p.no))

abbrev pub Fits : Node → Bool → Trace → (ℕ → Lists) → Sets → Type 0
Fits (Const b) ended tr at s = ConstantFits b s
Fits (Leaf a) ended tr at s = AtomFits a tr s
Fits (Not p) ended tr at s = NegationFits (at p) s
Fits (And p q) ended tr at s = ConjunctionFits (at p) (at q) s
Fits (Or p q) ended tr at s = DisjunctionFits (at p) (at q) s
Fits (Implies p q) ended tr at s = ImplicationFits (at p) (at q) s
Fits (Until p q a b) ended tr at s = UntilFits ended tr a b (at p) (at q) s
Fits (Eventually p a b a_in b_in) ended tr at s = EventuallyFits ended tr a b a_in b_in (at p) s
Fits (Always p a b a_in b_in) ended tr at s = AlwaysFits ended tr a b a_in b_in (at p) s
Fits (Since p q a b) ended tr at s = SinceFits tr a b (at p) (at q) s
Fits (Once p a b a_in b_in) ended tr at s = OnceFits tr a b a_in b_in (at p) s
Fits (Historically p a b a_in b_in) ended tr at s = HistoricallyFits tr a b a_in b_in (at p) s

-- the lists of sets rise
abbrev pub IsTidy : Grown → Type 0
IsTidy x = AreTidy x.spans.items

pub record IsHoldingTidy (x : Holding) : Type 0 where
  pub both : IsTidy x.both
  pub run : IsTidy x.run
  pub some : IsTidy x.some
  pub each : IsTidy x.each

pub record IsFailingTidy (x : Failing) : Type 0 where
  pub fail : IsTidy x.fail
  pub stop : IsTidy x.stop
  pub never : IsTidy x.never
  pub broken : IsTidy x.broken

pub record ArePartsTidy (x : Parts) : Type 0 where
  pub holding : IsHoldingTidy x.holding
  pub failing : IsFailingTidy x.failing

pub record AreSetsTidy (s : Sets) : Type 0 where
  pub yes : IsTidy s.yes
  pub no : IsTidy s.no
  pub parts : MatchOption s.parts (Unit {0}) ArePartsTidy

-- no set has a time
abbrev pub IsEmpty : Grown → Type 0
IsEmpty x = x.spans.items ≡ []

pub record IsHoldingEmpty (x : Holding) : Type 0 where
  pub both : IsEmpty x.both
  pub run : IsEmpty x.run
  pub some : IsEmpty x.some
  pub each : IsEmpty x.each
  pub carried : x.carried ≡ false

pub record IsFailingEmpty (x : Failing) : Type 0 where
  pub fail : IsEmpty x.fail
  pub stop : IsEmpty x.stop
  pub never : IsEmpty x.never
  pub broken : IsEmpty x.broken
  pub carried : x.carried ≡ false

pub record ArePartsEmpty (x : Parts) : Type 0 where
  pub holding : IsHoldingEmpty x.holding
  pub failing : IsFailingEmpty x.failing

pub record AreEmpty (s : Sets) : Type 0 where
  pub yes : IsEmpty s.yes
  pub no : IsEmpty s.no
  pub parts : MatchOption s.parts (Unit {0}) ArePartsEmpty

-- the bounds of the sets stay
pub record KeepsHolding (old new : Holding) : Type 0 where
  pub both : new.both.bounds ≡ old.both.bounds
  pub run : new.run.bounds ≡ old.run.bounds
  pub some : new.some.bounds ≡ old.some.bounds
  pub each : new.each.bounds ≡ old.each.bounds

pub record KeepsFailing (old new : Failing) : Type 0 where
  pub fail : new.fail.bounds ≡ old.fail.bounds
  pub stop : new.stop.bounds ≡ old.stop.bounds
  pub never : new.never.bounds ≡ old.never.bounds
  pub broken : new.broken.bounds ≡ old.broken.bounds

pub record KeepsBounds (old new : Parts) : Type 0 where
  pub holding : KeepsHolding old.holding new.holding
  pub failing : KeepsFailing old.failing new.failing

-- what the sets that a node's own are made of gained
pub record GainsHolding (old new : Holding) : Type 0 where
  pub some : Gains old.some.spans.items new.some.spans.items new.some.fresh.items
  pub each : Gains old.each.spans.items new.each.spans.items new.each.fresh.items

pub record GainsFailing (old new : Failing) : Type 0 where
  pub never : Gains old.never.spans.items new.never.spans.items new.never.fresh.items
  pub broken : Gains old.broken.spans.items new.broken.spans.items new.broken.fresh.items

-- a node's sets after an entry
pub record HasStepped (old new : Sets) : Type 0 where
  pub tidy : AreSetsTidy new
  pub yes : new.yes.bounds ≡ old.yes.bounds
  pub no : new.no.bounds ≡ old.no.bounds
  pub parts : MatchOption old.parts (new.parts ≡ None) (λ x. MatchOption new.parts ⊥ (KeepsBounds x))
  pub gains_yes : Gains old.yes.spans.items new.yes.spans.items new.yes.fresh.items
  pub gains_no : Gains old.no.spans.items new.no.spans.items new.no.fresh.items

-- failures are looked for within the stretch
abbrev pub FailWithin : Stretch → Parts → Type 0
FailWithin own x = (x.failing.fail.bounds ≡ own) × (x.failing.stop.bounds ≡ own)

-- those of an until or a since are as far as those of its left operand
abbrev pub HasFailBounds : Sets → Sets → Type 0
HasFailBounds s left = MatchOption s.parts (Unit {0}) (FailWithin left.no.bounds)
