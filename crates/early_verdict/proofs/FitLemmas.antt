-- Sets that fit do so by whatever function the children's lists are given, and lie within their bounds.
use Rattle.std.proofs.Common.{◌≡◌, inl, inr, refl, subst, ℕ, ◌<◌, Bool, Option, Some, None}
use Rattle.std.specs.Prelude.{MatchOption}
use Rattle.rational.specs.Time.{Rational}
use Rattle.stl_syntax.specs.Trace.{Trace}
use Rattle.stl_syntax.specs.Cells.{IsChild}
use Rattle.stl_syntax.specs.Formula.{HasChildrenBelow}
use Rattle.stl_syntax.specs.declared.node.Node.{Node}
use Rattle.stl_syntax.specs.declared.node.Node.TheVariants.{Const, Atom as Leaf, Not, And, Or, Implies, Until, Eventually, Always, Since, Once, Historically}
use Rattle.stl_syntax.proofs.PostOrderLemmas.{child_below}
use Rattle.growing_sets.specs.Spans.{Lies, IsOn}
use Rattle.early_verdict.specs.Fitting.{Lists, Fits, SayBoth, SayOfParts, NegationFits, ConjunctionFits, DisjunctionFits}
use Rattle.early_verdict.specs.Fitting.{ImplicationFits, UntilFits, SinceFits, EventuallyFits, AlwaysFits, OnceFits}
use Rattle.early_verdict.specs.Fitting.{HistoricallyFits, UntilHolding, UntilFailing, SinceHolding, SinceFailing}
use Rattle.early_verdict.specs.declared.sets.Sets.{Sets}
use Rattle.early_verdict.specs.declared.sets.Parts.{Parts}

-- two lists of children at a time
two : (F : Lists → Lists → Type 0) (p p' q q' : Lists) → p ≡ p' → q ≡ q' → F p q → F p' q'
two F p p' q q' d e h = subst (λ x. F x q') d (subst (λ x. F p x) e h)

-- a node's sets fit by what its children's lists are
pub fits_as : (n : Node) (ended : Bool) (tr : Trace) (at at' : ℕ → Lists) (s : Sets) → ((p : ℕ) → IsChild n p → at p ≡ at' p)
    → Fits n ended tr at s → Fits n ended tr at' s
fits_as (Const b) ended tr at at' s e h = h
fits_as (Leaf a) ended tr at at' s e h = h
fits_as (Not p) ended tr at at' s e h = subst (λ x. NegationFits x s) (e p refl) h
fits_as (And p q) ended tr at at' s e h = two (λ x y. ConjunctionFits x y s) (at p) (at' p) (at q) (at' q) (e p (inl refl)) (e q (inr refl)) h
fits_as (Or p q) ended tr at at' s e h = two (λ x y. DisjunctionFits x y s) (at p) (at' p) (at q) (at' q) (e p (inl refl)) (e q (inr refl)) h
fits_as (Implies p q) ended tr at at' s e h = two (λ x y. ImplicationFits x y s) (at p) (at' p) (at q) (at' q) (e p (inl refl)) (e q (inr refl)) h
fits_as (Until p q a b) ended tr at at' s e h =
    two (λ x y. UntilFits ended tr a b x y s) (at p) (at' p) (at q) (at' q) (e p (inl refl)) (e q (inr refl)) h
fits_as (Eventually p a b j k) ended tr at at' s e h = subst (λ x. EventuallyFits ended tr a b j k x s) (e p refl) h
fits_as (Always p a b j k) ended tr at at' s e h = subst (λ x. AlwaysFits ended tr a b j k x s) (e p refl) h
fits_as (Since p q a b) ended tr at at' s e h = two (λ x y. SinceFits tr a b x y s) (at p) (at' p) (at q) (at' q) (e p (inl refl)) (e q (inr refl)) h
fits_as (Once p a b j k) ended tr at at' s e h = subst (λ x. OnceFits tr a b j k x s) (e p refl) h
fits_as (Historically p a b j k) ended tr at at' s e h = subst (λ x. HistoricallyFits tr a b j k x s) (e p refl) h

-- these stand below it
pub fits_alike : (n : Node) (i : ℕ) (ended : Bool) (tr : Trace) (at at' : ℕ → Lists) (s : Sets) → HasChildrenBelow i n → ((p : ℕ) → p < i → at p ≡ at' p)
    → Fits n ended tr at s → Fits n ended tr at' s
fits_alike n i ended tr at at' s c e h = fits_as n ended tr at at' s (λ p d. e p (child_below i p n c d)) h

-- the times of the two sets lie within their bounds
pub record AreWithin (s : Sets) : Type 0 where
  -- the true times lie within the bounds
  pub yes_within : (u : Rational) → IsOn s.yes.spans.items u → Lies s.yes.bounds u
  -- and so the false ones
  pub no_within : (u : Rational) → IsOn s.no.spans.items u → Lies s.no.bounds u

within_of : {s : Sets} {P N : Rational → Type 0} → SayBoth s P N → AreWithin s
within_of h = record { yes_within = λ u o. (h.yes.only u o).0; no_within = λ u o. (h.no.only u o).0 }

parts_within : (A B : Parts → Type 0) (s : Sets) (o : Option Parts) → MatchOption o ⊥ (λ x. A x × B x × SayOfParts s x) → AreWithin s
parts_within A B s None h = absurd h
parts_within A B s (Some x) h = within_of h.2

-- sets that fit lie within their bounds
pub fits_within : (n : Node) (ended : Bool) (tr : Trace) (at : ℕ → Lists) (s : Sets) → Fits n ended tr at s → AreWithin s
fits_within (Until p q a b) ended tr at s h =
    parts_within (λ x. UntilHolding tr a b (at p) (at q) x.holding) (λ x. UntilFailing ended tr a b (at p) (at q) x.failing) s s.parts h
fits_within (Since p q a b) ended tr at s h =
    parts_within (λ x. SinceHolding tr a b (at p) (at q) x.holding) (λ x. SinceFailing tr a b (at p) (at q) x.failing) s s.parts h
fits_within _ ended tr at s h = within_of h
