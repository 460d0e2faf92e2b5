-- The sets of a formula's nodes, before any row.
use Rattle.std.specs.Prelude.{◌≡◌, ℕ, List, None, Some, MatchOption, length, slice_get}
use Rattle.rational.specs.Time.{Rational}
use Rattle.stl_syntax.specs.declared.node.Node.{Node}
use Rattle.early_verdict.specs.Fitting.{AreEmpty}
use Rattle.early_verdict.specs.Standing.{AllEmpty, AllTidy, HaveSets, IsFrom, left_of}
use Rattle.growing_sets.specs.declared.stretch.Stretch.{Stretch}
use Rattle.early_verdict.specs.declared.sets.Sets.{Sets}
use Rattle.early_verdict.specs.declared.sets.Parts.{Parts}

-- the sets between have the bounds of the node and of its left operand
pub record HasPartBounds (bounds : Stretch) (left : Sets) (x : Parts) : Type 0 where
  pub both : x.holding.both.bounds ≡ left.yes.bounds
  pub run : x.holding.run.bounds ≡ left.yes.bounds
  pub some : x.holding.some.bounds ≡ bounds
  pub each : x.holding.each.bounds ≡ bounds
  pub fail : x.failing.fail.bounds ≡ left.no.bounds
  pub stop : x.failing.stop.bounds ≡ left.no.bounds
  pub never : x.failing.never.bounds ≡ bounds
  pub broken : x.failing.broken.bounds ≡ bounds

abbrev pub HasPartsFor : Stretch → Sets → Sets → Type 0
HasPartsFor bounds left s = MatchOption s.parts ⊥ (HasPartBounds bounds left)

-- the empty sets of a node that is asked up to `top` ticks after the start
pub record IsMade (from : Rational) (top : ℕ) (n : Node) (below : List Sets) (s : Sets) : Type 0 where
  pub bounds : Stretch
  pub wide : IsFrom from top bounds
  pub yes : s.yes.bounds ≡ bounds
  pub no : s.no.bounds ≡ bounds
  pub empty : AreEmpty s
  pub parts : MatchOption (left_of n) (s.parts ≡ None) (λ p. (l : Sets) × (slice_get below p ≡ Some l) × HasPartsFor bounds l s)

-- the empty sets of all nodes
pub record AreMade (nodes : List Node) (from : Rational) (sets : List Sets) : Type 0 where
  pub tops : List ℕ
  pub have : HaveSets nodes from tops sets
  pub tidy : AllTidy sets
  pub empty : AllEmpty sets
  pub same : (i : ℕ) (s : Sets) → slice_get sets i ≡ Some s → s.yes.bounds ≡ s.no.bounds

-- as many empty sets with the same bounds
pub record AreShownOf (live shown : List Sets) : Type 0 where
  pub count : length shown ≡ length live
  pub has : (i : ℕ) (s x : Sets) → slice_get live i ≡ Some s → slice_get shown i ≡ Some x
      → (x.yes.bounds ≡ s.no.bounds) × (x.no.bounds ≡ s.no.bounds) × AreEmpty x
