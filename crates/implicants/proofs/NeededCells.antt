-- What cells leave certain that stay, and marks of needed ones.
use Rattle.std.proofs.Common.{◌≡◌, ℕ, Bool, true, false, List}
use Rattle.std.proofs.Common.{Some, None, refl, lit<}
use Rattle.std.specs.Prelude.{Option, IfSome}
use Rattle.rational.specs.Time.{Rational, whole}
use Rattle.rational.specs.Extended.{finite, value_at, ◌<ᵉ◌}
use Rattle.rational.proofs.ExtendedLemmas.{lt_of_le_of_ltᵉ, lt_of_lt_of_leᵉ}
use Rattle.rational.proofs.LevelLemmas.{level_is}
use Rattle.value_laws.specs.Kinds.{kleene_shape}
use Rattle.value_laws.specs.Values.{kleene_value}
use Rattle.value_laws.specs.declared.kleene.Kleene.{Kleene}
use Rattle.pieces.specs.Chains.{Chain}
use Rattle.stl_syntax.specs.Trace.{Trace}
use Rattle.stl_syntax.specs.Formula.{atom}
use Rattle.stl_syntax.specs.Kleene.{IsCovered}
use Rattle.stl_syntax.specs.SupInf.{minus_one, one}
use Rattle.stl_syntax.specs.declared.atom.Atom.{Atom}
use Rattle.stl_syntax.specs.declared.items.Item.{Item}
use Rattle.stl_syntax.specs.declared.node.Node.{Node}
use Rattle.implicants.specs.Runs.{AreAllCells}
use Rattle.implicants.specs.Keeping.{CoverMore}
use Rattle.implicants.specs.Needs.{Certain, AreCertainties, AreToldOfMore}

-- what is not known to be false is more than -1
more_than : (o : Option Bool) → (¬ (o ≡ Some false)) → minus_one <ᵉ finite (whole (kleene_value o))
more_than o = elim o as (λ o. (¬ (o ≡ Some false)) → minus_one <ᵉ finite (whole (kleene_value o))) [
  | None ↦ λ h. record { lt = lit< tt }
  | Some b ↦ elim b as (λ b. (¬ (Some b ≡ Some false)) → minus_one <ᵉ finite (whole (kleene_value (Some b))))
      [ true ↦ λ h. record { lt = lit< tt } | false ↦ λ h. absurd (h refl) ]
]

-- where a shape is not certainly false it is more than -1
pub shape_on : (p : Kleene) (t : Rational) → (¬ (p.known ≡ Some false)) → minus_one <ᵉ value_at (kleene_shape.function p) t
shape_on p t h = lt_of_lt_of_leᵉ minus_one (finite (whole (kleene_value p.known))) (value_at (kleene_shape.function p) t) (more_than p.known h)
    (level_is (kleene_value p.known) t).at_least

-- what is not known to be true is less than 1
less_than : (o : Option Bool) → (¬ (o ≡ Some true)) → finite (whole (kleene_value o)) <ᵉ one
less_than o = elim o as (λ o. (¬ (o ≡ Some true)) → finite (whole (kleene_value o)) <ᵉ one) [
  | None ↦ λ h. record { lt = lit< tt }
  | Some b ↦ elim b as (λ b. (¬ (Some b ≡ Some true)) → finite (whole (kleene_value (Some b))) <ᵉ one)
      [ true ↦ λ h. absurd (h refl) | false ↦ λ h. record { lt = lit< tt } ]
]

-- where a shape is not certainly true it is less than 1
pub shape_off : (p : Kleene) (t : Rational) → (¬ (p.known ≡ Some true)) → value_at (kleene_shape.function p) t <ᵉ one
shape_off p t h = lt_of_le_of_ltᵉ (value_at (kleene_shape.function p) t) (finite (whole (kleene_value p.known))) one
    (level_is (kleene_value p.known) t).at_most (less_than p.known h)

module _ (nodes : List Node) (tr : Trace) (all : List Item) (ends : List ℕ) (is : AreAllCells nodes tr all ends) where
  -- a certain atom is covered
  pub certain_covered : (holds : Bool) (i : ℕ) (a : Atom) (some : List Item) (t : Rational) → Certain holds (atom i a) some tr t → IsCovered some i t
  certain_covered true i a some t h = h.1
  certain_covered false i a some t h = h.1

-- what tells of more items tells of no less than fewer cover
pub told_of_more : (nodes : List Node) (tr : Trace) (items more : List Item) (o : Option (List (Chain Kleene))) → CoverMore items more
    → IfSome o (AreCertainties kleene_shape nodes tr more) → IfSome o (AreToldOfMore kleene_shape nodes tr items)
told_of_more nodes tr items more None covered h = tt
told_of_more nodes tr items more (Some chains) covered h = record { more = more; covered = covered; told = h }

-- and what tells of no less than more items cover tells of no less than fewer do
pub told_of_fewer : (nodes : List Node) (tr : Trace) (items others : List Item) (o : Option (List (Chain Kleene))) → CoverMore items others
    → IfSome o (AreToldOfMore kleene_shape nodes tr others) → IfSome o (AreToldOfMore kleene_shape nodes tr items)
told_of_fewer nodes tr items others None covered h = tt
told_of_fewer nodes tr items others (Some chains) covered h = record {
  more = h.more;
  covered = λ i t c. h.covered i t (covered i t c);
  told = h.told;
}
