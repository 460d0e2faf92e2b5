-- Where chains of what cells leave certain say that a node is not.
use Rattle.std.proofs.Common.{◌≡◌, inl, inr, ℕ, pos, negsuc, ◌<◌, ◌^◌, Bool, true, false, List, [], ◌∷◌, length, Some, sym, subst, ◌∙◌, lit≤}
use Rattle.std.specs.Prelude.{slice_get, Option, None}
use Rattle.std.proofs.lemmas.Option.{same_Some}
use Rattle.rational.specs.Time.{Rational, whole}
use Rattle.rational.specs.Rational.{IsWithin}
use Rattle.rational.specs.Extended.{Extended, finite, value_at, Passes}
use Rattle.rational.specs.Affine.{IsBounded}
use Rattle.rational.specs.Places.{Place}
use Rattle.rational.proofs.ExtendedLemmas.{clashᵉ}
use Rattle.rational.proofs.AffineLemmas.{bounded_same, same_transᵉ}
use Rattle.rational.proofs.LevelLemmas.{level_is}
use Rattle.rational.proofs.Mixed.{within_whole}
use Rattle.value_laws.specs.Kinds.{kleene_shape}
use Rattle.value_laws.specs.Values.{kleene_value}
use Rattle.value_laws.specs.declared.kleene.Kleene.{Kleene}
use Rattle.pieces.specs.declared.piece.Piece.{Piece}
use Rattle.pieces.specs.Chains.{Chain, IsWorthFrom, Tells, end}
use Rattle.pieces.specs.Knots.{after, before}
use Rattle.stl_syntax.specs.Trace.{Trace}
use Rattle.stl_syntax.specs.Trace as trace
use Rattle.stl_syntax.specs.Formula.{subformula}
use Rattle.stl_syntax.specs.Kleene.{Must, MustNot}
use Rattle.stl_syntax.specs.SupInf.{SupInf, one, minus_one, certainty_setting}
use Rattle.stl_syntax.specs.declared.items.Item.{Item}
use Rattle.stl_syntax.specs.declared.node.Node.{Node}
use Rattle.stl_syntax.proofs.LawProofs.{certainty_by_values}
use Rattle.implicants.specs.Keeping.{CoverMore}
use Rattle.implicants.specs.Needs.{IsOn, IsOff, AreCertainties}
use Rattle.implicants.proofs.MoreItems.{must, must_not}

-- a three-valued chain is worth 1, -1 or 0
level_bounded : (o : Option Bool) → IsWithin (2 ^ 31) (whole (kleene_value o))
level_bounded o = elim o as (λ o. IsWithin (2 ^ 31) (whole (kleene_value o))) [
  | Some b ↦ elim b as (λ b. IsWithin (2 ^ 31) (whole (kleene_value (Some b)))) [
    | true ↦ within_whole (2 ^ 31) (pos 1) (lit≤ tt)
    | false ↦ within_whole (2 ^ 31) (negsuc 0) (lit≤ tt)
  ]
  | None ↦ within_whole (2 ^ 31) (pos 0) (lit≤ tt)
]

shape_bounded : (p : Kleene) (t : Rational) (v : Extended) → Passes (kleene_shape.function p) t v → IsBounded (2 ^ 31) v
shape_bounded p t v h =
    bounded_same (2 ^ 31) v (finite (whole (kleene_value p.known)))
    (same_transᵉ v (value_at (kleene_shape.function p) t) (finite (whole (kleene_value p.known))) h (level_is (kleene_value p.known) t))
    (level_bounded p.known)

-- a three-valued chain is worth no more than 2^31
pub worth_bounded : (c : Place) (ps : List (Piece Kleene)) (t : Rational) (v : Extended) → IsWorthFrom kleene_shape c ps t v → IsBounded (2 ^ 31) v
worth_bounded c [] t v w = absurd w
worth_bounded c (p ∷ ps) t v (inl w) = shape_bounded p.shape t v w.2
worth_bounded c (p ∷ ps) t v (inr w) = worth_bounded (end p) ps t v w

module _ (nodes : List Node) (tr : Trace) (items : List Item) (chains : List (Chain Kleene)) (sure : AreCertainties kleene_shape nodes tr items chains) where
  -- each chain of a node tells the node's three-valued truth
  pub told_at : (k : ℕ) (x : Chain Kleene) → k < length nodes → slice_get chains k ≡ Some x
      → Tells kleene_shape (SupInf (subformula nodes k) (certainty_setting tr items)) (before (trace.start tr)) (after (trace.stop tr)) x
  told_at k x inside at =
      let node = sure.told k inside in
      subst (Tells kleene_shape (SupInf (subformula nodes k) (certainty_setting tr items)) (before (trace.start tr)) (after (trace.stop tr)))
      (same_Some _ _ (sym node.1 ∙ at)) node.2

  -- where a node's chain is on, the items leave it not certainly false; nor do fewer
  pub on_not_false : (k : ℕ) (x : Chain Kleene) (t : Rational) → k < length nodes → slice_get chains k ≡ Some x → IsOn kleene_shape x t
      → (some : List Item) → CoverMore some items → ¬ MustNot (subformula nodes k) some tr t
  on_not_false k x t inside at on some more m =
      let tells = told_at k x inside at in
      let w = (tells.worth t on.v).0 on.worth in
      let both = sure.values k inside in
      let is = certainty_by_values (subformula nodes k) items tr both.0 both.1 t on.v (record { above = w.0; below = w.1 }) w.2 in
      clashᵉ minus_one on.v on.more (is.certain_not.1 (must_not some items tr more (subformula nodes k) t m)).at_most

  -- where it is off, not certainly true
  pub off_not_true : (k : ℕ) (x : Chain Kleene) (t : Rational) → k < length nodes → slice_get chains k ≡ Some x → IsOff kleene_shape x t
      → (some : List Item) → CoverMore some items → ¬ Must (subformula nodes k) some tr t
  off_not_true k x t inside at off some more m =
      let tells = told_at k x inside at in
      let w = (tells.worth t off.v).0 off.worth in
      let both = sure.values k inside in
      let is = certainty_by_values (subformula nodes k) items tr both.0 both.1 t off.v (record { above = w.0; below = w.1 }) w.2 in
      clashᵉ off.v one off.less (is.certain.1 (must some items tr more (subformula nodes k) t m)).at_least
