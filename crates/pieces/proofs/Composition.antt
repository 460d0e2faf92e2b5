-- The composition of until and since for chains.
use Rattle.std.proofs.Common.{List, [], ◌∷◌, inl, inr}
use Rattle.rational.specs.Time.{Rational, Within, IsIn, closed}
use Rattle.rational.specs.Extended.{Extended, ◌≤ᵉ◌, value_at}
use Rattle.rational.specs.Places.{Place}
use Rattle.rational.specs.UntilParts.{HasUntilToEnd, HasSinceFromStart, UntilIsComposed, SinceIsComposed}
use Rattle.rational.proofs.ExtendedLemmas.{le_transᵉ}
use Rattle.rational.proofs.SinceOnward.{within_in, in_within}
use Rattle.rational.proofs.WindowLemmas.{inf_over_alike}
use Rattle.rational.proofs.UntilComposition.{HasInfs, until_is_composed, since_is_composed}
use Rattle.value_laws.specs.Members.{ShapeOf, ShapeLaws}
use Rattle.pieces.specs.declared.piece.Piece.{Piece}
use Rattle.pieces.specs.Chains.{Chain, IsWorth, IsWorthFrom, end, stop}
use Rattle.pieces.proofs.Infs.{chain_inf}

module _ {P : Type 0} (shape : ShapeOf P) (laws : ShapeLaws shape) where
  -- a chain is worth at least the lowest value
  pub at_least_lowest : (c : Place) (ps : List (Piece P)) (t : Rational) (v : Extended) → IsWorthFrom shape c ps t v → shape.lowest ≤ᵉ v
  at_least_lowest c [] t v h = absurd h
  at_least_lowest c (p ∷ ps) t v (inl h) = le_transᵉ shape.lowest (value_at (shape.function p.shape) t) v (laws.lowest_is_least p.shape t) h.2.at_least
  at_least_lowest c (p ∷ ps) t v (inr h) = at_least_lowest (end p) ps t v h

  -- so it has an Inf over each stretch
  has_infs : (a : Chain P) → HasInfs shape.lowest shape.highest (IsWorth shape a) a.from.at (stop a).at
  has_infs a = record {
    order = laws.lowest_to_highest;
    low = λ t v w h. at_least_lowest a.from a.pieces t v h;
    infs = λ s u x y z. let f = chain_inf shape laws.highest_is_greatest a.from a.pieces (closed s u) in (
      f.0,
      inf_over_alike (IsIn (closed s u)) (Within s u) (IsWorth shape a) shape.highest f.0 (in_within s u) (within_in s u) f.1,
    );
  }

  -- a bounded until of chains is composed
  pub until_of_chains : (a b : Chain P) → HasUntilToEnd shape.lowest shape.highest a.from.at (stop a).at (IsWorth shape a) (IsWorth shape b)
      → UntilIsComposed shape.lowest shape.highest a.from.at (stop a).at (IsWorth shape a) (IsWorth shape b)
  until_of_chains a b has = until_is_composed (has_infs a) has

  -- so for since
  pub since_of_chains : (a b : Chain P) → HasSinceFromStart shape.lowest shape.highest a.from.at (stop a).at (IsWorth shape a) (IsWorth shape b)
      → SinceIsComposed shape.lowest shape.highest a.from.at (stop a).at (IsWorth shape a) (IsWorth shape b)
  since_of_chains a b has = since_is_composed (has_infs a) has
