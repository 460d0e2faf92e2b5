-- A kind of value over time as one record, which a clause writes `P.Shape` and a proof `g.P.Shape`: what a shape is worth, its base,
-- whether it moves, and the least and the greatest value. Its laws are a second record over it.
use Rattle.std.specs.Prelude.{◌≡◌, pos, ◌≤◌, ◌^◌, false}
use Rattle.std.specs.Int.RustNames.{unsigned_abs}
use Rattle.rational.specs.Rational.{Rational}
use Rattle.rational.specs.Extended.{◌≤ᵉ◌, value_at}
use Rattle.rational.specs.Affine.{IsBounded}
use Rattle.value_laws.specs.declared.shape.Shape.{Ghosts}

-- the members of the trait `Shape` at P
abbrev pub ShapeOf : Type 0 → Type 1
ShapeOf P = Ghosts P

-- the laws of a kind of value, as the trait states them; a proof has them as `assumption g.met.P.Shape`
pub record ShapeLaws {P : Type 0} (shape : ShapeOf P) : Type 0 where
  pub base_within : (p : P) → unsigned_abs (shape.base p) ≤ 2 ^ 34
  pub base_of_others : (p : P) → shape.moves p ≡ false → shape.base p ≡ pos 0
  pub lowest_is_least : (p : P) (t : Rational) → shape.lowest ≤ᵉ value_at (shape.function p) t
  pub highest_is_greatest : (p : P) (t : Rational) → value_at (shape.function p) t ≤ᵉ shape.highest
  pub lowest_bounded : IsBounded (2 ^ 31) shape.lowest
  pub highest_bounded : IsBounded (2 ^ 31) shape.highest
  pub lowest_to_highest : shape.lowest ≤ᵉ shape.highest
