use Rattle.std.proofs.Common.{rules, ◌≡◌, ◌+◌, ◌*◌, ◌/◌, ◌%◌, ◌<◌, ◌≤◌, ◌^◌, ◌+ℤ◌, ◌*ℤ◌, pos, refl, arith, to_z, of_z, mul-le-mul_right}
use Rattle.std.specs.Int.{w64}
use Rattle.std.specs.Int.RustNames.{unsigned_abs}
use Rattle.std.proofs.lemmas.Int.{ints, to_z-of_z}
use Rattle.std.proofs.Math.Nat.{div-le_of_le-mul}
use Rattle.rational.proofs.Lowest.{denominator_same, denominator_at_most}
use Rattle.frac128.specs.Value.{denominator}
use Rattle.frac128.proofs.Fractions.{HasDenominator-value}
use Rattle.atom_lines.proofs.Crossings.{rise_size, size_positive, crossing_mixed}
use Rattle.atom_lines.proofs.truth.crossing.Goals as goal

pub returns-clause-zero : goal.returns-clause-zero
returns-clause-zero c =
    let g = c.args.gap in
    let b = c.unsigned_abs-before.result in
    let rise = b + c.unsigned_abs.result in
    let length = c.from.result in
    let before : b ≡ unsigned_abs g.from = search (rules, to_z-of_z) in
    let after : c.unsigned_abs.result ≡ unsigned_abs g.to = search (rules, to_z-of_z) in
    let most : b * length ≤ rise * length = mul-le-mul_right length (omega arith) in
    let few : b * length / rise ≤ length = div-le_of_le-mul rise most in
    let short : length < 2 ^ 32 = omega (arith, c.from.ensures) in
    let cast : to_z w64 (b * length / rise) ≡ pos (b * length / rise) = omega (arith, ints, few, short) in
    let whole : to_z w64 (of_z w64 (to_z w64 (of_z w64 c.from-2.result) +ℤ to_z w64 (b * length / rise))) ≡ pos (g.first + b * length / rise) =
    omega (arith, ints, cast, few, short, c.from-2.ensures) in
    crossing_mixed g {w = to_z w64 (of_z w64 (to_z w64 (of_z w64 c.from-2.result) +ℤ to_z w64 (b * length / rise)))} {rest = b * length % rise} {r = rise}
    c.mixed.ensures b length c.requires (omega (arith, before, after)) before c.from.ensures whole refl

pub returns-clause-small : goal.returns-clause-small
returns-clause-small c =
    let g = c.args.gap in
    let t = c.mixed.result in
    let b = c.unsigned_abs-before.result in
    let rise = b + c.unsigned_abs.result in
    let past = b * c.from.result in
    let before : b ≡ unsigned_abs g.from = search (rules, to_z-of_z) in
    let after : c.unsigned_abs.result ≡ unsigned_abs g.to = search (rules, to_z-of_z) in
    let some = size_positive g c.requires in
    let few = g.small_rise in
    let size = rise_size g c.requires in
    let d : denominator t ≤ rise =
    denominator_at_most (to_z w64 (of_z w64 (to_z w64 (of_z w64 c.from-2.result) +ℤ to_z w64 (past / rise))) *ℤ pos rise +ℤ pos (past % rise))
    (pos rise) rise (denominator t)
    (denominator_same (denominator t) c.mixed.ensures (HasDenominator-value t)) refl (omega (arith, before, after, some)) in
    omega (arith, d, before, after, size, few)
