use Rattle.std.proofs.Common.{rules, ◌≡◌, ◌+◌, ◌*◌, ◌/◌, ◌≤◌, ◌+ℤ◌, ◌*ℤ◌, pos, ap, subst, arith, mul-le-mul_right}
use Rattle.std.specs.Int.RustNames.{unsigned_abs}
use Rattle.std.proofs.lemmas.Int.{to_z-of_z}
use Rattle.std.proofs.Math.Nat.{div-le_of_le-mul}
use Rattle.rational.specs.Rational.{◌≈◌, fraction}
use Rattle.rational.proofs.Order.{same_refl}
use Rattle.atom_lines.specs.Passages.{crossing_time}
use Rattle.atom_lines.proofs.Crossings.{rise_size, size_positive, crossing_mixed}
use Rattle.atom_lines.proofs.way.turning.Goals as goal

pub crossing_at-requires-clause-some : goal.crossing_at-requires-clause-some
crossing_at-requires-clause-some c =
    let g = c.args.gap.now in
    let before : c.unsigned_abs-before.result ≡ unsigned_abs g.from = search (rules, to_z-of_z) in
    let after : c.unsigned_abs.result ≡ unsigned_abs g.to = search (rules, to_z-of_z) in
    let some = size_positive g c.requires in
    omega (arith, before, after, some)

pub crossing_at-requires-clause-few : goal.crossing_at-requires-clause-few
crossing_at-requires-clause-few c =
    let g = c.args.gap.now in
    let before : c.unsigned_abs-before.result ≡ unsigned_abs g.from = search (rules, to_z-of_z) in
    let after : c.unsigned_abs.result ≡ unsigned_abs g.to = search (rules, to_z-of_z) in
    let few = g.small_rise in
    let size = rise_size g c.requires in
    omega (arith, before, after, few, size)

pub crossing_at-requires-clause-fits : goal.crossing_at-requires-clause-fits
crossing_at-requires-clause-fits c =
    let g = c.args.gap.now in
    let b = c.unsigned_abs-before.result in
    let rise = b + c.unsigned_abs.result in
    let length = c.from.result in
    let most : b * length ≤ rise * length = mul-le-mul_right length (omega arith) in
    let few : b * length / rise ≤ length = div-le_of_le-mul rise most in
    let order = g.rising in
    omega (arith, few, order, c.from.ensures)

pub returns : goal.returns
returns c =
    let g = c.args.gap.now in
    let x = c.crossing_at.result in
    let b = c.unsigned_abs-before.result in
    let rise = b + c.unsigned_abs.result in
    let before : b ≡ unsigned_abs g.from = search (rules, to_z-of_z) in
    let after : c.unsigned_abs.result ≡ unsigned_abs g.to = search (rules, to_z-of_z) in
    let same : crossing_time x ≈ fraction (pos x.floor *ℤ pos rise +ℤ pos x.rest) (pos rise) =
    subst (λ d. crossing_time x ≈ fraction (pos x.floor *ℤ pos d +ℤ pos x.rest) (pos d)) c.crossing_at.ensures.den (same_refl (crossing_time x)) in
    crossing_mixed g {w = pos x.floor} {rest = x.rest} {r = rise} {v = crossing_time x} same b c.from.result c.requires (omega (arith, before, after)) before
    c.from.ensures (ap pos c.crossing_at.ensures.floor) c.crossing_at.ensures.rest
