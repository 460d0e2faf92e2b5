use Rattle.std.proofs.Common.{rules, ◌≡◌, ◌∙◌, ◌≤◌, ◌-ℤ◌, ap, sym, pos, nat_abs, arith, to_z, of_z}
use Rattle.std.specs.Int.{w64}
use Rattle.std.proofs.lemmas.Int.{to_z-of_z, ints}
use Rattle.rational.specs.Rational.{◌≈◌, whole}
use Rattle.frac128.specs.Value.{value}
use Rattle.frac128.specs.Line.{rise_in_run}
use Rattle.atom_lines.specs.Signs.{signed}
use Rattle.atom_lines.proofs.Margins.{margin_level, margin_ramp, rise_within}
use Rattle.atom_lines.proofs.margin.margin_between.Goals as goal

pub returns-then-from-to-clause-worth : goal.returns-then-from-to-clause-worth
returns-then-from-to-clause-worth c =
    let g = c.args.gap.now in
    let from : c.signed_value-from.result ≡ signed c.args.rel g.from = search (rules, to_z-of_z) in
    let to : c.signed_value-to.result ≡ signed c.args.rel g.to = search (rules, to_z-of_z) in
    let here : to_z w64 (of_z w64 c.signed_value-from.result) ≡ c.signed_value-from.result = search (rules, to_z-of_z) in
    let there : to_z w64 (of_z w64 c.signed_value-to.result) ≡ c.signed_value-to.result = search (rules, to_z-of_z) in
    let same : c.signed_value-from.result ≡ c.signed_value-to.result = sym here ∙ ap (to_z w64) c.if-from-to.true ∙ there in
    let is : value c.of.result ≈ whole c.signed_value-from.result = rw here at c.of.ensures.value in
    margin_level c.args.rel g (value c.of.result) c.signed_value-from.result from (same ∙ to) is

pub make-requires-clause-rise : goal.make-requires-clause-rise
make-requires-clause-rise c =
    let g = c.args.gap.now in
    let from : c.signed_value-from.result ≡ signed c.args.rel g.from = search (rules, to_z-of_z) in
    let to : c.signed_value-to.result ≡ signed c.args.rel g.to = search (rules, to_z-of_z) in
    let here : to_z w64 (of_z w64 c.signed_value-from.result) ≡ signed c.args.rel g.from = search (rules, to_z-of_z) in
    let there : to_z w64 (of_z w64 c.signed_value-to.result) ≡ signed c.args.rel g.to = search (rules, to_z-of_z) in
    let small : nat_abs (signed c.args.rel g.to -ℤ signed c.args.rel g.from) ≤ 2147483648 = rise_within c.args.rel g.from g.to 2147483648 g.small_rise in
    let whole : to_z w64 (of_z w64 (signed c.args.rel g.to -ℤ signed c.args.rel g.from)) ≡ signed c.args.rel g.to -ℤ signed c.args.rel g.from =
    omega (arith, ints) in
    rw (here, there, whole) small

pub returns-clause-worth : goal.returns-clause-worth
returns-clause-worth c =
    let g = c.args.gap.now in
    let here : to_z w64 (of_z w64 c.signed_value-from.result) ≡ signed c.args.rel g.from = search (rules, to_z-of_z) in
    let there : to_z w64 (of_z w64 c.signed_value-to.result) ≡ signed c.args.rel g.to = search (rules, to_z-of_z) in
    let small : nat_abs (signed c.args.rel g.to -ℤ signed c.args.rel g.from) ≤ 2147483648 = rise_within c.args.rel g.from g.to 2147483648 g.small_rise in
    let whole : to_z w64 (of_z w64 (signed c.args.rel g.to -ℤ signed c.args.rel g.from)) ≡ signed c.args.rel g.to -ℤ signed c.args.rel g.from =
    omega (arith, ints) in
    let first : to_z w64 (of_z w64 c.from.result) ≡ pos g.first = search (rules, to_z-of_z) in
    let rise : rise_in_run c.make.result ≡ signed c.args.rel g.to -ℤ signed c.args.rel g.from = rw (here, there, whole) at c.make.ensures.rise in
    margin_ramp c.args.rel g c.make.result (c.make.ensures.t0 ∙ first) (c.make.ensures.v0 ∙ here) rise c.make.ensures.run
