-- A value is within its limits, or not.
use Rattle.std.proofs.Common.{◌≡◌, subst, inl, inr, arith, pos, negsuc, true, w32}
use Rattle.std.specs.Prelude.{◌<◌, ◌≤◌}
use Rattle.std.proofs.lemmas.Int.{ints, to_z-of_z}
use Rattle.trace_reader.specs.TraceText.{IsInTicks}
use Rattle.trace_reader.specs.LineParts.{signed}
use Rattle.trace_reader.proofs.DigitLemmas.{value_fits}
use Rattle.trace_reader.proofs.NumberLemmas.{within, outside, small_negative, large_signed}
use Rattle.trace_reader.proofs.number.read_value.Goals as goal

pub returns-then-ticks-clause-cases : goal.returns-then-ticks-clause-cases
returns-then-ticks-clause-cases c =
    let (m, it, same) = c.in-Some.ensures in
    let large : 16777216 < m = omega (arith, same, c.if-ticks.true) in
    outside c.args.digits c.args.most (negsuc 16777215) (pos 16777216) c.args.place c.args.field.now
    (signed c.in-Some.ticks.negative m) it (large_signed c.in-Some.ticks.negative m large)

pub returns-then-ticks-2-clause-cases : goal.returns-then-ticks-2-clause-cases
returns-then-ticks-2-clause-cases c =
    let f = c.args.field.now in
    let (m, it, same) = c.in-Some.ensures in
    let size : m ≡ c.in-Some.ticks.size = omega (arith, same, c.if-ticks.false) in
    let h : IsInTicks c.args.digits c.args.most f (signed true m) = subst (λ b. IsInTicks c.args.digits c.args.most f (signed b m)) c.if-ticks-2.true it in
    let k : IsInTicks c.args.digits c.args.most f (signed true c.in-Some.ticks.size) =
    subst (λ n. IsInTicks c.args.digits c.args.most f (signed true n)) size h in
    rw (to_z-of_z w32 c.opposite_of.result (value_fits c.opposite_of.result c.opposite_of.ensures.small), c.opposite_of.ensures.value)
    (within c.args.digits c.args.most (negsuc 16777215) (pos 16777216) c.args.place f (signed true c.in-Some.ticks.size) k
    (small_negative c.in-Some.ticks.size c.if-ticks.false))

pub returns-clause-cases : goal.returns-clause-cases
returns-clause-cases c =
    let f = c.args.field.now in
    let (m, it, same) = c.in-Some.ensures in
    let few : c.in-Some.ticks.size ≤ 16777216 = c.if-ticks.false in
    let size : m ≡ c.in-Some.ticks.size = omega (arith, same, few) in
    let h : IsInTicks c.args.digits c.args.most f (pos m) = subst (λ b. IsInTicks c.args.digits c.args.most f (signed b m)) c.if-ticks-2.false it in
    let k : IsInTicks c.args.digits c.args.most f (pos c.in-Some.ticks.size) = subst (λ n. IsInTicks c.args.digits c.args.most f (pos n)) size h in
    rw (to_z-of_z w32 c.value_of.result (value_fits c.value_of.result c.value_of.ensures.small), c.value_of.ensures.value)
    (within c.args.digits c.args.most (negsuc 16777215) (pos 16777216) c.args.place f (pos c.in-Some.ticks.size) k
    (λ out. elim out [ inl l ↦ omega (arith, ints) | inr l ↦ omega (arith, ints) ]))
