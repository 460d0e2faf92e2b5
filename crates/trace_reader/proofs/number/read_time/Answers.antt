-- A time is within its limits, or not.
use Rattle.std.proofs.Common.{◌≡◌, subst, inl, inr, arith, pos, true}
use Rattle.std.specs.Prelude.{◌<ℤ◌, ◌<◌}
use Rattle.std.proofs.lemmas.Int.{ints}
use Rattle.trace_reader.specs.TraceText.{IsInTicks}
use Rattle.trace_reader.specs.LineParts.{signed}
use Rattle.trace_reader.proofs.NumberLemmas.{within, outside, zero_ticks, some_negative}
use Rattle.trace_reader.proofs.number.read_time.Goals as goal

pub returns-then-ticks-eq0-clause-cases : goal.returns-then-ticks-eq0-clause-cases
returns-then-ticks-eq0-clause-cases c =
    let f = c.args.field.now in
    let (m, it, same) = c.in-Some.ensures in
    let zero_is : m ≡ 0 = omega (arith, same, c.if-ticks-eq0.true) in
    let h : IsInTicks c.args.digits c.args.most f (pos 0) = subst (IsInTicks c.args.digits c.args.most f) (zero_ticks c.in-Some.ticks.negative m zero_is) it in
    within c.args.digits c.args.most (pos 0) (pos 4294967295) 1 f (pos 0) h (λ out. elim out [ inl l ↦ omega (arith, ints) | inr l ↦ omega (arith, ints) ])

pub returns-then-ticks-clause-cases : goal.returns-then-ticks-clause-cases
returns-then-ticks-clause-cases c =
    let f = c.args.field.now in
    let (m, it, same) = c.in-Some.ensures in
    let some : 0 < m = omega (arith, same, c.if-ticks-eq0.false) in
    let h : IsInTicks c.args.digits c.args.most f (signed true m) = subst (λ b. IsInTicks c.args.digits c.args.most f (signed b m)) c.if-ticks.true it in
    outside c.args.digits c.args.most (pos 0) (pos 4294967295) 1 f (signed true m) h (inl (some_negative m some))

pub returns-then-ticks-ge-BEYOND-clause-cases : goal.returns-then-ticks-ge-BEYOND-clause-cases
returns-then-ticks-ge-BEYOND-clause-cases c =
    let f = c.args.field.now in
    let (m, it, same) = c.in-Some.ensures in
    let large : 4294967295 < m = omega (arith, same, c.if-ticks-ge-BEYOND.true) in
    let h : IsInTicks c.args.digits c.args.most f (pos m) = subst (λ b. IsInTicks c.args.digits c.args.most f (signed b m)) c.if-ticks.false it in
    let out : pos 4294967295 <ℤ pos m = omega (arith, ints) in
    outside c.args.digits c.args.most (pos 0) (pos 4294967295) 1 f (pos m) h (inr out)

pub returns-clause-cases : goal.returns-clause-cases
returns-clause-cases c =
    let f = c.args.field.now in
    let (m, it, same) = c.in-Some.ensures in
    let size : m ≡ c.in-Some.ticks.size = omega (arith, same, c.if-ticks-ge-BEYOND.false) in
    let h : IsInTicks c.args.digits c.args.most f (pos m) = subst (λ b. IsInTicks c.args.digits c.args.most f (signed b m)) c.if-ticks.false it in
    let k : IsInTicks c.args.digits c.args.most f (pos c.in-Some.ticks.size) = subst (λ n. IsInTicks c.args.digits c.args.most f (pos n)) size h in
    let few : c.in-Some.ticks.size < 4294967296 = c.if-ticks-ge-BEYOND.false in
    within c.args.digits c.args.most (pos 0) (pos 4294967295) 1 f (pos c.in-Some.ticks.size) k
    (λ out. elim out [ inl l ↦ omega (arith, ints) | inr l ↦ omega (arith, ints) ])
