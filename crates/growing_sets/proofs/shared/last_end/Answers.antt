use Rattle.std.proofs.Common.{◌≡◌, ◌<◌, ◌-◌, suc, sym, subst, length, drop, arith}
use Rattle.std.specs.Prelude.{IfNone}
use Rattle.rational.specs.Time.{Rational}
use Rattle.growing_sets.specs.Spans.{IsOn, Lies}
use Rattle.growing_sets.proofs.SharedLemmas.{last_in, last_before, last_not, none_from}
use Rattle.growing_sets.proofs.shared.last_end.Goals as goal

pub returns-in-Some-clause-some : goal.returns-in-Some-clause-some
returns-in-Some-clause-some c =
    let n = c.in-Some.ensures.some in
    last_in c.args.spans.now.items c.requires c.args.part.now c.reaching-at.result n.0 c.in-Some.last n.1 n.2 c.reaching-at.ensures.rest

pub returns-then-at-eq0-clause-none : goal.returns-then-at-eq0-clause-none
returns-then-at-eq0-clause-none c u l o =
    let spans = c.args.spans.now.items in
    none_from spans c.requires c.args.part.now c.reaching-at.result c.reaching-at.ensures.rest c.in_default.ensures.none u l
    (subst (λ i. IsOn (drop i spans) u) (sym c.if-at-eq0.true) o)

pub returns-in_err-last-clause-none : goal.returns-in_err-last-clause-none
returns-in_err-last-clause-none c =
    let spans = c.args.spans.now.items in
    let part = c.args.part.now in
    let at = c.reaching-at.result in
    let next : at ≡ suc (at - 1) = omega arith in
    let within : at - 1 < length spans = omega arith in
    subst (λ r. IfNone r ((u : Rational) → Lies part u → ¬ (IsOn spans u))) (sym c.from_residual.ensures)
    (last_not spans c.requires part at (at - 1) next within c.reaching-at.ensures.front c.reaching-at.ensures.rest c.in_default.ensures.none
    c.in_err-last.ensures.none)

pub returns-clause-some : goal.returns-clause-some
returns-clause-some c =
    let at = c.reaching-at.result in
    let next : at ≡ suc (at - 1) = omega arith in
    let n = c.in_ok-last.ensures.some in
    last_before c.args.spans.now.items c.requires c.args.part.now at (at - 1) n.0 c.in_ok-last.last next c.reaching-at.ensures.rest
    c.in_default.ensures.none n.1 n.2
