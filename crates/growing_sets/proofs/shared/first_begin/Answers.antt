use Rattle.std.proofs.Common.{rules, ◌≡◌, ◌<◌, suc, sym, subst, length, arith, add-one, Some}
use Rattle.std.specs.Prelude.{IfNone, slice_get}
use Rattle.std.proofs.lemmas.Option.{slice_get_within}
use Rattle.rational.specs.Time.{Rational}
use Rattle.growing_sets.specs.Spans.{IsOn, Lies}
use Rattle.growing_sets.proofs.SharedLemmas.{NothingAt, first_in, first_after, first_not}
use Rattle.growing_sets.proofs.shared.first_begin.Goals as goal

pub returns-in-Some-clause-some : goal.returns-in-Some-clause-some
returns-in-Some-clause-some c =
    let n = c.in-Some.ensures.some in
    first_in c.args.spans.now.items c.requires c.args.part.now c.reaching-at.result n.0 c.in-Some.first n.1 n.2 c.reaching-at.ensures.front

pub returns-then-at-len-clause-none : goal.returns-then-at-len-clause-none
returns-then-at-len-clause-none c =
    let spans = c.args.spans.now.items in
    let at = c.reaching-at.result in
    let all : at ≡ length spans = search rules in
    first_not spans c.requires c.args.part.now at c.reaching-at.ensures.front c.reaching-at.ensures.rest c.in_default.ensures.none
    (λ n e t i l. let below : suc at < length spans = slice_get_within spans (suc at) n e in absurd (omega arith))

pub returns-in_err-first-clause-none : goal.returns-in_err-first-clause-none
returns-in_err-first-clause-none c =
    let spans = c.args.spans.now.items in
    let part = c.args.part.now in
    let at = c.reaching-at.result in
    subst (λ r. IfNone r ((u : Rational) → Lies part u → ¬ (IsOn spans u))) (sym c.from_residual.ensures)
    (first_not spans c.requires part at c.reaching-at.ensures.front c.reaching-at.ensures.rest c.in_default.ensures.none
    (subst (NothingAt spans c.requires part) (add-one at) c.in_err-first.ensures.none))

pub returns-clause-some : goal.returns-clause-some
returns-clause-some c =
    let spans = c.args.spans.now.items in
    let at = c.reaching-at.result in
    let n = c.in_ok-first.ensures.some in
    let e = subst (λ i. slice_get spans i ≡ Some n.0) (add-one at) n.1 in
    first_after spans c.requires c.args.part.now at n.0 c.in_ok-first.first c.reaching-at.ensures.front c.in_default.ensures.none e n.2
