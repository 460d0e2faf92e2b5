use Rattle.std.proofs.Common.{false, List, refl, sym, subst}
use Rattle.std.specs.Prelude.{IsSome}
use Rattle.stl_syntax.specs.Trace.{Row}
use Rattle.stl_syntax.specs.Formula.{root}
use Rattle.early_verdict.specs.Deciding.{Kept, IsOpen, IsTruthAtStart, Stands, trace_of}
use Rattle.early_verdict.proofs.StandingOn.{decided_end, open_of}
use Rattle.early_verdict.proofs.NextRow.{fed_rows, unended}
use Rattle.early_verdict.specs.contracts.early.Early.{the_view}
use Rattle.early_verdict.proofs.early.Early.end.Goals as goal

pub returns-in-Some-clause-truth : goal.returns-in-Some-clause-truth
returns-in-Some-clause-truth c rows was =
    let x : Kept = the_view c.self.inside in
    let st = subst (λ (z : Kept). Stands z rows false) (sym c.self.view_is) was in
    let fed = subst (λ (z : Kept). IsSome z.last) (sym c.self.view_is) c.requires.fed in
    subst (λ (z : Kept). IsTruthAtStart (root z.nodes) (trace_of z.header rows) c.in-Some.decided.holds) c.self.view_is
    (decided_end x rows c.in-Some.decided st c.in-Some.is fed)

pub end_sets-requires-clause-open : goal.end_sets-requires-clause-open
end_sets-requires-clause-open c =
    let x : Kept = the_view c.self.inside in
    let f = c.self.inside.formula in
    let w = c.self.invariant.0 c.if-self.false in
    let st = unended x c.args.self.now w.0 c.self.view_is c.requires.open w.1 in
    let r = fed_rows w.0 x.last st.last (subst (λ (z : Kept). IsSome z.last) (sym c.self.view_is) c.requires.fed) in (
      x.header,
      r.0,
      r.1,
      subst (λ (l : List Row). IsOpen f x.bound x.header l x.begin x.last x.live x.shown) r.2 (open_of x f w.0 refl st c.in_default.is),
    )

pub end_sets-requires-clause-columns : goal.end_sets-requires-clause-columns
end_sets-requires-clause-columns c = sym (c.self.invariant.0 c.if-self.false).1.bound.width

pub returns-clause-truth : goal.returns-clause-truth
returns-clause-truth c rows was =
    let x : Kept = the_view c.self.inside in
    let f = c.self.inside.formula in
    let st = subst (λ (z : Kept). Stands z rows false) (sym c.self.view_is) was in
    let r = fed_rows rows x.last st.last (subst (λ (z : Kept). IsSome z.last) (sym c.self.view_is) c.requires.fed) in
    let truth = c.in-Ok.ensures x.header r.0 r.1 (subst (λ (l : List Row). IsOpen f x.bound x.header l x.begin x.last x.live x.shown) r.2
    (open_of x f rows refl st c.in_default.is)) in
    subst (λ (z : Kept). IsTruthAtStart (root z.nodes) (trace_of z.header rows) c.in-Ok.holds) c.self.view_is
    (subst (λ (l : List Row). IsTruthAtStart (root x.nodes) (trace_of x.header l) c.in-Ok.holds) (sym r.2) truth)
