use Rattle.std.proofs.Common.{rules, ◌≡◌, ◌+◌, ◌-◌, ◌<◌, ◌++◌, ◌∷◌, [], ◌∙◌, sym, ap, subst, length, Some, arith}
use Rattle.std.specs.Prelude.{slice_get}
use Rattle.rational.proofs.Lists.{slice_get-append_here}
use Rattle.offline_eval.specs.Inputs.{TellAtomsBelow}
use Rattle.offline_eval.specs.Evaluation.{AreClosed, AreSignalsOf}
use Rattle.offline_eval.proofs.SignalsAndChains.{signals_tell_under}
use Rattle.offline_eval.proofs.evaluation.eval_under.Goals as goal

pub signals_of-requires : goal.signals_of-requires
signals_of-requires g c = subst (AreClosed g.P.Shape) (sym c.list.ensures) (λ k x at. (c.in-Ok.ensures.sound k x at).limited)

pub returns-else-is_err-clause-root : goal.returns-else-is_err-clause-root
returns-else-is_err-clause-root g c =
    let nodes = c.args.formula.now.nodes in
    let xs = c.in_ok-signals-in-Ok.signals.items in
    let are = subst (λ cs. AreSignalsOf g.P.Shape cs xs) c.list.ensures c.in_ok-signals-in-Ok.ensures in
    let pushed : c.push.new.self.items ≡ xs ++ c.args.root ∷ [] = search (rules, c.push.ensures.items, c.if-is_err.false, c.is_err.ensures) in
    let place : length xs ≡ length nodes - 1 = are.count ∙ c.in-Ok.ensures.count ∙ ap (λ n. n - 1) c.len.ensures.count in
    subst (λ ys. slice_get ys (length nodes - 1) ≡ Some c.args.root) (sym pushed)
    (subst (λ k. slice_get (xs ++ c.args.root ∷ []) k ≡ Some c.args.root) place (slice_get-append_here xs c.args.root []))

pub returns-else-is_err-clause-told : goal.returns-else-is_err-clause-told
returns-else-is_err-clause-told g c s over atoms last =
    let nodes = c.args.formula.now.nodes in
    let xs = c.in_ok-signals-in-Ok.signals.items in
    let are = subst (λ cs. AreSignalsOf g.P.Shape cs xs) c.list.ensures c.in_ok-signals-in-Ok.ensures in
    let pushed : c.push.new.self.items ≡ xs ++ c.args.root ∷ [] = search (rules, c.push.ensures.items, c.if-is_err.false, c.is_err.ensures) in
    let place : length c.in-Ok.chains ≡ length nodes - 1 = c.in-Ok.ensures.count ∙ ap (λ n. n - 1) c.len.ensures.count in
    let some : 0 < length nodes = c.len.ensures.well_formed.some in
    let count : length c.in-Ok.chains + 1 ≡ length nodes = omega (arith, place, some) in
    signals_tell_under g.P.Shape nodes s c.in-Ok.chains xs c.args.root count pushed are
    (c.in-Ok.ensures.told s over
    (subst (λ n. TellAtomsBelow g.P.Shape n nodes c.args.atoms s) (sym (ap (λ n. n - 1) c.len.ensures.count)) atoms)) last

pub returns-in-Err-clause-wide : goal.returns-in-Err-clause-wide
returns-in-Err-clause-wide g c s over atoms = c.in-Err.ensures.wide s over
    (subst (λ n. TellAtomsBelow g.P.Shape n c.args.formula.now.nodes c.args.atoms s) (sym (ap (λ n. n - 1) c.len.ensures.count)) atoms)
