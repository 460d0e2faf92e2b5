use Rattle.std.proofs.Common.{◌≡◌, ◌-◌, pos, sym, ap, subst, refl, length}
use Rattle.value_laws.specs.Kinds.{truth_shape}
use Rattle.rational.specs.Time.{whole}
use Rattle.stl_syntax.specs.SupInf.{truth_setting}
use Rattle.value_laws.specs.Values.{truth_value}
use Rattle.offline_eval.specs.Evaluation.{IsFault}
use Rattle.offline_eval.specs.Inputs.{atoms_before, TellAtomsBelow}
use Rattle.offline_eval.proofs.Never.{levels_are_never_wide}
use Rattle.implicants.proofs.signals.truths_under.Goals as goal

pub eval_under-requires-clause-count : goal.eval_under-requires-clause-count
eval_under-requires-clause-count g c =
    subst (λ n. length c.in_ok-atoms.atoms ≡ atoms_before c.args.formula.now.nodes (n - 1)) c.len-below.ensures.count c.in_ok-atoms.ensures.count

pub unreachable-requires : goal.unreachable-requires
unreachable-requires g c =
    let nodes = c.args.formula.now.nodes in
    let s = truth_setting c.args.trace.now in
    let fault = c.in-Err-Wide.ensures.wide s
    (record {
      lowest = refl;
      highest = refl;
      from = ap (λ n. whole (pos n)) (sym c.first-from.ensures);
      to = ap (λ n. whole (pos n)) (sym c.last-to.ensures.last);
    })
    (subst (λ n. TellAtomsBelow truth_shape (n - 1) nodes c.in_ok-atoms.atoms s) c.len-below.ensures.count c.in_ok-atoms.ensures.told) in
    let wide = subst (IsFault truth_shape nodes s) c.in-Err-Wide.field-0-is fault in
    levels_are_never_wide truth_shape (λ p. truth_value p.holds) (λ p. refl) nodes s c.in-Err-Wide.field-0-0.node c.in-Err-Wide.field-0-0.pair wide.1
