use Rattle.std.proofs.Common.{pos, sym, ap, subst, refl}
use Rattle.value_laws.specs.Kinds.{kleene_shape}
use Rattle.rational.specs.Time.{whole}
use Rattle.stl_syntax.specs.SupInf.{certainty_setting}
use Rattle.value_laws.specs.Values.{kleene_value}
use Rattle.offline_eval.specs.Evaluation.{IsFault}
use Rattle.offline_eval.proofs.Never.{levels_are_never_wide}
use Rattle.implicants.specs.Keeping.{remaining}
use Rattle.implicants.proofs.certainty.certainties.Goals as goal

pub unreachable-requires : goal.unreachable-requires
unreachable-requires g c =
    let nodes = c.args.formula.now.nodes in
    let s = certainty_setting c.args.trace.now (remaining c.args.left c.args.kept.now c.args.cells.now.all.items) in
    let fault = c.in-Err-Wide.ensures.wide s
    (record { lowest = refl; highest = refl; from = ap (λ n. whole (pos n)) (sym c.first.ensures); to = ap (λ n. whole (pos n)) (sym c.last.ensures.last) })
    c.in_ok-atoms.ensures.told in
    let wide = subst (IsFault kleene_shape nodes s) c.in-Err-Wide.field-0-is fault in
    levels_are_never_wide kleene_shape (λ p. kleene_value p.known) (λ p. refl) nodes s c.in-Err-Wide.field-0-0.node c.in-Err-Wide.field-0-0.pair wide.1

pub returns-in-Ok-clause-told : goal.returns-in-Ok-clause-told
returns-in-Ok-clause-told g c =
    let nodes = c.args.formula.now.nodes in
    let s = certainty_setting c.args.trace.now (remaining c.args.left c.args.kept.now c.args.cells.now.all.items) in
    let told = c.in-Ok.ensures.told s
    (record { lowest = refl; highest = refl; from = ap (λ n. whole (pos n)) (sym c.first.ensures); to = ap (λ n. whole (pos n)) (sym c.last.ensures.last) })
    c.in_ok-atoms.ensures.told in
    record {
      count = c.in-Ok.ensures.count;
      told = told;
      values = λ k inside. c.chains_have_values.ensures nodes c.in-Ok.nodes s c.len.ensures.well_formed.nodes.post_order refl told k inside;
    }

pub returns-in-Ok-clause-closed : goal.returns-in-Ok-clause-closed
returns-in-Ok-clause-closed g c k x at = (c.in-Ok.ensures.sound k x at).limited
