use Rattle.std.proofs.Common.{sym, ◌∙◌, subst}
use Rattle.trace_stream.specs.Cases.{IsNoBegin}
use Rattle.trace_stream.proofs.HeaderLacks.{lacks_unit, lacks_column}
use Rattle.trace_stream.proofs.case.misfit.Goals as goal
use Rattle.trace_stream.proofs.case.misfit.Goals.{in-Ok, in-Err}

pub returns : goal.returns
returns c = λ h e.
    let f = c.args.formula.now in
    let n = c.args.line in
    let header = c.args.header.now in
    elim c.match-bind.branch [
      | in-Ok w ↦ subst (λ s. IsNoBegin f n h s) (sym (w.result-is ∙ w.unit_stop.ensures))
          (lacks_unit f n header h e w.in-Ok.ensures.named c.args.fault c.requires)
      | in-Err w ↦ subst (λ s. IsNoBegin f n h s) (sym (w.result-is ∙ w.bind_stop.ensures)) (lacks_column f n header h e w.in-Err.fault w.in-Err.ensures.err)
    ]
