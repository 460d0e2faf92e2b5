use Rattle.std.proofs.Common.{◌≤◌, ◌≡◌, sym, ap, ◌∙◌, subst, ◌⊎◌, []}
use Rattle.stl_syntax.specs.Trace.{Header}
use Rattle.stl_syntax.specs.Scaling.{scaled}
use Rattle.stl_syntax.specs.Binding.{IsUnitFault}
use Rattle.stl_syntax.specs.declared.scale.Scale.{Scale}
use Rattle.stl_syntax.specs.declared.scale.UnitFault.{UnitFault}
use Rattle.stl_syntax.specs.declared.scale.UnitFault.TheVariants.{Memory}
use Rattle.trace_stream.specs.Cases.{IsNoBegin}
use Rattle.trace_stream.proofs.HeaderLacks.{finer, lacks_scaled, begun, unit_fits}
use Rattle.trace_stream.proofs.case.begin.Goals as goal

pub scaled-requires-clause-value : goal.scaled-requires-clause-value
scaled-requires-clause-value c =
    let h = c.requires.0 in
    let least = c.args.formula.now.scale in
    subst (λ (s : Scale). least.value ≤ s.value) (sym (c.scale.ensures ∙ ap (λ (x : Header). x.scale) c.requires.1)) (finer least h).1

pub misfit-requires : goal.misfit-requires
misfit-requires c = subst (λ s. (c.in-Err.fault ≡ Memory) ⊎ IsUnitFault c.args.formula.now s c.in-Err.fault) c.scale.ensures c.in-Err.ensures.fault

pub returns-in-Err-bind : goal.returns-in-Err-bind
returns-in-Err-bind c = λ h e.
    subst (λ s. IsNoBegin c.args.formula.now c.args.line h s) (sym c.bind_stop.ensures)
    (lacks_scaled c.args.formula.now c.args.line c.args.header.now h e c.in-Ok.scaled (c.in-Ok.ensures.ok ∙ ap (scaled c.args.formula.now) c.scale.ensures)
    c.in-Err-bind.fault c.in-Err-bind.ensures.err)

pub returns : goal.returns
returns c = λ h e.
    begun c.args.formula.now c.args.line c.args.header.now h e (record { formula = c.in-Ok.scaled; bound = c.in-Ok-bind.bound; trace = c.new.result })
    (c.new.ensures ∙ ap (λ (x : Header). record { header = x; rows = [] }) c.in_ok-header.ensures)
    (c.in-Ok.ensures.ok ∙ ap (scaled c.args.formula.now) c.scale.ensures)
    c.in-Ok-bind.ensures.ok c.in-Ok-bind.ensures.named
    (subst (λ s. (u : UnitFault) → ¬ IsUnitFault c.args.formula.now s u) c.scale.ensures
    (unit_fits c.args.formula.now c.scale.result c.scaled.result c.in-Ok.scaled c.in-Ok.is c.scaled.ensures.refused))
