use Rattle.std.proofs.Common.{None, ◌∙◌, subst}
use Rattle.stl_syntax.specs.WellFormed.{IsScale}
use Rattle.stl_syntax.specs.declared.scale.Scale.{Scale}
use Rattle.trace_stream.proofs.KeptRows.{at_first}
use Rattle.trace_stream.proofs.case_reader.CaseReader.new.Goals as goal

pub returns-clause-kept : goal.returns-clause-kept
returns-clause-kept g c = record {
  case = None;
  for_case = tt;
  is = at_first c.args.formula.now c.in_ok-rows.rows (c.in_ok-rows.ensures.limits.1 ∙ c.scale.ensures.scale)
      (subst (λ (s : Scale). IsScale s) c.scale.ensures.scale c.scale.ensures.digits) c.in_ok-rows.ensures.empty;
}
