use Rattle.std.proofs.Common.{◌∙◌, subst}
use Rattle.std.specs.Prelude.{None}
use Rattle.stl_syntax.specs.WellFormed.{IsScale}
use Rattle.stl_syntax.specs.declared.scale.Scale.{Scale}
use Rattle.trace_stream.proofs.KeptRows.{at_first}
use Rattle.trace_stream.proofs.live.Live.new.Goals as goal

pub returns-clause-live : goal.returns-clause-live
returns-clause-live g c = record {
  served = c.requires.streamed;
  case = None;
  kept = at_first c.args.formula c.in_ok-rows.rows (c.in_ok-rows.ensures.limits.1 ∙ c.scale.ensures.scale)
      (subst (λ (s : Scale). IsScale s) c.scale.ensures.scale c.scale.ensures.digits) c.in_ok-rows.ensures.empty;
  followed = c.new-2.ensures;
}
