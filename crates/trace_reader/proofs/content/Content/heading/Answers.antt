-- The heading is in the ticks of the reader.
use Rattle.std.proofs.Common.{◌∙◌, ap, sym}
use Rattle.std.specs.Prelude.{option_map}
use Rattle.trace_reader.specs.TraceText.{scale_of}
use Rattle.trace_reader.specs.Headings.{Scaled}
use Rattle.trace_reader.specs.Progress.{Progress}
use Rattle.trace_reader.proofs.content.Content.heading.Goals as goal

pub returns-in-Some : goal.returns-in-Some
returns-in-Some c =
    let v = c.self.view_is in
    let sc = c.in-Some.heading in
    let known = c.in-Some.is in (
      sym (ap (λ (q : Progress). q.heading) v) ∙ ap (option_map (λ (s : Scaled). s.heading)) known,
      c.self.invariant.scale sc known ∙ ap (λ (q : Progress). scale_of q.least sc.heading) v,
    )
