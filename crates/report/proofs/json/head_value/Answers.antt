use Rattle.std.proofs.Common.{ap, ◌∙◌, codes}
use Rattle.serde_json.specs.Data.{string, array, no_items, object, member, no_members}
use Rattle.report.proofs.json.head_value.Goals as goal

pub returns : goal.returns
returns c = (
  c.in_ok-printed.printed,
  c.in_ok-printed.ensures,
  c.in_ok-head_object.ensures ∙ ap (λ d. object (member (codes "formula") d (member (codes "items") (array no_items) no_members)))
      (c.in_ok-text.ensures ∙ ap string c.bytes.ensures),
)
