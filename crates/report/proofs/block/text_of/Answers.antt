use Rattle.std.proofs.Common.{refl, ap, ◌∙◌}
use Rattle.serde_json.specs.Data.{array}
use Rattle.serde_json.specs.View.{items_view}
use Rattle.serde_json.specs.Written.{compact_text, has_float, items_have_float}
use Rattle.serde_json.proofs.Views.{view-Array}
use Rattle.report.proofs.block.text_of.Goals as goal

pub exchange-requires : goal.exchange-requires
exchange-requires c = (c.replace.result, refl)

pub returns-in-Ok-clause-same : goal.returns-in-Ok-clause-same
returns-in-Ok-clause-same c = ap (λ v. v.items) (c.exchange.ensures c.replace.result refl ∙ c.replace.ensures.value)

pub returns-in-Ok-clause-text : goal.returns-in-Ok-clause-text
returns-in-Ok-clause-text c =
    let v = c.replace.result in
    let same = c.replace.ensures.value in
    c.in-Ok.ensures.text (ap has_float (view-Array v) ∙ (ap (λ u. items_have_float (items_view u.items)) same ∙ c.requires))
    ∙ (ap compact_text (view-Array v) ∙ ap (λ u. compact_text (array (items_view u.items))) same)
