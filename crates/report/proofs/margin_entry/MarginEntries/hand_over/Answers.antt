use Rattle.std.proofs.Common.{◌++◌, ap, ◌∙◌, take}
use Rattle.std.proofs.lemmas.Result.{on_ok_weaker}
use Rattle.serde_json.specs.View.{items_view}
use Rattle.serde_json.specs.Written.{items_have_float}
use Rattle.report.specs.Blocks.{after_commas}
use Rattle.report.proofs.Blocks.{no_float}
use Rattle.report.proofs.margin_entry.MarginEntries.hand_over.Goals as goal

pub put_after_commas-requires-clause-float : goal.put_after_commas-requires-clause-float
put_after_commas-requires-clause-float c =
    ap (λ l. items_have_float (items_view l)) c.truncate.ensures.items ∙ no_float (take c.self.inside.used c.self.inside.objects.items) c.self.invariant.1

pub returns-clause-ok : goal.returns-clause-ok
returns-clause-ok c =
    on_ok_weaker c.put_after_commas.result
    (λ e. e ∙ ap (λ w. c.args.text.now ++ w) (ap after_commas c.truncate.ensures.items ∙ c.self.view_is)) c.put_after_commas.ensures.ok
