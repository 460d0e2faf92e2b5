use Rattle.std.proofs.Common.{refl}
use Rattle.std.proofs.lemmas.Result.{on_ok_weaker}
use Rattle.report.proofs.Blocks.{verdict_there}
use Rattle.report.proofs.verdict_entry.fill_at.Goals as goal

pub fill_verdict-requires-clause-form : goal.fill_verdict-requires-clause-form
fill_verdict-requires-clause-form c =
    verdict_there c.args.objects.now c.args.at c.index-objects-at.result c.requires.there c.requires.forms

pub returns-clause-ok : goal.returns-clause-ok
returns-clause-ok c = on_ok_weaker c.fill_verdict.result (λ told. (c.fill_verdict.new.verdict, told, refl)) c.fill_verdict.ensures.ok

pub returns-clause-form : goal.returns-clause-form
returns-clause-form c = (c.fill_verdict.new.verdict, c.fill_verdict.ensures.form, refl)
