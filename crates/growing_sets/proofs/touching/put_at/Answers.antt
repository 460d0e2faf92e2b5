use Rattle.growing_sets.proofs.GrowingLemmas.{absorbs_none, put_in_by}
use Rattle.growing_sets.proofs.touching.put_at.Goals as goal

pub returns : goal.returns
returns c =
    put_in_by c.requires.tidy
    (absorbs_none c.args.at c.args.part.now c.args.spans.now.items c.args.fresh.now.items c.push.new.self.items c.requires.tidy c.requires.within
    c.requires.front c.requires.rest c.in-Ok-push.ensures.items)
    c.in-Ok.ensures
