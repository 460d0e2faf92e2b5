use Rattle.growing_sets.proofs.EndingLemmas.{put_behind}
use Rattle.growing_sets.proofs.ending.put_last.Goals as goal

pub returns : goal.returns
returns c = put_behind c.requires.tidy c.requires.behind c.in-Ok.ensures c.in-Ok-push.ensures.items
