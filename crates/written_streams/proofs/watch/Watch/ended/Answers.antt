use Rattle.written_streams.proofs.WatchCalls.{all_done}
use Rattle.written_streams.proofs.watch.Watch.ended.Goals as goal

pub returns : goal.returns
returns c = all_done c.args.live
