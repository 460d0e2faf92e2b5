use Rattle.promises.proofs.KeepingPace.{kept_pace}
use Rattle.promises.proofs.owing_laws.streams_keep_pace.Goals as goal

pub returns : goal.returns
returns c = λ words request i o e status ask streamed run some. kept_pace words request ask streamed i o some run.ended
