use Rattle.promises.proofs.EndsOnce.{answered_once, late_once}
use Rattle.promises.proofs.owing_laws.the_end_is_asked_for_once.Goals as goal

pub returns : goal.returns
returns c = record {
  answered = λ words request i o e status ask has run small. answered_once words request ask has i o small run.ended;
  whole = λ words c f i o e status ask run late. late_once words c f ask i o late run.ended;
}
