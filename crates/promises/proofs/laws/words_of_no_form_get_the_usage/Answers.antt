use Rattle.promises.proofs.NoForm.{two_is_none, none_is_two}
use Rattle.promises.proofs.CheckPromises.{all_held}
use Rattle.promises.proofs.laws.words_of_no_form_get_the_usage.Goals as goal

pub returns : goal.returns
returns c = record {
  words = λ words i o e status r two. two_is_none i o r.ended two;
  words_due = λ words i o e status r none. none_is_two i o none r.ended;
  held = all_held;
}
