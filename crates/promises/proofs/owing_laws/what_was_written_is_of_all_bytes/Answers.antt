use Rattle.promises.proofs.OwedLaws.{begun_of_all, begun_of_lines}
use Rattle.promises.proofs.owing_laws.what_was_written_is_of_all_bytes.Goals as goal

pub returns : goal.returns
returns c = record {
  rows = λ s f bytes text rest all ended a b. begun_of_all s f bytes ended text rest all a b;
  lines = λ f bytes text rest all ended a b. begun_of_lines f bytes ended text rest all a b;
}
