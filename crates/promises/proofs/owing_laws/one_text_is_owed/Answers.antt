use Rattle.trace_stream.proofs.OwedRows.{stream_owed_once}
use Rattle.session_laws.proofs.OwedLines.{lines_owed_once}
use Rattle.promises.proofs.OwedLaws.{check_owed_once, robust_owed_once, explain_owed_once, json_owed_once, table_owed_once}
use Rattle.promises.proofs.owing_laws.one_text_is_owed.Goals as goal

pub returns : goal.returns
returns c = record {
  rows = λ s f bytes text other ended a b. stream_owed_once s f bytes ended text other a b;
  lines = λ f bytes text other ended a b. lines_owed_once f bytes ended text other a b;
  check = λ f bytes text other ended a b. check_owed_once f bytes ended text other a b;
  robust = λ f bytes text other ended a b. robust_owed_once f bytes ended text other a b;
  explain = λ f bytes text other ended a b. explain_owed_once f bytes ended text other a b;
  json = λ f bytes text other ended a b. json_owed_once f bytes ended text other a b;
  table = λ f bytes text other ended a b. table_owed_once f bytes ended text other a b;
}
