use Rattle.trace_stream.proofs.OwedRows.{stream_owed_grows}
use Rattle.session_laws.proofs.OwedLines.{lines_owed_grow}
use Rattle.promises.proofs.owing_laws.what_is_owed_only_grows.Goals as goal

pub returns : goal.returns
returns c = record {
  rows = λ s f bytes more text all ended a b. stream_owed_grows s f bytes more ended text all a b;
  lines = λ f bytes more text all ended a b. lines_owed_grow f bytes more ended text all a b;
}
