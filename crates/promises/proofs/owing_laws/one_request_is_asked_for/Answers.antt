use Rattle.promises.proofs.OneRequest.{one_request}
use Rattle.promises.proofs.owing_laws.one_request_is_asked_for.Goals as goal

pub returns : goal.returns
returns c = one_request
