use Rattle.session_mux.proofs.OneText.{text_alone_once}
use Rattle.session_laws.proofs.laws.one_text_alone.Goals as goal

pub returns : goal.returns
returns c = text_alone_once
