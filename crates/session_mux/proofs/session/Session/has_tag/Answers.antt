use Rattle.std.proofs.Common.{sym, ◌∙◌}
use Rattle.std.proofs.lemmas.Slice.Eq.{bytes_eq-Decides}
use Rattle.session_mux.proofs.session.Session.has_tag.Goals as goal

pub returns : goal.returns
returns c = λ yes. sym c.bytes.ensures ∙ (bytes_eq-Decides c.bytes.result.now c.args.tag.now).0 (sym c.eq.ensures ∙ yes)
