use Rattle.std.proofs.Common.{length, refl, arith}
use Rattle.std.proofs.lemmas.Option.{slice_get_read}
use Rattle.session_mux.proofs.known.Known.is_at.Goals as goal

pub returns : goal.returns
returns c = λ yes.
    let items = c.args.self.now.sessions.items in
    let s = c.index.result.now in
    (s, slice_get_read items (length items) c.args.place s refl (omega arith) c.index.ensures, c.has_tag.ensures yes)
