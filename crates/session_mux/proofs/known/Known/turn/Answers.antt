use Rattle.std.proofs.Common.{length, refl, sym, subst, arith}
use Rattle.std.proofs.lemmas.Option.{slice_get_read}
use Rattle.session_mux.specs.Sessions.{IsTag}
use Rattle.session_mux.proofs.known.Known.turn.Goals as goal

pub returns-in-Some : goal.returns-in-Some
returns-in-Some c =
    let (f, seen, k) = c.requires in
    let items = c.args.self.now.sessions.items in
    let s = c.index.result.now in
    let at = slice_get_read items (length items) c.next_place-next.result s refl (omega arith) c.index.ensures in
    let h = c.in-Some.ensures in
    (h.0, subst (λ t. IsTag t) (sym h.1) (k.said c.next_place-next.result s at).0, (s, at, sym h.1))
