use Rattle.std.proofs.Common.{sym, subst}
use Rattle.session_mux.specs.Muxes.{Muxed, StandsFor}
use Rattle.session_mux.proofs.mux.Mux.turn.Goals as goal

pub turn-requires : goal.turn-requires
turn-requires c =
    let (p, stands) = c.requires in
    let s = subst (λ (m : Muxed). StandsFor p m) (sym c.self.view_is) stands in
    (p.formula, p.seen, s.knows)
