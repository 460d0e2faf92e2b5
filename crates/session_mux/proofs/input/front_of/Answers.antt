use Rattle.std.proofs.Common.{take, length-take-le, sym, ap}
use Rattle.session_mux.proofs.input.front_of.Goals as goal

pub returns-in-Some : goal.returns-in-Some
returns-in-Some c =
    let h = c.in-Some.ensures in
    (h.1, ap (λ n. take n c.args.piece.now) (sym (length-take-le c.in-Some.turn.len c.args.piece.now h.0)), h.2)
