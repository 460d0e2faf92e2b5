use Rattle.std.proofs.Common.{◌+◌, ◌++◌, ◌∷◌, take, sym, ap, ◌∙◌}
use Rattle.std.proofs.lemmas.Slice.Eq.{bytes_eq-Decides}
use Rattle.rational.proofs.Lists.{take_rest}
use Rattle.session_mux.proofs.TagLemmas.{rest_is}
use Rattle.session_mux.proofs.tag.Tag.rest_of_few.Goals as goal

pub returns-then-eq : goal.returns-then-eq
returns-then-eq c =
    let inside = c.self.inside in
    let piece = c.args.piece.now in
    let len = inside.len + 1 in
    rest_is c.args.self.now inside.bytes piece inside.len c.self.invariant.1 c.self.view_is
    ((bytes_eq-Decides (take len piece) (take len inside.bytes)).0 (sym c.eq.ensures ∙ c.if-eq.true))
    ∙ ap (λ w. c.args.self.now ++ 32 ∷ w) (sym (take_rest piece len))
