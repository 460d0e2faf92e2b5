use Rattle.std.proofs.Common.{◌+◌, ◌++◌, ◌∷◌, sym, ap, ◌∙◌}
use Rattle.rational.proofs.Lists.{take_rest}
use Rattle.session_mux.proofs.TagLemmas.{rest_is}
use Rattle.session_mux.proofs.tag.Tag.rest_of_long.Goals as goal

pub returns-then-begins_with : goal.returns-then-begins_with
returns-then-begins_with c =
    let inside = c.self.inside in
    rest_is c.args.self.now inside.bytes c.args.piece.now inside.len c.self.invariant.1 c.self.view_is (c.begins_with.ensures c.if-begins_with.true)
    ∙ ap (λ w. c.args.self.now ++ 32 ∷ w) (sym (take_rest c.args.piece.now (inside.len + 1)))
