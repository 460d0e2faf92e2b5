use Rattle.std.proofs.Common.{◌≡◌, ℕ, List, ◌++◌, codes, append_assoc, sym, ap, ◌∙◌}
use Rattle.rational.proofs.Lists.{on_err_anyway}
use Rattle.stl_syntax.specs.Texts.{newline}
use Rattle.session_mux.proofs.saying.put_said.Goals as goal

pub returns-in_err-make_room-clause-err : goal.returns-in_err-make_room-clause-err
returns-in_err-make_room-clause-err c =
    let out = c.args.out.now in
    let line = (c.args.tag.now ++ codes " ") ++ c.args.line.now ++ newline in
    let all : (rest : List ℕ) × (c.make_room.new.out ++ rest ≡ (out ++ c.args.waiting.now) ++ line) = (
      c.args.waiting.now ++ line,
      ap (λ w. w ++ (c.args.waiting.now ++ line)) c.in_err-make_room.ensures.err.0 ∙ sym (append_assoc out c.args.waiting.now line),
    ) in
    on_err_anyway _ all

pub returns-clause-ok : goal.returns-clause-ok
returns-clause-ok c =
    let line = (c.args.tag.now ++ codes " ") ++ c.args.line.now ++ newline in
    let out = c.make_room.new.out in
    ap (λ w. out ++ w) c.put.ensures ∙ sym (append_assoc out c.make_room.new.self line) ∙ ap (λ w. w ++ line) c.in_ok-make_room.ensures.joined
