-- One more byte.
use Rattle.std.proofs.Common.{◌≡◌, take, get_or, true}
use Rattle.std.proofs.lemmas.List.{take_more}
use Rattle.stl_syntax.proofs.CharacterLemmas.{all-push}
use Rattle.session_mux.specs.Sessions.{is_tag_byte}
use Rattle.session_mux.proofs.tag.tag_len.Goals as goal

pub loop-i-preserved : goal.loop-i-preserved
loop-i-preserved c =
    let text = c.args.line.now in
    let i = c.loop-i.i in
    let b = get_or text i 0 in
    let t = take_more text i 0 c.loop-i-test.true in
    let good : is_tag_byte b ≡ true = cc (c.is_tag_byte.ensures) in
    rw t (all-push is_tag_byte (take i text) b c.loop-i.invariant good)
