-- One more byte.
use Rattle.std.proofs.Common.{◌≡◌, take, get_or, true}
use Rattle.std.proofs.lemmas.List.{take_more}
use Rattle.stl_syntax.specs.Characters.{goes_on_word}
use Rattle.stl_syntax.proofs.CharacterLemmas.{all-push}
use Rattle.stl_grammar.proofs.chars.word_len.Goals as goal

pub loop-i-preserved : goal.loop-i-preserved
loop-i-preserved c =
    let text = c.args.text.now in
    let i = c.loop-i.i in
    let b = get_or text i 0 in
    let t = take_more text i 0 c.loop-i-test.true in
    let good : goes_on_word b ≡ true = cc (c.goes_on_word.ensures) in
    rw t (all-push goes_on_word (take i text) b c.loop-i.invariant good)
