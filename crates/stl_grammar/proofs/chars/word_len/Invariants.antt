use Rattle.std.proofs.Common.{◌≡◌, take, true}
use Rattle.stl_syntax.specs.Characters.{goes_on_word, all}
use Rattle.stl_grammar.proofs.chars.word_len.Given as goal

abbrev pub invariant-loop-i : goal.invariant-loop-i
invariant-loop-i l = all goes_on_word (take l.i l.text) ≡ true
