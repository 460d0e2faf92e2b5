-- A word of the grammar, or a name.
use Rattle.std.proofs.Common.{◌+◌}
use Rattle.rational.proofs.Lists.{take_rest}
use Rattle.stl_grammar.proofs.LexerLemmas.{keyword_lexeme, name_lexeme}
use Rattle.stl_grammar.proofs.lexer.word_lexeme.Goals as goal

pub returns-in-Some : goal.returns-in-Some
returns-in-Some c =
    keyword_lexeme c.args.text.now c.args.at c.word_len-len.result c.requires.place c.requires.first _ (take_rest c.args.text.now (c.args.at + 1))
    c.word_len-len.ensures.within c.word_len-len.ensures.front c.word_len-len.ensures.stops c.in-Some.word c.in-Some.ensures

pub returns-in-None : goal.returns-in-None
returns-in-None c =
    name_lexeme c.args.text.now c.args.at c.word_len-len.result c.requires.place c.requires.first _ (take_rest c.args.text.now (c.args.at + 1))
    c.word_len-len.ensures.within c.word_len-len.ensures.front c.word_len-len.ensures.stops c.in-None.ensures
