-- Each byte is a token of its own; the relations look at the byte after them.
use Rattle.std.proofs.Common.{refl}
use Rattle.stl_grammar.specs.Tokens.{open_paren, close_paren, open_bracket, close_bracket, comma}
use Rattle.stl_grammar.specs.Tokens.{star, plus, minus, at_least, at_most, above, below, paren}
use Rattle.stl_grammar.specs.Tokens.{paren_end, bracket, bracket_end, a_comma, a_star, a_plus, a_minus}
use Rattle.stl_grammar.specs.declared.token.Token.TheVariants.{OpenParen, CloseParen, OpenBracket, CloseBracket, Comma, Star, Plus, Minus}
use Rattle.stl_syntax.specs.declared.rel.Rel.TheVariants.{AtLeast, Above, AtMost, Below}
use Rattle.stl_grammar.proofs.LexerLemmas.{one_byte, a_relation}
use Rattle.stl_grammar.proofs.lexer.symbol_lexeme.Goals as goal

pub returns-in-62 : goal.returns-in-62
returns-in-62 c = λ text.
    a_relation text c.args.rest.now 62 Above AtLeast _ _ c.requires.some c.in-62.is (λ after. at_least) (λ after h. above h) c.relation.ensures

pub returns-in-60 : goal.returns-in-60
returns-in-60 c = λ text.
    a_relation text c.args.rest.now 60 Below AtMost _ _ c.requires.some c.in-60.is (λ after. at_most) (λ after h. below h) c.relation-in-60.ensures

pub returns-in-40 : goal.returns-in-40
returns-in-40 c = λ text. rw (c.lexeme.ensures.token, c.lexeme.ensures.len)
    (one_byte text c.args.rest.now 40 open_paren OpenParen c.requires.some c.in-40.is (λ after. paren) refl)

pub returns-in-41 : goal.returns-in-41
returns-in-41 c = λ text. rw (c.lexeme-in-41.ensures.token, c.lexeme-in-41.ensures.len)
    (one_byte text c.args.rest.now 41 close_paren CloseParen c.requires.some c.in-41.is (λ after. paren_end) refl)

pub returns-in-91 : goal.returns-in-91
returns-in-91 c = λ text. rw (c.lexeme-in-91.ensures.token, c.lexeme-in-91.ensures.len)
    (one_byte text c.args.rest.now 91 open_bracket OpenBracket c.requires.some c.in-91.is (λ after. bracket) refl)

pub returns-in-93 : goal.returns-in-93
returns-in-93 c = λ text. rw (c.lexeme-in-93.ensures.token, c.lexeme-in-93.ensures.len)
    (one_byte text c.args.rest.now 93 close_bracket CloseBracket c.requires.some c.in-93.is (λ after. bracket_end) refl)

pub returns-in-44 : goal.returns-in-44
returns-in-44 c = λ text. rw (c.lexeme-in-44.ensures.token, c.lexeme-in-44.ensures.len)
    (one_byte text c.args.rest.now 44 comma Comma c.requires.some c.in-44.is (λ after. a_comma) refl)

pub returns-in-42 : goal.returns-in-42
returns-in-42 c = λ text. rw (c.lexeme-in-42.ensures.token, c.lexeme-in-42.ensures.len)
    (one_byte text c.args.rest.now 42 star Star c.requires.some c.in-42.is (λ after. a_star) refl)

pub returns-in-43 : goal.returns-in-43
returns-in-43 c = λ text. rw (c.lexeme-in-43.ensures.token, c.lexeme-in-43.ensures.len)
    (one_byte text c.args.rest.now 43 plus Plus c.requires.some c.in-43.is (λ after. a_plus) refl)

pub returns-in-45 : goal.returns-in-45
returns-in-45 c = λ text. rw (c.lexeme-in-45.ensures.token, c.lexeme-in-45.ensures.len)
    (one_byte text c.args.rest.now 45 minus Minus c.requires.some c.in-45.is (λ after. a_minus) refl)
