-- A name is of ASCII bytes.
use Rattle.std.proofs.lemmas.Str.{IsUtf8-from_ascii}
use Rattle.stl_grammar.proofs.LexerLemmas.{name_ascii}
use Rattle.stl_grammar.proofs.parser.make_term.Goals as goal

pub unreachable-requires : goal.unreachable-requires
unreachable-requires c = c.in-Err.ensures.cases.0 (IsUtf8-from_ascii _ (name_ascii _ c.requires.name))
