use Rattle.std.proofs.Common.{arith}
use Rattle.early_verdict.proofs.LettingLemmas.{inside_asked, tidy_asked}
use Rattle.early_verdict.proofs.letting.ask_both.Goals as goal

pub ask_from-requires-2-clause-within : goal.ask_from-requires-2-clause-within
ask_from-requires-2-clause-within c = let a = c.ask_from.ensures.count in let b = c.requires.right in omega (arith, a, b)

pub ask_from-requires-2-clause-tidy : goal.ask_from-requires-2-clause-tidy
ask_from-requires-2-clause-tidy c = tidy_asked c.ask_from.ensures c.requires.tidy

pub ask_from-requires-2-clause-inside : goal.ask_from-requires-2-clause-inside
ask_from-requires-2-clause-inside c =
    inside_asked c.ask_from.ensures c.requires.inside

pub returns : goal.returns
returns c = (c.ask_from.new.shown, c.ask_from.ensures, c.ask_from-2.ensures)
