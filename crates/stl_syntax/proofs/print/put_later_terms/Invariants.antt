use Rattle.std.proofs.Common.{◌≡◌, ◌++◌, drop}
use Rattle.stl_syntax.specs.Printing.{later_terms}
use Rattle.stl_syntax.proofs.print.put_later_terms.Given as goal

abbrev pub invariant-loop-i : goal.invariant-loop-i
invariant-loop-i l = l.text ++ later_terms (drop l.i l.atom.terms) ≡ l.initial.text ++ later_terms (drop 1 l.atom.terms)
