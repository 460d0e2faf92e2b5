use Rattle.std.proofs.Common.{◌≡◌, ◌≤◌, ◌*◌, ◌^◌, ◌+ℤ◌, nat_abs, drop}
use Rattle.atom_lines.specs.Sums.{sum_over}
use Rattle.atom_lines.proofs.sum.reach_of.Given as goal

-- the sum so far, with the terms that are left, is the whole sum
abbrev pub invariant-loop-term : goal.invariant-loop-term
invariant-loop-term g l = record {
  sum : (l.sum +ℤ sum_over (drop l.term-index l.atom.terms.items) (g.C.Cells.values l.first) (g.C.Cells.values l.second))
      ≡ sum_over l.atom.terms.items (g.C.Cells.values l.first) (g.C.Cells.values l.second);
  small : nat_abs l.sum ≤ l.term-index * 2 ^ 28;
}
