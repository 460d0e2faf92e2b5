use Rattle.std.proofs.Common.{◌≡◌, ◌≤◌, ◌*◌, ◌^◌, ◌+ℤ◌, nat_abs, drop}
use Rattle.atom_lines.specs.Sums.{sum_over}
use Rattle.atom_lines.proofs.sum.reaches_of.Given as goal

-- each sum so far, with the terms that are left, is the whole sum
abbrev pub invariant-loop-term : goal.invariant-loop-term
invariant-loop-term g l = record {
  to : (l.to +ℤ sum_over (drop l.term-index l.atom.terms.items) (g.C.Cells.values l.first) (g.C.Cells.values l.second))
      ≡ sum_over l.atom.terms.items (g.C.Cells.values l.first) (g.C.Cells.values l.second);
  next : (l.next +ℤ sum_over (drop l.term-index l.atom.terms.items) (g.C.Cells.values l.second) (g.C.Cells.values l.second))
      ≡ sum_over l.atom.terms.items (g.C.Cells.values l.second) (g.C.Cells.values l.second);
  small_to : nat_abs l.to ≤ l.term-index * 2 ^ 28;
  small_next : nat_abs l.next ≤ l.term-index * 2 ^ 28;
}
