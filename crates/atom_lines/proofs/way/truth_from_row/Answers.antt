use Rattle.std.proofs.Common.{rules, ◌≡◌, ◌∙◌, suc, ap, sym, subst, pos, to_z, of_z, arith}
use Rattle.std.specs.Int.{w64}
use Rattle.std.proofs.lemmas.Int.{to_z-of_z}
use Rattle.rational.specs.Rational.{whole}
use Rattle.rational.specs.Line.{at}
use Rattle.stl_syntax.specs.Trace.{row_time}
use Rattle.stl_syntax.specs.Truth.{compares, holds_at}
use Rattle.atom_lines.specs.Gaps.{along}
use Rattle.atom_lines.specs.Pieces.{TellsGap}
use Rattle.atom_lines.specs.Rows.{row_of}
use Rattle.atom_lines.specs.Sums.{reach}
use Rattle.atom_lines.proofs.Signs.{compare_same}
use Rattle.atom_lines.proofs.SumLemmas.{atom_binding, expression_along, expression_at_row}
use Rattle.atom_lines.proofs.Readings.{gap_same}
use Rattle.atom_lines.proofs.way.truth_from_row.Goals as goal

pub returns-clause-piece : goal.returns-clause-piece
returns-clause-piece c = λ a tr for has.
    let b = c.args.bound.now in
    let block = c.args.trace.now in
    let k = c.atom-atom.result.now in
    let r = row_of block c.args.r in
    let s = row_of block c.args.next in
    let g = c.step_from-step.result.gap in
    let h = c.step_from-step.ensures in
    let e : suc c.args.r ≡ c.args.next = let n = c.requires.next in omega (arith, n) in
    let second : g.second ≡ s.time = h.second ∙ ap (λ m. (row_of block m).time) e in
    let to : g.to ≡ reach k r.values s.values = h.to ∙ ap (λ m. reach k r.values (row_of block m).values) e in
    let rel = (atom_binding b c.args.node k c.atom-atom.ensures.at a tr for).rel in
    let piece = subst (λ n. TellsGap (whole (pos n)) (whole (pos s.time)) (λ t. compares k.rel (at (along g) t)) c.truth_onward.result.0) h.first
    (subst (λ n. TellsGap (whole (pos g.first)) (whole (pos n)) (λ t. compares k.rel (at (along g) t)) c.truth_onward.result.0)
    second c.truth_onward.ensures.tells) in
    gap_same (row_time r) (row_time s) (λ t. compares k.rel (at (along g) t)) (holds_at a tr) c.truth_onward.result.0
    (λ t low high. compare_same a.rel (expression_along b c.args.node k c.atom-atom.ensures.at a tr for g r s t h.first second h.from to has low high)
    ∙ ap (λ q. compares q (at (along g) t)) (sym rel))
    piece

pub returns-clause-point : goal.returns-clause-point
returns-clause-point c = λ a tr t for has e.
    let b = c.args.bound.now in
    let block = c.args.trace.now in
    let k = c.atom-atom.result.now in
    let s = row_of block c.args.next in
    let i : suc c.args.r ≡ c.args.next = let n = c.requires.next in omega (arith, n) in
    let there = c.step_from-step.ensures.at_next ∙ ap (λ m. reach k (row_of block m).values (row_of block m).values) i in
    let sum : to_z w64 (of_z w64 c.step_from-step.result.next) ≡ reach k s.values s.values = search (rules, to_z-of_z, there) in
    let rel = (atom_binding b c.args.node k c.atom-atom.ensures.at a tr for).rel in
    compare_same a.rel (expression_at_row b c.args.node k c.atom-atom.ensures.at a tr for s t has e)
    ∙ ap (λ q. compares q (whole (reach k s.values s.values))) (sym rel)
    ∙ ap (λ n. compares k.rel (whole n)) (sym sum)
    ∙ sym c.truth_onward.ensures.point
