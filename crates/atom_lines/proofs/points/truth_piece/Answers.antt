use Rattle.std.proofs.Common.{◌∙◌, ap, sym, subst, pos}
use Rattle.rational.specs.Rational.{whole}
use Rattle.rational.specs.Line.{at}
use Rattle.stl_syntax.specs.Trace.{row_time}
use Rattle.stl_syntax.specs.Truth.{compares, holds_at}
use Rattle.atom_lines.specs.Gaps.{along}
use Rattle.atom_lines.specs.Pieces.{TellsGap}
use Rattle.atom_lines.proofs.Signs.{compare_same}
use Rattle.atom_lines.proofs.SumLemmas.{atom_binding, expression_along}
use Rattle.atom_lines.proofs.Readings.{gap_same}
use Rattle.atom_lines.proofs.points.truth_piece.Goals as goal

pub returns : goal.returns
returns c = λ a tr for has.
    let b = c.args.bound.now in
    let k = c.atom-atom.result.now in
    let r = c.args.first.now in
    let s = c.args.second.now in
    let g = c.gap_of.result in
    let h = c.gap_of.ensures in
    let rel = (atom_binding b c.args.node k c.atom-atom.ensures.at a tr for).rel in
    let piece = subst (λ n. TellsGap (whole (pos n)) (whole (pos s.time)) (λ t. compares k.rel (at (along g) t)) c.truth_between.result) h.first
    (subst (λ n. TellsGap (whole (pos g.first)) (whole (pos n)) (λ t. compares k.rel (at (along g) t)) c.truth_between.result)
    h.second c.truth_between.ensures) in
    gap_same (row_time r) (row_time s) (λ t. compares k.rel (at (along g) t)) (holds_at a tr) c.truth_between.result
    (λ t low high. compare_same a.rel (expression_along b c.args.node k c.atom-atom.ensures.at a tr for g r s t h.first h.second h.from h.to has low high)
    ∙ ap (λ q. compares q (at (along g) t)) (sym rel))
    piece
