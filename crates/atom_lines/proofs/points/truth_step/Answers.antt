use Rattle.std.proofs.Common.{rules, ◌≡◌, ◌∙◌, ap, sym, subst, pos, to_z, of_z}
use Rattle.std.specs.Int.{w64}
use Rattle.std.proofs.lemmas.Int.{to_z-of_z}
use Rattle.rational.specs.Rational.{whole}
use Rattle.rational.specs.Line.{at}
use Rattle.stl_syntax.specs.Trace.{row_time}
use Rattle.stl_syntax.specs.Truth.{compares, holds_at}
use Rattle.atom_lines.specs.Gaps.{along}
use Rattle.atom_lines.specs.Pieces.{TellsGap}
use Rattle.atom_lines.specs.Sums.{reach}
use Rattle.atom_lines.proofs.Signs.{compare_same}
use Rattle.atom_lines.proofs.SumLemmas.{atom_binding, expression_along, expression_at_row}
use Rattle.atom_lines.proofs.Readings.{gap_same}
use Rattle.atom_lines.proofs.points.truth_step.Goals as goal

pub returns-clause-piece : goal.returns-clause-piece
returns-clause-piece c = λ a tr for has.
    let b = c.args.bound.now in
    let k = c.atom-atom.result.now in
    let r = c.args.first.now in
    let s = c.args.second.now in
    let g = c.gap_on-next.result.0 in
    let h = c.gap_on-next.ensures in
    let first : g.first ≡ r.time = h.first ∙ c.time.ensures in
    let second : g.second ≡ s.time = h.second ∙ c.time-2.ensures in
    let rel = (atom_binding b c.args.node k c.atom-atom.ensures.at a tr for).rel in
    let piece = subst (λ n. TellsGap (whole (pos n)) (whole (pos s.time)) (λ t. compares k.rel (at (along g) t)) c.truth_onward.result.0) first
    (subst (λ n. TellsGap (whole (pos g.first)) (whole (pos n)) (λ t. compares k.rel (at (along g) t)) c.truth_onward.result.0)
    second c.truth_onward.ensures.tells) in
    gap_same (row_time r) (row_time s) (λ t. compares k.rel (at (along g) t)) (holds_at a tr) c.truth_onward.result.0
    (λ t low high. compare_same a.rel (expression_along b c.args.node k c.atom-atom.ensures.at a tr for g r s t first second h.from h.to has low high)
    ∙ ap (λ q. compares q (at (along g) t)) (sym rel))
    piece

pub returns-clause-point : goal.returns-clause-point
returns-clause-point c = λ a tr t for has e.
    let b = c.args.bound.now in
    let k = c.atom-atom.result.now in
    let r = c.args.second.now in
    let sum : to_z w64 (of_z w64 c.gap_on-next.result.1) ≡ reach k r.values r.values = search (rules, to_z-of_z, c.gap_on-next.ensures.next) in
    let rel = (atom_binding b c.args.node k c.atom-atom.ensures.at a tr for).rel in
    compare_same a.rel (expression_at_row b c.args.node k c.atom-atom.ensures.at a tr for r t has e)
    ∙ ap (λ q. compares q (whole (reach k r.values r.values))) (sym rel)
    ∙ ap (λ n. compares k.rel (whole n)) (sym sum)
    ∙ sym c.truth_onward.ensures.point
