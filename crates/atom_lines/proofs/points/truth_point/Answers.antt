use Rattle.std.proofs.Common.{rules, ◌≡◌, ◌∙◌, ap, sym, to_z, of_z}
use Rattle.std.specs.Int.{w64}
use Rattle.std.proofs.lemmas.Int.{to_z-of_z}
use Rattle.rational.specs.Rational.{whole}
use Rattle.stl_syntax.specs.Truth.{compares}
use Rattle.atom_lines.specs.Sums.{reach}
use Rattle.atom_lines.proofs.Signs.{compare_same}
use Rattle.atom_lines.proofs.SumLemmas.{atom_binding, expression_at_row}
use Rattle.atom_lines.proofs.points.truth_point.Goals as goal

pub returns : goal.returns
returns c = λ a tr t for has e.
    let b = c.args.bound.now in
    let k = c.atom-atom.result.now in
    let r = c.args.row.now in
    let sum : to_z w64 (of_z w64 c.reach_of.result) ≡ reach k r.values r.values = search (rules, to_z-of_z) in
    let rel = (atom_binding b c.args.node k c.atom-atom.ensures.at a tr for).rel in
    compare_same a.rel (expression_at_row b c.args.node k c.atom-atom.ensures.at a tr for r t has e)
    ∙ ap (λ q. compares q (whole (reach k r.values r.values))) (sym rel)
    ∙ ap (λ n. compares k.rel (whole n)) (sym sum)
    ∙ sym c.truth_at.ensures
