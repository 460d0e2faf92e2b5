use Rattle.std.proofs.Common.{◌≤◌, ◌^◌, sym, subst, pos}
use Rattle.rational.specs.Rational.{whole, ◌≈◌}
use Rattle.rational.specs.Line.{at}
use Rattle.rational.specs.Extended.{finite, value_at, ◌≈ᵉ◌}
use Rattle.rational.proofs.Order.{same_sym, same_trans}
use Rattle.rational.proofs.AffineLemmas.{same_transᵉ, finite_same}
use Rattle.value_laws.specs.Margins.{margin_function}
use Rattle.stl_syntax.specs.Trace.{row_time}
use Rattle.stl_syntax.specs.Truth.{expression}
use Rattle.stl_syntax.specs.SupInf.{margin}
use Rattle.stl_syntax.proofs.TimeLaw.{margin_same}
use Rattle.atom_lines.specs.Gaps.{along}
use Rattle.atom_lines.specs.Signs.{signed}
use Rattle.atom_lines.proofs.Crossings.{at_first, at_second}
use Rattle.atom_lines.proofs.Margins.{margin_whole, signed_size}
use Rattle.atom_lines.proofs.SumLemmas.{atom_binding, expression_along}
use Rattle.rational.proofs.Mixed.{within_whole, within_same}
use Rattle.rational.proofs.AffineLemmas.{bounded_same}
use Rattle.atom_lines.proofs.points.margin_piece.Goals as goal

pub returns-clause-margin : goal.returns-clause-margin
returns-clause-margin c = λ a tr t for has low high.
    let b = c.args.bound.now in
    let k = c.atom-atom.result.now in
    let r = c.args.first.now in
    let s = c.args.second.now in
    let g = c.gap_of.result in
    let h = c.gap_of.ensures in
    let f = margin_function c.margin_between.result in
    let rel = (atom_binding b c.args.node k c.atom-atom.ensures.at a tr for).rel in
    let here : value_at f t ≈ᵉ finite (margin a.rel (at (along g) t)) =
    subst (λ q. value_at f t ≈ᵉ finite (margin q (at (along g) t))) rel (c.margin_between.ensures.worth t) in
    same_transᵉ (value_at f t) (finite (margin a.rel (at (along g) t))) (finite (margin a.rel (expression a tr t))) here
    (finite_same (margin_same a.rel
    (same_sym (expression_along b c.args.node k c.atom-atom.ensures.at a tr for g r s t h.first h.second h.from h.to has low high))))

pub returns-clause-from : goal.returns-clause-from
returns-clause-from c =
    let k = c.atom-atom.result.now in
    let r = c.args.first.now in
    let g = c.gap_of.result in
    let h = c.gap_of.ensures in
    let f = margin_function c.margin_between.result in
    let there : at (along g) (row_time r) ≈ whole g.from = subst (λ n. at (along g) (whole (pos n)) ≈ whole g.from) h.first (at_first g) in
    bounded_same (2 ^ 31) (value_at f (row_time r)) (finite (margin k.rel (at (along g) (row_time r)))) (c.margin_between.ensures.worth (row_time r))
    (within_same (2 ^ 31) (same_trans (margin_whole k.rel g.from) (margin_same k.rel (same_sym there)))
    (within_whole (2 ^ 31) (signed k.rel g.from) (subst (λ n. n ≤ 2 ^ 31) (sym (signed_size k.rel g.from)) g.small_from)))

pub returns-clause-to : goal.returns-clause-to
returns-clause-to c =
    let k = c.atom-atom.result.now in
    let s = c.args.second.now in
    let g = c.gap_of.result in
    let h = c.gap_of.ensures in
    let f = margin_function c.margin_between.result in
    let there : at (along g) (row_time s) ≈ whole g.to = subst (λ n. at (along g) (whole (pos n)) ≈ whole g.to) h.second (at_second g) in
    bounded_same (2 ^ 31) (value_at f (row_time s)) (finite (margin k.rel (at (along g) (row_time s)))) (c.margin_between.ensures.worth (row_time s))
    (within_same (2 ^ 31) (same_trans (margin_whole k.rel g.to) (margin_same k.rel (same_sym there)))
    (within_whole (2 ^ 31) (signed k.rel g.to) (subst (λ n. n ≤ 2 ^ 31) (sym (signed_size k.rel g.to)) g.small_to)))
