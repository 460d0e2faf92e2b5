use Rattle.std.proofs.Common.{inl, inr, refl}
use Rattle.std.proofs.lemmas.Bool.{false≢true}
use Rattle.std.proofs.lemmas.Option.{IfSome_then}
use Rattle.rational.specs.Extended.{value_at}
use Rattle.frac128.specs.Value.{value}
use Rattle.rational.proofs.ExtendedLemmas.{le_transᵉ}
use Rattle.rational.proofs.ExtendedLemmas.{le_of_ltᵉ}
use Rattle.rational.proofs.Lists.{on_err_anyway}
use Rattle.courses.proofs.CourseLemmas.{begun_low, not_above, not_below, below_on, by_low_over, by_low_under, level_over, only_course, within_ends}
use Rattle.courses.proofs.course.raised.Goals as goal

pub returns-in_err-level-clause-wide : goal.returns-in_err-level-clause-wide
returns-in_err-level-clause-wide g c =
    on_err_anyway c.from_residual.result
    (IfSome_then c.constant.new.fault c.in_err-level.ensures.wide (λ pair h. (
      c.args.low.now,
      begun_low g.P.Shape c.args.gap.now c.args.low.now c.args.top.now c.requires.start c.requires.higher,
      h,
    )))

pub returns-in-Greater-clause-ok : goal.returns-in-Greater-clause-ok
returns-in-Greater-clause-ok g c =
    let f = g.P.Shape.function in
    let gap = c.args.gap.now in
    let start = c.requires.start in
    let begun = begun_low g.P.Shape c.args.gap.now c.args.low.now c.args.top.now c.requires.start c.requires.higher in
    let low = value_at (f c.args.low.now) (value gap.from) in
    let top = value_at (f c.args.top.now) (value gap.from) in
    let level = f c.in_ok-level.level in
    record {
      one = λ h. absurd (false≢true h);
      first = inl refl;
      second = inr (inr (c.args.low.now, begun, c.in_ok-level.ensures.ok.0, c.in_ok-level.ensures.ok.1));
      onward = λ t v a b chosen. by_low_under (value_at (f gap.before) (value gap.from)) (f gap.left) (f gap.right)
          (value gap.from) t v low top start.is_low start.is_top
          (c.requires.climbs (value gap.from) t a)
          (below_on (f gap.right) (f gap.left) (value gap.from) t (value gap.to) c.requires.below a b) (value_at level t)
          (c.in_ok-level.ensures.ok.0 t) c.requires.higher
          (le_transᵉ (value_at (f gap.right) t) (value_at (f gap.right) (value gap.to)) (value_at level t) (c.requires.climbs t (value gap.to) b)
          (le_transᵉ (value_at (f gap.right) (value gap.to)) (value_at (f gap.left) (value gap.to)) (value_at level t) c.requires.below.right
          (le_transᵉ (value_at (f gap.left) (value gap.to)) (value_at level (value gap.to)) (value_at level t)
          (le_of_ltᵉ (value_at (f gap.left) (value gap.to)) (value_at level (value gap.to)) c.in-Greater.ensures)
          (le_transᵉ (value_at level (value gap.to)) low (value_at level t) (c.in_ok-level.ensures.ok.0 (value gap.to)).at_most
          (c.in_ok-level.ensures.ok.0 t).at_least)))) chosen;
    }

pub returns-in-Less-clause-ok : goal.returns-in-Less-clause-ok
returns-in-Less-clause-ok g c =
    let f = g.P.Shape.function in
    let gap = c.args.gap.now in
    let start = c.requires.start in
    let begun = begun_low g.P.Shape c.args.gap.now c.args.low.now c.args.top.now c.requires.start c.requires.higher in
    let low = value_at (f c.args.low.now) (value gap.from) in
    let top = value_at (f c.args.top.now) (value gap.from) in
    let level = f c.in_ok-level.level in
    record {
      one = λ h. absurd (false≢true h);
      first = inr (inr (c.args.low.now, begun, c.in_ok-level.ensures.ok.0, c.in_ok-level.ensures.ok.1));
      second = inr (inl refl);
      onward = λ t v a b chosen. by_low_over (value_at (f gap.before) (value gap.from)) (f gap.left) (f gap.right)
          (value gap.from) t v low top start.is_low start.is_top
          (c.requires.climbs (value gap.from) t a)
          (below_on (f gap.right) (f gap.left) (value gap.from) t (value gap.to) c.requires.below a b) (value_at level t)
          (c.in_ok-level.ensures.ok.0 t) c.requires.higher
          (within_ends (f gap.left) (value gap.from) t (value gap.to) (value_at level t) a b
          (le_transᵉ (value_at level t) low (value_at (f gap.left) (value gap.from)) (c.in_ok-level.ensures.ok.0 t).at_most start.is_low.right)
          (le_transᵉ (value_at level t) low (value_at (f gap.left) (value gap.to)) (c.in_ok-level.ensures.ok.0 t).at_most
          (le_transᵉ low (value_at level (value gap.to)) (value_at (f gap.left) (value gap.to)) (c.in_ok-level.ensures.ok.0 (value gap.to)).at_least
          (not_above c.cmp_at.result (value_at level (value gap.to)) (value_at (f gap.left) (value gap.to)) c.cmp_at.ensures
          c.in_default.not-Greater)))) chosen;
    }

pub returns-clause-ok : goal.returns-clause-ok
returns-clause-ok g c =
    let f = g.P.Shape.function in
    let gap = c.args.gap.now in
    let start = c.requires.start in
    let begun = begun_low g.P.Shape c.args.gap.now c.args.low.now c.args.top.now c.requires.start c.requires.higher in
    let low = value_at (f c.args.low.now) (value gap.from) in
    let top = value_at (f c.args.top.now) (value gap.from) in
    let level = f c.in_ok-level.level in
    let same = c.in_ok-level.ensures.ok.0 in
    only_course g.P.Shape gap c.only.result c.in_ok-level.level c.only.ensures.side c.only.ensures.first c.only.ensures.second
    (inr (inr (c.args.low.now, begun, same, c.in_ok-level.ensures.ok.1)))
    (λ t v a b chosen. by_low_over (value_at (f gap.before) (value gap.from)) (f gap.left) (f gap.right)
    (value gap.from) t v low top start.is_low start.is_top
    (c.requires.climbs (value gap.from) t a)
    (below_on (f gap.right) (f gap.left) (value gap.from) t (value gap.to) c.requires.below a b) (value_at level t) (same t) c.requires.higher
    (within_ends (f gap.left) (value gap.from) t (value gap.to) (value_at level t) a b
    (le_transᵉ (value_at level t) low (value_at (f gap.left) (value gap.from)) (same t).at_most start.is_low.right)
    (le_transᵉ (value_at level t) low (value_at (f gap.left) (value gap.to)) (same t).at_most
    (le_transᵉ low (value_at level (value gap.to)) (value_at (f gap.left) (value gap.to)) (same (value gap.to)).at_least
    (not_above c.cmp_at.result (value_at level (value gap.to)) (value_at (f gap.left) (value gap.to)) c.cmp_at.ensures c.in_default.not-Greater))))
    (level_over (value_at level t) (value_at (f gap.right) t) v
    (le_transᵉ (value_at (f gap.right) t) (value_at (f gap.right) (value gap.to)) (value_at level t) (c.requires.climbs t (value gap.to) b)
    (le_transᵉ (value_at (f gap.right) (value gap.to)) (value_at level (value gap.to)) (value_at level t)
    (not_below c.cmp_at-2.result (value_at level (value gap.to)) (value_at (f gap.right) (value gap.to)) c.cmp_at-2.ensures c.in_default-cmp_at.not-Less)
    (le_transᵉ (value_at level (value gap.to)) low (value_at level t) (same (value gap.to)).at_most (same t).at_least))) chosen))
