use Rattle.std.proofs.Common.{inl, inr, refl}
use Rattle.std.proofs.lemmas.Bool.{false≢true}
use Rattle.std.proofs.lemmas.Option.{IfSome_then}
use Rattle.rational.specs.Extended.{value_at}
use Rattle.frac128.specs.Value.{value}
use Rattle.rational.proofs.ExtendedLemmas.{le_transᵉ}
use Rattle.rational.proofs.Lists.{on_err_anyway}
use Rattle.courses.proofs.CourseLemmas.{begun_top, by_top, level_under, not_below, only_course, top_within, within_ends}
use Rattle.courses.proofs.course.sunk.Goals as goal

pub returns-in_err-level-clause-wide : goal.returns-in_err-level-clause-wide
returns-in_err-level-clause-wide g c =
    on_err_anyway c.from_residual.result
    (IfSome_then c.constant.new.fault c.in_err-level.ensures.wide (λ pair h. (
      c.args.top.now,
      begun_top g.P.Shape c.args.gap.now c.args.low.now c.args.top.now c.requires.start c.requires.below,
      h,
    )))

pub returns-in-Less-clause-ok : goal.returns-in-Less-clause-ok
returns-in-Less-clause-ok g c =
    let f = g.P.Shape.function in
    let gap = c.args.gap.now in
    let start = c.requires.start in
    let begun = begun_top g.P.Shape c.args.gap.now c.args.low.now c.args.top.now c.requires.start c.requires.below in
    let low = value_at (f c.args.low.now) (value gap.from) in
    let top = value_at (f c.args.top.now) (value gap.from) in
    let level = f c.in_ok-level.level in
    record {
      one = λ h. absurd (false≢true h);
      first = inl refl;
      second = inr (inr (c.args.top.now, begun, c.in_ok-level.ensures.ok.0, c.in_ok-level.ensures.ok.1));
      onward = λ t v a b chosen. by_top (value_at (f gap.before) (value gap.from)) (f gap.left) (f gap.right)
          (value gap.from) t v low top start.is_low start.is_top
          (value_at level t) (c.in_ok-level.ensures.ok.0 t) (c.requires.sinks (value gap.from) t a) chosen;
    }

pub returns-clause-ok : goal.returns-clause-ok
returns-clause-ok g c =
    let f = g.P.Shape.function in
    let gap = c.args.gap.now in
    let start = c.requires.start in
    let begun = begun_top g.P.Shape c.args.gap.now c.args.low.now c.args.top.now c.requires.start c.requires.below in
    let low = value_at (f c.args.low.now) (value gap.from) in
    let top = value_at (f c.args.top.now) (value gap.from) in
    let level = f c.in_ok-level.level in
    let same = c.in_ok-level.ensures.ok.0 in
    only_course g.P.Shape gap c.only.result c.in_ok-level.level c.only.ensures.side c.only.ensures.first c.only.ensures.second
    (inr (inr (c.args.top.now, begun, same, c.in_ok-level.ensures.ok.1)))
    (λ t v a b chosen. by_top (value_at (f gap.before) (value gap.from)) (f gap.left) (f gap.right)
    (value gap.from) t v low top start.is_low start.is_top (value_at level t) (same t) (c.requires.sinks (value gap.from) t a)
    (level_under (value_at (f gap.left) t) (value_at level t) v
    (within_ends (f gap.left) (value gap.from) t (value gap.to) (value_at level t) a b
    (le_transᵉ (value_at level t) top (value_at (f gap.left) (value gap.from)) (same t).at_most
    (top_within low (value_at (f gap.right) (value gap.from)) top (value_at (f gap.left) (value gap.from))
    start.is_top start.is_low.right c.requires.below.left))
    (le_transᵉ (value_at level t) top (value_at (f gap.left) (value gap.to)) (same t).at_most
    (le_transᵉ top (value_at level (value gap.to)) (value_at (f gap.left) (value gap.to)) (same (value gap.to)).at_least
    (not_below c.cmp_at.result (value_at (f gap.left) (value gap.to)) (value_at level (value gap.to)) c.cmp_at.ensures c.in_default.not-Less)))) chosen))
