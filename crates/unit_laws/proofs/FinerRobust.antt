-- What `robust` writes in smaller ticks.
use Rattle.std.proofs.Common.{◌^◌, sym, subst}
use Rattle.stl_syntax.specs.Formula.{Subformula, root}
use Rattle.stl_syntax.specs.Knots.{Knots}
use Rattle.stl_syntax.specs.Scaling.{scaled}
use Rattle.stl_syntax.specs.Texts.{AreMarginLines}
use Rattle.stl_syntax.specs.Verdicts.{DescribesMargins}
use Rattle.unit_laws.specs.Units.{finer, RobustIsOfUnits}
use Rattle.bounds.proofs.NearTimes.{ahead}
use Rattle.unit_laws.proofs.FinerTrees.{finer_tree, root_finer}
use Rattle.unit_laws.proofs.FinerRows.{some_power, finer_counts}
use Rattle.unit_laws.proofs.KnotsChange.{knots_by, describes_by, margin_lines_by}
use Rattle.unit_laws.proofs.FinerKnots.{to_clock, from_clock}
use Rattle.unit_laws.proofs.FinerTexts.{time_text_by, time_text_back, value_text_by, value_text_back}

-- `robust` in smaller ticks writes the same text
pub robust_is_of_units : RobustIsOfUnits
robust_is_of_units f tr k m ok ft fv text = (forth, back)
  where
    Writes : Subformula → Type 0
    Writes q = (knots : Knots) × DescribesMargins knots q (finer k m tr) × AreMarginLines (finer k m tr).header.scale knots text

    forth : ((knots : Knots) × DescribesMargins knots (root (scaled f tr.header.scale).nodes) tr × AreMarginLines tr.header.scale knots text)
        → Writes (root (scaled f (finer k m tr).header.scale).nodes)
    forth (knots, d, l) =
        let c = to_clock (10 ^ k) (ahead 0) (10 ^ m) (some_power k) (some_power m) (finer_counts k m tr ok) (root (scaled f tr.header.scale).nodes) in
        subst Writes (sym (root_finer f tr.header.scale k m ft fv)) (
          knots_by c knots,
          describes_by c knots d,
          margin_lines_by c tr.header.scale (finer k m tr).header.scale (λ t x h. time_text_by tr.header.scale.time k t x h)
              (λ v x h. value_text_by tr.header.scale.value m v x h) knots text l,
        )

    back : Writes (root (scaled f (finer k m tr).header.scale).nodes)
        → (knots : Knots) × DescribesMargins knots (root (scaled f tr.header.scale).nodes) tr × AreMarginLines tr.header.scale knots text
    back h = from_same (subst Writes (root_finer f tr.header.scale k m ft fv) h)
      where
        from_same : Writes (finer_tree (10 ^ k) (10 ^ m) (root (scaled f tr.header.scale).nodes))
            → (knots : Knots) × DescribesMargins knots (root (scaled f tr.header.scale).nodes) tr × AreMarginLines tr.header.scale knots text
        from_same (knots, d, l) =
            let c = from_clock (10 ^ k) (ahead 0) (10 ^ m) (some_power k) (some_power m) (finer_counts k m tr ok) (root (scaled f tr.header.scale).nodes) in (
              knots_by c knots,
              describes_by c knots d,
              margin_lines_by c (finer k m tr).header.scale tr.header.scale (λ t x h. time_text_back tr.header.scale.time k (some_power k) t x h)
                  (λ v x h. value_text_back tr.header.scale.value m (some_power m) v x h) knots text l,
            )
