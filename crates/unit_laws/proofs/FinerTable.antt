-- What `table` writes in smaller ticks.
use Rattle.std.proofs.Common.{◌^◌, sym, subst}
use Rattle.stl_syntax.specs.Formula.{Subformula, root}
use Rattle.stl_syntax.specs.Knots.{Knots}
use Rattle.stl_syntax.specs.Verdicts.{DescribesMargins}
use Rattle.stl_syntax.specs.Scaling.{nodes_for}
use Rattle.report.specs.Table.{IsTableText}
use Rattle.unit_laws.specs.Units.{finer, TableIsOfUnits}
use Rattle.bounds.proofs.NearTimes.{ahead}
use Rattle.unit_laws.proofs.FinerTrees.{finer_tree, root_finer}
use Rattle.unit_laws.proofs.FinerRows.{some_power, finer_counts}
use Rattle.unit_laws.proofs.KnotsChange.{knots_by, describes_by}
use Rattle.unit_laws.proofs.FinerKnots.{to_clock, from_clock}
use Rattle.unit_laws.proofs.FinerTexts.{time_text_by, time_text_back, value_text_by, value_text_back}
use Rattle.unit_laws.proofs.ChangedTables.{table_by}

-- `table` in smaller ticks writes the same text
pub table_is_of_units : TableIsOfUnits
table_is_of_units f tr k m ok ft fv text = (forth, λ h. back (subst Writes (root_finer f tr.header.scale k m ft fv) h))
  where
    Writes : Subformula → Type 0
    Writes q = (knots : Knots) × DescribesMargins knots q (finer k m tr) × IsTableText (finer k m tr).header.scale knots text

    forth : ((knots : Knots) × DescribesMargins knots (root (nodes_for f tr)) tr × IsTableText tr.header.scale knots text)
        → Writes (root (nodes_for f (finer k m tr)))
    forth (knots, d, l) =
        let c = to_clock (10 ^ k) (ahead 0) (10 ^ m) (some_power k) (some_power m) (finer_counts k m tr ok) (root (nodes_for f tr)) in
        subst Writes (sym (root_finer f tr.header.scale k m ft fv)) (
          knots_by c knots,
          describes_by c knots d,
          table_by c tr.header.scale (finer k m tr).header.scale (λ t x h. time_text_by tr.header.scale.time k t x h)
              (λ v x h. value_text_by tr.header.scale.value m v x h) knots text l,
        )

    back : Writes (finer_tree (10 ^ k) (10 ^ m) (root (nodes_for f tr)))
        → (knots : Knots) × DescribesMargins knots (root (nodes_for f tr)) tr × IsTableText tr.header.scale knots text
    back (knots, d, l) =
        let c = from_clock (10 ^ k) (ahead 0) (10 ^ m) (some_power k) (some_power m) (finer_counts k m tr ok) (root (nodes_for f tr)) in (
          knots_by c knots,
          describes_by c knots d,
          table_by c (finer k m tr).header.scale tr.header.scale (λ t x h. time_text_back tr.header.scale.time k (some_power k) t x h)
              (λ v x h. value_text_back tr.header.scale.value m (some_power m) v x h) knots text l,
        )
