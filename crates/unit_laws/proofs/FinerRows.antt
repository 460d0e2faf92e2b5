-- A trace in smaller ticks is the trace by another clock; so the truth is the same.
use Rattle.std.proofs.Common.{◌≡◌, ℕ, ◌*◌, ◌^◌, ◌<◌, List, [], ◌∷◌, map, refl, sym, ap, ◌∙◌, subst, add-zero, pos, lit<}
use Rattle.std.specs.Prelude.{◌*ℤ◌}
use Rattle.std.proofs.Math.Nat.{one-le-pow}
use Rattle.rational.specs.Extended.{Extended, minus_infinity, finite, infinity}
use Rattle.rational.proofs.Order.{same_sym}
use Rattle.stl_syntax.specs.Trace.{Row, Trace, IsTrace}
use Rattle.stl_syntax.specs.Formula.{root}
use Rattle.stl_syntax.specs.Scaling.{scaled}
use Rattle.stl_syntax.specs.SupInf.{margin_setting}
use Rattle.stl_syntax.proofs.TruthLemmas.{Truth-same}
use Rattle.stl_syntax.proofs.TimeLaw.{SupInf-same}
use Rattle.unit_laws.specs.Units.{finer_row, finer, finer_value, TruthIsOfUnits, RobustnessIsOfUnits}
use Rattle.bounds.proofs.NearTimes.{ahead}
use Rattle.unit_laws.proofs.Recounts.{IsRecount}
use Rattle.unit_laws.proofs.FinerTrees.{finer_tree, root_finer}
use Rattle.unit_laws.proofs.FinerTraces.{row_by, counted_anew}
use Rattle.unit_laws.proofs.FinerTruth.{truth_by}
use Rattle.unit_laws.proofs.FinerValues.{stretchᵉ}
use Rattle.unit_laws.proofs.FinerMargins.{margins_by}
use Rattle.unit_laws.proofs.FinerTexts.{clock_zero}

-- a power of ten is more than nothing
pub some_power : (k : ℕ) → 0 < 10 ^ k
some_power k = one-le-pow k 10 (lit< tt)

-- the rows in smaller ticks are the rows by a clock that counts 10^k ticks for one
pub rows_finer : (k m : ℕ) (rows : List Row) → map (finer_row k m) rows ≡ map (row_by (10 ^ k) 0 (10 ^ m) (some_power k) (some_power m)) rows
rows_finer k m [] = refl
rows_finer k m (r ∷ rows) =
    ap (λ x. let row : Row = record { time = x; values = map (λ v. pos (10 ^ m) *ℤ v) r.values } in row ∷ map (finer_row k m) rows)
    (sym (add-zero (10 ^ k * r.time)))
    ∙ ap (λ rs. row_by (10 ^ k) 0 (10 ^ m) (some_power k) (some_power m) r ∷ rs) (rows_finer k m rows)

-- the trace in smaller ticks is the trace by a clock that counts 10^k ticks for one
pub finer_counts : (k m : ℕ) (tr : Trace) → IsTrace tr → IsRecount (10 ^ k) (ahead 0) (10 ^ m) tr (finer k m tr)
finer_counts k m tr ok =
    subst (λ rows. IsRecount (10 ^ k) (ahead 0) (10 ^ m) tr (record { header = (finer k m tr).header; rows = rows })) (sym (rows_finer k m tr.rows))
    (counted_anew (10 ^ k) 0 (10 ^ m) (some_power k) (some_power m) tr ok (finer k m tr).header.scale)

-- the truth is the same in smaller ticks
pub truth_is_of_units : TruthIsOfUnits
truth_is_of_units f tr k m t ok ft fv =
    let p = root (scaled f tr.header.scale).nodes in
    let q = finer_tree (10 ^ k) (10 ^ m) p in
    let s = truth_by (10 ^ k) (ahead 0) (10 ^ m) (some_power k) (some_power m) (finer_counts k m tr ok) p t in
    let e = clock_zero (10 ^ k) t in
    rw (root_finer f tr.header.scale k m ft fv) (
      λ h. Truth-same q (finer k m tr) (same_sym e) (s.0 h),
      λ h. s.1 (Truth-same q (finer k m tr) e h),
    )

value_finer : (m : ℕ) (v : Extended) → finer_value m v ≡ stretchᵉ (10 ^ m) v
value_finer m minus_infinity = refl
value_finer m (finite x) = refl
value_finer m infinity = refl

-- the robustness is as many times larger as values are
pub robustness_is_of_units : RobustnessIsOfUnits
robustness_is_of_units f tr k m t v ok ft fv =
    let p = root (scaled f tr.header.scale).nodes in
    let q = finer_tree (10 ^ k) (10 ^ m) p in
    let s = margins_by (10 ^ k) (ahead 0) (10 ^ m) (some_power k) (some_power m) (finer_counts k m tr ok) p t v in
    let e = clock_zero (10 ^ k) t in
    rw (root_finer f tr.header.scale k m ft fv, value_finer m v) (
      λ h. SupInf-same q (margin_setting (finer k m tr)) (stretchᵉ (10 ^ m) v) (same_sym e) (s.0 h),
      λ h. s.1 (SupInf-same q (margin_setting (finer k m tr)) (stretchᵉ (10 ^ m) v) e h),
    )
