-- What `explain` writes in smaller ticks.
use Rattle.std.proofs.Common.{◌≡◌, ℕ, ◌+◌, ◌^◌, ◌<◌, ◌≤◌, List, [], ◌∷◌, map, refl, sym, ap, subst, inl, inr}
use Rattle.rational.specs.Time.{BeginAlike, EndAlike, Touch}
use Rattle.rational.proofs.Order.{same_sym, same_trans}
use Rattle.frac128.specs.Spans.{interval}
use Rattle.frac128.specs.declared.span.Span.{Span}
use Rattle.stl_syntax.specs.Trace.{Trace, IsTrace, start}
use Rattle.stl_syntax.specs.Formula.{Formula, root}
use Rattle.stl_syntax.specs.Truth.{Truth}
use Rattle.stl_syntax.specs.Kept.{Kept}
use Rattle.stl_syntax.specs.declared.scale.Scale.{Scale}
use Rattle.stl_syntax.specs.declared.items.Item.{Item}
use Rattle.stl_syntax.proofs.TruthLemmas.{Truth-same}
use Rattle.stl_syntax.specs.Scaling.{nodes_for}
use Rattle.report.specs.Report.{AreJoined, IsItemLines, AreItemLines, IsExplained, explain}
use Rattle.unit_laws.specs.Units.{finer, KeepsItsText}
use Rattle.bounds.proofs.NearTimes.{Move, ahead}
use Rattle.unit_laws.proofs.Clocks.{clock_same, same_of_clock}
use Rattle.unit_laws.proofs.FinerTrees.{finer_tree, root_finer, nodes_finer}
use Rattle.unit_laws.proofs.FinerTruth.{truth_by}
use Rattle.unit_laws.proofs.FinerRows.{some_power, finer_counts}
use Rattle.unit_laws.proofs.FinerVerdicts.{frac_same, span_by, span_text, start_line_by}
use Rattle.unit_laws.proofs.FinerItems.{item_by, kept_by}

-- ---- neighbours join by any clock alike

module _ (K : ℕ) (o : Move) (kp : 0 < K) where
  begins_by : (a b : Span) → BeginAlike (interval a) (interval b) → BeginAlike (interval (span_by K o kp a)) (interval (span_by K o kp b))
  begins_by a b h = record {
    time = same_trans (frac_same K o kp a.from) (same_trans (clock_same K o h.time) (same_sym (frac_same K o kp b.from)));
    inside = h.inside;
  }

  ends_by : (a b : Span) → EndAlike (interval a) (interval b) → EndAlike (interval (span_by K o kp a)) (interval (span_by K o kp b))
  ends_by a b h = record {
    time = same_trans (frac_same K o kp a.to) (same_trans (clock_same K o h.time) (same_sym (frac_same K o kp b.to)));
    inside = h.inside;
  }

  touch_by : (a b : Span) → Touch (interval a) (interval b) → Touch (interval (span_by K o kp a)) (interval (span_by K o kp b))
  touch_by a b h = record {
    time = same_trans (frac_same K o kp b.from) (same_trans (clock_same K o h.time) (same_sym (frac_same K o kp a.to)));
    once = h.once;
  }

  touch_back : (a b : Span) → Touch (interval (span_by K o kp a)) (interval (span_by K o kp b)) → Touch (interval a) (interval b)
  touch_back a b h = record {
    time = same_of_clock K o kp (same_trans (same_sym (frac_same K o kp b.from)) (same_trans h.time (frac_same K o kp a.to)));
    once = h.once;
  }

  joined_by : (line last : Item) (items lines : List Item) → AreJoined line last items lines
      → AreJoined (item_by K o kp line) (item_by K o kp last) (map (item_by K o kp) items) (map (item_by K o kp) lines)
  joined_by line last [] lines h = ap (map (item_by K o kp)) h
  joined_by line last (e ∷ items) lines (inl ((node, holds, touch), (longer, same_node, same_holds, begins, ends, rest))) =
      inl (
        (node, holds, touch_by last.on e.on touch),
        (
          item_by K o kp longer,
          same_node,
          same_holds,
          begins_by longer.on line.on begins,
          ends_by longer.on e.on ends,
          joined_by longer e items lines rest,
        ),
      )
  joined_by line last (e ∷ items) lines (inr (apart, (others, is, rest))) =
      inr (
        λ h. apart (h.0, h.1, touch_back last.on e.on h.2),
        (map (item_by K o kp) others, ap (map (item_by K o kp)) is, joined_by e e items others rest),
      )

  -- the lines of items by the clock are the lines by the clock
  pub item_lines_by : (items lines : List Item) → IsItemLines items lines → IsItemLines (map (item_by K o kp) items) (map (item_by K o kp) lines)
  item_lines_by [] lines h = ap (map (item_by K o kp)) h
  item_lines_by (e ∷ items) lines h = joined_by e e items lines h

-- ---- texts

module _ (k : ℕ) (p : 0 < 10 ^ k) (scale other : Scale) (is : other.time ≡ scale.time + k) (f : Formula) where
  -- the lines of items in smaller ticks have the same text
  pub item_texts_by : (items : List Item) (text : List ℕ) → AreItemLines scale f items text
      → AreItemLines other f (map (item_by (10 ^ k) (ahead 0) p) items) text
  item_texts_by [] text h = h
  item_texts_by (e ∷ items) text (a, at, (name, on, later, named, span, rest, same)) =
      (a, at, (name, on, later, named, span_text k p scale other is e.on on span, item_texts_by items later rest, same))

module _ (f : Formula) (tr : Trace) (k m : ℕ) (ok : IsTrace tr) (ft : f.scale.time ≤ tr.header.scale.time) (fv : f.scale.value ≤ tr.header.scale.value) where
  abbrev ur : Trace
  ur = finer k m tr

  -- what explains the formula explains it in smaller ticks
  pub explained_by : (lines : List Item) → IsExplained f tr lines → IsExplained f ur (map (item_by (10 ^ k) (ahead 0) (some_power k)) lines)
  explained_by lines h = elim h [
    | inl (holds, none) ↦ inl (rw (root_finer f tr.header.scale k m ft fv) (at_start.0 holds), ap (map (item_by (10 ^ k) (ahead 0) (some_power k))) none)
    | inr (fails, (items, kept, joined)) ↦ inr (
      λ x. fails (at_start.1 (subst (λ p. Truth p ur (start ur)) (root_finer f tr.header.scale k m ft fv) x)),
      (
        map (item_by (10 ^ k) (ahead 0) (some_power k)) items,
        subst (λ nodes. Kept nodes ur (map (item_by (10 ^ k) (ahead 0) (some_power k)) items)) (sym (nodes_finer f tr.header.scale k m ft fv))
            (kept_by (10 ^ k) (ahead 0) (10 ^ m) (some_power k) (some_power m) (finer_counts k m tr ok) (nodes_for f tr) items kept),
        item_lines_by (10 ^ k) (ahead 0) (some_power k) items lines joined,
      ),
    )
  ]
    where
      at_start : (Truth (root (nodes_for f tr)) tr (start tr) → Truth (finer_tree (10 ^ k) (10 ^ m) (root (nodes_for f tr))) ur (start ur))
          × (Truth (finer_tree (10 ^ k) (10 ^ m) (root (nodes_for f tr))) ur (start ur) → Truth (root (nodes_for f tr)) tr (start tr))
      at_start =
          let c = finer_counts k m tr ok in
          let s = truth_by (10 ^ k) (ahead 0) (10 ^ m) (some_power k) (some_power m) c (root (nodes_for f tr)) (start tr) in
          let q = finer_tree (10 ^ k) (10 ^ m) (root (nodes_for f tr)) in
          (λ h. Truth-same q ur (same_sym c.starts) (s.0 h), λ h. s.1 (Truth-same q ur c.starts h))

-- `explain` writes the same text in smaller ticks
pub explain_keeps_its_text : KeepsItsText explain
explain_keeps_its_text f tr k m ok ft fv text (items, line, body, explained, starts, lines, is) = (
  map (item_by (10 ^ k) (ahead 0) (some_power k)) items,
  line,
  body,
  explained_by f tr k m ok ft fv items explained,
  rw (root_finer f tr.header.scale k m ft fv)
      (start_line_by (10 ^ k) (ahead 0) (10 ^ m) (some_power k) (some_power m) (finer_counts k m tr ok) (root (nodes_for f tr)) line starts),
  item_texts_by k (some_power k) tr.header.scale (finer k m tr).header.scale refl f items body lines,
  is,
)
