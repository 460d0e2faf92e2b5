use Rattle.std.proofs.Common.{◌≡◌, ℕ, ap, suc, true, false, ◌+◌, ◌-◌, Some, List, [], ◌∷◌, ◌++◌, length, append-nil, append_assoc, refl, sym, subst, arith}
use Rattle.std.specs.Prelude.{slice_get}
use Rattle.std.proofs.lemmas.Result.{on_ok_weaker, on_err_weaker}
use Rattle.rational.specs.Time.{closed}
use Rattle.rational.proofs.Lists.{on_err_anyway}
use Rattle.value_laws.specs.Kinds.{truth_shape}
use Rattle.pl_signal.specs.Knots.{start, stop, IsWorth}
use Rattle.pl_signal.proofs.Values.{next_rises}
use Rattle.stl_syntax.specs.declared.items.Verdict.{Verdict}
use Rattle.report.specs.SignalVerdicts.{DescribesFunction}
use Rattle.report.specs.Spelling.{Past, listed}
use Rattle.report.specs.VerdictForms.{IsEntry, WrittenPast, CutPast}
use Rattle.report.specs.declared.spelling.OpenSpan.{OpenSpan}
use Rattle.pl_signal.specs.declared.knot.Knot.{Knot}
use Rattle.value_laws.specs.declared.truth.Truth.{Truth}
use Rattle.answer_lines.specs.Appended.{GrewInPart}
use Rattle.report.specs.VerdictForms.{AreEntries}
use Rattle.answer_lines.proofs.Growths.{part_none, part_shorter, front_then}
use Rattle.report.proofs.Entries.{entries_all, entries_part, entries_part_last, entry_exists}
use Rattle.answer_lines.proofs.Sequences.{each_grow}
use Rattle.report.proofs.Advances.{IsSpelledTo, spelled_start, room_to, spelled_advance, spelled_stop, stop_room, told_to_end}
use Rattle.report.proofs.signal.put_spans.Goals as goal
use Rattle.report.proofs.signal.put_spans.Goals.{After-put_past, After-close-end}

pub loop-i-init : goal.loop-i-init
loop-i-init c = (
  [],
  spelled_start c.args.s.now c.knot_in_place.result.now c.start-span.result c.knot_in_place.ensures c.start-span.ensures.from c.start-span.ensures.from_in
      c.start-span.ensures.holds,
  ([], refl, ap (λ w. c.args.text.now ++ w) c.new-entries.ensures),
  ([], sym (append-nil c.args.text.now)),
)

pub put_past-requires-clause-begun : goal.put_past-requires-clause-begun
put_past-requires-clause-begun c =
    room_to c.args.s.now (c.loop-i.i - 1) c.loop-i.invariant.0 c.loop-i.span c.knot_in_place-in-loop-i.result.now c.knot_in_place-in-loop-i.ensures
    c.loop-i.invariant.1

pub put_past-requires-clause-rising : goal.put_past-requires-clause-rising
put_past-requires-clause-rising c =
    let next : c.loop-i.i ≡ (c.loop-i.i - 1) + 1 = omega arith in
    next_rises truth_shape c.args.s.now (c.loop-i.i - 1) c.knot_in_place-in-loop-i.result.now c.knot_in_place-in-loop-i-2.result.now
    c.len-knots.ensures.signal.each c.knot_in_place-in-loop-i.ensures
    (subst (λ n. slice_get c.args.s.now n ≡ Some c.knot_in_place-in-loop-i-2.result.now) next c.knot_in_place-in-loop-i-2.ensures)

module _ (c : After-put_past) where
  abbrev vs : List Verdict
  vs = c.loop-i.invariant.0

  abbrev E : Verdict → List ℕ → Type 0
  E = IsEntry true false c.args.scale

  abbrev k : Knot Truth
  k = c.knot_in_place-in-loop-i.result.now

  abbrev n : Knot Truth
  n = c.knot_in_place-in-loop-i-2.result.now

  next : c.loop-i.i ≡ (c.loop-i.i - 1) + 1
  next = omega arith

  -- past the next knot the signal is spelled
  advanced : (p : Past c.loop-i.span k n) → IsSpelledTo c.args.s.now ((c.loop-i.i - 1) + 1) (vs ++ (listed p.by_gap ++ listed p.by_point)) p.new
  advanced p =
      subst (λ ws. IsSpelledTo c.args.s.now ((c.loop-i.i - 1) + 1) ws p.new) (append_assoc vs (listed p.by_gap) (listed p.by_point))
      (spelled_advance c.args.s.now (c.loop-i.i - 1) p.new k n p.by_gap p.by_point c.len-knots.ensures.signal c.knot_in_place-in-loop-i.ensures
      (subst (λ m. slice_get c.args.s.now m ≡ Some n) next c.knot_in_place-in-loop-i-2.ensures) c.loop-i.invariant.1 p.advanced)

  -- and can be told to the end
  to_end : (p : Past c.loop-i.span k n) → (later : List Verdict) × (end : Verdict) × DescribesFunction (IsWorth truth_shape c.args.s.now)
      ((vs ++ (listed p.by_gap ++ listed p.by_point)) ++ (later ++ end ∷ [])) (closed (start c.args.s.now) (stop c.args.s.now))
  to_end p =
      told_to_end c.args.s.now (length c.args.s.now - suc c.loop-i.i) ((c.loop-i.i - 1) + 1) (vs ++ (listed p.by_gap ++ listed p.by_point)) p.new
      c.len-knots.ensures.signal (omega arith) (advanced p)

pub returns-in_err-put_past-clause-err : goal.returns-in_err-put_past-clause-err
returns-in_err-put_past-clause-err c =
    let f = (goal.at.returns-in_err-put_past-clause-err c).After-put_past in
    let mid = c.loop-i.text ++ c.loop-i.entries in
    let new = c.put_past.new.text ++ c.put_past.new.entries in
    let cut : CutPast true c.args.scale c.loop-i.span (k f) (n f) mid new = c.in_err-put_past.ensures.err in
    let p = cut.past in
    let ws = listed p.by_gap ++ listed p.by_point in
    let end = to_end f p in
    let (a, e) = c.loop-i.invariant.3 in
    let (b, g) = c.put_past.ensures.begins in
    on_err_anyway _
    (part_shorter (AreEntries truth_shape true c.args.scale c.args.s.now) c.args.text.now c.put_past.new.text c.put_past.new.entries (a ++ b)
    (entries_part truth_shape true c.args.scale c.args.s.now (vs f) ws end.0 end.1 c.args.text.now mid new
    (subst (λ xs. DescribesFunction (IsWorth truth_shape c.args.s.now) xs (closed (start c.args.s.now) (stop c.args.s.now)))
    (append_assoc (vs f) ws (end.0 ++ end.1 ∷ [])) end.2) c.loop-i.invariant.2 cut.part)
    (front_then c.args.text.now c.loop-i.text c.put_past.new.text a b e g))

pub loop-i-preserved : goal.loop-i-preserved
loop-i-preserved c =
    let f = (goal.at.loop-i-preserved c).After-put_past in
    let there : (c.loop-i.i - 1) + 1 ≡ c.loop-i.i + 1 - 1 = omega arith in
    let mid = c.loop-i.text ++ c.loop-i.entries in
    let new = c.put_past.new.text ++ c.put_past.new.entries in
    let w : WrittenPast true c.args.scale c.loop-i.span (k f) (n f) c.put_past.new.span mid new = c.in_ok-put_past.ensures.ok in
    let p = w.past in
    let ws = listed p.by_gap ++ listed p.by_point in
    let (a, e) = c.loop-i.invariant.3 in
    let (b, g) = c.put_past.ensures.begins in (
      vs f ++ ws,
      subst (λ (o : OpenSpan). IsSpelledTo c.args.s.now (c.loop-i.i + 1 - 1) (vs f ++ ws) o) w.is
          (subst (λ i. IsSpelledTo c.args.s.now i (vs f ++ ws) p.new) there (advanced f p)),
      each_grow (E f) (vs f) ws c.args.text.now mid new c.loop-i.invariant.2 w.grew,
      (a ++ b, front_then c.args.text.now c.loop-i.text c.put_past.new.text a b e g),
    )

pub close-end-requires : goal.close-end-requires
close-end-requires c =
    stop_room c.args.s.now (c.loop-i.i - 1) c.loop-i.invariant.0 c.loop-i.span c.stop.result (omega arith) c.loop-i.invariant.1 c.stop.ensures.value

-- the verdicts with the last one describe the signal
whole : (c : After-close-end)
    → DescribesFunction (IsWorth truth_shape c.args.s.now) (c.loop-i.invariant.0 ++ c.close-end.result ∷ []) (closed (start c.args.s.now) (stop c.args.s.now))
whole c =
    spelled_stop c.args.s.now (c.loop-i.i - 1) c.loop-i.invariant.0 c.loop-i.span c.close-end.result c.stop.result
    (omega arith) c.loop-i.invariant.1 c.stop.ensures.value c.close-end.ensures

pub returns-clause-ok : goal.returns-clause-ok
returns-clause-ok c =
    let all = whole (goal.at.returns-clause-ok c).After-close-end in
    on_ok_weaker c.close.result
    (λ grew. entries_all truth_shape true c.args.scale c.args.s.now c.loop-i.invariant.0 c.close-end.result c.args.text.now (c.loop-i.text ++ c.loop-i.entries)
    c.close.new.text all c.loop-i.invariant.2 grew) c.close.ensures.ok

pub returns-clause-err : goal.returns-clause-err
returns-clause-err c =
    let all = whole (goal.at.returns-clause-err c).After-close-end in
    let s = c.args.s.now in
    let E = AreEntries truth_shape true c.args.scale s in
    let mid = c.loop-i.text ++ c.loop-i.entries in
    let (a, f) = c.loop-i.invariant.3 in
    let part = entries_part_last truth_shape true c.args.scale s c.loop-i.invariant.0 c.close-end.result c.args.text.now mid mid all c.loop-i.invariant.2
    (part_none (IsEntry true true c.args.scale c.close-end.result) mid mid (entry_exists true true c.args.scale c.close-end.result) refl) in
    on_err_weaker c.close.result
    (λ cut. part_shorter E c.args.text.now c.close.new.text cut.1 (a ++ cut.0) (subst (GrewInPart E c.args.text.now) (sym cut.3) part)
    (front_then c.args.text.now c.loop-i.text c.close.new.text a cut.0 f cut.2)) c.close.ensures.err
