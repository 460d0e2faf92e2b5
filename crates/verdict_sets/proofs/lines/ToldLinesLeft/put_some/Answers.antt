-- The line of one stretch more.
use Rattle.std.proofs.Common.{◌≡◌, ℕ, ◌+◌, ◌++◌, ◌∷◌, [], length, refl, sym, ap, ◌∙◌, subst, inl, inr, arith, append-nil, append_assoc, length-append}
use Rattle.std.proofs.lemmas.Bool.{false≢true}
use Rattle.std.proofs.lemmas.Option.{none-some}
use Rattle.rational.specs.Time.{◌≈◌}
use Rattle.rational.proofs.Lists.{slice_get-push_cases}
use Rattle.frac128.specs.Value.{value}
use Rattle.time_sets.specs.Turns.{place}
use Rattle.time_sets.specs.declared.turn.Turn.{Turn}
use Rattle.stl_syntax.specs.declared.items.Verdict.{Verdict}
use Rattle.std.specs.Prelude.{IfSome}
use Rattle.answer_lines.specs.Rooms.{IsTextAt}
use Rattle.answer_lines.proofs.Lines.{lines_join}
use Rattle.stl_syntax.specs.Texts.{start_line}
use Rattle.verdict_sets.specs.Telling.{IsVerdictAt, AreVerdictsFrom, AreLinesFrom}
use Rattle.verdict_sets.proofs.LinesFrom.{lines_on, lines_end}
use Rattle.verdict_sets.proofs.lines.ToldLinesLeft.put_some.Goals as goal

pub loop-last-init : goal.loop-last-init
loop-last-init c = record {
  from = c.requires.can.from;
  within = c.requires.can.within;
  some = inl refl;
  lines = ([], omega arith, λ k v e. absurd (none-some v e), ([], refl, sym (append-nil c.args.room.now)));
  last = tt;
}

pub span-requires-clause-domain : goal.span-requires-clause-domain
span-requires-clause-domain c = c.requires.can.domain

pub verdict_of-verdict-requires-clause-order : goal.verdict_of-verdict-requires-clause-order
verdict_of-verdict-requires-clause-order c = c.in-Some.ensures.longest.order

pub verdict_of-verdict-requires-clause-from : goal.verdict_of-verdict-requires-clause-from
verdict_of-verdict-requires-clause-from c =
    subst (λ (t : Turn). value c.loop-last.from ≈ (place t).at) (sym c.in-Some.ensures.from) c.loop-last.invariant.from

pub put_verdict-text-requires-clause-last : goal.put_verdict-text-requires-clause-last
put_verdict-text-requires-clause-last c =
    subst (λ f. IfSome c.loop-last.last (IsTextAt c.args.self.now.scale.time (value f) c.loop-last.room)) (sym c.verdict_of-verdict.ensures.from)
    c.loop-last.invariant.last

pub loop-last-preserved : goal.loop-last-preserved
loop-last-preserved c =
    let t = c.args.self.now in
    let s = c.in-Some.ensures in
    let v = c.verdict_of-verdict.result in
    let is = c.verdict_of-verdict.ensures.is in
    let (verdicts, count, are, (grown, lines, grew)) = c.loop-last.invariant.lines in
    let (line, is_line, longer) = c.put_verdict-text.ensures.line in
    let here : IsVerdictAt t.judged c.loop-last.next v = record {
      stretch = c.in-Some.stretch;
      at = record { from = s.from; to = s.to; longest = s.longest };
      is = is;
    } in
    record {
      from = subst (λ (t : Turn). value v.on.to ≈ (place t).at) s.to is.to.0;
      within = omega (arith, s.some);
      some = inr (omega (arith, count));
      lines = (
        verdicts ++ v ∷ [],
        omega (arith, length-append verdicts (v ∷ []), count),
        all_and_one t.judged t.next c.loop-last.next verdicts v count are here,
        (
          grown ++ line,
          lines_join t.scale verdicts (v ∷ []) grown line lines (line, [], is_line, refl, sym (append-nil line)),
          longer ∙ ap (λ w. w ++ line) grew ∙ append_assoc c.args.room.now grown line,
        ),
      );
      last = c.put_verdict-text.ensures.to;
    }
  where
    all_and_one : (j : _) (first next : ℕ) (verdicts : _) (v : Verdict) → first + length verdicts ≡ next → AreVerdictsFrom j first verdicts
        → IsVerdictAt j next v → AreVerdictsFrom j first (verdicts ++ v ∷ [])
    all_and_one j first next verdicts v count are here k w e = elim (slice_get-push_cases verdicts v k w e) [
      | inl old ↦ are k w old
      | inr (last, same) ↦ subst (λ m. IsVerdictAt j m w) (sym (ap (λ m. first + m) last ∙ count)) (subst (λ u. IsVerdictAt j next u) (sym same) here)
    ]

pub loop-last-smaller : goal.loop-last-smaller
loop-last-smaller c = omega (arith, c.in-Some.ensures.some, c.loop-last.invariant.within)

pub returns-in_default-clause-last : goal.returns-in_default-clause-last
returns-in_default-clause-last c = λ _.
    let t = c.args.self.now in
    let (verdicts, count, are, (grown, lines, grew)) = c.loop-last.invariant.lines in
    let is = c.put_start.ensures ∙ ap (λ w. w ++ start_line t.holds) (grew ∙ ap (λ w. w ++ grown) c.requires.empty) in
    subst (AreLinesFrom t.judged t.scale t.holds t.next) (sym is)
    (lines_end t.judged t.scale t.holds t.next verdicts grown are lines (omega (arith, count, c.loop-last.invariant.within, c.in_default.ensures.none)))

pub returns-clause-goes_on : goal.returns-clause-goes_on
returns-clause-goes_on c = λ _.
    let can = c.requires.can in
    record { digits = can.digits; domain = can.domain; own = can.own; from = c.loop-last.invariant.from; within = c.loop-last.invariant.within }

pub returns-clause-fewer : goal.returns-clause-fewer
returns-clause-fewer c = λ _. elim c.loop-last.invariant.some [
  | inl none ↦ absurd (full (none ∙ c.requires.empty))
  | inr some ↦ omega (arith, some, c.loop-last.invariant.within)
]
  where
    full : c.loop-last.room ≡ [] → ⊥
    full e = false≢true (c.loop-last-test.ensures.1 (omega (arith, ap length e)))

pub returns-clause-more : goal.returns-clause-more
returns-clause-more c = λ _ later left.
    let t = c.args.self.now in
    let (verdicts, count, are, (grown, lines, grew)) = c.loop-last.invariant.lines in
    let is = grew ∙ ap (λ w. w ++ grown) c.requires.empty in
    subst (λ w. AreLinesFrom t.judged t.scale t.holds t.next (w ++ later)) (sym is)
    (lines_on t.judged t.scale t.holds t.next verdicts grown are lines c.loop-last.next later count left)
