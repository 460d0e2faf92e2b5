use Rattle.std.proofs.Common.{◌≤◌, not, length, arith, ap, ◌∙◌, sym, subst}
use mathlib.Core.Bool.{beq}
use Rattle.time_sets.specs.Spans.{border, IsLongest}
use Rattle.time_sets.proofs.SpanLemmas.{longest, flips_test}
use Rattle.time_sets.proofs.times.Times.span.Goals as goal

pub returns-clause-longest : goal.returns-clause-longest
returns-clause-longest c =
    let s = c.args.self.now in
    let on = c.args.on.now in
    let e = c.len.ensures in
    let o = s.turns.ok.0 in
    let within : c.args.next ≤ length s.turns.items = omega arith in
    let holds = not (beq s.starts c.is_odd.result) in
    subst (λ x. IsLongest on s (record { from = x; to = c.turn_or_end.result.now; holds = holds })) (sym c.border.ensures)
    (subst (λ x. IsLongest on s (record { from = border on s c.args.next; to = x; holds = holds })) (sym c.turn_or_end.ensures)
    (longest on s c.requires.domain c.requires.own c.args.next holds within
    (ap (λ x. not (beq s.starts x)) c.is_odd.ensures ∙ flips_test s.starts c.args.next)))
