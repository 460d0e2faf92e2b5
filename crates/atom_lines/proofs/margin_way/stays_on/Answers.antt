use Rattle.std.proofs.Common.{rules, ◌≡◌, ◌<◌, ◌∙◌, ap, sym, subst, to_z, of_z, arith}
use Rattle.std.specs.Int.{w64}
use Rattle.std.proofs.lemmas.Int.{to_z-of_z}
use Rattle.atom_lines.specs.Steps.{IsStep}
use Rattle.atom_lines.proofs.WayLemmas.{read_next}
use Rattle.atom_lines.proofs.margin_way.stays_on.Goals as goal

pub returns : goal.returns
returns c =
    let g = c.step_from-step.result.gap in
    let k = c.args.atom.now in
    let tr = c.args.trace.now in
    let next = c.step_from-step.result.next in
    let more : c.args.at < c.args.last = omega arith in
    let sum : to_z w64 (of_z w64 c.args.sum) ≡ c.args.sum = to_z-of_z w64 c.args.sum c.ranges.sum in
    let from : to_z w64 (of_z w64 c.args.from) ≡ c.args.from = to_z-of_z w64 c.args.from c.ranges.from in
    let begin : to_z w64 (of_z w64 g.from) ≡ g.from = search (rules, to_z-of_z) in
    let end : to_z w64 (of_z w64 g.to) ≡ g.to = search (rules, to_z-of_z) in (
      more,
      sym sum ∙ ap (to_z w64) c.if-sum-from.false ∙ from,
      record {
        gap = g;
        step = subst (IsStep k tr c.args.at g) (sym (read_next k tr c.args.at g next c.requires.sound.limit c.step_from-step.ensures)) c.step_from-step.ensures;
        level = sym end ∙ ap (to_z w64) c.if-step.false ∙ begin;
      },
    )
