use Rattle.std.proofs.Common.{◌≡◌, ◌<◌, ◌++◌, Some, ap, refl, subst, sym, ◌∙◌}
use Rattle.std.specs.Option.{option_copied}
use Rattle.std.specs.Prelude.{IfNone, IfSome}
use Rattle.online_robust.specs.Nets.{AreAllGiven, IsNear, IsTaken, left_of}
use Rattle.answer_lines.specs.PartLines.{IsPartLine}
use Rattle.margin_stream.proofs.FollowedMargins.{none_taken, one_taken}
use Rattle.margin_stream.proofs.margins.Margins.take_all.Goals.{After-take}
use Rattle.margin_stream.proofs.margins.Margins.take_all.Goals as goal

pub loop-line-init : goal.loop-line-init
loop-line-init c = record {
  formula = refl;
  taken = λ g s. none_taken g c.args.self.now c.args.text.now s;
}

-- the line that was put is taken
taken_line : (c : After-take) → c.take.result ≡ Some c.in-Some.line.now
taken_line c = c.take.ensures.next ∙ sym c.next.ensures.next ∙ ap (λ o. option_copied o) c.in-Some.is

pub part_of-requires : goal.part_of-requires
part_of-requires c = subst (λ o. IfSome (option_copied o) IsNear) c.in-Some.is c.next.ensures.near

pub loop-line-preserved : goal.loop-line-preserved
loop-line-preserved c = record {
  formula = c.loop-line.invariant.formula;
  taken = λ g s.
      let h = c.loop-line.invariant.taken g s in
      let (here, is, longer) = c.in_ok-put_margin_line_after.ensures.ok in
      one_taken c.put_margin_line_after.new.last here h
      (subst (λ o. IsTaken g.nodes g.header g.past (g.lines ++ h.more) c.take.new.self o) (taken_line (goal.at.loop-line-preserved c).After-take)
      (c.take.ensures.taken g.nodes g.header g.past (g.lines ++ h.more) h.stands))
      (c.part_of.ensures.same c.loop-line.self.formula.scale here
      (subst (λ t. IsPartLine t c.part_of.result here) c.scale.ensures.scale is)) longer;
}

pub loop-line-smaller : goal.loop-line-smaller
loop-line-smaller c =
    subst (λ o. IfSome o (λ l. left_of c.take.new.self < left_of c.loop-line.self.net)) (taken_line (goal.at.loop-line-smaller c).After-take)
    c.take.ensures.fewer

pub returns-clause-taken : goal.returns-clause-taken
returns-clause-taken c = λ g s.
    let h = c.loop-line.invariant.taken g s in
    let all = subst (λ o. IfNone (option_copied o) (AreAllGiven g.nodes g.header g.past (g.lines ++ h.more) c.loop-line.self.net)) c.in_default.is
    (c.next.ensures.all g.nodes g.header g.past (g.lines ++ h.more) h.stands) in
    record { taken = h; all = all.parts }

pub returns-clause-formula : goal.returns-clause-formula
returns-clause-formula c = c.loop-line.invariant.formula

pub returns-in_err-put_margin_line_after-clause-formula : goal.returns-in_err-put_margin_line_after-clause-formula
returns-in_err-put_margin_line_after-clause-formula c = c.loop-line.invariant.formula
