use Rattle.report.specs.Spelling.{GoesTo}
use Rattle.std.proofs.Common.{true, false, subst}
use Rattle.report.proofs.Advances.{room_after_gap}
use Rattle.report.proofs.spelling.OpenSpan.advance.Goals as goal

pub go_to-by_point-requires : goal.go_to-by_point-requires
go_to-by_point-requires c =
    room_after_gap c.args.self.now c.go_to-by_gap.new.self c.args.before.now.time c.args.next.now.time c.holds.result
    c.go_to-by_gap.result c.requires.begun c.requires.rising c.go_to-by_gap.ensures

pub returns : goal.returns
returns c = record {
  inside = c.go_to-by_gap.new.self;
  gap = subst (λ b. GoesTo c.args.self.now c.args.before.now.time true b c.go_to-by_gap.result c.go_to-by_gap.new.self) c.holds.ensures c.go_to-by_gap.ensures;
  point = subst (λ b. GoesTo c.go_to-by_gap.new.self c.args.next.now.time false b c.go_to-by_point.result c.go_to-by_point.new.self)
      c.holds-2.ensures c.go_to-by_point.ensures;
}
