use Rattle.std.proofs.Common.{◌∙◌, refl, sym}
use Rattle.rational.proofs.Order.{le_refl}
use Rattle.frac128.specs.Value.{value}
use Rattle.courses.proofs.CourseLemmas.{turned, unturned}
use Rattle.courses.proofs.course.turning.Goals as goal

pub meeting-requires-clause-turned : goal.meeting-requires-clause-turned
meeting-requires-clause-turned g c =
    turned (g.P.Shape.function c.args.p.now) (g.P.Shape.function c.args.q.now) (value c.args.from.now) (value c.args.next.now) c.args.start c.args.end
    c.requires.start c.requires.end (sym c.changes_places.ensures ∙ c.if-changes_places.true)

pub returns-clause-ok : goal.returns-clause-ok
returns-clause-ok g c = record {
  after = c.requires.order;
  not_later = le_refl (value c.args.next.now);
  in_order = unturned (g.P.Shape.function c.args.p.now) (g.P.Shape.function c.args.q.now) (value c.args.from.now) (value c.args.next.now)
      c.args.start c.args.end c.requires.start c.requires.end (sym c.changes_places.ensures ∙ c.if-changes_places.false);
  kind = refl;
}
