use Rattle.std.proofs.Common.{◌^◌, sym, ◌∙◌}
use Rattle.std.proofs.lemmas.Bool.{false≢true}
use Rattle.frac128.specs.Cuts.{place}
use Rattle.pieces.proofs.Lasts.{last_within, put_same, put_left, put_new}
use Rattle.pieces.proofs.pieces.go_on.Goals as goal

pub returns-then-is_same_as_last-clause-on : goal.returns-then-is_same_as_last-clause-on
returns-then-is_same_as_last-clause-on g c =
    put_same g.P.Shape (place c.args.from.now) c.args.items.now.items c.lengthen.new.items.items c.args.until.now c.args.shape.now
    c.requires.normal c.requires.later (c.is_same_as_last.ensures.some c.if-is_same_as_last.true)
    (λ front last e. (c.is_same_as_last.ensures.same front last e).0 c.if-is_same_as_last.true) c.lengthen.ensures.longer

pub can_leave-requires : goal.can_leave-requires
can_leave-requires g c = record {
  limited = λ front last e. last_within g.P.Shape (2 ^ 34) (place c.args.from.now) c.args.items.now.items front last e c.requires.limited;
}

pub returns-then-can_leave-clause-on : goal.returns-then-can_leave-clause-on
returns-then-can_leave-clause-on g c =
    put_left g.P.Shape (place c.args.from.now) c.args.items.now.items c.leave_last.new.items.items c.lengthen-then-can_leave.new.items.items
    c.args.until.now c.args.shape.now c.requires.normal c.requires.later (c.can_leave.ensures.some c.if-can_leave.true)
    (λ front p q e. (c.can_leave.ensures.left_out front p q e).0 c.if-can_leave.true) c.leave_last.ensures.left c.lengthen-then-can_leave.ensures.longer

pub returns-clause-on : goal.returns-clause-on
returns-clause-on g c =
    put_new g.P.Shape (place c.args.from.now) c.args.items.now.items c.push_reserved.new.self.items c.args.until.now c.args.shape.now
    c.requires.normal c.requires.later
    (λ front last e same. false≢true (sym c.if-is_same_as_last.false ∙ (c.is_same_as_last.ensures.same front last e).1 same))
    (λ front p q e out. false≢true (sym c.if-can_leave.false ∙ (c.can_leave.ensures.left_out front p q e).1 out))
    c.push_reserved.ensures.items
