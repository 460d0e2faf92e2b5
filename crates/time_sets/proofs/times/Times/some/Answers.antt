use Rattle.std.proofs.Common.{◌<◌, not, length, arith}
use Rattle.time_sets.specs.Parts.{over}
use Rattle.time_sets.proofs.MakingLemmas.{if_ok_then}
use Rattle.time_sets.proofs.PartLemmas.{all_left, none_at}
use Rattle.time_sets.proofs.TurnLemmas.{byte_small}
use Rattle.time_sets.proofs.SeeingLemmas.{seen_first, seen_can, seen_step, seen_last, seen_nothing}
use Rattle.time_sets.proofs.times.Times.some.Goals as goal

pub loop-next-init : goal.loop-next-init
loop-next-init c = record {
  seen = seen_first c.args.on.now c.args.w.now c.args.self.now c.constant-made.result _ c.constant-made.ensures.starts c.constant-made.ensures.turns
      c.constant-made.ensures.times (λ t. all_left c.args.self.now.starts c.from-next.result c.args.self.now.turns.items t c.from-next.ensures);
  next_in = let e = c.from-next.ensures in let h = byte_small (not c.args.self.now.starts) in omega arith;
}

pub add-requires : goal.add-requires
add-requires c = seen_can c.args.on.now (over c.stretch-part.result) c.args.w.now c.args.self.now c.loop-next.end c.loop-next.made _ _ c.first-begin.result
    c.loop-next.invariant.seen c.stretch-part.ensures c.first-begin.ensures

pub loop-next-preserved : goal.loop-next-preserved
loop-next-preserved c = record {
  seen = seen_step c.args.on.now (over c.stretch-part.result) c.args.w.now c.args.self.now c.loop-next.end _ c.loop-next.made c.add.new.made _ _
      c.first-begin.result c.last-until.result (c.has_room.ensures.0 c.if-not-has_room.false) c.loop-next.invariant.seen c.stretch-part.ensures
      c.first-begin.ensures c.last-until.ensures c.in_ok-end.ensures;
  next_in = let o = c.args.self.now.turns.ok.0 in omega arith;
}

pub returns-then-not-has_room-clause-times : goal.returns-then-not-has_room-clause-times
returns-then-not-has_room-clause-times c = λ t l. seen_nothing c.args.on.now c.args.w.now c.args.self.now c.constant-made.result t
    (λ r. let e = c.has_room.ensures.1 r in let f = c.if-not-has_room.true in cc) (c.constant-made.ensures.times t)

pub returns-clause-times : goal.returns-clause-times
returns-clause-times c =
    let o = c.args.self.now.turns.ok.0 in
    let past : length c.args.self.now.turns.items < c.loop-next.next = omega (arith, o, c.loop-next-test.false) in
    if_ok_then c.finish.result _ _ c.finish.ensures (λ r e t l.
    seen_last c.args.on.now c.args.w.now c.args.self.now c.loop-next.end c.loop-next.made r _ c.loop-next.invariant.seen
    (λ u. none_at c.args.self.now.turns.items c.loop-next.next u past) e t l)
