use Rattle.std.proofs.Common.{◌≡◌, ◌<◌, ◌⊎◌, inl, inr, false, not, length, arith}
use Rattle.rational.specs.Time.{Rational}
use Rattle.time_sets.specs.Parts.{left_from, over}
use Rattle.time_sets.proofs.MakingLemmas.{if_ok_then}
use Rattle.time_sets.proofs.PartLemmas.{all_left, none_at}
use Rattle.time_sets.proofs.TurnLemmas.{byte_small}
use Rattle.time_sets.proofs.SeeingLemmas.{reached_nothing}
use Rattle.time_sets.proofs.ReachLemmas.{reached_first, reached_can, reached_run, reached_part, reached_last}
use Rattle.time_sets.proofs.times.Times.reach.Goals as goal
use Rattle.time_sets.proofs.times.Times.reach.Goals.{then-loop-i-test+else-k-len, else-loop-i-test}

pub loop-i-init : goal.loop-i-init
loop-i-init c = record {
  reached = reached_first c.args.on.now c.args.w.now c.args.self.now c.args.q.now c.constant-made.result _ _ c.constant-made.ensures.starts
      c.constant-made.ensures.turns c.constant-made.ensures.times
      (λ t. all_left c.args.self.now.starts c.from-i.result c.args.self.now.turns.items t c.from-i.ensures)
      (λ t. all_left c.args.q.now.starts c.from-k.result c.args.q.now.turns.items t c.from-k.ensures);
  run_in = let e = c.from-i.ensures in let h = byte_small (not c.args.self.now.starts) in omega arith;
  part_in = let e = c.from-k.ensures in let h = byte_small (not c.args.q.now.starts) in omega arith;
}

pub meet-requires-clause-run : goal.meet-requires-clause-run
meet-requires-clause-run c = c.stretch-run.ensures.inside

pub meet-requires-clause-part : goal.meet-requires-clause-part
meet-requires-clause-part c = c.stretch-part.ensures.inside

pub meet-requires-clause-made : goal.meet-requires-clause-made
meet-requires-clause-made c = reached_can c.args.on.now (over c.stretch-run.result) (over c.stretch-part.result) c.args.w.now c.args.self.now
    c.args.q.now c.loop-i.end c.loop-i.made _ _ _ _ c.loop-i.invariant.reached c.stretch-run.ensures c.stretch-part.ensures

pub loop-i-preserved-then-met : goal.loop-i-preserved-then-met
loop-i-preserved-then-met c = record {
  reached = reached_run c.args.on.now (over c.stretch-run.result) (over c.stretch-part.result) c.args.w.now c.args.self.now c.args.q.now c.loop-i.end
      c.loop-i.made _ _ _ _ c.loop-i.invariant.reached c.stretch-run.ensures c.stretch-part.ensures _ c.meet.new.made c.in_ok-met.ensures.adds
      (c.in_ok-met.ensures.done.0 c.if-met.true);
  run_in = let o = c.args.self.now.turns.ok.0 in omega arith;
  part_in = c.loop-i.invariant.part_in;
}

pub loop-i-preserved : goal.loop-i-preserved
loop-i-preserved c = record {
  reached = reached_part c.args.on.now (over c.stretch-run.result) (over c.stretch-part.result) c.args.w.now c.args.self.now c.args.q.now c.loop-i.end
      c.loop-i.made _ _ _ _ c.loop-i.invariant.reached c.stretch-run.ensures c.stretch-part.ensures _ c.meet.new.made c.in_ok-met.ensures.adds
      (λ b. let e = c.in_ok-met.ensures.done.1 b in let f = c.if-met.false in cc);
  run_in = c.loop-i.invariant.run_in;
  part_in = let o = c.args.q.now.turns.ok.0 in omega arith;
}

pub returns-then-not-has_room-clause-times : goal.returns-then-not-has_room-clause-times
returns-then-not-has_room-clause-times c = λ t l. reached_nothing c.args.on.now c.args.w.now c.args.self.now c.args.q.now c.constant-made.result t
    (λ r. let e = c.has_room.ensures.1 r in let f = c.if-not-has_room.true in cc) (c.constant-made.ensures.times t)

pub returns-clause-times : goal.returns-clause-times
returns-clause-times c =
    let ps = c.args.self.now.turns.items in
    let qs = c.args.q.now.turns.items in
    let o = c.args.self.now.turns.ok.0 in
    let p = c.args.q.now.turns.ok.0 in
    let done : ((t : Rational) → left_from c.loop-i.i ps t ≡ false) ⊎ ((t : Rational) → left_from c.loop-i.k qs t ≡ false) =
    elim c.loop-i-test.branch [
      | then-loop-i-test+else-k-len w ↦
          let past : length qs < c.loop-i.k = omega (arith, p, w.if-k-len.false, w.len-in-loop-i.ensures) in inr (λ t. none_at qs c.loop-i.k t past)
      | else-loop-i-test w ↦
          let past : length ps < c.loop-i.i = omega (arith, o, w.loop-i-test.false, c.len.ensures) in inl (λ t. none_at ps c.loop-i.i t past)
    ] in
    if_ok_then c.finish.result _ _ c.finish.ensures (λ r e t l.
    reached_last c.args.on.now c.args.w.now c.args.self.now c.args.q.now c.loop-i.end c.loop-i.made r _ _ c.loop-i.invariant.reached done e t l)
