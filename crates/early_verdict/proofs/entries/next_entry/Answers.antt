use Rattle.std.proofs.Common.{refl, arith, true, false}
use Rattle.frac128.specs.Cuts.{place}
use Rattle.early_verdict.proofs.EntryLemmas.{near_tick, up_to, happens_next}
use Rattle.early_verdict.proofs.entries.next_entry.Goals as goal

pub returns-clause-entry : goal.returns-clause-entry
returns-clause-entry c =
    let start = c.before_tick-start.result in
    let before = c.after_tick-before.result in
    let sure = c.after_tick-sure.result in
    record {
      order = up_to (place before) (place sure) c.args.last c.args.time (omega (arith, c.requires)) c.after_tick-before.ensures c.after_tick-sure.ensures;
      near_start = near_tick start c.args.start false (omega (arith, c.ranges.start)) c.before_tick-start.ensures;
      near_sure = near_tick sure c.args.time true (omega (arith, c.ranges.time)) c.after_tick-sure.ensures;
    }

pub returns-clause-happens : goal.returns-clause-happens
returns-clause-happens c header r rows x is_start is_last is_now =
    happens_next x c.before_tick-start.ensures c.after_tick-before.ensures c.after_tick-sure.ensures refl is_start is_last is_now
