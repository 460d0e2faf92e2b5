use Rattle.std.proofs.Common.{refl, arith, true, false}
use Rattle.frac128.specs.Cuts.{place}
use Rattle.early_verdict.proofs.EntryLemmas.{near_tick, up_to_now, happens_first}
use Rattle.early_verdict.proofs.entries.first_entry.Goals as goal

pub returns-clause-entry : goal.returns-clause-entry
returns-clause-entry c =
    let n = c.args.time in
    let start = c.before_tick-start.result in
    let sure = c.after_tick-sure.result in
    record {
      order = up_to_now (place start) (place sure) n c.before_tick-start.ensures c.after_tick-sure.ensures;
      near_start = near_tick start n false (omega (arith, c.ranges.time)) c.before_tick-start.ensures;
      near_sure = near_tick sure n true (omega (arith, c.ranges.time)) c.after_tick-sure.ensures;
    }

pub returns-clause-happens : goal.returns-clause-happens
returns-clause-happens c header x is =
    happens_first c.before_tick-start.ensures c.before_tick-start.ensures c.after_tick-sure.ensures refl refl is
