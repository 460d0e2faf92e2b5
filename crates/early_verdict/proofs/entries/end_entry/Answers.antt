use Rattle.std.proofs.Common.{refl, arith, true, false}
use Rattle.frac128.specs.Cuts.{place}
use Rattle.early_verdict.proofs.EntryLemmas.{near_tick, up_to, happens_end}
use Rattle.early_verdict.proofs.entries.end_entry.Goals as goal

pub returns-clause-entry : goal.returns-clause-entry
returns-clause-entry c =
    let start = c.before_tick-start.result in
    let sure = c.after_tick-sure.result in
    record {
      order = up_to (place sure) (place sure) c.args.last c.args.last (omega arith) c.after_tick-sure.ensures c.after_tick-sure.ensures;
      near_start = near_tick start c.args.start false (omega (arith, c.ranges.start)) c.before_tick-start.ensures;
      near_sure = near_tick sure c.args.last true (omega (arith, c.ranges.last)) c.after_tick-sure.ensures;
    }

pub returns-clause-happens : goal.returns-clause-happens
returns-clause-happens c header r rows is_start is_last =
    happens_end c.before_tick-start.ensures c.after_tick-sure.ensures c.after_tick-sure.ensures refl is_start is_last
