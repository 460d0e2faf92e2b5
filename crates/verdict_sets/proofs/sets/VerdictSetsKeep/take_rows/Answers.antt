use Rattle.std.proofs.Common.{ap, nat_eq}
use Rattle.trace_stream.specs.Kept.{with_rows}
use Rattle.verdict_sets.proofs.CaseSets.{can_take, held_so_far}
use Rattle.verdict_sets.proofs.sets.VerdictSetsKeep.take_rows.Goals as goal

pub take_rows-requires : goal.take_rows-requires
take_rows-requires c = held_so_far c.args.self.now c.requires.0 c.requires.1 c.args.rows.now c.requires.2

pub take_in-requires : goal.take_in-requires
take_in-requires c =
    let m = c.in_ok-bytes.ensures.rows in (
      with_rows m.more c.requires.0,
      can_take c.args.self.now c.requires.0 c.requires.1 m.more c.take_rows.new.trace (nat_eq c.rows-first.result 0) m.added
          (ap (λ n. nat_eq n 0) c.rows-first.ensures.count),
    )

pub returns-clause-taken : goal.returns-clause-taken
returns-clause-taken c = λ case k so.
    let m = c.in_ok-bytes.ensures.rows in
    record {
      more = m.more;
      kept = c.in_ok-take_in.ensures (with_rows m.more case)
          (can_take c.args.self.now case k m.more c.take_rows.new.trace (nat_eq c.rows-first.result 0) m.added
          (ap (λ n. nat_eq n 0) c.rows-first.ensures.count));
      stands = m.stands;
    }
