use Rattle.std.proofs.Common.{refl}
use Rattle.online_nodes.proofs.writer.Out.write.Goals as goal

pub returns-clause-put : goal.returns-clause-put
returns-clause-put c =
    record {
      verdict = record { on = c.span-on.result; holds = c.args.holds };
      got = record {
        edges = c.in_ok-put.ensures.put;
        start = c.in_ok-put.ensures.start;
        spare = c.in_ok-put.ensures.falls_by_one;
      };
      begin = c.span-on.ensures.begin;
      end = c.span-on.ensures.end;
      is = refl;
    }
