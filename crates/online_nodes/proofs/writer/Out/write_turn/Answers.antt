use Rattle.std.proofs.Common.{refl}
use Rattle.online_nodes.proofs.writer.Out.write_turn.Goals as goal

pub returns-clause-put : goal.returns-clause-put
returns-clause-put c =
    record {
      verdict = record { on = c.span-on.result; holds = c.args.holds };
      got = record {
        edges = c.in_ok-put_seldom.ensures.put;
        start = c.in_ok-put_seldom.ensures.start;
        spare = c.in_ok-put_seldom.ensures.falls_by_one;
      };
      begin = c.span-on.ensures.begin;
      end = c.span-on.ensures.end;
      is = refl;
    }
