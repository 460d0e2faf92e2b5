use Rattle.rational.proofs.PlaceLemmas.{same_places}
use Rattle.online_net.proofs.AtomRuns.{put_given, turned_over}
use Rattle.online_net.proofs.stretch.turn_next.Goals as goal

pub returns : goal.returns
returns c = λ d same.
    turned_over c.args.node c.args.edges.now c.args.run.now (record { time = c.args.time; side = c.args.side }) d same (record {
      verdict = c.verdict_of.result;
      got = put_given c.args.edges.now c.put.new.self c.args.node c.verdict_of.result c.requires.edge c.in_ok-put.ensures.put c.in_ok-put.ensures.start;
      begin = c.verdict_of.ensures.begin;
      end = same_places c.verdict_of.ensures.end;
      is = c.verdict_of.ensures.holds;
    })
