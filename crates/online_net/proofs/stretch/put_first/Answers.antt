use Rattle.rational.proofs.PlaceLemmas.{same_places}
use Rattle.online_net.proofs.stretch.put_first.Goals as goal

pub returns : goal.returns
returns c = record {
  verdict = c.verdict_of.result;
  got = record { here = c.in_ok-extend.ensures.put; others = c.in_ok-extend.ensures.others; start = c.in_ok-extend.ensures.start };
  begin = c.verdict_of.ensures.begin;
  end = same_places c.verdict_of.ensures.end;
  is = c.verdict_of.ensures.holds;
}
