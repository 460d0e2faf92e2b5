use Rattle.early_stream.proofs.EarlyFollows.{two_lines}
use Rattle.early_stream.proofs.deciding.put_verdict.Goals as goal

pub returns : goal.returns
returns c = two_lines c.args.scale c.args.decided.at c.args.decided.holds c.args.text.now c.put_decided.new.text
    c.put_start.new.text c.in_ok-put_decided.ensures.ok c.in_ok-put_start.ensures.ok
