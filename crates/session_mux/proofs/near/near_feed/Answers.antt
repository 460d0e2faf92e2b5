use Rattle.session_mux.proofs.NearLemmas.{none_near, next_near}
use Rattle.session_mux.proofs.near.near_feed.Goals as goal

pub returns-then-marks-eq0 : goal.returns-then-marks-eq0
returns-then-marks-eq0 c =
    none_near c.args.text.now c.args.at c.top_bits-marks.result c.bytes_at.result c.feeds.result c.bytes_at.ensures c.feeds.ensures c.top_bits-marks.ensures
    c.if-marks-eq0.true

pub returns : goal.returns
returns c =
    next_near c.args.text.now c.args.at c.top_bits-marks.result c.bytes_at.result c.feeds.result c.bytes_at.ensures c.feeds.ensures c.top_bits-marks.ensures
    c.lowest.result c.lowest.ensures.set c.lowest.ensures.below
