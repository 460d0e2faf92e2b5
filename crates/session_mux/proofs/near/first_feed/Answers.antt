use Rattle.std.proofs.Common.{arith}
use Rattle.session_mux.proofs.NearLemmas.{near_is_first}
use Rattle.session_mux.proofs.near.first_feed.Goals as goal

pub returns-in-Some : goal.returns-in-Some
returns-in-Some c = near_is_first c.args.text.now c.in-Some.at c.in-Some.ensures (omega (arith, c.if-text-lt-NEAR.false))
