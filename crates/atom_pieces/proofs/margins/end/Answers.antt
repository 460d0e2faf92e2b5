use Rattle.std.proofs.Common.{pos}
use Rattle.std.proofs.lemmas.Result.{on_ok_weaker}
use Rattle.rational.specs.Rational.{whole}
use Rattle.rational.proofs.PlaceLemmas.{before_same, same_places}
use Rattle.frac128.specs.Cuts.{place}
use Rattle.pieces.specs.Chains.{stop}
use Rattle.pieces.specs.Knots.{after}
use Rattle.pieces.proofs.KnotLemmas.{just_later}
use Rattle.atom_pieces.proofs.margins.end.Goals as goal

pub put-requires-clause-later : goal.put-requires-clause-later
put-requires-clause-later c = before_same (stop c.args.chain.now) (after (whole (pos c.args.last))) (place c.after_row-until.result)
    (just_later (stop c.args.chain.now) (whole (pos c.args.last)) c.requires) (same_places c.after_row-until.ensures)

pub returns : goal.returns
returns c = on_ok_weaker c.put.result
    (λ on. record {
      until = c.after_row-until.result;
      there = c.after_row-until.ensures;
      more = c.shape_at_end-shape.result;
      of_chain = c.shape_at_end-shape.ensures.shape;
      worth = c.shape_at_end-shape.ensures.value;
      goes = on;
    })
    c.put.ensures.ok
