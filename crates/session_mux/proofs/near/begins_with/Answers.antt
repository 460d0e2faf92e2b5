use Rattle.std.proofs.Common.{◌≤◌, sym, ◌∙◌, arith}
use Rattle.std.proofs.lemmas.Bool.{leb-true}
use Rattle.session_mux.proofs.NearLemmas.{begins}
use Rattle.session_mux.proofs.near.begins_with.Goals as goal

pub returns : goal.returns
returns c = λ yes.
    begins c.args.text.now c.args.room.now c.top_bits-marks.result _ _ _ c.bytes_at.ensures c.bytes_at-2.ensures c.differing.ensures c.top_bits-marks.ensures
    c.args.len c.requires.few (λ k less set.
    let high : c.args.len ≤ c.clear_bits.result = leb-true c.args.len c.clear_bits.result yes in
    omega (arith, sym set ∙ c.clear_bits.ensures k (omega (arith, less, high)))) c.requires.long (omega arith)
