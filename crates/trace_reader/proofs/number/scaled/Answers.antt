use Rattle.std.proofs.Common.{◌*◌, ◌^◌, ap, ◌∙◌, arith}
use Rattle.trace_reader.proofs.NumberLemmas.{product_small}
use Rattle.trace_reader.proofs.number.scaled.Goals as goal

pub overflow_mul-result : goal.overflow_mul-result
overflow_mul-result c =
    let e = ap (λ n. c.args.value * n) (c.pow.ensures ∙ ap (λ n. 10 ^ n) c.from.ensures) in
    omega (arith, e, product_small c.args.value c.args.places c.requires.value c.requires.places)
