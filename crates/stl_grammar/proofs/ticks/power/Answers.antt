-- A power of ten up to the sixth.
use Rattle.std.proofs.Common.{◌≤◌, ◌^◌, ◌∙◌, ap, sym, subst}
use Rattle.stl_grammar.proofs.NumberLemmas.{small_power}
use Rattle.stl_grammar.proofs.ticks.power.Goals as goal

pub returns-clause-most : goal.returns-clause-most
returns-clause-most c =
    subst (λ n. n ≤ 1000000) (sym (c.pow.ensures ∙ ap (λ k. 10 ^ k) (c.from.ensures ∙ c.saturating_sub.ensures)))
    (small_power c.args.digits c.args.decimals c.requires)
