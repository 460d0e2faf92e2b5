use Rattle.std.proofs.Common.{◌≡◌, ◌-◌, ◌<◌, ◌∙◌, sym, ap, length, arith}
use Rattle.std.specs.Prelude.{slice_get}
use Rattle.std.proofs.lemmas.Option.{same_Some}
use Rattle.implicants.proofs.explaining.explain_violation.Goals as goal

pub root-requires : goal.root-requires
root-requires g c = let some = c.len.ensures.well_formed.some in let count = c.in-Ok.ensures.told.count in omega (arith, some, count)

pub returns-in-Ok-violation : goal.returns-in-Ok-violation
returns-in-Ok-violation g c = (
  c.in-Ok-violation.ensures c.args.steps.now c.in-Ok.ensures.steps,
  same_Some _ _ (sym c.root.ensures ∙ ap (λ n. slice_get c.in-Ok.nodes (n - 1)) c.in-Ok.ensures.told.count ∙ c.in-Ok.ensures.root),
)
