use Rattle.std.proofs.Common.{◌≡◌, Some, subst, sym}
use Rattle.std.specs.Prelude.{slice_get}
use Rattle.std.proofs.lemmas.Option.{slice_get-get_or}
use Rattle.implicants.proofs.upward.runs_in.Goals as goal

pub returns : goal.returns
returns c = (
  c.index-runs-k.result,
  subst (λ v. slice_get c.args.runs.now c.args.k ≡ Some v) (sym c.index-runs-k.is)
      (slice_get-get_or c.args.runs.now c.args.k c.index-runs-k.result c.requires),
  c.deref.ensures.value,
)
