-- What is said of a refusal that is put beside an answer.
use Rattle.std.proofs.Common.{◌≡◌, Option, Some, None, sym, subst}
use Rattle.std.specs.Prelude.{IfSome}
use Rattle.pl_signal.specs.declared.faults.WidePair.{WidePair}
use Rattle.pl_signal.specs.declared.faults.OpFault.{OpFault}
use Rattle.pl_signal.specs.declared.faults.OpFault.TheVariants as F
use Rattle.online_robust.specs.Refusing.{told_by}

-- where nothing was put beside it tells want of memory
pub memory_told : {P : Type 0} (Of : OpFault P → Type 0) (kept : Option (WidePair P)) → kept ≡ None → Of F.Memory → Of (told_by kept)
memory_told Of kept none h = subst (λ o. Of (told_by o)) (sym none) h

-- what follows for each pair that was put beside, and holds of want of memory, holds of the fault that is told
pub each_told : {P : Type 0} (Of : OpFault P → Type 0) (kept : Option (WidePair P)) {Has : WidePair P → Type 0} → Of F.Memory → IfSome kept Has
    → ((pair : WidePair P) → Has pair → Of (F.Wide pair)) → Of (told_by kept)
each_told Of None m h each = m
each_told Of (Some pair) m h each = each pair h
