-- What is refused, kept beside.
use Rattle.std.proofs.Common.{◌≡◌, Option, None, Result, Ok, Err, sym, subst}
use Rattle.std.specs.Prelude.{IfSome, IsErrAnd, MatchResult}
pub use Rattle.rational.proofs.Lists.{on_err_anyway}
use Rattle.pl_signal.specs.declared.faults.WidePair.{WidePair}
use Rattle.pl_signal.specs.declared.faults.OpFault.{OpFault}
use Rattle.pl_signal.specs.declared.faults.OpFault.TheVariants as F
use Rattle.pl_signal.specs.Faults.{IsKept}

module _ {P : Type 0} (Of : OpFault P → Type 0) where
  -- what holds of a fault holds of the pair that was kept of it
  pub of_kept : (fault : OpFault P) (kept : Option (WidePair P)) → IsKept fault kept → Of fault → IfSome kept (λ pair. Of (F.Wide pair))
  of_kept F.Memory kept is h = subst (λ o. IfSome o (λ pair. Of (F.Wide pair))) (sym is) tt
  of_kept (F.Wide pair) kept is h = subst (λ o. IfSome o (λ pair. Of (F.Wide pair))) (sym is) h

  -- what holds of the pair that was kept, and of want of memory, holds of the fault
  pub fault_kept : (fault : OpFault P) (kept : Option (WidePair P)) → IsKept fault kept → Of F.Memory → IfSome kept (λ pair. Of (F.Wide pair)) → Of fault
  fault_kept F.Memory kept is m h = m
  fault_kept (F.Wide pair) kept is m h = subst (λ o. IfSome o (λ pair. Of (F.Wide pair))) is h

-- a result that is good has what it says of a good one
pub good_of : {P T : Type 0} (A : T → Type 0) (Of : OpFault P → Type 0) (done : Result T (OpFault P)) (x : T) → done ≡ Ok x → MatchResult done A Of → A x
good_of A Of done x is h = subst (λ r. MatchResult r A Of) is h

-- and what was kept of one that is bad has what it says of a fault
pub kept_fault : {P T : Type 0} (A : T → Type 0) (Of : OpFault P → Type 0) (done : Result T (OpFault P)) (kept : Option (WidePair P))
    → IsErrAnd done (λ fault. IsKept fault kept) → MatchResult done A Of → IfSome kept (λ pair. Of (F.Wide pair))
kept_fault A Of (Ok x) kept is h = absurd is
kept_fault A Of (Err fault) kept is h = of_kept Of fault kept is h

-- of nothing that was kept all holds
pub none_kept : {X : Type 0} (Of : X → Type 0) (kept : Option X) → kept ≡ None → IfSome kept Of
none_kept Of kept is = subst (λ o. IfSome o Of) (sym is) tt
