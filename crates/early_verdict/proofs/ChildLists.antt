-- What is said of the lists of children, at their places.
use Rattle.std.proofs.Common.{◌≡◌, sym, subst, ℕ, Some, List}
use Rattle.std.specs.Prelude.{slice_get}
use Rattle.early_verdict.specs.Fitting.{Lists, lists_at, lists_of}
use Rattle.early_verdict.specs.declared.sets.Sets.{Sets}
use Rattle.early_verdict.proofs.AllSets.{lists_are}

-- of one child
pub one_list : (F : Lists → Type 0) (below : List Sets) (p : ℕ) (s : Sets) → slice_get below p ≡ Some s → F (lists_of s) → F (lists_at below p)
one_list F below p s at h = subst F (sym (lists_are below p s at)) h

-- of two
pub two_lists : (F : Lists → Lists → Type 0) (below : List Sets) (p q : ℕ) (s r : Sets) → slice_get below p ≡ Some s → slice_get below q ≡ Some r
    → F (lists_of s) (lists_of r) → F (lists_at below p) (lists_at below q)
two_lists F below p q s r at at' h =
    subst (λ x. F x (lists_at below q)) (sym (lists_are below p s at)) (subst (λ y. F (lists_of s) y) (sym (lists_are below q r at')) h)
