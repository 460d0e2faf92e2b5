use Rattle.std.proofs.Common.{◌≡◌, ℕ, Some, length}
use Rattle.std.specs.Prelude.{slice_get}
use Rattle.early_verdict.specs.Fitting.{AreEmpty}
use Rattle.early_verdict.specs.declared.sets.Sets.{Sets}
use Rattle.early_verdict.proofs.making.shown_of.Given as goal

abbrev pub invariant-loop-own : goal.invariant-loop-own
invariant-loop-own l = record {
  count : length l.all.items ≡ l.own-index;
  has : (i : ℕ) (s x : Sets) → slice_get l.live i ≡ Some s → slice_get l.all.items i ≡ Some x
      → (x.yes.bounds ≡ s.no.bounds) × (x.no.bounds ≡ s.no.bounds) × AreEmpty x;
}
