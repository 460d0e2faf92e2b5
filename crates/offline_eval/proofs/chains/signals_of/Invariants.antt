use Rattle.std.proofs.Common.{◌≡◌, ℕ, List, Some, length}
use Rattle.std.specs.Prelude.{slice_get}
use Rattle.pl_signal.specs.declared.knot.Knot.{Knot}
use Rattle.pieces.specs.Chains.{Chain}
use Rattle.offline_eval.specs.Evaluation.{IsSignalOf}
use Rattle.offline_eval.proofs.chains.signals_of.Given as goal

abbrev pub invariant-loop-k : goal.invariant-loop-k
invariant-loop-k g l = record {
  count : length l.signals.items ≡ l.k;
  each : (i : ℕ) (c : Chain _) (x : List (Knot _)) → slice_get l.chains i ≡ Some c → slice_get l.signals.items i ≡ Some x → IsSignalOf g.P.Shape c x;
}
