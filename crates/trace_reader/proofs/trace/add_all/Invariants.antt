use Rattle.std.proofs.Common.{◌≡◌, ◌+◌, ◌++◌, take}
use Rattle.std.specs.Prelude.{vec_len, vec_capacity}
use Rattle.trace_reader.proofs.trace.add_all.Given as goal

abbrev pub invariant-loop-value : goal.invariant-loop-value
invariant-loop-value l = record {
  items : l.values.items ≡ l.initial.values.items ++ take l.value-index l.more;
  room : vec_capacity l.values ≡ vec_capacity l.initial.values;
  len : vec_len l.values ≡ vec_len l.initial.values + l.value-index;
}
