use Rattle.std.proofs.Common.{◌≡◌, length}
use Rattle.whole_answers.proofs.Progress.{Progress}
use Rattle.whole_answers.proofs.from_source.read_all.Given as goal

abbrev pub invariant-loop-reads : goal.invariant-loop-reads
invariant-loop-reads g l = record {
  progress : Progress g.K.Keep.stands l.initial.reading.rows.limits l.formula (g.S.Source.left l.initial.input)
      (g.S.Source.left l.input) l.reading.rows l.reading.kept l._reads;
  unended : g.S.Source.ends l.input ≡ g.S.Source.ends l.initial.input;
  still : g.S.Source.faults l.input ≡ g.S.Source.faults l.initial.input;
  size : length l.buffer ≡ 4096;
}
