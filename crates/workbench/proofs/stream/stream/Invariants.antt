use Rattle.std.proofs.Common.{◌≡◌, ◌≤◌, max, length}
use Rattle.workbench.proofs.StreamSteps.{Pushing}
use Rattle.workbench.proofs.stream.stream.Given as goal

abbrev pub invariant-loop-reads : goal.invariant-loop-reads
invariant-loop-reads g l = record {
  pushing : Pushing (g.P.Push.stands l.pusher) (g.P.Push.request l.initial.pusher) (g.S.Source.left l.initial.input)
      (g.S.Source.left l.input) (g.K.Sink.written l.initial.out) (g.K.Sink.written l.out) l._reads;
  same : g.P.Push.request l.pusher ≡ g.P.Push.request l.initial.pusher;
  unended : g.S.Source.ends l.input ≡ g.S.Source.ends l.initial.input;
  still : g.S.Source.faults l.input ≡ g.S.Source.faults l.initial.input;
  calm : g.K.Sink.faults l.out ≡ g.K.Sink.faults l.initial.out;
  asked : g.S.Source.asked l.input ≤ max (g.S.Source.asked l.initial.input) 4096;
  size : length l.buffer ≡ 4096;
}
