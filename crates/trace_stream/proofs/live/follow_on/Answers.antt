use Rattle.trace_stream.proofs.WideRefused.{stream_of_case}
use Rattle.trace_stream.proofs.live.follow_on.Goals as goal

pub begin-requires-2-clause-streamed : goal.begin-requires-2-clause-streamed
begin-requires-2-clause-streamed g c =
    let (h, is, scale) = c.requires.header in
    stream_of_case g.F.Follow.kind c.args.formula.now c.in_ok-case.case (c.in_ok-case.ensures h is).case c.requires.streamed
