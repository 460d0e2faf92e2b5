use Rattle.std.proofs.Common.{◌++◌}
use Rattle.std.proofs.lemmas.Result.{err_from_is_err_and}
use Rattle.trace_stream.proofs.ReaderSteps.{over_of}
use Rattle.trace_stream.proofs.live.Live.finish.Goals as goal

pub take_end-requires : goal.take_end-requires
take_end-requires g c =
    let x = c.in_ok-last.ensures.last c.requires.bytes c.requires.written c.requires.is in
    (x.case, c.requires.written ++ c.last.new.self.text, x.followed, x.trace.trace.text.rising)

pub returns-clause-over : goal.returns-clause-over
returns-clause-over g c = λ bytes written k.
    let last = c.last.new.self in
    let x = c.in_ok-last.ensures.last bytes written k in
    over_of g.F.Follow.ended
    (record { alloc = last.alloc; rows = last.rows; formula = last.formula; follower = c.take_end.new.follower; text = c.take_end.new.text })
    written last.text c.take_end.result x (c.take_end.ensures.ok x.case (written ++ last.text) x.followed x.trace.trace.text.rising)
    (c.take_end.ensures.err x.case (written ++ last.text) x.followed x.trace.trace.text.rising)

pub returns-in_err-last-clause-over : goal.returns-in_err-last-clause-over
returns-in_err-last-clause-over g c =
    let p = err_from_is_err_and c.from_residual.result c.from_residual.ensures.1 in
    rw (p.1, p.2) (λ bytes written k. c.in_err-last.ensures.last bytes written k)
