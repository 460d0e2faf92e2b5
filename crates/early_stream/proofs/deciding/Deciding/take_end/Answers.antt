use Rattle.std.proofs.Common.{refl, length}
use Rattle.early_stream.proofs.EarlyFollows.{end_on, some_last}
use Rattle.early_stream.proofs.deciding.Deciding.take_end.Goals as goal

pub end-requires-clause-open : goal.end-requires-clause-open
end-requires-clause-open c = c.requires.2.stands.stands.is_ended

pub end-requires-clause-fed : goal.end-requires-clause-fed
end-requires-clause-fed c =
    let (case, made, k, t) = c.requires in
    some_last (length case.trace.header.columns) case.trace.rows c.args.self.now.early.last t.rows k.stands.stands.last

pub returns : goal.returns
returns c = λ case made k t.
    end_on c.args.self.now (record { early = c.end.new.self; scale = c.args.self.now.scale; digits = c.self-1.given.0 }) case made
    k c.end.ensures.same.nodes c.end.ensures.same.header refl
    c.args.text.now c.put_rest.new.text c.decided-decided.result c.in-Ok.holds c.decided-decided.ensures
    (c.in-Ok.ensures.stands case.trace.rows k.stands.stands) t
    (c.in-Ok.ensures.truth case.trace.rows k.stands.stands) c.in_ok-put_rest.ensures
