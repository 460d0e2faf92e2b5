use Rattle.rational.specs.Extended.{value_at}
use Rattle.frac128.specs.Value.{value}
use Rattle.frac128.specs.Cuts.{place}
use Rattle.pl_signal.proofs.Choices.{taken_first, taken_second}
use Rattle.pieces.proofs.JoiningLemmas.{taken_before, taken_later, whole_first, whole_second}
use Rattle.pieces.proofs.joining.takes_rising.Goals as goal

pub returns-in_default : goal.returns-in_default
returns-in_default g c =
    let f = g.P.Shape.function c.args.p.now in
    let h = g.P.Shape.function c.args.q.now in
    let from = value c.args.from.now.time in
    let until = value c.args.until.now.time in
    let last = taken_second c.args.side c.favour.result (value_at f until) (value_at h until) c.favour.ensures c.in_default.not-Less in
    whole_second g.P.Shape c.args.side c.args.p.now c.args.q.now (place c.args.from.now) (place c.args.until.now)
    (taken_before c.args.side h f from until c.requires.order c.requires.falls c.requires.rises last) last

pub returns-in_default-favour : goal.returns-in_default-favour
returns-in_default-favour g c =
    let f = g.P.Shape.function c.args.p.now in
    let h = g.P.Shape.function c.args.q.now in
    let from = value c.args.from.now.time in
    let until = value c.args.until.now.time in
    let first = taken_first c.args.side c.favour-in-Less.result (value_at f from) (value_at h from) c.favour-in-Less.ensures
    c.in_default-favour.not-Greater in
    whole_first g.P.Shape c.args.side c.args.p.now c.args.q.now (place c.args.from.now) (place c.args.until.now) first
    (taken_later c.args.side h f from until c.requires.order c.requires.falls c.requires.rises first)
