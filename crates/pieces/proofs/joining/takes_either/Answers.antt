use Rattle.rational.specs.Extended.{value_at}
use Rattle.frac128.specs.Value.{value}
use Rattle.frac128.specs.Cuts.{place}
use Rattle.pl_signal.proofs.Choices.{taken_first, taken_second, taken_of_less, taken_of_equal, taken_of_greater}
use Rattle.pieces.proofs.JoiningLemmas.{whole_first, whole_second}
use Rattle.pieces.proofs.joining.takes_either.Goals as goal

pub returns-in_default : goal.returns-in_default
returns-in_default g c =
    whole_first g.P.Shape c.args.side c.args.p.now c.args.q.now (place c.args.from.now) (place c.args.until.now)
    (taken_of_less c.args.side (value_at (g.P.Shape.function c.args.p.now) (value c.args.from.now.time))
    (value_at (g.P.Shape.function c.args.q.now) (value c.args.from.now.time)) c.in-Less.ensures)
    (taken_first c.args.side c.favour-in-Less.result (value_at (g.P.Shape.function c.args.p.now) (value c.args.until.now.time))
    (value_at (g.P.Shape.function c.args.q.now) (value c.args.until.now.time)) c.favour-in-Less.ensures c.in_default.not-Greater)

pub returns-in-Greater-favour-2 : goal.returns-in-Greater-favour-2
returns-in-Greater-favour-2 g c =
    whole_second g.P.Shape c.args.side c.args.p.now c.args.q.now (place c.args.from.now) (place c.args.until.now)
    (taken_second c.args.side c.favour.result (value_at (g.P.Shape.function c.args.p.now) (value c.args.from.now.time))
    (value_at (g.P.Shape.function c.args.q.now) (value c.args.from.now.time)) c.favour.ensures (λ e. let h = c.in-Equal.is in absurd (cc)))
    (taken_of_greater c.args.side (value_at (g.P.Shape.function c.args.p.now) (value c.args.until.now.time))
    (value_at (g.P.Shape.function c.args.q.now) (value c.args.until.now.time)) c.in-Greater-favour-2.ensures)

pub returns-in_default-favour : goal.returns-in_default-favour
returns-in_default-favour g c =
    whole_first g.P.Shape c.args.side c.args.p.now c.args.q.now (place c.args.from.now) (place c.args.until.now)
    (taken_of_equal c.args.side (value_at (g.P.Shape.function c.args.p.now) (value c.args.from.now.time))
    (value_at (g.P.Shape.function c.args.q.now) (value c.args.from.now.time)) c.in-Equal.ensures)
    (taken_first c.args.side c.favour-in-Equal.result (value_at (g.P.Shape.function c.args.p.now) (value c.args.until.now.time))
    (value_at (g.P.Shape.function c.args.q.now) (value c.args.until.now.time)) c.favour-in-Equal.ensures c.in_default-favour.not-Greater)

pub returns-in_default-favour-2 : goal.returns-in_default-favour-2
returns-in_default-favour-2 g c =
    whole_second g.P.Shape c.args.side c.args.p.now c.args.q.now (place c.args.from.now) (place c.args.until.now)
    (taken_of_greater c.args.side (value_at (g.P.Shape.function c.args.p.now) (value c.args.from.now.time))
    (value_at (g.P.Shape.function c.args.q.now) (value c.args.from.now.time)) c.in-Greater.ensures)
    (taken_second c.args.side c.favour-in-Greater.result (value_at (g.P.Shape.function c.args.p.now) (value c.args.until.now.time))
    (value_at (g.P.Shape.function c.args.q.now) (value c.args.until.now.time)) c.favour-in-Greater.ensures c.in_default-favour-2.not-Less)
