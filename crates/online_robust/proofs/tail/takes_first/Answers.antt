use Rattle.rational.specs.Extended.{value_at}
use Rattle.frac128.specs.Value.{value}
use Rattle.value_laws.specs.Kinds.{margin_shape}
use Rattle.value_laws.specs.Margins.{margin_function}
use Rattle.pl_signal.proofs.Choices.{taken_first, taken_second, taken_of_less, taken_of_equal, taken_of_greater}
use Rattle.pl_signal.proofs.JoiningLemmas.{whole_first, whole_second}
use Rattle.online_robust.proofs.tail.takes_first.Goals as goal

pub returns-in_default : goal.returns-in_default
returns-in_default c =
    whole_first margin_shape c.args.side c.args.p.now c.args.q.now (value c.args.from.now) (value c.args.to.now)
    (taken_of_less c.args.side (value_at (margin_function c.args.p.now) (value c.args.from.now))
    (value_at (margin_function c.args.q.now) (value c.args.from.now)) c.in-Less.ensures)
    (taken_first c.args.side c.favour-in-Less.result (value_at (margin_function c.args.p.now) (value c.args.to.now))
    (value_at (margin_function c.args.q.now) (value c.args.to.now)) c.favour-in-Less.ensures c.in_default.not-Greater)

pub returns-in-Greater-favour-2 : goal.returns-in-Greater-favour-2
returns-in-Greater-favour-2 c =
    whole_second margin_shape c.args.side c.args.p.now c.args.q.now (value c.args.from.now) (value c.args.to.now)
    (taken_second c.args.side c.favour.result (value_at (margin_function c.args.p.now) (value c.args.from.now))
    (value_at (margin_function c.args.q.now) (value c.args.from.now)) c.favour.ensures (λ e. let h = c.in-Equal.is in absurd (cc)))
    (taken_of_greater c.args.side (value_at (margin_function c.args.p.now) (value c.args.to.now))
    (value_at (margin_function c.args.q.now) (value c.args.to.now)) c.in-Greater-favour-2.ensures)

pub returns-in_default-favour : goal.returns-in_default-favour
returns-in_default-favour c =
    whole_first margin_shape c.args.side c.args.p.now c.args.q.now (value c.args.from.now) (value c.args.to.now)
    (taken_of_equal c.args.side (value_at (margin_function c.args.p.now) (value c.args.from.now))
    (value_at (margin_function c.args.q.now) (value c.args.from.now)) c.in-Equal.ensures)
    (taken_first c.args.side c.favour-in-Equal.result (value_at (margin_function c.args.p.now) (value c.args.to.now))
    (value_at (margin_function c.args.q.now) (value c.args.to.now)) c.favour-in-Equal.ensures c.in_default-favour.not-Greater)

pub returns-in_default-favour-2 : goal.returns-in_default-favour-2
returns-in_default-favour-2 c =
    whole_second margin_shape c.args.side c.args.p.now c.args.q.now (value c.args.from.now) (value c.args.to.now)
    (taken_of_greater c.args.side (value_at (margin_function c.args.p.now) (value c.args.from.now))
    (value_at (margin_function c.args.q.now) (value c.args.from.now)) c.in-Greater.ensures)
    (taken_second c.args.side c.favour-in-Greater.result (value_at (margin_function c.args.p.now) (value c.args.to.now))
    (value_at (margin_function c.args.q.now) (value c.args.to.now)) c.favour-in-Greater.ensures c.in_default-favour-2.not-Less)

pub returns-in-Greater-favour : goal.returns-in-Greater-favour
returns-in-Greater-favour c = (c.in-Less.ensures, c.in-Greater-favour.ensures)

pub returns-in-Less-favour : goal.returns-in-Less-favour
returns-in-Less-favour c = (c.in-Greater.ensures, c.in-Less-favour.ensures)
