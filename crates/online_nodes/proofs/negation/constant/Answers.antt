-- A stretch of one truth is told to its end.
use Rattle.std.proofs.Common.{sym, subst}
use Rattle.frac128.specs.declared.cut.Cut.{Cut}
use Rattle.rational.specs.Places.{Upto}
use Rattle.frac128.specs.Cuts.{place}
use Rattle.online_nodes.proofs.negation.constant.Goals as goal

pub upto-requires : goal.upto-requires
upto-requires c = record { edge = c.requires.own; inside = c.requires.inside; sound = c.requires.sound }

pub returns-clause-said : goal.returns-clause-said
returns-clause-said c = c.in_ok-end.ensures.said

pub returns-clause-all : goal.returns-clause-all
returns-clause-all c t h = c.in_ok-end.ensures.reaches.reached t (subst (λ (q : Cut). Upto (place q) t) (sym c.end.ensures) h) h

pub returns-clause-within : goal.returns-clause-within
returns-clause-within c = c.in_ok-end.ensures.reaches.inside
