use Rattle.std.proofs.Common.{subst, sym}
use Rattle.std.specs.Prelude.{MatchResult}
use Rattle.command_line.specs.Words.{command_of}
use Rattle.whole_answers.specs.Judging.{IsAnswerOf, IsUnanswered}
use Rattle.workbench.proofs.top.answer.Goals as goal

pub unreachable-requires : goal.unreachable-requires
unreachable-requires c = c.requires.holds c.in-Check.is

pub measure-requires-clause-case : goal.measure-requires-clause-case
measure-requires-clause-case c = (c.args.formula.now, c.requires.case)

pub tabulate-requires-clause-case : goal.tabulate-requires-clause-case
tabulate-requires-clause-case c = (c.args.formula.now, c.requires.case)

pub returns-in-Robust : goal.returns-in-Robust
returns-in-Robust c =
    let f = c.args.formula.now in
    subst (λ w. MatchResult c.measure.result (λ a. IsAnswerOf (command_of w) f c.args.case.now.trace a.holds a.text)
    (IsUnanswered (command_of w) f c.args.case.now.trace))
    (sym c.in-Robust.is) (c.measure.ensures f c.requires.case)

pub returns-in-Explain : goal.returns-in-Explain
returns-in-Explain c =
    let f = c.args.formula.now in
    subst (λ w. MatchResult c.give_reasons.result (λ a. IsAnswerOf (command_of w) f c.args.case.now.trace a.holds a.text)
    (IsUnanswered (command_of w) f c.args.case.now.trace))
    (sym c.in-Explain.is) c.give_reasons.ensures

pub returns-in-Json : goal.returns-in-Json
returns-in-Json c =
    let f = c.args.formula.now in
    subst (λ w. MatchResult c.give_report.result (λ a. IsAnswerOf (command_of w) f c.args.case.now.trace a.holds a.text)
    (IsUnanswered (command_of w) f c.args.case.now.trace))
    (sym c.in-Json.is) c.give_report.ensures

pub returns-in-Table : goal.returns-in-Table
returns-in-Table c =
    let f = c.args.formula.now in
    subst (λ w. MatchResult c.tabulate.result (λ a. IsAnswerOf (command_of w) f c.args.case.now.trace a.holds a.text)
    (IsUnanswered (command_of w) f c.args.case.now.trace))
    (sym c.in-Table.is) (c.tabulate.ensures f c.requires.case)
