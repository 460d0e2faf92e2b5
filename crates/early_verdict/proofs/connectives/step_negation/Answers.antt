use Rattle.growing_sets.specs.Spans.{IsOn}
use Rattle.early_verdict.proofs.SetsTell.{was_said, none_before, stepped_by}
use Rattle.early_verdict.proofs.connectives.step_negation.Goals as goal

pub returns-clause-fits : goal.returns-clause-fits
returns-clause-fits c = λ old tr p h w.
    let was = was_said old c.args.own.now (IsOn p.no) (IsOn p.yes) (none_before old p.no h.no.first) (none_before old p.yes h.yes.first) w in
    record {
      yes = c.in_ok-same.ensures.tells p.no h.no.gains was.yes;
      no = c.in_ok-same-2.ensures.tells p.yes h.yes.gains was.no;
    }

pub same-requires : goal.same-requires
same-requires c = c.requires.yes

pub same-requires-2 : goal.same-requires-2
same-requires-2 c = c.requires.no

pub returns-clause-stepped : goal.returns-clause-stepped
returns-clause-stepped c =
    let y = c.in_ok-same.ensures in
    let n = c.in_ok-same-2.ensures in
    stepped_by c.args.own.now c.same.new.self c.same-2.new.self c.requires (y.tidy, y.bounds, y.gains) (n.tidy, n.bounds, n.gains)
