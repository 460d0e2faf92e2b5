use Rattle.std.proofs.Common.{◌⊎◌, inl, inr}
use Rattle.growing_sets.specs.Spans.{IsOn}
use Rattle.early_verdict.proofs.SetsTell.{was_said, none_before, stepped_by}
use Rattle.early_verdict.proofs.connectives.step_disjunction.Goals as goal

pub returns-clause-fits : goal.returns-clause-fits
returns-clause-fits c = λ old tr p q h k w.
    let was = was_said old c.args.own.now (λ t. IsOn p.yes t ⊎ IsOn q.yes t) (λ t. IsOn p.no t × IsOn q.no t)
    (λ e t o. elim o [ inl x ↦ none_before old p.yes h.yes.first e t x | inr x ↦ none_before old q.yes k.yes.first e t x ])
    (λ e t o. none_before old p.no h.no.first e t o.0) w in
    record {
      yes = c.in_ok-either.ensures.tells p.yes q.yes h.yes.gains k.yes.gains was.yes;
      no = c.in_ok-both.ensures.tells p.no q.no h.no.gains k.no.gains was.no;
    }

pub either-requires : goal.either-requires
either-requires c = c.requires.own.yes

pub both-requires : goal.both-requires
both-requires c = record { own = c.requires.own.no; first = c.requires.first.no; second = c.requires.second.no }

pub returns-clause-stepped : goal.returns-clause-stepped
returns-clause-stepped c =
    let y = c.in_ok-either.ensures in
    let n = c.in_ok-both.ensures in
    stepped_by c.args.own.now c.either.new.self c.both.new.self c.requires.own (y.tidy, y.bounds, y.gains) (n.tidy, n.bounds, n.gains)
