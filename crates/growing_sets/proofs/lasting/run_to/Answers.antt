use Rattle.frac128.specs.Cuts.{place}
use Rattle.rational.proofs.PlaceLemmas.{not_both, at_most_of_not_before}
use Rattle.growing_sets.proofs.SpanLemmas.{on_at, reaches_at}
use Rattle.growing_sets.proofs.RunLemmas.{gap_before}
use Rattle.growing_sets.proofs.HoldingLemmas.{among_at}
use Rattle.growing_sets.proofs.LastingLemmas.{gap_at}
use Rattle.growing_sets.proofs.lasting.run_to.Goals as goal

pub returns-in-Some-clause-run : goal.returns-in-Some-clause-run
returns-in-Some-clause-run c =
    let spans = c.args.spans.now.items in
    let last = place c.args.last.now in
    let at = c.reaching.result in
    let next = c.in-Some.next in
    let e = c.in-Some.ensures.some.0 in
    record {
      at_most = at_most_of_not_before (place next.from) last c.in-Some.ensures.some.1;
      holds = λ t a u.
          on_at spans at next t e (a, at_most_of_not_before last (place next.to) (reaches_at last spans at next c.reaching.ensures.rest e) t u);
      gap = λ d b. gap_before spans next d c.requires.tidy (among_at spans at next e) b;
    }

pub returns-in-None-clause-run : goal.returns-in-None-clause-run
returns-in-None-clause-run c =
    let spans = c.args.spans.now.items in
    let last = place c.args.last.now in
    let at = c.reaching.result in
    record {
      at_most = λ t u. u;
      holds = λ t a u. absurd (not_both last t u a);
      gap = λ d b. gap_at spans at d last c.requires.tidy c.reaching.ensures.front c.in-None.ensures.none b;
    }
