use Rattle.std.proofs.Common.{pos, sym, subst, ◌∙◌}
use Rattle.std.proofs.lemmas.Bool.{false≢true}
use Rattle.rational.specs.Places.{Before, ends}
use Rattle.rational.specs.Time.{whole}
use Rattle.rational.proofs.PlaceLemmas.{same_before}
use Rattle.frac128.specs.Cuts.{place}
use Rattle.frac128.specs.Spans.{interval}
use Rattle.pieces.specs.Knots.{after}
use Rattle.implicants.proofs.nearby.counts.Goals as goal

pub returns : goal.returns
returns c h =
    let on = interval c.args.run.now.on in
    let last = after (whole (pos c.args.view.last)) in
    record {
      of = c.is_of.ensures c.if-not-is_of.false;
      some = subst (λ x. Before x (ends on)) c.begin-begin.ensures
          (subst (λ x. Before (place c.begin-begin.result) x) c.end-end.ensures (c.precedes-2.ensures.0 h));
      within = λ b. false≢true (sym c.if-precedes.false ∙ c.precedes.ensures.1
          (subst (λ x. Before (place c.end_of.result) x) (sym c.end-end.ensures) (same_before (place c.end_of.result) last (ends on) c.end_of.ensures b)));
    }
