use Rattle.std.proofs.Common.{◌∙◌, inl, inr, refl}
use Rattle.growing_sets.proofs.HoldingLemmas.{among_at}
use Rattle.early_verdict.proofs.LettingLemmas.{take_one}
use Rattle.early_verdict.proofs.letting.show_first.Goals as goal

pub returns-in_default : goal.returns-in_default
returns-in_default c = inl (refl, refl)

pub returns-then-not-precedes : goal.returns-then-not-precedes
returns-then-not-precedes c = inl (refl, refl)

pub returns : goal.returns
returns c =
    let e = c.in-Some.ensures.some in
    inr (record {
      part = c.in-Some.first;
      among = among_at c.args.own.now.spans.items 0 c.in-Some.first e;
      begins = c.precedes.ensures.0 c.if-not-precedes.false;
      left = c.keep_first.ensures ∙ take_one c.args.own.now.spans.items c.in-Some.first e;
      none = c.clear.ensures;
      bounds = refl;
      other_bounds = refl;
    })
