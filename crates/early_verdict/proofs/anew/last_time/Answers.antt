use Rattle.std.proofs.Common.{refl}
use Rattle.frac128.specs.Cuts.{place}
use Rattle.early_verdict.proofs.AnewLemmas.{at_last, on_right}
use Rattle.early_verdict.proofs.anew.last_time.Goals as goal

pub returns : goal.returns
returns c =
    let end = c.in_ok-end.end in
    let h = at_last c.args.spans.now.items c.args.part.now (place end) c.in_ok-end.ensures.some (on_right end.side c.if-end-eq0.false) in
    (h.0, h.1, refl)
