use Rattle.std.proofs.Common.{refl}
use Rattle.rational.specs.Places.{After, Upto}
use Rattle.frac128.specs.Cuts.{place}
use Rattle.growing_sets.proofs.AddLemmas.{adds_none, adds_part}
use Rattle.growing_sets.proofs.WindowLemmas.{on_good}
use Rattle.growing_sets.proofs.grown.Grown.add.Goals as goal

pub returns-in_default-clause-ok : goal.returns-in_default-clause-ok
returns-in_default-clause-ok c =
    adds_none (λ t. After (place c.args.from) t × Upto (place c.args.to) t) c.requires
    (λ t b p. c.in_default.ensures.none t p.0 p.1 b)

pub returns-in-Behind-clause-ok : goal.returns-in-Behind-clause-ok
returns-in-Behind-clause-ok c =
    on_good c.put_last.result c.put_last.ensures
    (λ a. adds_part a refl (λ t h. let x = (c.in-Some.ensures.some t).0 h in (x.2, (x.0, x.1))) (λ t b p. (c.in-Some.ensures.some t).1 (p.0, p.1, b)))

pub returns-in-In-clause-ok : goal.returns-in-In-clause-ok
returns-in-In-clause-ok c =
    on_good c.lengthen.result c.lengthen.ensures
    (λ a. adds_part a refl (λ t h. let x = (c.in-Some.ensures.some t).0 h in (x.2, (x.0, x.1))) (λ t b p. (c.in-Some.ensures.some t).1 (p.0, p.1, b)))

pub returns-in-Anywhere-clause-ok : goal.returns-in-Anywhere-clause-ok
returns-in-Anywhere-clause-ok c =
    on_good c.put_in.result c.put_in.ensures
    (λ a. adds_part a refl (λ t h. let x = (c.in-Some.ensures.some t).0 h in (x.2, (x.0, x.1))) (λ t b p. (c.in-Some.ensures.some t).1 (p.0, p.1, b)))
