use Rattle.std.proofs.Common.{◌≡◌, true, false, refl, sym, ◌∙◌}
use Rattle.std.specs.Prelude.{IsTrue, IsFalse}
use Rattle.growing_sets.proofs.AddLemmas.{adds_some}
use Rattle.growing_sets.proofs.WindowLemmas.{on_good}
use Rattle.early_verdict.proofs.AtomSets.{grown_none}
use Rattle.early_verdict.proofs.FirstSets.{filled_says}
use Rattle.early_verdict.proofs.SetsTell.{tells_none}
use Rattle.early_verdict.proofs.connectives.fill.Goals as goal

pub returns-then-holds : goal.returns-then-holds
returns-then-holds c = record {
  grown = on_good c.add.result c.add.ensures.ok (λ a. record {
    tidy = record { yes = a.tidy; no = c.requires.no; parts = c.requires.parts };
    parts = refl;
    yes = adds_some a;
    no = (grown_none c.args.own.now c.requires).no;
  });
  fits = on_good c.add.result c.add.ensures.ok (λ a empty. record {
    yes = filled_says c.bounds-all.result (λ t. IsTrue c.args.holds) c.bounds-all.ensures empty.yes a (λ t. c.if-holds.true);
    no = tells_none empty.no (λ t p. let x : true ≡ false = sym c.if-holds.true ∙ p in cc);
  });
}

pub returns : goal.returns
returns c = record {
  grown = on_good c.add-2.result c.add-2.ensures.ok (λ a. record {
    tidy = record { yes = c.requires.yes; no = a.tidy; parts = c.requires.parts };
    parts = refl;
    yes = (grown_none c.args.own.now c.requires).yes;
    no = adds_some a;
  });
  fits = on_good c.add-2.result c.add-2.ensures.ok (λ a empty. record {
    yes = tells_none empty.yes (λ t p. let x : true ≡ false = sym p ∙ c.if-holds.false in cc);
    no = filled_says c.bounds-all-2.result (λ t. IsFalse c.args.holds) c.bounds-all-2.ensures empty.no a (λ t. c.if-holds.false);
  });
}
