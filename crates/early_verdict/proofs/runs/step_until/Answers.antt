use Rattle.std.proofs.Common.{◌≡◌, true, false, Option, subst}
use Rattle.early_verdict.specs.Fitting.{UntilHolding, UntilFailing}
use Rattle.std.specs.Prelude.{IsSome}
use Rattle.early_verdict.specs.declared.sets.Parts.{Parts}
use Rattle.early_verdict.proofs.AtomSets.{atom_stepped, grown_none}
use Rattle.early_verdict.proofs.PartSets.{fail_bounds_of, parts_can, parts_keep, parts_were}
use Rattle.early_verdict.proofs.runs.step_until.Goals as goal

pub returns-clause-fits : goal.returns-clause-fits
returns-clause-fits c = λ old tr p q a b is way h hp hq bounds some w.
    let s = c.args.own.now in
    let x = c.in-Some.parts in
    let f = fail_bounds_of s x c.in-Some.is c.args.p.now bounds in
    let were = parts_were s x c.in-Some.is (λ o. UntilHolding o a b p q) (λ o. UntilFailing false o a b p q) old w in (
      c.in_ok-until_holds.ensures.fits old tr p q a b is way h hp hq were.0,
      c.in_ok-until_fails.ensures.fits old tr p q a b is way h hp hq f.0 f.1 were.1,
      record {
        yes = c.in_ok-both.ensures.tells x.holding.some.spans.items x.holding.each.spans.items
            c.in_ok-until_holds.ensures.gains.some c.in_ok-until_holds.ensures.gains.each were.2.yes;
        no = c.in_ok-either.ensures.tells x.failing.never.spans.items x.failing.broken.spans.items
            c.in_ok-until_fails.ensures.gains.never c.in_ok-until_fails.ensures.gains.broken were.2.no;
      },
    )

pub returns-in_default-clause-stepped : goal.returns-in_default-clause-stepped
returns-in_default-clause-stepped c = atom_stepped c.args.own.now c.rest.new.own c.rest.new.own c.rest.ensures (grown_none c.rest.new.own c.rest.ensures.tidy)

pub returns-in_default-clause-fits : goal.returns-in_default-clause-fits
returns-in_default-clause-fits c = λ old tr p q a b is way h hp hq bounds some was.
    let s = subst (λ (o : Option Parts). IsSome o) c.in_default.is some in absurd (let x : false ≡ true = s in cc)

pub until_holds-requires : goal.until_holds-requires
until_holds-requires c = record {
  own = (parts_can c.args.own.now c.in-Some.parts c.in-Some.is c.requires.own).0;
  left = c.requires.left;
  right = c.requires.right;
}

pub until_fails-requires : goal.until_fails-requires
until_fails-requires c = record {
  own = (parts_can c.args.own.now c.in-Some.parts c.in-Some.is c.requires.own).1;
  left = c.requires.left;
  right = c.requires.right;
}

pub both-requires : goal.both-requires
both-requires c = record {
  own = c.requires.own.tidy.yes;
  first = c.in_ok-until_holds.ensures.tidy.some;
  second = c.in_ok-until_holds.ensures.tidy.each;
}

pub either-requires : goal.either-requires
either-requires c = c.requires.own.tidy.no

pub returns-clause-stepped : goal.returns-clause-stepped
returns-clause-stepped c = record {
  tidy = record {
    yes = c.in_ok-both.ensures.tidy;
    no = c.in_ok-either.ensures.tidy;
    parts = record { holding = c.in_ok-until_holds.ensures.tidy; failing = c.in_ok-until_fails.ensures.tidy };
  };
  yes = c.in_ok-both.ensures.bounds;
  no = c.in_ok-either.ensures.bounds;
  parts = parts_keep c.args.own.now c.in-Some.parts c.in-Some.is (record { holding = c.until_holds.new.own; failing = c.until_fails.new.own })
      c.in_ok-until_holds.ensures.bounds c.in_ok-until_fails.ensures.bounds;
  gains_yes = c.in_ok-both.ensures.gains;
  gains_no = c.in_ok-either.ensures.gains;
}
