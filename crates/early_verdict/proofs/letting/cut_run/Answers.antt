use Rattle.std.proofs.Common.{refl, sym, subst, Option, Some}
use Rattle.std.specs.Prelude.{MatchOption}
use Rattle.frac128.specs.Value.{value}
use Rattle.early_verdict.specs.Fitting.{ArePartsTidy}
use Rattle.early_verdict.specs.Letting.{ArePartsCut, IsFailingInside, IsHoldingInside}
use Rattle.growing_sets.specs.declared.stretch.Stretch.{Stretch}
use Rattle.early_verdict.specs.declared.sets.Parts.{Parts}
use Rattle.early_verdict.proofs.letting.cut_run.Goals as goal

abbrev IsInside : Stretch → Option Parts → Type 0
IsInside wide o = MatchOption o (Unit {0}) (λ x. IsHoldingInside x.holding × IsFailingInside wide x.failing)

pub cut_holding-requires-clause-tidy : goal.cut_holding-requires-clause-tidy
cut_holding-requires-clause-tidy c =
    let t : ArePartsTidy c.in-Some.parts = subst (λ (o : Option Parts). MatchOption o (Unit {0}) ArePartsTidy) c.in-Some.is c.requires.tidy.parts in t.holding

pub cut_holding-requires-clause-inside : goal.cut_holding-requires-clause-inside
cut_holding-requires-clause-inside c = (subst (λ (o : Option Parts). IsInside c.args.wide o) c.in-Some.is c.requires.inside).0

pub cut_failing-requires-clause-tidy : goal.cut_failing-requires-clause-tidy
cut_failing-requires-clause-tidy c =
    let t : ArePartsTidy c.in-Some.parts = subst (λ (o : Option Parts). MatchOption o (Unit {0}) ArePartsTidy) c.in-Some.is c.requires.tidy.parts in t.failing

pub cut_failing-requires-clause-inside : goal.cut_failing-requires-clause-inside
cut_failing-requires-clause-inside c = (subst (λ (o : Option Parts). IsInside c.args.wide o) c.in-Some.is c.requires.inside).1

pub returns-in-None : goal.returns-in-None
returns-in-None c = record {
  yes = refl;
  no = refl;
  parts = subst (λ (o : Option Parts). ArePartsCut (value c.args.first.now.time) (value c.args.cut.now.time) c.args.wide o o) (sym c.in-None.is) refl;
}

pub returns-in-Some : goal.returns-in-Some
returns-in-Some c = record {
  yes = refl;
  no = refl;
  parts = subst (λ (o : Option Parts). ArePartsCut (value c.args.first.now.time) (value c.args.cut.now.time) c.args.wide o
      (Some (record { holding = c.cut_holding.new.own; failing = c.cut_failing.new.own }))) (sym c.in-Some.is) (c.cut_holding.ensures, c.cut_failing.ensures);
}
