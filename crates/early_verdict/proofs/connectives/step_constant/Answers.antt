use Rattle.growing_sets.proofs.WindowLemmas.{on_good}
use Rattle.early_verdict.specs.Fitting.{ConstantFits}
use Rattle.early_verdict.proofs.AtomSets.{atom_stepped, grown_none}
use Rattle.early_verdict.proofs.FirstSets.{constant_stays, had_none, rested_empty}
use Rattle.early_verdict.proofs.connectives.step_constant.Goals as goal

pub fill-requires : goal.fill-requires
fill-requires c = c.rest.ensures.tidy

pub returns-then-entry : goal.returns-then-entry
returns-then-entry c = record {
  stepped = on_good c.fill.result c.fill.ensures.grown (atom_stepped c.args.own.now c.rest.new.own c.fill.new.own c.rest.ensures);
  fits = on_good c.fill.result c.fill.ensures.fits (λ f old tr h was.
      f (rested_empty c.rest.ensures (had_none c.args.entry.now old tr h c.if-entry.true (λ o. ConstantFits c.args.holds) c.args.own.now was)));
}

pub returns : goal.returns
returns c =
    let own = c.args.own.now in
    let new = c.rest.new.own in
    record {
      stepped = atom_stepped own new new c.rest.ensures (grown_none new c.rest.ensures.tidy);
      fits = λ old tr h was. constant_stays c.args.entry.now old tr c.args.holds own new h c.if-entry.false c.rest.ensures was;
    }
