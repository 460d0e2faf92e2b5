use Rattle.std.proofs.Common.{◌≡◌, None, inl, sym, subst}
use Rattle.std.proofs.lemmas.Option.{IfSome_then}
use Rattle.std.proofs.lemmas.Result.{IfOk-weaker, on_err_weaker}
use Rattle.rational.specs.Time.{◌<ʳ◌, ◌≤ʳ◌}
use Rattle.rational.proofs.Lists.{on_err_anyway}
use Rattle.rational.proofs.PlaceLemmas.{le_of_before}
use Rattle.frac128.specs.Value.{value}
use Rattle.frac128.specs.Cuts.{place}
use Rattle.pl_signal.specs.declared.faults.OpFault.TheVariants as F
use Rattle.pl_signal.proofs.Kept.{none_kept}
use Rattle.pieces.specs.Chains.{stop}
use Rattle.pieces.specs.Sinces.{GoesOver, IsPassFault, Passes}
use Rattle.pieces.proofs.GoingOver.{same_of_order}
use Rattle.pieces.proofs.since.pass.Goals as goal

pub returns-in-Less-clause-wide : goal.returns-in-Less-clause-wide
returns-in-Less-clause-wide g c =
    on_err_weaker c.over_gap.result (λ some. IfSome_then c.over_gap.new.fault some (λ pair w. (c.in-Less.ensures, w))) c.over_gap.ensures.wide

pub at_once-requires-clause-instant : goal.at_once-requires-clause-instant
at_once-requires-clause-instant g c =
    same_of_order c.cmp.result (value c.args.gap.now.from) (value c.args.gap.now.to) c.cmp.ensures c.in_default.not-Less
    (subst (λ t. value c.args.gap.now.from ≤ʳ value t) (sym c.requires.ends)
    (subst (λ s. s ≤ʳ value c.args.until.now.time) (sym c.requires.begins)
    (le_of_before (stop c.args.built.now) (place c.args.until.now) c.requires.later)))

pub returns-in_default-clause-ok : goal.returns-in_default-clause-ok
returns-in_default-clause-ok g c =
    IfOk-weaker c.at_once.result (GoesOver g.P.Shape c.args.gap.now c.args.until.now c.args.built.now c.at_once.new.built)
    (Passes g.P.Shape c.args.gap.now c.args.until.now c.args.built.now c.at_once.new.built) (λ last goes. inl goes) c.at_once.ensures

pub returns-in_default-clause-still : goal.returns-in_default-clause-still
returns-in_default-clause-still g c =
    IfOk-weaker c.at_once.result (GoesOver g.P.Shape c.args.gap.now c.args.until.now c.args.built.now c.at_once.new.built)
    (λ _. c.args.fault.now ≡ None) (λ _ _. c.requires.none) c.at_once.ensures

pub returns-in_default-clause-wide : goal.returns-in_default-clause-wide
returns-in_default-clause-wide g c =
    on_err_anyway c.at_once.result (none_kept (λ pair. (value c.args.gap.now.from <ʳ value c.args.gap.now.to)
    × IsPassFault g.P.Shape c.args.gap.now c.args.built.now (F.Wide pair)) c.args.fault.now c.requires.none)
