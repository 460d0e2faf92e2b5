use Rattle.std.proofs.Common.{◌≡◌, Bool, Some, subst}
use Rattle.std.specs.Prelude.{MatchBool}
use Rattle.growing_sets.proofs.WindowLemmas.{on_good}
use Rattle.early_verdict.specs.Adding.{IsNextRow}
use Rattle.early_verdict.specs.BlockRows.{own_row, previous_row}
use Rattle.early_verdict.proofs.AtomSets.{atom_shown, atom_stepped, grown_none}
use Rattle.early_verdict.proofs.FirstSets.{atom_ended}
use Rattle.early_verdict.proofs.net.step_leaf.Goals as goal

pub step_atom-requires : goal.step_atom-requires
step_atom-requires c = record { own = c.requires.own; atom = c.requires.atom; columns = c.requires.columns }

pub returns-then-entry : goal.returns-then-entry
returns-then-entry c =
    let own = c.args.own.now in
    let new = c.rest.new.own in
    let before = previous_row c.args.next.now in
    let r = own_row c.args.next.now in
    record {
      stepped = atom_stepped own new new c.rest.ensures (grown_none new c.rest.ensures.tidy);
      shown = atom_shown own new new c.rest.ensures (grown_none new c.rest.ensures.tidy);
      fits = λ a old tr goes was. atom_ended a old tr own new
          (subst (λ (b : Bool). MatchBool b (old ≡ Some tr) (IsNextRow a old tr before r)) c.if-entry.true goes.1) c.rest.ensures was;
    }

pub returns : goal.returns
returns c =
    let before = previous_row c.args.next.now in
    let r = own_row c.args.next.now in
    record {
      stepped = c.step_atom.ensures.stepped;
      shown = c.step_atom.ensures.shown;
      fits = on_good c.step_atom.result c.step_atom.ensures.fits (λ f a old tr goes was.
          f a old tr goes.0 (subst (λ (b : Bool). MatchBool b (old ≡ Some tr) (IsNextRow a old tr before r)) c.if-entry.false goes.1) goes.2 was);
    }
