use Rattle.std.proofs.Common.{true, false, refl, sym, subst}
use Rattle.early_verdict.specs.Adding.{HasAdded, Piece}
use Rattle.frac128.specs.Cuts.{place}
use Rattle.early_verdict.specs.declared.sets.Sets.{Sets}
use Rattle.growing_sets.proofs.AddLemmas.{adds_alike, adds_none}
use Rattle.early_verdict.proofs.atoms.add_truth.Goals as goal

pub returns-then-holds : goal.returns-then-holds
returns-then-holds c =
    let own = c.args.own.now in
    let new : Sets = record { yes = c.add.new.self; no = own.no; parts = own.parts } in
    let from = place c.args.from in
    let to = place c.args.to in
    subst (λ h. HasAdded own new (Piece h from to)) (sym c.if-holds.true) (record {
      tidy = record { yes = c.in_ok-add.ensures.ok.tidy; no = c.requires.no; parts = c.requires.parts };
      parts = refl;
      yes = adds_alike c.in_ok-add.ensures.ok (λ t l h. (refl, h.0, h.1)) (λ t l h. (h.1, h.2));
      no = adds_none (Piece true from to false) c.requires.no (λ t l h. let e = h.0 in cc);
    })

pub returns : goal.returns
returns c =
    let own = c.args.own.now in
    let new : Sets = record { yes = own.yes; no = c.add-2.new.self; parts = own.parts } in
    let from = place c.args.from in
    let to = place c.args.to in
    subst (λ h. HasAdded own new (Piece h from to)) (sym c.if-holds.false) (record {
      tidy = record { yes = c.requires.yes; no = c.in_ok-add-2.ensures.ok.tidy; parts = c.requires.parts };
      parts = refl;
      yes = adds_none (Piece false from to true) c.requires.yes (λ t l h. let e = h.0 in cc);
      no = adds_alike c.in_ok-add-2.ensures.ok (λ t l h. (refl, h.0, h.1)) (λ t l h. (h.1, h.2));
    })
