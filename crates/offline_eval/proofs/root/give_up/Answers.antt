use Rattle.std.proofs.Common.{refl, subst, sym}
use Rattle.std.specs.Prelude.{option_to_list}
use Rattle.std.proofs.Math.ListN.{set}
use Rattle.offline_eval.specs.Keeping.{AreGivenUp}
use Rattle.offline_eval.proofs.ChildrenKept.{one_given_up}
use Rattle.offline_eval.specs.Forms.{of_pieces}
use Rattle.offline_eval.proofs.root.give_up.Goals as goal

pub returns : goal.returns
returns g c =
    let old = c.args.done.now.items in
    let spare = c.in_ok-spare.spare in
    subst (λ o. AreGivenUp (of_pieces g.P.Shape) c.args.from c.args.to (option_to_list o) old (set old c.in-Some.place spare)) (sym c.in-Some.is)
    (one_given_up (of_pieces g.P.Shape) c.args.from c.args.to c.in-Some.place old (set old c.in-Some.place spare) spare refl
    (record { sound = c.in_ok-spare.ensures.sound; told = c.in_ok-spare.ensures.told }))
