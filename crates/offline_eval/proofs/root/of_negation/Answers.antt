use Rattle.std.proofs.Common.{◌≡◌, Some, length, refl, sym, ap, subst}
use Rattle.std.specs.Prelude.{slice_get, slice_set}
use Rattle.std.proofs.lemmas.Option.{slice_get_read}
use Rattle.stl_syntax.specs.Formula.{negation}
use Rattle.stl_syntax.specs.declared.node.Node.TheVariants.{Not}
use Rattle.offline_eval.specs.Forms.{of_pieces}
use Rattle.offline_eval.proofs.ChildrenKept.{one_given_up}
use Rattle.offline_eval.proofs.NodeLemmas.{HasOne, one_sound, one_told}
use Rattle.offline_eval.proofs.root.of_negation.Given.{Over}
use Rattle.offline_eval.proofs.root.of_negation.Goals.{After-replace-operand}
use Rattle.offline_eval.proofs.root.of_negation.Goals as goal

-- the operand stood at the place
there : (g : Over) (c : After-replace-operand g) → slice_get c.args.done.now.items c.args.place ≡ Some c.replace-operand.result
there g c =
    let old = c.args.done.now.items in
    subst (λ x. slice_get old c.args.place ≡ Some x) (sym c.replace-operand.ensures.value)
    (slice_get_read old (length old) c.args.place c.index_mut.result.now refl c.requires.inside c.index_mut.ensures.value)

pub turned_over-requires : goal.turned_over-requires
turned_over-requires g c =
    (c.requires.sound c.args.place c.replace-operand.result (there g (goal.at.turned_over-requires g c).After-replace-operand)).limited

pub returns-clause-sound : goal.returns-clause-sound
returns-clause-sound g c =
    one_sound (of_pieces g.P.Shape) c.args.from c.args.to (Not c.args.place) c.args.place 0 c.args.done.now.items c.replace-operand.result
    c.turned_over.result (there g (goal.at.returns-clause-sound g c).After-replace-operand) refl c.turned_over.ensures.sound

pub returns-clause-told : goal.returns-clause-told
returns-clause-told g c =
    let has : HasOne (Not c.args.place) c.args.place c.args.done.now.items c.replace-operand.result negation = record {
      at_p = there g (goal.at.returns-clause-told g c).After-replace-operand;
      is = λ at i. refl;
    } in
    one_told (of_pieces g.P.Shape) c.args.from c.args.to c.turned_over.result has c.turned_over.ensures.told

pub returns-clause-given : goal.returns-clause-given
returns-clause-given g c =
    let old = c.args.done.now.items in
    let spare = c.in_ok-spare.spare in
    one_given_up (of_pieces g.P.Shape) c.args.from c.args.to c.args.place old (slice_set old c.args.place c.replace-operand.new.dest) spare
    (ap (λ x. slice_set old c.args.place x) c.replace-operand.ensures.after)
    (record { sound = c.in_ok-spare.ensures.sound; told = c.in_ok-spare.ensures.told })
