use Rattle.std.proofs.Common.{◌∙◌, sym, ap, subst}
use Rattle.std.specs.Prelude.{Result, Ok, Err, IfOk}
use Rattle.std.proofs.lemmas.Result.{IfOk-weaker, IfErr-weaker}
use Rattle.offline_eval.specs.Inputs.{atoms_before, TellAtomsBelow}
use Rattle.offline_eval.specs.Forms.{of_pieces}
use Rattle.offline_eval.proofs.NextNode.{all_told}
use Rattle.offline_eval.proofs.chains.eval_chains.Goals as goal

pub first_chains-requires-clause-count : goal.first_chains-requires-clause-count
first_chains-requires-clause-count g c = c.requires.count ∙ ap (atoms_before c.args.formula.now.nodes) (sym c.len.ensures.count)

both : {A E : Type 0} (r : Result A E) (P Q R : A → Type 0) → ((x : A) → P x → Q x → R x) → IfOk r P → IfOk r Q → IfOk r R
both (Ok x) P Q R f p q = f x p q
both (Err e) P Q R f p q = tt

pub returns : goal.returns
returns g c =
    let nodes = c.args.formula.now.nodes in
    let same = c.len.ensures.count in
    record {
      count = IfOk-weaker c.first_chains.result _ _ (λ r h. h ∙ same) c.first_chains.ensures.count;
      sound = c.first_chains.ensures.sound;
      told = both c.first_chains.result _ _ _
          (λ r count told s over atoms. all_told (of_pieces g.P.Shape) nodes s r (count ∙ same)
          (told s over (subst (λ n. TellAtomsBelow g.P.Shape n nodes c.args.atoms s) (sym same) atoms)))
          c.first_chains.ensures.count c.first_chains.ensures.told;
      wide = IfErr-weaker c.first_chains.result _ _
          (λ e h s over atoms. h s over (subst (λ n. TellAtomsBelow g.P.Shape n nodes c.args.atoms s) (sym same) atoms)) c.first_chains.ensures.wide;
      steps = c.tick.ensures;
    }
