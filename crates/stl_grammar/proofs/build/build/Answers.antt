use Rattle.std.specs.Prelude.{All}
use Rattle.stl_syntax.specs.Limits.{reach}
use Rattle.stl_grammar.specs.Building.{is_large}
use Rattle.stl_grammar.specs.Drafts.{nodes_in}
use Rattle.std.proofs.Common.{◌≡◌, false, inr, ◌≤◌, ap, sym, ◌∙◌, subst, length}
use Rattle.stl_grammar.proofs.BuildLemmas.{length-nodes_in, reach_fault, no_fault}
use Rattle.stl_grammar.proofs.build.build.Goals as goal

pub total_reach-sum-requires-clause-few : goal.total_reach-sum-requires-clause-few
total_reach-sum-requires-clause-few c =
    subst (λ n. n ≤ 256) (length-nodes_in c.args.scale c.args.drafts.items ∙ ap length (sym c.deref-2.ensures.value)) c.requires.nodes.few

pub returns-then-sum-gt-LONGEST_REACH-clause-fault : goal.returns-then-sum-gt-LONGEST_REACH-clause-fault
returns-then-sum-gt-LONGEST_REACH-clause-fault c =
    inr (reach_fault (nodes_in c.args.scale c.args.drafts.items) c.total_reach-sum.result
    (subst (λ ds. All (λ n. is_large n ≡ false) (nodes_in c.args.scale ds)) c.deref.ensures.value c.in_default.ensures)
    (c.total_reach-sum.ensures ∙ ap (λ ds. reach (nodes_in c.args.scale ds)) c.deref-2.ensures.value) c.if-sum-gt-LONGEST_REACH.true)

pub returns-in-Ok-clause-ok : goal.returns-in-Ok-clause-ok
returns-in-Ok-clause-ok c = record {
  nodes = c.in-Ok.ensures.nodes;
  scale = c.in-Ok.ensures.scale;
  small = no_fault (nodes_in c.args.scale c.args.drafts.items)
      (subst (λ ds. All (λ n. is_large n ≡ false) (nodes_in c.args.scale ds)) c.deref.ensures.value c.in_default.ensures)
      (subst (λ n. n ≤ 4294967295) (c.total_reach-sum.ensures ∙ ap (λ ds. reach (nodes_in c.args.scale ds)) c.deref-2.ensures.value)
      c.if-sum-gt-LONGEST_REACH.false);
}
