-- One node more.
use Rattle.std.proofs.Common.{◌∙◌, ap, arith}
use Rattle.std.proofs.lemmas.List.{take_all}
use Rattle.stl_syntax.specs.Limits.{reach}
use Rattle.stl_grammar.specs.Drafts.{nodes_in}
use Rattle.stl_grammar.proofs.BuildLemmas.{reach_more}
use Rattle.stl_grammar.proofs.build.total_reach.Goals as goal

pub loop-draft-preserved : goal.loop-draft-preserved
loop-draft-preserved c = (
  omega (
    arith,
    reach_more c.args.scale c.args.drafts.now c.loop-draft.draft-index c.draft-item.result c.loop-draft-test.true c.draft-item.is,
    c.loop-draft.invariant.0,
    c.own_reach-sum.ensures.value,
  ),
  omega (arith, c.loop-draft.invariant.1, c.own_reach-sum.ensures.small),
)

pub returns : goal.returns
returns c = c.loop-draft.invariant.0 ∙ ap (λ xs. reach (nodes_in c.args.scale xs)) (take_all c.loop-draft.draft-index c.args.drafts.now c.loop-draft-test.false)
