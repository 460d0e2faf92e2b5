-- None of the constants before the place is large.
use Rattle.std.proofs.Common.{sym, ◌∙◌, subst, false}
use Rattle.std.proofs.lemmas.List.{take_all}
use Rattle.std.specs.Prelude.{All}
use Rattle.std.proofs.Common.{◌≡◌}
use Rattle.stl_grammar.specs.Building.{is_large}
use Rattle.stl_grammar.specs.Drafts.{nodes_in}
use Rattle.stl_grammar.proofs.BuildLemmas.{first_large, none_yet}
use Rattle.stl_grammar.proofs.build.first_large_constant.Goals as goal

pub loop-i-preserved : goal.loop-i-preserved
loop-i-preserved c =
    none_yet c.args.scale c.args.drafts.now c.loop-i.i c.index-drafts-i.result c.loop-i-test.true c.index-drafts-i.is
    c.loop-i.invariant (sym c.is_large.ensures ∙ c.if-is_large.false)

pub returns-then-is_large : goal.returns-then-is_large
returns-then-is_large c = (
  c.loop-i-test.true,
  first_large c.args.scale c.args.drafts.now c.loop-i.i c.index-drafts-i.result c.loop-i-test.true c.index-drafts-i.is
      c.loop-i.invariant (sym c.is_large.ensures ∙ c.if-is_large.true),
)

pub returns : goal.returns
returns c =
    subst (λ xs. All (λ n. is_large n ≡ false) (nodes_in c.args.scale xs)) (take_all c.loop-i.i c.args.drafts.now c.loop-i-test.false) c.loop-i.invariant
