use Rattle.std.proofs.Common.{◌∙◌, ap, length, subst}
use Rattle.std.specs.Prelude.{IfSome}
use Rattle.value_laws.specs.Kinds.{kleene_shape}
use Rattle.implicants.specs.Keeping.{remaining}
use Rattle.implicants.specs.Needs.{AreToldOfMore}
use Rattle.implicants.specs.Upward.{AreLostEach, AreShortEach}
use Rattle.implicants.proofs.GivenUp.{lost_of_all, lost_told}
use Rattle.implicants.proofs.upward.mark_upward.Goals as goal

pub runs_of-requires : goal.runs_of-requires
runs_of-requires c = record {
  nodes = (subst (λ o. IfSome o (AreToldOfMore kleene_shape c.args.formula.now.nodes c.args.trace.now
      (remaining c.args.left c.args.marks.now.items c.args.cells.now.all.items))) c.in-Some.is c.requires.told).told.count;
  signs = ap length c.deref.ensures.value ∙ c.in_ok-ground.ensures.count;
}

pub mark_from-requires : goal.mark_from-requires
mark_from-requires c =
    let nodes = c.args.formula.now.nodes in
    let tr = c.args.trace.now in
    let all = c.args.cells.now.all.items in
    let marks = c.args.marks.now.items in
    let told = subst (λ o. IfSome o (AreToldOfMore kleene_shape nodes tr (remaining c.args.left marks all))) c.in-Some.is c.requires.told in
    record {
      given = c.requires.given;
      left = c.requires.left;
      signs = c.in_ok-ground.ensures;
      runs = c.in_ok-runs-in-Some.ensures.count;
      lost = lost_told nodes tr all marks c.args.left c.in_ok-ground.ground.signs.items c.in-Some.nodes c.in_ok-runs-in-Some.runs.items told
          (subst (λ ss. AreShortEach kleene_shape ss c.in-Some.nodes c.in_ok-runs-in-Some.runs.items)
          c.deref.ensures.value c.in_ok-runs-in-Some.ensures.short);
    }

pub runs_of_cells-requires : goal.runs_of_cells-requires
runs_of_cells-requires c = record {
  cells = c.requires.given.cells;
  marks = ap length c.deref-in-None.ensures.value ∙ c.requires.given.count;
  signs = ap length c.deref-in-None-2.ensures.value ∙ c.in_ok-ground.ensures.count;
}

pub mark_from-requires-in-None : goal.mark_from-requires-in-None
mark_from-requires-in-None c =
    let nodes = c.args.formula.now.nodes in
    let tr = c.args.trace.now in
    let all = c.args.cells.now.all.items in
    let marks = c.args.marks.now.items in
    let signs = c.in_ok-ground.ground.signs.items in
    let each = c.in_ok-runs-in-None.runs.items in
    record {
      given = c.requires.given;
      left = c.requires.left;
      signs = c.in_ok-ground.ensures;
      runs = c.in_ok-runs-in-None.ensures.count;
      lost = lost_of_all nodes tr all marks c.args.left signs each
          (subst (λ ss. AreLostEach nodes tr all marks (length all) ss each) c.deref-in-None-2.ensures.value
          (subst (λ ms. AreLostEach nodes tr all ms (length all) c.deref-in-None-2.result.now each) c.deref-in-None.ensures.value
          c.in_ok-runs-in-None.ensures.lost));
    }
