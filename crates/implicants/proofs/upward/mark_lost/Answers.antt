use Rattle.std.proofs.Common.{◌≡◌, ◌∙◌, Some, ap, inl, inr, length, refl, subst, sym}
use Rattle.std.specs.Prelude.{slice_get, slice_index_or}
use Rattle.std.proofs.lemmas.Result.{on_ok_weaker}
use Rattle.implicants.specs.Needs.{IsNeeded}
use Rattle.implicants.specs.Upward.{AreLost, AreLostEach, Settles}
use Rattle.implicants.proofs.GivenUp.{lost_marked, lost_next, lost_settled, lost_without}
use Rattle.implicants.proofs.AddedRuns.{no_run}
use Rattle.implicants.proofs.upward.mark_lost.Goals as goal

pub returns-then-index-clause-lost : goal.returns-then-index-clause-lost
returns-then-index-clause-lost c = lost_next c.args.formula.now.nodes c.args.trace.now c.args.cells.now.all.items c.args.marks.now.items c.args.c
    c.args.ground.now.signs.items c.args.runs.now.items c.requires.lost

pub returns-then-index-clause-put : goal.returns-then-index-clause-put
returns-then-index-clause-put c = inl refl

pub is_needed-requires : goal.is_needed-requires
is_needed-requires c =
    let nodes = c.args.formula.now.nodes in
    let tr = c.args.trace.now in
    let all = c.args.cells.now.all.items in
    let marks = c.args.marks.now.items in
    let signs = c.args.ground.now.signs.items in
    let each = c.args.runs.now.items in
    record {
      given = record {
        some = c.requires.given.some;
        cells = c.requires.given.cells;
        count = ap length c.deref-2.ensures.value ∙ c.requires.given.count;
      };
      inside = c.requires.inside;
      signs = c.requires.signs;
      runs = ap length c.deref.ensures.value ∙ c.requires.runs;
      lost = subst (λ ms. AreLostEach nodes tr all ms c.args.c signs c.deref.result.now) (sym c.deref-2.ensures.value)
          (subst (λ es. AreLostEach nodes tr all marks c.args.c signs es) (sym c.deref.ensures.value)
          (lost_without nodes tr all marks c.args.c signs each c.requires.lost));
      gained = λ some within j r at. absurd (no_run j r (subst (λ l. slice_get l j ≡ Some r) c.new-gained.ensures.items at));
      chains = c.requires.chains;
    }

pub returns-then-needed-clause-put : goal.returns-then-needed-clause-put
returns-then-needed-clause-put c = inr (
  refl,
  subst (λ ms. IsNeeded c.args.formula.now.nodes c.args.trace.now c.args.cells.now.all.items ms c.args.c) c.deref-2.ensures.value
      (c.in_ok-needed.ensures.needed c.if-needed.true),
)

pub returns-then-needed-clause-lost : goal.returns-then-needed-clause-lost
returns-then-needed-clause-lost c = lost_marked c.args.formula.now.nodes c.args.trace.now c.args.cells.now.all.items c.args.marks.now.items c.args.c
    c.args.ground.now.signs.items c.args.runs.now.items c.requires.lost

pub returns-clause-put : goal.returns-clause-put
returns-clause-put c = on_ok_weaker c.settle.result (λ settles. inl refl) c.settle.ensures.settles

pub returns-clause-runs : goal.returns-clause-runs
returns-clause-runs c = c.settle.ensures.count

pub returns-clause-lost : goal.returns-clause-lost
returns-clause-lost c = on_ok_weaker c.settle.result (λ settles.
    let nodes = c.args.formula.now.nodes in
    let tr = c.args.trace.now in
    let all = c.args.cells.now.all.items in
    let marks = c.args.marks.now.items in
    let signs = c.args.ground.now.signs.items in
    let each = c.args.runs.now.items in
    let gained = c.is_needed.new.gained.items in
    lost_settled nodes tr all marks c.args.c signs gained each c.settle.new.runs.items c.requires.lost
    (subst (λ ms. AreLost nodes tr all ms c.args.c signs gained) c.deref-2.ensures.value c.in_ok-needed.ensures.gained)
    (sym (subst (λ b. b ≡ slice_index_or marks c.args.c b) c.if-index.false c.index.ensures))
    (subst (λ g. Settles g each c.settle.new.runs.items) c.deref-3.ensures.value settles)) c.settle.ensures.settles

pub returns-then-index-clause-chains : goal.returns-then-index-clause-chains
returns-then-index-clause-chains c = c.requires.chains

pub returns-then-needed-clause-chains : goal.returns-then-needed-clause-chains
returns-then-needed-clause-chains c = c.is_needed.ensures.chains

pub returns-clause-chains : goal.returns-clause-chains
returns-clause-chains c = c.is_needed.ensures.chains
