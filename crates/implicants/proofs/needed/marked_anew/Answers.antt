use Rattle.std.proofs.Common.{length, sym, subst, ap, ◌∙◌}
use Rattle.std.specs.Prelude.{IfSome}
use Rattle.value_laws.specs.Kinds.{kleene_shape}
use Rattle.implicants.specs.Keeping.{remaining}
use Rattle.implicants.specs.Needs.{AreToldOfMore, MarksNeeded}
use Rattle.implicants.proofs.needed.marked_anew.Goals as goal

pub mark_upward-requires : goal.mark_upward-requires
mark_upward-requires c =
    let nodes = c.args.formula.now.nodes in
    let tr = c.args.trace.now in
    let all = c.args.cells.now.all.items in
    record {
      given = record {
        some = c.requires.given.some;
        cells = c.requires.given.cells;
        count = ap length c.in_ok-marks.ensures ∙ c.requires.given.count;
      };
      left = c.requires.left;
      told = subst (λ ms. IfSome c.args.nodes.now (AreToldOfMore kleene_shape nodes tr (remaining c.args.left ms all))) (sym c.in_ok-marks.ensures)
          c.requires.told;
    }

pub returns-clause-count : goal.returns-clause-count
returns-clause-count c = c.in_ok-mark_upward.ensures.count ∙ ap length c.in_ok-marks.ensures

pub returns-clause-needed : goal.returns-clause-needed
returns-clause-needed c =
    subst (λ ms. MarksNeeded c.args.formula.now.nodes c.args.trace.now c.args.cells.now.all.items c.args.left ms c.mark_upward.new.marks.items)
    c.in_ok-marks.ensures
    c.in_ok-mark_upward.ensures.needed
