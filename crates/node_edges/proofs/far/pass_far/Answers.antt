use Rattle.std.proofs.Common.{◌<◌, ◌+◌, ◌∙◌, length, sym, subst}
use Rattle.std.proofs.lemmas.Bool.{true≢false}
use Rattle.node_edges.specs.Queues.{list_of, waiting_list}
use Rattle.node_edges.proofs.FarLemmas.{waiting_there}
use Rattle.node_edges.proofs.FarSteps.{after_read_whole, read_part, IsWhole}
use Rattle.node_edges.proofs.far.pass_far.Given.{Over}
use Rattle.node_edges.proofs.far.pass_far.Goals as goal
use Rattle.node_edges.proofs.far.pass_far.Goals.{After-is_whole}

pub is_whole-requires-clause-some : goal.is_whole-requires-clause-some
is_whole-requires-clause-some g c =
    subst (λ n. 0 < length (list_of c.args.pool.now.all n)) (sym c.waiting_of-list.ensures) (waiting_there c.requires.far.is c.requires.some)

-- whether the block is read whole
whole_is : (g : Over) (c : After-is_whole g) → IsWhole (list_of c.args.pool.now.all c.waiting_of-list.result) (c.args.far.now.begun + 1)
    → IsWhole (list_of c.args.pool.now.all (waiting_list c.args.edge)) (c.args.far.now.begun + 1)
whole_is g c whole = subst (λ n. IsWhole (list_of c.args.pool.now.all n) (c.args.far.now.begun + 1)) c.waiting_of-list.ensures whole

part_is : (g : Over) (c : After-is_whole g) → (IsWhole (list_of c.args.pool.now.all c.waiting_of-list.result) (c.args.far.now.begun + 1) → ⊥)
    → IsWhole (list_of c.args.pool.now.all (waiting_list c.args.edge)) (c.args.far.now.begun + 1) → ⊥
part_is g c part whole = part (subst (λ n. IsWhole (list_of c.args.pool.now.all n) (c.args.far.now.begun + 1)) (sym c.waiting_of-list.ensures) whole)

pub returns-then-not-is_whole-clause-read : goal.returns-then-not-is_whole-clause-read
returns-then-not-is_whole-clause-read g c =
    let here = (goal.at.returns-then-not-is_whole-clause-read g c).After-is_whole in
    (read_part _ _ c.args.far.now c.requires.far.is c.requires.some
    (part_is g here (λ w. true≢false (sym (c.is_whole.ensures.1 w) ∙ c.if-not-is_whole.true)))).0

pub returns-then-not-is_whole-clause-far : goal.returns-then-not-is_whole-clause-far
returns-then-not-is_whole-clause-far g c =
    let here = (goal.at.returns-then-not-is_whole-clause-far g c).After-is_whole in
    record {
      lists = c.requires.far.lists;
      fits = c.requires.far.fits;
      is = (read_part _ _ c.args.far.now c.requires.far.is c.requires.some
          (part_is g here (λ w. true≢false (sym (c.is_whole.ensures.1 w) ∙ c.if-not-is_whole.true)))).1;
    }

pub returns-clause-read : goal.returns-clause-read
returns-clause-read g c =
    let here = (goal.at.returns-clause-read g c).After-is_whole in
    (after_read_whole c.args.pool.now.all c.pass.new.self.all c.args.edge c.waiting_of-list.result c.seen_of.result c.args.far.now
    c.requires.far c.waiting_of-list.ensures c.seen_of.ensures c.pass.ensures.passed c.requires.some
    (whole_is g here (c.is_whole.ensures.0 c.if-not-is_whole.false))).0

pub returns-clause-far : goal.returns-clause-far
returns-clause-far g c =
    let here = (goal.at.returns-clause-far g c).After-is_whole in
    (after_read_whole c.args.pool.now.all c.pass.new.self.all c.args.edge c.waiting_of-list.result c.seen_of.result c.args.far.now
    c.requires.far c.waiting_of-list.ensures c.seen_of.ensures c.pass.ensures.passed c.requires.some
    (whole_is g here (c.is_whole.ensures.0 c.if-not-is_whole.false))).1
