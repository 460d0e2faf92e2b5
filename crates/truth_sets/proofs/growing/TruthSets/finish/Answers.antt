use Rattle.std.proofs.Common.{◌∙◌, ◌≤◌, sym, arith}
use Rattle.stl_syntax.proofs.RowsLemmas.{first_to_last}
use Rattle.truth_sets.proofs.StandingLemmas.{domain_is, over_is, ready_first}
use Rattle.truth_sets.proofs.growing.TruthSets.finish.Goals as goal

pub root_of-requires-clause-domain : goal.root_of-requires-clause-domain
root_of-requires-clause-domain c =
    let stands = c.requires.stands in
    let tr = stands.1 in
    let order : c.args.self.first ≤ c.args.last = omega (arith, first_to_last tr stands.4, stands.6, stands.7.first) in
    domain_is _ c.args.self.first c.args.last order c.row_turn.ensures.place c.row_turn-2.ensures.place c.row_turn.ensures.near c.row_turn-2.ensures.near

pub root_of-requires-clause-ready : goal.root_of-requires-clause-ready
root_of-requires-clause-ready c =
    let stands = c.requires.stands in
    let tr = stands.1 in
    let over = over_is _ tr c.args.self.first c.args.last stands.7.first stands.6 c.row_turn.ensures.place c.row_turn-2.ensures.place in (
      tr,
      over,
      ready_first stands.0 c.args.formula.now tr stands.3 stands.4 c.len.ensures.well_formed.nodes.post_order _ stands.2 c.args.self.sets.items over
          (stands.6 ∙ sym stands.5) stands.7.grown,
    )

pub returns : goal.returns
returns c = λ b tr r bound ok at last stands.
    let over = over_is _ tr c.args.self.first c.args.last stands.first last c.row_turn.ensures.place c.row_turn-2.ensures.place in
    let order : c.args.self.first ≤ c.args.last = omega (arith, first_to_last tr ok, last, stands.first) in
    record {
      domain = domain_is _ c.args.self.first c.args.last order c.row_turn.ensures.place c.row_turn-2.ensures.place c.row_turn.ensures.near
          c.row_turn-2.ensures.near;
      over = over;
      told = c.in_ok-times.ensures tr over
          (ready_first b c.args.formula.now tr bound ok c.len.ensures.well_formed.nodes.post_order _ r c.args.self.sets.items over
          (last ∙ sym at) stands.grown);
    }
