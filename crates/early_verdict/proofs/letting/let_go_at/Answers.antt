use Rattle.std.proofs.Common.{◌∙◌, ap, sym, subst, Some, arith}
use Rattle.std.proofs.lemmas.Option.{same_Some}
use Rattle.early_verdict.specs.Standing.{IsOperator}
use Rattle.early_verdict.proofs.NodeSets.{few_of, inside_of, shed_net, tidy_of}
use Rattle.early_verdict.proofs.letting.let_go_at.Goals as goal

pub shed_at-requires : goal.shed_at-requires
shed_at-requires c =
    let o = c.requires.operator in
    let st = c.requires.stands.1 in
    let within = c.requires.within in
    record {
      live = let few = few_of c.args.live.now c.args.i o st in omega (arith, few, within);
      shown = let count = st.have.shown_count in omega (arith, count, within);
      tidy = tidy_of c.args.live.now c.args.i o st;
      inside = inside_of c.args.live.now c.args.i o st;
    }

-- a since that has a bound
pub let_go_bounded-requires : goal.let_go_bounded-requires
let_go_bounded-requires c = (
  c.args.formula.now.nodes,
  c.requires.stands.0,
  c.in-Some.ensures.0,
  record {
    formed = c.requires.formed;
    here = c.node-node.ensures.node ∙ ap Some c.in-Some.ensures.1;
    stands = shed_net _ _ c.requires.operator c.requires.stands.1 c.shed_at.ensures;
  },
)

pub returns-in-Some-clause-count : goal.returns-in-Some-clause-count
returns-in-Some-clause-count c = c.let_go_bounded.ensures.count ∙ c.shed_at.ensures.count

pub returns-in-Some-clause-stands : goal.returns-in-Some-clause-stands
returns-in-Some-clause-stands c = λ tr st. c.let_go_bounded.ensures.stands c.args.formula.now.nodes tr c.in-Some.ensures.0 (record {
  formed = c.requires.formed;
  here = c.node-node.ensures.node ∙ ap Some c.in-Some.ensures.1;
  stands = shed_net _ _ c.requires.operator st c.shed_at.ensures;
})

-- one that has none
pub let_go_endless-requires : goal.let_go_endless-requires
let_go_endless-requires c = (
  c.args.formula.now.nodes,
  c.requires.stands.0,
  record {
    formed = c.requires.formed;
    here = c.node-node.ensures.node ∙ ap Some c.in-Some-endless_since.ensures;
    stands = shed_net _ _ c.requires.operator c.requires.stands.1 c.shed_at.ensures;
  },
)

pub returns-in-Some-endless_since-clause-count : goal.returns-in-Some-endless_since-clause-count
returns-in-Some-endless_since-clause-count c = c.let_go_endless.ensures.count ∙ c.shed_at.ensures.count

pub returns-in-Some-endless_since-clause-stands : goal.returns-in-Some-endless_since-clause-stands
returns-in-Some-endless_since-clause-stands c = λ tr st. c.let_go_endless.ensures.stands c.args.formula.now.nodes tr (record {
  formed = c.requires.formed;
  here = c.node-node.ensures.node ∙ ap Some c.in-Some-endless_since.ensures;
  stands = shed_net _ _ c.requires.operator st c.shed_at.ensures;
})

-- another operator
pub let_go_asked-requires : goal.let_go_asked-requires
let_go_asked-requires c = record {
  operator = subst IsOperator (same_Some _ _ (sym c.requires.operator.1 ∙ c.node-node.ensures.node)) c.requires.operator.2;
  stands = (
    c.args.formula.now.nodes,
    c.requires.stands.0,
    record {
      formed = c.requires.formed;
      here = c.node-node.ensures.node;
      stands = shed_net _ _ c.requires.operator c.requires.stands.1 c.shed_at.ensures;
    },
  );
}

pub returns-clause-count : goal.returns-clause-count
returns-clause-count c = c.let_go_asked.ensures.count ∙ c.shed_at.ensures.count

pub returns-clause-stands : goal.returns-clause-stands
returns-clause-stands c = λ tr st. c.let_go_asked.ensures.stands c.args.formula.now.nodes tr (record {
  formed = c.requires.formed;
  here = c.node-node.ensures.node;
  stands = shed_net _ _ c.requires.operator st c.shed_at.ensures;
})
