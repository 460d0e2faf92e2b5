use Rattle.std.proofs.Common.{rules, ◌≡◌, ◌<◌, ◌∙◌, sym, ap, subst, [], ◌∷◌, ◌++◌, length, take, arith}
use Rattle.std.proofs.lemmas.List.{length-take}
use Rattle.std.proofs.lemmas.List.Elements.{All-weaker}
use Rattle.stl_syntax.specs.Formula.{subformula, tree_of, HasChildrenBelow}
use Rattle.stl_syntax.specs.Limits.{own_reach}
use Rattle.stl_syntax.specs.PostOrder.{children}
use Rattle.stl_syntax.proofs.PostOrderLemmas.{children_below}
use Rattle.offline_eval.specs.Evaluation.{IsFault}
use Rattle.offline_eval.specs.Keeping.{kept, AreGivenUp, IsStack, TellsStack}
use Rattle.offline_eval.specs.Making.{IsFaultOf, IsSound, TellsValue}
use Rattle.offline_eval.specs.Places.{reach_before}
use Rattle.offline_eval.proofs.NextNode.{all_more, fault_is, reach_within}
use Rattle.offline_eval.proofs.ChildrenKept.{as_many, given_in_all, kept_agrees, stack_next, stack_on}
use Rattle.offline_eval.proofs.Places.{sum_on}
use Rattle.offline_eval.specs.Forms.{of_pieces}
use Rattle.offline_eval.proofs.root.Stack.make.Goals as goal

pub of_next-requires-clause-kind : goal.of_next-requires-clause-kind
of_next-requires-clause-kind g c = c.requires.kind c.node-next.result.now c.node-next.ensures.node

pub of_next-requires-clause-children : goal.of_next-requires-clause-children
of_next-requires-clause-children g c = subst (λ k. HasChildrenBelow k c.node-next.result.now)
    (sym (ap length c.self.view_is ∙ c.requires.stands.count)) c.node-next.ensures.below

pub of_next-requires-clause-sound : goal.of_next-requires-clause-sound
of_next-requires-clause-sound g c =
    let nodes = c.args.formula.now.nodes in
    let i = c.args.i in
    all_more (of_pieces g.P.Shape) c.args.from c.args.to (reach_before nodes i) 4294967295 c.self.inside.done.items
    (reach_within nodes i c.len.ensures.well_formed.nodes.reach)
    (subst (IsStack (of_pieces g.P.Shape) c.args.from c.args.to nodes i) (sym c.self.view_is) c.requires.stands).sound

pub keep-requires-clause-children : goal.keep-requires-clause-children
keep-requires-clause-children g c =
    let nodes = c.args.formula.now.nodes in
    let i = c.args.i in
    let n = c.node-next.result.now in
    let order = c.len.ensures.well_formed.nodes.post_order in
    let mid = c.of_next.new.done.items in
    let as_long = as_many (of_pieces g.P.Shape) c.args.from c.args.to (children n) c.self.inside.done.items mid c.in-Ok.ensures.given in
    All-weaker (λ p. p < length (take i nodes)) (λ p. p < length mid)
    (λ p l. omega (arith, length-take i nodes, ap length c.self.view_is, as_long, c.requires.stands.count, l)) (children n)
    (children_below (take i nodes) n (order.follows i n c.node-next.ensures.node))

pub returns-else-is_err-clause-stands : goal.returns-else-is_err-clause-stands
returns-else-is_err-clause-stands g c =
    let shape = g.P.Shape in
    let nodes = c.args.formula.now.nodes in
    let i = c.args.i in
    let n = c.node-next.result.now in
    let y = c.in-Ok.chain in
    let old = c.self.inside.done.items in
    let new = c.keep.new.done.items in
    let mid = c.of_next.new.done.items in
    let later : AreGivenUp (of_pieces shape) c.args.from c.args.to (children n) (mid ++ y ∷ []) new =
    search (rules, c.keep.ensures, c.if-is_err.false, c.is_err.ensures) in
    let given = given_in_all (of_pieces shape) c.args.from c.args.to (children n) old mid new y c.in-Ok.ensures.given later in
    let st = subst (IsStack (of_pieces shape) c.args.from c.args.to nodes i) (sym c.self.view_is) c.requires.stands in
    stack_on (of_pieces shape) c.args.from c.args.to nodes i (children n) old new y c.requires.inside given
    (subst (λ k. IsSound (of_pieces shape) c.args.from c.args.to k y) (sym (sum_on own_reach nodes i n c.node-next.ensures.node))
    (c.in-Ok.ensures.sound (reach_before nodes i) st.sound)) st

pub returns-else-is_err-clause-told : goal.returns-else-is_err-clause-told
returns-else-is_err-clause-told g c s over was =
    let shape = g.P.Shape in
    let nodes = c.args.formula.now.nodes in
    let i = c.args.i in
    let n = c.node-next.result.now in
    let y = c.in-Ok.chain in
    let old = c.self.inside.done.items in
    let new = c.keep.new.done.items in
    let order = c.len.ensures.well_formed.nodes.post_order in
    let st = subst (TellsStack (of_pieces shape) nodes s i) (sym c.self.view_is) was in
    let count = ap length c.self.view_is ∙ c.requires.stands.count in
    let mid = c.of_next.new.done.items in
    let later : AreGivenUp (of_pieces shape) c.args.from c.args.to (children n) (mid ++ y ∷ []) new =
    search (rules, c.keep.ensures, c.if-is_err.false, c.is_err.ensures) in
    let given = given_in_all (of_pieces shape) c.args.from c.args.to (children n) old mid new y c.in-Ok.ensures.given later in
    let same : tree_of (kept nodes i) i n ≡ subformula nodes i =
    kept_agrees nodes i order n c.node-next.ensures.node ∙ sym c.node-next.ensures.subformula in
    stack_next (of_pieces shape) nodes s c.args.from c.args.to i n old new y (record {
      order = order;
      there = c.node-next.ensures.node;
      count = count;
      over = over;
      given = given;
      own = subst (λ t. TellsValue (of_pieces shape) s t y) same (c.in-Ok.ensures.told s (kept nodes i) i over st.told);
    }) st

pub returns-in-Err-clause-wide : goal.returns-in-Err-clause-wide
returns-in-Err-clause-wide g c s over was =
    let shape = g.P.Shape in
    let nodes = c.args.formula.now.nodes in
    let i = c.args.i in
    let n = c.node-next.result.now in
    let before = (subst (TellsStack (of_pieces shape) nodes s i) (sym c.self.view_is) was).told in
    let same : tree_of (kept nodes i) i n ≡ subformula nodes i =
    kept_agrees nodes i c.len.ensures.well_formed.nodes.post_order n c.node-next.ensures.node ∙ sym c.node-next.ensures.subformula in
    subst (IsFault shape nodes s) (sym c.at_node.ensures)
    (fault_is shape nodes s i c.in-Err.fault c.requires.inside
    (subst (λ t. IsFaultOf shape s t c.in-Err.fault) same (c.in-Err.ensures.wide s (kept nodes i) i over before)))
