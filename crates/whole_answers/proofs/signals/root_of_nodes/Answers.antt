use Rattle.std.proofs.Common.{◌≡◌, ◌-◌, ◌<◌, ◌^◌, ◌∙◌, length, refl, sym, subst, arith}
use Rattle.rational.proofs.Mixed.{tick_within}
use Rattle.stl_syntax.specs.Formula.{root}
use Rattle.stl_syntax.specs.Trace.{first_time, last_time}
use Rattle.offline_eval.specs.Forms.{of_pieces}
use Rattle.offline_eval.specs.Keeping.{IsRootIn, TellsStack}
use Rattle.offline_eval.specs.Making.{TellsValue}
use Rattle.whole_answers.specs.Answering.{setting_of}
use Rattle.whole_answers.proofs.CaseSignals.{root_chain, root_told, some_piece}
use Rattle.whole_answers.proofs.signals.root_of_nodes.Given.{Over}
use Rattle.whole_answers.proofs.signals.root_of_nodes.Goals.{After-root}
use Rattle.whole_answers.proofs.signals.root_of_nodes.Goals as goal

pub loop-i-init : goal.loop-i-init
loop-i-init g c =
    let case = c.args.case.now in
    record {
      stands = c.new-stack.ensures.stands (first_time case.trace.rows) (last_time 0 case.trace.rows) case.formula.nodes;
      told = c.new-stack.ensures.told case.formula.nodes (setting_of g.P.Shape g.P.AtomShape.reading case.trace);
    }

pub root-requires : goal.root-requires
root-requires g c =
    let nodes = c.args.case.now.formula.nodes in
    let count : c.loop-i.i ≡ length nodes = let t = c.loop-i-test.false in let e = c.len-count.ensures.count in let m = c.loop-i.auto.i-end in omega arith in
    let some : 0 < length nodes = c.len-count.ensures.well_formed.some in
    omega (arith, c.loop-i.invariant.stands.count, count, some)

-- the chain of the root is the last of those that tell the nodes
is_root : (g : Over) (c : After-root g) → IsRootIn (of_pieces g.P.Shape) c.args.case.now.formula.nodes
    (setting_of g.P.Shape g.P.AtomShape.reading c.args.case.now.trace) c.root.result
is_root g c =
    let nodes = c.args.case.now.formula.nodes in
    let s = setting_of g.P.Shape g.P.AtomShape.reading c.args.case.now.trace in
    let count : c.loop-i.i ≡ length nodes = let t = c.loop-i-test.false in let e = c.len-count.ensures.count in let m = c.loop-i.auto.i-end in omega arith in
    let stack = c.loop-i.invariant in
    c.root.ensures nodes s (sym count ∙ sym stack.stands.count) (subst (λ n. TellsStack (of_pieces g.P.Shape) nodes s n c.loop-i.stack) count stack.told)

-- it tells the formula
tells : (g : Over) (c : After-root g) → TellsValue (of_pieces g.P.Shape) (setting_of g.P.Shape g.P.AtomShape.reading c.args.case.now.trace)
    (root c.args.case.now.formula.nodes) c.root.result
tells g c =
    let (chains, long, at, told) = is_root g c in
    root_chain g.P.Shape g.P.AtomShape.reading c.args.case.now chains c.root.result c.len-count.ensures.well_formed.some told at

pub signal_of-requires : goal.signal_of-requires
signal_of-requires g c =
    let rows = c.args.case.now.trace.rows in
    let is = tells g (goal.at.signal_of-requires g c).After-root in
    let first : first_time rows < 2 ^ 32 = let e = c.first.ensures in let f = c.first.type_inv in omega arith in
    let last : last_time 0 rows < 2 ^ 32 = let e = c.last.ensures.last in let f = c.last.type_inv in omega arith in
    record {
      some = some_piece c.root.result is.begins.1 is.ends.1;
      begins = is.begins.1;
      ends = is.ends.1;
      from_within = tick_within (first_time rows) first is.begins.0;
      to_within = tick_within (last_time 0 rows) last is.ends.0;
    }

pub returns-clause-told : goal.returns-clause-told
returns-clause-told g c =
    let at = (goal.at.returns-clause-told g c).After-root in
    let case = c.args.case.now in
    let nodes = case.formula.nodes in
    let s = setting_of g.P.Shape g.P.AtomShape.reading case.trace in
    let formed = c.len-count.ensures.well_formed in
    let (chains, long, there, told) = is_root g at in
    root_told g.P.Shape g.P.AtomShape.reading case c.root.result c.in_ok-signal_of.field-0 (tells g at) c.in_ok-signal_of.ensures.worth
    (c.chains_have_values.ensures nodes chains s formed.nodes.post_order refl told (length nodes - 1) (omega (arith, formed.some)))
