use Rattle.std.proofs.Common.{◌≡◌, ◌*◌, ◌-◌, ◌^◌, ◌<◌, ◌≤◌, List, map, inl, inr, sym, ◌∙◌, ap, arith, false, subst}
use Rattle.std.specs.Prelude.{None, Err, All, position}
use Rattle.stl_syntax.specs.Binding.{IsUnitFault}
use Rattle.stl_syntax.specs.Limits.{reach}
use Rattle.stl_syntax.specs.Scaling.{scaled, scaled_node, has_large_constant}
use Rattle.stl_syntax.specs.WellFormed.{AreWellFormed, HasOneRoot}
use Rattle.stl_syntax.specs.declared.node.Node.{Node}
use Rattle.stl_syntax.specs.declared.scale.UnitFault.TheVariants.{Reach}
use Rattle.stl_syntax.proofs.ScalingLemmas.{none_large, scaled_well_formed, scaled_root}
use Rattle.stl_syntax.proofs.UnitLemmas.{time_factor, value_factor, constant_fault, constant_fault_only, reach_fault, reach_fault_only, no_fault}
use Rattle.stl_syntax.proofs.formula.Formula.scaled.Goals as goal
use Rattle.stl_syntax.proofs.formula.Formula.scaled.Goals.{After-first_large_constant, After-from}

-- the factors, and the nodes that are searched
value : (c : goal.After-first_large_constant) → c.ticks_in_tick-value.result ≡ value_factor c.args.self.now c.args.to
value c = c.ticks_in_tick-value.ensures.count ∙ ap (λ s. 10 ^ (c.args.to.value - s.value)) c.scale-2.ensures.scale

time : (c : goal.After-first_large_constant) → c.ticks_in_tick-time.result ≡ time_factor c.args.self.now c.args.to
time c = c.ticks_in_tick-time.ensures.count ∙ ap (λ s. 10 ^ (c.args.to.time - s.time)) c.scale.ensures.scale

nodes : (c : goal.After-first_large_constant) → c.deref.result.now ≡ c.args.self.now.nodes
nodes c = c.deref.ensures.value ∙ c.nodes-nodes.ensures.nodes

found : (c : goal.After-first_large_constant)
    → c.first_large_constant.result ≡ position (has_large_constant (value_factor c.args.self.now c.args.to)) c.args.self.now.nodes
found c = c.first_large_constant.ensures.place ∙ ap (λ k. position (has_large_constant k) c.deref.result.now) (value c)
    ∙ ap (position (has_large_constant (value_factor c.args.self.now c.args.to))) (nodes c)

pub returns-in-Some-clause-fault : goal.returns-in-Some-clause-fault
returns-in-Some-clause-fault c =
    inr (constant_fault c.args.self.now c.args.to c.in-Some.place
    (sym (found (goal.at.returns-in-Some-clause-fault c).After-first_large_constant) ∙ c.in-Some.is))

pub returns-in-Some-clause-refused : goal.returns-in-Some-clause-refused
returns-in-Some-clause-refused c e fault =
    inl (ap Err (constant_fault_only c.args.self.now c.args.to c.in-Some.place
    (sym (found (goal.at.returns-in-Some-clause-refused c).After-first_large_constant) ∙ c.in-Some.is) e fault))

-- the reach in the new ticks
sum : (c : goal.After-from) → c.total_reach.result * c.from.result ≡ reach c.args.self.now.nodes * time_factor c.args.self.now c.args.to
sum c =
    let all : c.total_reach.result ≡ reach c.args.self.now.nodes = c.total_reach.ensures ∙ ap reach (c.deref-2.ensures.value ∙ c.nodes-nodes.ensures.nodes) in
    let factor : c.from.result ≡ c.ticks_in_tick-time.result = omega arith in
    ap (λ n. n * c.from.result) all ∙ ap (λ n. reach c.args.self.now.nodes * n) (factor ∙ time (goal.at.After-from c).After-first_large_constant)

-- no constant is large
none : (c : goal.After-from) → position (has_large_constant (value_factor c.args.self.now c.args.to)) c.args.self.now.nodes ≡ None
none c = sym (found (goal.at.After-from c).After-first_large_constant) ∙ c.in_default.is

pub returns-then-sum-gt-LONGEST_REACH-clause-fault : goal.returns-then-sum-gt-LONGEST_REACH-clause-fault
returns-then-sum-gt-LONGEST_REACH-clause-fault c =
    let at : goal.After-from = (goal.at.returns-then-sum-gt-LONGEST_REACH-clause-fault c).After-from in
    inr (subst (λ n. IsUnitFault c.args.self.now c.args.to (Reach n)) (sym (sum at))
    (reach_fault c.args.self.now c.args.to (none at) (subst (λ n. 4294967295 < n) (sum at) c.if-sum-gt-LONGEST_REACH.true)))

pub returns-then-sum-gt-LONGEST_REACH-clause-refused : goal.returns-then-sum-gt-LONGEST_REACH-clause-refused
returns-then-sum-gt-LONGEST_REACH-clause-refused c e fault =
    let at : goal.After-from = (goal.at.returns-then-sum-gt-LONGEST_REACH-clause-refused c).After-from in
    inl (ap (λ n. Err (Reach n)) (sum at) ∙ ap Err (reach_fault_only c.args.self.now c.args.to (none at) e fault))

-- the nodes that are handed on, and what holds of them
fits : (c : goal.After-from) → c.total_reach.result * c.from.result ≤ 4294967295
    → reach c.args.self.now.nodes * time_factor c.args.self.now c.args.to ≤ 4294967295
fits c h = subst (λ n. n ≤ 4294967295) (sum c) h

small : (c : goal.After-from) → All (λ n. has_large_constant (value_factor c.args.self.now c.args.to) n ≡ false) c.args.self.now.nodes
small c = none_large (value_factor c.args.self.now c.args.to) c.args.self.now.nodes (none c)

new_nodes : (c : goal.After-from) (items : List Node)
    → items ≡ map (scaled_node c.ticks_in_tick-time.result c.ticks_in_tick-value.result) c.nodes-nodes.result.now.items
    → items ≡ (scaled c.args.self.now c.args.to).nodes
new_nodes c items e =
    let first : goal.After-first_large_constant = (goal.at.After-from c).After-first_large_constant in
    e ∙ ap (map (scaled_node c.ticks_in_tick-time.result c.ticks_in_tick-value.result)) c.nodes-nodes.ensures.nodes
    ∙ ap (λ k. map (scaled_node k c.ticks_in_tick-value.result) c.args.self.now.nodes) (time first)
    ∙ ap (λ m. map (scaled_node (time_factor c.args.self.now c.args.to) m) c.args.self.now.nodes) (value first)

pub scaled_nodes-requires-clause-constants : goal.scaled_nodes-requires-clause-constants
scaled_nodes-requires-clause-constants c =
    let at : goal.After-from = (goal.at.scaled_nodes-requires-clause-constants c).After-from in
    let first : goal.After-first_large_constant = (goal.at.After-from at).After-first_large_constant in
    rw (c.nodes-nodes.ensures.nodes, value first) (small at)

pub of-requires-clause-nodes : goal.of-requires-clause-nodes
of-requires-clause-nodes c =
    let at : goal.After-from = (goal.at.of-requires-clause-nodes c).After-from in
    let formula = c.args.self.now in
    let within : time_factor formula c.args.to * reach formula.nodes ≤ 4294967295 = omega (arith, fits at c.if-sum-gt-LONGEST_REACH.false) in
    subst AreWellFormed (sym (new_nodes at c.in-Ok.nodes.items c.in-Ok.ensures))
    (scaled_well_formed (time_factor formula c.args.to)
    (value_factor formula c.args.to) formula.nodes c.nodes-nodes.ensures.well_formed.nodes (small at) within)

pub of-requires-clause-root : goal.of-requires-clause-root
of-requires-clause-root c =
    let at : goal.After-from = (goal.at.of-requires-clause-root c).After-from in
    let formula = c.args.self.now in
    subst HasOneRoot (sym (new_nodes at c.in-Ok.nodes.items c.in-Ok.ensures))
    (scaled_root (time_factor formula c.args.to) (value_factor formula c.args.to) formula.nodes c.nodes-nodes.ensures.well_formed.root)

pub returns-in-Ok-clause-refused : goal.returns-in-Ok-clause-refused
returns-in-Ok-clause-refused c e fault =
    let at : goal.After-from = (goal.at.returns-in-Ok-clause-refused c).After-from in
    absurd (no_fault c.args.self.now c.args.to (none at) (fits at c.if-sum-gt-LONGEST_REACH.false) e fault)
