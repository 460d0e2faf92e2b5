use Rattle.std.proofs.Common.{◌≡◌, ◌<◌, true, false, Some, length, sym, ap, subst, ◌∙◌, arith}
use Rattle.std.specs.Prelude.{slice_get, IsTrue}
use Rattle.online_nodes.specs.Network.{state, IsReady}
use Rattle.online_net.specs.Nets.{Parts, Stands}
use Rattle.online_net.proofs.AtomVerdicts.{found}
use Rattle.online_net.proofs.StillSteps.{atom_unready, belongs_now, kept_operator, no_operator, none_ready}
use Rattle.online_net.specs.contracts.net.Net.{the_view}
use Rattle.online_net.proofs.net.Net.ready.Goals as goal

pub returns-in_default-clause-ready : goal.returns-in_default-clause-ready
returns-in_default-clause-ready c nodes header events st =
    let net : Parts = the_view c.self.inside in
    let now : Stands nodes header net events = (subst (λ (p : Parts). Stands nodes header p events) (sym c.self.view_is) st) in
    let l : c.args.node < length net.operators =
    subst (λ (p : Parts). c.args.node < length p.operators) (sym c.self.view_is) c.requires in
    let n : c.args.node < length nodes = (let d = now.holds.operators in omega (arith, l, d)) in
    ((λ x. absurd (let y : false ≡ true = x in cc)), (λ x. absurd (none_ready nodes header events net now c.in_default.is c.args.node n x)))

pub ready-requires : goal.ready-requires
ready-requires c =
    let net : Parts = the_view c.self.inside in
    let w = c.self.invariant.0 c.if-self.false in
    let l : c.args.node < length net.operators =
    subst (λ (p : Parts). c.args.node < length p.operators) (sym c.self.view_is) c.requires in
    let at : slice_get net.operators c.args.node ≡ Some (Some c.in-Some-index.operator) =
    found net.operators c.args.node c.index.result.now l c.index.ensures ∙ ap Some c.in-Some-index.is in (
      w.0,
      w.1,
      w.2,
      belongs_now w.0 w.1 w.2 net w.3 c.args.node c.in-Some-index.operator c.in-Some.row c.time.result at c.in-Some.is c.time.ensures,
    )

pub returns-in-Some-index-clause-ready : goal.returns-in-Some-index-clause-ready
returns-in-Some-index-clause-ready c nodes header events st =
    let net : Parts = the_view c.self.inside in
    let now : Stands nodes header net events = (subst (λ (p : Parts). Stands nodes header p events) (sym c.self.view_is) st) in
    let l : c.args.node < length net.operators =
    subst (λ (p : Parts). c.args.node < length p.operators) (sym c.self.view_is) c.requires in
    let at : slice_get net.operators c.args.node ≡ Some (Some c.in-Some-index.operator) =
    found net.operators c.args.node c.index.result.now l c.index.ensures ∙ ap Some c.in-Some-index.is in
    let kept = kept_operator nodes header events net now c.args.node c.in-Some-index.operator at in
    subst (λ i. (IsTrue c.ready.result → IsReady nodes (state nodes events) i) × (IsReady nodes (state nodes events) i → IsTrue c.ready.result)) kept.1
    (c.ready.ensures.ready nodes header events
    (belongs_now nodes header events net now c.args.node c.in-Some-index.operator c.in-Some.row c.time.result at c.in-Some.is c.time.ensures))

pub returns-in-None-clause-ready : goal.returns-in-None-clause-ready
returns-in-None-clause-ready c nodes header events st =
    let net : Parts = the_view c.self.inside in
    let now : Stands nodes header net events = (subst (λ (p : Parts). Stands nodes header p events) (sym c.self.view_is) st) in
    let l : c.args.node < length net.operators =
    subst (λ (p : Parts). c.args.node < length p.operators) (sym c.self.view_is) c.requires in
    let a = no_operator nodes header events net now c.args.node l
    (found net.operators c.args.node c.index.result.now l c.index.ensures ∙ ap Some c.in-None.is) in
    ((λ x. absurd (let y : false ≡ true = x in cc)), (λ x. absurd (atom_unready nodes header events net now c.args.node a x)))
