use Rattle.std.proofs.Common.{ℕ, ◌<◌, Some, length, pos, sym, ap, subst, ◌∙◌, arith}
use Rattle.std.specs.Prelude.{option_map}
use Rattle.online_net.specs.Nets.{Parts, Stands}
use Rattle.online_net.proofs.AtomVerdicts.{found}
use Rattle.online_net.proofs.StillSteps.{atom_front, no_operator, operator_front}
use Rattle.online_net.specs.contracts.net.Net.{the_view}
use Rattle.online_net.proofs.net.Net.front.Goals as goal

pub returns-in-Some-clause-front : goal.returns-in-Some-clause-front
returns-in-Some-clause-front c nodes header events st =
    let net : Parts = the_view c.self.inside in
    let now : Stands nodes header net events = (subst (λ (p : Parts). Stands nodes header p events) (sym c.self.view_is) st) in
    let l : c.args.node < length net.operators =
    subst (λ (p : Parts). c.args.node < length p.operators) (sym c.self.view_is) c.requires in
    ap (option_map (λ (n : ℕ). pos n)) c.front.ensures
    ∙ operator_front nodes header events net now c.args.node c.in-Some.operator
    (found net.operators c.args.node c.index.result.now l c.index.ensures ∙ ap Some c.in-Some.is)

pub returns-in-None-clause-front : goal.returns-in-None-clause-front
returns-in-None-clause-front c nodes header events st =
    let net : Parts = the_view c.self.inside in
    let now : Stands nodes header net events = (subst (λ (p : Parts). Stands nodes header p events) (sym c.self.view_is) st) in
    let l : c.args.node < length net.operators =
    subst (λ (p : Parts). c.args.node < length p.operators) (sym c.self.view_is) c.requires in
    let n : c.args.node < length nodes = (let d = now.holds.operators in omega (arith, l, d)) in
    ap (option_map (λ (n : ℕ). pos n)) c.time_of.ensures
    ∙ atom_front nodes header events net now c.args.node n
    (no_operator nodes header events net now c.args.node l (found net.operators c.args.node c.index.result.now l c.index.ensures ∙ ap Some c.in-None.is))
