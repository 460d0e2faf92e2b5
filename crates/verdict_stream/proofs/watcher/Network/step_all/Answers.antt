use Rattle.std.proofs.Common.{◌++◌, ap, sym, ◌∙◌, subst, arith, append-nil}
use Rattle.online_net.specs.Nets.{Stands}
use Rattle.verdict_stream.proofs.TakenVerdicts.{no_steps}
use Rattle.verdict_stream.proofs.watcher.Network.step_all.Goals as goal

pub returns-then-is_atom-clause-stands : goal.returns-then-is_atom-clause-stands
returns-then-is_atom-clause-stands c = λ header events st.
    let nodes = c.args.self.now.formula.nodes in
    subst (λ l. Stands nodes header c.args.self.now.net l)
    (sym (ap (λ s. events ++ s) (no_steps nodes (omega arith) (sym c.is_atom.ensures ∙ c.if-is_atom.true)) ∙ append-nil events)) st
