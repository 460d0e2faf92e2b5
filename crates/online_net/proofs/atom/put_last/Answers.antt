use Rattle.std.proofs.Common.{true, ap, pos, ◌∙◌}
use Rattle.frac128.proofs.Wholes.{same_at_tick}
use Rattle.online_nodes.specs.Held.{Held, edge_at, with_edge, with_number}
use Rattle.online_net.proofs.AtomVerdicts.{atom_put}
use Rattle.online_net.proofs.atom.put_last.Goals as goal

pub returns : goal.returns
returns c = λ b before e begun holds later within.
    atom_put before c.args.row.now within later
    (same_at_tick c.after_tick-end.result c.time.result c.args.row.now.time true c.time.ensures c.after_tick-end.ensures)
    begun c.in_ok-out.ensures.said c.in_ok-out.ensures.reaches c.in_ok-finish.ensures.finished
    (record {
      edges = ap (λ (e : Held). e.edges) c.note.ensures
          ∙ ap (λ n. with_edge c.finish.new.edges c.args.node (with_number (edge_at c.finish.new.edges c.args.node) (pos n))) c.time-2.ensures;
      start = ap (λ (e : Held). e.start) c.note.ensures;
    })
    holds
