use Rattle.std.proofs.Common.{[], false, refl, sym, ◌∙◌, ap, subst}
use Rattle.stl_syntax.specs.Formula.{Formula, horizon, root}
use Rattle.online_net.specs.Nets.{Stands}
use Rattle.online_nodes.specs.Driven.{IsDriven, nothing}
use Rattle.verdict_stream.proofs.watcher.Watcher.new.Goals as goal

pub joining-requires : goal.joining-requires
joining-requires c = c.requires

pub returns : goal.returns
returns c = λ case same bound none.
    record {
      formula = sym same;
      horizon = c.horizon-horizon.ensures.horizon ∙ ap (λ (f : Formula). horizon (root f.nodes)) (sym same);
      events = [];
      driven = subst (λ rows. IsDriven case.formula.nodes case.trace.header rows false []) (sym none) nothing;
      stands = subst (λ (f : Formula). Stands f.nodes case.trace.header c.in_ok-net.net []) (sym same)
          (c.in_ok-net.ensures.stands case.trace.header bound);
      emitted = [];
      is_emitted = refl;
      start = refl;
      no_times = c.new-2.ensures.items;
      none_pending = c.new-3.ensures;
      none_waiting = c.in_ok-lines.ensures;
    }
