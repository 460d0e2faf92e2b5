use Rattle.std.proofs.Common.{ℕ, true, subst, ap, pos, ◌∙◌}
use Rattle.rational.specs.Rational.{whole}
use Rattle.frac128.specs.Spans.{interval}
use Rattle.rational.specs.Places.{Place, begins, ends, Same}
use Rattle.online_nodes.specs.Held.{Held, edge_at, with_edge, with_number}
use Rattle.online_net.proofs.AtomVerdicts.{even_put}
use Rattle.online_net.proofs.atom.put_even.Goals as goal

-- just after a number of ticks
abbrev at_tick : ℕ → Place
at_tick n = record { at = whole (pos n); after = true }

pub returns : goal.returns
returns c = λ b truth.
    even_put b c.args.node c.args.first.now c.args.row.now {e1 = c.extend.new.self} (record { on = c.span_after-on.result; holds = c.args.holds })
    c.requires.edge c.requires.later
    (subst (λ n. Same (at_tick n) (begins (interval c.span_after-on.result))) c.time-before.ensures c.span_after-on.ensures.begin)
    (subst (λ n. Same (ends (interval c.span_after-on.result)) (at_tick n)) c.time-now.ensures c.span_after-on.ensures.end)
    (record { here = c.in_ok-extend.ensures.put; others = c.in_ok-extend.ensures.others; start = c.in_ok-extend.ensures.start })
    (record {
      edges = ap (λ (e : Held). e.edges) c.note.ensures
          ∙ ap (λ n. with_edge c.extend.new.self c.args.node (with_number (edge_at c.extend.new.self c.args.node) (pos n))) c.time-now.ensures;
      start = ap (λ (e : Held). e.start) c.note.ensures;
    })
    truth
