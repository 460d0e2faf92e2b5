use Rattle.std.proofs.Common.{◌<◌, refl, sym, subst, not}
use Rattle.stl_syntax.specs.declared.items.Verdict.{Verdict}
use Rattle.online_net.proofs.AtomRuns.{more_both, more_count, put_given}
use Rattle.online_net.proofs.stretch.put_turned.Goals as goal

pub put-requires-2 : goal.put-requires-2
put-requires-2 c =
    let v : Verdict = record { on = c.span_between-gap.result; holds = c.args.holds } in
    subst (λ n. c.args.node < n)
    (sym (more_count (put_given c.args.edges.now c.put.new.self c.args.node v c.requires.edge c.in_ok-put.ensures.put c.in_ok-put.ensures.start)))
    c.requires.edge

pub returns : goal.returns
returns c =
    let v : Verdict = record { on = c.span_between-gap.result; holds = c.args.holds } in
    let w : Verdict = record { on = c.span_at-row.result; holds = not c.args.holds } in
    let first = put_given c.args.edges.now c.put.new.self c.args.node v c.requires.edge c.in_ok-put.ensures.put c.in_ok-put.ensures.start in
    let within = subst (λ n. c.args.node < n) (sym (more_count first)) c.requires.edge in
    record {
      gap = v;
      row = w;
      got = more_both first (put_given c.put.new.self c.put-2.new.self c.args.node w within c.in_ok-put-2.ensures.put c.in_ok-put-2.ensures.start);
      begin = c.span_between-gap.ensures.begin;
      middle = c.span_between-gap.ensures.end;
      again = c.span_at-row.ensures.begin;
      end = c.span_at-row.ensures.end;
      holds_in = refl;
      holds_at = refl;
    }
