use Rattle.std.proofs.Common.{◌≡◌, ◌+◌, [], length, not, refl, sym, ap, subst, pos, ◌∙◌, arith}
use Rattle.stl_syntax.specs.Trace.{Row}
use Rattle.online_nodes.specs.Held.{Held, edge_at, with_edge, with_number}
use Rattle.online_net.specs.Stretches.{HaveRows}
use Rattle.online_net.proofs.AtomVerdicts.{none_at, none_not}
use Rattle.online_net.proofs.EdgeRows.{rows_count, rows_more, rows_skip}
use Rattle.online_net.proofs.stretch.put_rows.Goals as goal
use Rattle.online_net.proofs.stretch.put_rows.Goals.{then-is_none+in_ok-put_verdicts, else-is_none}

abbrev none : Row
none = record { time = 0; values = [] }

pub loop-i-init : goal.loop-i-init
loop-i-init c = record {
  atoms = λ j l e. absurd (omega (arith, l));
  numbers = λ j l e. absurd (omega (arith, l));
  others = λ j n. refl;
  count = refl;
  start = refl;
}

pub put_verdicts-requires-clause-edge : goal.put_verdicts-requires-clause-edge
put_verdicts-requires-clause-edge c = omega (arith, c.requires.edges, c.loop-i.invariant.count, c.loop-i-test.true)

pub put_verdicts-requires-clause-atom : goal.put_verdicts-requires-clause-atom
put_verdicts-requires-clause-atom c =
    c.requires.atoms c.loop-i.i (none_at c.args.operators.now c.loop-i.i c.index-operators-i.result c.loop-i-test.true c.index-operators-i.is
    c.if-is_none.ensures)

pub note-requires : goal.note-requires
note-requires c =
    let n = rows_count c.args.bound.now c.args.block.now c.loop-i.i c.in_ok-put_verdicts.ensures in
    omega (arith, c.requires.edges, c.loop-i.invariant.count, c.loop-i-test.true, n)

pub loop-i-preserved : goal.loop-i-preserved
loop-i-preserved c =
    elim c.if-is_none.branch [
      | then-is_none+in_ok-put_verdicts w ↦ subst (λ e. HaveRows c.args.bound.now c.args.block.now c.args.from c.args.to c.args.operators.now (c.loop-i.i + 1)
          c.args.edges.now e) (sym w.edges-is)
          (rows_more c.args.bound.now c.args.block.now c.args.from c.args.to c.args.operators.now c.loop-i.i
          (none_at c.args.operators.now c.loop-i.i c.index-operators-i.result c.loop-i-test.true c.index-operators-i.is
          (c.is_none.ensures ∙ ap not w.if-is_none.true))
          (omega (arith, c.requires.edges, c.loop-i.invariant.count, c.loop-i-test.true)) c.loop-i.invariant w.in_ok-put_verdicts.ensures
          (record {
            edges = ap (λ (e : Held). e.edges) w.note.ensures
                ∙ ap (λ n. with_edge w.put_verdicts.new.edges c.loop-i.i (with_number (edge_at w.put_verdicts.new.edges c.loop-i.i) (pos n)))
                (w.time.ensures none);
            start = ap (λ (e : Held). e.start) w.note.ensures;
          }))
      | else-is_none w ↦ subst (λ e. HaveRows c.args.bound.now c.args.block.now c.args.from c.args.to c.args.operators.now (c.loop-i.i + 1)
          c.args.edges.now e) (sym w.edges-is)
          (rows_skip c.args.bound.now c.args.block.now c.args.from c.args.to c.args.operators.now c.loop-i.i
          (none_not c.args.operators.now c.loop-i.i c.index-operators-i.result c.loop-i-test.true c.index-operators-i.is
          (c.is_none.ensures ∙ ap not w.if-is_none.false)) c.loop-i.invariant)
    ]

pub returns : goal.returns
returns c =
    subst (λ n. HaveRows c.args.bound.now c.args.block.now c.args.from c.args.to c.args.operators.now n c.args.edges.now c.loop-i.edges)
    (let e : c.loop-i.i ≡ length c.args.operators.now = (let a = c.loop-i.auto.i-end in let b = c.loop-i-test.false in omega (arith, a, b)) in e)
    c.loop-i.invariant
