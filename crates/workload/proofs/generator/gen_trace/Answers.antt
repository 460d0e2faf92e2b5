use Rattle.std.proofs.Common.{◌≡◌, ◌++◌, ◌+◌, ◌*◌, ◌-◌, suc, sym, ◌∙◌, subst, arith, to_z, of_z, w32}
use Rattle.std.proofs.lemmas.Int.{to_z-of_z, ints}
use Rattle.std.specs.Prelude.{flat_map}
use Rattle.workload.specs.Generated.{rows_after, row_line, generated_bytes}
use Rattle.workload.proofs.RowBytes.{row_written}
use Rattle.workload.proofs.generator.gen_trace.Goals as goal

pub loop-row-preserved : goal.loop-row-preserved
loop-row-preserved c =
    let left : c.args.rows - c.loop-row.row ≡ suc (c.args.rows - (c.loop-row.row + 1)) = let e = c.loop-row-test.true in omega (arith, e) in
    let at : (c.loop-row.row + 1) * 4 ≡ c.loop-row.row * 4 + 4 = omega arith in
    let value : to_z w32 (of_z w32 c.state_value.result) ≡ c.state_value.result = to_z-of_z w32 c.state_value.result (omega (arith, ints)) in
    subst (λ t. c.put_row.new.text ++ flat_map row_line (rows_after c.next_state-state.result t (c.args.rows - (c.loop-row.row + 1)))
    ≡ generated_bytes c.args.number c.args.rows) (sym at)
    (row_written c.loop-row.text c.put_row.new.text c.loop-row.state c.next_state-state.result (c.loop-row.row * 4) (c.args.rows - c.loop-row.row)
    (c.args.rows - (c.loop-row.row + 1)) (to_z w32 (of_z w32 c.state_value.result)) left c.next_state-state.ensures (value
    ∙ c.state_value.ensures) c.in_ok-put_row.ensures
    ∙ c.loop-row.invariant)
