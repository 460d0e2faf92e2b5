-- The times of the rows up to a place, and of one row more.
use Rattle.std.proofs.Common.{◌≡◌, ◌<◌, suc, ◌+◌, [], ◌∷◌, ◌++◌, length, sym, ap, ◌∙◌, map, append-nil, append_assoc, arith}
use Rattle.std.proofs.lemmas.List.{map-append}
use Rattle.stl_syntax.specs.Trace.{Row}
use Rattle.atom_lines.specs.Rows.{row_of}
use Rattle.online_net.specs.Stretches.{rows_between}
use Rattle.verdict_stream.proofs.Blocks.{none_between, between_next}
use Rattle.verdict_stream.proofs.watcher.keep_times.Goals as goal

pub loop-r-init : goal.loop-r-init
loop-r-init c =
    sym (ap (λ rs. c.args.times.now.items ++ map (λ (r : Row). r.time) rs) (none_between c.args.block.now c.args.at) ∙ append-nil c.args.times.now.items)

pub loop-r-preserved : goal.loop-r-preserved
loop-r-preserved c =
    let block = c.args.block.now in
    let items = c.args.times.now.items in
    let at = c.args.at in
    let r = c.loop-r.r in
    let next : r + 1 ≡ suc r = omega arith in
    let within : suc r < length block.rows = omega (arith, c.loop-r-test.true, c.requires.within) in
    let time : c.time.result ≡ (row_of block (suc r)).time =
    c.time.ensures (record { time = 0; values = [] }) ∙ ap (λ k. (row_of block k).time) next in
    c.in-Ok.ensures.items ∙ ap (λ l. l ++ c.time.result ∷ []) c.loop-r.invariant
    ∙ append_assoc items (map (λ (q : Row). q.time) (rows_between block at r)) (c.time.result ∷ [])
    ∙ ap (λ l. items ++ l) (ap (λ t. map (λ (q : Row). q.time) (rows_between block at r) ++ t ∷ []) time
    ∙ sym (map-append (λ (q : Row). q.time) (rows_between block at r) (row_of block (suc r) ∷ []))
    ∙ ap (map (λ (q : Row). q.time)) (sym (between_next block at r c.loop-r.auto.r within) ∙ ap (λ k. rows_between block at k) (sym next)))

pub returns : goal.returns
returns c =
    let e : c.loop-r.r ≡ c.args.to = omega (arith, c.loop-r-test.false, c.loop-r.auto.r-end c.requires.order) in
    c.loop-r.invariant ∙ ap (λ k. c.args.times.now.items ++ map (λ (q : Row). q.time) (rows_between c.args.block.now c.args.at k)) e
