-- One byte more.
use Rattle.std.proofs.Common.{◌≡◌, ◌+◌, ◌∷◌, length, drop, get_or, ap, arith}
use Rattle.std.proofs.lemmas.List.{drop_all}
use Rattle.trace_reader.specs.TraceText.{split}
use Rattle.trace_reader.proofs.FieldLemmas.{split-comma, split-other, split_more, fields_count}
use Rattle.trace_reader.proofs.field.count_fields.Goals as goal
use Rattle.trace_reader.proofs.field.count_fields.Goals.{then-c-eq44, else-c-eq44}

pub loop-c-preserved : goal.loop-c-preserved
loop-c-preserved c =
    let text = c.args.text.now in
    let i = c.loop-c.c-index in
    let m : length (split 44 (drop i text)) ≡ length (split 44 (get_or text i 0 ∷ drop (i + 1) text)) = ap length (split_more text i c.loop-c-test.true) in
    let old = c.loop-c.invariant in
    elim c.if-c-eq44.branch [
      | then-c-eq44 w ↦ (let e = split-comma (get_or text i 0) (drop (i + 1) text) w.if-c-eq44.true in
          (omega (arith, w.count-is, old.0), omega (arith, w.count-is, old.1, m, e)))
      | else-c-eq44 w ↦ (let e = split-other (get_or text i 0) (drop (i + 1) text) w.if-c-eq44.false in
          (omega (arith, w.count-is, old.0), omega (arith, w.count-is, old.1, m, e)))
    ]

pub returns : goal.returns
returns c =
    let text = c.args.text.now in
    let none : length (split 44 (drop c.loop-c.c-index text)) ≡ 1 = ap (λ t. length (split 44 t)) (drop_all c.loop-c.c-index text c.loop-c-test.false) in
    record {
      value = omega (arith, c.loop-c.invariant.1, none, fields_count text);
      small = omega (arith, c.loop-c.invariant.0, c.loop-c.auto.c-index-end, c.requires);
    }
