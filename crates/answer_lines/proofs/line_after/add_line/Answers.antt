use Rattle.std.proofs.Common.{◌∷◌, [], take, refl, sym, subst, arith}
use Rattle.std.specs.Prelude.{IfSome}
use Rattle.frac128.specs.Value.{value}
use Rattle.answer_lines.specs.Rooms.{IsTextAt}
use Rattle.answer_lines.specs.LineEnds.{line_begin, line_end}
use Rattle.answer_lines.proofs.TextsBehind.{add_then, add_as}
use Rattle.answer_lines.proofs.RoomTexts.{longer_if, put_text_stands}
use Rattle.answer_lines.proofs.Spans.{end_short, line_is}
use Rattle.answer_lines.proofs.line_after.add_line.Goals as goal

pub add_begin-comma-requires-clause-last : goal.add_begin-comma-requires-clause-last
add_begin-comma-requires-clause-last c =
    let d = c.args.scale.time in
    let t = value c.args.v.now.on.from in
    subst (λ xs. IfSome c.args.last (IsTextAt d t xs)) (sym c.add_byte-from.ensures.added)
    (longer_if d t (take c.args.at c.args.buf.now) (c.bracket.result ∷ []) c.args.last c.requires.last)

pub returns-clause-line : goal.returns-clause-line
returns-clause-line c =
    let v = c.args.v.now in
    let (F, p, few, from) = c.add_begin-comma.ensures in
    let (T, q, some, to) = c.add_time-close.ensures in
    let begin = add_as {v = line_begin v} c.bracket.ensures c.add_byte-from.ensures in
    let comma = c.add_byte-to.ensures in
    let end = c.add_ending-end.ensures in
    let all = add_then (add_then (add_then (add_then begin from) comma) to) end in (
      _,
      line_is c.args.scale v F T p q,
      omega (arith, all.size, c.add_byte-from.ensures.size, from.size, comma.size, to.size, end.size, few, some, end_short v.on.to_in v.holds),
      all,
    )

pub returns-clause-to : goal.returns-clause-to
returns-clause-to c =
    let (F, p, few, from) = c.add_begin-comma.ensures in
    let (T, q, some, to) = c.add_time-close.ensures in
    let comma = c.add_byte-to.ensures in
    put_text_stands c.args.scale.time (value c.args.v.now.on.to) T (line_end c.args.v.now) _ _ _ _ _ _ _ q to c.add_ending-end.ensures
    (omega (arith, c.requires.room, few, c.add_byte-from.ensures.size, c.add_byte-from.ensures.same, from.size, from.same, comma.size, comma.same))
    refl refl
