use Rattle.std.proofs.Common.{◌∷◌, [], ◌++◌, length, sym, ap, ◌∙◌, refl}
use Rattle.stl_syntax.specs.Trace.{Header}
use Rattle.verdict_stream.specs.Watching.{last_alone}
use Rattle.verdict_stream.proofs.Blocks.{same_alone, kept_header, kept_time}
use Rattle.verdict_stream.proofs.verdicts.keep_row.Goals as goal

pub push-requires-clause-width : goal.push-requires-clause-width
push-requires-clause-width c =
    let (t, k, may) = c.requires in may.0 ∙ ap (λ (h : Header). length h.columns) (sym (kept_header c.args.block.now t k))

pub push-requires-clause-later : goal.push-requires-clause-later
push-requires-clause-later c = let (t, k, may) = c.requires in kept_time c.args.block.now t k c.args.row.now may

pub returns : goal.returns
returns c = λ t k may.
    let block = c.args.block.now in
    let r = c.args.row.now in
    c.keep_last.ensures ∙ ap last_alone c.in_ok-push.ensures.ok
    ∙ same_alone (record block { rows = block.rows ++ r ∷ [] }) (record t { rows = t.rows ++ r ∷ [] }) block.rows t.rows r (kept_header block t k) refl refl
