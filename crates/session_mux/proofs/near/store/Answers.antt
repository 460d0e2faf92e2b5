-- The first bytes of 32 that are copied.
use Rattle.std.proofs.Common.{◌+◌, ◌++◌, ◌≤◌, length, take, drop, ap, ◌∙◌, arith}
use Rattle.std.proofs.lemmas.List.{length-take-le, take-append-le}
use Rattle.std.proofs.lemmas.Simd.{length-put_chunk, put_chunk_is}
use Rattle.answer_lines.proofs.TextsBehind.{take_past}
use Rattle.session_mux.proofs.near.store.Goals as goal

pub returns : goal.returns
returns c =
    let buf = c.args.buf.now in
    let at = c.args.at in
    let len = c.args.len in
    let bytes = c.args.bytes in
    let long = c.fits-bytes.0 in
    let room : at + length bytes ≤ length buf = omega (arith, long, c.requires.room) in
    let behind = drop (length bytes) (drop at buf) in
    let size = length-take-le len bytes (omega (arith, c.requires.few, long)) in
    record {
      added = ap (take (at + len)) (put_chunk_is at buf bytes room) ∙ take_past at len buf (bytes ++ behind) (omega (arith, room))
          ∙ ap (λ w. take at buf ++ w) (take-append-le len bytes behind (omega (arith, long, c.requires.few)));
      size = omega (arith, size);
      same = length-put_chunk at buf bytes;
    }
