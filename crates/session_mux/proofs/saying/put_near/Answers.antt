use Rattle.std.proofs.Common.{◌+◌, true, ◌++◌, ◌∷◌, length, codes, take, drop, append_assoc, length-drop, sym, ap, ◌∙◌, arith}
use Rattle.std.proofs.lemmas.Result.{err_from_is_err_and}
use Rattle.rational.proofs.Lists.{take_rest}
use Rattle.stl_syntax.specs.Texts.{newline}
use Rattle.trace_reader.specs.TraceText.{lines}
use Rattle.trace_reader.proofs.FeedLemmas.{at-taken}
use Rattle.trace_reader.proofs.LineLemmas.{done}
use Rattle.session_mux.proofs.LineTexts.{line_found}
use Rattle.session_mux.proofs.NearLemmas.{near_is_first}
use Rattle.session_mux.proofs.saying.put_near.Goals as goal

pub put_near-requires : goal.put_near-requires
put_near-requires c = record {
  few = (let near = c.requires.feed.near in omega (arith, near));
  long = c.requires.long;
  room = c.in_ok-make_room.ensures.room;
}

pub returns-in_err-make_room : goal.returns-in_err-make_room
returns-in_err-make_room c =
    let p = err_from_is_err_and c.from_residual.result c.from_residual.ensures.1 in
    let text = c.args.text.now in
    let at = c.args.at in
    let found = near_is_first text at c.requires.feed c.requires.long in
    let line = (c.args.tag.now ++ codes " ") ++ take at text ++ newline in
    rw p.1 (record {
      line = take at text;
      rest = drop (at + 1) text;
      is = line_found text at found.0 found.1 found.0.high;
      cut = (
        c.args.waiting.now ++ line,
        ap (λ w. w ++ (c.args.waiting.now ++ line)) c.in_err-make_room.ensures.err.0 ∙ sym (append_assoc c.args.out.now c.args.waiting.now line),
      );
      begins = c.make_room.ensures.begins;
    })

pub returns : goal.returns
returns c =
    let text = c.args.text.now in
    let at = c.args.at in
    let found = near_is_first text at c.requires.feed c.requires.long in
    let prefix = c.args.tag.now ++ codes " " in
    let line = prefix ++ take at text ++ newline in
    let out = c.make_room.new.out in
    let high = found.0.high in
    record {
      line = take at text;
      is = line_found text at found.0 found.1 high ∙ ap (λ w. done (take at text) ∷ lines true w) (sym (take_rest text (at + 1)));
      added = ap (λ w. out ++ w) (c.put_near.ensures ∙ ap (λ w. c.make_room.new.self ++ (prefix ++ w)) (at-taken text at found.0 found.1)
          ∙ ap (λ w. c.make_room.new.self ++ w) (sym (append_assoc prefix (take at text) newline)))
          ∙ sym (append_assoc out c.make_room.new.self line) ∙ ap (λ w. w ++ line) c.in_ok-make_room.ensures.joined;
      begins = c.make_room.ensures.begins;
      shorter = omega (arith, high, ap length (take_rest text (at + 1)), length-drop (at + 1) text);
    }
