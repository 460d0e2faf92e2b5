use Rattle.std.proofs.Common.{◌≡◌, [], ◌∷◌, ◌++◌, length, length-append, take, append_assoc, refl, sym, ap, ◌∙◌, arith}
use Rattle.std.proofs.lemmas.List.{take-take, length-take-le}
use Rattle.stl_syntax.specs.Texts.{newline}
use Rattle.trace_reader.proofs.FeedLemmas.{at-taken}
use Rattle.session_mux.proofs.RunInputs.{prefix_free, own_front}
use Rattle.session_mux.proofs.TagLemmas.{short_of}
use Rattle.session_mux.proofs.run.near_line.Goals as goal

pub near_feed_behind-requires-clause-free : goal.near_feed_behind-requires-clause-free
near_feed_behind-requires-clause-free c =
    let t = c.args.tag.now in
    (t ++ 32 ∷ [], prefix_free t c.requires.tag, c.in-Some.ensures ∙ sym (append_assoc t (32 ∷ []) c.in-Some.rest.now))

pub returns : goal.returns
returns c =
    let t = c.args.tag.now in
    let piece = c.args.piece.now in
    let rest = c.in-Some.rest.now in
    let split : piece ≡ t ++ 32 ∷ rest = c.in-Some.ensures in
    let at = c.in-Some-near_feed_behind.at in
    let (h, near) = c.in-Some-near_feed_behind.ensures in
    let k = c.content_of-content.ensures in
    let content = c.content_of-content.result.now in
    let short = length-take-le at rest (omega (arith, h.0.high)) in
    let few = short_of t c.requires.tag in
    let wide = c.requires.long in
    let size = ap length split ∙ length-append t (32 ∷ rest) in
    let whole : length content ≡ at = omega (arith, k.within, short, c.if-content-at.false) in
    let all : content ≡ take at rest =
    k.front ∙ take-take (length content) at rest (omega (arith, whole)) ∙ ap (λ n. take n rest) whole in (
      omega (arith, wide, few, size),
      omega (arith, near),
      omega arith,
      (
        content,
        at-taken rest at h.0 h.1 ∙ ap (λ w. w ++ newline) (sym all),
        own_front t piece rest content at _ c.requires.tag split h.0 h.1 refl (omega (arith, near, few, size)) k.value
            (sym c.asks.ensures ∙ c.if-asks.false) (sym c.stops.ensures ∙ c.if-stops.false),
      ),
    )
