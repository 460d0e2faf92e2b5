use Rattle.std.proofs.Common.{[], ◌∷◌, ◌++◌, length, append_assoc, refl, sym, ◌∙◌, arith}
use Rattle.std.proofs.lemmas.List.{take-take, length-take-le}
use Rattle.session_mux.proofs.RunInputs.{prefix_free, own_front}
use Rattle.session_mux.proofs.run.line_behind.Goals as goal

pub feed_behind-requires : goal.feed_behind-requires
feed_behind-requires c =
    let (t, is, split) = c.requires in (t ++ 32 ∷ [], prefix_free t is, split ∙ sym (append_assoc t (32 ∷ []) c.args.rest.now))

pub returns : goal.returns
returns c =
    let h = c.in-Some.ensures in
    let rest = c.args.rest.now in
    let k = c.content_of-content.ensures in
    let short = length-take-le c.in-Some.at rest (omega (arith, h.0.high)) in (
      refl,
      k.front ∙ take-take (length c.content_of-content.result.now) c.in-Some.at rest (omega (arith, k.within, short)),
      omega (arith, k.within, short),
      (λ t is split. own_front t c.args.piece.now rest c.content_of-content.result.now c.in-Some.at _ is split h.0 h.1
          refl (omega arith) k.value (sym c.asks.ensures ∙ c.if-asks.false) (sym c.stops.ensures ∙ c.if-stops.false)),
    )
