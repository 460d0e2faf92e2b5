use Rattle.std.proofs.Common.{◌≡◌, ◌∷◌, take, length, length-take-le, length-append, ap, sym, ◌∙◌, arith}
use Rattle.std.proofs.Math.Seq.{take-append_seam}
use Rattle.session_mux.proofs.tag.Tag.front.Goals as goal

pub returns-in-Some : goal.returns-in-Some
returns-in-Some c =
    let tag = c.args.self.now in
    let few = c.self.invariant.0 in
    let size : c.self.inside.len ≡ length tag =
    sym (length-take-le c.self.inside.len c.self.inside.bytes (omega (arith, few))) ∙ ap length c.self.view_is in
    let is = c.in-Some.ensures in (
      omega (arith, size, ap length is, length-append tag (32 ∷ c.in-Some.field-0.now)),
      ap (λ n. take n c.args.piece.now) size ∙ ap (take (length tag)) is ∙ take-append_seam tag (32 ∷ c.in-Some.field-0.now),
    )
