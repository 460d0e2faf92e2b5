use Rattle.std.proofs.Common.{◌≡◌, ◌++◌, ◌∷◌, ◌+◌, ◌-◌, [], ℕ, List, ◌<◌, length, take, drop, get_or, take-append-drop, sym, ap, ◌∙◌, arith}
use Rattle.std.proofs.lemmas.List.{drop_more, take_more}
use Rattle.rational.proofs.Lists.{take_rest}
use Rattle.stl_syntax.specs.Texts.{newline}
use Rattle.session_mux.proofs.run.lone_line.Goals as goal

-- a list whose front is a tag with a space behind it
split_at : (t piece rest : List ℕ) → t ≡ take (length t) piece → length t < length piece → get_or piece (length t) 0 ≡ 32
    → rest ≡ drop (length t + 1) piece → piece ≡ t ++ 32 ∷ rest
split_at t piece rest front more space is =
    sym (take-append-drop (length t) piece) ∙ ap (λ w. w ++ drop (length t) piece) (sym front)
    ∙ ap (λ w. t ++ w) (drop_more piece (length t) 0 more ∙ ap (λ b. b ∷ drop (length t + 1) piece) space ∙ ap (λ w. 32 ∷ w) (sym is))

pub line_behind-requires : goal.line_behind-requires
line_behind-requires c = (
  c.args.tag.now,
  c.requires.tag,
  split_at c.args.tag.now c.args.piece.now _ c.requires.front (omega (arith, c.if-len-piece.false)) c.if-piece-len-ne32.false
      (take_rest c.args.piece.now (length c.args.tag.now + 1)),
)

pub returns : goal.returns
returns c =
    let (same, front, few, own) = c.in-Some.ensures in
    let content = c.in-Some.line.content.now in
    let behind = length c.args.tag.now + 1 in
    let rest = take (length c.args.piece.now - behind) (drop behind c.args.piece.now) in (
      content,
      take_more rest (length content) 0 (omega (arith, c.if-size-rest.false))
          ∙ ap (λ b. take (length content) rest ++ b ∷ []) c.if-rest-size-ne10.false ∙ ap (λ w. w ++ newline) (sym front),
      own c.args.tag.now c.requires.tag (split_at c.args.tag.now c.args.piece.now rest c.requires.front (omega (arith, c.if-len-piece.false))
          c.if-piece-len-ne32.false (take_rest c.args.piece.now behind)),
    )
