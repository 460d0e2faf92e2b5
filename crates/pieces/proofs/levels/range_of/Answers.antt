use Rattle.std.proofs.Common.{◌≡◌, arith, sym, subst}
use Rattle.std.proofs.lemmas.Result.{IfOk-weaker}
use Rattle.pieces.specs.Levels.{AreTurned}
use Rattle.pieces.proofs.ReadUpTo.{level_at, shape_at}
use Rattle.pieces.proofs.levels.range_of.Goals as goal

pub turned-item-requires-clause-steady : goal.turned-item-requires-clause-steady
turned-item-requires-clause-steady g c = c.requires.levels c.piece.result.now.shape (shape_at c.args.s.now.pieces c.loop-i.i c.piece.result.now c.piece.ensures)

pub turned-item-requires-clause-level : goal.turned-item-requires-clause-level
turned-item-requires-clause-level g c =
    level_at g.P.Shape c.args.s.now c.loop-i.i c.piece.result.now c.len-count.ensures.normal c.requires.limited c.piece.ensures

pub returns-clause-items : goal.returns-clause-items
returns-clause-items g c =
    let pieces = c.args.s.now.pieces in
    let turned = c.loop-i.invariant.turned in
    let all : AreTurned g.P.Shape c.args.side pieces c.loop-i.items.items = record {
      count = let n = turned.count in let more = c.loop-i-test.false in let over = c.loop-i.auto.i-end in let count = c.len-count.ensures.value in
          omega (arith, n, more, over, count);
      each = turned.each;
    } in
    IfOk-weaker c.new.result (λ r. r.items ≡ c.loop-i.items.items) (λ r. AreTurned g.P.Shape c.args.side pieces r.items)
    (λ r e. subst (λ items. AreTurned g.P.Shape c.args.side pieces items) (sym e) all) c.new.ensures.items
