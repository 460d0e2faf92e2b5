use Rattle.std.proofs.Common.{◌≡◌, ◌-◌, suc, arith, sym, subst}
use Rattle.pieces.specs.Chains.{begin_at, end}
use Rattle.pieces.proofs.ReadUpTo.{next_begin}
use Rattle.pieces.proofs.levels.begin_of.Goals as goal

pub returns : goal.returns
returns g c =
    let s = c.args.s.now in
    let one_less : suc (c.args.i - 1) ≡ c.args.i = let some = c.if-i-eq0.false in omega (arith, some) in
    subst (λ n. end c.piece.result.now ≡ begin_at s.from s.pieces n) one_less
    (sym (next_begin s.from s.pieces (c.args.i - 1) c.piece.result.now c.piece.ensures))
