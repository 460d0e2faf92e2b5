use Rattle.std.proofs.Common.{◌≡◌, ◌+◌, ◌<◌, length, set, suc, refl, sym, ◌∙◌, ap, subst, arith}
use Rattle.std.proofs.lemmas.Option.{slice_get_read}
use Rattle.pl_signal.proofs.Values.{some_is}
use Rattle.pieces.specs.declared.piece.Piece.{Piece}
use Rattle.pieces.proofs.NegatedChains.{AreOppositeTo, opposite_step, opposite_all, opposite_here, opposite_length}
use Rattle.pieces.proofs.negation.negate_each.Goals as goal

pub neg-negated-requires : goal.neg-negated-requires
neg-negated-requires g c =
    let same = opposite_length g.P.Shape c.loop-i.i c.args.items.now.items c.loop-i.items.items c.loop-i.invariant in
    let inside : c.loop-i.i < length c.loop-i.items.items = let more = c.loop-i-test.true in let count = c.len-i-end.ensures in omega (arith, same) in
    let at = slice_get_read c.loop-i.items.items (length c.loop-i.items.items) c.loop-i.i c.index.result.now refl inside c.index.ensures in
    c.requires c.index.result.now.shape
    (opposite_here g.P.Shape c.loop-i.i c.args.items.now.items c.loop-i.items.items c.index.result.now c.loop-i.invariant at)

pub loop-i-preserved : goal.loop-i-preserved
loop-i-preserved g c =
    let same = opposite_length g.P.Shape c.loop-i.i c.args.items.now.items c.loop-i.items.items c.loop-i.invariant in
    let inside : c.loop-i.i < length c.loop-i.items.items = let more = c.loop-i-test.true in let count = c.len-i-end.ensures in omega (arith, same) in
    let at = slice_get_read c.loop-i.items.items (length c.loop-i.items.items) c.loop-i.i c.index.result.now refl inside c.index.ensures in
    let there = slice_get_read c.loop-i.items.items (length c.loop-i.items.items) c.loop-i.i c.index_mut.result.now refl inside c.index_mut.ensures.value in
    let next : suc c.loop-i.i ≡ c.loop-i.i + 1 = omega arith in
    let y : Piece _ = record { until = c.index_mut.result.now.until; shape = c.neg-negated.result } in
    subst (λ n. AreOppositeTo g.P.Shape n c.args.items.now.items (set c.loop-i.items.items c.loop-i.i y)) next
    (opposite_step g.P.Shape c.loop-i.i c.args.items.now.items c.loop-i.items.items c.index.result.now y c.loop-i.invariant at
    (record { until = ap (λ p. p.until) (some_is (sym there ∙ at)); value = c.neg-negated.ensures.value; base = c.neg-negated.ensures.base }))

pub returns : goal.returns
returns g c =
    let all : c.loop-i.i ≡ length c.args.items.now.items = let done = c.loop-i-test.false in let most = c.loop-i.auto.i-end in
    let count = c.len-i-end.ensures in omega arith in
    opposite_all g.P.Shape c.loop-i.i c.args.items.now.items c.loop-i.items.items c.loop-i.invariant all
