use Rattle.std.proofs.Common.{◌≡◌, ◌+◌, suc, inl, sym, subst, arith}
use Rattle.std.proofs.lemmas.Result.{on_ok_weaker}
use Rattle.rational.specs.Places.{Before}
use Rattle.frac128.specs.Cuts.{place}
use Rattle.pieces.specs.Chains.{begin_at, end}
use Rattle.pieces.proofs.ReadUpTo.{next_begin, rises_at}
use Rattle.implicants.proofs.AddedRuns.{adds_short, adds_twice, short_over}
use Rattle.implicants.proofs.runs.add_short.Goals as goal

pub loop-p-init : goal.loop-p-init
loop-p-init c = record { so_far = tt; added = λ j r at. inl at; at = c.from-from.ensures }

pub short_span-short-requires : goal.short_span-short-requires
short_span-short-requires c =
    let x = c.args.x.now in
    let piece = c.piece-piece.result.now in
    subst (λ s. Before s (end piece)) (sym c.loop-p.invariant.at)
    (rises_at x.from x.pieces c.loop-p.p piece c.len-p-end.ensures.normal.rising c.piece-piece.ensures)

pub loop-p-preserved : goal.loop-p-preserved
loop-p-preserved c =
    let x = c.args.x.now in
    let piece = c.piece-piece.result.now in
    let before = c.loop-p.invariant in
    let next : suc c.loop-p.p ≡ c.loop-p.p + 1 = omega arith in
    record {
      so_far = c.in_ok-next.ensures.so_far c.args.best x before.so_far
          (short_over c.args.best x c.loop-p.p (place c.loop-p.from) piece c.short_span-short.result c.piece-piece.ensures before.at c.short_span-short.ensures);
      added = adds_twice c.args.of c.args.best x c.args.runs.now.items c.loop-p.runs.items c.grown.new.runs.items before.added
          (c.in_ok-next.ensures.added c.args.best x before.so_far);
      at = sym (subst (λ n. begin_at x.from x.pieces n ≡ end piece) next (next_begin x.from x.pieces c.loop-p.p piece c.piece-piece.ensures));
    }

pub returns : goal.returns
returns c = on_ok_weaker c.add.result
    (λ adds. adds_twice c.args.of c.args.best c.args.x.now c.args.runs.now.items c.loop-p.runs.items c.add.new.runs.items c.loop-p.invariant.added
    (adds_short c.args.of c.args.best c.loop-p.so_far c.args.x.now c.loop-p.runs.items c.add.new.runs.items adds c.loop-p.invariant.so_far)) c.add.ensures
