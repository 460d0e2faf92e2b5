use Rattle.std.proofs.Common.{◌^◌, sym, not, ap, lit<, w64}
use Rattle.rational.proofs.Order.{same_trans}
use Rattle.rational.proofs.Mixed.{fits_of_within}
use Rattle.frac128.specs.Value.{value}
use Rattle.pieces.proofs.KnotLemmas.{side_after, side_before}
use Rattle.rational.proofs.RunningBack.{about_zero}
use Rattle.pieces.proofs.RunningBack.{about_within}
use Rattle.pieces.proofs.turning.turn.Goals as goal

pub mirror-time-requires : goal.mirror-time-requires
mirror-time-requires c = fits_of_within w64 (2 ^ 34) (lit< tt) (about_within (value c.args.c.now.time) c.requires)

pub returns-then-c-eq0 : goal.returns-then-c-eq0
returns-then-c-eq0 c =
    (same_trans c.mirror-time.ensures.value (about_zero (value c.args.c.now.time)), ap not (sym (side_before c.args.c.now.side c.if-c-eq0.true)))

pub returns : goal.returns
returns c = (same_trans c.mirror-time.ensures.value (about_zero (value c.args.c.now.time)), ap not (sym (side_after c.args.c.now.side c.if-c-eq0.false)))
