use Rattle.std.proofs.Common.{refl}
use Rattle.frac128.specs.Cuts.{place}
use Rattle.rational.proofs.PlaceLemmas.{before_trans, room_of_before}
use Rattle.growing_sets.proofs.StretchLemmas.{rises}
use Rattle.growing_sets.proofs.EndingLemmas.{lengthened, put_within}
use Rattle.growing_sets.proofs.ending.lengthen.Goals as goal

pub returns-then-not-precedes : goal.returns-then-not-precedes
returns-then-not-precedes c =
    put_within c.requires.tidy c.requires.last c.requires.begins
    (λ b. let e = c.precedes.ensures.1 b in let f = c.if-not-precedes.true in cc)

pub invariant_of-gap : goal.invariant_of-gap
invariant_of-gap c = record {
  not_empty = room_of_before (place c.args.last.now.to) (place c.args.part.now.to) (c.precedes.ensures.0 c.if-not-precedes.false);
  low = c.args.last.now.high;
  high = c.args.part.now.high;
}

pub invariant_of-longer : goal.invariant_of-longer
invariant_of-longer c = record {
  not_empty = room_of_before (place c.args.last.now.from) (place c.args.part.now.to)
      (before_trans (place c.args.last.now.from) (place c.args.last.now.to) (place c.args.part.now.to) (rises c.args.last.now)
      (c.precedes.ensures.0 c.if-not-precedes.false));
  low = c.args.last.now.low;
  high = c.args.part.now.high;
}

pub returns : goal.returns
returns c =
    let front = c.requires.last.0 in
    lengthened front c.requires.last.1 (c.set_last.ensures front c.args.last.now c.requires.last.1) c.in-Ok.ensures.items c.requires.tidy
    (record {
      from = refl;
      to = refl;
      gap_from = refl;
      gap_to = refl;
      begins = c.requires.begins;
      reaches = c.requires.reaches;
      ends = c.precedes.ensures.0 c.if-not-precedes.false;
    })
