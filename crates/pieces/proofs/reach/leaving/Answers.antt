use Rattle.std.proofs.Common.{sym, subst, w64}
use Rattle.std.specs.Prelude.{neg_ℤ}
use Rattle.rational.specs.Rational.{add, whole, FitsFloor}
use Rattle.rational.specs.Places.{Same, moved_end}
use Rattle.frac128.specs.Value.{value}
use Rattle.frac128.specs.Cuts.{place}
use Rattle.pieces.proofs.Shifts.{fits, low_from, low_to, negated, turned_from, turned_to}
use Rattle.pieces.proofs.reach.leaving.Goals as goal

pub shift_end-requires : goal.shift_end-requires
shift_end-requires c =
    let a = low_from c.args.over.now c.requires.small in
    let b = low_to c.args.over.now c.requires.small in
    subst (λ z. FitsFloor w64 (add (value c.args.c.now.time) (whole z))) (sym (negated c.args.over.now.low a b))
    (fits (value c.args.c.now.time) (neg_ℤ c.args.over.now.low) c.requires.from c.requires.to
    (turned_from c.args.over.now c.requires.small c.args.over.now.low b) (turned_to c.args.over.now c.requires.small c.args.over.now.low a))

pub returns : goal.returns
returns c = subst (λ z. Same (place c.shift_end.result) (moved_end z c.args.over.now.low_in (place c.args.c.now)))
    (negated c.args.over.now.low (low_from c.args.over.now c.requires.small) (low_to c.args.over.now c.requires.small)) c.shift_end.ensures
