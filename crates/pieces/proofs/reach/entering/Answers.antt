use Rattle.std.proofs.Common.{sym, subst, w64}
use Rattle.std.specs.Prelude.{neg_ℤ}
use Rattle.rational.specs.Rational.{add, whole, FitsFloor}
use Rattle.rational.specs.Places.{Same, moved_begin}
use Rattle.frac128.specs.Value.{value}
use Rattle.frac128.specs.Cuts.{place}
use Rattle.pieces.proofs.Shifts.{fits, high_from, high_to, negated, turned_from, turned_to}
use Rattle.pieces.proofs.reach.entering.Goals as goal

pub shift_begin-requires : goal.shift_begin-requires
shift_begin-requires c =
    let a = high_from c.args.over.now c.requires.small in
    let b = high_to c.args.over.now c.requires.small in
    subst (λ z. FitsFloor w64 (add (value c.args.c.now.time) (whole z))) (sym (negated c.args.over.now.high a b))
    (fits (value c.args.c.now.time) (neg_ℤ c.args.over.now.high) c.requires.from c.requires.to
    (turned_from c.args.over.now c.requires.small c.args.over.now.high b) (turned_to c.args.over.now c.requires.small c.args.over.now.high a))

pub returns : goal.returns
returns c = subst (λ z. Same (place c.shift_begin.result) (moved_begin z c.args.over.now.high_in (place c.args.c.now)))
    (negated c.args.over.now.high (high_from c.args.over.now c.requires.small) (high_to c.args.over.now c.requires.small)) c.shift_begin.ensures
