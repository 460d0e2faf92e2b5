use Rattle.std.proofs.Common.{◌≡◌, ◌+◌, ◌-◌, ◌^◌, length, subst, sym, arith}
use Rattle.rational.specs.Rational.{IsWithin}
use Rattle.pl_signal.proofs.KnotLemmas.{stop_read}
use Rattle.pl_signal.proofs.BuildingLemmas.{EndInTwo, step_first, step_kept, step_left}
use Rattle.pl_signal.proofs.builder.go_on.Goals as goal

pub returns-then-last-eq0-clause-on : goal.returns-then-last-eq0-clause-on
returns-then-last-eq0-clause-on g c =
    let count : length c.args.knots.now.items ≡ 1 = let some = c.requires.signal.some in omega arith in
    step_first g.P.Shape c.args.knots.now.items c.append.new.knots.items c.args.after.now c.args.at.now c.args.point.now count
    c.requires.later c.append.ensures.put

pub can_be_left_out-spare-requires : goal.can_be_left_out-spare-requires
can_be_left_out-spare-requires g c =
    let place : length c.args.knots.now.items ≡ (c.len-last.result - 1) + 1 = let some = c.requires.signal.some in omega arith in
    subst (IsWithin (2 ^ 34)) (sym (stop_read c.args.knots.now.items (c.len-last.result - 1) c.index-2.result.now place c.index-2.ensures)) c.requires.limited

pub returns-then-spare-clause-on : goal.returns-then-spare-clause-on
returns-then-spare-clause-on g c =
    let count : length c.args.knots.now.items ≡ (c.len-last.result - 1 - 1) + 2 = let some = c.requires.signal.some in let n = c.if-last-eq0.false in
    omega arith in
    let place : c.len-last.result - 1 ≡ (c.len-last.result - 1 - 1) + 1 = let n = c.if-last-eq0.false in omega arith in
    let two : EndInTwo g.P.Shape c.args.knots.now.items (c.len-last.result - 1 - 1) (c.len-last.result - 1) c.index.result.now c.index-2.result.now =
    record { count = count; next = place; first = c.index.ensures; second = c.index-2.ensures } in
    let spare = c.can_be_left_out-spare.ensures.0 c.if-spare.true in
    step_left g.P.Shape c.args.knots.now.items (c.len-last.result - 1) c.index.result.now c.index-2.result.now c.args.after.now c.args.at.now c.args.point.now
    two c.requires.signal.each c.requires.later (record { here = spare.0; on = spare.1 })

pub returns-clause-on : goal.returns-clause-on
returns-clause-on g c =
    let count : length c.args.knots.now.items ≡ (c.len-last.result - 1 - 1) + 2 = let some = c.requires.signal.some in let n = c.if-last-eq0.false in
    omega arith in
    let place : c.len-last.result - 1 ≡ (c.len-last.result - 1 - 1) + 1 = let n = c.if-last-eq0.false in omega arith in
    let two : EndInTwo g.P.Shape c.args.knots.now.items (c.len-last.result - 1 - 1) (c.len-last.result - 1) c.index.result.now c.index-2.result.now =
    record { count = count; next = place; first = c.index.ensures; second = c.index-2.ensures } in
    step_kept g.P.Shape c.args.knots.now.items c.append-2.new.knots.items c.index.result.now c.index-2.result.now
    c.args.after.now c.args.at.now c.args.point.now two c.requires.signal.each c.requires.later
    (λ spare. let yes = c.can_be_left_out-spare.ensures.1 (spare.here, spare.on) in let no = c.if-spare.false in absurd (cc)) c.append-2.ensures.put
