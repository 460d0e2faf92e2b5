use Rattle.std.proofs.Common.{◌≡◌, false, true}
use Rattle.online_net.proofs.net.step_one.Goals as goal

pub returns-then-not-moved-clause-stepped : goal.returns-then-not-moved-clause-stepped
returns-then-not-moved-clause-stepped c nodes header events b ready =
    let none : c.in_ok-moved.moved ≡ false = (let e = c.if-not-moved.true in cc) in
    let some : c.in_ok-moved.moved ≡ true = (c.in_ok-moved.ensures.moved nodes header events b).1 ready in
    absurd (let x : false ≡ true = (let e = none in let f = some in cc) in cc)

pub returns-clause-stepped : goal.returns-clause-stepped
returns-clause-stepped c nodes header events b =
    let some : c.in_ok-moved.moved ≡ true = (let e = c.if-not-moved.false in cc) in
    record {
      stepped = c.in_ok-moved.ensures.stepped nodes header events b;
      belongs = c.in_ok-moved.ensures.belongs nodes header events b;
      node = c.advance.ensures.node;
      ready = (c.in_ok-moved.ensures.moved nodes header events b).0 some;
    }
