use Rattle.std.proofs.Common.{arith, sym, ◌∙◌}
use Rattle.online_nodes.proofs.BelongLemmas.{kind_inputs, held_is, room_if_ready, no_room}
use Rattle.online_nodes.proofs.operator.Operator.need.Goals as goal

pub room-requires : goal.room-requires
room-requires c = kind_inputs c.requires.3

pub returns-then-ready-clause-room : goal.returns-then-ready-clause-room
returns-then-ready-clause-room c = λ nodes header events b.
    c.room.ensures ∙ room_if_ready b (sym (c.ready.ensures.is nodes header events b) ∙ c.if-ready.true)

pub returns-then-ready-clause-most : goal.returns-then-ready-clause-most
returns-then-ready-clause-most c = λ nodes header events b. let x = held_is b in omega (arith, c.room.ensures, x)

pub returns : goal.returns
returns c = record {
  room = λ nodes header events b. no_room b (sym (c.ready.ensures.is nodes header events b) ∙ c.if-ready.false);
  most = λ nodes header events b. omega arith;
}
