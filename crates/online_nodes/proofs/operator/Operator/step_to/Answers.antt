use Rattle.std.proofs.Common.{rules, to_z, of_z, w64, arith, ◌≡◌, ◌∙◌, sym, ◌^◌, ◌≤◌, ◌-◌, length, pos}
use Rattle.online_nodes.specs.Held.{held_at}
use Rattle.online_nodes.proofs.AbleLemmas.{can_answer, can_release}
use Rattle.online_nodes.proofs.AdvanceLemmas.{put_count, put_within, step_stands, step_stepped}
use Rattle.online_nodes.proofs.DueLemmas.{begun_inside}
use Rattle.online_nodes.proofs.operator.Operator.step_to.Goals as goal

pub answer-requires-clause-inside : goal.answer-requires-clause-inside
answer-requires-clause-inside c = begun_inside c.requires.2 (c.begin-begun.ensures c.requires.0 c.requires.1)

pub answer-requires-clause-able : goal.answer-requires-clause-able
answer-requires-clause-able c = can_answer c.requires.2 (c.begin-begun.ensures c.requires.0 c.requires.1)

pub held-all-requires : goal.held-all-requires
held-all-requires c =
    put_within c.requires.2 (c.begin-begun.ensures c.requires.0 c.requires.1) c.in_ok-marks.ensures.answered

pub release-requires-clause-able : goal.release-requires-clause-able
release-requires-clause-able c =
    can_release c.requires.2 c.answer.new.edges
    (put_count c.requires.2 (c.begin-begun.ensures c.requires.0 c.requires.1) c.in_ok-marks.ensures.answered)

pub reach-requires : goal.reach-requires
reach-requires c =
    let n = put_within c.requires.2 (c.begin-begun.ensures c.requires.0 c.requires.1) c.in_ok-marks.ensures.answered in
    let r = c.release.ensures.count in omega arith

pub returns-clause-stepped : goal.returns-clause-stepped
returns-clause-stepped c = λ x is d.
    let g = c.begin-begun.ensures x is in
    let front : to_z w64 (of_z w64 c.from.result) ≡ x.front =
    (let e : to_z w64 (of_z w64 c.from.result) ≡ pos c.args.front = search rules in e ∙ sym is.1) in
    let front_2 : to_z w64 (of_z w64 c.from-2.result) ≡ x.front =
    (let e : to_z w64 (of_z w64 c.from-2.result) ≡ pos c.args.front = search rules in e ∙ sym is.1) in
    let counted : length (held_at c.answer.new.edges c.args.self.now.node) ≤ 2 ^ 64 - 1 = omega (arith, c.held-all.type_inv, c.held-all.ensures) in
    step_stepped d g c.in_ok-marks.ensures.answered (rw front at c.release.ensures) (rw front_2 at c.reach.ensures) counted

pub returns-clause-stands : goal.returns-clause-stands
returns-clause-stands c = λ x is d.
    let g = c.begin-begun.ensures x is in
    let front : to_z w64 (of_z w64 c.from.result) ≡ x.front =
    (let e : to_z w64 (of_z w64 c.from.result) ≡ pos c.args.front = search rules in e ∙ sym is.1) in
    let front_2 : to_z w64 (of_z w64 c.from-2.result) ≡ x.front =
    (let e : to_z w64 (of_z w64 c.from-2.result) ≡ pos c.args.front = search rules in e ∙ sym is.1) in
    step_stands d g c.in_ok-marks.ensures.answered (rw front at c.release.ensures) (rw front_2 at c.reach.ensures) c.args.front is.1
