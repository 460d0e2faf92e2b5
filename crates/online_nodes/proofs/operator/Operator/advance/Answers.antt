use Rattle.std.proofs.Common.{rules, arith, ◌≡◌, ◌∙◌, refl, sym, subst, ℕ, ◌+◌, ◌*◌, ◌<◌, ◌≤◌, ℤ, pos, ◌≤ℤ◌, ◌<ℤ◌, to_z, of_z, w64}
use Rattle.std.proofs.lemmas.Int.{ints, to_z-of_z}
use Rattle.rational.proofs.Lists.{on_err_anyway}
use Rattle.stl_syntax.specs.Trace.{first_time}
use Rattle.online_nodes.specs.Network.{state}
use Rattle.online_nodes.specs.Held.{edge_at, with_edge, with_number}
use Rattle.online_nodes.proofs.BelongLemmas.{held_is, own_edge, ready_is}
use Rattle.online_nodes.proofs.IdleLemmas.{here_due, idle_stands, idle_stepped, low_stands, low_stepped, situation, start_is}
use Rattle.online_nodes.proofs.ReadLemmas.{allowed_by_now}
use Rattle.online_nodes.proofs.SteppedLemmas.{belongs_after}
use Rattle.online_nodes.proofs.operator.Operator.advance.Goals as goal

-- not ready
pub returns-in_default-clause-stepped : goal.returns-in_default-clause-stepped
returns-in_default-clause-stepped c = λ nodes header events b. idle_stepped b (c.in_default.ensures nodes header events b)

pub returns-in_default-clause-belongs : goal.returns-in_default-clause-belongs
returns-in_default-clause-belongs c = λ nodes header events b.
    let idle = c.in_default.ensures nodes header events b in
    belongs_after b c.args.self.now c.args.edges.now refl (idle_stepped b idle) (idle_stands b idle)

pub from_start-requires : goal.from_start-requires
from_start-requires c =
    let b = c.requires.3 in
    let due = c.in-Some.ensures c.requires.0 c.requires.1 c.requires.2 b in
    let far : c.in-Some.number ≤ℤ pos c.args.now = allowed_by_now b c.in-Some.number due.1 in
    let same : to_z w64 (of_z w64 c.in-Some.number) ≡ c.in-Some.number = search (rules, to_z-of_z) in
    let small : c.args.now ≤ 4294967295 = omega (arith, c.ranges.now) in
    omega (arith, ints, far, same, small)

-- below the start
pub reach-requires : goal.reach-requires
reach-requires c = own_edge c.requires.3

pub returns-in_default-from_start-clause-stepped : goal.returns-in_default-from_start-clause-stepped
returns-in_default-from_start-clause-stepped c = λ nodes header events b.
    let due = c.in-Some.ensures nodes header events b in
    let first = start_is b c.in-Some-start.start c.in-Some-start.ensures in
    let same : to_z w64 (of_z w64 c.in-Some.number) ≡ c.in-Some.number = search (rules, to_z-of_z) in
    let low : c.in-Some.number <ℤ pos (first_time (state nodes events).rows) =
    omega (arith, ints, first, same, c.in_default-from_start.ensures) in
    let noted : c.reach.new.self ≡ record c.args.edges.now {
      edges = with_edge c.args.edges.now c.args.self.now.node
          (with_number (edge_at c.args.edges.now c.args.self.now.node) c.in-Some.number);
    } =
    subst (λ (z : ℤ). c.reach.new.self ≡ record c.args.edges.now {
      edges = with_edge c.args.edges.now c.args.self.now.node
          (with_number (edge_at c.args.edges.now c.args.self.now.node) z);
    }) same c.reach.ensures in
    low_stepped b c.in-Some.number due.1 low noted

pub returns-in_default-from_start-clause-belongs : goal.returns-in_default-from_start-clause-belongs
returns-in_default-from_start-clause-belongs c = λ nodes header events b.
    let due = c.in-Some.ensures nodes header events b in
    let first = start_is b c.in-Some-start.start c.in-Some-start.ensures in
    let same : to_z w64 (of_z w64 c.in-Some.number) ≡ c.in-Some.number = search (rules, to_z-of_z) in
    let low : c.in-Some.number <ℤ pos (first_time (state nodes events).rows) =
    omega (arith, ints, first, same, c.in_default-from_start.ensures) in
    let noted : c.reach.new.self ≡ record c.args.edges.now {
      edges = with_edge c.args.edges.now c.args.self.now.node
          (with_number (edge_at c.args.edges.now c.args.self.now.node) c.in-Some.number);
    } =
    subst (λ (z : ℤ). c.reach.new.self ≡ record c.args.edges.now {
      edges = with_edge c.args.edges.now c.args.self.now.node
          (with_number (edge_at c.args.edges.now c.args.self.now.node) z);
    }) same c.reach.ensures in
    belongs_after b c.args.self.now c.reach.new.self refl (low_stepped b c.in-Some.number due.1 low noted)
    (low_stands b c.in-Some.number due.1 low noted)

-- at the start or later
pub step_to-requires : goal.step_to-requires
step_to-requires c =
    let b = c.requires.3 in
    let due = c.in-Some.ensures c.requires.0 c.requires.1 c.requires.2 b in
    let first = start_is b c.in-Some-start.start c.in-Some-start.ensures in
    let same : to_z w64 (of_z w64 c.in-Some.number) ≡ c.in-Some.number = search (rules, to_z-of_z) in
    let front = c.in-Some-from_start.ensures in (
      situation b c.in-Some-from_start.front,
      (first, refl),
      here_due b c.in-Some-start.start c.in-Some-from_start.front c.in-Some.number (omega (arith, c.ranges.now)) first (sym same ∙ front.0) front.1
          due.0 due.1,
    )

pub returns-in_err-step_to-clause-memory : goal.returns-in_err-step_to-clause-memory
returns-in_err-step_to-clause-memory c = λ nodes header events b.
    let ready = (ready_is nodes (state nodes events) c.args.self.now.node).0 (c.in-Some.ensures nodes header events b).0 in
    on_err_anyway c.from_residual.result
    (ready, subst (λ (n : ℕ). c.args.edges.now.spare < 2 * n + 2) (held_is b) c.in_err-step_to.ensures.memory)

pub returns-clause-stepped : goal.returns-clause-stepped
returns-clause-stepped c = λ nodes header events b.
    let due = c.in-Some.ensures nodes header events b in
    let first = start_is b c.in-Some-start.start c.in-Some-start.ensures in
    let same : to_z w64 (of_z w64 c.in-Some.number) ≡ c.in-Some.number = search (rules, to_z-of_z) in
    let front = c.in-Some-from_start.ensures in
    c.in_ok-step_to.ensures.stepped (situation b c.in-Some-from_start.front) (first, refl)
    (here_due b c.in-Some-start.start c.in-Some-from_start.front c.in-Some.number (omega (arith, c.ranges.now)) first (sym same ∙ front.0) front.1
    due.0 due.1)

pub returns-clause-belongs : goal.returns-clause-belongs
returns-clause-belongs c = λ nodes header events b.
    let due = c.in-Some.ensures nodes header events b in
    let first = start_is b c.in-Some-start.start c.in-Some-start.ensures in
    let same : to_z w64 (of_z w64 c.in-Some.number) ≡ c.in-Some.number = search (rules, to_z-of_z) in
    let front = c.in-Some-from_start.ensures in
    let step_due = here_due b c.in-Some-start.start c.in-Some-from_start.front c.in-Some.number (omega (arith, c.ranges.now)) first
    (sym same ∙ front.0) front.1 due.0 due.1 in
    belongs_after b c.step_to.new.self c.step_to.new.edges c.in_ok-step_to.ensures.node
    (c.in_ok-step_to.ensures.stepped (situation b c.in-Some-from_start.front) (first, refl) step_due)
    (c.in_ok-step_to.ensures.stands (situation b c.in-Some-from_start.front) (first, refl) step_due)
