use Rattle.std.proofs.Common.{◌≡◌, ◌+◌, ◌≤◌, [], drop, length, arith, subst}
use Rattle.time_sets.specs.Turns.{place}
use Rattle.time_sets.specs.Sets.{has}
use Rattle.time_sets.specs.Merging.{Leads, joined}
use Rattle.time_sets.proofs.SteppingLemmas.{Joins, IsStep, merges_turn, merges_still, merges_end, inside, goes_on}
use Rattle.time_sets.proofs.merge.merged.Goals.{After-from-i, After-from-k, After-join-holds}
use Rattle.time_sets.proofs.merge.merged.Goals as goal

lead_left : (c : After-from-i) → Leads c.in-Some.next.left c.in-Some.next.at.now (drop c.loop-next.i c.args.p.now.turns.items)
lead_left c = subst (λ xs. Leads c.in-Some.next.left c.in-Some.next.at.now (drop c.loop-next.i xs)) c.deref-ps.ensures.value c.in-Some.ensures.1

lead_right : (c : After-from-i) → Leads c.in-Some.next.right c.in-Some.next.at.now (drop c.loop-next.k c.args.q.now.turns.items)
lead_right c = subst (λ xs. Leads c.in-Some.next.right c.in-Some.next.at.now (drop c.loop-next.k xs)) c.deref-qs.ensures.value c.in-Some.ensures.2

left_in : (c : After-from-i) → c.loop-next.i + c.from-i.result ≤ length c.args.p.now.turns.items
left_in c = inside c.in-Some.next.left c.in-Some.next.at.now c.args.p.now.turns.items c.loop-next.i c.from-i.result c.from-i.ensures (lead_left c)
    c.loop-next.invariant.left_in

right_in : (c : After-from-k) → c.loop-next.k + c.from-k.result ≤ length c.args.q.now.turns.items
right_in c = inside c.in-Some.next.right c.in-Some.next.at.now c.args.q.now.turns.items c.loop-next.k c.from-k.result c.from-k.ensures
    (lead_right (goal.at.overflow_add-k c).After-from-i) c.loop-next.invariant.right_in

pub overflow_add-i : goal.overflow_add-i
overflow_add-i c = let h = left_in c in let small = c.args.p.now.turns.small in omega arith

pub overflow_add-k : goal.overflow_add-k
overflow_add-k c = let h = right_in c in let small = c.args.q.now.turns.small in omega arith

step : (c : After-join-holds) → IsStep c.args.all c.join-starts.result c.loop-next.now c.loop-next.turns.items c.loop-next.left c.loop-next.right
    (drop c.loop-next.i c.args.p.now.turns.items) (drop c.loop-next.k c.args.q.now.turns.items) c.args.p.now.turns.items c.args.q.now.turns.items
    (λ t. joined c.args.all (has c.args.p.now t) (has c.args.q.now t))
    c.in-Some.next.left c.in-Some.next.right c.in-Some.next.at.now
    (drop (c.loop-next.i + c.from-i.result) c.args.p.now.turns.items) (drop (c.loop-next.k + c.from-k.result) c.args.q.now.turns.items)
    c.flip-left.result c.flip-right.result c.join-holds.result
step c =
    let at = goal.at.After-join-holds c in
    let lead = lead_left at.After-from-i in
    let lead' = lead_right at.After-from-i in
    record {
      merges = c.loop-next.invariant.merges;
      some = c.in-Some.ensures.0;
      lead = lead;
      lead' = lead';
      goes = goes_on c.in-Some.next.left c.in-Some.next.at.now c.args.p.now.turns.items c.loop-next.i c.from-i.result c.from-i.ensures lead;
      goes' = goes_on c.in-Some.next.right c.in-Some.next.at.now c.args.q.now.turns.items c.loop-next.k c.from-k.result c.from-k.ensures lead';
      is_left = c.flip-left.ensures;
      is_right = c.flip-right.ensures;
      is_holds = c.join-holds.ensures;
    }

pub loop-next-preserved-in_ok-push : goal.loop-next-preserved-in_ok-push
loop-next-preserved-in_ok-push c =
    let at = (goal.at.loop-next-preserved-in_ok-push c) in
    record {
      merges = merges_turn _ _ _ _ _ _ _ _ _ _ _ _ _ _ _ _ _ _ _ _ c.in_ok-push.ensures.items (step at.After-join-holds) c.if-holds-now.true;
      left_in = left_in at.After-from-i;
      right_in = right_in at.After-from-k;
    }

pub loop-next-preserved : goal.loop-next-preserved
loop-next-preserved c =
    let at = (goal.at.loop-next-preserved c) in
    record {
      merges = merges_still _ _ _ _ _ _ _ _ _ _ _ _ _ _ _ _ _ _ _ (step at.After-join-holds) c.if-holds-now.false;
      left_in = left_in at.After-from-i;
      right_in = right_in at.After-from-k;
    }

pub returns-clause-of : goal.returns-clause-of
returns-clause-of c =
    let none = c.in_default.ensures in
    let joins : Joins c.join-starts.result c.loop-next.turns.items c.args.p.now.turns.items c.args.q.now.turns.items
    (λ t. joined c.args.all (has c.args.p.now t) (has c.args.q.now t)) =
    merges_end _ _ _ _ _ _ _ _ _ _ _ c.loop-next.invariant.merges
    (subst (λ xs. drop c.loop-next.i xs ≡ []) c.deref-ps.ensures.value none.0)
    (subst (λ xs. drop c.loop-next.k xs ≡ []) c.deref-qs.ensures.value none.1) in
    λ on p q. record { rise = joins.rise; begins = joins.begins (place on.from) p.begins q.begins; ends = joins.ends (place on.to) p.ends q.ends }
