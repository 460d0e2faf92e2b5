use Rattle.std.proofs.Common.{[], ◌∷◌, ◌++◌, ◌∙◌}
use Rattle.online_nodes.specs.Network.{close}
use Rattle.verdict_stream.proofs.WatchedRoot.{one_other, pass_before}
use Rattle.verdict_stream.proofs.WatchedRows.{may_end, places, steps_stand, passing, can_take, is_out, start_kept, end_followed}
use Rattle.verdict_stream.proofs.watcher.Watcher.take_end.Goals as goal

pub close-requires : goal.close-requires
close-requires c = let (case, made, k, t) = c.requires in may_end c.args.self.now case k.stands t

pub step_all-requires : goal.step_all-requires
step_all-requires c =
    let (case, made, k, t) = c.requires in
    let w = k.stands in
    places c.args.self.now case w c.close.new.self (w.events ++ close ∷ [])
    (c.in-Ok.ensures.stands case.formula.nodes case.trace.header w.events w.stands)

pub take_all-requires-clause-none : goal.take_all-requires-clause-none
take_all-requires-clause-none c = let (case, made, k, t) = c.requires in k.stands.none_waiting

pub take_all-requires-clause-can : goal.take_all-requires-clause-can
take_all-requires-clause-can c =
    let (case, made, k, t) = c.requires in
    let v = c.args.self.now in
    let w = k.stands in
    let mid = c.step_all.new.self in
    let st = steps_stand v case w (close ∷ []) c.close.new.self mid.net (c.in-Ok.ensures.stands case.formula.nodes case.trace.header w.events w.stands)
    (λ header events s. c.in_ok-step_all.ensures.stands header events s) in
    let x = passing v case w (close ∷ []) mid.net (one_other case.formula.nodes case.trace.header close (λ x. let y = x in cc)) st in
    (pass_before case.formula.nodes case.trace.header w.events (close ∷ []) x.first x.beyond, can_take v case w (close ∷ []) x mid st c.step_all.ensures.start)

pub unreachable-requires : goal.unreachable-requires
unreachable-requires c =
    let (case, made, k, t) = c.requires in
    let v = c.args.self.now in
    let w = k.stands in
    let mid = c.step_all.new.self in
    let st = steps_stand v case w (close ∷ []) c.close.new.self mid.net (c.in-Ok.ensures.stands case.formula.nodes case.trace.header w.events w.stands)
    (λ header events s. c.in_ok-step_all.ensures.stands header events s) in
    let x = passing v case w (close ∷ []) mid.net (one_other case.formula.nodes case.trace.header close (λ x. let y = x in cc)) st in
    let can = can_take v case w (close ∷ []) x mid st c.step_all.ensures.start in
    start_kept v case w x c.take_all.new.self c.args.text.now c.take_all.new.text
    (is_out v case w x c.take_all.new.self c.args.text.now c.take_all.new.text t
    (c.in_ok-take_all.ensures.taken (pass_before case.formula.nodes case.trace.header w.events (close ∷ []) x.first x.beyond) can))
    c.in_default-start.is

pub returns : goal.returns
returns c = λ case made k t.
    let v = c.args.self.now in
    let w = k.stands in
    let mid = c.step_all.new.self in
    let after = c.take_all.new.self in
    let st = steps_stand v case w (close ∷ []) c.close.new.self mid.net (c.in-Ok.ensures.stands case.formula.nodes case.trace.header w.events w.stands)
    (λ header events s. c.in_ok-step_all.ensures.stands header events s) in
    let x = passing v case w (close ∷ []) mid.net (one_other case.formula.nodes case.trace.header close (λ x. let y = x in cc)) st in
    let can = can_take v case w (close ∷ []) x mid st c.step_all.ensures.start in
    end_followed v case w k
    (is_out v case w x after c.args.text.now c.take_all.new.text t
    (c.in_ok-take_all.ensures.taken (pass_before case.formula.nodes case.trace.header w.events (close ∷ []) x.first x.beyond) can))
    c.take_all.new.lines c.put_start.new.text c.in-Some.holds c.in_ok-take_all.ensures.none t
    (c.take_all.ensures.formula ∙ c.step_all.ensures.formula) c.in-Some.is c.in_ok-put_start.ensures.ok
