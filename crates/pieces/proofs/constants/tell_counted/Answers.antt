use Rattle.std.proofs.Common.{rules, arith, ◌≡◌, ◌^◌, [], ◌∷◌, drop, length, refl, sym, ap, ◌∙◌, subst}
use Rattle.std.specs.Prelude.{slice_get}
use Rattle.std.specs.VecDeque.{deque_len}
use Rattle.std.proofs.lemmas.Bool.{false≢true}
use Rattle.std.proofs.lemmas.List.{length-drop, nil_from_length}
use Rattle.std.proofs.lemmas.Result.{on_ok_weaker}
use Rattle.rational.specs.Rational.{IsWithin}
use Rattle.rational.specs.Places.{AtMost, Before, Same}
use Rattle.rational.proofs.PlaceLemmas.{at_most_of_not_before, same_of_at_most}
use Rattle.frac128.specs.Cuts.{place}
use Rattle.pieces.specs.Chains.{stop}
use Rattle.pieces.specs.Steps.{step_end}
use Rattle.pieces.proofs.ConstantLemmas.{all_constant, level_of, settled_first, step_later, told_in_limits, told_none, told_part, told_whole}
use Rattle.pieces.proofs.ConstantsTaken.{left_none, left_part, left_whole}
use Rattle.pieces.proofs.Ends.{at_most_itself, at_most_of_before, same_place}
use Rattle.pieces.proofs.StepsToTell.{first_apart}
use Rattle.pieces.proofs.constants.tell_counted.Given.{Over}
use Rattle.pieces.proofs.constants.tell_counted.Goals.{In-Some, In_default}
use Rattle.pieces.proofs.constants.tell_counted.Goals as goal

pub loop-window-init : goal.loop-window-init
loop-window-init g c =
    let (s, met, known) = c.requires.tells in
    record {
      told = λ s met k. k.has.all;
      first = known.has.first;
      asked = c.requires.asked;
      order = known.order;
      left = record { n = 0; is = refl; left = λ t a. a };
      from = refl;
      within = told_in_limits g.P.Shape s c.args.way.now met c.args.window.now known.has.can known.has.all;
    }

-- where none counts
none : (g : Over) (c : In_default g) → c.loop-window.window.steps.items ≡ []
none g c = nil_from_length c.loop-window.window.steps.items (search rules)

pub returns-in_default-clause-told : goal.returns-in_default-clause-told
returns-in_default-clause-told g c s met known =
    let cur = c.loop-window.window in
    let empty = none g (goal.at.returns-in_default-clause-told g c).In_default in
    let later = subst (λ s. Before s (place c.args.until.now)) c.until.ensures.value (c.precedes.ensures.0 c.loop-window-test.true) in
    on_ok_weaker c.put.result (λ goes. told_none g.P.Shape (assumption g.met.P.Shape) s c.args.way.now known.has.can.rising met (place c.args.until.now) cur
    (record { out = c.put.new.self; steps = cur.steps }) (c.loop-window.invariant.told s met known) c.args.until.now later
    (at_most_itself (place c.args.until.now)) known.inside known.has.to known.best c.of_none.result goes empty empty c.of_none.ensures.still
    c.of_none.ensures.value) c.put.ensures.ok

pub returns-in_default-clause-left : goal.returns-in_default-clause-left
returns-in_default-clause-left g c =
    let cur = c.loop-window.window in
    let later = subst (λ s. Before s (place c.args.until.now)) c.until.ensures.value (c.precedes.ensures.0 c.loop-window-test.true) in
    on_ok_weaker c.put.result (λ goes. left_none g.P.Shape c.args.way.now.side c.args.window.now cur (record { out = c.put.new.self; steps = cur.steps })
    c.loop-window.invariant.left (none g (goal.at.returns-in_default-clause-left g c).In_default) refl
    (subst (λ x. AtMost (stop cur.out) x) (sym goes.ends) (at_most_of_before (stop cur.out) (place c.args.until.now) later))) c.put.ensures.ok

pub returns-in_default-clause-from : goal.returns-in_default-clause-from
returns-in_default-clause-from g c = on_ok_weaker c.put.result (λ goes. goes.begins ∙ c.loop-window.invariant.from) c.put.ensures.ok

pub returns-in_default-clause-ends : goal.returns-in_default-clause-ends
returns-in_default-clause-ends g c = on_ok_weaker c.put.result
    (λ goes. subst (λ x. Same x (place c.args.until.now)) (sym goes.ends) (same_place (place c.args.until.now))) c.put.ensures.ok

pub returns-in_default-clause-first : goal.returns-in_default-clause-first
returns-in_default-clause-first g c = on_ok_weaker c.put.result (λ goes. c.loop-window.invariant.first) c.put.ensures.ok

pub returns-in_default-clause-asked : goal.returns-in_default-clause-asked
returns-in_default-clause-asked g c = on_ok_weaker c.put.result (λ goes. c.loop-window.invariant.asked) c.put.ensures.ok

-- the first and the rest
apart : (g : Over) (c : In-Some g) → c.loop-window.window.steps.items ≡ c.in-Some.best.now ∷ drop 1 c.loop-window.window.steps.items
apart g c = first_apart c.loop-window.window.steps.items (deque_len c.loop-window.window.steps) c.in-Some.best.now (search rules) (search rules) (search rules)

pub returns-then-precedes-clause-told : goal.returns-then-precedes-clause-told
returns-then-precedes-clause-told g c s met known =
    let cur = c.loop-window.window in
    let later = subst (λ s. Before s (place c.args.until.now)) c.until.ensures.value (c.precedes.ensures.0 c.loop-window-test.true) in
    let before = c.precedes-in-loop-window.ensures.0 c.if-precedes.true in
    on_ok_weaker c.put-then-precedes.result (λ goes. told_part g.P.Shape (assumption g.met.P.Shape) s c.args.way.now known.has.can.rising met
    (place c.args.until.now) cur (record { out = c.put-then-precedes.new.self; steps = cur.steps }) (c.loop-window.invariant.told s met known)
    c.args.until.now later (at_most_itself (place c.args.until.now)) known.inside known.has.to known.best c.in-Some.best.now
    (drop 1 cur.steps.items) (apart g (goal.at.returns-then-precedes-clause-told g c).In-Some) c.loop-window.invariant.first goes refl before)
    c.put-then-precedes.ensures.ok

pub returns-then-precedes-clause-left : goal.returns-then-precedes-clause-left
returns-then-precedes-clause-left g c =
    let cur = c.loop-window.window in
    on_ok_weaker c.put-then-precedes.result (λ goes. left_part g.P.Shape c.args.way.now.side c.args.window.now cur
    (record { out = c.put-then-precedes.new.self; steps = cur.steps }) c.loop-window.invariant.left c.in-Some.best.now (drop 1 cur.steps.items)
    (apart g (goal.at.returns-then-precedes-clause-left g c).In-Some) refl) c.put-then-precedes.ensures.ok

pub returns-then-precedes-clause-from : goal.returns-then-precedes-clause-from
returns-then-precedes-clause-from g c = on_ok_weaker c.put-then-precedes.result
    (λ goes. goes.begins ∙ c.loop-window.invariant.from) c.put-then-precedes.ensures.ok

pub returns-then-precedes-clause-ends : goal.returns-then-precedes-clause-ends
returns-then-precedes-clause-ends g c = on_ok_weaker c.put-then-precedes.result
    (λ goes. subst (λ x. Same x (place c.args.until.now)) (sym goes.ends) (same_place (place c.args.until.now))) c.put-then-precedes.ensures.ok

pub returns-then-precedes-clause-first : goal.returns-then-precedes-clause-first
returns-then-precedes-clause-first g c = on_ok_weaker c.put-then-precedes.result (λ goes. c.loop-window.invariant.first) c.put-then-precedes.ensures.ok

pub returns-then-precedes-clause-asked : goal.returns-then-precedes-clause-asked
returns-then-precedes-clause-asked g c = on_ok_weaker c.put-then-precedes.result (λ goes. c.loop-window.invariant.asked) c.put-then-precedes.ensures.ok

pub settle-requires-clause-asked : goal.settle-requires-clause-asked
settle-requires-clause-asked g c = (c.args.way.now.side, c.loop-window.invariant.asked)

pub settle-requires-clause-constant : goal.settle-requires-clause-constant
settle-requires-clause-constant g c =
    let (s, met, known) = c.requires.tells in
    all_constant g.P.Shape (assumption g.met.P.Shape) s c.args.way.now known.has.can.rising met c.loop-window.window (c.loop-window.invariant.told s met known)

pub put-requires-in-loop-window-clause-later : goal.put-requires-in-loop-window-clause-later
put-requires-in-loop-window-clause-later g c =
    let (s, met, known) = c.requires.tells in
    let cur = c.loop-window.window in
    step_later g.P.Shape c.args.way.now.side (stop cur.out) cur.steps.items 0 c.in-Some.best.now (c.loop-window.invariant.told s met known).steps
    (ap (λ xs. slice_get xs 0) (apart g (goal.at.put-requires-in-loop-window-clause-later g c).In-Some))

pub loop-window-smaller : goal.loop-window-smaller
loop-window-smaller g c =
    let cur = c.loop-window.window in
    let settled = c.settle.ensures.settled c.args.way.now.side c.loop-window.invariant.asked in
    let e = ap length settled.is ∙ length-drop settled.n cur.steps.items in
    let some = ap length (apart g (goal.at.loop-window-smaller g c).In-Some) in
    let more = settled.more in
    omega (arith, e, some, more)

pub loop-window-preserved : goal.loop-window-preserved
loop-window-preserved g c =
    let cur = c.loop-window.window in
    let f = c.in-Some.best.now in
    let items = apart g (goal.at.loop-window-preserved g c).In-Some in
    let later = (let (s, met, known) = c.requires.tells in step_later g.P.Shape c.args.way.now.side (stop cur.out) cur.steps.items 0 f
    (c.loop-window.invariant.told s met known).steps (ap (λ xs. slice_get xs 0) items)) in
    let settled = c.settle.ensures.settled c.args.way.now.side c.loop-window.invariant.asked in
    let most = at_most_of_not_before (step_end f) (place c.args.until.now)
    (λ b. false≢true (sym c.if-precedes.false ∙ c.precedes-in-loop-window.ensures.1 b)) in
    record {
      told = λ s met known. told_whole g.P.Shape (assumption g.met.P.Shape) s c.args.way.now known.has.can.rising met (place c.args.until.now) cur
          (record { out = c.put-in-loop-window.new.self; steps = c.settle.new.steps }) (c.loop-window.invariant.told s met known) f.until later most
          known.inside known.has.to known.best f (drop 1 cur.steps.items) items c.loop-window.invariant.first c.in_ok-put.ensures.ok refl settled;
      first = settled_first g.P.Shape c.args.way.now.side settled;
      asked = c.settle.ensures.asked c.args.way.now.side c.loop-window.invariant.asked;
      order = subst (λ x. AtMost x (place c.args.until.now)) (sym c.in_ok-put.ensures.ok.ends) most;
      left = left_whole g.P.Shape c.args.way.now.side c.args.window.now cur (record { out = c.put-in-loop-window.new.self; steps = c.settle.new.steps })
          c.loop-window.invariant.left f (drop 1 cur.steps.items) items c.in_ok-put.ensures.ok.ends settled;
      from = c.in_ok-put.ensures.ok.begins ∙ c.loop-window.invariant.from;
      within = subst (λ x. IsWithin (2 ^ 34) x.at) (sym c.in_ok-put.ensures.ok.ends) (let (s, met, known) = c.requires.tells in
          (level_of g.P.Shape c.args.way.now.side (stop cur.out) cur.steps.items 0 f (c.loop-window.invariant.told s met known).steps
          (ap (λ xs. slice_get xs 0) items)).1);
    }

pub returns-clause-ends : goal.returns-clause-ends
returns-clause-ends g c = same_of_at_most (stop c.loop-window.window.out) (place c.args.until.now) c.loop-window.invariant.order
    (at_most_of_not_before (place c.args.until.now) (stop c.loop-window.window.out)
    (λ b. false≢true (sym c.loop-window-test.false ∙ c.precedes.ensures.1 (subst (λ s. Before s (place c.args.until.now)) (sym c.until.ensures.value) b))))
