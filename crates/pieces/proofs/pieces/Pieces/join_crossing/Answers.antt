use Rattle.std.proofs.Common.{◌^◌, ◌∙◌, ap, subst}
use Rattle.rational.proofs.Order.{le_of_lt}
use Rattle.rational.proofs.Mixed.{within_between}
use Rattle.frac128.specs.Cuts.{place}
use Rattle.pieces.specs.Building.{GoesOn}
use Rattle.pieces.proofs.BuildingLemmas.{chain_of}
use Rattle.pieces.proofs.JoiningLemmas.{joins_crossing, joins_crossing_back}
use Rattle.pieces.proofs.pieces.Pieces.join_crossing.Goals as goal

pub put_two-requires-clause-middle_within : goal.put_two-requires-clause-middle_within
put_two-requires-clause-middle_within g c =
    let meet = c.in_ok-time.ensures.met in
    within_between (2 ^ 34) c.requires.from_within c.requires.to_within (le_of_lt meet.after) (le_of_lt meet.before)

pub put_two-requires-2-clause-middle_within : goal.put_two-requires-2-clause-middle_within
put_two-requires-2-clause-middle_within g c =
    let meet = c.in_ok-time.ensures.met in
    within_between (2 ^ 34) c.requires.from_within c.requires.to_within (le_of_lt meet.after) (le_of_lt meet.before)

pub returns-then-first-clause-ok : goal.returns-then-first-clause-ok
returns-then-first-clause-ok g c side turn =
    let meet = c.in_ok-time.ensures.met in
    let old = ap (λ ps. chain_of (place c.self.inside.from) ps) c.reserve.ensures.items ∙ c.self.view_is in
    let (half, on, on') = c.put_two.ensures in
    joins_crossing g.P.Shape side c.args.self.now half (chain_of (place c.self.inside.from) c.put_two.new.items.items) c.args.p.now c.args.q.now c.args.first
    (place c.args.from.now) (record { time = c.in_ok-time.time; side = 0 }) c.args.until.now c.if-first.true c.requires.begins turn meet
    (subst (λ o. GoesOn g.P.Shape o (record { time = c.in_ok-time.time; side = 0 }) c.args.p.now half) old on) on'

pub returns-clause-ok : goal.returns-clause-ok
returns-clause-ok g c side turn =
    let meet = c.in_ok-time.ensures.met in
    let old = ap (λ ps. chain_of (place c.self.inside.from) ps) c.reserve.ensures.items ∙ c.self.view_is in
    let (half, on, on') = c.put_two-2.ensures in
    joins_crossing_back g.P.Shape side c.args.self.now half (chain_of (place c.self.inside.from) c.put_two-2.new.items.items)
    c.args.p.now c.args.q.now c.args.first (place c.args.from.now) (record { time = c.in_ok-time.time; side = 0 }) c.args.until.now
    c.if-first.false c.requires.begins turn meet
    (subst (λ o. GoesOn g.P.Shape o (record { time = c.in_ok-time.time; side = 0 }) c.args.q.now half) old on) on'
