use Rattle.std.proofs.Common.{Bool, Result, if◌then◌else◌, ap, sym, subst}
use Rattle.std.specs.Prelude.{MatchResult}
use Rattle.std.proofs.lemmas.Option.{IfSome_then}
use Rattle.std.proofs.lemmas.Result.{on_ok_weaker, on_err_weaker}
use Rattle.rational.specs.Time.{◌<ʳ◌}
use Rattle.frac128.specs.Value.{value}
use Rattle.frac128.specs.Cuts.{place}
use Rattle.pl_signal.specs.Joining.{IsTurn, TurnsOver}
use Rattle.pl_signal.proofs.JoiningLemmas.{turns_over}
use Rattle.pieces.specs.Chains.{stop}
use Rattle.pieces.specs.Joining.{IsTakenOn}
use Rattle.pieces.proofs.JoiningLemmas.{joins_alone, turned_apart}
use Rattle.pieces.proofs.pieces.Pieces.put_taken.Given.{Over}
use Rattle.pieces.proofs.pieces.Pieces.put_taken.Goals.{Start}
use Rattle.pieces.proofs.pieces.Pieces.put_taken.Goals as goal

-- what the answer says of which of the two is taken
abbrev Says : (g : Over) (c : Start g) → Result Bool Bool → Type 0
Says g c r = MatchResult r
    (λ first. IsTakenOn g.P.Shape c.args.side c.args.p.now c.args.q.now (stop c.args.self.now) (place c.args.until.now)
    (if first then c.args.p.now else c.args.q.now))
    (IsTurn g.P.Shape c.args.side c.args.p.now c.args.q.now (stop c.args.self.now).at (value c.args.until.now.time))

pub join_crossing-requires-clause-order : goal.join_crossing-requires-clause-order
join_crossing-requires-clause-order g c =
    let start = (goal.at.join_crossing-requires-clause-order g c).Start in
    let last = stop c.args.self.now in
    subst (λ s. s.at <ʳ value c.args.until.now.time) (sym c.until-from.ensures.value)
    (turned_apart g.P.Shape c.args.p.now c.args.q.now last (place c.args.until.now)
    (turns_over g.P.Shape c.args.side c.args.p.now c.args.q.now last.at (value c.args.until.now.time) c.in-Err.first
    (subst (Says g start) c.in-Err.is c.requires.taken)) c.requires.later)

pub join_crossing-requires-clause-turned : goal.join_crossing-requires-clause-turned
join_crossing-requires-clause-turned g c =
    subst (λ s. TurnsOver (g.P.Shape.function c.args.p.now) (g.P.Shape.function c.args.q.now) s.at (value c.args.until.now.time))
    (sym c.until-from.ensures.value)
    (turns_over g.P.Shape c.args.side c.args.p.now c.args.q.now (stop c.args.self.now).at (value c.args.until.now.time) c.in-Err.first
    (subst (Says g (goal.at.join_crossing-requires-clause-turned g c).Start) c.in-Err.is c.requires.taken))

pub returns-in-Ok-true-clause-ok : goal.returns-in-Ok-true-clause-ok
returns-in-Ok-true-clause-ok g c =
    let said = subst (Says g (goal.at.returns-in-Ok-true-clause-ok g c).Start) c.in-Ok-true.is c.requires.taken in
    let all = subst (λ b. IsTakenOn g.P.Shape c.args.side c.args.p.now c.args.q.now (stop c.args.self.now) (place c.args.until.now)
    (if b then c.args.p.now else c.args.q.now)) c.in-Ok-true.field-0-test said in
    on_ok_weaker c.put.result
    (λ on. joins_alone g.P.Shape c.args.side c.args.self.now c.put.new.self c.args.p.now c.args.q.now c.args.p.now c.args.until.now all on) c.put.ensures.ok

pub returns-in-Ok-false-clause-ok : goal.returns-in-Ok-false-clause-ok
returns-in-Ok-false-clause-ok g c =
    let said = subst (Says g (goal.at.returns-in-Ok-false-clause-ok g c).Start) c.in-Ok-false.is c.requires.taken in
    let all = subst (λ b. IsTakenOn g.P.Shape c.args.side c.args.p.now c.args.q.now (stop c.args.self.now) (place c.args.until.now)
    (if b then c.args.p.now else c.args.q.now)) c.in-Ok-false.field-0-test said in
    on_ok_weaker c.put-in-Ok-false.result
    (λ on. joins_alone g.P.Shape c.args.side c.args.self.now c.put-in-Ok-false.new.self c.args.p.now c.args.q.now c.args.q.now c.args.until.now all on)
    c.put-in-Ok-false.ensures.ok

pub returns-in-Err-clause-ok : goal.returns-in-Err-clause-ok
returns-in-Err-clause-ok g c = c.join_crossing.ensures.ok c.args.side
    (subst (λ s. IsTurn g.P.Shape c.args.side c.args.p.now c.args.q.now s.at (value c.args.until.now.time) c.in-Err.first)
    (sym c.until-from.ensures.value) (subst (Says g (goal.at.returns-in-Err-clause-ok g c).Start) c.in-Err.is c.requires.taken))

pub returns-in-Err-clause-wide : goal.returns-in-Err-clause-wide
returns-in-Err-clause-wide g c = on_err_weaker c.join_crossing.result
    (λ some. IfSome_then c.join_crossing.new.fault some (λ pair h. (c.until-from.result.time, ap (λ s. s.at) c.until-from.ensures.value, h)))
    c.join_crossing.ensures.wide
