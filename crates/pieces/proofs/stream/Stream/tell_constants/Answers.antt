use Rattle.std.proofs.Common.{sym, ◌∙◌}
use Rattle.std.proofs.lemmas.Option.{none-some}
use Rattle.frac128.specs.Value.{value}
use Rattle.frac128.specs.Cuts.{place}
use Rattle.pieces.specs.Chains.{Chain}
use Rattle.pieces.specs.ConstantsMet.{TellsBest}
use Rattle.pieces.specs.Streaming.{Follows, HasAll, before_time}
use Rattle.pieces.proofs.FollowedConstants.{at_constant, at_ended_constant, told_by_constants, tells_constants}
use Rattle.pieces.proofs.stream.Stream.tell_constants.Given.{Over}
use Rattle.pieces.proofs.stream.Stream.tell_constants.Goals.{In-Some, In_default}
use Rattle.pieces.proofs.stream.Stream.tell_constants.Goals as goal

pub comes-ends-requires : goal.comes-ends-requires
comes-ends-requires g c =
    let (s, range, is, known, all) = c.requires.all in
    (s, known)

-- it keeps a range
never : {X : Type 0} (g : Over) (c : In_default g) → X
never g c =
    let (s, range, is, known, all) = c.requires.all in
    absurd (none-some range (sym c.in_default.is ∙ is))

pub returns-in_default-clause-told : goal.returns-in_default-clause-told
returns-in_default-clause-told g c s known all = never g (goal.at.returns-in_default-clause-told g c).In_default

pub returns-in_default-clause-bases : goal.returns-in_default-clause-bases
returns-in_default-clause-bases g c s known all = never g (goal.at.returns-in_default-clause-bases g c).In_default

pub returns-in_default-clause-at : goal.returns-in_default-clause-at
returns-in_default-clause-at g c s known all = never g (goal.at.returns-in_default-clause-at g c).In_default

-- it may tell up to there
tells : (g : Over) (c : In-Some g) (s : Chain g.row.P.Denot) → Follows g.P.Shape s c.args.self.now → HasAll g.P.Shape s c.args.self.now (value c.args.to.now)
    → TellsBest g.P.Shape s c.args.self.now.way (place c.args.self.now.met) (before_time (value c.args.to.now)) c.args.self.now.sliding
tells g c s known all = tells_constants g.P.Shape (assumption g.met.P.Shape) s c.args.self.now c.in-Some.range known c.in-Some.is (value c.args.to.now) all
    c.requires.order

pub tell_best-requires-clause-tells : goal.tell_best-requires-clause-tells
tell_best-requires-clause-tells g c =
    let (s, range, is, known, all) = c.requires.all in
    (s, place c.args.self.now.met, tells g (goal.at.tell_best-requires-clause-tells g c).In-Some s known all)

pub tell_best-requires-clause-asked : goal.tell_best-requires-clause-asked
tell_best-requires-clause-asked g c =
    let (s, range, is, known, all) = c.requires.all in
    (known.by_constants c.in-Some.range c.in-Some.is).asked

pub returns-then-ends-clause-told : goal.returns-then-ends-clause-told
returns-then-ends-clause-told g c s known all =
    let w = c.args.self.now in
    let told = c.in_ok-tell_best.ensures.told s (place w.met) (tells g (goal.at.returns-then-ends-clause-told g c).In-Some s known all) in
    told_by_constants g.P.Shape (assumption g.met.P.Shape) s w.way known.can.rising (place w.met) w.sliding.out.from (before_time (value c.args.to.now))
    c.tell_best.new.window told c.in_ok-tell_best.ensures.from c.in_ok-tell_best.ensures.ends

pub returns-then-ends-clause-bases : goal.returns-then-ends-clause-bases
returns-then-ends-clause-bases g c s known all =
    (c.in_ok-tell_best.ensures.told s (place c.args.self.now.met) (tells g (goal.at.returns-then-ends-clause-bases g c).In-Some s known all)).moved

pub returns-then-ends-clause-at : goal.returns-then-ends-clause-at
returns-then-ends-clause-at g c s known all =
    let w = c.args.self.now in
    let told = c.in_ok-tell_best.ensures.told s (place w.met) (tells g (goal.at.returns-then-ends-clause-at g c).In-Some s known all) in
    at_ended_constant g.P.Shape (assumption g.met.P.Shape) s w c.in-Some.range known c.in-Some.is (value c.args.to.now) all c.requires.order
    c.tell_best.new.window c.tell_best.new.range told c.in_ok-tell_best.ensures.first c.in_ok-tell_best.ensures.asked c.in_ok-tell_best.ensures.left
    c.in_ok-tell_best.ensures.ends (c.comes-ends.ensures.is c.if-ends.true)

pub returns-else-ends-clause-told : goal.returns-else-ends-clause-told
returns-else-ends-clause-told g c s known all =
    let w = c.args.self.now in
    let told = c.in_ok-tell_best.ensures.told s (place w.met) (tells g (goal.at.returns-else-ends-clause-told g c).In-Some s known all) in
    told_by_constants g.P.Shape (assumption g.met.P.Shape) s w.way known.can.rising (place w.met) w.sliding.out.from (before_time (value c.args.to.now))
    c.tell_best.new.window told c.in_ok-tell_best.ensures.from c.in_ok-tell_best.ensures.ends

pub returns-else-ends-clause-bases : goal.returns-else-ends-clause-bases
returns-else-ends-clause-bases g c s known all =
    (c.in_ok-tell_best.ensures.told s (place c.args.self.now.met) (tells g (goal.at.returns-else-ends-clause-bases g c).In-Some s known all)).moved

pub returns-else-ends-clause-at : goal.returns-else-ends-clause-at
returns-else-ends-clause-at g c s known all =
    let w = c.args.self.now in
    let told = c.in_ok-tell_best.ensures.told s (place w.met) (tells g (goal.at.returns-else-ends-clause-at g c).In-Some s known all) in
    at_constant g.P.Shape (assumption g.met.P.Shape) s w c.in-Some.range known c.in-Some.is (value c.args.to.now) all c.requires.order
    c.tell_best.new.window c.tell_best.new.range told c.in_ok-tell_best.ensures.first c.in_ok-tell_best.ensures.asked c.in_ok-tell_best.ensures.left
    c.in_ok-tell_best.ensures.ends (c.comes-ends.ensures.not c.if-ends.false)
