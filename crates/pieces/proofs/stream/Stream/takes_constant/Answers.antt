use Rattle.std.proofs.Common.{◌≡◌, refl, sym, subst, Some}
use Rattle.frac128.specs.Cuts.{place}
use Rattle.value_laws.specs.Members.{ShapeOf}
use Rattle.window_extrema.specs.Range.{Range}
use Rattle.pieces.specs.declared.stream.Stream.{Stream}
use Rattle.pieces.specs.Chains.{Chain}
use Rattle.pieces.specs.Streaming.{Follows}
use Rattle.pieces.proofs.FollowedConstants.{follows_constant, goes_on_constant, takes_up}
use Rattle.pieces.proofs.FollowedWindows.{follows_met_within, goes_behind}
use Rattle.pieces.proofs.PieceEnds.{piece_first, piece_last}
use Rattle.pieces.proofs.stream.Stream.takes_constant.Goals as goal

pub returns-in_default-clause-steps : goal.returns-in_default-clause-steps
returns-in_default-clause-steps g c s known next is = known.by_steps c.in_default.is

pub continued-requires : goal.continued-requires
continued-requires g c =
    let (s, known, next) = c.requires.next in
    follows_met_within g.P.Shape s c.args.self.now known.can known.begins known.ends

pub count_further-requires-clause-further : goal.count_further-requires-clause-further
count_further-requires-clause-further g c =
    let (s, known, next) = c.requires.next in
    let (e, goes) = c.in-Some-continued.ensures.some in (
      s,
      goes_on_constant g.P.Shape (assumption g.met.P.Shape) s c.args.self.now c.in-Some.range known c.in-Some.is c.args.piece.now next
          c.in-Some-continued.shape.now e goes,
    )

pub count_further-requires-clause-asked : goal.count_further-requires-clause-asked
count_further-requires-clause-asked g c =
    let (s, known, next) = c.requires.next in
    (known.by_constants c.in-Some.range c.in-Some.is).asked

pub returns-in-Some-continued-clause-met : goal.returns-in-Some-continued-clause-met
returns-in-Some-continued-clause-met g c s known next is =
    let (e, goes) = c.in-Some-continued.ensures.some in
    let w = c.args.self.now in
    subst (λ o. Follows g.P.Shape s (record {
      way = w.way;
      sliding = c.count_further.new.window;
      range = Some c.count_further.new.range;
      piece = o;
      trend = w.trend;
      met = c.args.piece.now.until;
    })) (sym e)
    (follows_constant g.P.Shape (assumption g.met.P.Shape) s w c.in-Some.range known c.in-Some.is c.args.piece.now next c.count_further.new.window
    c.count_further.new.range c.in-Some-continued.shape.now c.in_ok-count_further.ensures.asked (c.in_ok-count_further.ensures.taken s
    (goes_on_constant g.P.Shape (assumption g.met.P.Shape) s w c.in-Some.range known c.in-Some.is c.args.piece.now next c.in-Some-continued.shape.now e goes)))

pub left-until-requires : goal.left-until-requires
left-until-requires g c =
    let (s, known, next) = c.requires.next in
    record {
      from = piece_first known.can next.piece;
      to = piece_last known.can next.piece;
      small = known.can.small;
      to_within = known.within;
    }

pub take_up-requires-clause-next : goal.take_up-requires-clause-next
take_up-requires-clause-next g c =
    let (s, known, next) = c.requires.next in (
      s,
      takes_up g.P.Shape (assumption g.met.P.Shape) s c.args.self.now c.in-Some.range known c.in-Some.is c.args.piece.now next (place c.left-until.result)
          (c.continued.ensures.none c.in_default-continued.is) (c.counts_longer.ensures.steady c.if-counts_longer.true) c.left-until.ensures
          (c.counts_longer.ensures.longer c.if-counts_longer.true),
    )

pub take_up-requires-clause-asked : goal.take_up-requires-clause-asked
take_up-requires-clause-asked g c =
    let (s, known, next) = c.requires.next in
    (known.by_constants c.in-Some.range c.in-Some.is).asked

pub returns-then-counts_longer-clause-met : goal.returns-then-counts_longer-clause-met
returns-then-counts_longer-clause-met g c s known next is =
    let w = c.args.self.now in
    follows_constant g.P.Shape (assumption g.met.P.Shape) s w c.in-Some.range known c.in-Some.is c.args.piece.now next c.take_up.new.window
    c.take_up.new.range c.args.piece.now.shape c.in_ok-take_up.ensures.asked (c.in_ok-take_up.ensures.taken s
    (takes_up g.P.Shape (assumption g.met.P.Shape) s w c.in-Some.range known c.in-Some.is c.args.piece.now next (place c.left-until.result)
    (c.continued.ensures.none c.in_default-continued.is) (c.counts_longer.ensures.steady c.if-counts_longer.true) c.left-until.ensures
    (c.counts_longer.ensures.longer c.if-counts_longer.true)))

-- the window with the range that it has
has_range : {P : Type 0} (shape : ShapeOf P) (s : Chain P) (w : Stream P) (range : Range P) → w.range ≡ Some range → Follows shape s w
    → Follows shape s (record { way = w.way; sliding = w.sliding; range = Some range; piece = w.piece; trend = w.trend; met = w.met })
has_range shape s w range is known = subst (λ o. Follows shape s (record {
  way = w.way;
  sliding = w.sliding;
  range = o;
  piece = w.piece;
  trend = w.trend;
  met = w.met;
})) is known

pub make_steps-requires : goal.make_steps-requires
make_steps-requires g c =
    let (s, known, next) = c.requires.next in
    record {
      constants = (
        s,
        c.in-Some.range,
        refl,
        has_range g.P.Shape s c.args.self.now c.in-Some.range c.in-Some.is known,
        goes_behind g.P.Shape s c.args.self.now c.args.piece.now next,
      );
    }

pub returns-clause-steps : goal.returns-clause-steps
returns-clause-steps g c s known next is =
    c.in_ok-make_steps.ensures.steps s c.in-Some.range refl (has_range g.P.Shape s c.args.self.now c.in-Some.range c.in-Some.is known)
    (goes_behind g.P.Shape s c.args.self.now c.args.piece.now next)
