use Rattle.std.proofs.Common.{rules, ◌≡◌, Some, length, arith, subst}
use Rattle.std.specs.Prelude.{slice_get}
use Rattle.std.specs.VecDeque.{deque_len}
use Rattle.std.proofs.lemmas.Option.{slice_get_read}
use Rattle.frac128.specs.Cuts.{place}
use Rattle.pieces.specs.Constants.{GivesFirst}
use Rattle.pieces.proofs.ConstantLemmas.{level_of, step_later}
use Rattle.pieces.proofs.ConstantsTaken.{ends_before, gives_more, gives_none}
use Rattle.pieces.proofs.constants.steps_of.Given.{Over}
use Rattle.pieces.proofs.constants.steps_of.Goals.{After-index-level}
use Rattle.pieces.proofs.constants.steps_of.Goals as goal

-- the constant at the place
at : (g : Over) (c : After-index-level g) → slice_get c.args.levels.now.items c.loop-i.i ≡ Some c.index-level.result.now
at g c = slice_get_read c.args.levels.now.items (deque_len c.args.levels.now) c.loop-i.i c.index-level.result.now
    (search rules) (search rules) c.index-level.ensures

pub count-requires-clause-until_within : goal.count-requires-clause-until_within
count-requires-clause-until_within g c = (level_of g.P.Shape c.args.side (place c.args.at.now) c.args.levels.now.items c.loop-i.i c.index-level.result.now
    c.requires.steps (at g (goal.at.count-requires-clause-until_within g c).After-index-level)).1

pub count-requires-clause-level : goal.count-requires-clause-level
count-requires-clause-level g c =
    let e = at g (goal.at.count-requires-clause-level g c).After-index-level in
    record {
      steady = λ t u a b d k. (c.requires.constant c.loop-i.i c.index-level.result.now e).1 t u;
      level = (level_of g.P.Shape c.args.side (place c.args.at.now) c.args.levels.now.items c.loop-i.i c.index-level.result.now c.requires.steps e).0;
    }

pub count-requires-clause-last : goal.count-requires-clause-last
count-requires-clause-last g c = ends_before g.P.Shape c.args.side (place c.args.at.now) c.args.levels.now.items c.requires.steps c.requires.constant
    c.loop-i.i c.loop-i.steps.items c.loop-i.steps.items c.index-level.result.now (at g (goal.at.count-requires-clause-last g c).After-index-level)
    c.loop-i.invariant.gives

pub count-requires-clause-some : goal.count-requires-clause-some
count-requires-clause-some g c = step_later g.P.Shape c.args.side (place c.args.at.now) c.args.levels.now.items c.loop-i.i c.index-level.result.now
    c.requires.steps (at g (goal.at.count-requires-clause-some g c).After-index-level)

pub loop-i-init : goal.loop-i-init
loop-i-init g c = record {
  gives = gives_none g.P.Shape c.args.side (place c.args.at.now) c.args.levels.now.items c.new-steps.result.items c.new-steps.ensures.items;
}

pub loop-i-preserved : goal.loop-i-preserved
loop-i-preserved g c = record {
  gives = gives_more g.P.Shape c.args.side (place c.args.at.now) c.args.levels.now.items c.requires.steps c.requires.constant c.loop-i.i
      c.loop-i.steps.items c.count.new.steps.items c.index-level.result.now (at g (goal.at.loop-i-preserved g c).After-index-level) c.loop-i.invariant.gives
      c.in_ok-count.ensures;
}

pub returns : goal.returns
returns g c =
    let n : c.loop-i.i ≡ length c.args.levels.now.items = let more = c.loop-i-test.false in let over = c.loop-i.auto.i-end in
    let hi : c.len-i-end.result ≡ length c.args.levels.now.items = search rules in omega (arith, more, over, hi) in
    subst (λ n. GivesFirst g.P.Shape c.args.side (place c.args.at.now) c.args.levels.now.items n c.loop-i.steps.items) n c.loop-i.invariant.gives
