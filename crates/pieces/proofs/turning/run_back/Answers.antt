use Rattle.std.proofs.Common.{◌≡◌, ◌-◌, ◌^◌, ◌∙◌, [], suc, sym, ap, subst, arith}
use Rattle.rational.specs.Rational.{IsWithin}
use Rattle.rational.specs.Places.{Same}
use Rattle.frac128.specs.Cuts.{place}
use Rattle.pieces.specs.Chains.{HasShape, IsWorth, begin_at, end, stop}
use Rattle.pieces.specs.Turning.{RunBack, turned}
use Rattle.rational.proofs.RunningBack.{turned_of}
use Rattle.pieces.specs.Building.{GoesOn}
use Rattle.pieces.proofs.BuildingLemmas.{chain_of, goes_on_new}
use Rattle.pieces.proofs.ChainsTell.{tells_none, told, worth_is_function}
use Rattle.pieces.proofs.ReadUpTo.{last_begin, next_begin, shape_at}
use Rattle.pieces.proofs.RunningBack.{EndsTurned, back_is_function, base_within, bases_back, begin_within, ends_turned, later_turned, new_turned, none_turned}
use Rattle.pieces.proofs.RunningBack.{tells_back}
use Rattle.pieces.proofs.turning.run_back.Given.{Over}
use Rattle.pieces.proofs.turning.run_back.Goals.{After-piece-piece}
use Rattle.pieces.proofs.turning.run_back.Goals as goal

pub turn-requires : goal.turn-requires
turn-requires g c = subst (λ s. IsWithin (2 ^ 34) s.at) (sym c.until.ensures.value) c.requires.ends

pub loop-i-init : goal.loop-i-init
loop-i-init g c =
    let chain = c.args.chain.now in
    let e : c.in_ok-built.built ≡ chain_of (place c.turn.result) [] = c.in_ok-built.ensures in
    let turns : Same (place c.turn.result) (turned (stop chain)) = subst (λ s. Same (place c.turn.result) (turned s)) c.until.ensures.value c.turn.ensures in
    record {
      inside = let h = c.len-i.ensures.value in omega (arith, h);
      tells = tells_none g.P.Shape (RunBack (IsWorth g.P.Shape chain)) (place c.turn.result) c.in_ok-built.built e;
      begins = subst (λ x. Same x.from (turned (stop chain))) (sym e) turns;
      ends = subst (λ x. Same (stop x) (turned (begin_at chain.from chain.pieces c.len-i.result))) (sym e)
          (subst (λ s. Same (place c.turn.result) (turned s))
          (sym (ap (λ n. begin_at chain.from chain.pieces n) c.len-i.ensures.value ∙ last_begin chain.from chain.pieces)) turns);
      bases = λ p h m. absurd (subst (λ x. HasShape x p) e h);
      turned = subst (λ x. EndsTurned g.P.Shape chain c.len-i.result x.pieces) (sym e) (none_turned g.P.Shape chain c.len-i.result);
    }

pub turn-until-requires : goal.turn-until-requires
turn-until-requires g c = subst (λ s. IsWithin (2 ^ 34) s.at) (sym c.begin.ensures)
    (begin_within g.P.Shape c.args.chain.now (c.loop-i.i - 1) c.piece-piece.result.now c.len-i.ensures.normal c.requires c.piece-piece.ensures)

pub mirror-shape-requires : goal.mirror-shape-requires
mirror-shape-requires g c = base_within g.P.Shape (assumption g.met.P.Shape) c.piece-piece.result.now.shape

-- where the chain built so far ends
here : (g : Over) (c : After-piece-piece g) → Same (stop c.loop-i.built) (turned (end c.piece-piece.result.now))
here g c =
    let chain = c.args.chain.now in
    let next : suc (c.loop-i.i - 1) ≡ c.loop-i.i = let some = c.loop-i-test.true in omega arith in
    subst (λ s. Same (stop c.loop-i.built) (turned s))
    (subst (λ n. begin_at chain.from chain.pieces n ≡ end c.piece-piece.result.now) next
    (next_begin chain.from chain.pieces (c.loop-i.i - 1) c.piece-piece.result.now c.piece-piece.ensures)) c.loop-i.invariant.ends

-- the last two pieces built so far, by the place of the piece that is next
ends : (g : Over) (c : After-piece-piece g) → EndsTurned g.P.Shape c.args.chain.now (suc (c.loop-i.i - 1)) c.loop-i.built.pieces
ends g c =
    let next : suc (c.loop-i.i - 1) ≡ c.loop-i.i = let some = c.loop-i-test.true in omega arith in
    subst (λ n. EndsTurned g.P.Shape c.args.chain.now n c.loop-i.built.pieces) (sym next) c.loop-i.invariant.turned

pub append-requires-clause-later : goal.append-requires-clause-later
append-requires-clause-later g c =
    let at = (goal.at.append-requires-clause-later g c).After-piece-piece in
    let chain = c.args.chain.now in
    later_turned chain (c.loop-i.i - 1) c.piece-piece.result.now (stop c.loop-i.built) (place c.turn-until.result) c.len-i.ensures.normal.rising
    c.piece-piece.ensures (here g at) (subst (λ s. Same (place c.turn-until.result) (turned s)) c.begin.ensures c.turn-until.ensures)

pub append-requires-clause-new : goal.append-requires-clause-new
append-requires-clause-new g c =
    let at = (goal.at.append-requires-clause-new g c).After-piece-piece in
    let p = c.piece-piece.result.now in
    new_turned g.P.Shape c.args.chain.now (c.loop-i.i - 1) p c.loop-i.built.pieces c.mirror-shape.result c.piece-piece.ensures (ends g at)
    (turned_of (g.P.Shape.function p.shape) (g.P.Shape.function c.mirror-shape.result) c.mirror-shape.ensures.value) c.len-i.ensures.normal.each

pub loop-i-preserved : goal.loop-i-preserved
loop-i-preserved g c =
    let at = (goal.at.loop-i-preserved g c).After-piece-piece in
    let chain = c.args.chain.now in
    let p = c.piece-piece.result.now in
    let chain_so_far = c.loop-i.built in
    let turns = subst (λ s. Same (place c.turn-until.result) (turned s)) c.begin.ensures c.turn-until.ensures in
    let value = turned_of (g.P.Shape.function p.shape) (g.P.Shape.function c.mirror-shape.result) c.mirror-shape.ensures.value in
    let here_turned = ends g at in
    let on = subst (λ x. GoesOn g.P.Shape chain_so_far c.turn-until.result c.mirror-shape.result x) (sym c.in_ok-append.ensures)
    (goes_on_new g.P.Shape chain_so_far.from chain_so_far.pieces c.turn-until.result c.mirror-shape.result c.loop-i.invariant.tells.normal
    (new_turned g.P.Shape chain (c.loop-i.i - 1) p chain_so_far.pieces c.mirror-shape.result c.piece-piece.ensures here_turned value
    c.len-i.ensures.normal.each) (later_turned chain (c.loop-i.i - 1) p (stop chain_so_far) (place c.turn-until.result)
    c.len-i.ensures.normal.rising c.piece-piece.ensures (here g at) turns)) in
    record {
      inside = let h = c.loop-i.invariant.inside in omega (arith, h);
      tells = tells_back g.P.Shape chain (c.loop-i.i - 1) p
          (back_is_function (IsWorth g.P.Shape chain) (worth_is_function g.P.Shape chain c.len-i.ensures.normal)) c.piece-piece.ensures
          c.loop-i.invariant.tells (here g at) turns c.mirror-shape.ensures.value on;
      begins = subst (λ s. Same s (turned (stop chain))) (sym on.begins) c.loop-i.invariant.begins;
      ends = subst (λ s. Same s (turned (begin_at chain.from chain.pieces (c.loop-i.i - 1)))) (sym on.ends) turns;
      bases = bases_back g.P.Shape chain p.shape (shape_at chain.pieces (c.loop-i.i - 1) p c.piece-piece.ensures) c.loop-i.invariant.bases
          c.mirror-shape.ensures.base on;
      turned = subst (λ x. EndsTurned g.P.Shape chain (c.loop-i.i - 1) x.pieces) (sym c.in_ok-append.ensures)
          (ends_turned g.P.Shape chain (c.loop-i.i - 1) p chain_so_far.pieces c.mirror-shape.result c.piece-piece.ensures here_turned value
          c.turn-until.result turns);
    }

pub returns-clause-worth : goal.returns-clause-worth
returns-clause-worth g c =
    let chain = c.args.chain.now in
    let zero : c.loop-i.i ≡ 0 = let h = c.loop-i-test.false in omega (arith, h) in
    told g.P.Shape (RunBack (IsWorth g.P.Shape chain)) (turned (stop chain)) (turned chain.from) c.loop-i.built
    (back_is_function (IsWorth g.P.Shape chain) (worth_is_function g.P.Shape chain c.len-i.ensures.normal)) c.loop-i.invariant.tells
    c.loop-i.invariant.begins
    (subst (λ n. Same (stop c.loop-i.built) (turned (begin_at chain.from chain.pieces n))) zero c.loop-i.invariant.ends)
