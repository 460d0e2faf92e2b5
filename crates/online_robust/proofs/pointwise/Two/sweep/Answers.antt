use Rattle.std.proofs.Common.{[], ◌∷◌, refl, arith}
use Rattle.rational.specs.Time.{◌≈◌}
use Rattle.rational.proofs.Lists.{on_err_anyway}
use Rattle.rational.proofs.Order.{ge_of_same, le_trans, same_of_le, same_refl, same_trans}
use Rattle.frac128.specs.Value.{value}
use Rattle.online_robust.specs.ReadLines.{IsBuilt}
use Rattle.online_robust.specs.Couples.{CanJoin, Couple, IsCoupleFault, both_of}
use Rattle.online_robust.specs.Tails.{knot_of}
use Rattle.online_robust.proofs.RefusalsBeside.{memory_told}
use Rattle.online_robust.proofs.Builts.{built_done, built_first, tick_between}
use Rattle.online_robust.proofs.EdgesChanged.{all_out, put_but, turned_on, way_begun}
use Rattle.online_robust.proofs.LinesGone.{both_later}
use Rattle.online_robust.proofs.TwoLemmas.{both_is, joined_held, joined_same_time}
use Rattle.online_robust.proofs.PointwiseLemmas.{not_less}
use Rattle.online_robust.proofs.pointwise.Two.sweep.Goals.{In_default}
use Rattle.online_robust.proofs.pointwise.Two.sweep.Goals as goal

pub begin-start-requires : goal.begin-start-requires
begin-start-requires c = let (x, can, e) = c.requires.can in (x, can)

pub put_start-requires : goal.put_start-requires
put_start-requires c = omega (arith, c.requires.edge, c.begin-start.ensures.lost.edges)

pub loop-self-init : goal.loop-self-init
loop-self-init c =
    let (x, can, e) = c.requires.can in
    let start = c.begin-start.result in
    let ks = knot_of start ∷ [] in
    let built : (x : Couple) → CanJoin x c.args.self.now c.args.edges.now → value c.args.to.now ≈ x.to
    → IsBuilt (both_of x c.args.self.now) x.reach x.from (value start.at) ks =
    λ x can e. let reached = c.begin-start.ensures.reached x can in
    built_first (both_of x c.args.self.now) x.reach (both_is x c.args.self.now) start.at start.value x.from ks reached.2 reached.0 refl in
    record {
      went = λ x can e.
          let reached = c.begin-start.ensures.reached x can in (
            (same_refl (value start.at), reached.1, reached.2),
            joined_held x c.args.self.now (put_but c.in_ok-put_start.ensures) c.requires.apart.0 c.requires.apart.1 (c.begin-start.ensures.joined x can),
          );
      way = way_begun c.requires.apart.0 c.requires.apart.1 start c.requires.edge
          (both_later (le_trans (c.begin-start.ensures.joined x can).to (ge_of_same e)) c.begin-start.ensures.lost) c.in_ok-put_start.ensures
          (built x can e).signal built;
      still = c.requires.unset;
    }

pub turn-requires-clause-order : goal.turn-requires-clause-order
turn-requires-clause-order c = c.in-Less.ensures

pub turn-requires-clause-joined : goal.turn-requires-clause-joined
turn-requires-clause-joined c =
    let (x, can, e) = c.requires.can in
    let (reached, to) = c.loop-self.invariant.went x can e in (x, to, e)

pub turn-requires-clause-edge : goal.turn-requires-clause-edge
turn-requires-clause-edge c = omega (arith, c.requires.edge, c.loop-self.invariant.way.changes.edges)

pub turn-requires-clause-unset : goal.turn-requires-clause-unset
turn-requires-clause-unset c = c.loop-self.invariant.still

pub loop-self-preserved : goal.loop-self-preserved
loop-self-preserved c =
    let (x, can, e) = c.requires.can in
    let (reached, to) = c.loop-self.invariant.went x can e in
    record {
      went = λ x can e.
          let (reached, to) = c.loop-self.invariant.went x can e in (c.in_ok-turn.ensures.reached x to e, c.in_ok-turn.ensures.joined x to e);
      way = turned_on c.requires.apart.0 c.requires.apart.1 (le_trans (c.in_ok-turn.ensures.joined x to e).to (ge_of_same e))
          (λ ks ks' on is. (on.0, λ x can e. let (reached, to) = c.loop-self.invariant.went x can e in on.1 x to e (is x can e)))
          c.loop-self.invariant.way c.in_ok-turn.ensures.turned;
      still = c.in_ok-turn.ensures.still;
    }

pub loop-self-smaller : goal.loop-self-smaller
loop-self-smaller c = c.in_ok-turn.ensures.nearer

pub put-requires : goal.put-requires
put-requires c = omega (arith, c.requires.edge, c.loop-self.invariant.way.changes.edges)

ends : (c : In_default) → (x : Couple) → CanJoin x c.args.self.now c.args.edges.now → value c.args.to.now ≈ x.to
    → value c.loop-self.tail.end.at ≈ value c.args.to.now
ends c x can e =
    let (reached, to) = c.loop-self.invariant.went x can e in
    same_of_le (le_trans to.to (ge_of_same e)) (not_less c.cmp.result c.cmp.ensures c.in_default.not-Less)

pub returns-clause-out : goal.returns-clause-out
returns-clause-out c =
    all_out c.requires.apart.0 c.requires.apart.1 c.args.edges.now c.put.new.edges c.requires.edge
    (λ ks f but is x can e.
    let (reached, to) = c.loop-self.invariant.went x can e in
    let end = ends (goal.at.returns-clause-out c).In_default x can e in (
      built_done (both_of x c.args.self.now) x.reach (both_is x c.args.self.now) x.from (value c.loop-self.tail.end.at) x.to ks (is x can e)
          (same_trans end e) (tick_between can.span.begin can.span.end can.span.first can.span.order) can.span.end,
      joined_held x c.args.self.now but c.requires.apart.0 c.requires.apart.1 (joined_same_time x c.args.self.now c.loop-self.edges end to),
    ))
    c.loop-self.invariant.way c.in_ok-put.ensures

pub returns-clause-reached : goal.returns-clause-reached
returns-clause-reached c x can e =
    let (reached, to) = c.loop-self.invariant.went x can e in
    (same_trans (ends (goal.at.returns-clause-reached c).In_default x can e) e, reached.1, reached.2)

pub returns-clause-still : goal.returns-clause-still
returns-clause-still c = c.loop-self.invariant.still

pub returns-in_err-put_start-clause-wide : goal.returns-in_err-put_start-clause-wide
returns-in_err-put_start-clause-wide c x can e =
    on_err_anyway c.from_residual.result (memory_told (IsCoupleFault x c.args.self.now) c.args.fault.now c.requires.unset tt)

pub returns-in_err-turn-clause-wide : goal.returns-in_err-turn-clause-wide
returns-in_err-turn-clause-wide c x can e =
    let (reached, to) = c.loop-self.invariant.went x can e in
    on_err_anyway c.from_residual-in_err-turn.result (c.in_err-turn.ensures.wide x to e)

pub returns-in_err-put-clause-wide : goal.returns-in_err-put-clause-wide
returns-in_err-put-clause-wide c x can e =
    on_err_anyway c.from_residual-in_err-put.result (memory_told (IsCoupleFault x c.args.self.now) c.loop-self.fault c.loop-self.invariant.still tt)
