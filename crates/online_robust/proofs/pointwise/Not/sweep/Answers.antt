use Rattle.std.proofs.Common.{true, [], ◌∷◌, refl, arith}
use Rattle.rational.specs.Time.{◌≈◌, ◌<ʳ◌}
use Rattle.rational.proofs.Order.{ge_of_same, le_of_same, le_trans, lt_of_lt_of_le, same_of_le, same_refl, same_trans}
use Rattle.frac128.specs.Value.{value}
use Rattle.stl_syntax.specs.SupInf.{Robustness}
use Rattle.online_robust.specs.ReadLines.{IsBuilt}
use Rattle.online_robust.specs.Couples.{CanNegate, Couple, left_of}
use Rattle.online_robust.specs.Tails.{knot_of}
use Rattle.online_robust.proofs.Builts.{built_done, built_first, tick_between}
use Rattle.online_robust.proofs.ChosenMargins.{turned_is_function}
use Rattle.online_robust.proofs.EdgesChanged.{all_out, put_but, turned_on, way_begun}
use Rattle.online_robust.proofs.LinesGone.{both_of_one, loses_at_later}
use Rattle.online_robust.proofs.NotLemmas.{negated_held, negated_same}
use Rattle.online_robust.proofs.PointwiseLemmas.{not_less}
use Rattle.online_robust.proofs.Robustly.{robust_is_function}
use Rattle.online_robust.proofs.pointwise.Not.sweep.Goals.{In_default}
use Rattle.online_robust.proofs.pointwise.Not.sweep.Goals as goal

pub begin-start-requires : goal.begin-start-requires
begin-start-requires c = let (x, can, e) = c.requires.can in (x, can)

pub put_start-requires : goal.put_start-requires
put_start-requires c = omega (arith, c.requires.edge, c.begin-start.ensures.lost.edges)

pub loop-self-init : goal.loop-self-init
loop-self-init c =
    let (x, can, e) = c.requires.can in
    let start = c.begin-start.result in
    let ks = knot_of start ∷ [] in
    let built : (x : Couple) → CanNegate x c.args.self.now c.args.edges.now → value c.args.to.now ≈ x.to
    → IsBuilt (left_of x true) x.reach x.from (value start.at) ks =
    λ x can e. let reached = c.begin-start.ensures.reached x can in
    built_first (left_of x true) x.reach (turned_is_function true (Robustness x.left x.trace) (robust_is_function x.left x.trace)) start.at start.value
    x.from ks reached.2 reached.0 refl in
    record {
      went = λ x can e.
          let reached = c.begin-start.ensures.reached x can in (
            (same_refl (value start.at), reached.1, reached.2),
            negated_held x c.args.self.now (put_but c.in_ok-put_start.ensures) c.requires.apart (c.begin-start.ensures.negated x can),
          );
      way = way_begun c.requires.apart c.requires.apart start c.requires.edge
          (both_of_one (loses_at_later (le_trans (c.begin-start.ensures.negated x can).to (ge_of_same e)) c.begin-start.ensures.lost)) c.in_ok-put_start.ensures
          (built x can e).signal built;
    }

pub turn-requires-clause-can : goal.turn-requires-clause-can
turn-requires-clause-can c =
    let (x, can, e) = c.requires.can in
    let (reached, to) = c.loop-self.invariant.went x can e in (x, to, lt_of_lt_of_le c.in-Less.ensures (le_of_same e))

pub turn-requires-clause-edge : goal.turn-requires-clause-edge
turn-requires-clause-edge c = omega (arith, c.requires.edge, c.loop-self.invariant.way.changes.edges)

pub loop-self-preserved : goal.loop-self-preserved
loop-self-preserved c =
    let (x, can, e) = c.requires.can in
    let (reached, to) = c.loop-self.invariant.went x can e in
    let more : (x : Couple) → value c.args.to.now ≈ x.to → value c.loop-self.tail.end.at <ʳ x.to =
    λ x e. lt_of_lt_of_le c.in-Less.ensures (le_of_same e) in
    record {
      went = λ x can e.
          let (reached, to) = c.loop-self.invariant.went x can e in
          (c.in_ok-turn.ensures.reached x to (more x e), c.in_ok-turn.ensures.negated x to (more x e));
      way = turned_on c.requires.apart c.requires.apart (le_trans (c.in_ok-turn.ensures.negated x to (more x e)).to (ge_of_same e))
          (λ ks ks' on is. (on.0, λ x can e. let (reached, to) = c.loop-self.invariant.went x can e in on.1 x to (more x e) (is x can e)))
          c.loop-self.invariant.way c.in_ok-turn.ensures.turned;
    }

pub loop-self-smaller : goal.loop-self-smaller
loop-self-smaller c = c.in_ok-turn.ensures.nearer

pub put-requires : goal.put-requires
put-requires c = omega (arith, c.requires.edge, c.loop-self.invariant.way.changes.edges)

ends : (c : In_default) → (x : Couple) → CanNegate x c.args.self.now c.args.edges.now → value c.args.to.now ≈ x.to
    → value c.loop-self.tail.end.at ≈ value c.args.to.now
ends c x can e =
    let (reached, to) = c.loop-self.invariant.went x can e in
    same_of_le (le_trans to.to (ge_of_same e)) (not_less c.cmp.result c.cmp.ensures c.in_default.not-Less)

pub returns-clause-out : goal.returns-clause-out
returns-clause-out c =
    all_out c.requires.apart c.requires.apart c.args.edges.now c.put.new.edges c.requires.edge
    (λ ks f but is x can e.
    let (reached, to) = c.loop-self.invariant.went x can e in
    let end = ends (goal.at.returns-clause-out c).In_default x can e in (
      built_done (left_of x true) x.reach (turned_is_function true (Robustness x.left x.trace) (robust_is_function x.left x.trace)) x.from
          (value c.loop-self.tail.end.at) x.to ks (is x can e)
          (same_trans end e) (tick_between can.span.begin can.span.end can.span.first can.span.order) can.span.end,
      negated_held x c.args.self.now but c.requires.apart (negated_same x c.args.self.now c.loop-self.edges end to),
    ))
    c.loop-self.invariant.way c.in_ok-put.ensures

pub returns-clause-reached : goal.returns-clause-reached
returns-clause-reached c x can e =
    let (reached, to) = c.loop-self.invariant.went x can e in
    (same_trans (ends (goal.at.returns-clause-reached c).In_default x can e) e, reached.1, reached.2)
