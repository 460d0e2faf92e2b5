use Rattle.std.proofs.Common.{◌≡◌, ◌+◌, ◌-◌, ◌<◌, ◌≤◌, ◌^◌, ◌∙◌, [], length, refl, sym, ap, subst, arith}
use Rattle.std.specs.Prelude.{if◌then◌else◌}
use Rattle.std.proofs.lemmas.Option.{IfSome_then}
use Rattle.rational.specs.Rational.{IsWithin}
use Rattle.rational.specs.Time.{◌≤ʳ◌, ◌<ʳ◌}
use Rattle.rational.specs.Places.{AtMost, Same}
use Rattle.rational.proofs.PlaceLemmas.{same_places, le_of_at_most}
use Rattle.frac128.specs.Cuts.{place}
use Rattle.pl_signal.specs.Joining.{ChosenOf}
use Rattle.pl_signal.specs.declared.faults.OpFault.TheVariants as F
use Rattle.pl_signal.proofs.Kept.{fault_kept}
use Rattle.pieces.specs.Chains.{IsWorth, HasShape, stop}
use Rattle.pieces.specs.Joining.{IsJoinFault}
use Rattle.pieces.proofs.Ends.{after_of_lt, upto_of_lt, at_most_itself, at_most_of_before, at_most_trans, same_place}
use Rattle.pieces.proofs.BuildingLemmas.{chain_of}
use Rattle.pieces.proofs.ChainLemmas.{to_stop}
use Rattle.pieces.proofs.ChainsTell.{chosen_is_function, worth_is_function, tells_none, told}
use Rattle.pieces.proofs.ReadUpTo.{StandsAt, stands_first, stands_last, shape_at, level_at}
use Rattle.pieces.proofs.CombiningLemmas.{JoinsBoth, joined_shapes, tells_joined, fault_of_parts}
use Rattle.pieces.proofs.TwoChains.{IsStep, has_other, step_below, step_later, step_left, step_left_on, step_nearer, step_right, step_right_on, step_within}
use Rattle.pieces.proofs.pointwise.combined.Given.{Over}
use Rattle.pieces.proofs.pointwise.combined.Goals.{After-next_of-ends_p}
use Rattle.pieces.proofs.pointwise.combined.Goals as goal

pub loop-i-init : goal.loop-i-init
loop-i-init g c =
    let e : c.in_ok-built.built ≡ chain_of c.args.a.now.from [] = c.in_ok-built.ensures ∙ ap (λ s. chain_of s []) c.from.ensures in
    record {
      tells = tells_none g.P.Shape (ChosenOf c.args.side (IsWorth g.P.Shape c.args.a.now) (IsWorth g.P.Shape c.args.b.now)) c.args.a.now.from
          c.in_ok-built.built e;
      begins = ap (λ x. x.from) e;
      within = subst (λ x. IsWithin (2 ^ 34) (stop x).at) (sym e) c.requires.left.begins;
      above = subst (λ x. AtMost c.args.a.now.from (stop x)) (sym e) (at_most_itself c.args.a.now.from);
      below = subst (λ x. AtMost (stop x) (stop c.args.a.now)) (sym e)
          (to_stop c.args.a.now.from c.args.a.now.pieces c.len-count.ensures.normal.rising);
      left = subst (λ x. StandsAt c.args.a.now (stop x) 0) (sym e)
          (stands_first c.args.a.now c.args.a.now.from c.len-count.ensures.normal.rising (same_place c.args.a.now.from));
      right = subst (λ x. StandsAt c.args.b.now (stop x) 0) (sym e)
          (stands_first c.args.b.now c.args.a.now.from c.len-others.ensures.normal.rising (same_places c.requires.begins));
      still = refl;
      shapes = λ r h. absurd (subst (λ x. HasShape x r) e h);
    }

pub piece-q-requires : goal.piece-q-requires
piece-q-requires g c =
    has_other g.P.Shape c.args.a.now c.args.b.now (stop c.loop-i.built) c.loop-i.i c.loop-i.j c.piece-p.result.now c.len-count.ensures.normal
    c.loop-i.invariant.left c.loop-i.invariant.right c.piece-p.ensures c.requires.ends

-- the step to the next place
step : (g : Over) (c : After-next_of-ends_p g) → IsStep g.P.Shape c.args.a.now c.args.b.now (stop c.loop-i.built) c.loop-i.i c.loop-i.j c.piece-p.result.now
    c.piece-q.result.now (record { until = c.next_of-ends_p.result.0.now; left = c.next_of-ends_p.result.1; right = c.next_of-ends_p.result.2 })
step g c = record {
  left_normal = c.len-count.ensures.normal;
  right_normal = c.len-others.ensures.normal;
  left = c.loop-i.invariant.left;
  right = c.loop-i.invariant.right;
  at_p = c.piece-p.ensures;
  at_q = c.piece-q.ensures;
  one = c.next_of-ends_p.ensures.one;
  ends_left = c.next_of-ends_p.ensures.left;
  ends_right = c.next_of-ends_p.ensures.right;
  before_left = c.next_of-ends_p.ensures.before_left;
  before_right = c.next_of-ends_p.ensures.before_right;
}

pub join-requires-clause-later : goal.join-requires-clause-later
join-requires-clause-later g c = step_later (step g (goal.at.join-requires-clause-later g c).After-next_of-ends_p)

pub join-requires-clause-to_within : goal.join-requires-clause-to_within
join-requires-clause-to_within g c = step_within (step g (goal.at.join-requires-clause-to_within g c).After-next_of-ends_p) c.requires.left c.requires.right

pub join-requires-clause-first : goal.join-requires-clause-first
join-requires-clause-first g c =
    level_at g.P.Shape c.args.a.now c.loop-i.i c.piece-p.result.now c.len-count.ensures.normal c.requires.left c.piece-p.ensures

pub join-requires-clause-second : goal.join-requires-clause-second
join-requires-clause-second g c =
    level_at g.P.Shape c.args.b.now c.loop-i.j c.piece-q.result.now c.len-others.ensures.normal c.requires.right c.piece-q.ensures

pub returns-in-Err-clause-wide : goal.returns-in-Err-clause-wide
returns-in-Err-clause-wide g c =
    let s = step g (goal.at.returns-in-Err-clause-wide g c).After-next_of-ends_p in
    fault_kept (IsJoinFault g.P.Shape c.args.a.now c.args.b.now) c.fault_of.result c.join.new.fault c.fault_of.ensures tt
    (IfSome_then c.join.new.fault c.in-Err.ensures.wide (λ pair (from, at, fault).
    fault_of_parts g.P.Shape c.args.a.now c.args.b.now c.piece-p.result.now.shape c.piece-q.result.now.shape from c.next_of-ends_p.result.0.now.time
    (F.Wide pair) fault
    (subst (λ s. c.args.a.now.from.at ≤ʳ s) (sym at) (le_of_at_most c.args.a.now.from (stop c.loop-i.built) c.loop-i.invariant.above))
    (le_of_at_most (place c.next_of-ends_p.result.0.now) (stop c.args.a.now) (step_below s))
    (shape_at c.args.a.now.pieces c.loop-i.i c.piece-p.result.now c.piece-p.ensures)
    (shape_at c.args.b.now.pieces c.loop-i.j c.piece-q.result.now c.piece-q.ensures)
    (λ t h l. step_left_on s t (after_of_lt (stop c.loop-i.built) t (subst (λ s. s <ʳ t) at h)) (upto_of_lt (place c.next_of-ends_p.result.0.now) t l))
    (λ t h l. step_right_on s t (after_of_lt (stop c.loop-i.built) t (subst (λ s. s <ʳ t) at h)) (upto_of_lt (place c.next_of-ends_p.result.0.now) t l))))

pub loop-i-smaller : goal.loop-i-smaller
loop-i-smaller g c =
    subst (λ i. (length c.args.a.now.pieces - i) + (length c.args.b.now.pieces - c.passed-j.result)
    < (length c.args.a.now.pieces - c.loop-i.i) + (length c.args.b.now.pieces - c.loop-i.j)) (sym c.passed-i.ensures)
    (subst (λ j. (length c.args.a.now.pieces - (if c.next_of-ends_p.result.1 then c.loop-i.i + 1 else c.loop-i.i)) + (length c.args.b.now.pieces - j)
    < (length c.args.a.now.pieces - c.loop-i.i) + (length c.args.b.now.pieces - c.loop-i.j)) (sym c.passed-j.ensures)
    (step_nearer (step g (goal.at.loop-i-smaller g c).After-next_of-ends_p)))

pub loop-i-preserved : goal.loop-i-preserved
loop-i-preserved g c =
    let s = step g (goal.at.loop-i-preserved g c).After-next_of-ends_p in
    let joins = c.in-Ok.ensures.ok in
    let ends = sym joins.ends in
    let both : JoinsBoth g.P.Shape c.args.side c.args.a.now c.args.b.now c.loop-i.built c.join.new.self = record {
      p = c.piece-p.result.now.shape;
      q = c.piece-q.result.now.shape;
      until = c.next_of-ends_p.result.0.now;
      joins = joins;
      has_p = shape_at c.args.a.now.pieces c.loop-i.i c.piece-p.result.now c.piece-p.ensures;
      has_q = shape_at c.args.b.now.pieces c.loop-i.j c.piece-q.result.now c.piece-q.ensures;
      left = step_left_on s;
      right = step_right_on s;
    } in
    record {
      tells = tells_joined g.P.Shape c.args.side c.args.a.now c.args.b.now c.loop-i.invariant.tells both;
      begins = joins.begins ∙ c.loop-i.invariant.begins;
      within = subst (λ s. IsWithin (2 ^ 34) s.at) ends (step_within s c.requires.left c.requires.right);
      above = subst (λ s. AtMost c.args.a.now.from s) ends
          (at_most_trans c.args.a.now.from (stop c.loop-i.built) (place c.next_of-ends_p.result.0.now) c.loop-i.invariant.above
          (at_most_of_before (stop c.loop-i.built) (place c.next_of-ends_p.result.0.now) (step_later s)));
      below = subst (λ s. AtMost s (stop c.args.a.now)) ends (step_below s);
      left = subst (λ i. StandsAt c.args.a.now (stop c.join.new.self) i) (sym c.passed-i.ensures)
          (subst (λ s. StandsAt c.args.a.now s (if c.next_of-ends_p.result.1 then c.loop-i.i + 1 else c.loop-i.i)) ends (step_left s));
      right = subst (λ j. StandsAt c.args.b.now (stop c.join.new.self) j) (sym c.passed-j.ensures)
          (subst (λ s. StandsAt c.args.b.now s (if c.next_of-ends_p.result.2 then c.loop-i.j + 1 else c.loop-i.j)) ends (step_right s));
      still = c.in-Ok.ensures.still;
      shapes = joined_shapes g.P.Shape c.args.side c.args.a.now c.args.b.now c.loop-i.invariant.shapes both;
    }

pub returns-clause-worth : goal.returns-clause-worth
returns-clause-worth g c =
    let last : length c.args.a.now.pieces ≤ c.loop-i.i = let no_more = c.loop-i-test.false in let count = c.len-count.ensures.value in omega arith in
    let here = stands_last c.args.a.now (stop c.loop-i.built) c.loop-i.i c.loop-i.invariant.left c.loop-i.invariant.below last in
    told g.P.Shape (ChosenOf c.args.side (IsWorth g.P.Shape c.args.a.now) (IsWorth g.P.Shape c.args.b.now)) c.args.a.now.from (stop c.args.a.now)
    c.loop-i.built (chosen_is_function c.args.side (IsWorth g.P.Shape c.args.a.now) (IsWorth g.P.Shape c.args.b.now)
    (worth_is_function g.P.Shape c.args.a.now c.len-count.ensures.normal) (worth_is_function g.P.Shape c.args.b.now c.len-others.ensures.normal))
    c.loop-i.invariant.tells (subst (λ s. Same s c.args.a.now.from) (sym c.loop-i.invariant.begins) (same_place c.args.a.now.from)) here
