use Rattle.std.proofs.Common.{◌≡◌, ◌+◌, ◌-◌, ◌<◌, ◌≤◌, ◌^◌, ◌∙◌, [], inl, inr, length, refl, sym, ap, subst, arith}
use Rattle.std.specs.Prelude.{if◌then◌else◌}
use Rattle.std.proofs.lemmas.Option.{IfSome_then}
use Rattle.rational.specs.Rational.{IsWithin, ◌≈◌}
use Rattle.rational.specs.Extended.{value_at}
use Rattle.rational.specs.InPlay.{IsBreakpoint}
use Rattle.rational.specs.Places.{After, AtMost, Before, Same}
use Rattle.rational.proofs.Events.{breakpoint_same}
use Rattle.rational.proofs.Order.{same_refl, same_sym}
use Rattle.rational.proofs.PlaceLemmas.{after_same, same_places}
use Rattle.rational.proofs.Sames.{symᵉ}
use Rattle.rational.proofs.Sups.{sup_value_same}
use Rattle.frac128.specs.Value.{value}
use Rattle.frac128.specs.Cuts.{is_after, place}
use Rattle.pl_signal.specs.Wide.{HasCause}
use Rattle.pl_signal.specs.declared.faults.OpFault.TheVariants as F
use Rattle.pl_signal.proofs.Kept.{fault_kept}
use Rattle.courses.specs.Pairs.{IsPairWithin}
use Rattle.pieces.specs.Chains.{IsWorth, HasShape, stop}
use Rattle.pieces.specs.Sinces.{SinceOf, SinceStep}
use Rattle.pieces.proofs.Ends.{at_most_itself, at_most_of_before, at_most_trans, same_place}
use Rattle.pieces.proofs.BuildingLemmas.{chain_of}
use Rattle.pieces.proofs.ChainLemmas.{to_stop, worth_after}
use Rattle.pieces.proofs.ChainsTell.{tells_none, told}
use Rattle.pieces.proofs.ReadUpTo.{StandsAt, stands_first, stands_last, shape_at}
use Rattle.pieces.proofs.TwoChains.{IsStep, has_other, step_below, step_later, step_left, step_left_on, step_nearer, step_right, step_right_on, step_within}
use Rattle.pieces.proofs.Breakpoints.{breakpoint_at}
use Rattle.pieces.proofs.SincePlaces.{since_begins}
use Rattle.pieces.proofs.SinceSteps.{AreOperands, Breaks, IsPart, SinceAt, bases_of_stand, is_fit, refused, since_is, through}
use Rattle.pieces.proofs.since.since_from_start.Given.{Over}
use Rattle.pieces.proofs.since.since_from_start.Goals.{After-next_of-ends_p, After-until}
use Rattle.pieces.proofs.since.since_from_start.Goals as goal

pub loop-i-init : goal.loop-i-init
loop-i-init g c =
    let a = c.args.a.now in
    let b = c.args.b.now in
    let e : c.in_ok-built.built ≡ chain_of a.from [] = c.in_ok-built.ensures ∙ ap (λ s. chain_of s []) c.from.ensures in
    record {
      stands = record {
        tells = tells_none g.P.Shape (SinceOf g.P.Shape a b) a.from c.in_ok-built.built e;
        here = subst (λ x. SinceAt g.P.Shape a b (stop x) c.least-before.result) (sym e)
            (sup_value_same g.P.Shape.lowest (value_at (g.P.Shape.function c.least-before.result) a.from.at) (symᵉ (c.least-before.ensures.value a.from.at))
            (since_begins g.P.Shape.lowest g.P.Shape.highest (IsWorth g.P.Shape a) (IsWorth g.P.Shape b) a.from
            (λ u v w. after_same b.from a.from u (same_places c.requires.begins)
            (worth_after g.P.Shape b.from b.pieces u v c.len-others.ensures.normal.rising w))));
        of = inr (inr c.least-before.ensures.moves);
        shapes = λ r h. absurd (subst (λ x. HasShape x r) e h);
      };
      begins = ap (λ x. x.from) e;
      within = subst (λ x. IsWithin (2 ^ 34) (stop x).at) (sym e) c.requires.left.begins;
      above = subst (λ x. AtMost a.from (stop x)) (sym e) (at_most_itself a.from);
      below = subst (λ x. AtMost (stop x) (stop a)) (sym e) (to_stop a.from a.pieces c.len-count.ensures.normal.rising);
      left = subst (λ x. StandsAt a (stop x) 0) (sym e) (stands_first a a.from c.len-count.ensures.normal.rising (same_place a.from));
      right = subst (λ x. StandsAt b (stop x) 0) (sym e) (stands_first b a.from c.len-others.ensures.normal.rising (same_places c.requires.begins));
      event = inl (IsBreakpoint.start (subst (λ x. (stop x).at ≈ a.from.at) (sym e) (same_refl a.from.at)));
      still = refl;
    }

pub piece-q-requires : goal.piece-q-requires
piece-q-requires g c =
    has_other g.P.Shape c.args.a.now c.args.b.now (stop c.loop-i.built) c.loop-i.i c.loop-i.j c.piece-p.result.now c.len-count.ensures.normal
    c.loop-i.invariant.left c.loop-i.invariant.right c.piece-p.ensures c.requires.ends

-- the step to the next place
step : (g : Over) (c : After-next_of-ends_p g) → IsStep g.P.Shape c.args.a.now c.args.b.now (stop c.loop-i.built) c.loop-i.i c.loop-i.j c.piece-p.result.now
    c.piece-q.result.now (record { until = c.next_of-ends_p.result.0.now; left = c.next_of-ends_p.result.1; right = c.next_of-ends_p.result.2 })
step g c = record {
  left_normal = c.len-count.ensures.normal;
  right_normal = c.len-others.ensures.normal;
  left = c.loop-i.invariant.left;
  right = c.loop-i.invariant.right;
  at_p = c.piece-p.ensures;
  at_q = c.piece-q.ensures;
  one = c.next_of-ends_p.ensures.one;
  ends_left = c.next_of-ends_p.ensures.left;
  ends_right = c.next_of-ends_p.ensures.right;
  before_left = c.next_of-ends_p.ensures.before_left;
  before_right = c.next_of-ends_p.ensures.before_right;
}

two : (g : Over) (c : After-next_of-ends_p g) → AreOperands g.P.Shape c.args.a.now c.args.b.now
two g c = record {
  laws = assumption g.met.P.Shape;
  left_normal = c.len-count.ensures.normal;
  right_normal = c.len-others.ensures.normal;
  left = c.requires.left;
  right = c.requires.right;
}

-- the part of both chains up to it
part : (g : Over) (c : After-until g) → IsPart g.P.Shape c.args.a.now c.args.b.now (record {
  before = c.loop-i.before;
  left = c.piece-p.result.now.shape;
  right = c.piece-q.result.now.shape;
  from = c.until.result.time;
  to = c.next_of-ends_p.result.0.now.time;
}) (is_after c.until.result.side) (place c.next_of-ends_p.result.0.now)
part g c =
    let s = step g (goal.at.After-until g c).After-next_of-ends_p in
    let at = c.until.ensures.value in
    record {
      later = subst (λ x. Before x (place c.next_of-ends_p.result.0.now)) (sym at) (step_later s);
      above = subst (λ x. AtMost c.args.a.now.from x) (sym at) c.loop-i.invariant.above;
      below = step_below s;
      left = λ t x u. step_left_on s t (subst (λ c. After c t) at x) u;
      right = λ t x u. step_right_on s t (subst (λ c. After c t) at x) u;
      has_left = shape_at c.args.a.now.pieces c.loop-i.i c.piece-p.result.now c.piece-p.ensures;
      has_right = shape_at c.args.b.now.pieces c.loop-i.j c.piece-q.result.now c.piece-q.ensures;
    }

pub pass-requires-clause-later : goal.pass-requires-clause-later
pass-requires-clause-later g c = step_later (step g (goal.at.pass-requires-clause-later g c).After-next_of-ends_p)

pub pass-requires-clause-begins : goal.pass-requires-clause-begins
pass-requires-clause-begins g c = ap (λ s. s.at) c.until.ensures.value

pub pass-requires-clause-fit : goal.pass-requires-clause-fit
pass-requires-clause-fit g c =
    let at = goal.at.pass-requires-clause-fit g c in
    is_fit (two g at.After-next_of-ends_p) (part g at.After-until) refl
    (subst (λ s. IsWithin (2 ^ 34) s.at) (sym c.until.ensures.value) c.loop-i.invariant.within)
    (step_within (step g at.After-next_of-ends_p) c.requires.left c.requires.right)
    (subst (λ s. SinceAt g.P.Shape c.args.a.now c.args.b.now s c.loop-i.before) (sym c.until.ensures.value) c.loop-i.invariant.stands.here)

pub returns-in-Err-clause-wide : goal.returns-in-Err-clause-wide
returns-in-Err-clause-wide g c =
    let at = goal.at.returns-in-Err-clause-wide g c in
    fault_kept (HasCause g.P.Shape (SinceStep g.P.Shape c.args.a.now c.args.b.now) c.args.a.now.from.at (stop c.args.a.now).at)
    c.fault_of.result c.pass.new.fault c.fault_of.ensures tt (IfSome_then c.pass.new.fault c.in-Err.ensures.wide
    (λ pair w. (refused (two g at.After-next_of-ends_p) c.next_of-ends_p.result.0.now (part g at.After-until) c.until.ensures.value refl w.0
    (subst (λ s. Breaks g.P.Shape c.args.a.now c.args.b.now s.at) (sym c.until.ensures.value) c.loop-i.invariant.event)
    c.loop-i.invariant.stands (F.Wide pair) w.1).0))

pub returns-in-Err-clause-pair : goal.returns-in-Err-clause-pair
returns-in-Err-clause-pair g c =
    let at = goal.at.returns-in-Err-clause-pair g c in
    fault_kept (IsPairWithin c.args.a.now.from.at (stop c.args.a.now).at)
    c.fault_of.result c.pass.new.fault c.fault_of.ensures tt (IfSome_then c.pass.new.fault c.in-Err.ensures.wide
    (λ pair w. (refused (two g at.After-next_of-ends_p) c.next_of-ends_p.result.0.now (part g at.After-until) c.until.ensures.value refl w.0
    (subst (λ s. Breaks g.P.Shape c.args.a.now c.args.b.now s.at) (sym c.until.ensures.value) c.loop-i.invariant.event)
    c.loop-i.invariant.stands (F.Wide pair) w.1).1))

pub loop-i-smaller : goal.loop-i-smaller
loop-i-smaller g c =
    subst (λ i. (length c.args.a.now.pieces - i) + (length c.args.b.now.pieces - c.passed-j.result)
    < (length c.args.a.now.pieces - c.loop-i.i) + (length c.args.b.now.pieces - c.loop-i.j)) (sym c.passed-i.ensures)
    (subst (λ j. (length c.args.a.now.pieces - (if c.next_of-ends_p.result.1 then c.loop-i.i + 1 else c.loop-i.i)) + (length c.args.b.now.pieces - j)
    < (length c.args.a.now.pieces - c.loop-i.i) + (length c.args.b.now.pieces - c.loop-i.j)) (sym c.passed-j.ensures)
    (step_nearer (step g (goal.at.loop-i-smaller g c).After-next_of-ends_p)))

pub loop-i-preserved : goal.loop-i-preserved
loop-i-preserved g c =
    let at = goal.at.loop-i-preserved g c in
    let a = c.args.a.now in
    let b = c.args.b.now in
    let s = step g at.After-next_of-ends_p in
    let on = through (two g at.After-next_of-ends_p) (part g at.After-until) c.until.ensures.value refl c.loop-i.invariant.stands c.in-Ok.ensures.ok in
    let ends = sym on.1 in
    record {
      stands = on.0;
      begins = on.2 ∙ c.loop-i.invariant.begins;
      within = subst (λ s. IsWithin (2 ^ 34) s.at) ends (step_within s c.requires.left c.requires.right);
      above = subst (λ s. AtMost a.from s) ends
          (at_most_trans a.from (stop c.loop-i.built) (place c.next_of-ends_p.result.0.now) c.loop-i.invariant.above
          (at_most_of_before (stop c.loop-i.built) (place c.next_of-ends_p.result.0.now) (step_later s)));
      below = subst (λ s. AtMost s (stop a)) ends (step_below s);
      left = subst (λ i. StandsAt a (stop c.pass.new.built) i) (sym c.passed-i.ensures)
          (subst (λ s. StandsAt a s (if c.next_of-ends_p.result.1 then c.loop-i.i + 1 else c.loop-i.i)) ends (step_left s));
      right = subst (λ j. StandsAt b (stop c.pass.new.built) j) (sym c.passed-j.ensures)
          (subst (λ s. StandsAt b s (if c.next_of-ends_p.result.2 then c.loop-i.j + 1 else c.loop-i.j)) ends (step_right s));
      event = subst (λ s. Breaks g.P.Shape a b s.at) ends (elim c.next_of-ends_p.ensures.one [
        | inl e ↦ inl (subst (λ u. IsBreakpoint (IsWorth g.P.Shape a) a.from.at (stop a).at (value u.time)) (sym e)
            (breakpoint_at g.P.Shape a c.loop-i.i c.piece-p.result.now c.len-count.ensures.normal c.piece-p.ensures))
        | inr e ↦ inr (subst (λ u. IsBreakpoint (IsWorth g.P.Shape b) a.from.at (stop a).at (value u.time)) (sym e)
            (breakpoint_same (IsWorth g.P.Shape b) b.from.at (stop b).at a.from.at (stop a).at (value c.piece-q.result.now.until.time)
            (same_sym c.requires.begins.0) (same_sym c.requires.ends.0)
            (breakpoint_at g.P.Shape b c.loop-i.j c.piece-q.result.now c.len-others.ensures.normal c.piece-q.ensures)))
      ]);
      still = c.in-Ok.ensures.still;
    }

pub returns-clause-worth : goal.returns-clause-worth
returns-clause-worth g c =
    let a = c.args.a.now in
    let last : length a.pieces ≤ c.loop-i.i = let no_more = c.loop-i-test.false in let count = c.len-count.ensures.value in omega arith in
    told g.P.Shape (SinceOf g.P.Shape a c.args.b.now) a.from (stop a) c.loop-i.built (since_is g.P.Shape a c.args.b.now) c.loop-i.invariant.stands.tells
    (subst (λ s. Same s a.from) (sym c.loop-i.invariant.begins) (same_place a.from))
    (stands_last a (stop c.loop-i.built) c.loop-i.i c.loop-i.invariant.left c.loop-i.invariant.below last)

pub returns-clause-bases : goal.returns-clause-bases
returns-clause-bases g c = bases_of_stand g.P.Shape c.args.a.now c.args.b.now c.loop-i.built c.loop-i.invariant.stands.shapes
