use Rattle.std.proofs.Common.{rules, ◌≡◌, ◌<◌, ◌≤◌, ◌+◌, ◌^◌, ◌∙◌, pos, suc, ap, sym, subst, nat_abs, to_z, of_z, arith}
use Rattle.std.specs.Int.{w64}
use Rattle.std.proofs.lemmas.Int.{to_z-of_z}
use Rattle.std.proofs.lemmas.Bool.{false≢true}
use Rattle.atom_lines.specs.Rows.{row_of, values_at}
use Rattle.atom_lines.proofs.GrowingSums.{reach_small, read_back}
use Rattle.atom_lines.proofs.MarginWayLemmas.{along_way, level_on, level_over, level_way}
use Rattle.atom_lines.proofs.WayLemmas.{reach_next}
use Rattle.atom_lines.proofs.margin_way.margin_way_from.Goals.{After-step_from-step}
use Rattle.atom_lines.proofs.margin_way.margin_way_from.Goals as goal

-- the sum at the first row is small, and read as it is
size : (c : After-step_from-step) → nat_abs c.args.from ≤ 2 ^ 31
size c =
    let k = c.atom-atom.result.now in
    let tr = c.args.trace.now in
    let reached = c.requires.from k c.atom-atom.ensures.at in
    subst (λ n. nat_abs n ≤ 2 ^ 31) (sym reached.0.sum) (reach_small k (values_at tr c.args.r) (values_at tr c.args.r) reached.1 reached.0.small)

read : (c : After-step_from-step) → to_z w64 (of_z w64 c.args.from) ≡ c.args.from
read c = read_back c.args.from (let h = size c in omega (arith, h))

-- the next row
next : (c : After-step_from-step) → c.args.r + 1 ≡ suc c.args.r
next c = omega arith

-- is later
rises : (c : After-step_from-step) → (row_of c.args.trace.now c.args.r).time < (row_of c.args.trace.now (c.args.r + 1)).time
rises c =
    let s = c.step_from-step.ensures in
    let g = c.step_from-step.result.gap in
    subst (λ n. (row_of c.args.trace.now c.args.r).time < (row_of c.args.trace.now n).time) (sym (next c))
    (let e = s.first in let f = s.second in let l = g.rising in omega (arith, e, f, l))

-- over the gap behind the first row the sum stays where its ends are the same
level : (c : After-step_from-step) → of_z w64 c.step_from-step.result.gap.to ≡ of_z w64 c.step_from-step.result.gap.from
    → c.step_from-step.result.gap.to ≡ c.step_from-step.result.gap.from
level c e =
    let g = c.step_from-step.result.gap in
    let begin : to_z w64 (of_z w64 g.from) ≡ g.from = search (rules, to_z-of_z) in
    let end : to_z w64 (of_z w64 g.to) ≡ g.to = search (rules, to_z-of_z) in
    sym end ∙ ap (to_z w64) e ∙ begin

pub returns-then-step : goal.returns-then-step
returns-then-step c =
    let d = (goal.at.returns-then-step c).After-step_from-step in
    let k = c.atom-atom.result.now in
    let tr = c.args.trace.now in
    let g = c.step_from-step.result.gap in
    along_way c.args.bound.now c.args.node k c.atom-atom.ensures.at tr c.args.r (c.args.r + 1) g c.step_from-step.result.next
    (to_z w64 (of_z w64 c.step_from-step.result.next)) c.margin_between.result (next d) (record {
      later = omega arith;
      within = c.requires.within;
      order = rises d;
      limit = c.atom-atom.ensures.sound.limit;
      sum_is = reach_next k tr c.args.r (c.args.r + 1) g c.step_from-step.result.next c.atom-atom.ensures.sound.limit (next d) c.step_from-step.ensures;
      base = λ h. c.margin_between.ensures.base h ∙ ap pos c.step_from-step.ensures.first;
    }) c.step_from-step.ensures c.margin_between.ensures.worth

pub loop-next-init : goal.loop-next-init
loop-next-init c =
    let d = (goal.at.loop-next-init c).After-step_from-step in
    let k = c.atom-atom.result.now in
    let tr = c.args.trace.now in
    let g = c.step_from-step.result.gap in
    record {
      later = omega arith;
      within = let h = c.requires.within in omega (arith, h, c.rows-last.ensures.count);
      order = rises d;
      reach = reach_next k tr c.args.r (c.args.r + 1) g c.step_from-step.result.next c.atom-atom.ensures.sound.limit (next d) c.step_from-step.ensures;
      level = level_over c.args.bound.now c.args.node k c.atom-atom.ensures.at tr c.args.r (c.args.r + 1) (to_z w64 (of_z w64 c.args.from))
          c.step_from-step.result.next (next d) (record { gap = g; step = c.step_from-step.ensures; level = level d c.if-step.false })
          (read d ∙ (c.requires.from k c.atom-atom.ensures.at).0.sum);
    }

pub loop-next-preserved : goal.loop-next-preserved
loop-next-preserved c =
    let d = (goal.at.loop-next-preserved c).After-step_from-step in
    let b = c.args.bound.now in
    let k = c.atom-atom.result.now in
    let tr = c.args.trace.now in
    let i = c.loop-next.invariant in
    let e = c.in-Some.ensures in
    let s = e.2 in
    let g = s.gap in
    let count : c.loop-next.at + 1 ≡ suc c.loop-next.at = omega arith in
    record {
      later = let h = i.later in omega (arith, h);
      within = let h = e.0 in omega (arith, h);
      order = subst (λ n. (row_of tr c.args.r).time < (row_of tr n).time) (sym count)
          (let h = i.order in let f = s.step.first in let t = s.step.second in let l = g.rising in omega (arith, h, f, t, l));
      reach = reach_next k tr c.loop-next.at (c.loop-next.at + 1) g c.in-Some.next c.atom-atom.ensures.sound.limit count s.step;
      level = level_on b c.args.node k c.atom-atom.ensures.at tr c.args.r c.loop-next.at (c.loop-next.at + 1) (to_z w64 (of_z w64 c.args.from))
          c.in-Some.next count i.level s (sym e.1 ∙ i.reach.sum);
    }

pub returns : goal.returns
returns c =
    let d = (goal.at.returns c).After-step_from-step in
    let k = c.atom-atom.result.now in
    let tr = c.args.trace.now in
    let i = c.loop-next.invariant in
    level_way c.args.bound.now c.args.node k c.atom-atom.ensures.at tr c.args.r c.loop-next.at (to_z w64 (of_z w64 c.args.from))
    (to_z w64 c.loop-next.sum-bits) c.margin_at.result (record {
      later = i.later;
      within = let h = i.within in let w = c.requires.within in omega (arith, h, w, c.rows-last.ensures.count);
      order = i.order;
      limit = c.atom-atom.ensures.sound.limit;
      sum_is = i.reach;
      base = λ h. absurd (false≢true (sym c.margin_at.ensures.level ∙ h));
    }) i.level (subst (λ n. nat_abs n ≤ 2 ^ 31) (sym (read d)) (size d)) c.margin_at.ensures.worth
