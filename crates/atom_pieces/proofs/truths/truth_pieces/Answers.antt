use Rattle.std.proofs.Common.{◌≡◌, ◌<◌, ◌-◌, ◌^◌, suc, pos, [], length, sym, subst, arith}
use Rattle.rational.specs.Time.{whole}
use Rattle.rational.specs.Places.{Before, Same}
use Rattle.frac128.specs.Cuts.{place}
use Rattle.stl_syntax.specs.Trace.{Row, row_time}
use Rattle.stl_syntax.proofs.RowsLemmas.{first_time_at}
use Rattle.atom_lines.specs.Growing.{IsReachAt}
use Rattle.atom_lines.specs.Rows.{row_of}
use Rattle.atom_lines.proofs.WayLemmas.{sum_read}
use Rattle.pieces.specs.Chains.{stop}
use Rattle.pieces.specs.Knots.{after}
use Rattle.atom_pieces.specs.Growing.{Follows}
use Rattle.atom_pieces.proofs.TruthChains.{HasTruths, end_later, truths_none, truths_on, truths_whole, way_later}
use Rattle.atom_pieces.proofs.truths.truth_pieces.Goals.{After-after_row}
use Rattle.atom_pieces.proofs.truths.truth_pieces.Goals as goal

abbrev none : Row
none = record { time = 0; values = [] }

pub loop-at-init : goal.loop-at-init
loop-at-init c =
    let b = c.args.bound.now in
    let tr = c.args.trace.now in
    let few : (row_of tr 0).time < 2 ^ 32 = subst (λ n. n < 2 ^ 32) (first_time_at tr.rows none c.requires.some) c.begin.ensures.few in
    record {
      within = omega arith;
      few = few;
      sum = subst (IsReachAt b c.args.node tr 0)
          (sym (sum_read b c.args.node tr 0 c.standing-first.result.0 c.requires.atom c.standing-first.ensures.sum)) c.standing-first.ensures.sum;
      grown = truths_none b c.args.node tr c.in_ok-chain.chain c.standing-first.result.1 c.requires.some few c.in_ok-chain.ensures.none
          c.in_ok-chain.ensures.begins c.standing-first.ensures.holds;
    }

pub follow-requires-clause-later : goal.follow-requires-clause-later
follow-requires-clause-later c =
    subst (λ n. Before (stop c.loop-at.chain) (after (whole (pos n)))) (sym (c.time.ensures none))
    (way_later c.args.bound.now c.args.node c.args.trace.now c.loop-at.at c.loop-at.holds c.way_from-way.result c.loop-at.chain
    c.way_from-way.ensures.way c.loop-at.invariant.grown)

pub loop-at-preserved : goal.loop-at-preserved
loop-at-preserved c =
    let b = c.args.bound.now in
    let tr = c.args.trace.now in
    let w = c.way_from-way.result in
    let way = c.way_from-way.ensures.way in
    let e = c.time.ensures none in
    let f = c.time-in-loop-at.ensures none in
    let few : (row_of tr w.row).time < 2 ^ 32 = omega (arith, f) in
    record {
      within = c.way_from-way.ensures.last;
      few = few;
      sum = subst (IsReachAt b c.args.node tr w.row) (sym (sum_read b c.args.node tr w.row w.sum c.requires.atom way.sum)) way.sum;
      grown = truths_on b c.args.node tr c.loop-at.at c.loop-at.holds w c.loop-at.chain c.follow.new.chain few way c.loop-at.invariant.grown
          (subst (λ n. Follows n (row_of tr w.row).time w.passage c.loop-at.chain c.loop-at.holds w.last c.follow.new.chain) e
          (subst (λ n. Follows c.time.result n w.passage c.loop-at.chain c.loop-at.holds w.last c.follow.new.chain) f c.in_ok-follow.ensures));
    }

-- the loop ends at the last row
stands : (c : After-after_row) → HasTruths c.args.bound.now c.args.node c.args.trace.now (c.rows-last.result - 1) c.loop-at.holds c.loop-at.chain
stands c =
    let i = c.loop-at.invariant in
    let here : c.loop-at.at ≡ c.rows-last.result - 1 = (let h = i.within in omega (arith, h, c.loop-at-test.false)) in
    subst (λ n. HasTruths c.args.bound.now c.args.node c.args.trace.now n c.loop-at.holds c.loop-at.chain) here i.grown

-- the place just after it
until : (c : After-after_row) → Same (place c.after_row.result) (after (row_time (row_of c.args.trace.now (c.rows-last.result - 1))))
until c = subst (λ n. Same (place c.after_row.result) (after (whole (pos n)))) (c.time-2.ensures none) c.after_row.ensures

pub put-requires-clause-later : goal.put-requires-clause-later
put-requires-clause-later c =
    let d = (goal.at.put-requires-clause-later c).After-after_row in
    end_later c.args.bound.now c.args.node c.args.trace.now (c.rows-last.result - 1) c.loop-at.holds c.loop-at.chain c.after_row.result (stands d) (until d)

pub returns : goal.returns
returns c =
    let d = (goal.at.returns c).After-after_row in
    let tr = c.args.trace.now in
    let k = c.rows-last.result - 1 in
    let count : length tr.rows ≡ suc k = (let s = c.requires.some in omega (arith, s, c.rows-last.ensures.count)) in
    let few : (row_of tr k).time < 2 ^ 32 = omega (arith, c.time-2.ensures none) in
    truths_whole c.args.bound.now c.args.node tr k c.loop-at.holds c.loop-at.chain c.put.new.self c.after_row.result c.of.result count c.begin.ensures.few few
    (stands d) (until d) c.of.ensures c.in_ok-put.ensures.ok
