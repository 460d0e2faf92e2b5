use Rattle.std.proofs.Common.{◌≡◌, ◌<◌, ◌-◌, ◌^◌, ◌∙◌, suc, pos, [], length, sym, subst, arith}
use Rattle.rational.specs.Rational.{whole}
use Rattle.rational.specs.Places.{Same}
use Rattle.frac128.specs.Cuts.{place}
use Rattle.value_laws.specs.Kinds.{margin_shape}
use Rattle.stl_syntax.specs.Trace.{Row, row_time}
use Rattle.stl_syntax.proofs.RowsLemmas.{first_time_at, last_time_at}
use Rattle.atom_lines.specs.Growing.{IsReachAt}
use Rattle.atom_lines.specs.How.{by_margin}
use Rattle.atom_lines.specs.Rows.{row_of}
use Rattle.atom_lines.proofs.WayLemmas.{sum_read}
use Rattle.pieces.specs.Knots.{before}
use Rattle.atom_pieces.specs.Growing.{EndsAt}
use Rattle.atom_pieces.proofs.Grown.{grown_whole}
use Rattle.atom_pieces.proofs.MarginChains.{HasMargins, end_stops, margins_end, margins_none, margins_on, way_later}
use Rattle.atom_pieces.proofs.margins.margin_pieces.Goals.{After-before_row}
use Rattle.atom_pieces.proofs.margins.margin_pieces.Goals as goal

abbrev none : Row
none = record { time = 0; values = [] }

pub loop-at-init : goal.loop-at-init
loop-at-init c =
    let tr = c.args.trace.now in
    record {
      within = omega arith;
      few = subst (λ n. n < 2 ^ 32) (first_time_at tr.rows none c.requires.some) c.begin.ensures.few;
      sum = subst (IsReachAt c.args.bound.now c.args.node tr 0)
          (sym (sum_read c.args.bound.now c.args.node tr 0 c.standing-first.result.0 c.requires.atom c.standing-first.ensures.sum)) c.standing-first.ensures.sum;
      grown = margins_none c.args.bound.now c.args.node tr c.in_ok-chain.chain c.requires.some c.in_ok-chain.ensures.none c.in_ok-chain.ensures.begins;
    }

-- the place just before the row at which the way ends
until : (c : After-before_row) → Same (place c.before_row.result) (before (row_time (row_of c.args.trace.now c.margin_way_from-way.result.row)))
until c = subst (λ n. Same (place c.before_row.result) (before (whole (pos n)))) (c.time.ensures none) c.before_row.ensures

pub put-requires-clause-later : goal.put-requires-clause-later
put-requires-clause-later c = way_later c.args.bound.now c.args.node c.args.trace.now c.loop-at.at c.margin_way_from-way.result c.loop-at.chain
    c.before_row.result c.margin_way_from-way.ensures c.loop-at.invariant.grown (until (goal.at.put-requires-clause-later c).After-before_row)

pub loop-at-preserved : goal.loop-at-preserved
loop-at-preserved c =
    let b = c.args.bound.now in
    let tr = c.args.trace.now in
    let w = c.margin_way_from-way.result in
    let way = c.margin_way_from-way.ensures in
    record {
      within = let h = way.within in omega (arith, h, c.rows-last.ensures.count);
      few = omega (arith, c.time.ensures none);
      sum = subst (IsReachAt b c.args.node tr w.row) (sym (sum_read b c.args.node tr w.row w.sum c.requires.atom way.sum)) way.sum;
      grown = margins_on b c.args.node tr c.loop-at.at w c.loop-at.chain c.put.new.self c.before_row.result c.loop-at.invariant.few way
          (until (goal.at.loop-at-preserved c).After-before_row) c.loop-at.invariant.grown c.in_ok-put.ensures.ok;
    }

pub returns : goal.returns
returns c =
    let b = c.args.bound.now in
    let tr = c.args.trace.now in
    let i = c.loop-at.invariant in
    let k = c.rows-last.result - 1 in
    let p = c.margin_standing-point in
    let here : c.loop-at.at ≡ k = (let h = i.within in omega (arith, h, c.loop-at-test.false)) in
    let count : length tr.rows ≡ suc k = (let s = c.requires.some in omega (arith, s, c.rows-last.ensures.count)) in
    let is : c.time-2.result ≡ (row_of tr k).time = c.time-2.ensures none in
    let few : c.time-2.result < 2 ^ 32 = omega arith in
    let ends = subst (λ n. EndsAt c.loop-at.chain p.result n c.end.new.chain) is c.in_ok-end.ensures in
    grown_whole margin_shape by_margin b c.args.node tr c.end.new.chain c.begin.ensures.few
    (subst (λ n. n < 2 ^ 32) (is ∙ sym (last_time_at 0 tr.rows k none count)) few)
    (margins_end b c.args.node tr k c.loop-at.chain c.end.new.chain p.result
    (record { is = p.ensures.margin; level = p.ensures.level; small = p.ensures.within })
    (subst (λ n. HasMargins b c.args.node tr n c.loop-at.chain) here i.grown) ends)
    (end_stops b c.args.node tr k c.loop-at.chain c.end.new.chain p.result count ends)
