use Rattle.std.proofs.Common.{◌≡◌, ◌<◌, ◌-◌, [], length, pos, sym, subst, to_z, of_z, arith}
use Rattle.std.specs.Int.{w64}
use Rattle.rational.specs.Time.{whole}
use Rattle.stl_syntax.specs.Trace.{Row, first_time}
use Rattle.atom_lines.specs.Growing.{IsReachAt}
use Rattle.atom_lines.specs.Legs.{TurnsOver}
use Rattle.atom_lines.specs.Rows.{row_of}
use Rattle.truth_sets.specs.Growing.{GoesAlong}
use Rattle.truth_sets.specs.Rows.{alone, HasGrown}
use Rattle.truth_sets.proofs.MovingLemmas.{tidy_later}
use Rattle.truth_sets.proofs.GrowingLemmas.{grown_on, sum_read, sum_within}
use Rattle.truth_sets.proofs.atom.grow.Goals as goal

abbrev none : Row
none = record { time = 0; values = [] }

pub leg_from-leg-requires-clause-from : goal.leg_from-leg-requires-clause-from
leg_from-leg-requires-clause-from c =
    let b = c.args.bound.now in
    let i = c.args.node in
    let block = c.args.trace.now in
    let header = c.requires.grown.0 in
    let g = c.loop-at.invariant.grown header c.requires.grown.1 c.requires.grown.2 c.requires.grown.3 in
    subst (λ m. IsReachAt b i block c.loop-at.at m) (sym (sum_read b i (alone header (row_of block c.loop-at.at)) 0 c.loop-at.set.sum c.requires.atom g.sum))
    (sum_within b i header block c.loop-at.at c.loop-at.set.sum g.sum)

pub go_along-requires : goal.go_along-requires
go_along-requires c =
    let rows = c.requires.grown.1 in
    let block = c.args.trace.now in
    let w = c.leg_from-leg.result in
    let leg = c.leg_from-leg.ensures.leg in
    let before = (row_of block (w.row - 1)).time in
    let g = c.loop-at.invariant.grown c.requires.grown.0 rows c.requires.grown.2 c.requires.grown.3 in
    let e : c.time.result ≡ (row_of block w.row).time = c.time.ensures none in (
      first_time rows,
      before,
      tidy_later (first_time rows) (row_of block c.loop-at.at).time before c.loop-at.set.times leg.order g.tidy,
      subst (λ n. before < n) (sym e) leg.rises,
      subst (λ n. TurnsOver (whole (pos before)) (whole (pos n)) w.turn) (sym e) leg.inside,
    )

pub loop-at-preserved : goal.loop-at-preserved
loop-at-preserved c =
    let b = c.args.bound.now in
    let i = c.args.node in
    let block = c.args.trace.now in
    let w = c.leg_from-leg.result in
    let new = c.go_along.new.times in
    let leg = c.leg_from-leg.ensures.leg in
    let e : c.time.result ≡ (row_of block w.row).time = c.time.ensures none in
    record {
      within = c.leg_from-leg.ensures.last;
      grown = λ header rows tail g.
          grown_on b i header rows block tail c.loop-at.at c.loop-at.set (record { sum = to_z w64 (of_z w64 w.sum); times = new }) w leg
          (c.loop-at.invariant.grown header rows tail g) (sum_read b i block w.row w.sum c.requires.atom leg.sum)
          (subst (λ n. GoesAlong n w c.loop-at.set.times new) e c.in_ok-go_along.ensures);
    }

pub returns : goal.returns
returns c = λ header rows tail g.
    let i = c.loop-at.invariant in
    let last : c.loop-at.at ≡ length c.args.trace.now.rows - 1 =
    (let l = i.within in omega (arith, l, c.loop-at-test.false, c.rows-last.ensures.count)) in
    subst (λ k. HasGrown c.args.bound.now c.args.node header rows (row_of c.args.trace.now k) c.loop-at.set) last (i.grown header rows tail g)
