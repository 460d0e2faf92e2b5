use Rattle.std.proofs.Common.{rules, ◌≡◌, ◌<◌, ◌≤◌, ◌^◌, nat_abs, ◌∙◌, ◌-◌, suc, ap, sym, subst, length, get_or, to_z, of_z, [], arith}
use Rattle.std.specs.Int.{w64}
use Rattle.std.proofs.lemmas.Int.{to_z-of_z}
use Rattle.stl_syntax.specs.Trace.{Row, Trace}
use Rattle.atom_lines.specs.Rows.{values_at}
use Rattle.atom_lines.specs.Sums.{reach}
use Rattle.atom_lines.specs.Growing.{GoesAlong}
use Rattle.atom_lines.proofs.GrowingSums.{reach_small}
use Rattle.atom_lines.proofs.Columns.{next_row}
use Rattle.atom_lines.proofs.GrowingLemmas.{grown_on}
use Rattle.atom_lines.proofs.signal.advance.Goals as goal

pub gap_on-next-requires-clause-later : goal.gap_on-next-requires-clause-later
gap_on-next-requires-clause-later g c =
    let tr = c.args.trace.now in
    let d : Row = record { time = 0; values = [] } in
    let e : c.args.r ≡ suc (c.args.r - 1) = let h = c.requires.later in omega arith in
    let next : (get_or tr.rows (c.args.r - 1) d).time < (get_or tr.rows c.args.r d).time =
    subst (λ m. (get_or tr.rows (c.args.r - 1) d).time < (get_or tr.rows m d).time) (sym e)
    (next_row (length tr.header.columns) tr.rows (c.args.r - 1) d c.row_at-first.ensures.rows.rows (let h = c.requires.within in omega (arith, e, h))) in
    omega (arith, c.time.ensures d, c.time-2.ensures d, next)

pub returns-clause-grown : goal.returns-clause-grown
returns-clause-grown g c =
    let b = c.args.bound.now in
    let tr = c.args.trace.now in
    let k = c.atom-atom.result.now in
    let d : Row = record { time = 0; values = [] } in
    let x = c.row_at-first.result in
    let y = c.row_at-second.result in
    let e : c.args.r ≡ suc (c.args.r - 1) = let h = c.requires.later in omega arith in
    let first : values_at x.trace.now x.row ≡ values_at tr (c.args.r - 1) =
    ap (λ (t : Trace). values_at t x.row) c.row_at-first.ensures.trace ∙ ap (λ n. values_at tr n) c.row_at-first.ensures.row in
    let second : values_at y.trace.now y.row ≡ values_at tr c.args.r =
    ap (λ (t : Trace). values_at t y.row) c.row_at-second.ensures.trace ∙ ap (λ n. values_at tr n) c.row_at-second.ensures.row in
    let from : c.gap_on-next.result.0.from ≡ reach k (values_at tr (c.args.r - 1)) (values_at tr (c.args.r - 1)) =
    c.gap_on-next.ensures.from ∙ ap (λ xs. reach k xs xs) first in
    let to : c.gap_on-next.result.0.to ≡ reach k (values_at tr (c.args.r - 1)) (values_at tr c.args.r) =
    c.gap_on-next.ensures.to ∙ ap (λ xs. reach k xs (values_at y.trace.now y.row)) first ∙ ap (λ ys. reach k (values_at tr (c.args.r - 1)) ys) second in
    let next : c.gap_on-next.result.1 ≡ reach k (values_at tr c.args.r) (values_at tr c.args.r) =
    c.gap_on-next.ensures.next ∙ ap (λ ys. reach k ys ys) second in
    let same : to_z w64 (of_z w64 c.gap_on-next.result.1) ≡ c.gap_on-next.result.1 = search (rules, to_z-of_z) in
    let goes : GoesAlong g.P.Shape g.P.Piecewise.read_as k.rel c.gap_on-next.result.0 c.gap_on-next.result.1 c.args.signal.now c.go_on.new.signal =
    subst (λ n. GoesAlong g.P.Shape g.P.Piecewise.read_as k.rel c.gap_on-next.result.0 n c.args.signal.now c.go_on.new.signal) same c.in_ok-go_on.ensures in
    let size : nat_abs c.gap_on-next.result.1 ≤ 2 ^ 31 =
    subst (λ n. nat_abs n ≤ 2 ^ 31) (sym c.gap_on-next.ensures.next)
    (reach_small k (values_at y.trace.now y.row) (values_at y.trace.now y.row) c.atom-atom.ensures.sound.limit c.gap_on-next.ensures.small_next) in
    grown_on g.P.Shape g.P.Piecewise.read_as b c.args.node tr k c.atom-atom.ensures.at c.args.r
    (c.args.r - 1) c.gap_on-next.result.0 c.gap_on-next.result.1 c.args.signal.now c.go_on.new.signal
    (record {
      neighbours = e;
      within = c.requires.within;
      first = c.gap_on-next.ensures.first ∙ c.time.ensures d;
      second = c.gap_on-next.ensures.second ∙ c.time-2.ensures d;
      from = from;
      to = to;
      at_next = next;
      size = size;
    }) c.requires.grown goes
