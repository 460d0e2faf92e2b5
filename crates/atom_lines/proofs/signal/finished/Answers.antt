use Rattle.std.proofs.Common.{◌≡◌, ◌<◌, ◌≤◌, ◌^◌, ◌-◌, ◌∙◌, nat_abs, pos, suc, ap, sym, subst, length, to_z, of_z, [], arith}
use Rattle.std.specs.Int.{w64}
use Rattle.std.proofs.lemmas.Int.{to_z-of_z}
use Rattle.rational.specs.Rational.{Rational, whole}
use Rattle.rational.specs.Time.{◌≤ʳ◌}
use Rattle.pl_signal.specs.Knots.{stop}
use Rattle.rational.specs.Extended.{value_at, ◌≈ᵉ◌}
use Rattle.stl_syntax.specs.Trace.{Row}
use Rattle.atom_lines.specs.Rows.{row_of, values_at}
use Rattle.atom_lines.proofs.GrowingSums.{reach_small}
use Rattle.atom_lines.specs.How.{worth, reading_of}
use Rattle.atom_lines.specs.AtomSignals.{IsAtomSignal}
use Rattle.atom_lines.proofs.GrowingLemmas.{whole_signal}
use Rattle.atom_lines.proofs.signal.finished.Goals as goal

pub catch_up-requires-clause-limited : goal.catch_up-requires-clause-limited
catch_up-requires-clause-limited g c = c.requires.grown.late

pub catch_up-requires-clause-late : goal.catch_up-requires-clause-late
catch_up-requires-clause-late g c =
    let tr = c.args.trace.now in
    let d : Row = record { time = 0; values = [] } in
    let is : c.time-last.result ≡ (row_of tr (length tr.rows - 1)).time =
    c.time-last.ensures d ∙ ap (λ m. (row_of tr (m - 1)).time) c.rows.ensures.count in
    subst (λ m. stop c.args.signal ≤ʳ whole (pos m)) (sym is) c.requires.grown.ends

pub returns : goal.returns
returns g c =
    let b = c.args.bound.now in
    let tr = c.args.trace.now in
    let k = c.atom-atom.result.now in
    let d : Row = record { time = 0; values = [] } in
    let n = length tr.rows - 1 in
    let is : c.time-last.result ≡ (row_of tr (length tr.rows - 1)).time =
    c.time-last.ensures d ∙ ap (λ m. (row_of tr (m - 1)).time) c.rows.ensures.count in
    let count : length tr.rows ≡ suc n = let h = c.requires.some in omega arith in
    let few : c.time-last.result < 4294967296 = omega arith in
    let reached = c.requires.from k c.atom-atom.ensures.at in
    let size : nat_abs c.args.from ≤ 2 ^ 31 =
    subst (λ n. nat_abs n ≤ 2 ^ 31) (sym reached.0.sum) (reach_small k (values_at tr n) (values_at tr n) reached.1 reached.0.small) in
    let same : to_z w64 (of_z w64 c.args.from) ≡ c.args.from = to_z-of_z w64 c.args.from c.ranges.from in
    let here : (t : Rational) → value_at (g.P.Shape.function c.point.result) t ≈ᵉ worth g.P.Piecewise.read_as k.rel (whole c.args.from) =
    λ t. subst (λ n. value_at (g.P.Shape.function c.point.result) t ≈ᵉ worth g.P.Piecewise.read_as k.rel (whole n)) same (c.point.ensures.worth t) in
    subst (IsAtomSignal g.P.Shape (reading_of g.P.Piecewise.read_as) b c.args.node tr) (sym c.finish.ensures.value)
    (whole_signal g.P.Shape g.P.Piecewise.read_as b c.args.node tr k c.atom-atom.ensures.at c.args.from c.catch_up.new.signal size
    count few is reached.0.sum here c.point.ensures.base c.requires.grown c.in_ok-catch_up.ensures)
