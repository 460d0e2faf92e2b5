use Rattle.std.proofs.Common.{rules, ◌≡◌, ◌<◌, ◌≤◌, ◌^◌, nat_abs, arith, sym, subst, pos, to_z, of_z, [], ◌∷◌}
use Rattle.std.specs.Int.{w64}
use Rattle.std.proofs.lemmas.Int.{to_z-of_z}
use Rattle.std.proofs.lemmas.Result.{IfOk-weaker}
use Rattle.rational.specs.Rational.{Rational, ◌≈◌, whole}
use Rattle.rational.specs.Extended.{value_at, ◌≈ᵉ◌}
use Rattle.frac128.specs.Value.{value}
use Rattle.stl_syntax.specs.Trace.{Row, row_time}
use Rattle.atom_lines.specs.Rows.{row_of, values_at}
use Rattle.atom_lines.proofs.GrowingSums.{reach_small}
use Rattle.atom_lines.specs.How.{worth}
use Rattle.atom_lines.specs.Growing.{HasGrown}
use Rattle.atom_lines.proofs.GrowingLemmas.{begun}
use Rattle.atom_lines.proofs.signal.begin.Goals as goal

pub returns : goal.returns
returns g c =
    let b = c.args.bound.now in
    let tr = c.args.trace.now in
    let k = c.atom-atom.result.now in
    let d : Row = record { time = 0; values = [] } in
    let time : to_z w64 (of_z w64 c.from.result) ≡ pos c.time.result = search (rules, to_z-of_z) in
    let is : value c.of-at.result ≈ whole (pos c.time.result) = rw time at c.of-at.ensures.value in
    let when : value c.of-at.result ≈ row_time (row_of tr 0) = subst (λ n. value c.of-at.result ≈ whole (pos n)) (c.time.ensures d) is in
    let same : to_z w64 (of_z w64 c.args.from) ≡ c.args.from = to_z-of_z w64 c.args.from c.ranges.from in
    let here : (t : Rational) → value_at (g.P.Shape.function c.point.result) t ≈ᵉ worth g.P.Piecewise.read_as k.rel (whole c.args.from) =
    λ t. subst (λ n. value_at (g.P.Shape.function c.point.result) t ≈ᵉ worth g.P.Piecewise.read_as k.rel (whole n)) same (c.point.ensures.worth t) in
    let time_fits : c.time.result < 4294967296 = omega arith in
    let reached = c.requires.from k c.atom-atom.ensures.at in
    let size : nat_abs c.args.from ≤ 2 ^ 31 =
    subst (λ n. nat_abs n ≤ 2 ^ 31) (sym reached.0.sum) (reach_small k (values_at tr 0) (values_at tr 0) reached.1 reached.0.small) in
    IfOk-weaker c.with_room.result (λ s. s ≡ record { time = c.of-at.result; point = c.point.result; after = c.point.result } ∷ [])
    (HasGrown g.P.Shape g.P.Piecewise.read_as b c.args.node tr 0)
    (λ s e. subst (HasGrown g.P.Shape g.P.Piecewise.read_as b c.args.node tr 0) (sym e)
    (begun g.P.Shape g.P.Piecewise.read_as b c.args.node tr k c.atom-atom.ensures.at c.args.from c.of-at.result c.point.result
    c.time.result time_fits is size c.requires.some
    (c.requires.from k c.atom-atom.ensures.at).0.sum when here c.point.ensures.base))
    c.with_room.ensures
