use Rattle.std.proofs.Common.{◌≡◌, ◌<◌, ◌^◌, ◌∙◌, ap, pos, [], sym, subst, arith}
use Rattle.std.proofs.lemmas.Result.{IfOk-weaker}
use Rattle.rational.specs.Rational.{whole}
use Rattle.rational.specs.Places.{Same}
use Rattle.frac128.specs.Cuts.{place}
use Rattle.stl_syntax.specs.Trace.{Row, first_time, start}
use Rattle.stl_syntax.proofs.RowsLemmas.{first_time_at}
use Rattle.pieces.specs.Knots.{before}
use Rattle.atom_pieces.proofs.rows.begin.Goals as goal

pub returns : goal.returns
returns g c =
    let tr = c.args.trace.now in
    let d : Row = record { time = 0; values = [] } in
    let first : first_time tr.rows ≡ c.time.result = first_time_at tr.rows d c.requires ∙ sym (c.time.ensures d) in
    let few : c.time.result < 2 ^ 32 = omega arith in
    let here : Same (place c.before_row.result) (before (start tr)) =
    subst (λ n. Same (place c.before_row.result) (before (whole (pos n)))) (sym first) c.before_row.ensures in
    record {
      few = subst (λ n. n < 2 ^ 32) (sym first) few;
      none = IfOk-weaker c.with_room.result (λ r. r ≡ record { from = place c.before_row.result; pieces = [] }) (λ r. r.pieces ≡ [])
          (λ r e. ap (λ x. x.pieces) e) c.with_room.ensures;
      begins = IfOk-weaker c.with_room.result (λ r. r ≡ record { from = place c.before_row.result; pieces = [] }) (λ r. Same r.from (before (start tr)))
          (λ r e. subst (λ x. Same x.from (before (start tr))) (sym e) here) c.with_room.ensures;
    }
