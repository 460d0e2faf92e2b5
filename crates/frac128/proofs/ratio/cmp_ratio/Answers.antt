use Rattle.std.proofs.Common.{◌≡◌, ◌*◌, ◌∙◌, sym, rules, to_z-of_z}
use Rattle.std.specs.Int.RustNames.{unsigned_abs}
use Rattle.std.specs.Ordering.{nat_cmp, int_cmp}
use Rattle.frac128.proofs.Ratios.{Split, order_by_rests, order_by_wholes}
use Rattle.frac128.proofs.ratio.cmp_ratio.Goals as goal

pub returns-in-Equal : goal.returns-in-Equal
returns-in-Equal c =
    let h : Split c.args.n1 c.args.d1 c.split-whole.result.0 c.split-whole.result.1 = search (rules, to_z-of_z) in
    let k : Split c.args.n2 c.args.d2 c.split-other_whole.result.0 c.split-other_whole.result.1 = search (rules, to_z-of_z) in
    let e : c.cmp.result ≡ int_cmp c.split-whole.result.0 c.split-other_whole.result.0 = search (rules, to_z-of_z) in
    let o : c.cmp_rests.result ≡ nat_cmp (c.split-whole.result.1 * unsigned_abs c.args.d2) (c.split-other_whole.result.1 * unsigned_abs c.args.d1) =
    search (rules, to_z-of_z) in
    order_by_rests _ h k (sym e ∙ c.in-Equal.is) o

pub returns-in_default : goal.returns-in_default
returns-in_default c =
    let h : Split c.args.n1 c.args.d1 c.split-whole.result.0 c.split-whole.result.1 = search (rules, to_z-of_z) in
    let k : Split c.args.n2 c.args.d2 c.split-other_whole.result.0 c.split-other_whole.result.1 = search (rules, to_z-of_z) in
    let e : c.cmp.result ≡ int_cmp c.split-whole.result.0 c.split-other_whole.result.0 = search (rules, to_z-of_z) in
    order_by_wholes _ h k e c.in_default.not-Equal
