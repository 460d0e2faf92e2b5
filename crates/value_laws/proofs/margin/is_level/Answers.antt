use Rattle.frac128.specs.Value.{value}
use Rattle.frac128.specs.Line.{line}
use Rattle.std.proofs.Common.{◌≡◌, true, false, sym, ◌∙◌}
use Rattle.std.specs.Ordering.{is_eq}
use Rattle.value_laws.proofs.MarginLemmas.{level_then, level_else}
use Rattle.value_laws.proofs.margin.is_level.Goals as goal

pub returns-then-is_eq : goal.returns-then-is_eq
returns-then-is_eq c =
    let told : c.is_eq-then-is_eq.result ≡ is_eq c.cmp_const.result = c.is_eq-then-is_eq.ensures in
    let first : is_eq c.rises.result ≡ true = sym c.is_eq.ensures ∙ c.if-is_eq.true in
    rw told (level_then (line c.args.f.now) (value c.args.c.now)
    (value c.of.result) c.rises.result c.cmp_const.result c.rises.ensures c.cmp_const.ensures first)

pub returns-else-is_eq : goal.returns-else-is_eq
returns-else-is_eq c =
    let told : c.is_eq.result ≡ is_eq c.rises.result = c.is_eq.ensures in
    let first : is_eq c.rises.result ≡ false = sym told ∙ c.if-is_eq.false in
    rw told (level_else (line c.args.f.now) (value c.args.c.now) c.rises.result c.rises.ensures first)
