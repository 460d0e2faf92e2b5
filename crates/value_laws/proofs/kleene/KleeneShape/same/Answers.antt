use Rattle.std.proofs.Common.{rules, ◌≡◌}
use Rattle.std.specs.Ordering.{int_cmp, is_eq}
use Rattle.rational.proofs.LevelLemmas.{level_equal}
use Rattle.value_laws.specs.Values.{kleene_value}
use Rattle.value_laws.proofs.kleene.KleeneShape.same.Goals as goal

pub returns : goal.returns
returns c =
    let p = kleene_value c.args.p.now.known in let q = kleene_value c.args.q.now.known in
    let told : c.is_eq.result ≡ is_eq c.cmp.result = c.is_eq.ensures in
    rw told (level_equal c.cmp.result p q (let e : c.cmp.result ≡ int_cmp p q = search rules in e))
