use Rattle.std.proofs.Common.{rules, ◌≡◌}
use Rattle.std.specs.Ordering.{int_cmp}
use Rattle.rational.proofs.LevelLemmas.{level_order}
use Rattle.frac128.specs.Value.{value}
use Rattle.value_laws.specs.Values.{kleene_value}
use Rattle.value_laws.proofs.kleene.KleeneShape.cmp_at.Goals as goal

pub returns : goal.returns
returns c =
    let t = value c.args._t.now in
    level_order c.cmp.result (kleene_value c.args.p.now.known) (kleene_value c.args.q.now.known) t t
    (let e : c.cmp.result ≡ int_cmp (kleene_value c.args.p.now.known) (kleene_value c.args.q.now.known) = search rules in e)
