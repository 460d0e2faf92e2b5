use Rattle.std.proofs.Common.{◌<◌, length, refl, arith}
use Rattle.time_sets.specs.Turns.{place}
use Rattle.time_sets.proofs.SetLemmas.{before_turns}
use Rattle.time_sets.proofs.making.is_behind_begin.Goals as goal

pub returns-then-len-gt0 : goal.returns-then-len-gt0
returns-then-len-gt0 c =
    let o = c.args.made.now.turns.ok.0 in
    let some : 0 < length c.args.made.now.turns.items = omega (arith, o, c.len.ensures) in
    let r = c.requires in
    ((λ e. before_turns (place c.args.on.now.from) (place c.args.at.now) c.args.made.now.turns.items some r.begins r.last), (λ b. refl))
