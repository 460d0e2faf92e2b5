use Rattle.std.proofs.Common.{◌≡◌, Bool, true, false, not, refl, subst}
use Rattle.rational.proofs.PlaceLemmas.{before_same, before_trans, same_places}
use Rattle.frac128.specs.Cuts.{place}
use Rattle.atom_lines.specs.Legs.{jumped}
use Rattle.online_net.specs.Stretches.{before_time, HasTurned}
use Rattle.online_net.proofs.AtomRuns.{turn_none}
use Rattle.online_net.proofs.stretch.jump.Goals as goal

goes_on : (jumps holds : Bool) → jumps ≡ false → holds ≡ jumped jumps holds
goes_on true holds e = (let x : true ≡ false = e in cc)
goes_on false holds e = refl

turns : (jumps holds : Bool) → jumps ≡ true → not holds ≡ jumped jumps holds
turns true holds e = refl
turns false holds e = (let x : false ≡ true = e in cc)

pub returns-then-not-jumps : goal.returns-then-not-jumps
returns-then-not-jumps c =
    turn_none c.args.node c.args.edges.now c.args.run.now _ (before_time c.args.second)
    (λ d h. before_trans (place c.args.run.now.from) (before_time c.args.second) d c.requires.some h)
    (goes_on c.args.jumps c.args.run.now.holds c.if-not-jumps.true)

pub turn_next-requires-clause-some : goal.turn_next-requires-clause-some
turn_next-requires-clause-some c =
    before_same (place c.args.run.now.from) (before_time c.args.second) (place c.tick_cut-cut.result) c.requires.some (same_places c.tick_cut-cut.ensures)

pub returns : goal.returns
returns c =
    subst (λ h. HasTurned c.args.edges.now c.turn_next.new.edges c.args.node c.args.run.now (before_time c.args.second) h c.turn_next.new.run)
    (turns c.args.jumps c.args.run.now.holds c.if-not-jumps.false) (c.in_ok-turn_next.ensures (before_time c.args.second) c.tick_cut-cut.ensures)
