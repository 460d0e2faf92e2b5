use Rattle.std.proofs.Common.{◌≡◌, Some, None, subst, sym}
use Rattle.std.specs.Prelude.{slice_get}
use Rattle.online_net.specs.Nets.{Parts}
use Rattle.online_net.specs.Stretches.{StaysFrom}
use Rattle.online_net.proofs.StillSteps.{atoms_bound}
use Rattle.online_net.specs.contracts.net.Net.{the_view}
use Rattle.online_net.proofs.net.Net.stays.Goals as goal

pub all_stay-requires-clause-atoms : goal.all_stay-requires-clause-atoms
all_stay-requires-clause-atoms c i j at =
    let net : Parts = the_view c.self.inside in
    let w = c.self.invariant.0 c.if-self.false in
    atoms_bound w.0 w.1 w.2 net w.3 j (c.self.invariant.1.each i j (subst (λ l. slice_get l i ≡ Some j) c.deref.ensures.value at))

pub returns : goal.returns
returns c = λ yes j is.
    let net : Parts = the_view c.self.inside in
    let listed = c.self.invariant.1.all j (subst (λ (p : Parts). slice_get p.operators j ≡ Some None) (sym c.self.view_is) is) in
    subst (λ (p : Parts). StaysFrom p.bound j c.args.block.now c.args.at c.args.to) c.self.view_is
    (c.all_stay.ensures yes listed.0 j (subst (λ l. slice_get l listed.0 ≡ Some j) (sym c.deref.ensures.value) listed.1))
