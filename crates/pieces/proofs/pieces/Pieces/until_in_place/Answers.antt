use Rattle.std.proofs.Common.{◌≡◌, ◌+◌, ◌-◌, ◌∙◌, length, ap, arith}
use Rattle.frac128.specs.Cuts.{place}
use Rattle.pieces.specs.Chains.{stop}
use Rattle.pieces.proofs.Lasts.{stop_read}
use Rattle.pieces.proofs.pieces.Pieces.until_in_place.Goals as goal

pub returns : goal.returns
returns g c =
    let count : (c.len-count.result - 1) + 1 ≡ length c.self.inside.items.items = let some = c.if-count-eq0.false in omega arith in
    stop_read g.P.Shape (place c.self.inside.from) c.self.inside.items.items (c.len-count.result - 1) c.index.result.now count c.index.ensures
    ∙ ap (λ chain. stop chain) c.self.view_is
