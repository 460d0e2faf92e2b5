use Rattle.std.proofs.Common.{◌≡◌, ◌⊎◌, inl, inr, ap}
use Rattle.frac128.specs.Cuts.{place}
use Rattle.frac128.specs.declared.cut.Cut.{Cut}
use Rattle.pieces.proofs.WindowPlaces.{left_in}
use Rattle.pieces.proofs.window.left.Goals as goal

-- one of two cuts, as places
places : (r a b : Cut) → (r ≡ a) ⊎ (r ≡ b) → (place r ≡ place a) ⊎ (place r ≡ place b)
places r a b o = elim o [ inl e ↦ inl (ap (λ u. place u) e) | inr e ↦ inr (ap (λ u. place u) e) ]

pub returns : goal.returns
returns c = left_in c.args.way.now c.requires.small (place c.args.c.now) c.requires.from c.requires.to c.requires.to_within (place c.leaving.result)
    (place c.earlier.result) c.leaving.ensures c.earlier.ensures.first c.earlier.ensures.second
    (places c.earlier.result c.leaving.result c.args.way.now.to c.earlier.ensures.one)
