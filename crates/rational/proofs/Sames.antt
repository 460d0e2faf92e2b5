-- One value, maybe by two pairs: turned and joined, where the three values are plain from the facts.
use Rattle.rational.specs.Extended.{Extended, ◌≈ᵉ◌}
use Rattle.rational.proofs.AffineLemmas.{same_symᵉ, same_transᵉ}

-- the other way round
pub symᵉ : {v w : Extended} → v ≈ᵉ w → w ≈ᵉ v
symᵉ {v} {w} h = same_symᵉ v w h

-- from the first to the last
pub transᵉ : {u v w : Extended} → u ≈ᵉ v → v ≈ᵉ w → u ≈ᵉ w
transᵉ {u} {v} {w} h k = same_transᵉ u v w h k
