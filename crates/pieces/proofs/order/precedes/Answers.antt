use Rattle.std.proofs.Common.{◌≡◌, inl, inr, true, false}
use Rattle.rational.specs.Time.{◌≈◌}
use Rattle.rational.specs.Places.{Place, Before}
use Rattle.rational.proofs.Order.{ge_of_same, not_lt_of_le}
use Rattle.frac128.specs.Cuts.{place}
use Rattle.pieces.proofs.order.precedes.Goals as goal

-- of two places at one time the one comes first that lies before it, where the other lies after it
about : (c d : Place) → c.at ≈ d.at → Before c d → (c.after ≡ false) × (d.after ≡ true)
about c d same (inl l) = absurd (not_lt_of_le (ge_of_same same) l)
about c d same (inr h) = (h.1, h.2)

pub returns-then-is_one : goal.returns-then-is_one
returns-then-is_one c =
    let same = c.is_one.ensures c.if-is_one.true in (
      λ t. let h = c.is_about.ensures.0 t in inr (same, h.0, h.1),
      λ b. c.is_about.ensures.1 (about (place c.args.a.now) (place c.args.b.now) same b),
    )
