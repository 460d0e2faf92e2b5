use Rattle.std.proofs.Common.{◌≡◌, inl, inr, refl, sym, subst, w64}
use Rattle.std.specs.declared.cmp.Ordering.{Ordering}
use Rattle.std.specs.declared.cmp.Ordering.TheVariants.{Less, Equal, Greater}
use Rattle.rational.specs.Rational.{FitsFloor, IsOrder, Rational, add, whole}
use Rattle.rational.specs.Time.{◌≈◌}
use Rattle.rational.proofs.AffineLemmas.{value_same}
use Rattle.rational.proofs.Order.{ge_of_same, le_of_same, not_lt_of_le, same_sym, same_trans}
use Rattle.rational.proofs.Sames.{transᵉ}
use Rattle.frac128.specs.Value.{value}
use Rattle.pieces.proofs.Shifts.{fits, high_from, high_to, low_from, low_to, passed, room}
use Rattle.pieces.proofs.window.at_end.Given.{Over}
use Rattle.pieces.proofs.window.at_end.Goals.{After-shift}
use Rattle.pieces.proofs.window.at_end.Goals as goal

-- an answer of a comparison that is not Equal tells two numbers apart
apart : (o : Ordering) (a b : Rational) → IsOrder o a b → ¬ (o ≡ Equal) → a ≈ b → ⊥
apart Less a b h n e = not_lt_of_le (ge_of_same e) h
apart Equal a b h n e = n refl
apart Greater a b h n e = not_lt_of_le (le_of_same e) h

-- where the low end comes to at that time
low_here : (g : Over) (c : After-shift g) → value c.shift.result ≈ add (value c.args.here.now) (whole c.args.over.now.low)
low_here g c = subst (λ z. value c.shift.result ≈ add (value c.args.here.now) (whole z))
    (passed c.args.over.now.low (low_from c.args.over.now c.requires.small) (low_to c.args.over.now c.requires.small)) c.shift.ensures.value

pub shift-requires : goal.shift-requires
shift-requires g c =
    let a = low_from c.args.over.now c.requires.small in
    let b = low_to c.args.over.now c.requires.small in
    subst (λ z. FitsFloor w64 (add (value c.args.here.now) (whole z))) (sym (passed c.args.over.now.low a b))
    (fits (value c.args.here.now) c.args.over.now.low c.requires.from c.requires.to a b)

pub at_low-requires-clause-room : goal.at_low-requires-clause-room
at_low-requires-clause-room g c = room (g.P.Shape.base c.args.shape.now) c.args.over.now.low c.requires.near
    (low_from c.args.over.now c.requires.small) (low_to c.args.over.now c.requires.small)

pub at_high-requires-clause-room : goal.at_high-requires-clause-room
at_high-requires-clause-room g c = room (g.P.Shape.base c.args.shape.now) c.args.over.now.high c.requires.near
    (high_from c.args.over.now c.requires.small) (high_to c.args.over.now c.requires.small)

pub returns-in-Equal-clause-value : goal.returns-in-Equal-clause-value
returns-in-Equal-clause-value g c = transᵉ (c.at_low.ensures.value (value c.args.here.now)) (value_same (g.P.Shape.function c.args.shape.now)
    (same_trans (same_sym (low_here g (goal.at.returns-in-Equal-clause-value g c).After-shift)) c.in-Equal.ensures))

pub returns-in-Equal-clause-base : goal.returns-in-Equal-clause-base
returns-in-Equal-clause-base g c moves =
    let at = c.at_low.ensures.base moves in
    (at.0, inl (at.1, same_trans (same_sym (low_here g (goal.at.returns-in-Equal-clause-base g c).After-shift)) c.in-Equal.ensures))

pub returns-in_default-clause-value : goal.returns-in_default-clause-value
returns-in_default-clause-value g c = elim c.requires.one [
  | inl e ↦ absurd (apart c.cmp.result (value c.shift.result) (value c.args.time.now) c.cmp.ensures c.in_default.not-Equal
      (same_trans (low_here g (goal.at.returns-in_default-clause-value g c).After-shift) e))
  | inr e ↦ transᵉ (c.at_high.ensures.value (value c.args.here.now)) (value_same (g.P.Shape.function c.args.shape.now) e)
]

pub returns-in_default-clause-base : goal.returns-in_default-clause-base
returns-in_default-clause-base g c moves = let at = c.at_high.ensures.base moves in (at.0, inr at.1)
