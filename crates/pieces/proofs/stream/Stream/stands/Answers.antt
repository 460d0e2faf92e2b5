use Rattle.std.proofs.Common.{inl, inr, true, refl, neg_ℤ, sym, ◌∙◌, subst}
use Rattle.std.proofs.lemmas.Bool.{false≢true}
use Rattle.rational.specs.Places.{Same, moved_begin}
use Rattle.rational.proofs.Order.{le_refl, le_trans, not_lt_of_le}
use Rattle.rational.proofs.PlaceLemmas.{after_same, before_through, le_of_at_most, same_places}
use Rattle.frac128.specs.Value.{value}
use Rattle.frac128.specs.Cuts.{place}
use Rattle.pieces.specs.Chains.{stop}
use Rattle.pieces.specs.Windows.{IsSmall}
use Rattle.pieces.proofs.Ends.{later_after}
use Rattle.pieces.proofs.WindowEnds.{ends_past}
use Rattle.pieces.proofs.stream.Stream.stands.Given.{Over}
use Rattle.pieces.proofs.stream.Stream.stands.Goals.{After-entering}
use Rattle.pieces.proofs.stream.Stream.stands.Goals as goal

pub entering-requires : goal.entering-requires
entering-requires g c =
    let (s, known) = c.requires.follows in
    let small = known.can.small in
    record {
      from = le_trans known.can.first (le_of_at_most s.from (place c.args.self.now.met) known.begins);
      to = le_trans (le_of_at_most (place c.args.self.now.met) (stop s) known.ends) known.can.last;
      small = subst (λ o. IsSmall o) (sym c.closed.ensures)
          (record { from = small.from; to = small.to; order = small.order; aside = small.aside });
    }

-- where the window comes to what was met
at_met : (g : Over) (c : After-entering g) → Same (place c.entering.result)
    (moved_begin (neg_ℤ c.args.self.now.way.over.high) true (place c.args.self.now.met))
at_met g c = subst (λ o. Same (place c.entering.result) (moved_begin (neg_ℤ o.high) o.high_in (place c.args.self.now.met))) c.closed.ensures c.entering.ensures

pub returns-clause-is : goal.returns-clause-is
returns-clause-is g c h =
    let high = c.args.self.now.way.over.high in
    let met = place c.args.self.now.met in
    let at = place c.entering.result in
    let to = value c.args.to.now in
    elim ((ends_past high true met to).0 (after_same at (moved_begin (neg_ℤ high) true met) to
    (at_met g (goal.at.returns-clause-is g c).After-entering)
    (later_after at (record { at = to; after = true }) (c.precedes.ensures.0 h)))) [
      | inl l ↦ absurd (not_lt_of_le c.requires.not l)
      | inr (s, x, y) ↦ (s, x)
    ]

pub returns-clause-not : goal.returns-clause-not
returns-clause-not g c e same =
    let high = c.args.self.now.way.over.high in
    let met = place c.args.self.now.met in
    let at = place c.entering.result in
    let to = value c.args.to.now in
    false≢true (sym e ∙ c.precedes.ensures.1 (before_through at (record { at = to; after = true }) to (after_same (moved_begin (neg_ℤ high) true met) at to
    (same_places (at_met g (goal.at.returns-clause-not g c).After-entering)) ((ends_past high true met to).1 (inr (same.0, same.1, refl)))) (le_refl to)))
