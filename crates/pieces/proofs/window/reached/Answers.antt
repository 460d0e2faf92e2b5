use Rattle.std.proofs.Common.{◌≡◌, ◌⊎◌, inl, inr, ap, sym, ◌∙◌, subst}
use Rattle.std.proofs.lemmas.Bool.{false≢true}
use Rattle.rational.specs.Places.{AtMost}
use Rattle.rational.proofs.PlaceLemmas.{after_at_most, at_most_of_not_before}
use Rattle.frac128.specs.Cuts.{place}
use Rattle.frac128.specs.declared.cut.Cut.{Cut}
use Rattle.pieces.proofs.Ends.{at_most_of_before}
use Rattle.pieces.proofs.WindowPlaces.{reached_in, reached_past}
use Rattle.pieces.proofs.window.reached.Goals as goal

-- one of two cuts, as places
places : (r a b : Cut) → (r ≡ a) ⊎ (r ≡ b) → (place r ≡ place a) ⊎ (place r ≡ place b)
places r a b o = elim o [ inl e ↦ inl (ap (λ u. place u) e) | inr e ↦ inr (ap (λ u. place u) e) ]

pub returns-then-not-precedes-clause-none : goal.returns-then-not-precedes-clause-none
returns-then-not-precedes-clause-none c _ t a =
    let past = place c.entering-past.result in
    let at = place c.args.at.now in
    reached_past c.args.way.now c.requires.small (place c.args.met.now) c.requires.from c.requires.to c.requires.to_within past c.entering-past.ensures t
    (after_at_most past at t (at_most_of_not_before past at (λ b. false≢true (sym c.if-not-precedes.true ∙ c.precedes.ensures.1 b))) a)

pub returns-clause-on : goal.returns-clause-on
returns-clause-on c most = elim (places c.earlier.result c.entering-past.result c.args.way.now.to c.earlier.ensures.one) [
  | inl e ↦ subst (λ r. AtMost (place c.args.at.now) r) (sym e)
      (at_most_of_before (place c.args.at.now) (place c.entering-past.result) (c.precedes.ensures.0 c.if-not-precedes.false))
  | inr e ↦ subst (λ r. AtMost (place c.args.at.now) r) (sym e) most
]

pub returns-clause-some : goal.returns-clause-some
returns-clause-some c = reached_in c.args.way.now c.requires.small (place c.args.met.now) c.requires.from c.requires.to c.requires.to_within
    (place c.entering-past.result) c.entering-past.ensures (place c.earlier.result) c.earlier.ensures.first c.earlier.ensures.second
    (places c.earlier.result c.entering-past.result c.args.way.now.to c.earlier.ensures.one)
