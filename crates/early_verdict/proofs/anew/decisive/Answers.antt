use Rattle.std.proofs.Common.{◌≡◌, ◌⊎◌, inl, inr, subst, sym, false}
use Rattle.std.specs.Prelude.{IfSome, MatchOption}
use Rattle.rational.proofs.Order.{le_of_lt, le_trans}
use Rattle.rational.proofs.TimeLemmas.{later_le}
use Rattle.frac128.specs.Value.{value}
use Rattle.rational.specs.Places.{After, Before}
use Rattle.rational.proofs.PlaceLemmas.{after_at_most, upto_earlier}
use Rattle.frac128.specs.Cuts.{is_after, place}
use Rattle.growing_sets.specs.Spans.{IsOn, Lies}
use Rattle.growing_sets.specs.declared.stretch.Stretch.{Stretch}
use Rattle.early_verdict.proofs.AnewLemmas.{after_earlier, time_before}
use Rattle.early_verdict.proofs.anew.decisive.Goals as goal

pub returns : goal.returns
returns c =
    let found = c.in_ok-found.found in
    let part = c.in_ok-part.part in
    let own = c.args.own.now in
    let left = c.args.left.now in
    let d = value found.time in
    let both = c.in-Some.parts.holding.both.spans.items in
    let r = c.later-first.result in
    let facts : Lies part d × (found.side ≡ 0) × (MatchOption own.parts (Unit {0}) (λ x. IsOn x.holding.both.spans.items d) ⊎ IsOn left.no.spans.items d) =
    elim c.in_ok-found.ensures [
      | inl e ↦
          let k = subst (λ o. IfSome o (λ k. IsOn both (value k.time) × Lies part (value k.time) × (k.side ≡ 0))) e c.last_time-both.ensures in
          (k.1, k.2, inl (subst (λ o. MatchOption o (Unit {0}) (λ x. IsOn x.holding.both.spans.items d)) (sym c.in-Some.is) k.0))
      | inr e ↦
          let k = subst (λ o. IfSome o (λ k. IsOn left.no.spans.items (value k.time) × Lies part (value k.time) × (k.side ≡ 0))) e
          c.last_time-failing.ensures in
          (k.1, k.2, inr k.0)
    ] in
    let l = (c.in_ok-part.ensures.some d).0 facts.0 in
    let before : Before (place r) (record { at = d; after = false }) =
    subst (λ n. Before (place r) (record { at = d; after = is_after n })) facts.1 (c.precedes.ensures.0 c.if-not-precedes.false) in
    let m = time_before (place r) d before in
    let lies : Lies left.no.bounds d = subst (λ (b : Stretch). Lies b d) c.bounds-bounds.ensures l.2 in
    let from : After (place left.no.bounds.from) m.0 =
    subst (λ (b : Stretch). After (place b.from) m.0) c.bounds-bounds.ensures
    (after_at_most (place c.bounds-bounds.result.from) (place r) m.0 c.later-first.ensures.first m.1) in (
      le_trans (later_le c.args.low l.1) c.cut_before-at.ensures,
      record {
        after_left = lies.0;
        after_right = subst (λ (b : Stretch). After (place b.from) d) c.bounds.ensures
            (after_at_most (place c.bounds.result.from) (place r) d c.later-first.ensures.second (after_earlier (place r) d before));
        first = (m.0, (from, upto_earlier (place left.no.bounds.to) m.0 d (le_of_lt m.2) lies.1), m.2);
        decides = facts.2;
      },
    )
