use Rattle.std.proofs.Common.{sym, subst, inl, inr}
use Rattle.std.specs.Prelude.{◌^◌}
use Rattle.rational.specs.Rational.{IsWithin}
use Rattle.frac128.specs.Value.{value}
use Rattle.rational.specs.Places.{Before}
use Rattle.rational.proofs.PlaceLemmas.{after_at_most, room_of_before}
use Rattle.frac128.specs.Cuts.{place}
use Rattle.growing_sets.specs.Spans.{IsOn}
use Rattle.frac128.specs.declared.cut.Cut.{Cut}
use Rattle.growing_sets.proofs.ShowingLemmas.{cut_kept, first_ends}
use Rattle.growing_sets.proofs.SpanLemmas.{first_within, first_read}
use Rattle.growing_sets.proofs.StretchLemmas.{rises}
use Rattle.growing_sets.proofs.showing.cut_front.Goals as goal

abbrev Near : Cut → Type 0
Near f = IsWithin (2 ^ 34) (value f.time)

pub invariant_of-rest : goal.invariant_of-rest
invariant_of-rest c =
    let first = c.in-Some.first in
    let some = first_within c.drop_before.new.spans.items first c.in-Some.ensures.some in
    record {
      not_empty = room_of_before (place c.later.result) (place first.to) (elim c.later.ensures.one [
        | inl e ↦ subst (λ f. Before (place f) (place first.to)) (sym e) (rises first)
        | inr e ↦ subst (λ f. Before (place f) (place first.to)) (sym e)
            (first_ends (place c.args.cut.now) c.drop_before.new.spans.items first some
            (first_read c.drop_before.new.spans.items first c.in-Some.ensures.some) c.drop_before.ensures.first)
      ]);
      low = elim c.later.ensures.one [
        | inl e ↦ subst (λ f. Near f) (sym e) first.low
        | inr e ↦ subst (λ f. Near f) (sym e) c.requires.near
      ];
      high = first.high;
    }

pub returns-in-Some-clause-kept : goal.returns-in-Some-clause-kept
returns-in-Some-clause-kept c =
    let first = c.in-Some.first in
    let some = first_within c.drop_before.new.spans.items first c.in-Some.ensures.some in
    λ t o. let k = cut_kept (place c.args.cut.now) c.drop_before.new.spans.items first _ some
    (first_read c.drop_before.new.spans.items first c.in-Some.ensures.some)
    c.drop_before.ensures.tidy c.drop_before.ensures.first
    (λ u l. (
      (after_at_most (place first.from) (place c.later.result) u c.later.ensures.first l.0, l.1),
      after_at_most (place c.args.cut.now) (place c.later.result) u c.later.ensures.second l.0,
    )) t (subst (λ xs. IsOn xs t) c.set.ensures o) in (c.drop_before.ensures.kept t k.0, k.1)
