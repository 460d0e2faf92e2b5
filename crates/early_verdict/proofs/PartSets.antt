-- What the sets of until and since, and those between, told before an entry.
use Rattle.std.proofs.Common.{◌≡◌, inl, inr, sym, subst, true, Option, Some, None}
use Rattle.std.specs.Prelude.{MatchOption}
use Rattle.stl_syntax.specs.Trace.{Trace}
use Rattle.early_verdict.specs.Fitting.{SayOfParts, ArePartsEmpty, ArePartsTidy, AreEmpty, IsHoldingEmpty, IsFailingEmpty, FailWithin, HasFailBounds}
use Rattle.early_verdict.specs.Fitting.{KeepsBounds, KeepsFailing, KeepsHolding}
use Rattle.early_verdict.specs.Happening.{FailingCanTake, HoldingCanTake, SetsCanTake, Was}
use Rattle.early_verdict.specs.declared.entry.Entry.{Entry}
use Rattle.early_verdict.specs.declared.sets.Sets.{Sets}
use Rattle.early_verdict.specs.declared.sets.Parts.{Parts}
use Rattle.early_verdict.specs.declared.sets.Holding.{Holding}
use Rattle.early_verdict.specs.declared.sets.Failing.{Failing}
use Rattle.early_verdict.proofs.SetsTell.{tells_none, none_of}

-- where no set has a time the node's own say what those between do
empty_say : (s : Sets) (x : Parts) → AreEmpty s → ArePartsEmpty x → SayOfParts s x
empty_say s x e p = record {
  yes = tells_none e.yes (λ t h. none_of x.holding.some.spans.items t p.holding.some h.0);
  no = tells_none e.no (λ t h. elim h [
    | inl y ↦ none_of x.failing.never.spans.items t p.failing.never y
    | inr y ↦ none_of x.failing.broken.spans.items t p.failing.broken y
  ]);
}

module _ (s : Sets) (x : Parts) (is : s.parts ≡ Some x) where
  -- they can take an entry where the node's sets can
  pub parts_can : {e : Entry} → SetsCanTake e s → HoldingCanTake e x.holding × FailingCanTake e x.failing
  parts_can {e} h =
      let tidy : ArePartsTidy x = subst (λ (o : Option Parts). MatchOption o (Unit {0}) ArePartsTidy) is h.tidy.parts in
      let none : e.first ≡ true → ArePartsEmpty x = λ f. subst (λ (o : Option Parts). MatchOption o (Unit {0}) ArePartsEmpty) is (h.none f).parts in (
        record { tidy = tidy.holding; entry = h.entry; none = λ f. (none f).holding },
        record { tidy = tidy.failing; entry = h.entry; none = λ f. (none f).failing },
      )

  -- their bounds stay where those of each do
  pub parts_keep : (y : Parts) → KeepsHolding x.holding y.holding → KeepsFailing x.failing y.failing
      → MatchOption s.parts (Some y ≡ None) (λ z. KeepsBounds z y)
  parts_keep y h f =
      subst (λ (o : Option Parts). MatchOption o (Some y ≡ None) (λ z. KeepsBounds z y)) (sym is) (record { holding = h; failing = f })

  -- the sets of failures have the bounds of the left side
  pub fail_bounds_of : (left : Sets) → HasFailBounds s left → FailWithin left.no.bounds x
  fail_bounds_of left h = subst (λ o. MatchOption o (Unit {0}) (FailWithin left.no.bounds)) is h

  -- what was said before of the sets where it holds, of those where it fails, and of the node's own
  pub parts_were : (H : Trace → Holding → Type 0) (F : Trace → Failing → Type 0) (old : Option Trace)
      → Was old (λ o z. MatchOption z.parts ⊥ (λ y. H o y.holding × F o y.failing × SayOfParts z y)) s
      → MatchOption old (IsHoldingEmpty x.holding) (λ o. H o x.holding) × MatchOption old (IsFailingEmpty x.failing) (λ o. F o x.failing) × SayOfParts s x
  parts_were H F None w =
      let e = subst (λ o. MatchOption o (Unit {0}) ArePartsEmpty) is w.parts in
      (e.holding, e.failing, empty_say s x w e)
  parts_were H F (Some o) w = subst (λ o'. MatchOption o' ⊥ (λ y. H o y.holding × F o y.failing × SayOfParts s y)) is w
