-- How sets tell: the same by other words, and nothing.
use Rattle.std.proofs.Common.{◌≡◌, refl, sym, subst, Option, Some, None, List, []}
use Rattle.std.specs.Prelude.{◌↔◌, MatchOption}
use Rattle.rational.specs.Time.{Rational}
use Rattle.stl_syntax.specs.Trace.{Trace}
use Rattle.growing_sets.specs.Spans.{Lies, IsOn}
use Rattle.growing_sets.specs.Steps.{Gains, Tells}
use Rattle.early_verdict.specs.Fitting.{Says, SayBoth, AreSetsTidy, IsEmpty, IsTidy, HasStepped, KeepsBounds, ArePartsTidy}
use Rattle.early_verdict.specs.Happening.{Was}
use Rattle.early_verdict.specs.Looking.{WasList}
use Rattle.growing_sets.specs.declared.stretch.Stretch.{Stretch}
use Rattle.growing_sets.specs.declared.grown.Grown.{Grown}
use Rattle.early_verdict.specs.declared.sets.Sets.{Sets}
use Rattle.early_verdict.specs.declared.sets.Parts.{Parts}

-- in other words
pub tells_alike : {bounds : Stretch} {xs : List Stretch} {P Q : Rational → Type 0} → Tells bounds xs P → ((t : Rational) → Lies bounds t → P t → Q t)
    → ((t : Rational) → Lies bounds t → Q t → P t) → Tells bounds xs Q
tells_alike h out into = record { has = λ t b q. h.has t b (into t b q); only = λ t n. let k = h.only t n in (k.0, out t k.0 k.1) }

-- in words that say the same at each time
pub tells_as : {bounds : Stretch} {xs : List Stretch} {P Q : Rational → Type 0} → ((t : Rational) → P t ↔ Q t) → Tells bounds xs P → Tells bounds xs Q
tells_as same h = tells_alike h (λ t l. (same t).0) (λ t l. (same t).1)

-- and back in the words from before
pub tells_back : {bounds : Stretch} {xs : List Stretch} {P Q : Rational → Type 0} → ((t : Rational) → P t ↔ Q t) → Tells bounds xs Q → Tells bounds xs P
tells_back same h = tells_alike h (λ t l. (same t).1) (λ t l. (same t).0)

-- two sets with the same bounds tell the same by other words
pub both_alike : {own : Stretch} (s : Sets) → s.yes.bounds ≡ own → s.no.bounds ≡ own → {P P' N N' : Rational → Type 0}
    → ((t : Rational) → Lies own t → (P t → P' t) × (N t → N' t)) → ((t : Rational) → Lies own t → (P' t → P t) × (N' t → N t))
    → SayBoth s P N → SayBoth s P' N'
both_alike s y n out into h = record {
  yes = tells_alike h.yes (λ t l. (out t (subst (λ z. Lies z t) y l)).0) (λ t l. (into t (subst (λ z. Lies z t) y l)).0);
  no = tells_alike h.no (λ t l. (out t (subst (λ z. Lies z t) n l)).1) (λ t l. (into t (subst (λ z. Lies z t) n l)).1);
}

-- an empty list tells what is at no time
pub tells_none : {bounds : Stretch} {xs : List Stretch} {P : Rational → Type 0} → xs ≡ [] → ((t : Rational) → P t → ⊥) → Tells bounds xs P
tells_none e none = record { has = λ t b p. absurd (none t p); only = λ t n. absurd (subst (λ l. IsOn l t) e n) }

-- an empty list has no time
pub none_of : (xs : List Stretch) (t : Rational) → xs ≡ [] → IsOn xs t → ⊥
none_of xs t e o = subst (λ l. IsOn l t) e o

-- nor has, before any row, a list that was
pub none_before : (old : Option Trace) (xs : List Stretch) → WasList old xs → old ≡ None → (t : Rational) → IsOn xs t → ⊥
none_before None xs e is t o = none_of xs t e o
none_before (Some p) xs e is t n = absurd (let x : Some p ≡ None = is in cc)

-- a set told P of the trace before, or had nothing
abbrev pub Told : Option Trace → Grown → (Trace → Rational → Type 0) → Type 0
Told None x P = IsEmpty x
Told (Some o) x P = Says x (P o)

-- each of two sets that said both told its part
pub told_both : (old : Option Trace) (s : Sets) (P N : Trace → Rational → Type 0) → Was old (λ o x. SayBoth x (P o) (N o)) s
    → Told old s.yes P × Told old s.no N
told_both None s P N w = (w.yes, w.no)
told_both (Some o) s P N w = (w.yes, w.no)

-- before any row the sets tell what is at no time then
pub was_said : (old : Option Trace) (s : Sets) (P N : Rational → Type 0) → (old ≡ None → (t : Rational) → P t → ⊥)
    → (old ≡ None → (t : Rational) → N t → ⊥) → Was old (λ o x. SayBoth x P N) s → SayBoth s P N
was_said None s P N p n w = record { yes = tells_none w.yes (p refl); no = tells_none w.no (n refl) }
was_said (Some o) s P N p n w = w

-- the sets between stay as they were
pub parts_kept : (old new : Option Parts) → new ≡ old → MatchOption old (new ≡ None) (λ x. MatchOption new ⊥ (KeepsBounds x))
parts_kept None new e = e
parts_kept (Some x) new e = subst (λ y. MatchOption y ⊥ (KeepsBounds x)) (sym e) (record {
  holding = record { both = refl; run = refl; some = refl; each = refl };
  failing = record { fail = refl; stop = refl; never = refl; broken = refl };
})

-- the node's own two sets took an entry, and those between stayed
pub stepped_by : (old : Sets) (x y : Grown) → AreSetsTidy old
    → IsTidy x × (x.bounds ≡ old.yes.bounds) × Gains old.yes.spans.items x.spans.items x.fresh.items
    → IsTidy y × (y.bounds ≡ old.no.bounds) × Gains old.no.spans.items y.spans.items y.fresh.items
    → HasStepped old (record { yes = x; no = y; parts = old.parts })
stepped_by old x y tidy f g = record {
  tidy = record { yes = f.0; no = g.0; parts = tidy.parts };
  yes = f.1;
  no = g.1;
  parts = parts_kept old.parts old.parts refl;
  gains_yes = f.2;
  gains_no = g.2;
}

-- parts that stay are tidy still
pub parts_tidy : (old new : Option Parts) → new ≡ old → MatchOption old (Unit {0}) ArePartsTidy → MatchOption new (Unit {0}) ArePartsTidy
parts_tidy old new e h = subst (λ y. MatchOption y (Unit {0}) ArePartsTidy) (sym e) h

-- of sets between nothing at all is so
pub unit_of : (o : Option Parts) → MatchOption o (Unit {0}) (λ x. Unit {0})
unit_of None = tt
unit_of (Some x) = tt
