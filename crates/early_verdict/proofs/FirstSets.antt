-- What sets said before an entry, by whether it is the first, and what a constant's say at it.
use Rattle.std.proofs.Common.{◌≡◌, inl, inr, sym, subst, ◌∙◌, Bool, true, false, Option, Some, None, List, []}
use Rattle.std.specs.Prelude.{MatchOption, IsTrue, IsFalse}
use Rattle.rational.specs.Time.{Rational, ◌≤ʳ◌}
use Rattle.stl_syntax.specs.Trace.{Trace, stop}
use Rattle.stl_syntax.specs.Truth.{holds_at}
use Rattle.stl_syntax.specs.declared.atom.Atom.{Atom}
use Rattle.growing_sets.specs.Spans.{Lies}
use Rattle.growing_sets.specs.Steps.{Gains, Tells}
use Rattle.growing_sets.specs.Growing.{Adds}
use Rattle.early_verdict.specs.Adding.{HasRested, Rests}
use Rattle.early_verdict.specs.Fitting.{AreEmpty, ArePartsEmpty, AtomFits, ConstantFits, IsEmpty, Says}
use Rattle.early_verdict.specs.Happening.{Happens, SetCanTake, SetsCanTake, Was}
use Rattle.early_verdict.specs.Looking.{WasList, WasTold}
use Rattle.early_verdict.specs.declared.entry.Entry.{Entry}
use Rattle.growing_sets.specs.declared.stretch.Stretch.{Stretch}
use Rattle.growing_sets.specs.declared.grown.Grown.{Grown}
use Rattle.early_verdict.specs.declared.sets.Sets.{Sets}
use Rattle.early_verdict.specs.declared.sets.Parts.{Parts}
use Rattle.early_verdict.proofs.SetsTell.{none_of}

-- the first entry comes after no trace
module _ (e : Entry) (old : Option Trace) (tr : Trace) (h : Happens e old tr) (first : e.first ≡ true) where
  -- so a list had nothing before it
  pub gained_all : (was : List Stretch) {now more : List Stretch} → WasList old was → Gains was now more → Gains [] now more
  gained_all was {now} {more} none g = by_old old h.is_first none
    where
      by_old : (o : Option Trace) → MatchOption o ((e.first ≡ true) × (e.ended ≡ false)) (λ o. e.first ≡ false) → WasList o was → Gains [] now more
      by_old None f w = subst (λ l. Gains l now more) w g
      by_old (Some o) f w = absurd (let x : true ≡ false = sym first ∙ f in cc)

  -- and sets had no time
  pub had_none : (F : Trace → Sets → Type 0) (s : Sets) → Was old F s → AreEmpty s
  had_none F s w = by_old old h.is_first w
    where
      by_old : (o : Option Trace) → MatchOption o ((e.first ≡ true) × (e.ended ≡ false)) (λ o. e.first ≡ false) → Was o F s → AreEmpty s
      by_old None f w = w
      by_old (Some o) f w = absurd (let x : true ≡ false = sym first ∙ f in cc)

-- before a later one, or the end, a set told what it did
module _ (e : Entry) (old : Option Trace) (tr : Trace) (h : Happens e old tr) (x : Grown) (P : Rational → Type 0) (told : WasTold old x P) where
  -- before a later one
  pub told_later : e.first ≡ false → Says x P
  told_later later = by_old old h.is_first told
    where
      by_old : (o : Option Trace) → MatchOption o ((e.first ≡ true) × (e.ended ≡ false)) (λ o. e.first ≡ false) → WasTold o x P → Says x P
      by_old None f w = absurd (let y : true ≡ false = sym f.0 ∙ later in cc)
      by_old (Some o) f w = w

  -- before the end
  pub told_ended : e.ended ≡ true → Says x P
  told_ended ended = by_old old h.is_first told
    where
      by_old : (o : Option Trace) → MatchOption o ((e.first ≡ true) × (e.ended ≡ false)) (λ o. e.first ≡ false) → WasTold o x P → Says x P
      by_old None f w = absurd (let y : true ≡ false = sym ended ∙ f.1 in cc)
      by_old (Some o) f w = w

-- what is at rest says what it said
rested_says : {old new : Grown} (P : Rational → Type 0) → Rests old new → Says old P → Says new P
rested_says {old} {new} P r h =
    subst (λ b. Tells b new.spans.items P) (sym r.bounds) (subst (λ xs. Tells old.bounds xs P) (sym r.spans) h)

-- a constant's sets at rest go on to say what it is
pub constant_stays : (e : Entry) (old : Option Trace) (tr : Trace) (holds : Bool) (own new : Sets) → Happens e old tr → e.first ≡ false → HasRested own new
    → Was old (λ o. ConstantFits holds) own → ConstantFits holds new
constant_stays e old tr holds own new h later r w = by_old old h.is_first w
  where
    by_old : (o : Option Trace) → MatchOption o ((e.first ≡ true) × (e.ended ≡ false)) (λ o. e.first ≡ false) → Was o (λ o. ConstantFits holds) own
        → ConstantFits holds new
    by_old None f w = absurd (let y : true ≡ false = sym f.0 ∙ later in cc)
    by_old (Some o) f w = record { yes = rested_says (λ t. IsTrue holds) r.yes w.yes; no = rested_says (λ t. IsFalse holds) r.no w.no }

-- at the end of the input an atom's sets stay what they are
pub atom_ended : (a : Atom) (old : Option Trace) (tr : Trace) (own new : Sets) → old ≡ Some tr → HasRested own new → Was old (λ o. AtomFits a o) own
    → AtomFits a tr new
atom_ended a old tr own new is r was =
    let w : AtomFits a tr own = subst (λ (o : Option Trace). Was o (λ o. AtomFits a o) own) is was in
    record {
      yes = rested_says (λ t. (t ≤ʳ stop tr) × IsTrue (holds_at a tr t)) r.yes w.yes;
      no = rested_says (λ t. (t ≤ʳ stop tr) × IsFalse (holds_at a tr t)) r.no w.no;
    }

-- sets at rest that had no time have none
pub rested_empty : {own new : Sets} → HasRested own new → AreEmpty own → AreEmpty new
rested_empty r e = record {
  yes = r.yes.spans ∙ e.yes;
  no = r.no.spans ∙ e.no;
  parts = subst (λ (o : Option Parts). MatchOption o (Unit {0}) ArePartsEmpty) (sym r.parts) e.parts;
}

-- a set that had no time and got all within its bounds says what is so at all times
pub filled_says : {own new : Grown} (all : Stretch) (P : Rational → Type 0) → all ≡ own.bounds → IsEmpty own → Adds own new (Lies all)
    → ((t : Rational) → P t) → Says new P
filled_says {own} {new} all P same none a always = record {
  has = λ t l p. let b = subst (λ s. Lies s t) a.bounds l in a.grows.adds t b (subst (λ s. Lies s t) (sym same) b);
  only = λ t o. elim (a.grows.only t o) [
    | inl was ↦ absurd (none_of own.spans.items t none was)
    | inr k ↦ (subst (λ s. Lies s t) (sym a.bounds) k.0, always t)
  ];
}

-- where a node's sets can take an entry each of the two can
pub yes_can : {e : Entry} {s : Sets} → SetsCanTake e s → SetCanTake e s.yes
yes_can h = record { tidy = h.tidy.yes; entry = h.entry; none = λ f. (h.none f).yes }

pub no_can : {e : Entry} {s : Sets} → SetsCanTake e s → SetCanTake e s.no
no_can h = record { tidy = h.tidy.no; entry = h.entry; none = λ f. (h.none f).no }
