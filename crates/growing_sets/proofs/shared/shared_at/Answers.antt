use Rattle.std.proofs.Common.{◌≡◌, Option, Some, None, sym, subst, ◌∙◌}
use Rattle.std.specs.Prelude.{IfNone, IfSome, slice_get}
use Rattle.std.proofs.lemmas.Option.{same_Some}
use Rattle.rational.specs.Time.{Rational}
use Rattle.growing_sets.specs.Spans.{Lies}
use Rattle.growing_sets.specs.declared.stretch.Stretch.{Stretch}
use Rattle.growing_sets.proofs.SharedLemmas.{nothing_after}
use Rattle.growing_sets.proofs.shared.shared_at.Goals as goal

map_some : (o : Option Stretch) (P Q : Stretch → Type 0) → ((s : Stretch) → P s → Q s) → IfSome o P → IfSome o Q
map_some None P Q f h = tt
map_some (Some s) P Q f h = f s h

map_none : (o : Option Stretch) (P Q : Type 0) → (P → Q) → IfNone o P → IfNone o Q
map_none None P Q f h = f h
map_none (Some s) P Q f h = tt

pub returns-in_err-next-clause-none : goal.returns-in_err-next-clause-none
returns-in_err-next-clause-none c =
    let spans = c.args.spans.now.items in
    let part = c.args.part.now in
    subst (λ r. IfNone r ((n : Stretch) → slice_get spans c.args.at ≡ Some n → (t : Rational) → Lies n t → ¬ (Lies part t))) (sym c.from_residual.ensures)
    (nothing_after spans part c.args.at c.in_err-next.ensures.none)

pub returns-clause-some : goal.returns-clause-some
returns-clause-some c =
    let next = c.in_ok-next.next in
    map_some c.make.result _ _
    (λ s is. (
      next,
      c.in_ok-next.ensures.some.0,
      λ t. (
        λ h. let x = (is t).0 h in ((x.0, x.1), x.2),
        λ h. (is t).1 (h.0.0, h.0.1, h.1),
      ),
    ))
    c.make.ensures.some

pub returns-clause-none : goal.returns-clause-none
returns-clause-none c =
    let next = c.in_ok-next.next in
    map_none c.make.result _ _
    (λ none n i t l. let k = subst (λ s. Lies s t) (same_Some n next (sym i ∙ c.in_ok-next.ensures.some.0)) l in none t k.0 k.1)
    c.make.ensures.none
