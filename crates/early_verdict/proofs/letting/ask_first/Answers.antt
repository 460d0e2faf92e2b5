use Rattle.std.proofs.Common.{inl, inr, refl, false, subst, ◌∙◌}
use Rattle.rational.specs.Time.{later, ◌≤ʳ◌}
use Rattle.rational.specs.Rational.{add, whole, ◌≈◌}
use Rattle.rational.proofs.Order.{le_of_same}
use Rattle.frac128.specs.Value.{value}
use Rattle.early_verdict.proofs.LettingLemmas.{first_no_at, first_yes_at}
use Rattle.growing_sets.proofs.WindowLemmas.{near_fits}
use Rattle.early_verdict.proofs.MovedBack.{le_back}
use Rattle.early_verdict.proofs.letting.ask_first.Goals as goal

pub returns-then-holds : goal.returns-then-holds
returns-then-holds c a e =
    let f = c.split_at_mut-from in
    let t = value c.args.cut.now.time in
    let u = value c.moved_cut-at.result.time in
    let lies : later u a ≤ʳ t =
    (le_back a t u).0 (le_of_same (subst (λ k. u ≈ add t (whole k)) (near_fits c.args.by c.requires.bound ∙ e) c.moved_cut-at.ensures)) in
    first_yes_at {front = f.result.0.now} {back = f.result.1.now} c.index-from-0.result _ a t c.if-holds.true
    (record { front_is = f.ensures.front; back_is = f.ensures.back; within = c.requires.within }) refl
    (elim c.show_first.ensures [ inl e ↦ inl e | inr k ↦ inr (record { at = u; after = false }, lies, refl, k) ])

pub returns : goal.returns
returns c a e =
    let f = c.split_at_mut-from in
    let t = value c.args.cut.now.time in
    let u = value c.moved_cut-at.result.time in
    let lies : later u a ≤ʳ t =
    (le_back a t u).0 (le_of_same (subst (λ k. u ≈ add t (whole k)) (near_fits c.args.by c.requires.bound ∙ e) c.moved_cut-at.ensures)) in
    first_no_at {front = f.result.0.now} {back = f.result.1.now} c.index-from-0.result _ a t c.if-holds.false
    (record { front_is = f.ensures.front; back_is = f.ensures.back; within = c.requires.within }) refl
    (elim c.show_first-2.ensures [ inl e ↦ inl e | inr k ↦ inr (record { at = u; after = false }, lies, refl, k) ])
