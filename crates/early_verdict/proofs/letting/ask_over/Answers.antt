use Rattle.std.proofs.Common.{◌≡◌, ℕ, ℤ, pos, neg_ℤ, Bool, Option, sym, subst, ◌∙◌}
use Rattle.std.specs.Prelude.{IfSome, MatchOption, unsigned_abs, ◌≤◌, ◌^◌}
use Rattle.rational.specs.Rational.{◌≈◌}
use Rattle.rational.specs.Time.{Rational, add, whole, ◌≤ʳ◌}
use Rattle.rational.proofs.Order.{le_of_same}
use Rattle.frac128.specs.Value.{value}
use Rattle.growing_sets.proofs.WindowLemmas.{near_fits}
use Rattle.early_verdict.specs.Letting.{IsAskedFirst, IsAskedFrom, decides}
use Rattle.early_verdict.proofs.letting.ask_over.Goals as goal

pub returns-in_default : goal.returns-in_default
returns-in_default c =
    let t = value c.args.cut.now.time in
    let new = c.ask_first.new.shown in
    subst (λ (o : Option ℤ). MatchOption o
    ((a : ℕ) → c.args.w.now.high ≡ neg_ℤ (pos a) → IsAskedFirst c.args.place (decides c.args.asks) a t c.args.shown.now new)
    (λ k. (from : Rational) × (from ≤ʳ add t (whole k)) × IsAskedFrom c.args.place from c.args.shown.now new)) (sym c.in_default.is)
    (subst (λ (b : Bool). (a : ℕ) → c.args.w.now.high ≡ neg_ℤ (pos a) → IsAskedFirst c.args.place b a t c.args.shown.now new)
    c.is_decided_by.ensures (λ a e. c.ask_first.ensures a (near_fits c.args.w.now.high c.requires.window.1 ∙ e)))

pub returns : goal.returns
returns c =
    let t = value c.args.cut.now.time in
    let new = c.ask_from.new.shown in
    let u = value c.moved_cut-from.result.time in
    let near : unsigned_abs c.in-Some.low ≤ 2 ^ 32 = subst (λ (o : Option ℤ). IfSome o (λ k. unsigned_abs k ≤ 2 ^ 32)) c.in-Some.is c.requires.window.0 in
    subst (λ (o : Option ℤ). MatchOption o
    ((a : ℕ) → c.args.w.now.high ≡ neg_ℤ (pos a) → IsAskedFirst c.args.place (decides c.args.asks) a t c.args.shown.now new)
    (λ k. (from : Rational) × (from ≤ʳ add t (whole k)) × IsAskedFrom c.args.place from c.args.shown.now new)) (sym c.in-Some.is)
    (u, le_of_same (subst (λ k. u ≈ add t (whole k)) (near_fits c.in-Some.low near) c.moved_cut-from.ensures), c.ask_from.ensures)

pub moved_cut-from-requires : goal.moved_cut-from-requires
moved_cut-from-requires c =
    let near : unsigned_abs c.in-Some.low ≤ 2 ^ 32 = subst (λ (o : Option ℤ). IfSome o (λ k. unsigned_abs k ≤ 2 ^ 32)) c.in-Some.is c.requires.window.0 in
    record { near = c.requires.near; bound = subst (λ k. unsigned_abs k ≤ 2 ^ 32) (sym (near_fits c.in-Some.low near)) near }

pub ask_first-requires-clause-bound : goal.ask_first-requires-clause-bound
ask_first-requires-clause-bound c =
    subst (λ k. unsigned_abs k ≤ 2 ^ 32) (sym (near_fits c.args.w.now.high c.requires.window.1)) c.requires.window.1
